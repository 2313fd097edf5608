use Rattle.std.proofs.Common.{eqb, not}
use Rattle.std.proofs.lemmas.Fn.{filter_same}
use Rattle.tr_types.specs.declared.kernel_call.Holder.{Holder}
use Rattle.std.proofs.Common.{rules}
use Rattle.page_rights.proofs.rows.drop_coffer.Goals as goal

pub returns : goal.returns
returns c = filter_same _ (λ (h : Holder). not (eqb h.id c.args.id)) _ (λ x b g call. search rules) c.args.holders.now.items c.retain.new.self.items c.retain.ensures.filtered
