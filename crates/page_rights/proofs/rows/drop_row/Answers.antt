use Rattle.std.proofs.Common.{not}
use Rattle.std.proofs.lemmas.Fn.{filter_same}
use Rattle.tr_types.specs.declared.kernel_call.Holder.{Holder}
use Rattle.std.proofs.Common.{rules}
use Rattle.kern_model.specs.Rights.{is_row_of}
use Rattle.page_rights.proofs.rows.drop_row.Goals as goal

pub returns-clause-items : goal.returns-clause-items
returns-clause-items c = filter_same _ (λ (h : Holder). not (is_row_of c.args.thread c.args.id h)) _ (λ x b g call. search rules) c.args.holders.now.items c.retain.new.self.items c.retain.ensures.filtered
