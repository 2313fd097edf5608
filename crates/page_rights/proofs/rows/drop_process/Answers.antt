use Rattle.std.proofs.Common.{not}
use Rattle.std.proofs.lemmas.Fn.{filter_same}
use Rattle.tr_types.specs.declared.kernel_call.Holder.{Holder}
use Rattle.std.proofs.Common.{rules}
use Rattle.page_rights.specs.Lookup.{is_in}
use Rattle.page_rights.proofs.rows.drop_process.Goals as goal

pub returns : goal.returns
returns c = filter_same _ (λ (h : Holder). not (is_in c.args.processes.now h.thread c.args.process)) _ (λ x b g call. search rules) c.args.holders.now.items c.retain.new.self.items c.retain.ensures.filtered
