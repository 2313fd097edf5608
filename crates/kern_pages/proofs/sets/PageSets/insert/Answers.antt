use Rattle.std.proofs.Common.{ℕ, List}
use Rattle.std.specs.Ordering.{nat_cmp}
use Rattle.std.specs.BTreeSet.{insert_key}
use Rattle.kern_pages.proofs.KeysLemmas.{keys_written, keys_kept, on_err}
use Rattle.kern_pages.proofs.sets.PageSets.insert.Goals as goal

pub returns-in_err-insert-clause-err : goal.returns-in_err-insert-clause-err
returns-in_err-insert-clause-err c =
    on_err c.from_residual.result (keys_kept c.self.inside.sets.items c.args.self.now c.args.owner c.from.result c.index_mut.result.now c.insert.new.self c.self.view_is c.from.ensures c.requires c.index_mut.ensures.value c.in_err-insert.ensures.err)

pub returns-clause-ok : goal.returns-clause-ok
returns-clause-ok c =
    keys_written (λ (ks : List ℕ). insert_key nat_cmp ks c.args.page) c.self.inside.sets.items c.args.self.now c.args.owner c.from.result c.index_mut.result.now c.insert.new.self c.self.view_is c.from.ensures c.requires c.index_mut.ensures.value c.in_ok-insert.ensures.keys
