use Rattle.std.proofs.Common.{ℕ, List}
use Rattle.std.specs.Ordering.{nat_cmp}
use Rattle.std.specs.BTreeMap.{is_at}
use Rattle.std.specs.Set.{remove_key}
use Rattle.kern_pages.proofs.KeysLemmas.{keys_written}
use Rattle.kern_pages.proofs.sets.PageSets.remove.Goals as goal

pub returns-clause-removed : goal.returns-clause-removed
returns-clause-removed c =
    keys_written (λ (ks : List ℕ). remove_key (is_at (nat_cmp c.args.page)) ks) c.self.inside.sets.items c.args.self.now c.args.owner c.from.result c.index_mut.result.now c.remove.new.self c.self.view_is c.from.ensures c.requires c.index_mut.ensures.value c.remove.ensures.keys
