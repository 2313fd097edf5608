use Rattle.std.proofs.Common.{◌≤◌, ℕ, List, length, nat_eq, slice_index, ap, arith}
use Rattle.kern_owner.proofs.RangeLemmas.{below_length}
use Rattle.kern_pages.specs.Owners.{pages_with}
use Rattle.kern_pages.proofs.owners.Owners.count.Goals as goal

pub overflow_cast-result : goal.overflow_cast-result
overflow_cast-result c =
    let few : length (pages_with c.args.owner c.self.inside.owners.items) ≤ length c.self.inside.owners.items = below_length (λ page. nat_eq (slice_index c.self.inside.owners.items page) c.args.owner) (length c.self.inside.owners.items) in
    let same = ap (λ (xs : List ℕ). length xs) (c.self.invariant.1.each c.args.owner c.requires) in
    let size = c.self.invariant.0 in
    let is = c.count.ensures in
    omega arith
