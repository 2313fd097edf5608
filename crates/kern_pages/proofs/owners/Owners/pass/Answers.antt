use Rattle.std.proofs.Common.{◌≡◌, ◌≤◌, ◌∙◌, ℕ, List, length, slice_index, sym, ap, arith}
use Rattle.std.proofs.lemmas.List.{length-set}
use Rattle.kern_pages.proofs.SetsLemmas.{passed}
use Rattle.kern_pages.proofs.owners.Owners.pass.Goals as goal

pub invariant_of-self-2 : goal.invariant_of-self-2
invariant_of-self-2 c =
    let same : length c.self.inside.owners.items ≡ length c.args.self.now = ap (λ (xs : List ℕ). length xs) c.self.view_is in
    let inside = c.requires.inside in
    let outer = c.requires.outer in
    let from = c.owner-from.ensures in
    let was : c.owner-from.result ≡ slice_index c.self.inside.owners.items c.args.page = from ∙ ap (λ (xs : List ℕ). slice_index xs c.args.page) (sym c.self.view_is) in
    let from_le : c.owner-from.result ≤ 256 = omega arith in
    let size = length-set c.self.inside.owners.items c.args.page c.args.owner in
    let most = c.self.invariant.0 in (
      omega arith,
      passed c.self.inside.owners.items c.args.page c.owner-from.result c.args.owner (omega arith) was c.if-from-owner.false c.self.inside.sets c.insert.new.self c.remove.new.self c.self.invariant.1 from_le c.requires.owner c.in_ok-insert.ensures.ok c.remove.ensures.removed,
    )
