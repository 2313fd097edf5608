use Rattle.std.proofs.Common.{◌<◌, ◌≡◌, ◌∙◌, ℕ, List, IfOk, subst}
use Rattle.std.specs.List.Sorted.{IsPermutation}
use Rattle.std.proofs.lemmas.List.Elements.{All-same}
use Rattle.std.proofs.lemmas.List.Sorted.{All-permutation}
use Rattle.kern_model.specs.KernelView.{pages_of}
use Rattle.kern_owner.specs.Owners.{owner_pairs}
use Rattle.kern_owner.proofs.AmongLemmas.{sorted_is}
use Rattle.kern_owner.proofs.changes.take_back.Goals as goal

pub owner_pairs-requires : goal.owner_pairs-requires
owner_pairs-requires c = record {
  inside = All-same (λ (page : ℕ). page < pages_of c.args.words.now) _ _ c.deref.ensures.value
      (All-permutation (λ (page : ℕ). page < pages_of c.args.words.now) _ _ c.in_ok-sort.ensures.permutation
      (All-same (λ (page : ℕ). page < pages_of c.args.words.now) _ _ c.in_ok-list.ensures.items c.requires.inside));
}

pub returns : goal.returns
returns c =
    let moved = subst (λ (xs : List ℕ). IsPermutation xs c.sort.new.self.items) c.in_ok-list.ensures.items c.in_ok-sort.ensures.permutation in
    let is = c.deref.ensures.value ∙ sorted_is (pages_of c.args.words.now) c.args.pages.now c.sort.new.self.items c.requires.inside c.requires.differ moved c.in_ok-sort.ensures.sorted in
    subst (λ (xs : List ℕ). IfOk c.owner_pairs.result (λ pairs. pairs ≡ owner_pairs (pages_of c.args.words.now) 0 xs)) is c.owner_pairs.ensures
