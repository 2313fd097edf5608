-- What pages that are drawn leave of a coffer.
use Rattle.std.proofs.Common.{◌≡◌, ◌⊎◌, inl, inr, ℕ, ◌/◌, List, [], ◌∷◌, ◌++◌, Contains, refl, sym, subst, ◌∙◌}
use Rattle.zo_model.specs.CofferWords.{Denotes, Rests}
use Rattle.zo_model.specs.Steps.{Scene, HasDrawn}
use Rattle.zo_model.specs.Tree.{Member}
use Rattle.zo_laws.specs.Growing.{Grows}
use Rattle.zo_laws.specs.Making.{with_pages}
use Rattle.zo_laws.proofs.GrowLemmas.{grow_denotes, grow_rests}
use Rattle.zo_ops.proofs.Members.{contains_here, contains_there, contains_cases}

contains_split : (xs ys : List ℕ) (y : ℕ) → Contains (xs ++ ys) y → Contains xs y ⊎ Contains ys y
contains_split [] ys y c = inr c
contains_split (x ∷ xs) ys y c = by (contains_cases x (xs ++ ys) y c) (contains_split xs ys y)
  where
    by : (x ≡ y) ⊎ Contains (xs ++ ys) y → (Contains (xs ++ ys) y → Contains xs y ⊎ Contains ys y) → Contains (x ∷ xs) y ⊎ Contains ys y
    by (inl same) later = inl (subst (Contains (x ∷ xs)) same (contains_here x xs))
    by (inr rest) later = elim (later rest) [ inl c ↦ inl (contains_there x xs y c) | inr c ↦ inr c ]

module _ (pages : List ℕ) (base s : Scene) (d : HasDrawn pages base s) (control : Contains base.coffer.pages base.coffer.control) where
  own_stay : (addr page : ℕ) → addr / 4096 ≡ page → Contains base.coffer.pages page ⊎ (page ≡ base.coffer.control) → s.at addr ≡ base.at addr
  own_stay addr page is (inl among) = d.same addr (subst (Contains base.coffer.pages) (sym is) among)
  own_stay addr page is (inr same) = d.same addr (subst (Contains base.coffer.pages) (sym (is ∙ same)) control)

  pub drawn_denotes : (tree : List Member) → Denotes base.at base.coffer tree → Denotes s.at s.coffer tree
  drawn_denotes tree r = grow_denotes base.at s.at base.coffer s.coffer tree (record { kept = d.kept; control = d.control; root = d.root; path = d.path; below = d.below; same = own_stay }) r

  -- the drawn pages left aside, the coffer is at rest as before
  pub drawn_rests : (tree : List Member) → Rests base.at base.coffer tree → Rests s.at base.coffer tree
  drawn_rests tree r = grow_rests base.at s.at base.coffer base.coffer tree (record { kept = λ page c. c; control = refl; root = refl; path = refl; below = refl; same = own_stay }) r

  -- the coffer with the drawn pages is the coffer as it stands
  covers : (at : ℕ → ℕ) → Grows at at (with_pages base.coffer pages) s.coffer
  covers at = record {
    kept = λ page c. elim (contains_split base.coffer.pages pages page c) [ inl own ↦ d.kept page own | inr drawn ↦ d.given page drawn ];
    control = d.control;
    root = d.root;
    path = d.path;
    below = d.below;
    same = λ addr page is among. refl;
  }

  pub covers_denotes : (at : ℕ → ℕ) (tree : List Member) → Denotes at (with_pages base.coffer pages) tree → Denotes at s.coffer tree
  covers_denotes at tree r = grow_denotes at at (with_pages base.coffer pages) s.coffer tree (covers at) r

  pub covers_rests : (at : ℕ → ℕ) (tree : List Member) → Rests at (with_pages base.coffer pages) tree → Rests at s.coffer tree
  covers_rests at tree r = grow_rests at at (with_pages base.coffer pages) s.coffer tree (covers at) r
