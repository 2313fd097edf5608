-- Chains of entries.
use Rattle.std.proofs.Common.{◌≡◌, ℕ, List, [], ◌∷◌, ◌++◌, sym, refl, subst}
use Rattle.std.proofs.lemmas.List.{append_assoc}
use Rattle.zo_layout.specs.Layout.{next_entry}
use Rattle.zo_model.specs.Directory.{Leads}
use Rattle.zo_hash_dir.specs.Looking.{link_behind}

-- the word behind the first entries leads to the others
pub leads_behind : (at : ℕ → ℕ) (link : ℕ) (passed left : List ℕ) → Leads at (at link) (passed ++ left) → Leads at (at (link_behind link passed)) left
leads_behind at link [] left h = h
leads_behind at link (entry ∷ passed) left h = leads_behind at (next_entry entry) passed left h.2

pub link_behind_push : (link : ℕ) (passed : List ℕ) (entry : ℕ) → link_behind link (passed ++ entry ∷ []) ≡ next_entry entry
link_behind_push link [] entry = refl
link_behind_push link (other ∷ passed) entry = link_behind_push (next_entry other) passed entry

-- one entry more is passed
pub leads_push : (at : ℕ → ℕ) (word : ℕ) (passed : List ℕ) (entry : ℕ) (left : List ℕ) → Leads at word (passed ++ entry ∷ left) → Leads at word ((passed ++ entry ∷ []) ++ left)
leads_push at word passed entry left h = subst (Leads at word) (sym (append_assoc passed (entry ∷ []) left)) h

pub leads_none : (at : ℕ → ℕ) (word : ℕ) (passed : List ℕ) → Leads at word (passed ++ []) → Leads at word passed
leads_none at word [] h = h
leads_none at word (entry ∷ passed) h = (h.0, h.1, leads_none at (at (next_entry entry)) passed h.2)
