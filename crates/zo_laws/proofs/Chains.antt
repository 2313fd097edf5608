-- Chains of entries.
use Rattle.std.proofs.Common.{◌≡◌, ℕ, List, [], ◌∷◌, Contains, ap, sym, refl, subst, ◌∙◌}
use Rattle.zo_layout.specs.Layout.{next_entry}
use Rattle.zo_model.specs.Directory.{Leads}
use Rattle.zo_laws.proofs.Members.{contains_here, contains_there}

-- a word leads to one list of entries
pub one_chain : (at : ℕ → ℕ) (word : ℕ) (entries others : List ℕ) → Leads at word entries → Leads at word others → entries ≡ others
one_chain at word [] [] a b = refl
one_chain at word [] (f ∷ others) a b = absurd (b.1 (sym b.0 ∙ a))
one_chain at word (e ∷ entries) [] a b = absurd (a.1 (sym a.0 ∙ b))
one_chain at word (e ∷ entries) (f ∷ others) a b =
    let same : e ≡ f = sym a.0 ∙ b.0 in
    let behind : Leads at (at (next_entry e)) others = subst (λ (x : ℕ). Leads at (at (next_entry x)) others) (sym same) b.2 in
    ap (λ (x : ℕ). x ∷ entries) same ∙ ap (λ (xs : List ℕ). f ∷ xs) (one_chain at (at (next_entry e)) entries others a.2 behind)

-- a chain stays where the first words of its entries do
pub leads_stay : (before after : ℕ → ℕ) (word : ℕ) (entries : List ℕ) → Leads before word entries
    → ((entry : ℕ) → Contains entries entry → after (next_entry entry) ≡ before (next_entry entry)) → Leads after word entries
leads_stay before after word [] h same = h
leads_stay before after word (e ∷ entries) h same = (
  h.0,
  h.1,
  subst (λ (w : ℕ). Leads after w entries) (sym (same e (contains_here e entries)))
      (leads_stay before after (before (next_entry e)) entries h.2 (λ entry c. same entry (contains_there e entries entry c))),
)
