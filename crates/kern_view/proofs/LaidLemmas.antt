use Rattle.std.proofs.Common.{◌≡◌, ℕ, List, [], ◌∷◌, ◌++◌, reverse, Bool, true, false, cond, if◌then◌else◌, ◌==◌, refl, ap, sym, ◌∙◌, nat_eq, unwrap_or, Some, ◌⊎◌, inl, inr}
use Rattle.std.proofs.lemmas.Bool.{eq-eqb, ne_eqb, cases_eq}
use Rattle.std.proofs.lemmas.List.{reverse-append}
use Rattle.std.proofs.lemmas.List.Sums.{fold-append}
use Rattle.std.specs.Map.{lookup}
use Rattle.kern_model.specs.Journal.{laid_over}

same_either_way : (a b : ℕ) → nat_eq a b ≡ nat_eq b a
same_either_way a b = by (cases_eq a b)
  where
    by : (a ≡ b) ⊎ (a ≡ b → ⊥) → nat_eq a b ≡ nat_eq b a
    by (inl e) = eq-eqb a b e ∙ sym (eq-eqb b a (sym e))
    by (inr ne) = ne_eqb a b ne ∙ sym (ne_eqb b a (λ e. ne (sym e)))

-- one pair more at the end
pub laid_more : (ps : List (ℕ × ℕ)) (p : ℕ × ℕ) (addr default : ℕ)
    → laid_over (ps ++ p ∷ []) addr default ≡ if p.0 == addr then p.1 else laid_over ps addr default
laid_more ps p addr default = fold-append (λ (value : ℕ) (p : ℕ × ℕ). if p.0 == addr then p.1 else value) default ps (p ∷ [])

-- what a look-up in a map finds, the map's entries read from the last to the first
pub laid_in_reverse : (es : List (ℕ × ℕ)) (addr default : ℕ)
    → laid_over (reverse es) addr default ≡ unwrap_or (lookup (nat_eq addr) es) default
laid_in_reverse [] addr default = refl
laid_in_reverse (e ∷ es) addr default =
    ap (λ (ps : List (ℕ × ℕ)). laid_over ps addr default) (reverse-append (e ∷ []) es)
    ∙ laid_more (reverse es) e addr default
    ∙ ap (λ (same : Bool). if same then e.1 else laid_over (reverse es) addr default) (same_either_way e.0 addr)
    ∙ by (nat_eq addr e.0) (laid_in_reverse es addr default)
  where
    by : (same : Bool) → laid_over (reverse es) addr default ≡ unwrap_or (lookup (nat_eq addr) es) default
        → (if same then e.1 else laid_over (reverse es) addr default) ≡ unwrap_or (cond same (Some e.1) (lookup (nat_eq addr) es)) default
    by true rest = refl
    by false rest = rest
