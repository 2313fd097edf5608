-- How a list of stores grows, one by one.
use Rattle.std.proofs.Common.{◌≡◌, ℕ, ◌+◌, List, [], ◌∷◌, ◌++◌, map, sym, ap, ◌∙◌}
use Rattle.std.proofs.lemmas.List.{append_assoc}
use Rattle.std.proofs.lemmas.List.FromFn.{map-range_with_len_more}
use Rattle.std.specs.List.{range_with_len}
use Rattle.zo_plan.specs.declared.plan.Put.{Put}

-- one more store behind what was appended
pub one_more : (f : ℕ → Put) (start now after : List Put) (first count more place : ℕ) → more ≡ count + 1 → first + count ≡ place → now ≡ start ++ map f (range_with_len first count) → after ≡ now ++ f place ∷ [] → after ≡ start ++ map f (range_with_len first more)
one_more f start now after first count more place next at before pushed =
    pushed
    ∙ ap (λ (puts : List Put). puts ++ f place ∷ []) before
    ∙ append_assoc start (map f (range_with_len first count)) (f place ∷ [])
    ∙ ap (λ (puts : List Put). start ++ puts) (sym (map-range_with_len_more f first count place at))
    ∙ ap (λ (n : ℕ). start ++ map f (range_with_len first n)) (sym next)
