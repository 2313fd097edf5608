-- Laws of a fold with one more entry at its end.
use Rattle.std.proofs.Common.{◌≡◌, List, [], ◌∷◌, ◌++◌, refl}
use Rattle.tr_types.specs.Fold.{state_after, Each}

pub state_after_more : {S E : Type 0} (next : S → E → S) (s : S) (es : List E) (e : E) → state_after next s (es ++ e ∷ []) ≡ next (state_after next s es) e
state_after_more next s [] e = refl
state_after_more next s (x ∷ es) e = state_after_more next (next s x) es e

pub Each_more : {S E : Type 0} (next : S → E → S) (May : S → E → Type 0) (s : S) (es : List E) (e : E) → Each next May s es → May (state_after next s es) e → Each next May s (es ++ e ∷ [])
Each_more next May s [] e each may = (may, tt)
Each_more next May s (x ∷ es) e each may = (each.0, Each_more next May (next s x) es e each.1 may)
