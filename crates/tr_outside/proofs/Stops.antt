-- A call that hands on bytes piece by piece, and is stopped by a fault.
use Rattle.std.proofs.Common.{◌≡◌, ◌≤◌, ℕ, List, [], ◌++◌, sym, ap, ◌∙◌, append_assoc, arith, Some, None, Ok, Err, refl}
use Rattle.std.proofs.lemmas.List.{append-nil}
use Rattle.std.specs.declared.option.Option.{Option}
use Rattle.std.specs.declared.result.Result.{Result}
use Rattle.std.specs.Result.{IsErr}
use Rattle.std.specs.Io.KnownBytes.{Appends, Keeps}
use Rattle.tr_outside.specs.Causes.{Rose}
use Rattle.tr_outside.specs.Whole.{AppendsFront, WritesAll}
use Rattle.tr_outside.proofs.Known.{appends_more}

-- none of a piece is a front of it
pub kept_front : (a b : Option (List ℕ)) (piece : List ℕ) → Keeps a b → AppendsFront a b piece
kept_front a b piece k = ([], piece, refl, appends a b k)
  where
    appends : (x y : Option (List ℕ)) → Keeps x y → Appends x y []
    appends None y k = tt
    appends (Some s) None k = absurd k
    appends (Some s) (Some t) k = k ∙ sym (append-nil s)

-- the first bytes were taken, and then a front of the piece that follows them
pub stops : {T E : Type 0} (a b c : Option (List ℕ)) (before between now : ℕ) (bytes done piece rest : List ℕ) (result : Result T E)
    → bytes ≡ done ++ (piece ++ rest) → Appends a b done → AppendsFront b c piece
    → before ≤ between → between ≤ now → Rose between now → IsErr result → WritesAll a c before now bytes result
stops a b c before between now bytes done piece rest (Ok x) whole taken part first then rose err = cc
stops a b c before between now bytes done piece rest (Err e) whole taken (front, left, split, more) first then rose err = record {
  taken = (
    done ++ front,
    left ++ rest,
    whole ∙ ap (λ (l : List ℕ). done ++ (l ++ rest)) split ∙ ap (λ (l : List ℕ). done ++ l) (append_assoc front left rest) ∙ sym (append_assoc done front (left ++ rest)),
    appends_more a b c done front taken more,
  );
  cause = record { later = omega arith; failed = omega arith };
}
