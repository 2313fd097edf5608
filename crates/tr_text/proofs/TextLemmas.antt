-- What a text keeps while more is appended.
use Rattle.std.proofs.Common.{◌≡◌, ◌≤◌, ◌<◌, ℕ, zero, suc, List, [], ◌∷◌, ◌++◌, ◌+◌, ◌-◌, length, take, drop, set, ap, sym, subst, ◌∙◌, arith}
use Rattle.std.proofs.lemmas.List.{append-nil, take-append-le, take-take, take_all, length-append}

-- a text that begins with two others begins with the first
kept_of_both : (start more after : List ℕ) → take (length (start ++ more)) after ≡ start ++ more → take (length start) after ≡ start
kept_of_both start more after kept =
    let shorter : length start ≤ length (start ++ more) = let sum = length-append start more in omega arith in
    sym (take-take (length start) (length (start ++ more)) after shorter)
    ∙ ap (take (length start)) kept
    ∙ take-append-le (length start) start more (omega arith)
    ∙ take_all (length start) start (omega arith)

-- what begins with a longer text begins with the shorter one
pub kept_on : (start more longer after : List ℕ) → longer ≡ start ++ more → take (length longer) after ≡ longer → take (length start) after ≡ start
kept_on start more longer after both kept =
    kept_of_both start more after (subst (λ (t : List ℕ). take (length t) after ≡ t) both kept)

-- a list with another element at a place, from there on
pub from_place : (bytes : List ℕ) (place byte : ℕ) (rest : List ℕ) → place < length bytes → drop (suc place) bytes ≡ rest → drop place (set bytes place byte) ≡ byte ∷ rest
from_place [] place byte rest inside behind = absurd (omega arith)
from_place (b ∷ bytes) zero byte rest inside behind = ap (λ (l : List ℕ). byte ∷ l) behind
from_place (b ∷ bytes) (suc place) byte rest inside behind = from_place bytes place byte rest (omega arith) behind

-- a byte put before digits that end an array of 21
pub with_byte : (bytes : List ℕ) (start byte : ℕ) (digits : List ℕ) → length bytes ≡ 21 → 1 ≤ start → start + length digits ≡ 21 → drop start bytes ≡ digits ++ []
    → take (21 - (start - 1)) (drop (start - 1) (set bytes (start - 1) byte)) ≡ byte ∷ digits
with_byte bytes start byte digits size some end written =
    let after : suc (start - 1) ≡ start = omega arith in
    let behind = subst (λ (n : ℕ). drop n bytes ≡ digits) (sym after) (written ∙ append-nil digits) in
    ap (take (21 - (start - 1))) (from_place bytes (start - 1) byte digits (omega arith) behind) ∙ take_all (21 - (start - 1)) (byte ∷ digits) (let end_is = end in omega arith)
