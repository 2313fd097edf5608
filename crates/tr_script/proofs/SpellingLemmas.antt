-- What the words of a script spell.
use Rattle.std.proofs.Common.{◌≡◌, ◌≢◌, ℕ, zero, suc, ◌+◌, ◌^◌, ◌<◌, ◌≤◌, List, [], ◌∷◌, length, get_or, arith, ap, ◌∙◌, sym, subst, Result, Ok, Err, Some, None, IfSome, IfNone, MatchResult, Bor}
use Rattle.std.specs.Fmt.{decimal}
use Rattle.std.specs.Result.{result_ok}
use Rattle.std.specs.Str.{IsUtf8}
use Rattle.std.specs.Str.Parse.{ParsesUnsigned, AllDigits, digits_value}
use Rattle.std.proofs.lemmas.Str.{IsUtf8-from_ascii}
use Rattle.std.proofs.lemmas.Str.Parse.{IsNumeralModel, numerals_by_value, tells_digits, parse_plain, digit_at}
use Rattle.std.proofs.lemmas.Fmt.{decimal_is_IsNumeral, decimal-digits_value, decimal_digit, first_decimal, parse-decimal, IsAscii-decimal, decimal_injective}

own : IsNumeralModel (AllDigits 10) (digits_value 10)
own = numerals_by_value (AllDigits 10) tells_digits

-- how a number may begin, where it is written plainly
abbrev pub IsPlain : List ℕ → Type 0
IsPlain word = (get_or word 0 0 ≢ 43) × (get_or word 0 0 ≡ 48 → length word ≤ 1)

-- what `parse` gives of a plain word
pub number_found : {E : Type 0} (word text : List ℕ) (r : Result ℕ E) → text ≡ word → IsPlain word → ParsesUnsigned 64 10 text r
    → IfSome (result_ok r) (λ n. word ≡ decimal n)
number_found {E = E} word text (Ok n) same plain parses =
    let at_word = subst (λ (t : List ℕ). ParsesUnsigned {E = E} 64 10 t (Ok n)) same parses in
    let parts = parse_plain own {E = E} 64 word (Ok n) at_word plain.0 in
    let is = decimal-digits_value own word parts.0.0 parts.0.1 (λ e. let short = plain.1 e in let some = parts.0.1 in omega arith) (let below = parts.0.2 in omega arith) in
    sym (ap decimal parts.1 ∙ is)
number_found word text (Err e) same plain parses = tt

pub number_missed : {E : Type 0} (word text : List ℕ) (r : Result ℕ E) → text ≡ word → ParsesUnsigned 64 10 text r
    → IfNone (result_ok r) ((n : ℕ) → n < 2 ^ 64 → word ≢ decimal n)
number_missed word text (Ok m) same parses = tt
number_missed word text (Err e) same parses = λ n small is. let ok = parse-decimal 64 n text (Err e) small (omega arith) (same ∙ is) parses in cc

first_is_plain : (n : ℕ) → n < 2 ^ 64 → get_or (decimal n) 0 0 ≡ 48 → length (decimal n) ≤ 1
first_is_plain zero small is = let one = ap length (decimal_digit 0 (omega arith)) in omega arith
first_is_plain (suc n) small is = let above = first_decimal (suc n) (omega arith) (omega arith) in absurd (omega arith)

pub decimal_is_plain : (n : ℕ) → n < 2 ^ 64 → IsPlain (decimal n)
decimal_is_plain n small =
    let numeral = decimal_is_IsNumeral n (omega arith) in
    let digit = digit_at (decimal n) 0 numeral.0.1 numeral.0.0 in
    ((λ e. let low = digit.1 in let high = digit.0 in absurd (let plus = first_above n small in omega arith)), first_is_plain n small)
  where
    first_above : (n : ℕ) → n < 2 ^ 64 → 48 ≤ get_or (decimal n) 0 0
    first_above n small =
        let numeral = decimal_is_IsNumeral n (omega arith) in
        (digit_at (decimal n) 0 numeral.0.1 numeral.0.0).0

-- a text that came of `from_utf8`
pub text_is_word : {E : Type 0} (word : List ℕ) (r : Result (Bor (List ℕ)) E) (text : Bor (List ℕ)) (Q : E → Type 0)
    → MatchResult r (λ s. (s.now ≡ word) × IsUtf8 word) Q → result_ok r ≡ Some text → text.now ≡ word
text_is_word word (Ok s) text Q cases is = let same : s ≡ text = cc in subst (λ (t : Bor (List ℕ)). t.now ≡ word) same cases.0
text_is_word word (Err e) text Q cases is = cc

pub no_text_no_number : {E : Type 0} (word : List ℕ) (r : Result (Bor (List ℕ)) E) (V : E → Type 0)
    → MatchResult r (λ s. (s.now ≡ word) × IsUtf8 word) (λ e. (IsUtf8 word → ⊥) × V e) → result_ok r ≡ None
    → (n : ℕ) → n < 2 ^ 64 → word ≢ decimal n
no_text_no_number word (Ok s) V cases is n small same = cc
no_text_no_number word (Err e) V cases is n small same =
    cases.0 (subst IsUtf8 (sym same) (IsUtf8-from_ascii (decimal n) (IsAscii-decimal n (omega arith))))

-- the number behind a letter is one number
pub number_is : (letter first m n : ℕ) (word digits : List ℕ) → word ≡ first ∷ digits → digits ≡ decimal m → m < 2 ^ 64 → n + 1 < 2 ^ 64
    → word ≡ letter ∷ decimal (n + 1) → m ≡ n + 1
number_is letter first m n word digits is number small_m small_n same =
    let digits_are : digits ≡ decimal (n + 1) = cc in
    decimal_injective m (n + 1) (omega arith) (omega arith) (sym number ∙ digits_are)

pub decimal_zero : decimal 0 ≡ 48 ∷ []
decimal_zero = decimal_digit 0 (omega arith)
