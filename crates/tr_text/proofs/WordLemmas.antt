-- Which bytes stand in the words of a text, and that numbers and the like are read back.
use Rattle.std.proofs.Common.{◌≡◌, ◌⊎◌, inl, inr, ℕ, ◌+◌, ◌-◌, ◌*◌, ◌/◌, ◌%◌, ◌<◌, ◌≤◌, List, [], ◌∷◌, ◌++◌, length, map, flat_map, Bool, true, false, not, ◌&&◌, eqb, ltb, leb, refl, ap, sym, subst, ◌∙◌, arith}
use Rattle.std.proofs.lemmas.Bool.{and_parts, and_from, and_right, lt-ltb, le-ltb, le-leb, leb-true, ltb-true, ne_eqb, not_from_false, cond-true, cond-false, cases_lt}
use Rattle.std.proofs.lemmas.Fmt.{decimal_by_steps, decimal_is_IsNumeral, decimal_nonempty}
use Rattle.std.proofs.lemmas.List.{length-append}
use Rattle.std.proofs.lemmas.List.Folds.{list_all-append}
use Rattle.std.specs.Fmt.{decimal}
use Rattle.std.specs.List.{list_all, AllByRecursion}
use Rattle.std.specs.Prelude.{codes}
use Rattle.tr_types.specs.Paths.{same_text}
use Rattle.tr_types.specs.declared.permission.Right.{Right}
use Rattle.tr_text.specs.Spelling.{mode_text, bit_text, share_text, right_text, list_text, hex_digit, hex_byte, data_text}
use Rattle.tr_text.specs.Written.{IsNumber, IsMode, IsByte, IsOneRight, AreNumbers}
use Rattle.tr_text.proofs.Reading.{parts_at, byte_at, read_number, read_name, read_mode, read_bit, read_share, read_right, read_list, hex_value, read_pairs, read_data, is_equals, is_name}
use Rattle.tr_text.proofs.SplitLemmas.{lacks, joined_parts}

-- Bytes.

abbrev pub is_digit : ℕ → Bool
is_digit byte = leb 48 byte && ltb byte 58

-- a printed byte other than the blank
abbrev pub is_plain : ℕ → Bool
is_plain byte = ltb 32 byte

abbrev pub IsPlain : List ℕ → Type 0
IsPlain word = list_all is_plain word ≡ true

-- a plain byte below that of `=`
abbrev pub is_low : ℕ → Bool
is_low byte = ltb 32 byte && ltb byte 58

abbrev pub weaker : (p q : ℕ → Bool) → ((byte : ℕ) → p byte ≡ true → q byte ≡ true) → (word : List ℕ) → list_all p word ≡ true → list_all q word ≡ true
weaker p q why [] all = refl
weaker p q why (byte ∷ word) all =
    let parts = and_parts (p byte) (list_all p word) all in
    and_from (q byte) (list_all q word) (why byte parts.0) (weaker p q why word parts.1)

digit_is : (byte : ℕ) → 48 ≤ byte → byte < 58 → is_digit byte ≡ true
digit_is byte low high = and_from (leb 48 byte) (ltb byte 58) (le-leb 48 byte low) (lt-ltb byte 58 high)

low_is : (byte : ℕ) → 32 < byte → byte < 58 → is_low byte ≡ true
low_is byte low high = and_from (ltb 32 byte) (ltb byte 58) (lt-ltb 32 byte low) (lt-ltb byte 58 high)

low_digit : (byte : ℕ) → is_digit byte ≡ true → is_low byte ≡ true
low_digit byte digit =
    let parts = and_parts (leb 48 byte) (ltb byte 58) digit in
    let above = leb-true 48 byte parts.0 in
    low_is byte (omega arith) (ltb-true byte 58 parts.1)

plain_low : (byte : ℕ) → is_low byte ≡ true → is_plain byte ≡ true
plain_low byte low = (and_parts (ltb 32 byte) (ltb byte 58) low).0

not_separator : (separator byte : ℕ) → separator < 33 → is_plain byte ≡ true → not (eqb byte separator) ≡ true
not_separator separator byte small plain =
    let above = ltb-true 32 byte plain in
    not_from_false (eqb byte separator) (ne_eqb byte separator (λ same. omega arith))

pub plain_lacks : (separator : ℕ) → separator < 33 → (word : List ℕ) → IsPlain word → lacks separator word ≡ true
plain_lacks separator small = weaker is_plain (λ byte. not (eqb byte separator)) (λ byte plain. not_separator separator byte small plain)

pub low_is_plain : (word : List ℕ) → list_all is_low word ≡ true → IsPlain word
low_is_plain = weaker is_low is_plain plain_low

-- no such word is `=`
pub low_no_equals : (word : List ℕ) → list_all is_low word ≡ true → is_equals word ≡ false
low_no_equals [] low = refl
low_no_equals (byte ∷ []) low =
    let below = ltb-true byte 58 (and_parts (ltb 32 byte) (ltb byte 58) (and_parts (is_low byte) true low).0).1 in
    ap (λ (b : Bool). b && true) (ne_eqb byte 61 (λ same. omega arith))
low_no_equals (byte ∷ next ∷ word) low = and_right (eqb byte 61) false refl

-- Numbers.

pub digits_only : (n : ℕ) → IsNumber n → list_all is_digit (decimal n) ≡ true
digits_only = decimal_by_steps (λ n digits. list_all is_digit digits ≡ true) one more
  where
    one : (n : ℕ) → n < 10 → list_all is_digit ((48 + n) ∷ []) ≡ true
    one n small = and_from (is_digit (48 + n)) true (digit_is (48 + n) (omega arith) (omega arith)) refl

    more : (n : ℕ) (digits : List ℕ) → 10 ≤ n → list_all is_digit digits ≡ true → list_all is_digit (digits ++ (48 + n % 10) ∷ []) ≡ true
    more n digits large before =
        list_all-append is_digit digits ((48 + n % 10) ∷ [])
        ∙ and_from (list_all is_digit digits) (is_digit (48 + n % 10) && true) before (and_from (is_digit (48 + n % 10)) true (digit_is (48 + n % 10) (omega arith) (omega arith)) refl)

pub number_low : (n : ℕ) → IsNumber n → list_all is_low (decimal n) ≡ true
number_low n small = weaker is_digit is_low low_digit (decimal n) (digits_only n small)

pub number_plain : (n : ℕ) → IsNumber n → IsPlain (decimal n)
number_plain n small = low_is_plain (decimal n) (number_low n small)

pub number_read : (n : ℕ) → IsNumber n → read_number (decimal n) ≡ n
number_read n small = (decimal_is_IsNumeral n small).1

-- the first byte of a number is a digit
pub first_digit : (n : ℕ) → IsNumber n → ltb (byte_at 0 (decimal n)) 58 ≡ true
first_digit n small = at (decimal n) (digits_only n small) (decimal_nonempty n small)
  where
    at : (word : List ℕ) → list_all is_digit word ≡ true → 0 < length word → ltb (byte_at 0 word) 58 ≡ true
    at [] digits some = absurd (omega arith)
    at (byte ∷ word) digits some = (and_parts (leb 48 byte) (ltb byte 58) (and_parts (is_digit byte) (list_all is_digit word) digits).0).1

-- Names of threads and processes.

pub name_plain : (letter n : ℕ) → 32 < letter → IsNumber (n + 1) → IsPlain (letter ∷ decimal (n + 1))
name_plain letter n above small = and_from (ltb 32 letter) (list_all is_plain (decimal (n + 1))) (lt-ltb 32 letter above) (number_plain (n + 1) small)

pub name_read : (letter n : ℕ) → IsNumber (n + 1) → read_name (letter ∷ decimal (n + 1)) ≡ n
name_read letter n small = ap (λ (m : ℕ). m - 1) (number_read (n + 1) small) ∙ omega arith

pub name_is_name : (letter n : ℕ) → IsNumber (n + 1) → is_name (letter ∷ decimal (n + 1)) ≡ true
name_is_name letter n small = first_digit (n + 1) small

-- Modes, bits and rights.

pub mode_low : (mode : ℕ) → list_all is_low (mode_text mode) ≡ true
mode_low mode =
    and_from (is_low (48 + mode / 64 % 8)) _ (low_is (48 + mode / 64 % 8) (omega arith) (omega arith))
    (and_from (is_low (48 + mode / 8 % 8)) _ (low_is (48 + mode / 8 % 8) (omega arith) (omega arith)) (and_from (is_low (48 + mode % 8)) true (low_is (48 + mode % 8) (omega arith) (omega arith)) refl))

pub mode_read : (mode : ℕ) → IsMode mode → read_mode (mode_text mode) ≡ mode
mode_read mode small = omega arith

pub bit_low : (bit : Bool) → list_all is_low (bit_text bit) ≡ true
bit_low true = refl
bit_low false = refl

pub bit_read : (bit : Bool) → read_bit (bit_text bit) ≡ bit
bit_read true = refl
bit_read false = refl

pub share_plain : (exclusive : Bool) → IsPlain (share_text exclusive)
share_plain true = refl
share_plain false = refl

pub share_no_equals : (exclusive : Bool) → is_equals (share_text exclusive) ≡ false
share_no_equals true = refl
share_no_equals false = refl

pub share_read : (exclusive : Bool) → read_share (share_text exclusive) ≡ exclusive
share_read true = refl
share_read false = refl

-- what holds of the three rights holds of a right that is one of them
by_right : (P : Right → Type 0) → P (record { 0 = 1 }) → P (record { 0 = 2 }) → P (record { 0 = 4 }) → (right : Right) → IsOneRight right → P right
by_right P read write own right (inl is) = subst P (λ i. record { 0 = sym is i }) read
by_right P read write own right (inr (inl is)) = subst P (λ i. record { 0 = sym is i }) write
by_right P read write own right (inr (inr is)) = subst P (λ i. record { 0 = sym is i }) own

pub right_plain : (right : Right) → IsOneRight right → IsPlain (right_text right)
right_plain = by_right (λ right. IsPlain (right_text right)) refl refl refl

pub right_no_equals : (right : Right) → IsOneRight right → is_equals (right_text right) ≡ false
right_no_equals = by_right (λ right. is_equals (right_text right) ≡ false) refl refl refl

pub right_read : (right : Right) → IsOneRight right → read_right (right_text right) ≡ right
right_read = by_right (λ right. read_right (right_text right) ≡ right) refl refl refl

-- Lists of numbers.

pub list_low : (numbers : List ℕ) → AreNumbers numbers → list_all is_low (list_text numbers) ≡ true
list_low [] small = refl
list_low (number ∷ numbers) small =
    list_all-append is_low (decimal number) (flat_map (λ n. 44 ∷ decimal n) numbers) ∙ and_from (list_all is_low (decimal number)) _ (number_low number small.0) (more numbers small.1)
  where
    more : (ns : List ℕ) → AreNumbers ns → list_all is_low (flat_map (λ n. 44 ∷ decimal n) ns) ≡ true
    more [] all = refl
    more (n ∷ ns) all = list_all-append is_low (decimal n) (flat_map (λ m. 44 ∷ decimal m) ns) ∙ and_from (list_all is_low (decimal n)) _ (number_low n all.0) (more ns all.1)

number_lacks_comma : (n : ℕ) → IsNumber n → lacks 44 (decimal n) ≡ true
number_lacks_comma n small = weaker is_digit (λ byte. not (eqb byte 44)) no_comma (decimal n) (digits_only n small)
  where
    no_comma : (byte : ℕ) → is_digit byte ≡ true → not (eqb byte 44) ≡ true
    no_comma byte digit =
        let above = leb-true 48 byte (and_parts (leb 48 byte) (ltb byte 58) digit).0 in
        not_from_false (eqb byte 44) (ne_eqb byte 44 (λ same. omega arith))

pub list_read : (numbers : List ℕ) → AreNumbers numbers → read_list (list_text numbers) ≡ numbers
list_read [] small = refl
list_read (number ∷ numbers) small =
    some (list_text (number ∷ numbers)) (let first = decimal_nonempty number small.0 in omega (arith, length-append (decimal number) (flat_map (λ n. 44 ∷ decimal n) numbers)))
    ∙ ap (map read_number) (joined_parts 44 decimal number numbers (number_lacks_comma number small.0) (lack numbers small.1))
    ∙ read_all (number ∷ numbers) small
  where
    some : (word : List ℕ) → 0 < length word → read_list word ≡ map read_number (parts_at 44 word)
    some [] above = absurd (omega arith)
    some (byte ∷ word) above = refl

    lack : (ns : List ℕ) → AreNumbers ns → AllByRecursion (λ n. lacks 44 (decimal n) ≡ true) ns
    lack [] all = tt
    lack (n ∷ ns) all = (number_lacks_comma n all.0, lack ns all.1)

    read_all : (ns : List ℕ) → AreNumbers ns → map read_number (map decimal ns) ≡ ns
    read_all [] all = refl
    read_all (n ∷ ns) all = λ i. number_read n all.0 i ∷ read_all ns all.1 i

-- Bytes in hexadecimal.

hex_plain : (n : ℕ) → is_plain (hex_digit n) ≡ true
hex_plain n = by (cases_lt n 10)
  where
    by : (n < 10) ⊎ (10 ≤ n) → is_plain (hex_digit n) ≡ true
    by (inl below) = ap is_plain (cond-true (ltb n 10) (48 + n) (87 + n) (lt-ltb n 10 below)) ∙ lt-ltb 32 (48 + n) (omega arith)
    by (inr above) = ap is_plain (cond-false (ltb n 10) (48 + n) (87 + n) (le-ltb n 10 above)) ∙ lt-ltb 32 (87 + n) (omega arith)

hex_read : (n : ℕ) → n < 16 → hex_value (hex_digit n) ≡ n
hex_read n small = by (cases_lt n 10)
  where
    by : (n < 10) ⊎ (10 ≤ n) → hex_value (hex_digit n) ≡ n
    by (inl below) =
        ap hex_value (cond-true (ltb n 10) (48 + n) (87 + n) (lt-ltb n 10 below))
        ∙ cond-true (ltb (48 + n) 58) (48 + n - 48) (48 + n - 87) (lt-ltb (48 + n) 58 (omega arith)) ∙ omega arith
    by (inr above) =
        ap hex_value (cond-false (ltb n 10) (48 + n) (87 + n) (le-ltb n 10 above))
        ∙ cond-false (ltb (87 + n) 58) (87 + n - 48) (87 + n - 87) (le-ltb (87 + n) 58 (omega arith)) ∙ omega arith

pairs_plain : (bytes : List ℕ) → IsPlain (flat_map hex_byte bytes)
pairs_plain [] = refl
pairs_plain (byte ∷ bytes) = and_from (is_plain (hex_digit (byte / 16))) _ (hex_plain (byte / 16)) (and_from (is_plain (hex_digit (byte % 16))) _ (hex_plain (byte % 16)) (pairs_plain bytes))

pairs_read : (bytes : List ℕ) → AllByRecursion IsByte bytes → read_pairs (flat_map hex_byte bytes) ≡ bytes
pairs_read [] small = refl
pairs_read (byte ∷ bytes) small =
    let below = small.0 in
    let high = hex_read (byte / 16) (omega arith) in
    let low = hex_read (byte % 16) (omega arith) in
    let whole : hex_value (hex_digit (byte / 16)) * 16 + hex_value (hex_digit (byte % 16)) ≡ byte = omega arith in
    λ i. whole i ∷ pairs_read bytes small.1 i

pub data_plain : (bytes : List ℕ) → IsPlain (data_text bytes)
data_plain [] = refl
data_plain (byte ∷ bytes) = pairs_plain (byte ∷ bytes)

pub data_read : (bytes : List ℕ) → AllByRecursion IsByte bytes → read_data (data_text bytes) ≡ bytes
data_read [] small = refl
data_read (byte ∷ bytes) small =
    cond-false (same_text (flat_map hex_byte (byte ∷ bytes)) (codes "-")) [] (read_pairs (flat_map hex_byte (byte ∷ bytes))) (and_right (eqb (hex_digit (byte / 16)) 45) false refl)
    ∙ pairs_read (byte ∷ bytes) small
