-- The older values of one word among those of its line.
use Rattle.std.proofs.Common.{◌≡◌, ◌≢◌, ℕ, zero, suc, ◌+◌, ◌-◌, ◌/◌, ◌<◌, ◌≤◌, Bool, true, false, cond, List, [], ◌∷◌, ◌++◌, length, length-drop, take, drop, take_all, take_at, slice_index_or, nat_eq, refl, sym, ap, ◌∙◌, arith}
use Rattle.std.proofs.lemmas.Bool.{eq-eqb, ne_eqb}
use Rattle.std.proofs.lemmas.List.{drop_more}
use Rattle.pm_words.specs.declared.pending.Older.{Older}
use Rattle.pm_words.specs.View.{values_at, count_at, AreOfLine}

pub values_append : (place : ℕ) (xs ys : List Older) → values_at place (xs ++ ys) ≡ values_at place xs ++ values_at place ys
values_append place [] ys = refl
values_append place (x ∷ xs) ys = by (nat_eq place x.place) (values_append place xs ys)
  where
    by : (b : Bool) → values_at place (xs ++ ys) ≡ values_at place xs ++ values_at place ys
        → cond b (x.value ∷ values_at place (xs ++ ys)) (values_at place (xs ++ ys)) ≡ cond b (x.value ∷ values_at place xs) (values_at place xs) ++ values_at place ys
    by true rest = ap (λ (l : List ℕ). x.value ∷ l) rest
    by false rest = rest

-- one value more, of this word
pub values_push : (xs : List Older) (x : Older) → values_at x.place (xs ++ x ∷ []) ≡ values_at x.place xs ++ x.value ∷ []
values_push xs x = values_append x.place xs (x ∷ []) ∙ ap (λ (b : Bool). values_at x.place xs ++ cond b (x.value ∷ []) []) (eq-eqb x.place x.place refl)

-- and of another one
pub values_push_other : (place : ℕ) (xs : List Older) (x : Older) → place ≢ x.place → values_at place (xs ++ x ∷ []) ≡ values_at place xs
values_push_other place [] x ne = ap (λ (b : Bool). cond b (x.value ∷ []) []) (ne_eqb place x.place ne)
values_push_other place (y ∷ ys) x ne = ap (λ (l : List ℕ). cond (nat_eq place y.place) (y.value ∷ l) l) (values_push_other place ys x ne)

-- of the first ones of a line, those of this word are its first ones
pub values_drop : (place gone : ℕ) (xs : List Older) → values_at place (drop gone xs) ≡ drop (count_at place gone xs) (values_at place xs)
values_drop place zero xs = refl
values_drop place (suc gone) [] = refl
values_drop place (suc gone) (x ∷ xs) = by (nat_eq place x.place) (values_drop place gone xs)
  where
    by : (b : Bool) → values_at place (drop gone xs) ≡ drop (count_at place gone xs) (values_at place xs)
        → values_at place (drop gone xs) ≡ drop (length (cond b (x.value ∷ values_at place (take gone xs)) (values_at place (take gone xs)))) (cond b (x.value ∷ values_at place xs) (values_at place xs))
    by true rest = rest
    by false rest = rest

count_none : (place gone : ℕ) → count_at place gone [] ≡ 0
count_none place zero = refl
count_none place (suc gone) = refl

pub count_drop : (place mark gone : ℕ) (xs : List Older) → count_at place (mark - gone) (drop gone xs) ≡ count_at place mark xs - count_at place gone xs
count_drop place mark zero xs =
    let same : mark - 0 ≡ mark = omega arith in
    let all : count_at place mark xs ≡ count_at place mark xs - 0 = omega arith in
    ap (λ (n : ℕ). count_at place n xs) same ∙ all
count_drop place mark (suc gone) [] =
    let none : count_at place (mark - suc gone) [] ≡ 0 = count_none place (mark - suc gone) in
    let zeros : 0 ≡ count_at place mark [] - 0 = let e = count_none place mark in omega (arith, e) in
    none ∙ zeros
count_drop place zero (suc gone) (x ∷ xs) =
    let none : 0 - suc gone ≡ 0 = omega arith in
    let zeros : 0 ≡ 0 - count_at place (suc gone) (x ∷ xs) = omega arith in
    ap (λ (n : ℕ). count_at place n (drop gone xs)) none ∙ zeros
count_drop place (suc mark) (suc gone) (x ∷ xs) =
    let less : suc mark - suc gone ≡ mark - gone = omega arith in
    ap (λ (n : ℕ). count_at place n (drop gone xs)) less ∙ count_drop place mark gone xs ∙ by (nat_eq place x.place)
  where
    by : (b : Bool) → count_at place mark xs - count_at place gone xs
        ≡ length (cond b (x.value ∷ values_at place (take mark xs)) (values_at place (take mark xs))) - length (cond b (x.value ∷ values_at place (take gone xs)) (values_at place (take gone xs)))
    by true = let more : count_at place mark xs - count_at place gone xs ≡ suc (count_at place mark xs) - suc (count_at place gone xs) = omega arith in more
    by false = refl

pub count_all : (place : ℕ) (xs : List Older) → count_at place (length xs) xs ≡ length (values_at place xs)
count_all place xs = ap (λ (l : List Older). length (values_at place l)) (take_all (length xs) xs (omega arith))

-- values that come last aren't among the first ones
pub count_append : (place mark : ℕ) (xs ys : List Older) → mark ≤ length xs → count_at place mark (xs ++ ys) ≡ count_at place mark xs
count_append place zero xs ys le = refl
count_append place (suc mark) [] ys le = absurd (omega arith)
count_append place (suc mark) (x ∷ xs) ys le = by (nat_eq place x.place) (count_append place mark xs ys (omega arith))
  where
    by : (b : Bool) → count_at place mark (xs ++ ys) ≡ count_at place mark xs
        → length (cond b (x.value ∷ values_at place (take mark (xs ++ ys))) (values_at place (take mark (xs ++ ys))))
        ≡ length (cond b (x.value ∷ values_at place (take mark xs)) (values_at place (take mark xs)))
    by true rest = ap suc rest
    by false rest = rest

-- lines of the words
pub of_line_push : (line : ℕ) (xs : List Older) (x : Older) → AreOfLine line xs → x.place / 8 ≡ line → AreOfLine line (xs ++ x ∷ [])
of_line_push line [] x all is = (is, tt)
of_line_push line (y ∷ ys) x (one, all) is = (one, of_line_push line ys x all is)

pub of_line_drop : (line gone : ℕ) (xs : List Older) → AreOfLine line xs → AreOfLine line (drop gone xs)
of_line_drop line zero xs all = all
of_line_drop line (suc gone) [] all = tt
of_line_drop line (suc gone) (x ∷ xs) (one, all) = of_line_drop line gone xs all

-- where a line has an older value, one of its words has one
pub some_value : (line : ℕ) (xs : List Older) → AreOfLine line xs → 0 < length xs → ((place : ℕ) → place / 8 ≡ line → values_at place xs ≡ []) → ⊥
some_value line [] all some none = omega (arith, some)
some_value line (x ∷ xs) (one, all) some none =
    let empty = none x.place one in
    let here = ap (λ (b : Bool). cond b (x.value ∷ values_at x.place xs) (values_at x.place xs)) (eq-eqb x.place x.place refl) in
    let len : length (x.value ∷ values_at x.place xs) ≡ 0 = ap (λ (l : List ℕ). length l) (sym here ∙ empty) in
    omega (arith, len)

-- what is left once the first values were turned to the end and cut off
pub forgotten : (xs turned : List Older) (left gone : ℕ) → turned ≡ drop gone xs ++ take gone xs → left ≡ length xs - gone → take left turned ≡ drop gone xs
forgotten xs turned left gone is count =
    let len = length-drop gone xs in
    ap (λ (l : List Older). take left l) is ∙ take_at (drop gone xs) (take gone xs) left (len ∙ sym count)

-- the value at an index, of those that this word has from one of the line's values on, and then the present one
module _ (place present : ℕ) (older : List Older) (i left : ℕ) (lt : i < length older) where
  abbrev none : Older
  none = record { place = 0; value = 0 }

  abbrev at : Older
  at = slice_index_or older i none

  abbrev rest : List ℕ
  rest = values_at place (drop (i + 1) older)

  from : (b : Bool) → nat_eq place at.place ≡ b → values_at place (drop i older) ≡ cond b (at.value ∷ rest) rest
  from b is = ap (λ (l : List Older). values_at place l) (drop_more older i none lt) ∙ ap (λ (b : Bool). cond b (at.value ∷ rest) rest) is

  past : (n : ℕ) → (n ≡ 0 → ⊥) → slice_index_or (rest ++ present ∷ []) (n - 1) present ≡ slice_index_or (at.value ∷ rest ++ present ∷ []) n present
  past zero some = absurd (some refl)
  past (suc n) some = let e : suc n - 1 ≡ n = omega arith in ap (λ (j : ℕ). slice_index_or (rest ++ present ∷ []) j present) e

  pub value_past : at.place ≡ place → (left ≡ 0 → ⊥)
      → slice_index_or (rest ++ present ∷ []) (left - 1) present ≡ slice_index_or (values_at place (drop i older) ++ present ∷ []) left present
  value_past is some = past left some ∙ sym (ap (λ (l : List ℕ). slice_index_or (l ++ present ∷ []) left present) (from true (eq-eqb place at.place (sym is))))

  pub value_other : (at.place ≡ place → ⊥)
      → slice_index_or (rest ++ present ∷ []) left present ≡ slice_index_or (values_at place (drop i older) ++ present ∷ []) left present
  value_other ne = sym (ap (λ (l : List ℕ). slice_index_or (l ++ present ∷ []) left present) (from false (ne_eqb place at.place (λ e. ne (sym e)))))
