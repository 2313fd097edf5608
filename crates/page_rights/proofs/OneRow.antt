-- A thread has at most one row of a coffer, so that this row says all of the thread's hold on it.
use Rattle.std.proofs.Common.{◌≡◌, ℕ, suc, ◌+◌, ◌≤◌, List, [], ◌∷◌, Bool, true, false, not, ◌&&◌, ◌||◌, length, refl, ap, sym, subst, ◌∙◌, ◌⊎◌, inl, inr, cond, eqb, arith, All, Some}
use Rattle.std.specs.Prelude.{filter}
use Rattle.std.specs.List.{list_any, find}
use Rattle.std.proofs.lemmas.Bool.{eqb-true, and_parts, or_cases, both_ways}
use Rattle.std.proofs.lemmas.List.{length-append}
use Rattle.std.proofs.lemmas.List.Elements.{All-head, All-tail, filter-append}
use Rattle.tr_types.specs.declared.kernel_call.Holder.{Holder}
use Rattle.tr_types.specs.Permission.{has_bit}
use Rattle.kern_model.specs.Rights.{is_row_of, without_row, with_row}
use Rattle.page_rights.specs.Tables.{IsRow, HasOneRow}
use Rattle.page_rights.specs.Laws.{row_gives, RowTellsAll}

module _ (h : Holder) where
  same_head : (b : Bool) (xs ys : List Holder) → length xs ≤ length ys → length (cond b (h ∷ xs) xs) ≤ length (cond b (h ∷ ys) ys)
  same_head true xs ys less = omega arith
  same_head false xs ys less = less

  one_more : (b : Bool) (xs ys : List Holder) → length xs ≤ length ys → length xs ≤ length (cond b (h ∷ ys) ys)
  one_more true xs ys less = omega arith
  one_more false xs ys less = less

-- fewer rows, fewer of those that pass
fewer : (p keep : Holder → Bool) (holders : List Holder) → length (filter p (filter keep holders)) ≤ length (filter p holders)
fewer p keep [] = omega arith
fewer p keep (h ∷ holders) = by (keep h) refl (fewer p keep holders)
  where
    by : (k : Bool) → keep h ≡ k → length (filter p (filter keep holders)) ≤ length (filter p holders)
        → length (filter p (cond (keep h) (h ∷ filter keep holders) (filter keep holders))) ≤ length (filter p (h ∷ holders))
    by true stays rest =
        subst (λ (k : Bool). length (filter p (cond k (h ∷ filter keep holders) (filter keep holders))) ≤ length (filter p (h ∷ holders))) (sym stays)
        (same_head h (p h) (filter p (filter keep holders)) (filter p holders) rest)
    by false goes rest =
        subst (λ (k : Bool). length (filter p (cond k (h ∷ filter keep holders) (filter keep holders))) ≤ length (filter p (h ∷ holders))) (sym goes)
        (one_more h (p h) (filter p (filter keep holders)) (filter p holders) rest)

pub one_filtered : (thread id : ℕ) (keep : Holder → Bool) (holders : List Holder) → HasOneRow holders thread id → HasOneRow (filter keep holders) thread id
one_filtered thread id keep holders one = let less = fewer (is_row_of thread id) keep holders in omega arith

-- its own rows went
none_left : (thread id : ℕ) (holders : List Holder) → filter (is_row_of thread id) (without_row thread id holders) ≡ []
none_left thread id [] = refl
none_left thread id (h ∷ holders) = by (is_row_of thread id h) refl (none_left thread id holders)
  where
    by : (b : Bool) → is_row_of thread id h ≡ b → filter (is_row_of thread id) (without_row thread id holders) ≡ []
        → filter (is_row_of thread id) (cond (not (is_row_of thread id h)) (h ∷ without_row thread id holders) (without_row thread id holders)) ≡ []
    by true is rest = ap (λ (b : Bool). filter (is_row_of thread id) (cond (not b) (h ∷ without_row thread id holders) (without_row thread id holders))) is ∙ rest
    by false is rest =
        ap (λ (b : Bool). filter (is_row_of thread id) (cond (not b) (h ∷ without_row thread id holders) (without_row thread id holders))) is
        ∙ ap (λ (b : Bool). cond b (h ∷ filter (is_row_of thread id) (without_row thread id holders)) (filter (is_row_of thread id) (without_row thread id holders))) is
        ∙ rest

pub one_with_row : (thread id : ℕ) (row : Holder) (holders : List Holder) → HasOneRow holders thread id → HasOneRow (with_row row holders) thread id
one_with_row thread id row holders one = by (is_row_of thread id row) refl
  where
    split : length (filter (is_row_of thread id) (with_row row holders)) ≡ length (filter (is_row_of thread id) (without_row row.thread row.id holders)) + length (cond (is_row_of thread id row) (row ∷ []) [])
    split =
        ap (λ (hs : List Holder). length hs) (filter-append (is_row_of thread id) (without_row row.thread row.id holders) (row ∷ []))
        ∙ length-append (filter (is_row_of thread id) (without_row row.thread row.id holders)) (cond (is_row_of thread id row) (row ∷ []) [])

    by : (b : Bool) → is_row_of thread id row ≡ b → length (filter (is_row_of thread id) (with_row row holders)) ≤ 1
    by true is =
        let parts = and_parts (eqb row.thread thread) (eqb row.id id) is in
        let none : length (filter (is_row_of thread id) (without_row row.thread row.id holders)) ≡ 0 =
        (λ i. length (filter (is_row_of thread id) (without_row (eqb-true row.thread thread parts.0 i) (eqb-true row.id id parts.1 i) holders)))
        ∙ ap (λ (hs : List Holder). length hs) (none_left thread id holders) in
        let last : length (cond (is_row_of thread id row) (row ∷ []) []) ≡ 1 = ap (λ (b : Bool). length (cond b (row ∷ []) [])) is in
        let whole = split in
        omega arith
    by false is =
        let before : length (filter (is_row_of thread id) (without_row row.thread row.id holders)) ≤ length (filter (is_row_of thread id) holders) =
        fewer (is_row_of thread id) (λ h. not (is_row_of row.thread row.id h)) holders in
        let last : length (cond (is_row_of thread id row) (row ∷ []) []) ≡ 0 = ap (λ (b : Bool). length (cond b (row ∷ []) [])) is in
        let whole = split in
        omega arith

-- a coffer of which a thread has a row is one of 1 to 256
pub own_bound : (thread id : ℕ) (holders : List Holder) → All IsRow holders → list_any (is_row_of thread id) holders ≡ true → id ≤ 256
own_bound thread id [] rows holds = absurd (both_ways false refl holds)
own_bound thread id (h ∷ holders) rows holds = by (own_bound thread id holders (All-tail IsRow h holders rows)) (or_cases (is_row_of thread id h) (list_any (is_row_of thread id) holders) holds)
  where
    row : IsRow h
    row = All-head IsRow h holders rows

    by : (list_any (is_row_of thread id) holders ≡ true → id ≤ 256) → (is_row_of thread id h ≡ true) ⊎ (list_any (is_row_of thread id) holders ≡ true) → id ≤ 256
    by rest (inl is) = let same : h.id ≡ id = eqb-true h.id id (and_parts (eqb h.thread thread) (eqb h.id id) is).1 in let most : h.id ≤ 256 = row.greatest_id in omega arith
    by rest (inr later) = rest later

-- The row tells what the thread's rows tell.

no_others : (p q : Holder → Bool) (holders : List Holder) → length (filter p holders) ≤ 0 → list_any (λ h. p h && q h) holders ≡ false
no_others p q [] none = refl
no_others p q (h ∷ holders) none = by (p h) refl (no_others p q holders)
  where
    by : (b : Bool) → p h ≡ b → (length (filter p holders) ≤ 0 → list_any (λ h. p h && q h) holders ≡ false) → ((p h && q h) || list_any (λ h. p h && q h) holders) ≡ false
    by true is rest = let some : length (cond (p h) (h ∷ filter p holders) (filter p holders)) ≡ suc (length (filter p holders)) = ap (λ (b : Bool). length (cond b (h ∷ filter p holders) (filter p holders))) is in absurd (omega arith)
    by false is rest =
        let same : length (cond (p h) (h ∷ filter p holders) (filter p holders)) ≡ length (filter p holders) = ap (λ (b : Bool). length (cond b (h ∷ filter p holders) (filter p holders))) is in
        ap (λ (b : Bool). (b && q h) || list_any (λ h. p h && q h) holders) is ∙ rest (omega arith)

or_false : (b : Bool) → (b || false) ≡ b
or_false true = refl
or_false false = refl

first_tells : (p q : Holder → Bool) (holders : List Holder) → length (filter p holders) ≤ 1 → list_any (λ h. p h && q h) holders ≡ row_gives q (find p holders)
first_tells p q [] one = refl
first_tells p q (h ∷ holders) one = by (p h) refl (first_tells p q holders)
  where
    by : (b : Bool) → p h ≡ b → (length (filter p holders) ≤ 1 → list_any (λ h. p h && q h) holders ≡ row_gives q (find p holders))
        → ((p h && q h) || list_any (λ h. p h && q h) holders) ≡ row_gives q (find p (h ∷ holders))
    by true is rest =
        let some : length (cond (p h) (h ∷ filter p holders) (filter p holders)) ≡ suc (length (filter p holders)) = ap (λ (b : Bool). length (cond b (h ∷ filter p holders) (filter p holders))) is in
        ap (λ (b : Bool). (b && q h) || list_any (λ h. p h && q h) holders) is
        ∙ ap (λ (o : Bool). q h || o) (no_others p q holders (omega arith))
        ∙ or_false (q h)
        ∙ sym (ap (λ (b : Bool). row_gives q (cond b (Some h) (find p holders))) is)
    by false is rest =
        let same : length (cond (p h) (h ∷ filter p holders) (filter p holders)) ≡ length (filter p holders) = ap (λ (b : Bool). length (cond b (h ∷ filter p holders) (filter p holders))) is in
        ap (λ (b : Bool). (b && q h) || list_any (λ h. p h && q h) holders) is
        ∙ rest (omega arith)
        ∙ sym (ap (λ (b : Bool). row_gives q (cond b (Some h) (find p holders))) is)

any_agree : (r s : Holder → Bool) → ((h : Holder) → r h ≡ s h) → (holders : List Holder) → list_any r holders ≡ list_any s holders
any_agree r s same [] = refl
any_agree r s same (h ∷ holders) = λ i. same h i || any_agree r s same holders i

and_true : (b : Bool) → b ≡ (b && true)
and_true true = refl
and_true false = refl

pub row_tells_all : RowTellsAll
row_tells_all v thread coffer sound =
    let one = sound.one_row thread coffer in (
      any_agree (is_row_of thread coffer) (λ h. is_row_of thread coffer h && true) (λ h. and_true (is_row_of thread coffer h)) v.holders ∙ first_tells (is_row_of thread coffer) (λ row. true) v.holders one,
      first_tells (is_row_of thread coffer) (λ row. has_bit row.right.0 1) v.holders one,
      any_agree _ (λ h. is_row_of thread coffer h && (has_bit h.right.0 2 && h.exclusive)) (λ h. regroup (is_row_of thread coffer h) (has_bit h.right.0 2) h.exclusive) v.holders
          ∙ first_tells (is_row_of thread coffer) (λ row. has_bit row.right.0 2 && row.exclusive) v.holders one,
    )
  where
    regroup : (a b c : Bool) → (a && b && c) ≡ (a && (b && c))
    regroup true b c = refl
    regroup false b c = refl
