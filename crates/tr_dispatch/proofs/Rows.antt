-- Rights and holders, where each row is a map of the root coffer that shuts nobody out.
use Rattle.std.proofs.Common.{◌≡◌, ◌≢◌, ◌⊎◌, inl, inr, ℕ, ◌==◌, Bool, true, false, not, cond, ◌&&◌, ◌||◌, List, [], ◌∷◌, map, filter, Contains, Option, Some, None, refl, sym, ap, ◌∙◌}
use Rattle.std.specs.List.{range_with_len}
use Rattle.std.proofs.lemmas.Bool.{cases_eq, ne_eqb, eq-eqb}
use Rattle.std.proofs.lemmas.List.Elements.{Contains-append_left, Contains-push, Contains-push_cases}
use Rattle.kern_model.specs.Rights.{process_of, is_same, are_together, holds_beside, key_in, is_writable, uses_key, is_free_key, free_keys, first_of, or_key, key_for, is_row_of, without_row, with_row, stands_against, those_against, holds_itself, allows_writing}
use Rattle.tr_model.specs.RootCoffer.{holds_to_write}
use Rattle.tr_types.specs.declared.kernel_call.Holder.{Holder}
use Rattle.tr_dispatch.specs.Rooted.{IsRootRow}
use Rattle.tr_dispatch.proofs.Members.{contains_here, contains_there, contains_cases, contains_none, left_was, left_passes, is_left}

-- each row is a map of the root coffer
abbrev pub AreRootRows : List Holder → Type 0
AreRootRows holders = (row : Holder) → Contains holders row → IsRootRow row

pub rest_rows : (h : Holder) (holders : List Holder) → AreRootRows (h ∷ holders) → AreRootRows holders
rest_rows h holders all row among = all row (contains_there h holders row among)

pub first_row : (h : Holder) (holders : List Holder) → AreRootRows (h ∷ holders) → IsRootRow h
first_row h holders all = all h (contains_here h holders)

-- A thread that was started is together with itself.
has_process : (threads : List (ℕ × ℕ)) (thread : ℕ) → Contains (map (λ t. t.0) threads) thread → (process : ℕ) × (process_of threads thread ≡ Some process)
has_process [] thread lives = absurd (contains_none thread lives)
has_process (t ∷ threads) thread lives = by (cases_eq t.0 thread) (contains_cases t.0 (map (λ t. t.0) threads) thread lives) (has_process threads thread)
  where
    by : (t.0 ≡ thread) ⊎ (t.0 ≢ thread) → (t.0 ≡ thread) ⊎ Contains (map (λ t. t.0) threads) thread
        → (Contains (map (λ t. t.0) threads) thread → (process : ℕ) × (process_of threads thread ≡ Some process))
        → (process : ℕ) × (process_of (t ∷ threads) thread ≡ Some process)
    by (inl same) _ rest = (t.1, ap (λ (b : Bool). cond b (Some t.1) (process_of threads thread)) (eq-eqb t.0 thread same))
    by (inr other) (inl same) rest = absurd (other same)
    by (inr other) (inr among) rest =
        let found = rest among in
        (found.0, ap (λ (b : Bool). cond b (Some t.1) (process_of threads thread)) (ne_eqb t.0 thread other) ∙ found.1)

pub together : (threads : List (ℕ × ℕ)) (thread : ℕ) → Contains (map (λ t. t.0) threads) thread → are_together threads thread thread ≡ true
together threads thread lives =
    let at = has_process threads thread lives in
    ap (λ (p : Option ℕ). is_same p p) at.1 ∙ eq-eqb at.0 at.0 refl

or_true : (b : Bool) → (b || true) ≡ true
or_true true = refl
or_true false = refl

-- The thread's own row.
module _ (thread : ℕ) (row : Holder) (own : row.thread ≡ thread) (id : row.id ≡ 1) where
  row_is : is_row_of thread 1 row ≡ true
  row_is = ap (λ (b : Bool). b && (row.id == 1)) (eq-eqb row.thread thread own) ∙ eq-eqb row.id 1 id

  -- the thread itself holds the coffer
  pub holds_own : (holders : List Holder) → Contains holders row → holds_itself thread 1 holders ≡ true
  holds_own [] among = absurd (contains_none row among)
  holds_own (h ∷ holders) among = by (contains_cases h holders row among) (holds_own holders)
    where
      by : (h ≡ row) ⊎ Contains holders row → (Contains holders row → holds_itself thread 1 holders ≡ true) → holds_itself thread 1 (h ∷ holders) ≡ true
      by (inl same) rest = ap (λ (b : Bool). b || holds_itself thread 1 holders) (ap (is_row_of thread 1) same ∙ row_is)
      by (inr later) rest = ap (λ (b : Bool). is_row_of thread 1 h || b) (rest later) ∙ or_true (is_row_of thread 1 h)

  -- for writing
  pub writes_own : allows_writing row.right ≡ true → (holders : List Holder) → Contains holders row → holds_to_write thread 1 holders ≡ true
  writes_own writes [] among = absurd (contains_none row among)
  writes_own writes (h ∷ holders) among = by (contains_cases h holders row among) (writes_own writes holders)
    where
      here : (is_row_of thread 1 row && allows_writing row.right) ≡ true
      here = ap (λ (b : Bool). b && allows_writing row.right) row_is ∙ writes

      by : (h ≡ row) ⊎ Contains holders row → (Contains holders row → holds_to_write thread 1 holders ≡ true) → holds_to_write thread 1 (h ∷ holders) ≡ true
      by (inl same) rest = ap (λ (b : Bool). b || holds_to_write thread 1 holders) (ap (λ (x : Holder). is_row_of thread 1 x && allows_writing x.right) same ∙ here)
      by (inr later) rest = ap (λ (b : Bool). (is_row_of thread 1 h && allows_writing h.right) || b) (rest later) ∙ or_true (is_row_of thread 1 h && allows_writing h.right)

  module _ (threads : List (ℕ × ℕ)) (with_itself : are_together threads thread thread ≡ true) where
    beside : holds_beside threads thread 1 row ≡ true
    beside =
        ap (λ (b : Bool). b && are_together threads row.thread thread) (eq-eqb row.id 1 id)
        ∙ ap (λ (t : ℕ). are_together threads t thread) own ∙ with_itself

    -- its process has the first key for the coffer
    pub key_own : (holders : List Holder) → AreRootRows holders → Contains holders row → key_in threads holders thread 1 ≡ Some 1
    key_own [] all among = absurd (contains_none row among)
    key_own (h ∷ holders) all among = by (holds_beside threads thread 1 h) refl (contains_cases h holders row among) (key_own holders (rest_rows h holders all))
      where
        by : (b : Bool) → holds_beside threads thread 1 h ≡ b → (h ≡ row) ⊎ Contains holders row → (Contains holders row → key_in threads holders thread 1 ≡ Some 1) → cond b (Some h.key) (key_in threads holders thread 1) ≡ Some 1
        by true is at later = ap (λ (k : ℕ). Some k) (first_row h holders all).key
        by false is (inl same) later = let clash : true ≡ false = sym beside ∙ ap (holds_beside threads thread 1) (sym same) ∙ is in cc
        by false is (inr among) later = later among

    -- and may store where the thread's row is for writing
    pub writable_own : allows_writing row.right ≡ true → (holders : List Holder) → Contains holders row → is_writable threads holders thread 1 ≡ true
    writable_own writes [] among = absurd (contains_none row among)
    writable_own writes (h ∷ holders) among = by (contains_cases h holders row among) (writable_own writes holders)
      where
        here : (holds_beside threads thread 1 row && allows_writing row.right) ≡ true
        here = ap (λ (b : Bool). b && allows_writing row.right) beside ∙ writes

        by : (h ≡ row) ⊎ Contains holders row → (Contains holders row → is_writable threads holders thread 1 ≡ true) → is_writable threads (h ∷ holders) thread 1 ≡ true
        by (inl same) rest = ap (λ (b : Bool). b || is_writable threads holders thread 1) (ap (λ (x : Holder). holds_beside threads thread 1 x && allows_writing x.right) same ∙ here)
        by (inr later) rest = ap (λ (b : Bool). (holds_beside threads thread 1 h && allows_writing h.right) || b) (rest later) ∙ or_true (holds_beside threads thread 1 h && allows_writing h.right)

-- A map has the first key, whoever of the process has mapped the coffer before.
module _ (threads : List (ℕ × ℕ)) (thread : ℕ) where
  abbrev HasKeyOrFree : List Holder → Type 0
  HasKeyOrFree holders = (key_in threads holders thread 1 ≡ Some 1) ⊎ ((key_in threads holders thread 1 ≡ None) × (is_free_key threads holders thread 1 ≡ true))

  key_or_free : (holders : List Holder) → AreRootRows holders → HasKeyOrFree holders
  key_or_free [] all = inr (refl, refl)
  key_or_free (h ∷ holders) all = by (are_together threads h.thread thread) refl (key_or_free holders (rest_rows h holders all))
    where
      is : IsRootRow h
      is = first_row h holders all

      beside_is : holds_beside threads thread 1 h ≡ are_together threads h.thread thread
      beside_is = ap (λ (b : Bool). b && are_together threads h.thread thread) (eq-eqb h.id 1 is.id)

      uses_is : uses_key threads thread 1 h ≡ are_together threads h.thread thread
      uses_is = ap (λ (b : Bool). b && are_together threads h.thread thread) (eq-eqb h.key 1 is.key)

      by : (b : Bool) → are_together threads h.thread thread ≡ b → HasKeyOrFree holders → HasKeyOrFree (h ∷ holders)
      by true e rest = inl (ap (λ (b : Bool). cond b (Some h.key) (key_in threads holders thread 1)) (beside_is ∙ e) ∙ ap (λ (k : ℕ). Some k) is.key)
      by false e (inl key) = inl (ap (λ (b : Bool). cond b (Some h.key) (key_in threads holders thread 1)) (beside_is ∙ e) ∙ key)
      by false e (inr none) = inr (
        ap (λ (b : Bool). cond b (Some h.key) (key_in threads holders thread 1)) (beside_is ∙ e) ∙ none.0,
        ap (λ (b : Bool). not b && is_free_key threads holders thread 1) (uses_is ∙ e) ∙ none.1,
      )

  pub key_is_first : (holders : List Holder) → AreRootRows holders → key_for threads holders thread 1 ≡ Some 1
  key_is_first holders all = by (key_or_free holders all)
    where
      by : HasKeyOrFree holders → key_for threads holders thread 1 ≡ Some 1
      by (inl key) = ap (λ (k : Option ℕ). or_key k (first_of (free_keys threads holders thread))) key
      by (inr none) =
          ap (λ (k : Option ℕ). or_key k (first_of (free_keys threads holders thread))) none.0
          ∙ ap (λ (b : Bool). first_of (cond b (1 ∷ filter (is_free_key threads holders thread) (range_with_len 2 14)) (filter (is_free_key threads holders thread) (range_with_len 2 14)))) none.1

-- nobody stands against it
never : (x y : Bool) → (x && y && false) ≡ false
never true true = refl
never true false = refl
never false y = refl

pub nobody_against : (thread : ℕ) (holders : List Holder) → AreRootRows holders → those_against thread 1 false holders ≡ []
nobody_against thread [] all = refl
nobody_against thread (h ∷ holders) all =
    ap (λ (b : Bool). map (λ (h : Holder). h.thread) (cond b (h ∷ filter (stands_against thread 1 false) holders) (filter (stands_against thread 1 false) holders))) stands
    ∙ nobody_against thread holders (rest_rows h holders all)
  where
    stands : stands_against thread 1 false h ≡ false
    stands = ap (λ (b : Bool). (h.id == 1) && not (h.thread == thread) && (b || false)) (first_row h holders all).shared ∙ never (h.id == 1) (not (h.thread == thread))

-- The rows after a map, and after its end.
pub row_comes : (h : Holder) (holders : List Holder) → Contains (with_row h holders) h
row_comes h holders = Contains-push (without_row h.thread h.id holders) h

pub rows_were : (h : Holder) (holders : List Holder) (row : Holder) → Contains (with_row h holders) row → Contains holders row ⊎ (h ≡ row)
rows_were h holders row among = elim (Contains-push_cases (without_row h.thread h.id holders) h row among) [
  | inl before ↦ inl (left_was (λ x. not (is_row_of h.thread h.id x)) holders row before)
  | inr same ↦ inr same
]

other_passes : (thread coffer : ℕ) (row : Holder) → row.thread ≢ thread → not (is_row_of thread coffer row) ≡ true
other_passes thread coffer row other = ap (λ (b : Bool). not (b && (row.id == coffer))) (ne_eqb row.thread thread other)

pub row_stays_with : (h row : Holder) (holders : List Holder) → row.thread ≢ h.thread → Contains holders row → Contains (with_row h holders) row
row_stays_with h row holders other among =
    Contains-append_left (without_row h.thread h.id holders) (h ∷ []) row (is_left (λ x. not (is_row_of h.thread h.id x)) holders row among (other_passes h.thread h.id row other))

pub row_stays_without : (thread coffer : ℕ) (row : Holder) (holders : List Holder) → row.thread ≢ thread → Contains holders row → Contains (without_row thread coffer holders) row
row_stays_without thread coffer row holders other among = is_left (λ x. not (is_row_of thread coffer x)) holders row among (other_passes thread coffer row other)

pub row_was : (thread coffer : ℕ) (row : Holder) (holders : List Holder) → Contains (without_row thread coffer holders) row → Contains holders row
row_was thread coffer row holders among = left_was (λ x. not (is_row_of thread coffer x)) holders row among

-- no row of the thread's is left
pub none_left : (thread : ℕ) (row : Holder) (holders : List Holder) → AreRootRows holders → Contains (without_row thread 1 holders) row → row.thread ≢ thread
none_left thread row holders all among own =
    let is = all row (row_was thread 1 row holders among) in
    let gone : is_row_of thread 1 row ≡ true = ap (λ (b : Bool). b && (row.id == 1)) (eq-eqb row.thread thread own) ∙ eq-eqb row.id 1 is.id in
    let clash : false ≡ true = ap not (sym gone) ∙ left_passes (λ x. not (is_row_of thread 1 x)) holders row among in
    cc
