-- What the list of holders says, and what is left of it when rows go or one comes.
use Rattle.std.proofs.Common.{◌≡◌, ℕ, zero, suc, ◌+◌, ◌-◌, ◌<◌, ◌≤◌, List, [], ◌∷◌, ◌++◌, Bool, true, false, not, ◌&&◌, ◌||◌, refl, ap, sym, subst, ◌∙◌, ◌⊎◌, inl, inr, cond, eqb, arith, All, Contains, Option, Some, None, min}
use Rattle.std.specs.Prelude.{filter}
use Rattle.std.specs.List.{range_with_len}
use Rattle.std.proofs.lemmas.Bool.{cases_lt, and_parts, not-true}
use Rattle.std.proofs.lemmas.List.Elements.{All-nil, All-head, All-tail, All-cons, Contains-append_right, filter_agree, Contains-push, Contains-push_cases, Contains-append_left}
use Rattle.tr_types.specs.declared.kernel_call.Holder.{Holder}
use Rattle.kern_model.specs.Rights.{process_of, is_same, allows_writing, first_of, key_in, is_writable, is_free_key, key_for, or_key}
use Rattle.page_rights.specs.Lookup.{process_at, is_in, holds_in, key_of, is_writable_in, uses_key_in, is_free_in, key_for_in, mapping_for, mapping_by, mapping_of, lesser, IsLeast}

-- keys in turn, where this one isn't free
pub next_key : (free : ℕ → Bool) (key : ℕ) (found : Option ℕ) → key < 16 → free key ≡ false → first_of (filter free (range_with_len key (16 - key))) ≡ found
    → first_of (filter free (range_with_len (key + 1) (16 - (key + 1)))) ≡ found
next_key free key found lt taken so_far =
    let left : 16 - key ≡ suc (16 - (key + 1)) = omega arith in
    sym (ap (λ (n : ℕ). first_of (filter free (range_with_len key n))) left
    ∙ ap (λ (b : Bool). first_of (cond b (key ∷ filter free (range_with_len (key + 1) (16 - (key + 1)))) (filter free (range_with_len (key + 1) (16 - (key + 1)))))) taken)
    ∙ so_far

-- the least, with one thread more
pub least_more : (least : Option ℕ) (threads : List ℕ) (thread : ℕ) → IsLeast threads least → IsLeast (threads ++ thread ∷ []) (Some (lesser least thread))
least_more None threads thread none = record {
  among = Contains-push threads thread;
  least = λ t has. by t (Contains-push_cases threads thread t has);
}
  where
    by : (t : ℕ) → Contains threads t ⊎ (thread ≡ t) → thread ≤ t
    by t (inl h) = absurd (nobody t (subst (λ (l : List ℕ). Contains l t) none h))
      where
        nobody : (u : ℕ) → Contains [] u → ⊥
        nobody u (k, lt, e) = omega arith
    by t (inr e) = omega arith
least_more (Some least) threads thread is = record {
  among = chosen (cases_lt thread least);
  least = λ t has. by t (Contains-push_cases threads thread t has);
}
  where
    chosen : (thread < least) ⊎ (least ≤ thread) → Contains (threads ++ thread ∷ []) (min least thread)
    chosen (inl lt) = let e : thread ≡ min least thread = omega arith in subst (λ (t : ℕ). Contains (threads ++ thread ∷ []) t) e (Contains-push threads thread)
    chosen (inr ge) = let e : least ≡ min least thread = omega arith in subst (λ (t : ℕ). Contains (threads ++ thread ∷ []) t) e (Contains-append_left threads (thread ∷ []) least is.among)

    by : (t : ℕ) → Contains threads t ⊎ (thread ≡ t) → min least thread ≤ t
    by t (inl h) = let le : least ≤ t = is.least t h in omega arith
    by t (inr e) = omega arith

module _ (processes : List (Option ℕ)) (process id : ℕ) where
  -- rows of other processes and coffers go
  key_of_filter : (keep : Holder → Bool) (holders : List Holder) → ((h : Holder) → keep h ≡ false → holds_in processes process id h ≡ false)
      → key_of processes (filter keep holders) process id ≡ key_of processes holders process id
  key_of_filter keep [] others = refl
  key_of_filter keep (h ∷ holders) others = by (keep h) refl (key_of_filter keep holders others)
    where
      by : (b : Bool) → keep h ≡ b → key_of processes (filter keep holders) process id ≡ key_of processes holders process id
          → key_of processes (cond (keep h) (h ∷ filter keep holders) (filter keep holders)) process id ≡ cond (holds_in processes process id h) (Some h.key) (key_of processes holders process id)
      by true is rest =
          ap (λ (b : Bool). key_of processes (cond b (h ∷ filter keep holders) (filter keep holders)) process id) is
          ∙ ap (λ (o : Option ℕ). cond (holds_in processes process id h) (Some h.key) o) rest
      by false is rest =
          ap (λ (b : Bool). key_of processes (cond b (h ∷ filter keep holders) (filter keep holders)) process id) is
          ∙ rest
          ∙ sym (ap (λ (b : Bool). cond b (Some h.key) (key_of processes holders process id)) (others h is))

  writable_filter : (keep : Holder → Bool) (holders : List Holder) → ((h : Holder) → keep h ≡ false → holds_in processes process id h ≡ false)
      → is_writable_in processes (filter keep holders) process id ≡ is_writable_in processes holders process id
  writable_filter keep [] others = refl
  writable_filter keep (h ∷ holders) others = by (keep h) refl (writable_filter keep holders others)
    where
      by : (b : Bool) → keep h ≡ b → is_writable_in processes (filter keep holders) process id ≡ is_writable_in processes holders process id
          → is_writable_in processes (cond (keep h) (h ∷ filter keep holders) (filter keep holders)) process id
          ≡ ((holds_in processes process id h && allows_writing h.right) || is_writable_in processes holders process id)
      by true is rest =
          ap (λ (b : Bool). is_writable_in processes (cond b (h ∷ filter keep holders) (filter keep holders)) process id) is
          ∙ ap (λ (o : Bool). (holds_in processes process id h && allows_writing h.right) || o) rest
      by false is rest =
          ap (λ (b : Bool). is_writable_in processes (cond b (h ∷ filter keep holders) (filter keep holders)) process id) is
          ∙ rest
          ∙ sym (ap (λ (b : Bool). (b && allows_writing h.right) || is_writable_in processes holders process id) (others h is))

  pub mapping_of_filter : (keep : Holder → Bool) (holders : List Holder) → ((h : Holder) → keep h ≡ false → holds_in processes process id h ≡ false)
      → mapping_of processes (filter keep holders) process id ≡ mapping_of processes holders process id
  mapping_of_filter keep holders others = λ i. mapping_by (key_of_filter keep holders others i) (writable_filter keep holders others i)

  -- a row of another comes
  key_of_push : (holders : List Holder) (row : Holder) → holds_in processes process id row ≡ false → key_of processes (holders ++ row ∷ []) process id ≡ key_of processes holders process id
  key_of_push [] row other = ap (λ (b : Bool). cond b (Some row.key) None) other
  key_of_push (h ∷ holders) row other = ap (λ (o : Option ℕ). cond (holds_in processes process id h) (Some h.key) o) (key_of_push holders row other)

  writable_push : (holders : List Holder) (row : Holder) → holds_in processes process id row ≡ false → is_writable_in processes (holders ++ row ∷ []) process id ≡ is_writable_in processes holders process id
  writable_push [] row other = ap (λ (b : Bool). (b && allows_writing row.right) || false) other
  writable_push (h ∷ holders) row other = ap (λ (o : Bool). (holds_in processes process id h && allows_writing h.right) || o) (writable_push holders row other)

  pub mapping_of_push : (holders : List Holder) (row : Holder) → holds_in processes process id row ≡ false → mapping_of processes (holders ++ row ∷ []) process id ≡ mapping_of processes holders process id
  mapping_of_push holders row other = λ i. mapping_by (key_of_push holders row other i) (writable_push holders row other i)

  -- no row is of them
  key_of_none : (holders : List Holder) → All (λ h. holds_in processes process id h ≡ false) holders → key_of processes holders process id ≡ None
  key_of_none [] others = refl
  key_of_none (h ∷ holders) others =
      ap (λ (b : Bool). cond b (Some h.key) (key_of processes holders process id)) (All-head (λ g. holds_in processes process id g ≡ false) h holders others)
      ∙ key_of_none holders (All-tail (λ g. holds_in processes process id g ≡ false) h holders others)

  pub mapping_of_none : (holders : List Holder) → All (λ h. holds_in processes process id h ≡ false) holders → mapping_of processes holders process id ≡ None
  mapping_of_none holders others = ap (λ (o : Option ℕ). mapping_by o (is_writable_in processes holders process id)) (key_of_none holders others)

  -- the row of a key
  pub key_found : (holders : List Holder) (key : ℕ) → key_of processes holders process id ≡ Some key → (h : Holder) × Contains holders h × (holds_in processes process id h ≡ true) × (h.key ≡ key)
  key_found [] key is = cc
  key_found (h ∷ holders) key is = by (holds_in processes process id h) refl (key_found holders key)
    where
      later : (g : Holder) × Contains holders g × (holds_in processes process id g ≡ true) × (g.key ≡ key) → (g : Holder) × Contains (h ∷ holders) g × (holds_in processes process id g ≡ true) × (g.key ≡ key)
      later (g, has, holds, same) = (g, Contains-append_right (h ∷ []) holders g has, holds, same)

      by : (b : Bool) → holds_in processes process id h ≡ b
          → (key_of processes holders process id ≡ Some key → (g : Holder) × Contains holders g × (holds_in processes process id g ≡ true) × (g.key ≡ key))
          → (g : Holder) × Contains (h ∷ holders) g × (holds_in processes process id g ≡ true) × (g.key ≡ key)
      by true holds rest =
          let here : Some h.key ≡ Some key = sym (ap (λ (b : Bool). cond b (Some h.key) (key_of processes holders process id)) holds) ∙ is in
          (h, Contains-append_left (h ∷ []) holders h (Contains-push [] h), holds, cc)
      by false holds rest = later (rest (sym (ap (λ (b : Bool). cond b (Some h.key) (key_of processes holders process id)) holds) ∙ is))

  -- no key, no row
  pub no_key : (holders : List Holder) → key_of processes holders process id ≡ None → All (λ h. holds_in processes process id h ≡ false) holders
  no_key [] is = All-nil (λ h. holds_in processes process id h ≡ false)
  no_key (h ∷ holders) is = by (holds_in processes process id h) refl (no_key holders)
    where
      by : (b : Bool) → holds_in processes process id h ≡ b → (key_of processes holders process id ≡ None → All (λ h. holds_in processes process id h ≡ false) holders)
          → All (λ h. holds_in processes process id h ≡ false) (h ∷ holders)
      by true holds rest =
          let here : Some h.key ≡ None = sym (ap (λ (b : Bool). cond b (Some h.key) (key_of processes holders process id)) holds) ∙ is in
          absurd (cc)
      by false holds rest =
          All-cons (λ h. holds_in processes process id h ≡ false) h holders holds (rest (sym (ap (λ (b : Bool). cond b (Some h.key) (key_of processes holders process id)) holds) ∙ is))

-- no row of a free key
pub free_key : (processes : List (Option ℕ)) (process key : ℕ) (holders : List Holder) → is_free_in processes holders process key ≡ true → All (λ h. uses_key_in processes process key h ≡ false) holders
free_key processes process key [] is = All-nil (λ h. uses_key_in processes process key h ≡ false)
free_key processes process key (h ∷ holders) is =
    let parts = and_parts (not (uses_key_in processes process key h)) (is_free_in processes holders process key) is in
    All-cons (λ h. uses_key_in processes process key h ≡ false) h holders (not-true _ parts.0) (free_key processes process key holders parts.1)

-- the first that passes does pass, and is one of them
pub first_found : (free : ℕ → Bool) (from count key : ℕ) → first_of (filter free (range_with_len from count)) ≡ Some key → (free key ≡ true) × (from ≤ key) × (key < from + count)
first_found free from zero key is = cc
first_found free from (suc count) key is = by (free from) refl (first_found free (from + 1) count key)
  where
    rest : List ℕ
    rest = filter free (range_with_len (from + 1) count)

    by : (b : Bool) → free from ≡ b → (first_of (filter free (range_with_len (from + 1) count)) ≡ Some key → (free key ≡ true) × (from + 1 ≤ key) × (key < from + 1 + count))
        → (free key ≡ true) × (from ≤ key) × (key < from + suc count)
    by true passes later =
        let here : Some from ≡ Some key = sym (ap (λ (b : Bool). first_of (cond b (from ∷ filter free (range_with_len (from + 1) count)) (filter free (range_with_len (from + 1) count)))) passes) ∙ is in
        let same : from ≡ key = cc in
        (sym (ap free same) ∙ passes, omega arith, omega arith)
    by false passes later =
        let found = later (sym (ap (λ (b : Bool). first_of (cond b (from ∷ filter free (range_with_len (from + 1) count)) (filter free (range_with_len (from + 1) count)))) passes) ∙ is) in
        (found.0, omega arith, omega arith)

-- the processes of the rows' threads alone count
pub mapping_of_threads : (new old : List (Option ℕ)) (process id : ℕ) (holders : List Holder) → All (λ h. process_at new h.thread ≡ process_at old h.thread) holders
    → mapping_of new holders process id ≡ mapping_of old holders process id
mapping_of_threads new old process id holders same = λ i. mapping_by (keys holders same i) (writes holders same i)
  where
    tests : (h : Holder) → process_at new h.thread ≡ process_at old h.thread → holds_in new process id h ≡ holds_in old process id h
    tests h same = ap (λ (o : Option ℕ). eqb h.id id && is_same o (Some process)) same

    keys : (hs : List Holder) → All (λ h. process_at new h.thread ≡ process_at old h.thread) hs → key_of new hs process id ≡ key_of old hs process id
    keys [] same = refl
    keys (h ∷ hs) same =
        λ i. cond (tests h (All-head (λ h. process_at new h.thread ≡ process_at old h.thread) h hs same) i) (Some h.key) (keys hs (All-tail (λ h. process_at new h.thread ≡ process_at old h.thread) h hs same) i)

    writes : (hs : List Holder) → All (λ h. process_at new h.thread ≡ process_at old h.thread) hs → is_writable_in new hs process id ≡ is_writable_in old hs process id
    writes [] same = refl
    writes (h ∷ hs) same =
        λ i. (tests h (All-head (λ h. process_at new h.thread ≡ process_at old h.thread) h hs same) i && allows_writing h.right) || writes hs (All-tail (λ h. process_at new h.thread ≡ process_at old h.thread) h hs same) i

-- by the thread, what is said by its process
module _ (threads : List (ℕ × ℕ)) (processes : List (Option ℕ)) (starts : (thread : ℕ) → process_at processes thread ≡ process_of threads thread) (thread process : ℕ) (is : process_at processes thread ≡ Some process) where
  together_is : (u : ℕ) → is_in processes u process ≡ is_same (process_of threads u) (process_of threads thread)
  together_is u = λ i. is_same (starts u i) ((sym is ∙ starts thread) i)

  pub key_by_thread : (holders : List Holder) (id : ℕ) → key_of processes holders process id ≡ key_in threads holders thread id
  key_by_thread [] id = refl
  key_by_thread (h ∷ holders) id = λ i. cond (eqb h.id id && together_is h.thread i) (Some h.key) (key_by_thread holders id i)

  pub writable_by_thread : (holders : List Holder) (id : ℕ) → is_writable_in processes holders process id ≡ is_writable threads holders thread id
  writable_by_thread [] id = refl
  writable_by_thread (h ∷ holders) id = λ i. ((eqb h.id id && together_is h.thread i) && allows_writing h.right) || writable_by_thread holders id i

  free_by_thread : (holders : List Holder) (key : ℕ) → is_free_in processes holders process key ≡ is_free_key threads holders thread key
  free_by_thread [] key = refl
  free_by_thread (h ∷ holders) key = λ i. not (eqb h.key key && together_is h.thread i) && free_by_thread holders key i

  pub mapping_by_thread : (holders : List Holder) (id : ℕ) → mapping_of processes holders process id ≡ mapping_for threads holders thread id
  mapping_by_thread holders id = λ i. mapping_by (key_by_thread holders id i) (writable_by_thread holders id i)

  pub key_for_by_thread : (holders : List Holder) (id : ℕ) → key_for_in processes holders process id ≡ key_for threads holders thread id
  key_for_by_thread holders id =
      λ i. or_key (key_by_thread holders id i) (first_of (filter_agree (is_free_in processes holders process) (is_free_key threads holders thread) (free_by_thread holders) (range_with_len 1 15) i))
