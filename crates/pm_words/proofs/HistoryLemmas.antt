-- What is kept of a word shows its whole history.
use Rattle.std.proofs.Common.{◌≡◌, ◌≢◌, ℕ, ◌+◌, ◌-◌, ◌≤◌, ◌==◌, Bool, true, false, cond, max, if◌then◌else◌, List, [], ◌∷◌, length, length-append, length-drop, drop, drop-drop, nat_eq, fold, slice_index_or, refl, sym, ap, subst, ◌∙◌, inl, inr, ◌⊎◌, arith}
use Rattle.std.proofs.lemmas.Bool.{cases_eq, eq-eqb, ne_eqb}
use Rattle.std.proofs.lemmas.List.{drop-append-le}
use Rattle.pm_words.specs.Marks.{mark_at, put_mark, less_marks}
use Rattle.pm_words.specs.Word.{Word, settled, stored, flushed, fenced, crash_list}
use Rattle.pm_words.specs.History.{Full, history, place_of, without, Event, full_stored, full_step, word_step, past, seen, IsFull, Shows, KeepsAll}
use Rattle.pm_words.specs.History.Event.{Store, Cas, Flush, Fence, Crash}
use Rattle.pm_words.proofs.MarkLemmas.{IsTrimmed, equal_marks, trimmed_put, trimmed_less, mark_put, mark_put_same, mark_put_other, mark_less}

trimmed_past : (floor : ℕ) (ms : List (ℕ × ℕ)) → IsTrimmed (past floor ms)
trimmed_past floor [] = refl
trimmed_past floor (m ∷ ms) = trimmed_put (past floor ms) m.0 (m.1 - floor)

mark_past : (floor : ℕ) (ms : List (ℕ × ℕ)) (t : ℕ) → mark_at (past floor ms) t ≡ place_of ms t - floor
mark_past floor [] t = let none : 0 ≡ 0 - floor = omega arith in none
mark_past floor (m ∷ ms) t = mark_put (past floor ms) m.0 (m.1 - floor) t ∙ by (nat_eq t m.0) (mark_past floor ms t)
  where
    by : (b : Bool) → mark_at (past floor ms) t ≡ place_of ms t - floor → cond b (m.1 - floor) (mark_at (past floor ms) t) ≡ cond b m.1 (place_of ms t) - floor
    by true rest = refl
    by false rest = rest

-- no mark of the thread is left
place_gone : (t : ℕ) (ms : List (ℕ × ℕ)) → place_of (without t ms) t ≡ 0
place_gone t [] = refl
place_gone t (m ∷ ms) = by (nat_eq t m.0) refl (place_gone t ms)
  where
    by : (b : Bool) → nat_eq t m.0 ≡ b → place_of (without t ms) t ≡ 0 → place_of (cond b (without t ms) (m ∷ without t ms)) t ≡ 0
    by true e rest = rest
    by false e rest = ap (λ (b : Bool). cond b m.1 (place_of (without t ms) t)) e ∙ rest

-- and the others stay
place_stays : (t u : ℕ) (ms : List (ℕ × ℕ)) → u ≢ t → place_of (without t ms) u ≡ place_of ms u
place_stays t u [] ne = refl
place_stays t u (m ∷ ms) ne = by (cases_eq t m.0) (place_stays t u ms ne)
  where
    by : (t ≡ m.0) ⊎ (t ≡ m.0 → ⊥) → place_of (without t ms) u ≡ place_of ms u → place_of (without t (m ∷ ms)) u ≡ place_of (m ∷ ms) u
    by (inl e) rest =
        ap (λ (b : Bool). place_of (cond b (without t ms) (m ∷ without t ms)) u) (eq-eqb t m.0 e)
        ∙ rest
        ∙ sym (ap (λ (b : Bool). cond b m.1 (place_of ms u)) (ne_eqb u m.0 (λ d. ne (d ∙ sym e))))
    by (inr apart) rest =
        ap (λ (b : Bool). place_of (cond b (without t ms) (m ∷ without t ms)) u) (ne_eqb t m.0 apart)
        ∙ ap (λ (n : ℕ). cond (nat_eq u m.0) m.1 n) rest

place_within : (t u : ℕ) (ms : List (ℕ × ℕ)) → place_of (without t ms) u ≤ place_of ms u
place_within t u ms = by (cases_eq u t)
  where
    by : (u ≡ t) ⊎ (u ≡ t → ⊥) → place_of (without t ms) u ≤ place_of ms u
    by (inl e) = let gone = subst (λ (v : ℕ). place_of (without t ms) v ≡ 0) (sym e) (place_gone t ms) in omega (arith, gone)
    by (inr ne) = let same = place_stays t u ms ne in omega (arith, same)

pub list_seen : (f : Full) → IsFull f → crash_list (seen f) ≡ drop f.floor (history f)
list_seen f ok = sym (drop-append-le f.floor f.before (f.present ∷ []) ok.floor)

store_seen : (value : ℕ) (f : Full) → IsFull f → seen (full_stored value f) ≡ stored value (seen f)
store_seen value f ok = let older = drop-append-le f.floor f.before (f.present ∷ []) ok.floor in λ i. record { older = older i; present = value; marks = past f.floor f.marks }

flush_seen : (thread : ℕ) (f : Full) → seen (full_step f (Flush thread)) ≡ flushed thread (seen f)
flush_seen thread f = λ i. record { older = drop f.floor f.before; present = f.present; marks = marks i }
  where
    new : ℕ
    new = length f.before - f.floor

    at : (u : ℕ) → (u ≡ thread) ⊎ (u ≡ thread → ⊥) → mark_at (put_mark (past f.floor (without thread f.marks)) thread new) u ≡ mark_at (put_mark (past f.floor f.marks) thread (length (drop f.floor f.before))) u
    at u (inl e) =
        subst (λ (v : ℕ). mark_at (put_mark (past f.floor (without thread f.marks)) thread new) v ≡ mark_at (put_mark (past f.floor f.marks) thread (length (drop f.floor f.before))) v) (sym e)
        (mark_put_same _ thread new ∙ sym (length-drop f.floor f.before) ∙ sym (mark_put_same _ thread _))
    at u (inr ne) =
        mark_put_other _ thread new u ne
        ∙ mark_past f.floor (without thread f.marks) u
        ∙ ap (λ (n : ℕ). n - f.floor) (place_stays thread u f.marks ne)
        ∙ sym (mark_past f.floor f.marks u)
        ∙ sym (mark_put_other _ thread _ u ne)

    marks : put_mark (past f.floor (without thread f.marks)) thread new ≡ put_mark (past f.floor f.marks) thread (length (drop f.floor f.before))
    marks = equal_marks _ _ (trimmed_put _ thread _) (trimmed_put _ thread _) (λ u. at u (cases_eq u thread))

fence_seen : (thread : ℕ) (f : Full) → seen (full_step f (Fence thread)) ≡ fenced thread (seen f)
fence_seen thread f = λ i. record { older = older i; present = f.present; marks = marks i }
  where
    gone : ℕ
    gone = mark_at (past f.floor f.marks) thread

    gone_is : gone ≡ place_of f.marks thread - f.floor
    gone_is = mark_past f.floor f.marks thread

    older : drop (max f.floor (place_of f.marks thread)) f.before ≡ drop gone (drop f.floor f.before)
    older =
        let sum : max f.floor (place_of f.marks thread) ≡ f.floor + gone = omega (arith, gone_is) in
        ap (λ (n : ℕ). drop n f.before) sum ∙ sym (drop-drop gone f.floor f.before)

    at : (u : ℕ) → (u ≡ thread) ⊎ (u ≡ thread → ⊥) → place_of (without thread f.marks) u - max f.floor (place_of f.marks thread) ≡ (place_of f.marks u - f.floor) - (place_of f.marks thread - f.floor)
    at u (inl e) =
        let none = subst (λ (v : ℕ). place_of (without thread f.marks) v ≡ 0) (sym e) (place_gone thread f.marks) in
        let same : place_of f.marks u ≡ place_of f.marks thread = ap (λ (v : ℕ). place_of f.marks v) e in
        omega (arith, none, same)
    at u (inr ne) = let same = place_stays thread u f.marks ne in omega (arith, same)

    marks : past (max f.floor (place_of f.marks thread)) (without thread f.marks) ≡ less_marks gone (past f.floor f.marks)
    marks = equal_marks _ _ (trimmed_past _ (without thread f.marks)) (trimmed_less gone (past f.floor f.marks)) (λ u.
        mark_past _ (without thread f.marks) u
        ∙ at u (cases_eq u thread)
        ∙ ap (λ (n : ℕ). (place_of f.marks u - f.floor) - n) (sym gone_is)
        ∙ ap (λ (n : ℕ). n - gone) (sym (mark_past f.floor f.marks u))
        ∙ sym (mark_less gone (past f.floor f.marks) u))

seen_step : (e : Event) (f : Full) → IsFull f → seen (full_step f e) ≡ word_step (seen f) e
seen_step (Store value) f ok = store_seen value f ok
seen_step (Cas old new) f ok = by (f.present == old)
  where
    by : (b : Bool) → seen (if b then full_stored new f else f) ≡ (if b then stored new (seen f) else seen f)
    by true = store_seen new f ok
    by false = refl
seen_step (Flush thread) f ok = flush_seen thread f
seen_step (Fence thread) f ok = fence_seen thread f
seen_step (Crash index) f ok = ap (λ (l : List ℕ). settled (slice_index_or l index f.present)) (sym (list_seen f ok))

stored_stays : (value : ℕ) (f : Full) → IsFull f → IsFull (full_stored value f)
stored_stays value f ok =
    let len = length-append f.before (f.present ∷ []) in
    let low = ok.floor in
    record { floor = omega (arith, len, low); marks = λ t. let m = ok.marks t in omega (arith, len, m) }

full_stays : (e : Event) (f : Full) → IsFull f → IsFull (full_step f e)
full_stays (Store value) f ok = stored_stays value f ok
full_stays (Cas old new) f ok = by (f.present == old)
  where
    by : (b : Bool) → IsFull (if b then full_stored new f else f)
    by true = stored_stays new f ok
    by false = ok
full_stays (Flush thread) f ok = record { floor = ok.floor; marks = λ t. at t (nat_eq t thread) }
  where
    at : (t : ℕ) (b : Bool) → cond b (length f.before) (place_of (without thread f.marks) t) ≤ length f.before
    at t true = omega arith
    at t false = let m = ok.marks t in let w = place_within thread t f.marks in omega (arith, m, w)
full_stays (Fence thread) f ok =
    let low = ok.floor in
    let own = ok.marks thread in
    record { floor = omega (arith, low, own); marks = λ t. let m = ok.marks t in let w = place_within thread t f.marks in omega (arith, m, w) }
full_stays (Crash index) f ok = record { floor = omega arith; marks = λ t. omega arith }

pub keeps_all : KeepsAll
keeps_all [] f ok = record { seen = refl; list = list_seen f ok }
keeps_all (e ∷ es) f ok =
    subst (λ (w : Word). Shows (fold full_step (full_step f e) es) (fold word_step w es)) (seen_step e f ok)
    (keeps_all es (full_step f e) (full_stays e f ok))
