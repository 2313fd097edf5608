-- The marks that a pending word keeps, and what they show.
use Rattle.std.proofs.Common.{◌≡◌, ◌≢◌, ℕ, zero, suc, ◌-◌, ◌/◌, ◌<◌, ◌≤◌, Bool, true, false, cond, List, [], ◌∷◌, ◌++◌, map, length, length-drop, drop, slice_index_or, slice_set, nat_eq, refl, sym, ap, subst, ◌∙◌, inl, inr, ◌⊎◌, arith}
use Rattle.std.proofs.lemmas.Bool.{cases_eq, eq-eqb, ne_eqb}
use Rattle.pm_words.specs.declared.pending.Mark.{Mark}
use Rattle.pm_words.specs.declared.pending.Older.{Older}
use Rattle.pm_words.specs.Marks.{mark_at, put_mark, less_marks}
use Rattle.pm_words.specs.View.{Held, held_at, look, look_at, lowered, count_at, marks_of, marks_at}
use Rattle.pm_words.proofs.MarkLemmas.{IsTrimmed, equal_marks, trimmed_put, trimmed_less, mark_put, mark_put_same, mark_put_other, mark_less}

trimmed_of : (place : ℕ) (older : List Older) (ms : List Mark) → IsTrimmed (marks_of place older ms)
trimmed_of place older [] = refl
trimmed_of place older (m ∷ ms) = trimmed_put (marks_of place older ms) m.thread (count_at place m.gone older)

mark_of : (place : ℕ) (older : List Older) (ms : List Mark) (t : ℕ) → mark_at (marks_of place older ms) t ≡ count_at place (look ms t) older
mark_of place older [] t = refl
mark_of place older (m ∷ ms) t = mark_put (marks_of place older ms) m.thread (count_at place m.gone older) t ∙ by (nat_eq t m.thread) (mark_of place older ms t)
  where
    by : (b : Bool) → mark_at (marks_of place older ms) t ≡ count_at place (look ms t) older
        → cond b (count_at place m.gone older) (mark_at (marks_of place older ms) t) ≡ count_at place (cond b m.gone (look ms t)) older
    by true rest = refl
    by false rest = rest

trimmed_marks : (entries : List (ℕ × Held)) (place : ℕ) → IsTrimmed (marks_at entries place)
trimmed_marks entries place = trimmed_of place (held_at entries (place / 8)).older (held_at entries (place / 8)).marks

-- the marks by the numbers of threads show what a look-up finds
pub mark_look : (entries : List (ℕ × Held)) (place t : ℕ) → mark_at (marks_at entries place) t ≡ look_at entries place t
mark_look entries place t = mark_of place (held_at entries (place / 8)).older (held_at entries (place / 8)).marks t

-- marks that show the same
pub same_marks : (new old : List (ℕ × Held)) (k : ℕ) → ((t : ℕ) → look_at new k t ≡ look_at old k t) → marks_at new k ≡ marks_at old k
same_marks new old k same = equal_marks _ _ (trimmed_marks new k) (trimmed_marks old k) (λ t. mark_look new k t ∙ same t ∙ sym (mark_look old k t))

-- marks after a flush
pub flushed_marks : (new old : List (ℕ × Held)) (k thread gone : ℕ) → look_at new k thread ≡ gone → ((t : ℕ) → t ≢ thread → look_at new k t ≡ look_at old k t)
    → marks_at new k ≡ put_mark (marks_at old k) thread gone
flushed_marks new old k thread gone own others =
    equal_marks _ _ (trimmed_marks new k) (trimmed_put (marks_at old k) thread gone) (λ t. mark_look new k t ∙ at t (cases_eq t thread))
  where
    at : (t : ℕ) → (t ≡ thread) ⊎ (t ≡ thread → ⊥) → look_at new k t ≡ mark_at (put_mark (marks_at old k) thread gone) t
    at t (inl e) =
        subst (λ (u : ℕ). look_at new k u ≡ mark_at (put_mark (marks_at old k) thread gone) u) (sym e) (own ∙ sym (mark_put_same (marks_at old k) thread gone))
    at t (inr ne) = others t ne ∙ sym (mark_look old k t) ∙ sym (mark_put_other (marks_at old k) thread gone t ne)

-- marks after a fence
pub fenced_marks : (new old : List (ℕ × Held)) (k thread : ℕ) → ((t : ℕ) → look_at new k t ≡ look_at old k t - look_at old k thread)
    → marks_at new k ≡ less_marks (mark_at (marks_at old k) thread) (marks_at old k)
fenced_marks new old k thread lowered =
    equal_marks _ _ (trimmed_marks new k) (trimmed_less (mark_at (marks_at old k) thread) (marks_at old k)) (λ t.
    let one = mark_look old k t in
    let two = mark_look old k thread in
    let three = mark_less (mark_at (marks_at old k) thread) (marks_at old k) t in
    let four = mark_look new k t in
    let five = lowered t in
    omega (arith, one, two, three, four, five))

-- a look-up after other marks, none of which is the thread's
pub look_behind : (ms rest : List Mark) (t : ℕ) → ((k : ℕ) (d : Mark) → k < length ms → (slice_index_or ms k d).thread ≢ t) → look (ms ++ rest) t ≡ look rest t
look_behind [] rest t none = refl
look_behind (m ∷ ms) rest t none =
    ap (λ (b : Bool). cond b m.gone (look (ms ++ rest) t)) (ne_eqb t m.thread (λ e. none 0 m (omega arith) (sym e)))
    ∙ look_behind ms rest t (λ k d lt. none (suc k) d (omega arith))

-- a look-up after the first mark of a thread was changed
pub look_replaced : (ms : List Mark) (i : ℕ) (m : Mark) (t : ℕ) → i < length ms → m.thread ≡ t → ((k : ℕ) (d : Mark) → k < i → (slice_index_or ms k d).thread ≢ t) → look (slice_set ms i m) t ≡ m.gone
look_replaced [] i m t lt own none = absurd (omega arith)
look_replaced (x ∷ ms) zero m t lt own none = ap (λ (b : Bool). cond b m.gone (look ms t)) (eq-eqb t m.thread (sym own))
look_replaced (x ∷ ms) (suc i) m t lt own none =
    ap (λ (b : Bool). cond b x.gone (look (slice_set ms i m) t)) (ne_eqb t x.thread (λ e. none 0 x (omega arith) (sym e)))
    ∙ look_replaced ms i m t (omega arith) own (λ k d l. none (suc k) d (omega arith))

-- and of the other threads
pub look_kept : (ms rest : List Mark) (i : ℕ) (m : Mark) (t : ℕ) → i < length ms → m.thread ≢ t → (slice_index_or ms i m).thread ≢ t → look (slice_set ms i m ++ rest) t ≡ look (ms ++ rest) t
look_kept [] rest i m t lt new old = absurd (omega arith)
look_kept (x ∷ ms) rest zero m t lt new old =
    ap (λ (b : Bool). cond b m.gone (look (ms ++ rest) t)) (ne_eqb t m.thread (λ e. new (sym e)))
    ∙ sym (ap (λ (b : Bool). cond b x.gone (look (ms ++ rest) t)) (ne_eqb t x.thread (λ e. old (sym e))))
look_kept (x ∷ ms) rest (suc i) m t lt new old =
    ap (λ (n : ℕ). cond (nat_eq t x.thread) x.gone n) (look_kept ms rest i m t (omega arith) new old)

-- and after all were lowered
pub look_lowered : (gone : ℕ) (ms : List Mark) (t : ℕ) → look (map (lowered gone) ms) t ≡ look ms t - gone
look_lowered gone [] t = let none : 0 ≡ 0 - gone = omega arith in none
look_lowered gone (m ∷ ms) t = by (nat_eq t m.thread) (look_lowered gone ms t)
  where
    by : (b : Bool) → look (map (lowered gone) ms) t ≡ look ms t - gone → cond b (m.gone - gone) (look (map (lowered gone) ms) t) ≡ cond b m.gone (look ms t) - gone
    by true rest = refl
    by false rest = rest

-- a mark that comes last, of another thread
pub look_pushed : (ms : List Mark) (m : Mark) (t : ℕ) → t ≢ m.thread → look (ms ++ m ∷ []) t ≡ look ms t
look_pushed [] m t ne = ap (λ (b : Bool). cond b m.gone 0) (ne_eqb t m.thread ne)
look_pushed (x ∷ ms) m t ne = ap (λ (n : ℕ). cond (nat_eq t x.thread) x.gone n) (look_pushed ms m t ne)

-- a fence lowers all marks by the thread's own, and the values that went are the thread's
module _ (older older' : List Older) (ms ms' : List Mark) (thread gone : ℕ) (own : gone ≡ look ms thread) (lower : ms' ≡ map (lowered gone) ms) where
  pub fenced_look : (t : ℕ) → look ms' t ≡ look ms t - look ms thread
  fenced_look t = ap (λ (l : List Mark). look l t) lower ∙ look_lowered gone ms t ∙ ap (λ (n : ℕ). look ms t - n) own

  pub fenced_bound : older' ≡ drop gone older → ((t : ℕ) → look ms t ≤ length older) → (t : ℕ) → look ms' t ≤ length older'
  fenced_bound left bound t =
      let one = ap (λ (l : List Mark). look l t) lower in
      let two = look_lowered gone ms t in
      let three = ap (λ (l : List Older). length l) left in
      let four = length-drop gone older in
      let five = bound t in
      omega (arith, one, two, three, four, five)
