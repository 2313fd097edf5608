-- Lines, and the places of their words, that show the same, that were flushed and that were fenced.
use Rattle.std.proofs.Common.{◌≡◌, ◌≢◌, ℕ, ◌+◌, ◌-◌, ◌/◌, ◌<◌, ◌≤◌, Bool, true, false, List, [], ◌∷◌, ◌++◌, drop, length, length-append, length-drop, refl, sym, ap, subst, ◌∙◌, inl, inr, ◌⊎◌, arith, slice_index_or, Contains, Result, Ok, Err, OnOk, OnErr}
use Rattle.std.proofs.lemmas.Bool.{cases_eq, cases_lt}
use Rattle.std.proofs.lemmas.List.{get_or_default, drop_all}
use Rattle.pm_words.specs.declared.pending.Older.{Older}
use Rattle.pm_words.specs.View.{Held, no_held, held_at, look, look_at, values_at, count_at, older_at, IsSameAt, IsFlushedAt, IsFencedAt, IsKept, IsFlushed, IsFenced, AreOfLine, IsLine}
use Rattle.pm_words.proofs.LogLemmas.{values_push, values_push_other, values_drop, count_drop, count_all, count_append, of_line_push, of_line_drop}

pub on_ok : {T E : Type 0} {P Q : Type 0} (r : Result T E) → (P → Q) → OnOk r P → OnOk r Q
on_ok (Ok v) f p = f p
on_ok (Err e) f p = tt

pub on_all : {T E : Type 0} {P : Type 0} (r : Result T E) → P → OnOk r P
on_all (Ok v) p = p
on_all (Err e) p = tt

pub on_each : {T E : Type 0} {P Q R : Type 0} (r : Result T E) → (P → R) → (Q → R) → OnOk r P → OnErr r Q → R
on_each (Ok v) f g p q = f p
on_each (Err e) f g p q = g q

pub on_err_map : {T E : Type 0} {P Q : Type 0} (r : Result T E) → (P → Q) → OnErr r P → OnErr r Q
on_err_map (Ok v) f p = tt
on_err_map (Err e) f p = f p

pub on_err : {T E : Type 0} {P : Type 0} (r : Result T E) → P → OnErr r P
on_err (Ok v) p = tt
on_err (Err e) p = p

-- a place of a line that shows the same
pub same_at : (old new : List (ℕ × Held)) (k : ℕ) → held_at new (k / 8) ≡ held_at old (k / 8) → IsSameAt old new k
same_at old new k same = record {
  older = ap (λ (h : Held). values_at k h.older) same;
  marks = λ t. ap (λ (h : Held). count_at k (look h.marks t) h.older) same;
}

-- a place of a line that was flushed
pub flushed_at : (thread : ℕ) (old new : List (ℕ × Held)) (k : ℕ) → IsFlushed thread (held_at old (k / 8)) (held_at new (k / 8)) → IsFlushedAt thread old new k
flushed_at thread old new k f =
    let was = held_at old (k / 8) in
    let now = held_at new (k / 8) in
    record {
      older = ap (λ (l : List Older). values_at k l) f.older;
      own = ap (λ (n : ℕ). count_at k n now.older) f.own ∙ ap (λ (l : List Older). count_at k (length was.older) l) f.older ∙ count_all k was.older;
      others = λ t ne. ap (λ (n : ℕ). count_at k n now.older) (f.others t ne) ∙ ap (λ (l : List Older). count_at k (look was.marks t) l) f.older;
    }

-- a place of a line that was fenced
pub fenced_at : (thread : ℕ) (old new : List (ℕ × Held)) (k : ℕ) → IsFenced thread (held_at old (k / 8)) (held_at new (k / 8)) → IsFencedAt thread old new k
fenced_at thread old new k f =
    let was = held_at old (k / 8) in
    let now = held_at new (k / 8) in
    record {
      older = ap (λ (l : List Older). values_at k l) f.older ∙ values_drop k (look was.marks thread) was.older;
      marks = λ t. ap (λ (n : ℕ). count_at k n now.older) (f.marks t)
          ∙ ap (λ (l : List Older). count_at k (look was.marks t - look was.marks thread) l) f.older
          ∙ count_drop k (look was.marks t) (look was.marks thread) was.older;
    }

-- the places of a line that keeps one more older value, and all others
module _ (old new : List (ℕ × Held)) (place value : ℕ) (kept : IsKept place value (held_at old (place / 8)) (held_at new (place / 8)))
    (others : (l : ℕ) → l ≢ place / 8 → held_at new l ≡ held_at old l)
    (bound : (t : ℕ) → look (held_at old (place / 8)).marks t ≤ length (held_at old (place / 8)).older) where
  abbrev entry : Older
  entry = record { place = place; value = value }

  pub kept_here : older_at new place ≡ older_at old place ++ value ∷ []
  kept_here = ap (λ (l : List Older). values_at place l) kept.older ∙ values_push (held_at old (place / 8)).older entry

  pub kept_others : (k : ℕ) → k ≢ place → older_at new k ≡ older_at old k
  kept_others k ne = at (cases_eq (k / 8) (place / 8))
    where
      at : (k / 8 ≡ place / 8) ⊎ (k / 8 ≡ place / 8 → ⊥) → older_at new k ≡ older_at old k
      at (inl e) =
          ap (λ (l : ℕ). values_at k (held_at new l).older) e
          ∙ ap (λ (l : List Older). values_at k l) kept.older
          ∙ values_push_other k (held_at old (place / 8)).older entry ne
          ∙ sym (ap (λ (l : ℕ). values_at k (held_at old l).older) e)
      at (inr apart) = (same_at old new k (others (k / 8) apart)).older

  pub kept_marks : (k t : ℕ) → look_at new k t ≡ look_at old k t
  kept_marks k t = at (cases_eq (k / 8) (place / 8))
    where
      at : (k / 8 ≡ place / 8) ⊎ (k / 8 ≡ place / 8 → ⊥) → look_at new k t ≡ look_at old k t
      at (inl e) =
          ap (λ (l : ℕ). count_at k (look (held_at new l).marks t) (held_at new l).older) e
          ∙ ap (λ (l : List Older). count_at k (look (held_at new (place / 8)).marks t) l) kept.older
          ∙ ap (λ ms. count_at k (look ms t) ((held_at old (place / 8)).older ++ entry ∷ [])) kept.marks
          ∙ count_append k (look (held_at old (place / 8)).marks t) (held_at old (place / 8)).older (entry ∷ []) (bound t)
          ∙ sym (ap (λ (l : ℕ). count_at k (look (held_at old l).marks t) (held_at old l).older) e)
      at (inr apart) = (same_at old new k (others (k / 8) apart)).marks t

  -- and no line's marks change
  pub kept_looks : (l t : ℕ) → look (held_at new l).marks t ≡ look (held_at old l).marks t
  kept_looks l t = at (cases_eq l (place / 8))
    where
      at : (l ≡ place / 8) ⊎ (l ≡ place / 8 → ⊥) → look (held_at new l).marks t ≡ look (held_at old l).marks t
      at (inl e) = subst (λ (j : ℕ). look (held_at new j).marks t ≡ look (held_at old j).marks t) (sym e) (ap (λ ms. look ms t) kept.marks)
      at (inr apart) = ap (λ (h : Held). look h.marks t) (others l apart)

-- lines that are all as they were
pub held_same : (old new : List (ℕ × Held)) (line : ℕ) → held_at new line ≡ held_at old line → ((l : ℕ) → l ≢ line → held_at new l ≡ held_at old l) → (l : ℕ) → held_at new l ≡ held_at old l
held_same old new line here others l = at (cases_eq l line)
  where
    at : (l ≡ line) ⊎ (l ≡ line → ⊥) → held_at new l ≡ held_at old l
    at (inl e) = subst (λ (j : ℕ). held_at new j ≡ held_at old j) (sym e) here
    at (inr ne) = others l ne

-- a line with one older value more
pub line_kept : (count line place value : ℕ) (old new : Held) → IsLine count line old → place / 8 ≡ line → IsKept place value old new → IsLine count line new
line_kept count line place value old new is at kept =
    let entry : Older = record { place = place; value = value } in
    record {
      inside = is.inside;
      some = let len = ap (λ (l : List Older). length l) kept.older in let both = length-append old.older (entry ∷ []) in omega (arith, len, both);
      places = subst (AreOfLine line) (sym kept.older) (of_line_push line old.older entry is.places at);
    }

-- a line with one older value more, where there was room for it
pub line_kept_or_same : (fits : Bool) (count line place value : ℕ) (old new : Held) → IsLine count line old → place / 8 ≡ line → (fits ≡ true → IsKept place value old new)
    → (fits ≡ false → new ≡ old) → IsLine count line new
line_kept_or_same true count line place value old new is at kept same = line_kept count line place value old new is at (kept refl)
line_kept_or_same false count line place value old new is at kept same = subst (IsLine count line) (sym (same refl)) is

-- a line that is pending after a fence
pub line_fenced : (count line thread : ℕ) (old new : Held) → IsLine count line old → look old.marks thread < length old.older → IsFenced thread old new → IsLine count line new
line_fenced count line thread old new is less f = record {
  inside = is.inside;
  some = let len = ap (λ (l : List Older). length l) f.older in let left = length-drop (look old.marks thread) old.older in omega (arith, len, left, less);
  places = subst (AreOfLine line) (sym f.older) (of_line_drop line (look old.marks thread) old.older is.places);
}

-- a line of which a fence leaves nothing
pub fenced_away : (thread : ℕ) (old : Held) → length old.older ≤ look old.marks thread → ((t : ℕ) → look old.marks t ≤ length old.older) → IsFenced thread old no_held
fenced_away thread old all bound = record {
  older = sym (drop_all (look old.marks thread) old.older all);
  marks = λ t. let most = bound t in omega (arith, most, all);
}

pub same_fenced : (thread : ℕ) (a b c : Held) → b ≡ a → IsFenced thread b c → IsFenced thread a c
same_fenced thread a b c same f = subst (λ (h : Held). IsFenced thread h c) same f

pub fenced_same : (thread : ℕ) (a b c : Held) → IsFenced thread a b → c ≡ b → IsFenced thread a c
fenced_same thread a b c f same = subst (λ (h : Held). IsFenced thread a h) (sym same) f

-- a second fence finds no mark of the thread
pub fenced_twice : (thread : ℕ) (a b c : Held) → IsFenced thread a b → IsFenced thread b c → IsFenced thread a c
fenced_twice thread a b c one two =
    let own = one.marks thread in
    let none : look b.marks thread ≡ 0 = omega (arith, own) in
    record {
      older = two.older ∙ ap (λ (n : ℕ). drop n b.older) none ∙ one.older;
      marks = λ t. let here = one.marks t in let there = two.marks t in omega (arith, none, here, there);
    }

-- a line where the thread has no mark is as after its fence
pub unmarked_fenced : (thread : ℕ) (a b : Held) → b ≡ a → look a.marks thread ≡ 0 → IsFenced thread a b
unmarked_fenced thread a b same none = record {
  older = ap (λ (h : Held). h.older) same ∙ sym (ap (λ (n : ℕ). drop n a.older) none);
  marks = λ t. let here = ap (λ (h : Held). look h.marks t) same in omega (arith, none, here);
}

-- a line once a fence has come to the lines of a list from `left` on: it was fenced, or is as it was and none of these
abbrev pub IsSoFar : ℕ → List ℕ → ℕ → List (ℕ × Held) → List (ℕ × Held) → ℕ → Type 0
IsSoFar thread lines left old now l =
    IsFenced thread (held_at old l) (held_at now l) ⊎ ((held_at now l ≡ held_at old l) × ((j : ℕ) → left ≤ j → j < length lines → slice_index_or lines j 0 ≢ l))

-- one line more
module _ (thread : ℕ) (lines : List ℕ) (left line : ℕ) (old now new : List (ℕ × Held)) (is : line ≡ slice_index_or lines left 0)
    (fenced : IsFenced thread (held_at now line) (held_at new line))
    (others : (l : ℕ) → l ≢ line → held_at new l ≡ held_at now l) where
  step : (l : ℕ) → IsSoFar thread lines (left + 1) old now l → (l ≡ line) ⊎ (l ≡ line → ⊥) → IsSoFar thread lines left old new l
  step l so (inl e) = subst (λ (j : ℕ). IsSoFar thread lines left old new j) (sym e) (inl (here (subst (λ (j : ℕ). IsSoFar thread lines (left + 1) old now j) e so)))
    where
      here : IsSoFar thread lines (left + 1) old now line → IsFenced thread (held_at old line) (held_at new line)
      here (inl done) = fenced_twice thread (held_at old line) (held_at now line) (held_at new line) done fenced
      here (inr (same, none)) = same_fenced thread (held_at old line) (held_at now line) (held_at new line) same fenced
  step l (inl done) (inr ne) = inl (fenced_same thread (held_at old l) (held_at now l) (held_at new l) done (others l ne))
  step l (inr (same, none)) (inr ne) = inr (others l ne ∙ same, λ j from lt. at_line j from lt (cases_lt left j))
    where
      at_line : (j : ℕ) → left ≤ j → j < length lines → (left < j) ⊎ (j ≤ left) → slice_index_or lines j 0 ≢ l
      at_line j from lt (inl less) = none j (omega arith) lt
      at_line j from lt (inr le) = λ e. let at : j ≡ left = omega arith in ne (sym (is ∙ ap (λ (i : ℕ). slice_index_or lines i 0) (sym at) ∙ e))

  pub so_far_more : (l : ℕ) → IsSoFar thread lines (left + 1) old now l → IsSoFar thread lines left old new l
  so_far_more l so = step l so (cases_eq l line)

-- all lines of a list that has each line where the thread has a mark
pub so_far_all : (thread : ℕ) (lines : List ℕ) (old now : List (ℕ × Held)) → ((l : ℕ) → 0 < look (held_at old l).marks thread → Contains lines l) → (l : ℕ) → IsSoFar thread lines 0 old now l → IsFenced thread (held_at old l) (held_at now l)
so_far_all thread lines old now noted l (inl done) = done
so_far_all thread lines old now noted l (inr (same, none)) =
    unmarked_fenced thread (held_at old l) (held_at now l) same (zero_or (cases_lt 0 (look (held_at old l).marks thread)))
  where
    zero_or : (0 < look (held_at old l).marks thread) ⊎ (look (held_at old l).marks thread ≤ 0) → look (held_at old l).marks thread ≡ 0
    zero_or (inl some) = found (noted l some)
      where
        found : Contains lines l → look (held_at old l).marks thread ≡ 0
        found (j, lt, e) = absurd (none j (omega arith) lt (get_or_default lines j 0 l lt ∙ e))
    zero_or (inr le) = omega arith
