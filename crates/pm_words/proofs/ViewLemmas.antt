-- The words that present values and entries of older values and marks stand for.
use Rattle.std.proofs.Common.{◌≡◌, ◌≢◌, ℕ, ◌+◌, ◌*◌, ◌/◌, ◌<◌, ◌==◌, Bool, if◌then◌else◌, drop, refl, List, [], ◌∷◌, ◌++◌, length, slice_index_or, slice_set, sym, ap, subst, ◌∙◌, inl, inr, ◌⊎◌, arith, get_or-set_same, get_or-set_other}
use Rattle.std.proofs.lemmas.Bool.{cases_eq, eq-eqb, ne_eqb}
use Rattle.std.proofs.lemmas.List.{length-set, length-map, get_or-map, get_or_default, same_lists}
use Rattle.std.proofs.lemmas.List.FromFn.{length-enumerate_from, get_or-enumerate_from}
use Rattle.std.specs.List.{enumerate_from}
use Rattle.pm_words.specs.Word.{Word, settled, stored, flushed, fenced}
use Rattle.pm_words.specs.Marks.{mark_at}
use Rattle.pm_words.specs.declared.choice.Choice.{Choice}
use Rattle.pm_words.specs.Crash.{picked, after_crash}
use Rattle.pm_words.specs.Memory.{store_at, flush_at, fence_by, each_word, present_values, all_durable, IsAddress}
use Rattle.pm_words.specs.View.{Held, held_at, look, older_at, look_at, marks_at, word_of, words_of, IsSameAt, IsFlushedAt, IsFencedAt, ArePending, IsSound}
use Rattle.pm_words.proofs.HeldLemmas.{mark_look, same_marks, flushed_marks, fenced_marks}

pub length_words_of : (entries : List (ℕ × Held)) (present : List ℕ) → length (words_of entries present) ≡ length present
length_words_of entries present = length-map (enumerate_from 0 present) (λ p. word_of entries p.0 p.1) ∙ length-enumerate_from 0 present

-- the word at a place has the older values there and the present value there
pub words_of_at : (entries : List (ℕ × Held)) (present : List ℕ) (k : ℕ) (d : Word) → k < length present → slice_index_or (words_of entries present) k d ≡ word_of entries k (slice_index_or present k 0)
words_of_at entries present k d lt =
    let inside : k < length (enumerate_from 0 present) = let l = length-enumerate_from 0 present in omega arith in
    let place : 0 + k ≡ k = omega arith in
    get_or-map (λ (p : ℕ × ℕ). word_of entries p.0 p.1) (enumerate_from 0 present) k (0, 0) d inside
    ∙ ap (λ (p : ℕ × ℕ). word_of entries p.0 p.1) (get_or-enumerate_from 0 present k (0, 0) lt)
    ∙ ap (λ (j : ℕ). word_of entries j (slice_index_or present k 0)) place

-- a place that shows the same, with the same present value
same_word : (old new : List (ℕ × Held)) (k value : ℕ) → IsSameAt old new k → word_of new k value ≡ word_of old k value
same_word old new k value same =
    let marks = same_marks new old k same.marks in
    λ i. record { older = same.older i; present = value; marks = marks i }

-- places that show the same, and one present list, make equal words
pub same_words : (old new : List (ℕ × Held)) (present : List ℕ) → ((k : ℕ) → IsSameAt old new k) → words_of new present ≡ words_of old present
same_words old new present same =
    same_lists _ _ (length_words_of new present ∙ sym (length_words_of old present)) (λ k d h.
    let lt : k < length present = let l = length_words_of new present in omega arith in
    words_of_at new present k d lt
    ∙ same_word old new k (slice_index_or present k 0) (same k)
    ∙ sym (words_of_at old present k d lt))

-- with no entry every word is durable
pub no_entries : (entries : List (ℕ × Held)) (present : List ℕ) → entries ≡ [] → words_of entries present ≡ all_durable present
no_entries entries present none =
    same_lists _ _ (length_words_of entries present ∙ sym (length-map present settled)) (λ k d h.
    let lt : k < length present = let l = length_words_of entries present in omega arith in
    words_of_at entries present k d lt
    ∙ ap (λ (es : List (ℕ × Held)). word_of es k (slice_index_or present k 0)) none
    ∙ sym (get_or-map settled present k 0 d lt))

-- the present values are those that are kept
pub present_words_of : (entries : List (ℕ × Held)) (present : List ℕ) → present_values (words_of entries present) ≡ present
present_words_of entries present =
    same_lists _ _ lengths (λ k d h.
    let lt : k < length present = let l = lengths in omega arith in
    let inside : k < length (words_of entries present) = let l = length_words_of entries present in omega arith in
    get_or-map (λ (w : Word). w.present) (words_of entries present) k (settled d) d inside
    ∙ ap (λ (w : Word). w.present) (words_of_at entries present k (settled d) lt)
    ∙ get_or_default present k 0 d lt)
  where
    lengths : length (present_values (words_of entries present)) ≡ length present
    lengths = length-map (words_of entries present) (λ w. w.present) ∙ length_words_of entries present

-- the place of an address is inside
pub place_inside : (entries : List (ℕ × Held)) (present : List ℕ) (words : List Word) (address place : ℕ) → words_of entries present ≡ words → IsAddress (length words) address → place ≡ address / 8 → place < length present
place_inside entries present words address place view at is =
    let len : length (words_of entries present) ≡ length words = ap length view in
    omega (arith, len, length_words_of entries present, at.inside, is)

-- a write in place leaves what is kept
pub sound_after_set : (marked : List (ℕ × List ℕ)) (entries : List (ℕ × Held)) (present : List ℕ) (place value : ℕ) → IsSound (length present) marked entries → IsSound (length (slice_set present place value)) marked entries
sound_after_set marked entries present place value sound =
    let len : length (slice_set present place value) ≡ length present = length-set present place value in
    subst (λ (n : ℕ). IsSound n marked entries) (sym len) sound

-- what is kept stays where no mark is new
pub sound_stays : (count : ℕ) (marked : List (ℕ × List ℕ)) (old new : List (ℕ × Held)) → IsSound count marked old → ArePending count new → ((l t : ℕ) → look (held_at new l).marks t ≡ look (held_at old l).marks t) → IsSound count marked new
sound_stays count marked old new sound pending marks =
    record { pages = sound.pages; pending = pending; noted = λ t l some. let same = marks l t in sound.noted t l (omega (arith, same, some)) }

-- and the number of words
pub length_after_set : (old new : List (ℕ × Held)) (present : List ℕ) (words : List Word) (place value : ℕ) → words_of old present ≡ words → length (words_of new (slice_set present place value)) ≡ length words
length_after_set old new present words place value view =
    length_words_of new (slice_set present place value)
    ∙ length-set present place value
    ∙ sym (length_words_of old present)
    ∙ ap (λ (ws : List Word). length ws) view

-- the words after a store: at one place the older values have gained the value that was there
module _ (old new : List (ℕ × Held)) (present : List ℕ) (i value : ℕ) (inside : i < length present)
    (gained : older_at new i ≡ older_at old i ++ slice_index_or present i 0 ∷ [])
    (others : (k : ℕ) → k ≢ i → older_at new k ≡ older_at old k)
    (marks : (k t : ℕ) → look_at new k t ≡ look_at old k t) where
  marks_same : (k : ℕ) → marks_at new k ≡ marks_at old k
  marks_same k = same_marks new old k (marks k)

  abbrev after : List ℕ
  after = slice_set present i value

  abbrev changed : Word
  changed = stored value (slice_index_or (words_of old present) i (settled 0))

  at_here : (d : Word) → word_of new i (slice_index_or after i 0) ≡ slice_index_or (slice_set (words_of old present) i changed) i d
  at_here d =
      let present_is : slice_index_or after i 0 ≡ value = get_or-set_same present i value 0 inside in
      let held : i < length (words_of old present) = let l = length_words_of old present in omega arith in
      let step : word_of new i (slice_index_or after i 0) ≡ stored value (word_of old i (slice_index_or present i 0)) =
      λ j. record { older = gained j; present = present_is j; marks = marks_same i j } in
      step
      ∙ ap (λ (w : Word). stored value w) (sym (words_of_at old present i (settled 0) inside))
      ∙ sym (get_or-set_same (words_of old present) i changed d held)

  at_place : (k : ℕ) (d : Word) → k < length present → (k ≡ i) ⊎ (k ≡ i → ⊥)
      → word_of new k (slice_index_or after k 0) ≡ slice_index_or (slice_set (words_of old present) i changed) k d
  at_place k d lt (inl e) =
      subst (λ (j : ℕ). word_of new j (slice_index_or after j 0) ≡ slice_index_or (slice_set (words_of old present) i changed) j d) (sym e) (at_here d)
  at_place k d lt (inr ne) =
      let present_is : slice_index_or after k 0 ≡ slice_index_or present k 0 = get_or-set_other present i k value 0 ne in
      let step : word_of new k (slice_index_or after k 0) ≡ word_of old k (slice_index_or present k 0) =
      λ j. record { older = others k ne j; present = present_is j; marks = marks_same k j } in
      step
      ∙ sym (words_of_at old present k d lt)
      ∙ sym (get_or-set_other (words_of old present) i k changed d ne)

  words_of_stored : words_of new after ≡ slice_set (words_of old present) i changed
  words_of_stored =
      same_lists _ _
      (length_words_of new after ∙ length-set present i value ∙ sym (length_words_of old present) ∙ sym (length-set (words_of old present) i changed))
      (λ k d h.
      let set_length : length after ≡ length present = length-set present i value in
      let lt : k < length after = let l = length_words_of new after in omega arith in
      let lt_old : k < length present = omega arith in
      words_of_at new after k d lt ∙ at_place k d lt_old (cases_eq k i))

-- the same by the address, where x is the value that was read at the place
pub store_is : (old new : List (ℕ × Held)) (present : List ℕ) (words : List Word) (address place value x : ℕ)
    → words_of old present ≡ words → IsAddress (length words) address → place ≡ address / 8 → x ≡ slice_index_or present place x
    → older_at new place ≡ older_at old place ++ x ∷ [] → ((k : ℕ) → k ≢ place → older_at new k ≡ older_at old k)
    → ((k t : ℕ) → look_at new k t ≡ look_at old k t)
    → words_of new (slice_set present place value) ≡ store_at address value words
store_is old new present words address place value x view at is read gained others marks =
    let inside = place_inside old present words address place view at is in
    let held : x ≡ slice_index_or present place 0 = read ∙ get_or_default present place x 0 inside in
    words_of_stored old new present place value inside (gained ∙ ap (λ (v : ℕ). older_at old place ++ v ∷ []) held) others marks
    ∙ ap (λ (ws : List Word). slice_set ws place (stored value (slice_index_or ws place (settled 0)))) view
    ∙ ap (λ (k : ℕ). slice_set words k (stored value (slice_index_or words k (settled 0)))) is

-- the same by the address, where nothing was stored
pub unchanged_is : (old new : List (ℕ × Held)) (present : List ℕ) (words : List Word) (place : ℕ) → words_of old present ≡ words
    → older_at new place ≡ older_at old place → ((k : ℕ) → k ≢ place → older_at new k ≡ older_at old k) → ((k t : ℕ) → look_at new k t ≡ look_at old k t)
    → words_of new present ≡ words
unchanged_is old new present words place view here others marks = same_words old new present (λ k. record { older = at k (cases_eq k place); marks = marks k }) ∙ view
  where
    at : (k : ℕ) → (k ≡ place) ⊎ (k ≡ place → ⊥) → older_at new k ≡ older_at old k
    at k (inl e) = subst (λ (j : ℕ). older_at new j ≡ older_at old j) (sym e) here
    at k (inr ne) = others k ne

pub length_each_word : (f : ℕ → Word → Word) (words : List Word) → length (each_word f words) ≡ length words
length_each_word f words = length-map (enumerate_from 0 words) (λ p. f p.0 p.1) ∙ length-enumerate_from 0 words

pub each_word_at : (f : ℕ → Word → Word) (words : List Word) (k : ℕ) (d : Word) → k < length words → slice_index_or (each_word f words) k d ≡ f k (slice_index_or words k d)
each_word_at f words k d lt =
    let inside : k < length (enumerate_from 0 words) = let l = length-enumerate_from 0 words in omega arith in
    let place : 0 + k ≡ k = omega arith in
    get_or-map (λ (p : ℕ × Word). f p.0 p.1) (enumerate_from 0 words) k (0, d) d inside
    ∙ ap (λ (p : ℕ × Word). f p.0 p.1) (get_or-enumerate_from 0 words k (0, d) lt)
    ∙ ap (λ (j : ℕ). f j (slice_index_or words k d)) place

-- words that a function of the place makes of the words before
words_by : (f : ℕ → Word → Word) (old new : List (ℕ × Held)) (present after : List ℕ) → length after ≡ length present
    → ((k : ℕ) → k < length present → word_of new k (slice_index_or after k 0) ≡ f k (word_of old k (slice_index_or present k 0)))
    → words_of new after ≡ each_word f (words_of old present)
words_by f old new present after len at =
    same_lists _ _ (length_words_of new after ∙ len ∙ sym (length_each_word f (words_of old present) ∙ length_words_of old present)) (λ k d h.
    let in_after : k < length after = let l = length_words_of new after in omega arith in
    let inside : k < length present = omega arith in
    let held : k < length (words_of old present) = let l = length_words_of old present in omega arith in
    words_of_at new after k d in_after
    ∙ at k inside
    ∙ ap (λ (w : Word). f k w) (sym (words_of_at old present k d inside))
    ∙ sym (each_word_at f (words_of old present) k d held))

-- the words after a flush of a line
pub flush_is : (old new : List (ℕ × Held)) (present : List ℕ) (words : List Word) (thread address : ℕ) → words_of old present ≡ words
    → ((k : ℕ) → k / 8 ≡ address / 64 → IsFlushedAt thread old new k)
    → ((k : ℕ) → k / 8 ≢ address / 64 → IsSameAt old new k)
    → words_of new present ≡ flush_at thread address words
flush_is old new present words thread address view in_line apart =
    words_by line old new present present refl (λ k lt. at k (slice_index_or present k 0) (cases_eq (k / 8) (address / 64)))
    ∙ ap (λ (ws : List Word). flush_at thread address ws) view
  where
    line : ℕ → Word → Word
    line place w = if place / 8 == address / 64 then flushed thread w else w

    at : (k value : ℕ) → (k / 8 ≡ address / 64) ⊎ (k / 8 ≡ address / 64 → ⊥) → word_of new k value ≡ line k (word_of old k value)
    at k value (inl e) =
        let f = in_line k e in
        let marks = flushed_marks new old k thread (length (older_at old k)) f.own f.others in
        let step : word_of new k value ≡ flushed thread (word_of old k value) = λ i. record { older = f.older i; present = value; marks = marks i } in
        step ∙ ap (λ (b : Bool). if b then flushed thread (word_of old k value) else word_of old k value) (sym (eq-eqb (k / 8) (address / 64) e))
    at k value (inr ne) =
        same_word old new k value (apart k ne)
        ∙ ap (λ (b : Bool). if b then flushed thread (word_of old k value) else word_of old k value) (sym (ne_eqb (k / 8) (address / 64) ne))

-- the words after a fence
pub fence_is : (old new : List (ℕ × Held)) (present : List ℕ) (words : List Word) (thread : ℕ) → words_of old present ≡ words
    → ((k : ℕ) → IsFencedAt thread old new k) → words_of new present ≡ fence_by thread words
fence_is old new present words thread view all =
    same_lists _ _ (length_words_of new present ∙ sym (length_words_of old present) ∙ sym (length-map (words_of old present) (fenced thread))) (λ k d h.
    let lt : k < length present = let l = length_words_of new present in omega arith in
    let held : k < length (words_of old present) = let l = length_words_of old present in omega arith in
    words_of_at new present k d lt
    ∙ at k (slice_index_or present k 0)
    ∙ ap (λ (w : Word). fenced thread w) (sym (words_of_at old present k d lt))
    ∙ sym (get_or-map (fenced thread) (words_of old present) k d d held))
    ∙ ap (λ (ws : List Word). fence_by thread ws) view
  where
    at : (k value : ℕ) → word_of new k value ≡ fenced thread (word_of old k value)
    at k value =
        let f = all k in
        let gone : look_at old k thread ≡ mark_at (marks_at old k) thread = sym (mark_look old k thread) in
        let older = f.older ∙ ap (λ (n : ℕ). drop n (older_at old k)) gone in
        let marks = fenced_marks new old k thread f.marks in
        λ i. record { older = older i; present = value; marks = marks i }

-- the words after a crash, where no entry is left
pub crash_is : (old new : List (ℕ × Held)) (present after : List ℕ) (words : List Word) (choice : Choice) → words_of old present ≡ words → new ≡ []
    → length after ≡ length present → ((k : ℕ) → k < length present → slice_index_or after k 0 ≡ picked choice (8 * k) (older_at old k) (slice_index_or present k 0))
    → words_of new after ≡ after_crash choice words
crash_is old new present after words choice view none len left =
    words_by (λ place w. settled (picked choice (8 * place) w.older w.present)) old new present after len
    (λ k lt. ap (λ (es : List (ℕ × Held)). word_of es k (slice_index_or after k 0)) none ∙ ap settled (left k lt))
    ∙ ap (λ (ws : List Word). after_crash choice ws) view
