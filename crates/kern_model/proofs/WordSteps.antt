-- What the journal's events do to one word of the memory.
use Rattle.std.proofs.Common.{◌≡◌, ◌≢◌, ℕ, ◌+◌, ◌/◌, ◌<◌, zero, suc, Bool, true, if◌then◌else◌, List, [], ◌∷◌, drop, length, get_or, set, nat_eq, refl, sym, ap, subst, ◌∙◌, inl, inr, ◌⊎◌, arith, All, Contains, get_or-set_same, get_or-set_other}
use Rattle.std.specs.Prelude.{fold, ⊤}
use Rattle.std.specs.List.{enumerate_from, list_any}
use Rattle.std.proofs.lemmas.Bool.{cases_eq, cond_both, eq-eqb, ne_eqb, eqb-true, or_cases, false≢true}
use Rattle.std.proofs.lemmas.List.{get_or-map, get_or-drop, length-drop, drop-drop, drop_all, length-set, length-map}
use Rattle.std.proofs.lemmas.List.Elements.{All-head, All-tail, Contains-append_cases, Contains-append_left, Contains-append_right}
use Rattle.std.proofs.lemmas.List.FromFn.{get_or-enumerate_from, length-enumerate_from}
use Rattle.pm_words.specs.Marks.{with_first, trimmed, written, mark_at, put_mark}
use Rattle.pm_words.specs.Word.{Word, settled, stored, flushed, fenced, crash_list}
use Rattle.pm_words.specs.Memory.{word_at, each_word}
use Rattle.kern_model.specs.declared.inner.Inner.{Inner}
use Rattle.kern_model.specs.declared.inner.Inner.TheVariants.{Store, Flush, Fence}
use Rattle.kern_model.specs.Inner.{kernel_thread, made, made_all, flushes_at}

-- an event comes to the word at an address
abbrev pub come : ℕ → Word → Inner → Word
come addr w (Store a value) = if nat_eq (a / 8) (addr / 8) then stored value w else w
come addr w (Flush a) = if nat_eq (addr / 8 / 8) (a / 64) then flushed kernel_thread w else w
come addr w Fence = fenced kernel_thread w

each_at : (f : ℕ → Word → Word) (words : List Word) (k : ℕ) → k < length words → get_or (each_word f words) k (settled 0) ≡ f k (get_or words k (settled 0))
each_at f words k lt =
    let size = length-enumerate_from 0 words in
    let place : 0 + k ≡ k = omega arith in
    get_or-map (λ (p : ℕ × Word). f p.0 p.1) (enumerate_from 0 words) k (0, settled 0) (settled 0) (omega (arith, size, lt))
    ∙ ap (λ (p : ℕ × Word). f p.0 p.1) (get_or-enumerate_from 0 words k (0, settled 0) lt)
    ∙ ap (λ (n : ℕ). f n (get_or words k (settled 0))) place

made_at : (words : List Word) (addr : ℕ) (e : Inner) → addr / 8 < length words → word_at (made words e) addr ≡ come addr (word_at words addr) e
made_at words addr (Store a value) lt = by (cases_eq (a / 8) (addr / 8))
  where
    by : (a / 8 ≡ addr / 8) ⊎ (a / 8 ≡ addr / 8 → ⊥) → word_at (made words (Store a value)) addr ≡ come addr (word_at words addr) (Store a value)
    by (inl e) =
        subst (λ (n : ℕ). get_or (set words n (stored value (get_or words n (settled 0)))) (addr / 8) (settled 0) ≡ stored value (word_at words addr)) (sym e)
        (get_or-set_same words (addr / 8) (stored value (word_at words addr)) (settled 0) lt)
        ∙ sym (ap (λ (b : Bool). if b then stored value (word_at words addr) else word_at words addr) (eq-eqb (a / 8) (addr / 8) e))
    by (inr ne) =
        get_or-set_other words (a / 8) (addr / 8) (stored value (word_at words a)) (settled 0) (λ e. ne (sym e))
        ∙ sym (ap (λ (b : Bool). if b then stored value (word_at words addr) else word_at words addr) (ne_eqb (a / 8) (addr / 8) ne))
made_at words addr (Flush a) lt = each_at (λ place w. if nat_eq (place / 8) (a / 64) then flushed kernel_thread w else w) words (addr / 8) lt
made_at words addr Fence lt = get_or-map (fenced kernel_thread) words (addr / 8) (settled 0) (settled 0) lt

-- events keep the length
length_made : (words : List Word) (e : Inner) → length (made words e) ≡ length words
length_made words (Store a value) = length-set words (a / 8) (stored value (word_at words a))
length_made words (Flush a) =
    length-map (enumerate_from 0 words) (λ (p : ℕ × Word). if nat_eq (p.0 / 8) (a / 64) then flushed kernel_thread p.1 else p.1) ∙ length-enumerate_from 0 words
length_made words Fence = length-map words (fenced kernel_thread)

pub length_run : (es : List Inner) (words : List Word) → length (made_all es words) ≡ length words
length_run [] words = refl
length_run (e ∷ es) words = length_run es (made words e) ∙ length_made words e

-- events come to each word by itself
pub run_at : (es : List Inner) (words : List Word) (addr : ℕ) → addr / 8 < length words → word_at (made_all es words) addr ≡ fold (come addr) (word_at words addr) es
run_at [] words addr lt = refl
run_at (e ∷ es) words addr lt =
    let size = length_made words e in
    run_at es (made words e) addr (omega (arith, size, lt)) ∙ ap (λ (w : Word). fold (come addr) w es) (made_at words addr e lt)

-- an event stores nothing in the word at an address
abbrev pub Spares : ℕ → Inner → Type 0
Spares addr (Store a value) = a / 8 ≢ addr / 8
Spares addr (Flush a) = ⊤
Spares addr Fence = ⊤

-- a word has its value still, and some of its oldest values are gone
pub record Shortened (old new : Word) : Type 0 where
  pub gone : ℕ
  pub older : new.older ≡ drop gone old.older
  pub present : new.present ≡ old.present

pub same_word : (w : Word) → Shortened w w
same_word w = record { gone = 0; older = refl; present = refl }

pub shortened_then : (a b c : Word) → Shortened a b → Shortened b c → Shortened a c
shortened_then a b c one two = record {
  gone = one.gone + two.gone;
  older = two.older ∙ ap (λ (l : List ℕ). drop two.gone l) one.older ∙ drop-drop two.gone one.gone a.older;
  present = two.present ∙ one.present;
}

come_spared : (addr : ℕ) (w : Word) (e : Inner) → Spares addr e → Shortened w (come addr w e)
come_spared addr w (Store a value) ne = subst (λ (x : Word). Shortened w x) (sym (ap (λ (b : Bool). if b then stored value w else w) (ne_eqb (a / 8) (addr / 8) ne))) (same_word w)
come_spared addr w (Flush a) tt =
    cond_both (nat_eq (addr / 8 / 8) (a / 64)) (flushed kernel_thread w) w (λ (x : Word). Shortened w x) (λ e. record { gone = 0; older = refl; present = refl }) (λ e. same_word w)
come_spared addr w Fence tt = record { gone = mark_at w.marks kernel_thread; older = refl; present = refl }

pub run_spared : (addr : ℕ) (es : List Inner) (w : Word) → All (Spares addr) es → Shortened w (fold (come addr) w es)
run_spared addr [] w all = same_word w
run_spared addr (e ∷ es) w all =
    shortened_then w (come addr w e) (fold (come addr) (come addr w e) es) (come_spared addr w e (All-head (Spares addr) e es all)) (run_spared addr es (come addr w e) (All-tail (Spares addr) e es all))

-- a durable word stays durable
none_left : (n : ℕ) → drop {A = ℕ} n [] ≡ []
none_left n = drop_all n [] (omega arith)

pub still_durable : (old new : Word) → Shortened old new → old.older ≡ [] → new.older ≡ []
still_durable old new short none = short.older ∙ ap (λ (l : List ℕ). drop short.gone l) none ∙ none_left short.gone

-- a crash leaves nothing in the new word that it mightn't leave in the old one
abbrev pub Within : Word → Word → Type 0
Within old new = (value : ℕ) → Contains (crash_list new) value → Contains (crash_list old) value

contains_rest : (n : ℕ) (xs : List ℕ) (value : ℕ) → Contains (drop n xs) value → Contains xs value
contains_rest n xs value (k, lt, is) =
    let size = length-drop n xs in
    (n + k, (let inside : n + k < length xs = omega (arith, size, lt) in inside), sym (get_or-drop n xs k value) ∙ is)

pub within_shortened : (old new : Word) → Shortened old new → Within old new
within_shortened old new short value there = by (Contains-append_cases new.older (new.present ∷ []) value there)
  where
    by : Contains new.older value ⊎ Contains (new.present ∷ []) value → Contains (crash_list old) value
    by (inl older) =
        Contains-append_left old.older (old.present ∷ []) value (contains_rest short.gone old.older value (subst (λ (l : List ℕ). Contains l value) short.older older))
    by (inr last) = Contains-append_right old.older (old.present ∷ []) value (subst (λ (n : ℕ). Contains (n ∷ []) value) short.present last)

-- the mark that was put is there
mark_first : (n : ℕ) (ys : List ℕ) (t : ℕ) → mark_at (with_first n ys) t ≡ mark_at (n ∷ ys) t
mark_first n [] zero = cond_both (nat_eq n 0) [] (n ∷ []) (λ (l : List ℕ). mark_at l 0 ≡ n) (λ e. sym (eqb-true n 0 e)) (λ e. refl)
mark_first n [] (suc t) = cond_both (nat_eq n 0) [] (n ∷ []) (λ (l : List ℕ). mark_at l (suc t) ≡ 0) (λ e. refl) (λ e. refl)
mark_first n (y ∷ ys) t = refl

mark_trimmed : (xs : List ℕ) (t : ℕ) → mark_at (trimmed xs) t ≡ mark_at xs t
mark_trimmed [] t = refl
mark_trimmed (x ∷ xs) zero = mark_first x (trimmed xs) zero
mark_trimmed (x ∷ xs) (suc t) = mark_first x (trimmed xs) (suc t) ∙ mark_trimmed xs t

mark_written : (xs : List ℕ) (t gone : ℕ) → mark_at (written xs t gone) t ≡ gone
mark_written [] zero gone = refl
mark_written [] (suc t) gone = mark_written [] t gone
mark_written (x ∷ xs) zero gone = refl
mark_written (x ∷ xs) (suc t) gone = mark_written xs t gone

mark_put : (marks : List ℕ) (t gone : ℕ) → mark_at (put_mark marks t gone) t ≡ gone
unfolding put_mark
mark_put marks t gone = mark_trimmed (written marks t gone) t ∙ mark_written marks t gone

-- all older values of a word go at the kernel's next fence
abbrev pub IsMarked : Word → Type 0
IsMarked w = mark_at w.marks kernel_thread ≡ length w.older

come_marked : (addr line : ℕ) (w : Word) → IsMarked w → IsMarked (come addr w (Flush line))
come_marked addr line w marked =
    cond_both (nat_eq (addr / 8 / 8) (line / 64)) (flushed kernel_thread w) w IsMarked (λ e. mark_put w.marks kernel_thread (length w.older)) (λ e. marked)

marked_stays : (addr : ℕ) (lines : List ℕ) (w : Word) → IsMarked w → IsMarked (fold (come addr) w (flushes_at lines))
marked_stays addr [] w marked = marked
marked_stays addr (l ∷ ls) w marked = marked_stays addr ls (come addr w (Flush l)) (come_marked addr l w marked)

-- the line of an address is among these
abbrev pub HasLine : ℕ → List ℕ → Type 0
HasLine addr lines = list_any (λ line. nat_eq (addr / 8 / 8) (line / 64)) lines ≡ true

marked_by : (addr : ℕ) (lines : List ℕ) (w : Word) → HasLine addr lines → IsMarked (fold (come addr) w (flushes_at lines))
marked_by addr [] w has = absurd (false≢true has)
marked_by addr (l ∷ ls) w has = by (or_cases (nat_eq (addr / 8 / 8) (l / 64)) (list_any (λ line. nat_eq (addr / 8 / 8) (line / 64)) ls) has) (marked_by addr ls (come addr w (Flush l)))
  where
    by : (nat_eq (addr / 8 / 8) (l / 64) ≡ true) ⊎ HasLine addr ls → (HasLine addr ls → IsMarked (fold (come addr) (come addr w (Flush l)) (flushes_at ls)))
        → IsMarked (fold (come addr) w (flushes_at (l ∷ ls)))
    by (inl e) rest =
        marked_stays addr ls (come addr w (Flush l))
        (subst IsMarked (sym (ap (λ (b : Bool). if b then flushed kernel_thread w else w) e)) (mark_put w.marks kernel_thread (length w.older)))
    by (inr there) rest = rest there

-- flushes of its line and others, and a fence, make a word durable
pub fenced_durable : (w : Word) → IsMarked w → (fenced kernel_thread w).older ≡ []
fenced_durable w marked = drop_all (mark_at w.marks kernel_thread) w.older (omega (arith, marked))

pub flushed_durable : (addr : ℕ) (lines : List ℕ) (w : Word) → HasLine addr lines → (come addr (fold (come addr) w (flushes_at lines)) Fence).older ≡ []
flushed_durable addr lines w has = fenced_durable (fold (come addr) w (flushes_at lines)) (marked_by addr lines w has)
