-- What the kernel's single steps leave of the memory.
use Rattle.std.proofs.Common.{◌≡◌, ◌≢◌, ℕ, ◌+◌, ◌/◌, ◌<◌, ◌≤◌, suc, Bool, if◌then◌else◌, List, [], ◌∷◌, length, get_or, set, nat_eq, refl, sym, ap, subst, ◌∙◌, inl, inr, ◌⊎◌, arith, Contains, get_or-set_same, get_or-set_other}
use Rattle.std.specs.Prelude.{fold}
use Rattle.std.specs.List.{enumerate_from}
use Rattle.std.proofs.lemmas.Bool.{cases_eq, cases_lt, cond_both, eq-eqb, ne_eqb}
use Rattle.std.proofs.lemmas.List.{get_or-map, length-set, length-map, get_or_past}
use Rattle.std.proofs.lemmas.List.FromFn.{get_or-enumerate_from, length-enumerate_from}
use Rattle.pm_words.specs.Word.{Word, settled, stored, flushed, fenced}
use Rattle.pm_words.specs.Memory.{word_at, each_word}
use Rattle.kern_model.specs.declared.inner.Inner.{Inner}
use Rattle.kern_model.specs.declared.inner.Inner.TheVariants.{Store, Flush, Fence}
use Rattle.kern_model.specs.Inner.{kernel_thread, made, made_all}
use Rattle.kern_model.specs.KernelView.{value}
use Rattle.kern_model.specs.Inner.{IsStoreTo}

-- an event comes to the word at an address
abbrev pub come : ℕ → Word → Inner → Word
come addr w (Store a value) = if nat_eq (a / 8) (addr / 8) then stored value w else w
come addr w (Flush a) = if nat_eq (addr / 8 / 8) (a / 64) then flushed kernel_thread w else w
come addr w Fence = fenced kernel_thread w

each_at : (f : ℕ → Word → Word) (words : List Word) (k : ℕ) → k < length words → get_or (each_word f words) k (settled 0) ≡ f k (get_or words k (settled 0))
each_at f words k lt =
    let size = length-enumerate_from 0 words in
    let place : 0 + k ≡ k = omega arith in
    get_or-map (λ (p : ℕ × Word). f p.0 p.1) (enumerate_from 0 words) k (0, settled 0) (settled 0) (omega (arith, size, lt))
    ∙ ap (λ (p : ℕ × Word). f p.0 p.1) (get_or-enumerate_from 0 words k (0, settled 0) lt)
    ∙ ap (λ (n : ℕ). f n (get_or words k (settled 0))) place

pub made_at : (words : List Word) (addr : ℕ) (e : Inner) → addr / 8 < length words → word_at (made words e) addr ≡ come addr (word_at words addr) e
made_at words addr (Store a value) lt = by (cases_eq (a / 8) (addr / 8))
  where
    by : (a / 8 ≡ addr / 8) ⊎ (a / 8 ≡ addr / 8 → ⊥) → word_at (made words (Store a value)) addr ≡ come addr (word_at words addr) (Store a value)
    by (inl e) =
        subst (λ (n : ℕ). get_or (set words n (stored value (get_or words n (settled 0)))) (addr / 8) (settled 0) ≡ stored value (word_at words addr)) (sym e)
        (get_or-set_same words (addr / 8) (stored value (word_at words addr)) (settled 0) lt)
        ∙ sym (ap (λ (b : Bool). if b then stored value (word_at words addr) else word_at words addr) (eq-eqb (a / 8) (addr / 8) e))
    by (inr ne) =
        get_or-set_other words (a / 8) (addr / 8) (stored value (word_at words a)) (settled 0) (λ e. ne (sym e))
        ∙ sym (ap (λ (b : Bool). if b then stored value (word_at words addr) else word_at words addr) (ne_eqb (a / 8) (addr / 8) ne))
made_at words addr (Flush a) lt = each_at (λ place w. if nat_eq (place / 8) (a / 64) then flushed kernel_thread w else w) words (addr / 8) lt
made_at words addr Fence lt = get_or-map (fenced kernel_thread) words (addr / 8) (settled 0) (settled 0) lt

-- events keep the length
pub length_made : (words : List Word) (e : Inner) → length (made words e) ≡ length words
length_made words (Store a value) = length-set words (a / 8) (stored value (word_at words a))
length_made words (Flush a) =
    length-map (enumerate_from 0 words) (λ (p : ℕ × Word). if nat_eq (p.0 / 8) (a / 64) then flushed kernel_thread p.1 else p.1) ∙ length-enumerate_from 0 words
length_made words Fence = length-map words (fenced kernel_thread)

pub length_run : (es : List Inner) (words : List Word) → length (made_all es words) ≡ length words
length_run [] words = refl
length_run (e ∷ es) words = length_run es (made words e) ∙ length_made words e

-- events come to each word by itself
pub run_at : (es : List Inner) (words : List Word) (addr : ℕ) → addr / 8 < length words → word_at (made_all es words) addr ≡ fold (come addr) (word_at words addr) es
run_at [] words addr lt = refl
run_at (e ∷ es) words addr lt =
    let size = length_made words e in
    run_at es (made words e) addr (omega (arith, size, lt)) ∙ ap (λ (w : Word). fold (come addr) w es) (made_at words addr e lt)

-- a step that isn't a store to the word at an address leaves its value
past_end : (words : List Word) (addr : ℕ) → length words ≤ addr / 8 → word_at words addr ≡ settled 0
past_end words addr le = get_or_past words (addr / 8) (settled 0) le

present_come : (addr : ℕ) (w : Word) (e : Inner) → (IsStoreTo addr e → ⊥) → (come addr w e).present ≡ w.present
present_come addr w (Store a value) ne = ap (λ (b : Bool). (if b then stored value w else w).present) (ne_eqb (a / 8) (addr / 8) ne)
present_come addr w (Flush a) ne = cond_both (nat_eq (addr / 8 / 8) (a / 64)) (flushed kernel_thread w) w (λ (x : Word). x.present ≡ w.present) (λ e. refl) (λ e. refl)
present_come addr w Fence ne = refl

pub value_made : (words : List Word) (addr : ℕ) (e : Inner) → (IsStoreTo addr e → ⊥) → value (made words e) addr ≡ value words addr
value_made words addr e ne = elim (cases_lt (addr / 8) (length words)) [
  | inl lt ↦ ap (λ (w : Word). w.present) (made_at words addr e lt) ∙ present_come addr (word_at words addr) e ne
  | inr le ↦
      let size = length_made words e in
      ap (λ (w : Word). w.present) (past_end (made words e) addr (omega (arith, size, le)) ∙ sym (past_end words addr le))
]

is_store_to : (addr : ℕ) (e : Inner) → IsStoreTo addr e ⊎ (IsStoreTo addr e → ⊥)
is_store_to addr (Store at value) = cases_eq (at / 8) (addr / 8)
is_store_to addr (Flush at) = inr (λ e. e)
is_store_to addr Fence = inr (λ e. e)

-- steps change a word only by a store to it
pub changed_by : (es : List Inner) (words : List Word) (addr : ℕ) → value (made_all es words) addr ≢ value words addr → (step : Inner) × Contains es step × IsStoreTo addr step
changed_by [] words addr changes = absurd (changes refl)
changed_by (e ∷ es) words addr changes = by (is_store_to addr e) (changed_by es (made words e) addr)
  where
    by : IsStoreTo addr e ⊎ (IsStoreTo addr e → ⊥)
        → (value (made_all (e ∷ es) words) addr ≢ value (made words e) addr → (step : Inner) × Contains es step × IsStoreTo addr step)
        → (step : Inner) × Contains (e ∷ es) step × IsStoreTo addr step
    by (inl store) later = (e, (0, omega arith, refl), store)
    by (inr ne) later =
        let (step, (k, lt, at), store) = later (λ same. changes (same ∙ value_made words addr e ne)) in
        (step, (suc k, omega arith, at), store)
