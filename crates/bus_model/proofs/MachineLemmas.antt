-- Laws of the machine: what an entry leaves of the length of the memory, of its words and of the registers.
use Rattle.std.proofs.Common.{◌≡◌, ◌≢◌, ◌⊎◌, ℕ, ◌/◌, ◌<◌, ◌≤◌, List, [], ◌∷◌, ◌++◌, length, map, Contains, slice_index_or, zero, suc, Bool, true, false, if◌then◌else◌, nat_eq, refl, sym, ap, subst, ◌∙◌, inl, inr, arith, get_or-set_other}
use Rattle.std.proofs.lemmas.List.{length-set, get_or_past}
use Rattle.std.proofs.lemmas.List.Elements.{Contains-push_cases}
use Rattle.std.proofs.lemmas.List.FromFn.{length-map-range_with_len, get_or-map-range_with_len}
use Rattle.std.proofs.lemmas.Bool.{cases_eq, cases_lt, cond_both, eqb-true}
use Rattle.std.specs.List.{range_with_len}
use Rattle.pm_words.specs.Word.{Word, settled}
use Rattle.pm_words.specs.Memory.{word_at, store_at, cas_at, flush_at, fence_by}
use Rattle.pm_words.specs.Crash.{after_crash, MayLeave}
use Rattle.pm_words.proofs.WordLemmas.{length_store_at, other_place}
use Rattle.pm_words.proofs.CrashLemmas.{crash_leaves}
use Rattle.kern_model.specs.KernelView.{pages_of}
use Rattle.kern_model.specs.KernelView.{value}
use Rattle.bus_model.specs.Machine.{Machine, Bus, ThreadWasStarted, HasRegisters, Fits, Answers, HasText, acted, callers_of, registered, bus_after, bus_moved, choice_of, bus_over, with_thread, closed_pkrus, pkru_of}
use Rattle.kern_model.specs.Rights.{closed_pkru}
use Rattle.kern_model.specs.KernelCalls.{inner_of}
use Rattle.kern_model.proofs.StepLemmas.{length_run, changed_by}
use Rattle.bus_model.specs.Confined.{IsConfined}
use Rattle.tr_types.specs.Shown.{shown}
use Rattle.bus_model.proofs.Flushes.{length_flush, length_fence, flush_short, fence_short}
use Rattle.tr_types.specs.declared.action.Action.{Action}
use Rattle.tr_types.specs.declared.action.Action.TheVariants.{Load, Store, Cas, Flush, Fence, Pkru, Kernel}
use Rattle.tr_types.specs.declared.action.Answer.{Answer}
use Rattle.tr_types.specs.declared.action.Answer.TheVariants.{Word as WordIs, Done, Fault, Kern}
use Rattle.tr_types.specs.declared.entry.Entry.{Entry}
use Rattle.tr_types.specs.declared.entry.Pick.{Pick}
use Rattle.tr_types.specs.declared.entry.Entry.TheVariants as entry
use Rattle.tr_types.specs.declared.entry.Mark.{Mark}
use Rattle.tr_types.specs.declared.kernel_call.Kcall.{Kcall}
use Rattle.tr_types.specs.declared.kernel_call.KernAnswer.{KernAnswer}

-- a store leaves the word at every other place
value_kept : (at word addr : ℕ) (words : List Word) → at / 8 ≢ addr / 8 → value (store_at at word words) addr ≡ value words addr
value_kept at word addr words ne = ap (λ (w : Word). w.present) (other_place at word words (addr / 8) (settled 0) (λ e. ne (sym e)))

-- An entry changes a word only by a permitted store, or by giving pages.
by_store : (bus : Bus) (thread at word addr : ℕ) → value (store_at at word bus.words) addr ≢ value bus.words addr → at / 8 ≡ addr / 8
by_store bus thread at word addr changes = by (cases_eq (at / 8) (addr / 8))
  where
    by : (at / 8 ≡ addr / 8) ⊎ (at / 8 ≢ addr / 8) → at / 8 ≡ addr / 8
    by (inl same) = same
    by (inr ne) = absurd (changes (value_kept at word addr bus.words ne))

-- an exchange changes the word there alone, and only where it found the word that it expected
by_exchange : (bus : Bus) (thread at old new addr x : ℕ) → x ≡ (word_at bus.words at).present → value (cas_at at old new bus.words) addr ≢ value bus.words addr → (at / 8 ≡ addr / 8) × (x ≡ old)
by_exchange bus thread at old new addr x is changes = by (nat_eq (word_at bus.words at).present old) refl
  where
    by : (b : Bool) → nat_eq (word_at bus.words at).present old ≡ b → (at / 8 ≡ addr / 8) × (x ≡ old)
    by true found =
        let stores : cas_at at old new bus.words ≡ store_at at new bus.words = ap (λ (b : Bool). if b then store_at at new bus.words else bus.words) found in
        (by_store bus thread at new addr (λ same. changes (ap (λ (ws : List Word). value ws addr) stores ∙ same)), is ∙ eqb-true (word_at bus.words at).present old found)
    by false found =
        let same : cas_at at old new bus.words ≡ bus.words = ap (λ (b : Bool). if b then store_at at new bus.words else bus.words) found in
        absurd (changes (ap (λ (ws : List Word). value ws addr) same))

by_call : (m : Machine) (thread now : ℕ) (mark : Mark) (kcall : Kcall) (answer : KernAnswer) → IsConfined m (entry.Act thread now mark (Kernel kcall) (Kern answer))
by_call m thread now mark kcall answer addr changes =
    changed_by (inner_of (callers_of m.bus) m.bus.words m.bus.holders thread now kcall) m.bus.words addr changes

by_action : (m : Machine) (thread now : ℕ) (mark : Mark) (action : Action) (answer : Answer) → Fits m (entry.Act thread now mark action answer) → IsConfined m (entry.Act thread now mark action answer)
by_action m thread now mark (Store at word) Done may addr changes = (by_store m.bus thread at word addr changes, may.2)
by_action m thread now mark (Store at word) (WordIs x) may addr changes = changes refl
by_action m thread now mark (Store at word) (Fault kind) may addr changes = changes refl
by_action m thread now mark (Store at word) (Kern answer) may addr changes = changes refl
by_action m thread now mark (Kernel call) (Kern answer) may addr changes = by_call m thread now mark call answer addr changes
by_action m thread now mark (Kernel call) Done may addr changes = absurd (changes refl)
by_action m thread now mark (Kernel call) (WordIs x) may addr changes = absurd (changes refl)
by_action m thread now mark (Kernel call) (Fault kind) may addr changes = absurd (changes refl)
by_action m thread now mark (Load at) answer may addr changes = changes refl
by_action m thread now mark (Cas at old new) (WordIs x) may addr changes =
    let is = by_exchange m.bus thread at old new addr x may.2.1 changes in
    (is.0, may.2.0, is.1)
by_action m thread now mark (Cas at old new) Done may addr changes = changes refl
by_action m thread now mark (Cas at old new) (Fault kind) may addr changes = changes refl
by_action m thread now mark (Cas at old new) (Kern answer) may addr changes = changes refl
by_action m thread now mark (Flush at) Done may addr changes = changes (flush_short thread at addr m.bus.words).present
by_action m thread now mark (Flush at) (WordIs x) may addr changes = changes refl
by_action m thread now mark (Flush at) (Fault kind) may addr changes = changes refl
by_action m thread now mark (Flush at) (Kern answer) may addr changes = changes refl
by_action m thread now mark Fence Done may addr changes = changes (fence_short thread addr m.bus.words).present
by_action m thread now mark Fence (WordIs x) may addr changes = changes refl
by_action m thread now mark Fence (Fault kind) may addr changes = changes refl
by_action m thread now mark Fence (Kern answer) may addr changes = changes refl
by_action m thread now mark (Pkru pkru) answer may addr changes = changes refl

by_stray : (m : Machine) (thread at word : ℕ) (answer : Answer) → Fits m (entry.Stray thread at word answer) → IsConfined m (entry.Stray thread at word answer)
by_stray m thread at word Done may addr changes = (by_store m.bus thread at word addr changes, may.1)
by_stray m thread at word (WordIs x) may addr changes = changes refl
by_stray m thread at word (Fault kind) may addr changes = changes refl
by_stray m thread at word (Kern answer) may addr changes = changes refl

-- a crash leaves a value that the word has, or an earlier one
module _ (pick : Pick) (words : List Word) (addr : ℕ) where
  abbrev after : List Word
  after = after_crash (choice_of pick) words

  abbrev Earlier : Type 0
  Earlier = Contains (word_at words addr).older (value after addr)

  by_crash : value after addr ≢ value words addr → Earlier
  by_crash changes = by (cases_lt (addr / 8) (length words))
    where
      left : MayLeave words after
      left = crash_leaves (choice_of pick) words

      earlier : Contains (word_at words addr).older (value after addr) ⊎ ((word_at words addr).present ≡ value after addr) → Earlier
      earlier (inl older) = older
      earlier (inr same) = absurd (changes (sym same))

      by : (addr / 8 < length words) ⊎ (length words ≤ addr / 8) → Earlier
      by (inl inside) = earlier (Contains-push_cases (word_at words addr).older (word_at words addr).present (value after addr) (left.value (addr / 8) inside))
      by (inr past) =
          let len = left.len in
          absurd (changes (ap (λ (w : Word). w.present) (get_or_past after (addr / 8) (settled 0) (omega (arith, len, past)) ∙ sym (get_or_past words (addr / 8) (settled 0) past))))

pub confined : (m : Machine) (e : Entry) → Fits m e → IsConfined m e
confined m (entry.Act thread now mark action answer) may addr changes = by_action m thread now mark action answer may addr changes
confined m (entry.Stray thread at word answer) may addr changes = by_stray m thread at word answer may addr changes
confined m (entry.Mkfs pages) may addr changes = changes refl
confined m (entry.Process process cred) may addr changes = changes refl
confined m (entry.Thread thread process) may addr changes = changes refl
confined m (entry.Tick n) may addr changes = changes refl
confined m (entry.Call thread command) may addr changes = changes refl
confined m (entry.Reply thread reply) may addr changes = changes refl
confined m (entry.Wild thread now action answer) may addr changes = changes refl
confined m (entry.Corrupt process) may addr changes = changes refl
confined m (entry.Kill process) may addr changes = changes refl
confined m (entry.Crash pick) may addr changes = by_crash pick m.bus.words addr changes
confined m (entry.CrashIn thread now call k pick) may addr changes = changes refl
confined m (entry.Recovery action) may addr changes = changes refl
confined m (entry.Recovered ready quarantined) may addr changes = changes refl
confined m (entry.Lost path) may addr changes = changes refl
confined m (entry.Skip line why) may addr changes = changes refl
confined m (entry.Quarantine path) may addr changes = changes refl
confined m (entry.Coffers list) may addr changes = changes refl

length_acted : (thread now : ℕ) (action : Action) (answer : Answer) (bus : Bus) → length (acted thread now action answer bus) ≡ length bus.words
length_acted thread now (Store at word) Done bus = length_store_at at word bus.words
length_acted thread now (Store at word) (WordIs x) bus = refl
length_acted thread now (Store at word) (Fault kind) bus = refl
length_acted thread now (Store at word) (Kern answer) bus = refl
length_acted thread now (Kernel kcall) (Kern answer) bus = length_run (inner_of (callers_of bus) bus.words bus.holders thread now kcall) bus.words
length_acted thread now (Kernel kcall) Done bus = refl
length_acted thread now (Kernel kcall) (WordIs x) bus = refl
length_acted thread now (Kernel kcall) (Fault kind) bus = refl
length_acted thread now (Load at) answer bus = refl
length_acted thread now (Cas at old new) (WordIs x) bus =
    cond_both (nat_eq (word_at bus.words at).present old) (store_at at new bus.words) bus.words (λ (ws : List Word). length ws ≡ length bus.words) (λ e. length_store_at at new bus.words) (λ e. refl)
length_acted thread now (Cas at old new) Done bus = refl
length_acted thread now (Cas at old new) (Fault kind) bus = refl
length_acted thread now (Cas at old new) (Kern answer) bus = refl
length_acted thread now (Flush at) Done bus = length_flush thread at bus.words
length_acted thread now (Flush at) (WordIs x) bus = refl
length_acted thread now (Flush at) (Fault kind) bus = refl
length_acted thread now (Flush at) (Kern answer) bus = refl
length_acted thread now Fence Done bus = length_fence thread bus.words
length_acted thread now Fence (WordIs x) bus = refl
length_acted thread now Fence (Fault kind) bus = refl
length_acted thread now Fence (Kern answer) bus = refl
length_acted thread now (Pkru pkru) answer bus = refl

-- an action keeps the number of pages
pub pages_acted : (thread now : ℕ) (action : Action) (answer : Answer) (bus : Bus) → pages_of (acted thread now action answer bus) ≡ pages_of bus.words
pages_acted thread now action answer bus = ap (λ n. n / 512) (length_acted thread now action answer bus)

-- what the machine answers has its own text
pub has_text : (bus : Bus) (thread now : ℕ) (action : Action) (answer : Answer) → Answers bus thread now action answer → HasText bus thread now action answer
has_text bus thread now (Kernel kcall) (Kern answer) is = ap shown is
has_text bus thread now (Kernel kcall) Done is = is
has_text bus thread now (Kernel kcall) (WordIs x) is = is
has_text bus thread now (Kernel kcall) (Fault kind) is = is
has_text bus thread now (Load at) answer is = is
has_text bus thread now (Store at word) answer is = is
has_text bus thread now (Cas at old new) answer is = is
has_text bus thread now (Flush at) answer is = is
has_text bus thread now Fence answer is = is
has_text bus thread now (Pkru pkru) answer is = is

-- An action of a thread leaves the registers of all others, and their number.
pub register_kept : (bus : Bus) (thread other now : ℕ) (action : Action) (answer : Answer) → other ≢ thread → pkru_of (bus_after thread now action answer bus) other ≡ pkru_of bus other
register_kept bus thread other now (Pkru pkru) Done ne = get_or-set_other bus.pkrus thread other pkru closed_pkru ne
register_kept bus thread other now (Pkru pkru) (WordIs x) ne = refl
register_kept bus thread other now (Pkru pkru) (Fault kind) ne = refl
register_kept bus thread other now (Pkru pkru) (Kern answer) ne = refl
register_kept bus thread other now (Store at word) answer ne = refl
register_kept bus thread other now (Kernel call) answer ne = refl
register_kept bus thread other now (Load at) answer ne = refl
register_kept bus thread other now (Cas at old new) answer ne = refl
register_kept bus thread other now (Flush at) answer ne = refl
register_kept bus thread other now Fence answer ne = refl

-- an entry keeps the number of pages
pub pages_moved : (bus : Bus) (e : Entry) → pages_of (bus_moved bus e).words ≡ pages_of bus.words
pages_moved bus (entry.Act thread now mark action answer) = pages_acted thread now action answer bus
pages_moved bus (entry.Stray thread addr word answer) = pages_acted thread 0 (Store addr word) answer bus
pages_moved bus (entry.Mkfs pages) = refl
pages_moved bus (entry.Process process cred) = refl
pages_moved bus (entry.Thread thread process) = refl
pages_moved bus (entry.Tick n) = refl
pages_moved bus (entry.Call thread command) = refl
pages_moved bus (entry.Reply thread reply) = refl
pages_moved bus (entry.Wild thread now action answer) = refl
pages_moved bus (entry.Corrupt process) = refl
pages_moved bus (entry.Kill process) = refl
pages_moved bus (entry.Crash pick) = ap (λ n. n / 512) (crash_leaves (choice_of pick) bus.words).len
pages_moved bus (entry.CrashIn thread now call k pick) = refl
pages_moved bus (entry.Recovery action) = refl
pages_moved bus (entry.Recovered ready quarantined) = refl
pages_moved bus (entry.Lost path) = refl
pages_moved bus (entry.Skip line why) = refl
pages_moved bus (entry.Quarantine path) = refl
pages_moved bus (entry.Coffers list) = refl

-- Each thread that was started has a register.
length_registered : (thread : ℕ) (action : Action) (answer : Answer) (pkrus : List ℕ) → length (registered thread action answer pkrus) ≡ length pkrus
length_registered thread (Load addr) answer pkrus = refl
length_registered thread (Store addr word) answer pkrus = refl
length_registered thread (Cas addr old new) answer pkrus = refl
length_registered thread (Flush addr) answer pkrus = refl
length_registered thread Fence answer pkrus = refl
length_registered thread (Pkru pkru) (WordIs x) pkrus = refl
length_registered thread (Pkru pkru) Done pkrus = length-set pkrus thread pkru
length_registered thread (Pkru pkru) (Fault kind) pkrus = refl
length_registered thread (Pkru pkru) (Kern answer) pkrus = refl
length_registered thread (Kernel call) answer pkrus = refl

-- a thread is the last one started, or was started before
one_of : (threads : List (ℕ × ℕ)) (thread process t : ℕ) → Contains (map (λ (x : ℕ × ℕ). x.0) (threads ++ (thread, process) ∷ [])) t → (thread ≡ t) ⊎ Contains (map (λ (x : ℕ × ℕ). x.0) threads) t
one_of [] thread process t (zero, lt, at) = inl at
one_of [] thread process t (suc k, lt, at) = absurd (omega arith)
one_of (x ∷ threads) thread process t (zero, lt, at) = inr (zero, omega arith, at)
one_of (x ∷ threads) thread process t (suc k, lt, at) = elim (one_of threads thread process t (k, omega arith, at)) [
  | inl new ↦ inl new
  | inr (j, l, a) ↦ inr (suc j, omega arith, a)
]

pub with_thread_small : (bus : Bus) (thread process : ℕ) → thread < 256 → HasRegisters bus → (t : ℕ) → ThreadWasStarted (with_thread thread process bus) t → t < 256
with_thread_small bus thread process lt has t lives = elim (one_of bus.threads thread process t lives) [
  | inl new ↦ subst (λ (n : ℕ). n < 256) new lt
  | inr before ↦ has.small t before
]

closed_count : length closed_pkrus ≡ 256
unfolding closed_pkrus
closed_count = length-map-range_with_len (λ _. closed_pkru) 0 256

pub registers_moved : (m : Machine) (e : Entry) → Fits m e → HasRegisters m.bus → HasRegisters (bus_moved m.bus e)
registers_moved m (entry.Act thread now mark action answer) fits has = record { count = length_registered thread action answer m.bus.pkrus ∙ has.count; small = has.small }
registers_moved m (entry.Stray thread addr word answer) fits has = record { count = has.count; small = has.small }
registers_moved m (entry.Process process cred) fits has = record { count = has.count; small = has.small }
registers_moved m (entry.Thread thread process) fits has = record { count = has.count; small = with_thread_small m.bus thread process fits.0 has }
registers_moved m (entry.Mkfs pages) fits has = has
registers_moved m (entry.Tick n) fits has = has
registers_moved m (entry.Call thread command) fits has = has
registers_moved m (entry.Reply thread reply) fits has = has
registers_moved m (entry.Wild thread now action answer) fits has = has
registers_moved m (entry.Corrupt process) fits has = has
registers_moved m (entry.Kill process) fits has = has
registers_moved m (entry.Crash pick) fits has = record { count = closed_count; small = has.small }
registers_moved m (entry.CrashIn thread now call k pick) fits has = has
registers_moved m (entry.Recovery action) fits has = has
registers_moved m (entry.Recovered ready quarantined) fits has = has
registers_moved m (entry.Lost path) fits has = has
registers_moved m (entry.Skip line why) fits has = has
registers_moved m (entry.Quarantine path) fits has = has
registers_moved m (entry.Coffers list) fits has = has

pub registers_first : (image : List ℕ) → HasRegisters (bus_over image)
registers_first image = record { count = closed_count; small = λ t among. nobody t among }
  where
    nobody : (t : ℕ) → Contains [] t → t < 256
    nobody t (k, lt, at) = absurd (omega arith)

-- before any thread has opened a key, all registers are closed
pub closed_first : (t : ℕ) → slice_index_or closed_pkrus t closed_pkru ≡ closed_pkru
unfolding closed_pkrus
closed_first t = elim (cases_lt t 256) [
  | inl less ↦ get_or-map-range_with_len (λ _. closed_pkru) 0 256 t t closed_pkru less (omega arith)
  | inr more ↦ past (map (λ _. closed_pkru) (range_with_len 0 256)) t (omega (arith, more, length-map-range_with_len (λ (_ : ℕ). closed_pkru) 0 256))
]
  where
    past : (l : List ℕ) (i : ℕ) → length l ≤ i → slice_index_or l i closed_pkru ≡ closed_pkru
    past l i le = get_or_past l i closed_pkru le
