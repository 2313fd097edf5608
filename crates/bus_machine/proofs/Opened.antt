-- The machine as it opens.
use Rattle.std.proofs.Common.{◌≡◌, ◌⊎◌, inl, inr, ℕ, zero, suc, ◌+◌, ◌/◌, ◌<◌, ◌≤◌, Bool, true, false, if◌then◌else◌, List, [], ◌∷◌, length, map, replicate, refl, sym, ap, subst, ◌∙◌, arith, nat_eq, Result, Ok, Err}
use Rattle.std.specs.Prelude.{All, Contains}
use Rattle.std.specs.List.{range_with_len, enumerate_from}
use Rattle.std.specs.Result.{IsErrOf}
use Rattle.std.proofs.lemmas.Bool.{cases_lt}
use Rattle.std.proofs.lemmas.List.{length-replicate, get_or_past}
use Rattle.std.proofs.lemmas.List.Elements.{All-nil, All-cons}
use Rattle.pm_words.specs.Word.{Word, settled, flushed}
use Rattle.pm_words.specs.Marks.{with_first, trimmed, written, put_mark, less_marks}
use Rattle.pm_words.specs.Memory.{word_at, all_durable, flush_at, fence_by, HasPages}
use Rattle.zo_layout.specs.Layout.{committed_word}
use Rattle.kern_model.specs.Inner.{kernel_thread, made_all, finish_any}
use Rattle.kern_model.specs.declared.inner.Inner.{Inner}
use Rattle.kern_model.specs.declared.inner.Inner.TheVariants.{Flush, Fence}
use Rattle.kern_model.specs.KernelView.{pages_of}
use Rattle.kern_model.specs.KernelTables.{is_id, stands_in}
use Rattle.kern_model.specs.Journal.{committed, committed_count, kernel_word, pair_at}
use Rattle.kern_model.specs.JournalLaws.{IsDurable}
use Rattle.kern_model.specs.KernelRules.{IsSoundKernel}
use Rattle.kern_model.specs.KernelCalls.{Callers}
use Rattle.kern_model.specs.Commits.{present_at}
use Rattle.bus_model.specs.Machine.{closed_pkrus}
use Rattle.kern_model.specs.Rights.{closed_pkru}
use Rattle.tr_types.specs.declared.kernel_call.Holder.{Holder}
use Rattle.tr_types.specs.declared.permission.Cred.{Cred}
use Rattle.kern_model.proofs.WordSteps.{length_run, run_at, run_spared, flushed_durable, Spares}
use Rattle.kern_view.proofs.SoundLemmas.{sound_after}
use Rattle.kern_pages.specs.Owners.{owners_of}
use Rattle.kern_calls.specs.Calls.{KernelView, IsMounted}
use Rattle.kern_calls.specs.declared.mount.MountFault.{MountFault}
use Rattle.kern_calls.specs.declared.mount.MountFault.TheVariants.{BadKernel, NoMemory}
use Rattle.bus_machine.specs.Opening.{settled_words, OpensAsIs}
use Rattle.bus_machine.specs.Ties.{AreTied}
use Rattle.kern_model.proofs.Idle.{idle_word}
use Rattle.bus_machine.proofs.Stores.{same_owners}

-- What makes word 0 of the journal durable stores nothing.

steps : List Inner
steps = Flush committed_word ∷ Fence ∷ []

length_settled : (words : List Word) → length (settled_words words) ≡ length words
unfolding steps
length_settled words = length_run steps words

present_settled : (words : List Word) (addr : ℕ) → present_at (settled_words words) addr ≡ present_at words addr
unfolding steps
present_settled words addr = by (cases_lt (addr / 8) (length words))
  where
    spared : All (Spares addr) steps
    spared = All-cons (Spares addr) (Flush committed_word) (Fence ∷ []) tt (All-cons (Spares addr) Fence [] tt (All-nil (Spares addr)))

    by : (addr / 8 < length words) ⊎ (length words ≤ addr / 8) → present_at (settled_words words) addr ≡ present_at words addr
    by (inl inside) =
        let short = run_spared addr steps (word_at words addr) spared in
        ap (λ (w : Word). w.present) (run_at steps words addr inside) ∙ short.present
    by (inr past) =
        let same = length_settled words in
        ap (λ (w : Word). w.present) (get_or_past (settled_words words) (addr / 8) (settled 0) (omega (arith, same)) ∙ sym (get_or_past words (addr / 8) (settled 0) past))

idle_settled : (words : List Word) → HasPages (length words) → committed_count words ≡ 0 → IsDurable (settled_words words) committed_word 0
unfolding steps
idle_settled words size idle =
    let least = size.least in
    let whole = size.whole in
    let at = run_at steps words committed_word (omega arith) in
    record {
      present = present_settled words committed_word ∙ idle;
      older = ap (λ (w : Word). w.older) at ∙ flushed_durable committed_word (committed_word ∷ []) (word_at words committed_word) refl;
    }

-- the kernel is mounted then
pub mounted_settled : (kernel : KernelView) (words : List Word) → HasPages (length words) → IsSoundKernel words → committed_count words ≡ 0 → kernel.owners ≡ owners_of words → kernel.holders ≡ [] → IsMounted kernel (settled_words words)
mounted_settled kernel words size sound idle told unheld =
    let len = length_settled words in
    let durable = idle_settled words size idle in
    let still = durable.present in
    record {
      working = record {
        size = subst HasPages (sym len) size;
        sound = sound_after words (settled_words words)
            (record { size = size; len = len; idle = still; view = λ addr home. idle_word (settled_words words) addr still ∙ present_settled words addr ∙ sym (idle_word words addr idle) }) sound;
        idle = durable;
        ids = subst (λ (hs : List Holder). All (λ h. is_id h.id ≡ true) hs) (sym unheld) (All-nil (λ (h : Holder). is_id h.id ≡ true));
        held = subst (λ (hs : List Holder). All (λ h. stands_in (pages_of (settled_words words)) (kernel_word (settled_words words)) h.id ≡ true) hs) (sym unheld) (All-nil (λ (h : Holder). stands_in (pages_of (settled_words words)) (kernel_word (settled_words words)) h.id ≡ true));
      };
      told = told ∙ sym (same_owners words (settled_words words) len idle still (λ other low. present_settled words other));
    }

-- nobody was started
pub tied_opened : (words : List Word) (kernel : KernelView) (pkrus : List ℕ) → IsMounted kernel words → kernel.callers ≡ record { processes = []; threads = [] } → pkrus ≡ replicate 256 closed_pkru → AreTied words kernel pkrus
tied_opened words kernel pkrus mounted none closed = record {
  mounted = mounted;
  registers = record {
    count = ap (λ (l : List ℕ). length l) closed ∙ length-replicate 256 closed_pkru;
    small = λ t among. absurd (none_among t (subst (λ (c : Callers). Contains (map (λ (q : ℕ × ℕ). q.0) c.threads) t) none among));
  };
  small = λ p among. absurd (none_among p (subst (λ (c : Callers). Contains (map (λ (q : ℕ × Cred). q.0) c.processes) p) none among));
}
  where
    none_among : (n : ℕ) → Contains [] n → ⊥
    none_among n (k, lt, at) = omega arith

-- Over durable words in which nothing is committed.

fenced_durable : (thread : ℕ) (image : List ℕ) → fence_by thread (all_durable image) ≡ all_durable image
unfolding less_marks
fenced_durable thread [] = refl
fenced_durable thread (value ∷ image) = ap (λ (ws : List Word). settled value ∷ ws) (fenced_durable thread image)

none_marked : (thread : ℕ) → trimmed (written [] thread 0) ≡ []
none_marked zero = refl
none_marked (suc thread) = ap (with_first 0) (none_marked thread)

flushed_settled : (thread value : ℕ) → flushed thread (settled value) ≡ settled value
unfolding put_mark
flushed_settled thread value = λ i. record { older = []; present = value; marks = none_marked thread i }

flushed_from : (thread line start : ℕ) (image : List ℕ) → map (λ (p : ℕ × Word). if nat_eq (p.0 / 8) line then flushed thread p.1 else p.1) (enumerate_from start (all_durable image)) ≡ all_durable image
flushed_from thread line start [] = refl
flushed_from thread line start (value ∷ image) =
    ap (λ (ws : List Word). (if nat_eq (start / 8) line then flushed thread (settled value) else settled value) ∷ ws) (flushed_from thread line (start + 1) image)
    ∙ ap (λ (w : Word). w ∷ all_durable image) (either (nat_eq (start / 8) line))
  where
    either : (b : Bool) → (if b then flushed thread (settled value) else settled value) ≡ settled value
    either true = flushed_settled thread value
    either false = refl

flushed_durably : (thread addr : ℕ) (image : List ℕ) → flush_at thread addr (all_durable image) ≡ all_durable image
flushed_durably thread addr image = flushed_from thread (addr / 64) 0 image

none_redone : (words : List Word) → committed_count words ≡ 0 → made_all (finish_any (committed words)) words ≡ words
none_redone words idle = ap (λ (n : ℕ). made_all (finish_any (map (pair_at words) (range_with_len 0 n))) words) idle

pub opens_as_is : OpensAsIs
opens_as_is image sound idle =
    let same = ap settled_words (none_redone (all_durable image) idle) ∙ ap (fence_by kernel_thread) (flushed_durably kernel_thread committed_word image) ∙ fenced_durable kernel_thread image in
    λ i. record { words = same i; processes = []; threads = []; holders = []; pkrus = closed_pkrus }

-- How a mount ended is how the opening does.

pub passed_bad : {T U : Type 0} (fault : MountFault) (result : Result U MountFault) (First : ℕ → Type 0) → result ≡ Err fault
    → ((place : ℕ) → IsErrOf {T = T} (Err fault) (BadKernel place) → First place) → (place : ℕ) → IsErrOf result (BadKernel place) → First place
passed_bad {T} {U} fault result First is bad place e =
    let both = sym is ∙ e in
    let same : fault ≡ BadKernel place = cc in
    bad place (ap (λ (f : MountFault). Err f) same)

pub passed_refusal : {T U : Type 0} (fault : MountFault) (result : Result U MountFault) (First : ℕ → Type 0) → result ≡ Err fault
    → ((place : ℕ) → First place → IsErrOf {T = T} (Err fault) (BadKernel place) ⊎ IsErrOf {T = T} (Err fault) NoMemory)
    → (place : ℕ) → First place → IsErrOf result (BadKernel place) ⊎ IsErrOf result NoMemory
passed_refusal {T} {U} fault result First is refuses place first = by (refuses place first)
  where
    by : IsErrOf {T = T} (Err fault) (BadKernel place) ⊎ IsErrOf {T = T} (Err fault) NoMemory → IsErrOf result (BadKernel place) ⊎ IsErrOf result NoMemory
    by (inl e) = let same : fault ≡ BadKernel place = cc in inl (is ∙ ap (λ (f : MountFault). Err f) same)
    by (inr e) = let same : fault ≡ NoMemory = cc in inr (is ∙ ap (λ (f : MountFault). Err f) same)

pub passed_done : {T U : Type 0} (value : T) (result : Result U MountFault) (First : ℕ → Type 0)
    → ((place : ℕ) → First place → IsErrOf (Ok value) (BadKernel place) ⊎ IsErrOf (Ok value) NoMemory)
    → (place : ℕ) → First place → IsErrOf result (BadKernel place) ⊎ IsErrOf result NoMemory
passed_done {T} {U} value result First refuses place first = by (refuses place first)
  where
    by : IsErrOf (Ok value) (BadKernel place) ⊎ IsErrOf (Ok value) NoMemory → IsErrOf result (BadKernel place) ⊎ IsErrOf result NoMemory
    by (inl e) = absurd cc
    by (inr e) = absurd cc
