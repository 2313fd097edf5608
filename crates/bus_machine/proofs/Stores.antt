-- What accesses of threads leave: the kernel stands over the memory still.
use Rattle.std.proofs.Common.{◌≡◌, ◌⊎◌, inl, inr, ℕ, zero, suc, ◌+◌, ◌/◌, ◌<◌, ◌≤◌, Bool, true, false, cond, List, ◌∷◌, length, map, slice_set, refl, sym, ap, subst, ◌∙◌, arith, nat_eq, None, Result, Ok, Err}
use Rattle.std.specs.Prelude.{not, ◌&&◌, ◌||◌, All, Contains, OnOk, OnErr}
use Rattle.std.specs.List.{range_with_len}
use Rattle.std.proofs.lemmas.Bool.{cases_lt, cond_both, lt-ltb, eqb-true, not-false}
use Rattle.std.proofs.lemmas.List.{length-set}
use Rattle.pm_words.specs.Word.{Word}
use Rattle.pm_words.specs.Memory.{word_at, store_at, cas_at, flush_at, fence_by, HasPages}
use Rattle.pm_words.proofs.WordLemmas.{length_store_at}
use Rattle.zo_layout.specs.Layout.{kernel_pages, owner_word, committed_word}
use Rattle.kern_model.specs.KernelView.{pages_of}
use Rattle.kern_model.specs.Kernel.{kernel_owner}
use Rattle.kern_model.specs.KernelTables.{is_id, stands_in}
use Rattle.kern_model.specs.Journal.{committed_count, kernel_word}
use Rattle.kern_model.specs.Commits.{IsWorking, IsOuter, StoreLaw, present_at}
use Rattle.bus_model.specs.Machine.{Bus, HasRegisters, store_refusal}
use Rattle.bus_model.proofs.Flushes.{length_flush, length_fence, flush_short, fence_short}
use Rattle.bus_model.proofs.MachineLemmas.{with_thread_small}
use Rattle.kern_model.specs.KernelCalls.{Callers}
use Rattle.kern_model.proofs.WordSteps.{Shortened, still_durable}
use Rattle.kern_view.proofs.SoundLemmas.{sound_after}
use Rattle.tr_types.specs.declared.kernel_call.Kcall.{Kcall}
use Rattle.tr_types.specs.declared.kernel_call.KernAnswer.{KernAnswer}
use Rattle.tr_types.specs.declared.permission.Cred.{Cred}
use Rattle.kern_model.specs.Rights.{is_held}
use Rattle.tr_types.specs.declared.kernel_call.Holder.{Holder}
use Rattle.kern_model.proofs.Idle.{idle_word}
use Rattle.kern_pages.specs.Owners.{owners_of}
use Rattle.kern_calls.specs.Calls.{KernelView, IsMounted, IsDone, with_process, with_thread}
use Rattle.bus_machine.specs.Ties.{bus_of, AreTied, IsSoundBus}
use Rattle.bus_machine.proofs.Started.{small_more}
use Rattle.bus_machine.proofs.Accesses.{page_inside, stored_word, store_held}
use Rattle.bus_machine.proofs.Holding.{held_has_id}

-- two maps that agree on a range
map_range : (f g : ℕ → ℕ) (a n : ℕ) → ((i : ℕ) → a ≤ i → i < a + n → f i ≡ g i) → map f (range_with_len a n) ≡ map g (range_with_len a n)
map_range f g a zero agree = refl
map_range f g a (suc n) agree =
    let rest = map_range f g (a + 1) n (λ i low high. agree i (omega arith) (omega arith)) in
    ap (λ (x : ℕ). x ∷ map f (range_with_len (a + 1) n)) (agree a (omega arith) (omega arith)) ∙ ap (λ (l : List ℕ). g a ∷ l) rest

-- the owner table lies in the kernel's pages
owner_in_kernel : (pages page : ℕ) → page < pages → owner_word pages page / 4096 < kernel_pages pages
owner_in_kernel pages page lt = omega arith

-- where nothing is committed and the kernel's pages have the same words, they say the same of each page's owner
pub same_owners : (old new : List Word) → length new ≡ length old → committed_count old ≡ 0 → committed_count new ≡ 0 → ((other : ℕ) → other / 4096 < kernel_pages (pages_of old) → present_at new other ≡ present_at old other)
    → owners_of new ≡ owners_of old
same_owners old new len idle idle_new same =
    let pages = ap (λ (n : ℕ). n / 512) len in
    map_range (kernel_owner new) (kernel_owner old) 0 (pages_of new) (λ page low high.
    ap (λ (n : ℕ). kernel_word new (owner_word n page)) pages
    ∙ idle_word new (owner_word (pages_of old) page) idle_new
    ∙ same (owner_word (pages_of old) page) (owner_in_kernel (pages_of old) page (omega arith))
    ∙ sym (idle_word old (owner_word (pages_of old) page) idle))
    ∙ ap (λ (n : ℕ). map (kernel_owner old) (range_with_len 0 n)) pages

-- a page of a coffer that is held isn't the kernel's
outer_page : (words : List Word) (holders : List Holder) (page : ℕ) → IsWorking words holders → page < pages_of words → is_held (kernel_owner words page) holders ≡ true → IsOuter words page
outer_page words holders page working lt held = record { past = by (cases_lt page (kernel_pages (pages_of words))); inside = lt }
  where
    by : (page < kernel_pages (pages_of words)) ⊎ (kernel_pages (pages_of words) ≤ page) → kernel_pages (pages_of words) ≤ page
    by (inl below) =
        let owner = kernel_owner words page in
        let passes = sym (ap (λ (b : Bool). cond b (not (nat_eq owner 65535)) (not (nat_eq owner 0 || (is_id owner && stands_in (pages_of words) (kernel_word words) owner)))) (lt-ltb page (kernel_pages (pages_of words)) below))
        ∙ working.sound.owners page lt in
        let kernels : owner ≡ 65535 = eqb-true owner 65535 (not-false (nat_eq owner 65535) passes) in
        absurd (let none : false ≡ true = ap is_id (sym kernels) ∙ held_has_id holders owner working.ids held in cc)
    by (inr past) = past

-- a permitted store is to such a page
pub store_is_outer : (bus : Bus) (thread addr : ℕ) → IsWorking bus.words bus.holders → store_refusal bus thread addr ≡ None → IsOuter bus.words (addr / 4096)
store_is_outer bus thread addr working done =
    outer_page bus.words bus.holders (addr / 4096) working (page_inside bus.words addr working.size (stored_word bus thread addr done)) (store_held bus thread addr done)

pub mounted_stored : (kernel : KernelView) (words : List Word) (addr value : ℕ) → StoreLaw → IsMounted kernel words → IsOuter words (addr / 4096) → IsMounted kernel (store_at addr value words)
mounted_stored kernel words addr value law mounted outer =
    let kept = law words kernel.holders addr value mounted.working outer in
    record {
      working = kept.works;
      told = mounted.told ∙ sym (same_owners words (store_at addr value words) (length_store_at addr value words) mounted.working.idle.present kept.works.idle.present kept.same);
    }

-- a flush and a fence change no word, and leave a durable one durable
mounted_short : (kernel : KernelView) (old new : List Word) → length new ≡ length old → ((addr : ℕ) → Shortened (word_at old addr) (word_at new addr)) → IsMounted kernel old → IsMounted kernel new
mounted_short kernel old new len short mounted =
    let working = mounted.working in
    let still : committed_count new ≡ 0 = (short committed_word).present ∙ working.idle.present in
    record {
      working = record {
        size = subst HasPages (sym len) working.size;
        sound = sound_after old new (record { size = working.size; len = len; idle = still; view = λ addr home. reads still addr }) working.sound;
        idle = record { present = still; older = still_durable (word_at old committed_word) (word_at new committed_word) (short committed_word) working.idle.older };
        ids = working.ids;
        held = subst (λ (n : ℕ). All (λ (h : Holder). stands_in n (kernel_word new) h.id ≡ true) kernel.holders) (sym (ap (λ (n : ℕ). n / 512) len))
            (subst (λ (at : ℕ → ℕ). All (λ (h : Holder). stands_in (pages_of old) at h.id ≡ true) kernel.holders) (sym (λ i addr. reads still addr i)) working.held);
      };
      told = mounted.told ∙ sym (same_owners old new len working.idle.present still (λ other low. (short other).present));
    }
  where
    reads : committed_count new ≡ 0 → (addr : ℕ) → kernel_word new addr ≡ kernel_word old addr
    reads still addr = idle_word new addr still ∙ (short addr).present ∙ sym (idle_word old addr mounted.working.idle.present)

-- what holds of each of two values holds of the one that a result leaves
pub either_way : {T E X : Type 0} (P : X → Type 0) (r : Result T E) (new good old : X) → OnOk r (new ≡ good) → OnErr r (new ≡ old) → P good → P old → P new
either_way P (Ok v) new good old is other at_good at_old = subst P (sym is) at_good
either_way P (Err e) new good old other is at_good at_old = subst P (sym is) at_old

-- The same of all that ties a bus together.

pub whole : {words : List Word} {kernel : KernelView} {pkrus : List ℕ} {down failed : Bool} → length pkrus ≡ 256 → ((failed ≡ false) × (down ≡ false) → AreTied words kernel pkrus) → IsSoundBus words kernel pkrus down failed
whole count tied = record { count = count; tied = tied }

tied_words : (old new : List Word) (kernel : KernelView) (pkrus : List ℕ) → AreTied old kernel pkrus → IsMounted kernel new → AreTied new kernel pkrus
tied_words old new kernel pkrus tied mounted = record {
  mounted = mounted;
  registers = record { count = tied.registers.count; small = tied.registers.small };
  small = tied.small;
}

module _ (words : List Word) (kernel : KernelView) (pkrus : List ℕ) (tied : AreTied words kernel pkrus) where
  pub tied_stored : (thread addr value : ℕ) → StoreLaw → store_refusal (bus_of words kernel pkrus) thread addr ≡ None → AreTied (store_at addr value words) kernel pkrus
  tied_stored thread addr value law permitted =
      tied_words words (store_at addr value words) kernel pkrus tied
      (mounted_stored kernel words addr value law tied.mounted (store_is_outer (bus_of words kernel pkrus) thread addr tied.mounted.working permitted))

  pub tied_exchanged : (thread addr old new : ℕ) → StoreLaw → store_refusal (bus_of words kernel pkrus) thread addr ≡ None → AreTied (cas_at addr old new words) kernel pkrus
  tied_exchanged thread addr old new law permitted =
      cond_both (nat_eq (word_at words addr).present old) (store_at addr new words) words (λ (ws : List Word). AreTied ws kernel pkrus) (λ e. tied_stored thread addr new law permitted) (λ e. tied)

  pub tied_flushed : (thread addr : ℕ) → AreTied (flush_at thread addr words) kernel pkrus
  tied_flushed thread addr =
      tied_words words (flush_at thread addr words) kernel pkrus tied
      (mounted_short kernel words (flush_at thread addr words) (length_flush thread addr words) (λ at. flush_short thread addr at words) tied.mounted)

  pub tied_fenced : (thread : ℕ) → AreTied (fence_by thread words) kernel pkrus
  tied_fenced thread =
      tied_words words (fence_by thread words) kernel pkrus tied
      (mounted_short kernel words (fence_by thread words) (length_fence thread words) (λ at. fence_short thread at words) tied.mounted)

  pub tied_register : (thread pkru : ℕ) → AreTied words kernel (slice_set pkrus thread pkru)
  tied_register thread pkru = record {
    mounted = tied.mounted;
    registers = record { count = length-set pkrus thread pkru ∙ tied.registers.count; small = tied.registers.small };
    small = tied.small;
  }

  -- a process is started, and a thread
  pub tied_process : (process : ℕ) (cred : Cred) → process < 64 → AreTied words (with_process process cred kernel) pkrus
  tied_process process cred lt = record {
    mounted = record { working = tied.mounted.working; told = tied.mounted.told };
    registers = record { count = tied.registers.count; small = tied.registers.small };
    small = small_more kernel.callers.processes process cred tied.small lt;
  }

  pub tied_thread : (thread process : ℕ) → thread < 256 → AreTied words (with_thread thread process kernel) pkrus
  tied_thread thread process lt = record {
    mounted = record { working = tied.mounted.working; told = tied.mounted.told };
    registers = record { count = tied.registers.count; small = with_thread_small (bus_of words kernel pkrus) thread process lt tied.registers };
    small = tied.small;
  }

  -- a kernel call is done
  pub tied_called : (thread now : ℕ) (kcall : Kcall) (answer : KernAnswer) (new : KernelView) (after : List Word) → IsDone kernel words thread now kcall answer new after → AreTied after new pkrus
  tied_called thread now kcall answer new after done = record {
    mounted = done.mounted;
    registers = subst (λ (c : Callers). HasRegisters (record { words = after; processes = c.processes; threads = c.threads; holders = new.holders; pkrus = pkrus })) (sym done.callers)
        (record { count = tied.registers.count; small = tied.registers.small });
    small = subst (λ (c : Callers). (p : ℕ) → Contains (map (λ (q : ℕ × Cred). q.0) c.processes) p → p < 64) (sym done.callers) tied.small;
  }
