-- A step in the window is one of the scene of the root coffer: the rights permit what the call asks for there, the machine
-- answers it by the words alone, and leaves what the scene says.
use Rattle.std.proofs.Common.{◌≡◌, ◌≢◌, ◌⊎◌, inl, inr, ℕ, ◌/◌, ◌%◌, ◌<◌, ◌≤◌, ltb, List, [], length, take, map, Bool, true, false, ◌&&◌, cond, Option, Some, None, refl, ap, sym, subst, ◌∙◌, arith, slice_index_or}
use Rattle.std.proofs.lemmas.Bool.{cases_eq, eq-eqb, ne_eqb, lt-ltb}
use Rattle.std.proofs.lemmas.List.{length-take-le}
use Rattle.std.proofs.lemmas.List.Elements.{All-contains}
use Rattle.pm_words.specs.Word.{Word, settled}
use Rattle.pm_words.specs.Memory.{store_at}
use Rattle.pm_words.proofs.WordLemmas.{length_store_at, word_at_stored, other_place}
use Rattle.zo_layout.specs.Layout.{page_at, word_of, kernel_pages, root_control, root_page}
use Rattle.bus_model.specs.Machine.{Bus, Answers, pkru_of, is_word, load_refusal, store_refusal, callers_of, acted, held, registered}
use Rattle.kern_model.specs.Given.{IsGivenTo, EnlargeLeaves}
use Rattle.kern_model.specs.Kernel.{kernel_owner, coffer_pages}
use Rattle.kern_model.specs.KernelCalls.{words_after, answer_of}
use Rattle.kern_model.specs.KernelView.{value, pages_of, owner_of, free_pages}
use Rattle.kern_model.specs.Rights.{are_together, key_in, load_fault, store_fault, load_fault_by, store_fault_by, allows_writing}
use Rattle.tr_types.specs.declared.action.Action.{Action}
use Rattle.tr_types.specs.declared.action.Action.TheVariants.{Load, Store, Kernel}
use Rattle.tr_types.specs.declared.action.Answer.{Answer}
use Rattle.tr_types.specs.declared.action.Answer.TheVariants.{Word as WordIs, Done, Fault, Kern}
use Rattle.tr_types.specs.declared.action.FaultKind.TheVariants.{NotMapped, KeyDenied}
use Rattle.tr_types.specs.declared.command.Command.{Command}
use Rattle.tr_types.specs.declared.command.Command.TheVariants.{Create, Stat}
use Rattle.tr_types.specs.declared.entry.Entry.TheVariants as entry
use Rattle.tr_types.specs.declared.entry.Mark.{Mark}
use Rattle.tr_types.specs.declared.kernel_call.Kcall.{Kcall}
use Rattle.tr_types.specs.declared.kernel_call.Kcall.TheVariants as kcall
use Rattle.tr_types.specs.declared.kernel_call.KernAnswer.{KernAnswer}
use Rattle.tr_types.specs.declared.kernel_call.KernAnswer.TheVariants as kern
use Rattle.zo_model.specs.Coffers.{names_below}
use Rattle.zo_model.specs.Commands.{IsCommand}
use Rattle.zo_model.specs.Seats.{Seat, seat_after}
use Rattle.zo_model.specs.Steps.{Scene, IsCofferWord, MayStore, IsReachable, HasDrawn, LeavesWords, Leaves, put}
use Rattle.zo_model.specs.Steps.{Answers as SceneAnswers}
use Rattle.tr_model.specs.RootCoffer.{EnlargeAnswers, holds_to_write}
use Rattle.tr_model.specs.RootCoffer.{root_coffer}
use Rattle.tr_model.specs.Worlds.{World, Row, root_row, coffer_at, stepped, pool_of}
use Rattle.tr_model.proofs.RootLemmas.{enlarge_answers, enlarge_held, enlarge_leaves}
use Rattle.tr_dispatch.specs.Rooted.{HasKernel, IsRooted, root_at, scene_of}
use Rattle.tr_dispatch.specs.Sessions.{Sits, HasMapped, row_of, open_pkru, writes, right_of}
use Rattle.tr_dispatch.proofs.Kernels.{owns_kernel, page_owned, page_past, owner_is, kernel_stored, pages_stored, kernel_given, new_count, word_same, page_kept, page_given, page_only, page_apart, given_once}
use Rattle.tr_dispatch.proofs.Reached.{by_reached}
use Rattle.tr_dispatch.proofs.Register.{first_reads, first_writes}
use Rattle.tr_dispatch.proofs.Roots.{coffers_moved}
use Rattle.tr_dispatch.proofs.Rows.{together, key_own, writable_own, writes_own}
use Rattle.tr_dispatch.proofs.Worlds.{verdict_moves}

-- the same coffer where its pages are the same, and the memory has as many
coffer_same : (table : List Row) (old new : List Word) → pages_of new ≡ pages_of old → coffer_pages new 1 ≡ coffer_pages old 1
    → coffer_at new table root_row (root_coffer (pages_of new)) ≡ coffer_at old table root_row (root_coffer (pages_of old))
coffer_same table old new count same = λ i. record {
  control = root_control (count i);
  root = root_page (count i);
  pages = same i;
  path = [];
  below = names_below (map (λ (r : Row). r.path) table) [];
}

-- an address in the eight bytes of a word that was stored reads it, and no other
at_stored : (words : List Word) (addr x : ℕ) → addr % 8 ≡ 0 → addr / 8 < length words → value (store_at addr x words) ≡ put (value words) addr x
at_stored words addr x aligned inside = λ i a. each a (cases_eq (a / 8) (addr / 8)) i
  where
    each : (a : ℕ) → (a / 8 ≡ addr / 8) ⊎ (a / 8 ≢ addr / 8) → value (store_at addr x words) a ≡ put (value words) addr x a
    each a (inl same) =
        ap (λ (k : ℕ). (slice_index_or (store_at addr x words) k (settled 0)).present) same
        ∙ ap (λ (w : Word). w.present) (word_at_stored addr x words (record { aligned = aligned; inside = inside }))
        ∙ sym (ap (λ (b : Bool). cond b x (value words a)) (eq-eqb (a / 8) (addr / 8) same))
    each a (inr other) =
        ap (λ (w : Word). w.present) (other_place addr x words (a / 8) (settled 0) other)
        ∙ sym (ap (λ (b : Bool). cond b x (value words a)) (ne_eqb (a / 8) (addr / 8) other))

-- What an action that the scene allows comes to, at this tick and with this answer: it is answered as in the scene, leaves
-- what that says of the words, and of all else but the thread's seat and what users see nothing.
pub record Bridged (w : World) (thread : ℕ) (seat : Seat) (now : ℕ) (mark : Mark) (action : Action) (given : Answer) : Type 0 where
  pub answers : SceneAnswers (scene_of w thread seat) action given
  pub words : LeavesWords action given (scene_of w thread seat) (scene_of (stepped w (entry.Act thread now mark action given)) thread (seat_after (pool_of w.base.machine.bus.words) mark action given seat))
  pub kernel : HasKernel (acted thread now action given w.base.machine.bus)
  pub holders : held thread now action given w.base.machine.bus ≡ w.base.machine.bus.holders
  pub registers : registered thread action given w.base.machine.bus.pkrus ≡ w.base.machine.bus.pkrus

module _ (w : World) (thread : ℕ) (command : Command) (seat : Seat) (key : ℕ) (rooted : IsRooted w) (sits : Sits thread command w seat) (mapped : HasMapped w.base.machine.bus thread command key (open_pkru command key)) where
  abbrev bus : Bus
  bus = w.base.machine.bus

  abbrev s : Scene
  s = scene_of w thread seat

  kernel : HasKernel bus.words
  kernel = rooted.kernel

  first : key ≡ 1
  first = (rooted.rows (row_of thread command key) mapped.held).key

  register : pkru_of bus thread ≡ open_pkru command 1
  register = mapped.register ∙ ap (open_pkru command) first

  alone : are_together bus.threads thread thread ≡ true
  alone = together bus.threads thread sits.lives.0

  -- a word of the coffer
  page_is : (addr : ℕ) → IsCofferWord (root_at w) addr → (addr / 4096 < pages_of bus.words) × (owner_of bus.words (addr / 4096) ≡ 1)
  page_is addr is = page_owned bus.words 1 (addr / 4096) kernel is.coffers

  inside : (addr : ℕ) → IsCofferWord (root_at w) addr → addr / 8 < length bus.words
  inside addr is =
      let low = (page_is addr is).0 in
      let whole = kernel.size.whole in
      omega (arith, low, whole)

  pub word_past : (addr : ℕ) → IsCofferWord (root_at w) addr → page_at (kernel_pages (pages_of bus.words)) ≤ addr
  word_past addr is =
      let behind = page_past bus.words 1 (addr / 4096) kernel (omega arith) (page_is addr is).1 in
      omega (arith, behind)

  owned : (addr : ℕ) → IsCofferWord (root_at w) addr → kernel_owner bus.words (addr / 4096) ≡ 1
  owned addr is = owner_is bus.words (addr / 4096) kernel ∙ (page_is addr is).1

  word_is : (addr : ℕ) → IsCofferWord (root_at w) addr → is_word bus.words addr ≡ true
  word_is addr is = ap (λ (b : Bool). b && ltb (addr / 8) (length bus.words)) (eq-eqb (addr % 8) 0 is.aligned) ∙ lt-ltb (addr / 8) (length bus.words) (inside addr is)

  key_is : key_in bus.threads bus.holders thread 1 ≡ Some 1
  key_is = key_own thread (row_of thread command key) refl refl bus.threads alone bus.holders rooted.rows mapped.held

  -- a load of the coffer's word is permitted
  load_permitted : (addr : ℕ) → IsCofferWord (root_at w) addr → load_refusal bus thread addr ≡ None
  load_permitted addr is =
      ap (λ (b : Bool). cond b (load_fault bus.threads bus.holders thread (pkru_of bus thread) (kernel_owner bus.words (addr / 4096))) (Some NotMapped)) (word_is addr is)
      ∙ (λ i. load_fault bus.threads bus.holders thread (register i) (owned addr is i))
      ∙ ap (λ (k : Option ℕ). load_fault_by k (open_pkru command 1)) key_is
      ∙ ap (λ (b : Bool). cond b None (Some KeyDenied)) (first_reads (writes command))

  stores : MayStore seat.command → MayStore command
  stores may = subst MayStore sits.command_is may

  allows : (c : Command) → MayStore c → allows_writing (right_of c) ≡ true
  allows (Create path mode) may = refl
  allows (Stat path) may = absurd may

  opened_to_write : (c : Command) → MayStore c → store_fault_by (Some 1) true (open_pkru c 1) ≡ None
  opened_to_write (Create path mode) may = ap (λ (b : Bool). cond b None (Some KeyDenied)) first_writes
  opened_to_write (Stat path) may = absurd may

  -- and so is a store, where the command stores
  store_permitted : MayStore command → (addr : ℕ) → IsCofferWord (root_at w) addr → store_refusal bus thread addr ≡ None
  store_permitted may addr is =
      ap (λ (b : Bool). cond b (store_fault bus.threads bus.holders thread (pkru_of bus thread) (kernel_owner bus.words (addr / 4096))) (Some NotMapped)) (word_is addr is)
      ∙ (λ i. store_fault bus.threads bus.holders thread (register i) (owned addr is i))
      ∙ (λ i. store_fault_by (key_is i) (writable_own thread (row_of thread command key) refl refl bus.threads alone (allows command may) bus.holders mapped.held i) (open_pkru command 1))
      ∙ opened_to_write command may

  -- and the thread may ask for pages
  held_to_write : MayStore command → holds_to_write thread 1 bus.holders ≡ true
  held_to_write may = writes_own thread (row_of thread command key) refl refl (allows command may) bus.holders mapped.held

  module _ (now : ℕ) (mark : Mark) where
    loaded : (addr : ℕ) → IsCofferWord (root_at w) addr → (given : Answer) → Answers bus thread now (Load addr) given → Bridged w thread seat now mark (Load addr) given
    loaded addr is (WordIs x) a = record {
      answers = ap (λ (y : ℕ). WordIs y) a.1;
      words = (refl, refl);
      kernel = kernel;
      holders = refl;
      registers = refl;
    }
    loaded addr is Done a = absurd a
    loaded addr is (Fault kind) a = let clash : None ≡ Some kind = sym (load_permitted addr is) ∙ a in cc
    loaded addr is (Kern answer) a = absurd a

    stored : MayStore command → (addr x : ℕ) → IsCofferWord (root_at w) addr → (given : Answer) → Answers bus thread now (Store addr x) given → Bridged w thread seat now mark (Store addr x) given
    stored may addr x is (WordIs y) a = absurd a
    stored may addr x is Done a = record {
      answers = refl;
      words = (
        at_stored bus.words addr x is.aligned (inside addr is),
        coffer_same w.base.table bus.words (store_at addr x bus.words) (ap (λ (n : ℕ). n / 512) (length_store_at addr x bus.words)) (pages_stored bus.words addr x kernel is.aligned (word_past addr is) 1),
      );
      kernel = kernel_stored bus.words addr x kernel is.aligned (word_past addr is);
      holders = refl;
      registers = refl;
    }
    stored may addr x is (Fault kind) a = let clash : None ≡ Some kind = sym (store_permitted may addr is) ∙ a in cc
    stored may addr x is (Kern answer) a = absurd a

    -- pages that the kernel gives
    module _ (count : ℕ) where
      abbrev asks : Kcall
      asks = kcall.Enlarge 1 count

      abbrev left_words : List Word
      left_words = words_after (callers_of bus) bus.words bus.holders thread now asks

      abbrev Asked : KernAnswer → Type 0
      Asked r = r ≡ answer_of (callers_of bus) bus.words bus.holders thread now asks → Bridged w thread seat now mark (Kernel asks) (Kern r)

      leaves_them : (r : KernAnswer) → r ≡ answer_of (callers_of bus) bus.words bus.holders thread now asks → EnlargeLeaves 1 bus.words r left_words
      leaves_them r is = subst (λ (a : KernAnswer). EnlargeLeaves 1 bus.words a left_words) (sym is) (enlarge_leaves bus thread now 1 count (owns_kernel bus.words kernel))

      drawn : IsGivenTo 1 (take count (free_pages bus.words)) bus.words left_words → HasDrawn (take count (free_pages bus.words)) s (scene_of (stepped w (entry.Act thread now mark (Kernel asks) (Kern (kern.Pages (take count (free_pages bus.words)))))) thread (seat_after (pool_of bus.words) mark (Kernel asks) (Kern (kern.Pages (take count (free_pages bus.words)))) seat))
      drawn given = record {
        kept = page_kept bus.words left_words 1 count kernel given;
        given = page_given bus.words left_words 1 count kernel given;
        only = page_only bus.words left_words 1 count kernel given;
        control = ap root_control (new_count bus.words left_words 1 count kernel given);
        root = ap root_page (new_count bus.words left_words 1 count kernel given);
        path = refl;
        below = refl;
        same = λ addr among. word_same bus.words left_words 1 count kernel given (omega arith) (omega arith) addr among;
        zeros = λ page i among lt. All-contains (λ p. (j : ℕ) → j < 512 → value left_words (word_of (page_at p) j) ≡ 0) (take count (free_pages bus.words)) page given.zeroed among i lt;
      }

      pages_given : (enough : count ≤ length (free_pages bus.words)) → Asked (kern.Pages (take count (free_pages bus.words)))
      pages_given enough is =
          let left = leaves_them (kern.Pages (take count (free_pages bus.words))) is in
          record {
            answers = record {
              count_is = length-take-le count (free_pages bus.words) enough;
              apart = page_apart bus.words left_words 1 count kernel left (omega arith);
              once = given_once bus.words count;
            };
            words = drawn left;
            kernel = kernel_given bus.words left_words 1 count kernel left;
            holders = enlarge_held bus thread now 1 count kernel.alone.idle.present;
            registers = refl;
          }

      none_given : (asked free : ℕ) → asked ≡ count → free < count → Asked (kern.NoPages asked free)
      none_given asked free same few is =
          let left = leaves_them (kern.NoPages asked free) is in
          record {
            answers = (same, few);
            words = (
              ap value left,
              coffer_same w.base.table bus.words left_words (ap pages_of left) (ap (λ (ws : List Word). coffer_pages ws 1) left),
            );
            kernel = subst HasKernel (sym left) kernel;
            holders = enlarge_held bus thread now 1 count kernel.alone.idle.present;
            registers = refl;
          }

      module _ (may : MayStore command) (least : 1 ≤ count) (most : count ≤ 1024) where
        bad_count : (count ≡ 0) ⊎ (1024 < count) → ⊥
        bad_count (inl none) = omega (arith, least, none)
        bad_count (inr many) = omega (arith, most, many)

        enlarged : (r : KernAnswer) → EnlargeAnswers bus thread 1 count r → Asked r
        enlarged kern.Done a = absurd a.3
        enlarged kern.Same a = absurd a.3
        enlarged (kern.Found one other) a = absurd a.3
        enlarged (kern.Mapped m) a = absurd a.3
        enlarged (kern.Made made) a = absurd a.3
        enlarged (kern.Pages pages) a = subst (λ (ps : List ℕ). Asked (kern.Pages ps)) (sym a.3.1) (pages_given a.3.0)
        enlarged kern.NotHeld a = let clash : true ≡ false = sym (held_to_write may) ∙ a in cc
        enlarged kern.BadPath a = absurd a.3
        enlarged (kern.Denied right other len) a = absurd a.3
        enlarged (kern.Quarantined other len) a = absurd a.3
        enlarged (kern.InUse user other len) a = absurd a.3
        enlarged (kern.NoKey other len) a = absurd a.3
        enlarged (kern.NotYours page) a = absurd a.3
        enlarged (kern.GuardFailed addr word) a = absurd a.3
        enlarged (kern.LinkDiffers addr word) a = absurd a.3
        enlarged kern.Taken a = absurd a.3
        enlarged kern.TooMany a = absurd a.3
        enlarged (kern.NoPages asked free) a = none_given asked free a.3.1 a.3.0
        enlarged kern.NoCoffer a = absurd a.3
        enlarged kern.NotEmptyList a = absurd a.3
        enlarged kern.BadCount a = absurd (bad_count a.1)
        enlarged kern.NoMemory a = absurd a.3

        asked : (given : Answer) → Answers bus thread now (Kernel asks) given → Bridged w thread seat now mark (Kernel asks) given
        asked (WordIs x) a = absurd a
        asked Done a = absurd a
        asked (Fault kind) a = absurd a
        asked (Kern r) a = enlarged r (subst (EnlargeAnswers bus thread 1 count) (sym a) (enlarge_answers bus thread now 1 count kernel.alone.idle.present)) a

    asked_for : (id count : ℕ) → IsReachable s (Kernel (kcall.Enlarge id count)) → (given : Answer) → Answers bus thread now (Kernel (kcall.Enlarge id count)) given → Bridged w thread seat now mark (Kernel (kcall.Enlarge id count)) given
    asked_for id count reached =
        subst (λ (i : ℕ). (given : Answer) → Answers bus thread now (Kernel (kcall.Enlarge i count)) given → Bridged w thread seat now mark (Kernel (kcall.Enlarge i count)) given) (sym reached.1)
        (asked count (stores reached.0) reached.2 reached.3)

    pub bridged : (action : Action) → IsReachable s action → (given : Answer) → Answers bus thread now action given → Bridged w thread seat now mark action given
    bridged = by_reached s (λ a. (given : Answer) → Answers bus thread now a given → Bridged w thread seat now mark a given) loaded (λ addr x may word. stored (stores may) addr x word) asked_for

    -- all that a step leaves of the scene
    pub leaves : (action : Action) (given : Answer) → Bridged w thread seat now mark action given
        → Leaves mark action given s (scene_of (stepped w (entry.Act thread now mark action given)) thread (seat_after (pool_of bus.words) mark action given seat))
    leaves action given bridged = record {
      words = bridged.words;
      id = refl;
      seat = refl;
      coffers = coffers_moved w rooted.table seat sits.cred (subst IsCommand (sym sits.command_is) sits.valid) thread mark given sits.seat_is;
      verdict = verdict_moves w thread now mark action given seat sits.seat_is;
    }
