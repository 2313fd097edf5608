-- What a session gives, exit by exit.
use Rattle.std.proofs.Common.{◌≡◌, ◌≢◌, ◌⊎◌, inl, inr, ℕ, ◌<◌, ◌≤◌, ◌^◌, List, [], ◌∷◌, Contains, Bool, true, false, Option, Some, None, refl, ap, sym, subst, ◌∙◌, arith, slice_index_or}
use Rattle.pm_words.specs.Word.{Word}
use Rattle.zo_layout.specs.Layout.{page_at, root_control, kernel_pages}
use Rattle.bus_model.specs.Machine.{Bus, Answers, callers_of}
use Rattle.kern_model.specs.Kernel.{coffer_pages}
use Rattle.kern_model.specs.KernelCalls.{answer_of, words_after, holders_after, IsOneRight}
use Rattle.kern_model.specs.KernelView.{value, pages_of}
use Rattle.kern_model.specs.Rights.{closed_pkru, only_pkru, key_for, those_against, with_row, without_row, holds_itself, IsLeastOf}
use Rattle.kern_model.proofs.Idle.{idle_pages}
use Rattle.tr_types.specs.declared.action.Action.{Action}
use Rattle.tr_types.specs.declared.action.Action.TheVariants.{Pkru, Kernel}
use Rattle.tr_types.specs.declared.action.Answer.{Answer}
use Rattle.tr_types.specs.declared.action.Answer.TheVariants.{Word as WordIs, Done, Fault, Kern}
use Rattle.tr_types.specs.declared.command.Command.{Command}
use Rattle.tr_types.specs.declared.command.Command.TheVariants.{Create, Stat}
use Rattle.tr_types.specs.declared.command.Reply.{Reply}
use Rattle.tr_types.specs.declared.entry.Entry.TheVariants as entry
use Rattle.tr_types.specs.declared.entry.Mark.{Mark}
use Rattle.tr_types.specs.declared.entry.Mark.TheVariants.{Plain, Open, Close, Take, Note, Check, Point, Commit}
use Rattle.tr_types.specs.declared.kernel_call.Holder.{Holder}
use Rattle.tr_types.specs.declared.kernel_call.Kcall.{Kcall}
use Rattle.tr_types.specs.declared.kernel_call.Kcall.TheVariants as kcall
use Rattle.tr_types.specs.declared.kernel_call.KernAnswer.{KernAnswer}
use Rattle.tr_types.specs.declared.kernel_call.KernAnswer.TheVariants as kern
use Rattle.tr_types.specs.declared.kernel_call.Mapped.{Mapped}
use Rattle.tr_types.specs.declared.permission.Right.{Right}
use Rattle.zo_model.specs.Alone.{IsAlone}
use Rattle.zo_model.specs.Coffers.{Content, Ready, Lost, Quarantined, Coffer}
use Rattle.zo_model.specs.CofferWords.{Rests}
use Rattle.zo_model.specs.Commands.{IsPath, IsCommand, sought_path, consulted_path, right_needed}
use Rattle.zo_model.specs.Discipline.{Keeps, MayAskAt}
use Rattle.zo_model.specs.Legal.{Verdict, IsJudged, MayCommit, MayReply}
use Rattle.zo_model.specs.Seats.{Seat, LastFind, NotAsked, Given, seat_after, found_after, is_commit}
use Rattle.zo_model.specs.Steps.{Scene, IsCofferWord, IsReachable, Goes as OpGoes, ActGives, OverGives, MayMark}
use Rattle.zo_model.specs.Tree.{Member}
use Rattle.tr_model.specs.Marks.{pkru_mark}
use Rattle.tr_model.specs.OneWindow.{IsKey, FindsShut, MapsFound}
use Rattle.tr_model.specs.RootCoffer.{IsGiven, MapAnswers, UnmapAnswers, root_held, root_mapped, found_at}
use Rattle.tr_model.specs.Worlds.{World, stepped, pool_of, coffers_at, KeepsAt, IsKnownCall, IsLegal, IsLegalCommit, IsDisciplined, IsCommitDone}
use Rattle.tr_model.proofs.RootLemmas.{find_answer, find_words, find_held, map_answers, map_words, map_held, unmap_answers, unmap_words, unmap_held}
use Rattle.zo_ops.specs.declared.op.OpRun.{OpRun}
use Rattle.zo_ops.specs.declared.op.OpStep.TheVariants as op_step
use Rattle.zo_ops.specs.declared.op.Stage.{Stage as OpStage}
use Rattle.zo_ops.specs.declared.op.Stage.TheVariants as op_stage
use Rattle.zo_ops.specs.Knows.{Stands, BeginKnows, OpKnows, StepsFrom, DrawnKnows, MayPutAll, stored}
use Rattle.zo_ops.specs.Knows.{StageKnows as OpStageKnows}
use Rattle.zo_plan.specs.StoreRuns.{Due}
use Rattle.zo_plan.specs.declared.place.Place.{Place}
use Rattle.tr_dispatch.specs.declared.session.SessionStep.TheVariants as step
use Rattle.tr_dispatch.specs.declared.session.Stage.{Stage}
use Rattle.tr_dispatch.specs.declared.session.Stage.TheVariants as stage
use Rattle.tr_dispatch.specs.Rooted.{HasKernel, IsRootRow, IsRooted, IsAtRest, root_at, scene_of}
use Rattle.tr_dispatch.specs.Sessions.{HasFound, StageKnows, KnowsAt, SessionGoes, LeadsTo, GivesAction, row_of, right_of, open_pkru, writes}
use Rattle.tr_dispatch.proofs.Kernels.{page_owned, owned_page, page_past, control_inside}
use Rattle.tr_dispatch.proofs.Paths.{sought, consults_path, path_text}
use Rattle.tr_dispatch.proofs.Quiet.{still_denoted, still_at_rest}
use Rattle.tr_dispatch.proofs.Reached.{by_reached}
use Rattle.tr_dispatch.proofs.Register.{shut, open_marked}
use Rattle.tr_dispatch.proofs.Roots.{coffers_are, denoted_of, scene_denotes}
use Rattle.tr_dispatch.proofs.Rows.{key_is_first, nobody_against, holds_own, row_comes, rows_were, row_stays_with, row_stays_without, row_was, none_left}
use Rattle.tr_dispatch.proofs.Scenes.{Bridged, bridged, leaves, word_past}
use Rattle.tr_dispatch.proofs.Members.{contains_none}
use Rattle.tr_dispatch.proofs.Worlds.{LeavesOthers, IsOwnWindow, register_set, verdict_moves, sits_after, leaves_others, same_holders, bare_beside, windows_stay}

-- only the kernel answers a call of the kernel, and a register is written
by_kernel : (P : Answer → Type 0) (bus : Bus) (thread now : ℕ) (call : Kcall) → ((answer : KernAnswer) → answer ≡ answer_of (callers_of bus) bus.words bus.holders thread now call → P (Kern answer)) → (answer : Answer) → Answers bus thread now (Kernel call) answer → P answer
by_kernel P bus thread now call p (WordIs x) a = absurd a
by_kernel P bus thread now call p Done a = absurd a
by_kernel P bus thread now call p (Fault kind) a = absurd a
by_kernel P bus thread now call p (Kern answer) a = p answer a

by_done : (P : Answer → Type 0) (answer : Answer) → answer ≡ Done → P Done → P answer
by_done P answer is p = subst P (sym is) p

no_key : (key : ℕ) → None ≡ Some key → ⊥
no_key key clash = cc

-- The thread's own window at each stage.
own_window : (thread : ℕ) (command : Command) (s : Stage) (answer : Answer) (w : World) (seat : Seat) → IsRooted w → StageKnows thread command s answer w seat → IsOwnWindow thread command w seat
own_window thread command stage.Begin answer w seat rooted k = inl k.0.register
own_window thread command stage.Finding answer w seat rooted k = inl k.0.register
own_window thread command stage.Mapping answer w seat rooted k = inl k.1.register
own_window thread command (stage.Working op) answer w seat rooted k =
    let first : k.0 ≡ 1 = (rooted.rows (row_of thread command k.0) k.1.held).key in
    inr (record {
      register = k.1.register ∙ ap (open_pkru command) first;
      held = subst (λ (key : ℕ). Contains w.base.machine.bus.holders (row_of thread command key)) first k.1.held;
      found = k.2;
    })
own_window thread command (stage.Closing reply) answer w seat rooted k = inl k.1.register
own_window thread command (stage.Ending reply) answer w seat rooted k = inl k.0.register
own_window thread command stage.Over answer w seat rooted k = absurd k

-- a step goes on where it is legal and disciplined, leaves the others, and this is known then
goes_on : (thread now : ℕ) (command : Command) (later : Stage) (mark : Mark) (action : Action) (w : World) (given : Answer) → IsLegal w (entry.Act thread now mark action given) → IsDisciplined w (entry.Act thread now mark action given)
    → LeavesOthers thread w (stepped w (entry.Act thread now mark action given)) → KnowsAt thread command later given (stepped w (entry.Act thread now mark action given))
    → SessionGoes (KnowsAt thread command later) thread now mark action w given
goes_on thread now command later mark action w given legal disciplined others k = record {
  legal = legal;
  disciplined = disciplined;
  denoted = k.denoted;
  windowed = λ old. windows_stay thread command w (stepped w (entry.Act thread now mark action given)) k.seat others k.sits (own_window thread command later given (stepped w (entry.Act thread now mark action given)) k.seat k.rooted k.knows) old;
  beside = bare_beside thread w (stepped w (entry.Act thread now mark action given)) others;
  knows = k;
}

-- what a call keeps with a call of the kernel before its commit
keeps_at : (w : World) (thread : ℕ) (seat : Seat) (mark : Mark) (action : Action) (given : Answer) → w.base.seats thread ≡ Some seat
    → (IsJudged (coffers_at w) seat → Keeps (page_at (kernel_pages (pages_of w.base.machine.bus.words))) (coffers_at w) seat action × IsCommitDone mark given)
    → KeepsAt w mark action given (w.base.seats thread)
keeps_at w thread seat mark action given is keeps = subst (KeepsAt w mark action given) (sym is) keeps

-- The first look: the coffer of the path that the command consults.
module _ (thread : ℕ) (command : Command) (answer : Answer) (path : List ℕ) (is : path ≡ consulted_path command) (w : World) (k : KnowsAt thread command stage.Begin answer w) (now : ℕ) where
  abbrev bus : Bus
  bus = w.base.machine.bus

  abbrev look : Action
  look = Kernel (kcall.Find path None)

  abbrev shows : Answer
  shows = Kern (kern.Found (found_at (sought_path command)) None)

  abbrev found_world : World
  found_world = stepped w (entry.Act thread now Plain look shows)

  look_path : IsPath path
  look_path = consults_path command path k.sits.valid is

  -- the path is the one that the command looks for
  aim : path ≡ sought_path command
  aim = is ∙ sought command k.sits.valid

  seat_aim : path ≡ sought_path k.seat.command
  seat_aim = aim ∙ sym (ap sought_path k.sits.command_is)

  same_words : words_after (callers_of bus) bus.words bus.holders thread now (kcall.Find path None) ≡ bus.words
  same_words = find_words (callers_of bus) bus.words bus.holders thread now k.rooted.kernel.alone path None

  same_rows : holders_after (callers_of bus) bus.words bus.holders thread now (kcall.Find path None) ≡ bus.holders
  same_rows = find_held (callers_of bus) bus.words bus.holders thread now k.rooted.kernel.alone path None

  find_knows : KnowsAt thread command stage.Finding shows found_world
  find_knows = record {
    rooted = record {
      kernel = subst HasKernel (sym same_words) k.rooted.kernel;
      rows = λ row among. k.rooted.rows row (subst (λ (hs : List Holder). Contains hs row) same_rows among);
      table = k.rooted.table;
    };
    denoted = still_denoted w thread now Plain look shows refl same_words k.denoted;
    seat = seat_after (pool_of bus.words) Plain look shows k.seat;
    sits = sits_after w thread now Plain look shows k.seat command k.sits;
    knows = (
      record { unheld = λ row among. k.knows.0.unheld row (subst (λ (hs : List Holder). Contains hs row) same_rows among); register = k.knows.0.register },
      still_at_rest w thread now Plain look shows refl same_words k.knows.1,
      record {
        uncommitted = k.knows.2.uncommitted;
        unasked = k.knows.2.unasked;
        open_reply = verdict_moves w thread now Plain look shows k.seat k.sits.seat_is ∙ k.knows.2.open_reply;
      },
      record { find = record { path = path; coffer = 1; path_len = 1 }; found = refl; named = seat_aim; coffer = refl },
      refl,
    );
  }

  find_goes : SessionGoes (KnowsAt thread command stage.Finding) thread now Plain look w shows
  find_goes = goes_on thread now command stage.Finding Plain look w shows (tt, tt)
      (keeps_at w thread k.seat Plain look shows k.sits.seat_is (λ _. (subst (λ (b : Bool). MayAskAt b (coffers_at w) k.seat (kcall.Find path None)) (sym k.knows.2.uncommitted) (seat_aim, refl), tt)))
      (same_holders w thread now Plain look shows same_rows)
      find_knows

  find_goes_on : (given : Answer) → Answers bus thread now look given → SessionGoes (KnowsAt thread command stage.Finding) thread now Plain look w given
  find_goes_on = by_kernel (SessionGoes (KnowsAt thread command stage.Finding) thread now Plain look w) bus thread now (kcall.Find path None)
      (λ r a. subst (λ (x : KernAnswer). SessionGoes (KnowsAt thread command stage.Finding) thread now Plain look w (Kern x))
      (sym (a ∙ find_answer (callers_of bus) bus.words bus.holders thread now k.rooted.kernel.alone path look_path ∙ ap (λ (p : List ℕ). kern.Found (found_at p) None) aim)) find_goes)

pub find_gives : (thread : ℕ) (command : Command) (answer : Answer) (path : List ℕ) → path ≡ consulted_path command → LeadsTo thread command stage.Begin answer stage.Finding (step.Act (Kernel (kcall.Find path None)) Plain)
find_gives thread command answer path is w k = record {
  shut = λ now given key opened. shut w.base.machine.bus thread key k.knows.0.register opened;
  found = λ now given. tt;
  goes = find_goes_on thread command answer path is w k;
}

-- it is one that a script can write
pub find_built : (command : Command) (path : List ℕ) → IsCommand command → path ≡ consulted_path command → GivesAction (step.Act (Kernel (kcall.Find path None)) Plain)
find_built command path valid is = ((path_text path (consults_path command path valid is), tt), refl)

-- The map of that coffer, with the right that the command needs.
given_right : (command : Command) → IsGiven (right_of command)
given_right (Create path mode) = inr refl
given_right (Stat path) = inl refl

one_right : (right : Right) → IsGiven right → IsOneRight right
one_right right (inl reads) = inl reads
one_right right (inr writes) = inr (inl writes)

needed : (command : Command) → (right_of command).0 ≡ right_needed command
needed (Create path mode) = refl
needed (Stat path) = refl

-- What may be answered to a map where nobody stands against it and the first key is free, and to an unmap of what is held.
module _ (P : KernAnswer → Type 0) (bus : Bus) (thread : ℕ) (nobody : (other : ℕ) → IsLeastOf (those_against thread 1 false bus.holders) other → ⊥) (key : key_for bus.threads bus.holders thread 1 ≡ Some 1) (p : (m : Mapped) → MapAnswers bus thread false (kern.Mapped m) → P (kern.Mapped m)) where
  by_mapped : (r : KernAnswer) → MapAnswers bus thread false r → P r
  by_mapped kern.Done a = absurd a
  by_mapped kern.Same a = absurd a
  by_mapped (kern.Found one other) a = absurd a
  by_mapped (kern.Mapped m) a = p m a
  by_mapped (kern.Made made) a = absurd a
  by_mapped (kern.Pages pages) a = absurd a
  by_mapped kern.NotHeld a = absurd a
  by_mapped kern.BadPath a = absurd a
  by_mapped (kern.Denied r other len) a = absurd a
  by_mapped (kern.Quarantined other len) a = absurd a
  by_mapped (kern.InUse user other len) a = absurd (nobody user a.0)
  by_mapped (kern.NoKey other len) a = absurd (no_key 1 (sym a.1 ∙ key))
  by_mapped (kern.NotYours page) a = absurd a
  by_mapped (kern.GuardFailed addr word) a = absurd a
  by_mapped (kern.LinkDiffers addr word) a = absurd a
  by_mapped kern.Taken a = absurd a
  by_mapped kern.TooMany a = absurd a
  by_mapped (kern.NoPages asked free) a = absurd a
  by_mapped kern.NoCoffer a = absurd a
  by_mapped kern.NotEmptyList a = absurd a
  by_mapped kern.BadCount a = absurd a
  by_mapped kern.NoMemory a = absurd a

module _ (P : KernAnswer → Type 0) (bus : Bus) (thread : ℕ) (holds : holds_itself thread 1 bus.holders ≡ true) (p : P kern.Done) where
  by_unmapped : (r : KernAnswer) → UnmapAnswers bus thread 1 r → P r
  by_unmapped kern.Done a = p
  by_unmapped kern.Same a = absurd a
  by_unmapped (kern.Found one other) a = absurd a
  by_unmapped (kern.Mapped m) a = absurd a
  by_unmapped (kern.Made made) a = absurd a
  by_unmapped (kern.Pages pages) a = absurd a
  by_unmapped kern.NotHeld a = let clash : true ≡ false = sym holds ∙ a in cc
  by_unmapped kern.BadPath a = absurd a
  by_unmapped (kern.Denied r other len) a = absurd a
  by_unmapped (kern.Quarantined other len) a = absurd a
  by_unmapped (kern.InUse user other len) a = absurd a
  by_unmapped (kern.NoKey other len) a = absurd a
  by_unmapped (kern.NotYours page) a = absurd a
  by_unmapped (kern.GuardFailed addr word) a = absurd a
  by_unmapped (kern.LinkDiffers addr word) a = absurd a
  by_unmapped kern.Taken a = absurd a
  by_unmapped kern.TooMany a = absurd a
  by_unmapped (kern.NoPages asked free) a = absurd a
  by_unmapped kern.NoCoffer a = absurd a
  by_unmapped kern.NotEmptyList a = absurd a
  by_unmapped kern.BadCount a = absurd a
  by_unmapped kern.NoMemory a = absurd a

module _ (thread : ℕ) (command : Command) (answer : Answer) (path : List ℕ) (right : Right) (is : path ≡ consulted_path command) (right_is : right ≡ right_of command) (w : World) (k : KnowsAt thread command stage.Finding answer w) (now : ℕ) where
  abbrev map_bus : Bus
  map_bus = w.base.machine.bus

  abbrev call : Kcall
  call = kcall.Map path right false

  abbrev maps : Action
  maps = Kernel call

  -- what the kernel answers to the map
  abbrev told_by : KernAnswer
  told_by = answer_of (callers_of map_bus) map_bus.words map_bus.holders thread now call

  abbrev mapped_root : KernAnswer
  mapped_root = kern.Mapped (root_mapped map_bus.words 1)

  abbrev mapped_world : World
  mapped_world = stepped w (entry.Act thread now Plain maps (Kern mapped_root))

  map_path : IsPath path
  map_path = consults_path command path k.sits.valid is

  map_right : IsGiven right
  map_right = subst IsGiven (sym right_is) (given_right command)

  map_aim : path ≡ sought_path k.seat.command
  map_aim = is ∙ sought command k.sits.valid ∙ sym (ap sought_path k.sits.command_is)

  map_same_words : words_after (callers_of map_bus) map_bus.words map_bus.holders thread now call ≡ map_bus.words
  map_same_words = map_words map_bus thread now k.rooted.kernel.alone path right false map_path map_right

  abbrev new_row : Holder
  new_row = row_of thread command 1

  map_rows : mapped_root ≡ told_by → holders_after (callers_of map_bus) map_bus.words map_bus.holders thread now call ≡ with_row new_row map_bus.holders
  map_rows a =
      map_held map_bus thread now k.rooted.kernel.alone path right false map_path map_right
      ∙ ap (λ (r : KernAnswer). root_held thread call r map_bus.holders) (sym a)
      ∙ ap (λ (r : Right). with_row (record { thread = thread; id = 1; key = 1; right = r; exclusive = false }) map_bus.holders) right_is

  module _ (a : mapped_root ≡ told_by) where
    row_before : (row : Holder) → Contains mapped_world.base.machine.bus.holders row → Contains map_bus.holders row ⊎ (new_row ≡ row)
    row_before row among = rows_were new_row map_bus.holders row (subst (λ (hs : List Holder). Contains hs row) (map_rows a) among)

    rooted_row : (row : Holder) → Contains map_bus.holders row ⊎ (new_row ≡ row) → IsRootRow row
    rooted_row row (inl before) = k.rooted.rows row before
    rooted_row row (inr same) = subst IsRootRow same (record { id = refl; key = refl; shared = refl })

    own_row : (row : Holder) → row.thread ≡ thread → Contains map_bus.holders row ⊎ (new_row ≡ row) → row ≡ new_row
    own_row row own (inl before) = absurd (k.knows.0.unheld row before own)
    own_row row own (inr same) = sym same

    other_row : (row : Holder) → row.thread ≢ thread → Contains map_bus.holders row ⊎ (new_row ≡ row) → Contains map_bus.holders row
    other_row row ne (inl before) = before
    other_row row ne (inr same) = absurd (ne (sym (ap (λ (h : Holder). h.thread) same)))

    map_knows : KnowsAt thread command stage.Mapping (Kern mapped_root) mapped_world
    map_knows = record {
      rooted = record {
        kernel = subst HasKernel (sym map_same_words) k.rooted.kernel;
        rows = λ row among. rooted_row row (row_before row among);
        table = k.rooted.table;
      };
      denoted = still_denoted w thread now Plain maps (Kern mapped_root) refl map_same_words k.denoted;
      seat = seat_after (pool_of map_bus.words) Plain maps (Kern mapped_root) k.seat;
      sits = sits_after w thread now Plain maps (Kern mapped_root) k.seat command k.sits;
      knows = (
        1,
        record {
          is_key = record { least = omega arith; most = omega arith };
          held = subst (λ (hs : List Holder). Contains hs new_row) (sym (map_rows a)) (row_comes new_row map_bus.holders);
          only = λ row among own. own_row row own (row_before row among);
          register = k.knows.0.register;
        },
        still_at_rest w thread now Plain maps (Kern mapped_root) refl map_same_words k.knows.1,
        record {
          uncommitted = k.knows.2.uncommitted;
          unasked = k.knows.2.unasked;
          open_reply = verdict_moves w thread now Plain maps (Kern mapped_root) k.seat k.sits.seat_is ∙ k.knows.2.open_reply;
        },
        record { find = k.knows.3.find; found = k.knows.3.found; named = k.knows.3.named; coffer = k.knows.3.coffer },
        ap (λ (ws : List Word). Kern (kern.Mapped (root_mapped ws 1))) (sym map_same_words),
      );
    }

    may_map : MayAskAt k.seat.committed (coffers_at w) k.seat call
    may_map = subst (λ (b : Bool). MayAskAt b (coffers_at w) k.seat call) (sym k.knows.2.uncommitted) (record {
      consulted = map_aim;
      find = k.knows.3.find;
      found = k.knows.3.found;
      named = k.knows.3.named ∙ sym map_aim;
      right_is = ap (λ (r : Right). r.0) right_is ∙ needed command ∙ sym (ap right_needed k.sits.command_is);
      shared = refl;
    })

    map_goes : SessionGoes (KnowsAt thread command stage.Mapping) thread now Plain maps w (Kern mapped_root)
    map_goes = goes_on thread now command stage.Mapping Plain maps w (Kern mapped_root) (tt, tt)
        (keeps_at w thread k.seat Plain maps (Kern mapped_root) k.sits.seat_is (λ _. (may_map, tt)))
        (leaves_others w thread now Plain maps (Kern mapped_root)
        (λ row ne among. subst (λ (hs : List Holder). Contains hs row) (sym (map_rows a)) (row_stays_with new_row row map_bus.holders ne among))
        (λ row ne among. other_row row ne (row_before row among)))
        map_knows

  -- nobody stands against the map, and the first key is free or the process's
  map_key : key_for map_bus.threads map_bus.holders thread 1 ≡ Some 1
  map_key = key_is_first map_bus.threads thread map_bus.holders k.rooted.rows

  nobody : (other : ℕ) → IsLeastOf (those_against thread 1 false map_bus.holders) other → ⊥
  nobody other least = contains_none other (subst (λ (us : List ℕ). Contains us other) (nobody_against thread map_bus.holders k.rooted.rows) least.among)

  -- so the map is done, where this is the answer
  abbrev Goes : KernAnswer → Type 0
  Goes r = r ≡ told_by → SessionGoes (KnowsAt thread command stage.Mapping) thread now Plain maps w (Kern r)

  mapped_goes : (m : Mapped) → MapAnswers map_bus thread false (kern.Mapped m) → Goes (kern.Mapped m)
  mapped_goes m a =
      let both : Some m.key ≡ Some 1 = sym a.1 ∙ map_key in
      let key : m.key ≡ 1 = cc in
      let whole : m ≡ root_mapped map_bus.words 1 = a.2 ∙ ap (root_mapped map_bus.words) key in
      subst (λ (m : Mapped). Goes (kern.Mapped m)) (sym whole) map_goes

  map_goes_on : (given : Answer) → Answers map_bus thread now maps given → SessionGoes (KnowsAt thread command stage.Mapping) thread now Plain maps w given
  map_goes_on = by_kernel (SessionGoes (KnowsAt thread command stage.Mapping) thread now Plain maps w) map_bus thread now call
      (λ r a. by_mapped Goes map_bus thread nobody map_key mapped_goes r (subst (MapAnswers map_bus thread false) (sym a) (map_answers map_bus thread now k.rooted.kernel.alone path right false map_path map_right)) a)

pub map_gives : (thread : ℕ) (command : Command) (answer : Answer) (path : List ℕ) (right : Right) → path ≡ consulted_path command → right ≡ right_of command → LeadsTo thread command stage.Finding answer stage.Mapping (step.Act (Kernel (kcall.Map path right false)) Plain)
map_gives thread command answer path right is right_is w k = record {
  shut = λ now given. tt;
  found = λ now given. record {
    seat = k.seat;
    runs = k.sits.seat_is;
    find = k.knows.3.find;
    found = k.knows.3.found;
    named = k.knows.3.named ∙ sym (map_aim thread command answer path right is right_is w k now);
    consulted = map_aim thread command answer path right is right_is w k now;
  };
  goes = map_goes_on thread command answer path right is right_is w k;
}

pub map_built : (command : Command) (path : List ℕ) (right : Right) → IsCommand command → path ≡ consulted_path command → right ≡ right_of command → GivesAction (step.Act (Kernel (kcall.Map path right false)) Plain)
map_built command path right valid is right_is = ((path_text path (consults_path command path valid is), one_right right (subst IsGiven (sym right_is) (given_right command))), refl)

-- The window: the coffer's key alone.

-- a call that begins in the mapped coffer
abbrev pub Begins : Command → Mapped → OpRun → Type 0
Begins command m op = (first : Answer) (s : Scene) → BeginKnows m command s → OpKnows op command first s

mapped_is : (m : Mapped) (words : List Word) (key : ℕ) → Kern (kern.Mapped m) ≡ Kern (kern.Mapped (root_mapped words key)) → m ≡ root_mapped words key
mapped_is m words key both = cc

module _ (thread : ℕ) (command : Command) (answer : Answer) (m : Mapped) (op : OpRun) (pkru : ℕ) (answer_is : answer ≡ Kern (kern.Mapped m)) (begins : Begins command m op) (pkru_is : pkru ≡ only_pkru m.key (writes command)) (w : World) (k : KnowsAt thread command stage.Mapping answer w) (now : ℕ) where
  abbrev open_bus : Bus
  open_bus = w.base.machine.bus

  abbrev opens : Action
  opens = Pkru pkru

  abbrev opened_world : World
  opened_world = stepped w (entry.Act thread now Open opens Done)

  abbrev opened_seat : Seat
  opened_seat = seat_after (pool_of open_bus.words) Open opens Done k.seat

  whole : m ≡ root_mapped open_bus.words k.knows.0
  whole = mapped_is m open_bus.words k.knows.0 (sym answer_is ∙ k.knows.5)

  pkru_opens : pkru ≡ open_pkru command k.knows.0
  pkru_opens = pkru_is ∙ ap (λ (x : Mapped). only_pkru x.key (writes command)) whole

  own_page : (page : ℕ) → Contains (coffer_pages open_bus.words 1) page → (0 < page) × (page_at page < 2 ^ 60)
  own_page page among =
      let is = page_owned open_bus.words 1 page k.rooted.kernel among in
      let behind = page_past open_bus.words 1 page k.rooted.kernel (omega arith) is.1 in
      let inside = is.0 in
      let most = k.rooted.kernel.size.most in
      (omega (arith, behind), omega (arith, inside, most))

  begin_knows : BeginKnows m command (scene_of opened_world thread opened_seat)
  begin_knows = (
    record {
      stands = record { tree = w.trees 0; alone = k.knows.2.alone; rests = k.knows.2.rests };
      call = record { command_is = k.sits.command_is; can_be = k.sits.valid; cred = k.sits.cred };
      coffer = record {
        id = sym (ap (λ (x : Mapped). x.id) whole);
        control = sym (ap (λ (x : Mapped). x.control) whole);
        root = sym (ap (λ (x : Mapped). x.root) whole);
        few = let held = idle_pages open_bus.words 1 k.rooted.kernel.alone.idle.present ∙ sym (ap (λ (x : Mapped). x.pages) whole) in omega (arith, held);
        control_among = owned_page open_bus.words 1 (root_control (pages_of open_bus.words)) k.rooted.kernel (control_inside (pages_of open_bus.words) k.rooted.kernel.size.least) k.rooted.kernel.control;
        each = own_page;
      };
      uncommitted = k.knows.3.uncommitted;
    },
    (k.knows.3.unasked, verdict_moves w thread now Open opens Done k.seat k.sits.seat_is ∙ k.knows.3.open_reply),
  )

  open_knows : KnowsAt thread command (stage.Working op) Done opened_world
  open_knows = record {
    rooted = record { kernel = k.rooted.kernel; rows = k.rooted.rows; table = k.rooted.table };
    denoted = still_denoted w thread now Open opens Done refl refl k.denoted;
    seat = opened_seat;
    sits = sits_after w thread now Open opens Done k.seat command k.sits;
    knows = (
      k.knows.0,
      record {
        is_key = k.knows.1.is_key;
        held = k.knows.1.held;
        only = k.knows.1.only;
        register = register_set open_bus thread pkru k.sits.register ∙ pkru_opens;
      },
      record { find = k.knows.4.find; found = k.knows.4.found; named = k.knows.4.named; coffer = k.knows.4.coffer },
      begins Done (scene_of opened_world thread opened_seat) begin_knows,
    );
  }

  open_goes : SessionGoes (KnowsAt thread command (stage.Working op)) thread now Open opens w Done
  open_goes = goes_on thread now command (stage.Working op) Open opens w Done (tt, tt)
      (keeps_at w thread k.seat Open opens Done k.sits.seat_is (λ _. (tt, tt)))
      (same_holders w thread now Open opens Done refl)
      open_knows

pub open_gives : (thread : ℕ) (command : Command) (answer : Answer) (m : Mapped) (op : OpRun) (pkru : ℕ) → answer ≡ Kern (kern.Mapped m) → Begins command m op → pkru ≡ only_pkru m.key (writes command)
    → LeadsTo thread command stage.Mapping answer (stage.Working op) (step.Act (Pkru pkru) Open)
open_gives thread command answer m op pkru answer_is begins pkru_is w k = record {
  shut = λ now given. tt;
  found = λ now given. tt;
  goes = λ now given is. by_done (SessionGoes (KnowsAt thread command (stage.Working op)) thread now Open (Pkru pkru) w) given is (open_goes thread command answer m op pkru answer_is begins pkru_is w k now);
}

pub open_built : (writable : Bool) (key pkru : ℕ) → IsKey key → pkru ≡ only_pkru key writable → GivesAction (step.Act (Pkru pkru) Open)
open_built writable key pkru is pkru_is = (tt, open_marked writable key is ∙ sym (ap pkru_mark pkru_is))

-- The call's own actions.

-- a call that has made its file was given pages
told_given : (left : List Due) (s : Scene) → MayPutAll left s → s.seat.told ≡ Given
told_given [] s made = made.told
told_given (d ∷ left) s may = told_given left (stored d s) may.1

not_asked : Given ≡ NotAsked → ⊥
not_asked clash = cc

drawn_uncommitted : (mapped : Mapped) (command : Command) (place : Place) (r : KernAnswer) (s : Scene) → DrawnKnows mapped command place r s → s.seat.committed ≡ false
drawn_uncommitted mapped command place kern.Done s k = absurd k
drawn_uncommitted mapped command place kern.Same s k = absurd k
drawn_uncommitted mapped command place (kern.Found one other) s k = absurd k
drawn_uncommitted mapped command place (kern.Mapped m) s k = absurd k
drawn_uncommitted mapped command place (kern.Made made) s k = absurd k
drawn_uncommitted mapped command place (kern.Pages pages) s k = k.uncommitted
drawn_uncommitted mapped command place kern.NotHeld s k = absurd k
drawn_uncommitted mapped command place kern.BadPath s k = absurd k
drawn_uncommitted mapped command place (kern.Denied right other len) s k = absurd k
drawn_uncommitted mapped command place (kern.Quarantined other len) s k = absurd k
drawn_uncommitted mapped command place (kern.InUse user other len) s k = absurd k
drawn_uncommitted mapped command place (kern.NoKey other len) s k = absurd k
drawn_uncommitted mapped command place (kern.NotYours page) s k = absurd k
drawn_uncommitted mapped command place (kern.GuardFailed addr word) s k = absurd k
drawn_uncommitted mapped command place (kern.LinkDiffers addr word) s k = absurd k
drawn_uncommitted mapped command place kern.Taken s k = absurd k
drawn_uncommitted mapped command place kern.TooMany s k = absurd k
drawn_uncommitted mapped command place (kern.NoPages asked free) s k = k.lacks.ground.uncommitted
drawn_uncommitted mapped command place kern.NoCoffer s k = absurd k
drawn_uncommitted mapped command place kern.NotEmptyList s k = absurd k
drawn_uncommitted mapped command place kern.BadCount s k = absurd k
drawn_uncommitted mapped command place kern.NoMemory s k = absurd k

-- a call that has asked for no pages has changed nothing
asks_uncommitted : (mapped : Mapped) (command : Command) (at : OpStage) (answer : Answer) (s : Scene) → OpStageKnows mapped command at answer s → s.seat.told ≡ NotAsked → s.seat.committed ≡ false
asks_uncommitted mapped command (op_stage.Looking look) answer s k unasked = k.ground.uncommitted
asks_uncommitted mapped command (op_stage.Counting count) answer s k unasked = k.ground.uncommitted
asks_uncommitted mapped command (op_stage.Kind file) answer s k unasked = k.0.ground.uncommitted
asks_uncommitted mapped command (op_stage.Map file) answer s k unasked = k.0.ground.uncommitted
asks_uncommitted mapped command (op_stage.Pool place) answer s k unasked = k.0.ground.uncommitted
asks_uncommitted mapped command (op_stage.Drawing place) (WordIs x) s k unasked = absurd k
asks_uncommitted mapped command (op_stage.Drawing place) Done s k unasked = absurd k
asks_uncommitted mapped command (op_stage.Drawing place) (Fault kind) s k unasked = absurd k
asks_uncommitted mapped command (op_stage.Drawing place) (Kern r) s k unasked = drawn_uncommitted mapped command place r s k
asks_uncommitted mapped command (op_stage.Storing run) answer s k unasked = absurd (not_asked (sym (told_given run.left s k.1) ∙ unasked))
asks_uncommitted mapped command op_stage.Over answer s k unasked = absurd k

-- An action in the coffer is a known one, looks for no coffer and maps none. It keeps the discipline, where its stores are past
-- the kernel's pages, and a call that asks for pages has changed nothing.
module _ (s : Scene) (action : Action) (reached : IsReachable s action) where
  reached_known : IsKnownCall action
  reached_known = by_reached s IsKnownCall (λ addr word. tt) (λ addr x may word. tt) (λ id count may. tt) action reached

  reached_shut : (w : World) (thread now : ℕ) (mark : Mark) (given : Answer) → FindsShut w (entry.Act thread now mark action given)
  reached_shut w thread now mark given = by_reached s (λ a. FindsShut w (entry.Act thread now mark a given)) (λ addr word. tt) (λ addr x may word. tt) (λ id count may. tt) action reached

  reached_found : (w : World) (thread now : ℕ) (mark : Mark) (given : Answer) → MapsFound w (entry.Act thread now mark action given)
  reached_found w thread now mark given = by_reached s (λ a. MapsFound w (entry.Act thread now mark a given)) (λ addr word. tt) (λ addr x may word. tt) (λ id count may. tt) action reached

  found_stays : (given : Answer) (found : Option LastFind) → found_after action given found ≡ found
  found_stays given found = by_reached s (λ a. found_after a given found ≡ found) (λ addr word. refl) (λ addr x may word. refl) (λ id count may. refl) action reached

  reached_keeps : (end : ℕ) → ((addr : ℕ) → IsCofferWord s.coffer addr → end ≤ addr) → (s.seat.told ≡ NotAsked → s.seat.committed ≡ false) → Keeps end s.coffers s.seat action
  reached_keeps end past fresh =
      by_reached s (Keeps end s.coffers s.seat) (λ addr word. tt) (λ addr x may word. past addr word)
      (λ id count may. subst (λ (b : Bool). MayAskAt b s.coffers s.seat (kcall.Enlarge id count)) (sym (fresh may.4.once)) may.4) action reached

-- a commit is right and done
legal_by : (w : World) (seat : Seat) (action : Action) (commits : Bool) → (commits ≡ true → MayCommit (coffers_at w) seat action) → IsLegalCommit w action commits (Some seat)
legal_by w seat action true may = λ judged. may refl
legal_by w seat action false may = tt

done_by : (mark : Mark) (action : Action) (given : Answer) → MayMark mark action → (mark ≡ Commit → is_commit mark given ≡ true) → IsCommitDone mark given
done_by Plain action given may done = tt
done_by Open action given may done = tt
done_by Close action given may done = tt
done_by Take action given may done = tt
done_by Note action given may done = tt
done_by Check action given may done = tt
done_by Point action given may done = tt
done_by Commit action given may done = done refl

module _ (thread : ℕ) (command : Command) (answer : Answer) (old new : OpRun) (mark : Mark) (action : Action) (steps : StepsFrom old command answer new (op_step.Act action mark)) (w : World) (k : KnowsAt thread command (stage.Working old) answer w) where
  abbrev here : Scene
  here = scene_of w thread k.seat

  gives : ActGives (OpStageKnows new.mapped command new.stage) mark action here
  gives = steps here k.knows.3

  module _ (now : ℕ) (given : Answer) (answers : Answers w.base.machine.bus thread now action given) where
    abbrev acted_world : World
    acted_world = stepped w (entry.Act thread now mark action given)

    abbrev acted_seat : Seat
    acted_seat = seat_after (pool_of w.base.machine.bus.words) mark action given k.seat

    abbrev there : Scene
    there = scene_of acted_world thread acted_seat

    bridge : Bridged w thread k.seat now mark action given
    bridge = bridged w thread command k.seat k.knows.0 k.rooted k.sits k.knows.1 now mark action gives.reachable given answers

    goes : OpGoes (OpStageKnows new.mapped command new.stage) mark action given here there
    goes = gives.goes given there bridge.answers (leaves w thread command k.seat k.knows.0 k.rooted k.sits k.knows.1 now mark action given bridge)

    act_rooted : IsRooted acted_world
    act_rooted = record {
      kernel = bridge.kernel;
      rows = λ row among. k.rooted.rows row (subst (λ (hs : List Holder). Contains hs row) bridge.holders among);
      table = k.rooted.table;
    }

    act_found : HasFound acted_seat
    act_found = record {
      find = k.knows.2.find;
      found = found_stays here action gives.reachable given k.seat.found ∙ k.knows.2.found;
      named = k.knows.2.named;
      coffer = k.knows.2.coffer;
    }

    act_knows : KnowsAt thread command (stage.Working new) given acted_world
    act_knows = record {
      rooted = act_rooted;
      denoted = denoted_of acted_world act_rooted (scene_denotes there (acted_world.trees 0) (coffers_are acted_world k.rooted.table) goes.denoted);
      seat = acted_seat;
      sits = sits_after w thread now mark action given k.seat command k.sits;
      knows = (
        k.knows.0,
        record {
          is_key = k.knows.1.is_key;
          held = subst (λ (hs : List Holder). Contains hs (row_of thread command k.knows.0)) (sym bridge.holders) k.knows.1.held;
          only = λ row among. k.knows.1.only row (subst (λ (hs : List Holder). Contains hs row) bridge.holders among);
          register = ap (λ (ps : List ℕ). slice_index_or ps thread closed_pkru) bridge.registers ∙ k.knows.1.register;
        },
        act_found,
        goes.knows,
      );
    }

    act_goes : SessionGoes (KnowsAt thread command (stage.Working new)) thread now mark action w given
    act_goes = goes_on thread now command (stage.Working new) mark action w given
        (reached_known here action gives.reachable, subst (IsLegalCommit w action (is_commit mark given)) (sym k.sits.seat_is) (legal_by w k.seat action (is_commit mark given) goes.legal))
        (keeps_at w thread k.seat mark action given k.sits.seat_is (λ _. (
          reached_keeps here action gives.reachable (page_at (kernel_pages (pages_of w.base.machine.bus.words))) (word_past w thread command k.seat k.knows.0 k.rooted k.sits k.knows.1) (asks_uncommitted old.mapped command old.stage answer here k.knows.3),
          done_by mark action given gives.marked goes.done,
        )))
        (same_holders w thread now mark action given bridge.holders)
        act_knows

pub act_gives : (thread : ℕ) (command : Command) (answer : Answer) (old new : OpRun) (mark : Mark) (action : Action) → StepsFrom old command answer new (op_step.Act action mark)
    → LeadsTo thread command (stage.Working old) answer (stage.Working new) (step.Act action mark)
act_gives thread command answer old new mark action steps w k =
    let reached = (gives thread command answer old new mark action steps w k).reachable in
    record {
      shut = λ now given. reached_shut (scene_of w thread k.seat) action reached w thread now mark given;
      found = λ now given. reached_found (scene_of w thread k.seat) action reached w thread now mark given;
      goes = act_goes thread command answer old new mark action steps w k;
    }

-- The window is closed.
abbrev tree_one : Content → List Member
tree_one (Ready tree) = tree
tree_one Lost = []
tree_one Quarantined = []

abbrev first_tree : List Coffer → List Member
first_tree [] = []
first_tree (coffer ∷ coffers) = tree_one coffer.content

-- a call leaves the coffer at rest
stands_at_rest : (w : World) (thread : ℕ) (seat : Seat) → IsRooted w → Stands (scene_of w thread seat) → IsAtRest w
stands_at_rest w thread seat rooted stands = record {
  alone = subst (IsAlone (coffers_at w) (root_at w)) same stands.alone;
  rests = subst (Rests (value w.base.machine.bus.words) (root_at w)) same stands.rests;
}
  where
    same : stands.tree ≡ w.trees 0
    same = ap first_tree (sym stands.alone.coffers_are ∙ coffers_are w rooted.table)

module _ (thread : ℕ) (command : Command) (answer : Answer) (old new : OpRun) (reply : Reply) (pkru : ℕ) (pkru_is : pkru ≡ closed_pkru) (steps : StepsFrom old command answer new (op_step.Over reply)) (w : World) (k : KnowsAt thread command (stage.Working old) answer w) (now : ℕ) where
  abbrev closes : Action
  closes = Pkru pkru

  abbrev closed_world : World
  closed_world = stepped w (entry.Act thread now Close closes Done)

  abbrev closed_seat : Seat
  closed_seat = seat_after (pool_of w.base.machine.bus.words) Close closes Done k.seat

  replies : OverGives reply (scene_of w thread k.seat) × Stands (scene_of w thread k.seat)
  replies = steps (scene_of w thread k.seat) k.knows.3

  close_knows : KnowsAt thread command (stage.Closing reply) Done closed_world
  close_knows = record {
    rooted = record { kernel = k.rooted.kernel; rows = k.rooted.rows; table = k.rooted.table };
    denoted = still_denoted w thread now Close closes Done refl refl k.denoted;
    seat = closed_seat;
    sits = sits_after w thread now Close closes Done k.seat command k.sits;
    knows = (
      k.knows.0,
      record {
        is_key = k.knows.1.is_key;
        held = k.knows.1.held;
        only = k.knows.1.only;
        register = register_set w.base.machine.bus thread pkru k.sits.register ∙ pkru_is;
      },
      (
        still_at_rest w thread now Close closes Done refl refl (stands_at_rest w thread k.seat k.rooted replies.1),
        subst (λ (v : Verdict). MayReply (coffers_at w) k.seat v reply) (sym (verdict_moves w thread now Close closes Done k.seat k.sits.seat_is)) replies.0.legal,
      ),
    );
  }

  close_goes : SessionGoes (KnowsAt thread command (stage.Closing reply)) thread now Close closes w Done
  close_goes = goes_on thread now command (stage.Closing reply) Close closes w Done (tt, tt)
      (keeps_at w thread k.seat Close closes Done k.sits.seat_is (λ _. (tt, tt)))
      (same_holders w thread now Close closes Done refl)
      close_knows

pub close_gives : (thread : ℕ) (command : Command) (answer : Answer) (old new : OpRun) (reply : Reply) (pkru : ℕ) → pkru ≡ closed_pkru → StepsFrom old command answer new (op_step.Over reply)
    → LeadsTo thread command (stage.Working old) answer (stage.Closing reply) (step.Act (Pkru pkru) Close)
close_gives thread command answer old new reply pkru pkru_is steps w k = record {
  shut = λ now given. tt;
  found = λ now given. tt;
  goes = λ now given is. by_done (SessionGoes (KnowsAt thread command (stage.Closing reply)) thread now Close (Pkru pkru) w) given is (close_goes thread command answer old new reply pkru pkru_is steps w k now);
}

-- The coffer is unmapped.
may_unmap : (w : World) (seat : Seat) (committed : Bool) → MayAskAt committed (coffers_at w) seat (kcall.Unmap 1)
may_unmap w seat true = tt
may_unmap w seat false = tt

module _ (thread : ℕ) (command : Command) (answer : Answer) (reply : Reply) (w : World) (k : KnowsAt thread command (stage.Closing reply) answer w) (now : ℕ) where
  abbrev end_bus : Bus
  end_bus = w.base.machine.bus

  abbrev ends : Action
  ends = Kernel (kcall.Unmap 1)

  abbrev ended_world : World
  ended_world = stepped w (entry.Act thread now Plain ends (Kern kern.Done))

  -- what the kernel answers to the unmap
  abbrev ended_by : KernAnswer
  ended_by = answer_of (callers_of end_bus) end_bus.words end_bus.holders thread now (kcall.Unmap 1)

  end_words : words_after (callers_of end_bus) end_bus.words end_bus.holders thread now (kcall.Unmap 1) ≡ end_bus.words
  end_words = unmap_words end_bus thread now 1

  module _ (a : kern.Done ≡ ended_by) where
    end_rows : holders_after (callers_of end_bus) end_bus.words end_bus.holders thread now (kcall.Unmap 1) ≡ without_row thread 1 end_bus.holders
    end_rows = unmap_held end_bus thread now 1 ∙ ap (λ (r : KernAnswer). root_held thread (kcall.Unmap 1) r end_bus.holders) (sym a)

    row_left : (row : Holder) → Contains ended_world.base.machine.bus.holders row → Contains (without_row thread 1 end_bus.holders) row
    row_left row among = subst (λ (hs : List Holder). Contains hs row) end_rows among

    end_knows : KnowsAt thread command (stage.Ending reply) (Kern kern.Done) ended_world
    end_knows = record {
      rooted = record {
        kernel = subst HasKernel (sym end_words) k.rooted.kernel;
        rows = λ row among. k.rooted.rows row (row_was thread 1 row end_bus.holders (row_left row among));
        table = k.rooted.table;
      };
      denoted = still_denoted w thread now Plain ends (Kern kern.Done) refl end_words k.denoted;
      seat = seat_after (pool_of end_bus.words) Plain ends (Kern kern.Done) k.seat;
      sits = sits_after w thread now Plain ends (Kern kern.Done) k.seat command k.sits;
      knows = (
        record {
          unheld = λ row among. none_left thread row end_bus.holders k.rooted.rows (row_left row among);
          register = k.knows.1.register;
        },
        (
          still_at_rest w thread now Plain ends (Kern kern.Done) refl end_words k.knows.2.0,
          subst (λ (v : Verdict). MayReply (coffers_at w) k.seat v reply) (sym (verdict_moves w thread now Plain ends (Kern kern.Done) k.seat k.sits.seat_is)) k.knows.2.1,
        ),
      );
    }

    end_goes : SessionGoes (KnowsAt thread command (stage.Ending reply)) thread now Plain ends w (Kern kern.Done)
    end_goes = goes_on thread now command (stage.Ending reply) Plain ends w (Kern kern.Done) (tt, tt)
        (keeps_at w thread k.seat Plain ends (Kern kern.Done) k.sits.seat_is (λ _. (may_unmap w k.seat k.seat.committed, tt)))
        (leaves_others w thread now Plain ends (Kern kern.Done)
        (λ row ne among. subst (λ (hs : List Holder). Contains hs row) (sym end_rows) (row_stays_without thread 1 row end_bus.holders ne among))
        (λ row ne among. row_was thread 1 row end_bus.holders (row_left row among)))
        end_knows

  held_itself : holds_itself thread 1 end_bus.holders ≡ true
  held_itself = holds_own thread (row_of thread command k.knows.0) refl refl end_bus.holders k.knows.1.held

  end_goes_on : (given : Answer) → Answers end_bus thread now ends given → SessionGoes (KnowsAt thread command (stage.Ending reply)) thread now Plain ends w given
  end_goes_on = by_kernel (SessionGoes (KnowsAt thread command (stage.Ending reply)) thread now Plain ends w) end_bus thread now (kcall.Unmap 1)
      (λ r a. by_unmapped (λ r. r ≡ ended_by → SessionGoes (KnowsAt thread command (stage.Ending reply)) thread now Plain ends w (Kern r)) end_bus thread held_itself end_goes r
      (subst (UnmapAnswers end_bus thread 1) (sym a) (unmap_answers end_bus thread now 1)) a)

pub unmap_gives : (thread : ℕ) (command : Command) (answer : Answer) (reply : Reply) → LeadsTo thread command (stage.Closing reply) answer (stage.Ending reply) (step.Act (Kernel (kcall.Unmap 1)) Plain)
unmap_gives thread command answer reply w k = record {
  shut = λ now given. tt;
  found = λ now given. tt;
  goes = end_goes_on thread command answer reply w k;
}
