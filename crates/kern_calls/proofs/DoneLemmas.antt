-- What a call answers and leaves, by its row.
use Rattle.std.proofs.Common.{◌≡◌, ◌⊎◌, inl, inr, ℕ, List, [], ◌++◌, Bool, true, false, cond, length, Option, Some, None, Result, Ok, Err, refl, ap, sym, subst, ◌∙◌}
use Rattle.std.specs.Prelude.{is_some, OnOk, OnErr}
use Rattle.std.specs.Result.{is_err}
use Rattle.pm_words.specs.Word.{Word}
use Rattle.kern_model.specs.Inner.{made_all, IsCut}
use Rattle.kern_model.specs.Journal.{kernel_word}
use Rattle.kern_model.specs.KernelRules.{IsSoundKernel}
use Rattle.kern_model.specs.KernelCalls.{Callers, Row, row_of, row_of_maps, row_answer, answer_by, unless_refused, first_due, row_events, zero_events, stored_events, inner_of, find_row, is_same_mode}
use Rattle.kern_model.specs.Commits.{IsWorking, IsCommitted, MayCommit, RowKeeps, CommitLaw}
use Rattle.kern_model.specs.declared.inner.Inner.{Inner}
use Rattle.tr_types.specs.declared.kernel_call.Holder.{Holder}
use Rattle.tr_types.specs.declared.kernel_call.Kcall.{Kcall}
use Rattle.tr_types.specs.declared.kernel_call.Kcall.TheVariants as call
use Rattle.tr_types.specs.declared.kernel_call.KernAnswer.{KernAnswer}
use Rattle.tr_types.specs.declared.kernel_call.KernAnswer.TheVariants as answer
use Rattle.kern_pages.specs.Owners.{owners_of, TellsOwners}
use Rattle.kern_plans.specs.Plans.{Plan, Plans, IsPlanOf}
use Rattle.kern_laws.specs.Rows.{KeepsTables}
use Rattle.kern_calls.specs.Calls.{KernelView, IsMounted, IsDone, Answered, StaysSteady}
use Rattle.kern_calls.specs.Steps.{IsChange, FollowsRow, KnowsUpTo, with_holders, with_owners, holders_left}
use Rattle.kern_calls.proofs.MountLemmas.{whole_cut}
use Rattle.kern_calls.proofs.MapLemmas.{said, follows}
use Rattle.kern_calls.proofs.FollowLemmas.{knows_after}

cond_same : {X : Type 0} (b : Bool) (x : X) → cond b x x ≡ x
cond_same true x = refl
cond_same false x = refl

-- what is said of a result, where it is an error and where it isn't
pub ok_of : {X Y P : Type 0} (r : Result X Y) → is_err r ≡ false → OnOk r P → P
ok_of (Ok x) ok said = said
ok_of (Err y) ok said = absurd (cc)

pub err_of : {X Y P : Type 0} (r : Result X Y) → is_err r ≡ true → OnErr r P → P
err_of (Ok x) err said = absurd (cc)
err_of (Err y) err said = said

-- An answer, where memory may have run out.

pub answered : (old : KernelView) (words : List Word) (thread now : ℕ) (kcall : Kcall) (result : KernAnswer) (new : KernelView) (after : List Word) → IsDone old words thread now kcall result new after
    → IsCut (inner_of old.callers words old.holders thread now kcall) words after → Answered old words thread now kcall result new after
answered old words thread now kcall answer.NoMemory new after done cut = cut
answered old words thread now kcall answer.Done new after done cut = done
answered old words thread now kcall answer.Same new after done cut = done
answered old words thread now kcall (answer.Found first second) new after done cut = done
answered old words thread now kcall (answer.Mapped m) new after done cut = done
answered old words thread now kcall (answer.Made id) new after done cut = done
answered old words thread now kcall (answer.Pages pages) new after done cut = done
answered old words thread now kcall answer.NotHeld new after done cut = done
answered old words thread now kcall answer.BadPath new after done cut = done
answered old words thread now kcall (answer.Denied right id path_len) new after done cut = done
answered old words thread now kcall (answer.Quarantined id path_len) new after done cut = done
answered old words thread now kcall (answer.InUse other id path_len) new after done cut = done
answered old words thread now kcall (answer.NoKey id path_len) new after done cut = done
answered old words thread now kcall (answer.NotYours page) new after done cut = done
answered old words thread now kcall (answer.GuardFailed addr word) new after done cut = done
answered old words thread now kcall (answer.LinkDiffers addr word) new after done cut = done
answered old words thread now kcall answer.Taken new after done cut = done
answered old words thread now kcall answer.TooMany new after done cut = done
answered old words thread now kcall (answer.NoPages count free) new after done cut = done
answered old words thread now kcall answer.NoCoffer new after done cut = done
answered old words thread now kcall answer.NotEmptyList new after done cut = done
answered old words thread now kcall answer.BadCount new after done cut = done

-- A row of a call that changes no word.

pub find_follows : (words : List Word) (kernel : KernelView) (path : List ℕ) (also : Option (List ℕ)) (result : KernAnswer) → result ≡ row_answer (find_row words kernel.holders path also)
    → FollowsRow (find_row words kernel.holders path also) kernel result kernel
find_follows words kernel path also result is =
    follows (find_row words kernel.holders path also) kernel kernel result is
    (sym (ap (λ (hs : List Holder). with_holders hs kernel) (cond_same (is_some (first_due (find_row words kernel.holders path also).refusals)) kernel.holders)))

pub none_made : (row : Row) → row_events row ≡ [] → 0 ≡ length (unless_refused row [] (row_events row))
none_made row none =
    sym (ap (λ (es : List Inner). length (cond (is_some (first_due row.refusals)) [] es)) none
    ∙ ap (λ (es : List Inner). length es) (cond_same (is_some (first_due row.refusals)) []))

-- whose maps are left
left_is : (callers : Callers) (words : List Word) (holders : List Holder) (thread now : ℕ) (kcall : Kcall) → IsChange kcall → (row_of callers words holders thread now kcall).holders ≡ holders_left kcall holders
left_is callers words holders thread now (call.Find path also) change = absurd change
left_is callers words holders thread now (call.Map path right exclusive) change = absurd change
left_is callers words holders thread now (call.Unmap id) change = absurd change
left_is callers words holders thread now (call.New parent path kind mode link guard) change = refl
left_is callers words holders thread now (call.Delete id parent link guard) change = refl
left_is callers words holders thread now (call.Enlarge id count) change = refl
left_is callers words holders thread now (call.Shrink id pages guard) change = refl
left_is callers words holders thread now (call.Split id path pages mode link guard) change = by (is_same_mode words id mode) _ _ refl refl
  where
    by : (b : Bool) (same other : Row) → same.holders ≡ holders → other.holders ≡ holders → (cond b same other).holders ≡ holders
    by true same other first second = first
    by false same other first second = second
left_is callers words holders thread now (call.Merge child parent pages link guard) change = refl
left_is callers words holders thread now (call.Mode id mode) change = refl
left_is callers words holders thread now (call.Recover id ready) change = refl

-- the kernel works still, where no word is changed
pub still_works : (words : List Word) (old holders : List Holder) (refusals : List (Option KernAnswer)) (given : KernAnswer) → IsWorking words old → KeepsTables words (row_of_maps refusals given holders) → IsWorking words holders
still_works words old holders refusals given w keeps = record { size = w.size; sound = w.sound; idle = w.idle; ids = keeps.ids; held = keeps.held (kernel_word words) (λ addr whole low high. refl) }

module _ (old : KernelView) (words : List Word) (thread now : ℕ) (kcall : Kcall) (mounted : IsMounted old words) where
  abbrev row : Row
  row = row_of old.callers words old.holders thread now kcall

  refused_done : (refusal : KernAnswer) → first_due row.refusals ≡ Some refusal → IsDone old words thread now kcall refusal old words
  refused_done refusal due = record {
    answers = sym (ap (λ (d : Option KernAnswer). answer_by d row.answer) due);
    memory = sym (ap (λ (d : Option KernAnswer). made_all (cond (is_some d) [] (row_events row)) words) due);
    callers = refl;
    holders = sym (ap (λ (d : Option KernAnswer). cond (is_some d) old.holders row.holders) due);
    mounted = mounted;
    steady = λ steady. steady;
  }

  -- a refusal of a plan
  pub refused : (refusal : KernAnswer) → Plans (row_of old.callers words old.holders thread now kcall) (Err refusal) → Answered old words thread now kcall refusal old words
  refused answer.NoMemory due = (0, refl)
  refused answer.Done due = refused_done answer.Done due
  refused answer.Same due = refused_done answer.Same due
  refused (answer.Found first second) due = refused_done (answer.Found first second) due
  refused (answer.Mapped m) due = refused_done (answer.Mapped m) due
  refused (answer.Made id) due = refused_done (answer.Made id) due
  refused (answer.Pages pages) due = refused_done (answer.Pages pages) due
  refused answer.NotHeld due = refused_done answer.NotHeld due
  refused answer.BadPath due = refused_done answer.BadPath due
  refused (answer.Denied right id path_len) due = refused_done (answer.Denied right id path_len) due
  refused (answer.Quarantined id path_len) due = refused_done (answer.Quarantined id path_len) due
  refused (answer.InUse other id path_len) due = refused_done (answer.InUse other id path_len) due
  refused (answer.NoKey id path_len) due = refused_done (answer.NoKey id path_len) due
  refused (answer.NotYours page) due = refused_done (answer.NotYours page) due
  refused (answer.GuardFailed addr word) due = refused_done (answer.GuardFailed addr word) due
  refused (answer.LinkDiffers addr word) due = refused_done (answer.LinkDiffers addr word) due
  refused answer.Taken due = refused_done answer.Taken due
  refused answer.TooMany due = refused_done answer.TooMany due
  refused (answer.NoPages count free) due = refused_done (answer.NoPages count free) due
  refused answer.NoCoffer due = refused_done answer.NoCoffer due
  refused answer.NotEmptyList due = refused_done answer.NotEmptyList due
  refused answer.BadCount due = refused_done answer.BadCount due

  abbrev all_made : List Word → Type 0
  all_made after = after ≡ made_all (row_events (row_of old.callers words old.holders thread now kcall)) words

  passed_done : (result : KernAnswer) (new : KernelView) (after : List Word) → IsWorking after row.holders → first_due row.refusals ≡ None → result ≡ row.answer → all_made after → new.callers ≡ old.callers
      → new.holders ≡ row.holders → new.owners ≡ owners_of after → StaysSteady words after → IsDone old words thread now kcall result new after
  passed_done result new after works due is made callers holders owners steady = record {
    answers = is ∙ sym (ap (λ (d : Option KernAnswer). answer_by d row.answer) due);
    memory = made ∙ sym (ap (λ (d : Option KernAnswer). made_all (cond (is_some d) [] (row_events row)) words) due);
    callers = callers;
    holders = holders ∙ sym (ap (λ (d : Option KernAnswer). cond (is_some d) old.holders row.holders) due);
    mounted = record { working = subst (λ (hs : List Holder). IsWorking after hs) (sym holders) works; told = owners };
    steady = steady;
  }

  -- an answer to a call that changes no word
  pub looked : (first_due (row_of old.callers words old.holders thread now kcall).refusals ≡ None → IsWorking words (row_of old.callers words old.holders thread now kcall).holders) → (result : KernAnswer) (new : KernelView) → row_events (row_of old.callers words old.holders thread now kcall) ≡ [] → FollowsRow (row_of old.callers words old.holders thread now kcall) old result new
      → Answered old words thread now kcall result new words
  looked works result new none so = by (said row old new result so)
    where
      made : all_made words
      made = sym (ap (λ (es : List Inner). made_all es words) none)

      done : (d : Option KernAnswer) → first_due row.refusals ≡ d → result ≡ answer_by (first_due row.refusals) row.answer → new ≡ with_holders (cond (is_some (first_due row.refusals)) old.holders row.holders) old
          → IsDone old words thread now kcall result new words
      done None due is left =
          let now_is = left ∙ ap (λ (d : Option KernAnswer). with_holders (cond (is_some d) old.holders row.holders) old) due in
          passed_done result new words (works due) due (is ∙ ap (λ (d : Option KernAnswer). answer_by d row.answer) due) made (ap (λ (k : KernelView). k.callers) now_is) (ap (λ (k : KernelView). k.holders) now_is)
          (ap (λ (k : KernelView). k.owners) now_is ∙ mounted.told) (λ steady. steady)
      done (Some refusal) due is left =
          subst (λ (r : KernAnswer). IsDone old words thread now kcall r new words) (sym (is ∙ ap (λ (d : Option KernAnswer). answer_by d row.answer) due))
          (subst (λ (k : KernelView). IsDone old words thread now kcall refusal k words) (sym (left ∙ ap (λ (d : Option KernAnswer). with_holders (cond (is_some d) old.holders row.holders) old) due))
          (refused_done refusal due))

      by : (result ≡ answer.NoMemory) ⊎ ((result ≡ row_answer row) × (new ≡ with_holders (unless_refused row old.holders row.holders) old)) → Answered old words thread now kcall result new words
      by (inl none_left) = subst (λ (r : KernAnswer). Answered old words thread now kcall r new words) (sym none_left) (0, refl)
      by (inr (is, left)) = answered old words thread now kcall result new words (done (first_due row.refusals) refl is left) (0, refl)

  -- where memory runs out, some of the plan's events are made
  pub cut_early : (plan : Plan) (of : IsPlanOf (row_of old.callers words old.holders thread now kcall) plan) (granted : List ℕ) (gives : granted ≡ plan.granted) (pairs : List (ℕ × ℕ)) (stores : pairs ≡ plan.pairs) (after : List Word)
      → IsCut (zero_events granted ++ stored_events pairs) words after → IsCut (inner_of old.callers words old.holders thread now kcall) words after
  cut_early plan of granted gives pairs stores after cut =
      subst (λ (es : List Inner). IsCut es words after)
      (ap (λ (g : List ℕ). zero_events g ++ stored_events pairs) (gives ∙ of.granted) ∙ ap (λ (ps : List (ℕ × ℕ)). zero_events row.granted ++ stored_events ps) (stores ∙ of.pairs)
      ∙ sym (ap (λ (d : Option KernAnswer). cond (is_some d) [] (row_events row)) of.due))
      cut

  -- an answer to a call that isn't refused, and commits what its row says
  module _ (keeps : first_due (row_of old.callers words old.holders thread now kcall).refusals ≡ None → RowKeeps words (row_of old.callers words old.holders thread now kcall)) where
    module _ (plan : Plan) (of : IsPlanOf (row_of old.callers words old.holders thread now kcall) plan) (granted : List ℕ) (gives : granted ≡ plan.granted) (pairs : List (ℕ × ℕ)) (stores : pairs ≡ plan.pairs) where
      pub may_commit : MayCommit words granted pairs
      may_commit =
          subst (λ (g : List ℕ). MayCommit words g pairs) (sym (gives ∙ of.granted)) (subst (λ (ps : List (ℕ × ℕ)). MayCommit words row.granted ps) (sym (stores ∙ of.pairs)) (keeps of.due).0)

    module _ (commits : CommitLaw) where
      committed : first_due row.refusals ≡ None → (after : List Word) → all_made after → IsCommitted row.granted row.pairs words after
      committed due after made = subst (λ (ws : List Word). IsCommitted row.granted row.pairs words ws) (sym made) (commits words row.granted row.pairs (keeps due).0)

      works : first_due row.refusals ≡ None → (after : List Word) → all_made after → IsWorking after row.holders
      works due after made = (keeps due).1 after (committed due after made)

      cut_off : first_due row.refusals ≡ None → (after : List Word) → all_made after → IsCut (inner_of old.callers words old.holders thread now kcall) words after
      cut_off due after made =
          whole_cut (inner_of old.callers words old.holders thread now kcall) words after
          (made ∙ sym (ap (λ (d : Option KernAnswer). made_all (cond (is_some d) [] (row_events row)) words) due))

      module _ (plan : Plan) (of : IsPlanOf (row_of old.callers words old.holders thread now kcall) plan) (granted : List ℕ) (gives : granted ≡ plan.granted) (pairs : List (ℕ × ℕ)) (stores : pairs ≡ plan.pairs) where
        module _ (after : List Word) (stored : after ≡ made_all (zero_events granted ++ stored_events pairs) words) where
          made : all_made after
          made =
              stored ∙ ap (λ (g : List ℕ). made_all (zero_events g ++ stored_events pairs) words) (gives ∙ of.granted)
              ∙ ap (λ (ps : List (ℕ × ℕ)). made_all (zero_events row.granted ++ stored_events ps) words) (stores ∙ of.pairs)

          pub sound_then : IsSoundKernel after
          sound_then = (works of.due after made).sound

          pub cut_then : IsCut (inner_of old.callers words old.holders thread now kcall) words after
          cut_then = cut_off of.due after made

          pub known_then : TellsOwners words → (others : List (ℕ × ℕ)) → others ≡ plan.pairs → KnowsUpTo after others old.owners
          known_then tells others same =
              subst (λ (ps : List (ℕ × ℕ)). KnowsUpTo after ps old.owners) (sym (same ∙ of.pairs))
              (knows_after words after old.holders row.holders row.granted row.pairs old.owners mounted.working (works of.due after made) (committed of.due after made) (keeps of.due).0.pages tells mounted.told)

          pub answered_then : (first_due row.refusals ≡ None → StaysSteady words (made_all (row_events row) words)) → (result : KernAnswer) (followed new : KernelView) → IsChange kcall → result ≡ plan.answer → followed ≡ with_owners (owners_of after) old
              → new ≡ with_holders (holders_left kcall followed.holders) followed → Answered old words thread now kcall result new after
          answered_then steady result followed new change is follow end =
              answered old words thread now kcall result new after
              (passed_done result new after (works of.due after made) of.due (is ∙ of.answer) made
              (ap (λ (k : KernelView). k.callers) end ∙ ap (λ (k : KernelView). k.callers) follow)
              (ap (λ (k : KernelView). k.holders) end ∙ ap (λ (k : KernelView). holders_left kcall k.holders) follow ∙ sym (left_is old.callers words old.holders thread now kcall change))
              (ap (λ (k : KernelView). k.owners) end ∙ ap (λ (k : KernelView). k.owners) follow)
              (subst (λ (ws : List Word). StaysSteady words ws) (sym made) (steady of.due)))
              cut_then
