-- What a call gives with a store of its plan: one that prepares keeps the tree, and the commit makes the file.
use Rattle.std.proofs.Common.{◌≡◌, ℕ, List, [], ◌∷◌, Bool, true, false, cond, Option, Some, None, refl, sym, ap, subst, ◌∙◌}
use Rattle.std.proofs.lemmas.Bool.{false≢true}
use Rattle.tr_types.specs.declared.action.Action.{Action}
use Rattle.tr_types.specs.declared.action.Action.TheVariants.{Store}
use Rattle.tr_types.specs.declared.action.Answer.{Answer}
use Rattle.tr_types.specs.declared.action.Answer.TheVariants.{Done}
use Rattle.tr_types.specs.declared.command.Command.{Command}
use Rattle.tr_types.specs.declared.command.Reply.TheVariants.{Made}
use Rattle.tr_types.specs.declared.entry.Mark.{Mark}
use Rattle.tr_types.specs.declared.entry.Mark.TheVariants.{Plain, Commit}
use Rattle.tr_types.specs.declared.kernel_call.Mapped.{Mapped}
use Rattle.zo_model.specs.Legal.{Verdict, HasCause, MayReply, MayTell}
use Rattle.zo_model.specs.Seats.{Told, is_commit}
use Rattle.zo_model.specs.Steps.{Scene, Leaves, Goes, ActGives, OverGives, MayMark}
use Rattle.zo_plan.specs.StoreRuns.{Due, Running, damaged_at, step_at, run_at}
use Rattle.zo_plan.specs.declared.stores.StoreStep.TheVariants as step
use Rattle.zo_ops.specs.declared.op.Stage.TheVariants as stage
use Rattle.zo_ops.specs.Acts.{IsAction}
use Rattle.zo_ops.specs.Knows.{Stands, StageKnows, MayPut, MayPutAll, IsMade, mark_of, stored}
use Rattle.zo_ops.proofs.StepLaws.{at_rest, denies}

may_mark : (b : Bool) (addr word : ℕ) → MayMark (cond b Commit Plain) (Store addr word)
may_mark true addr word = tt
may_mark false addr word = tt

commits_of : (b : Bool) → is_commit (cond b Commit Plain) Done ≡ true → b ≡ true
commits_of true e = refl
commits_of false e = absurd (false≢true e)

is_stored : (d : Due) (s after : Scene) → Leaves (mark_of d) (Store d.addr d.word) Done s after → after ≡ stored d s
is_stored d s after l = λ i. record {
  at = l.words.0 i;
  id = l.id i;
  coffer = l.words.1 i;
  coffers = l.coffers i;
  seat = l.seat i;
  verdict = l.verdict i;
}

store_gives : (mapped : Mapped) (command : Command) (new : Running) (d : Due) (left : List Due) (s : Scene) → MayPut d s → MayPutAll left (stored d s) → new.left ≡ left
    → ActGives (StageKnows mapped command (stage.Storing new)) (mark_of d) (Store d.addr d.word) s
store_gives mapped command new d left s may all left_is = record {
  reachable = (may.create, may.reached);
  marked = may_mark d.commits d.addr d.word;
  goes = λ given after is leaves. subst (λ (g : Answer). Goes (StageKnows mapped command (stage.Storing new)) (mark_of d) (Store d.addr d.word) g s after) (sym is) (goes_to after (subst (λ (g : Answer). Leaves (mark_of d) (Store d.addr d.word) g s after) is leaves));
}
  where
    goes_to : (after : Scene) → Leaves (mark_of d) (Store d.addr d.word) Done s after → Goes (StageKnows mapped command (stage.Storing new)) (mark_of d) (Store d.addr d.word) Done s after
    goes_to after leaves = subst (λ (t : Scene). Goes (StageKnows mapped command (stage.Storing new)) (mark_of d) (Store d.addr d.word) Done s t) (sym (is_stored d s after leaves)) (record {
      legal = λ e. may.legal (commits_of d.commits e);
      done = λ e. ap (λ (m : Mark). is_commit m Done) e;
      denoted = may.denoted;
      knows = (refl, subst (λ (l : List Due). MayPutAll l (stored d s)) (sym left_is) all);
    })

-- A step of a run. No store is refused, so none shows damage.

step_done : (given : Answer) (run : Running) → given ≡ Done → step_at (damaged_at given run.asked) run.left ≡ step_at None run.left
step_done given run is = ap (λ g. step_at (damaged_at g run.asked) run.left) is

left_done : (given : Answer) (run : Running) → given ≡ Done → run_at (damaged_at given run.asked) run.left ≡ run_at None run.left
left_done given run is = ap (λ g. run_at (damaged_at g run.asked) run.left) is

module _ (mapped : Mapped) (command : Command) (run new : Running) (given : Answer) where
  act_by : (action : Action) (mark : Mark) (left : List Due) → step_at None left ≡ step.Act action mark → new ≡ run_at None left → (s : Scene) → MayPutAll left s → ActGives (StageKnows mapped command (stage.Storing new)) mark action s
  act_by action mark [] is new_is s all = absurd (no_act is)
    where
      no_act : step.Done ≡ step.Act action mark → ⊥
      no_act e = cc
  act_by action mark (d ∷ left) is new_is s (may, all) =
      let action_is : Store d.addr d.word ≡ action = action_of is in
      let mark_is : mark_of d ≡ mark = mark_from is in
      subst (λ (a : Action). ActGives (StageKnows mapped command (stage.Storing new)) mark a s) action_is
      (subst (λ (m : Mark). ActGives (StageKnows mapped command (stage.Storing new)) m (Store d.addr d.word) s) mark_is
      (store_gives mapped command new d left s may all (ap (λ (r : Running). r.left) new_is)))
    where
      action_of : step.Act (Store d.addr d.word) (mark_of d) ≡ step.Act action mark → Store d.addr d.word ≡ action
      action_of e = cc

      mark_from : step.Act (Store d.addr d.word) (mark_of d) ≡ step.Act action mark → mark_of d ≡ mark
      mark_from e = cc

  pub run_act_gives : (action : Action) (mark : Mark) → step_at (damaged_at given run.asked) run.left ≡ step.Act action mark → new ≡ run_at (damaged_at given run.asked) run.left
      → (s : Scene) → StageKnows mapped command (stage.Storing run) given s → ActGives (StageKnows mapped command (stage.Storing new)) mark action s
  run_act_gives action mark is new_is s (done, all) = act_by action mark run.left (sym (step_done given run done) ∙ is) (new_is ∙ left_done given run done) s all

  done_by : (left : List Due) → step_at None left ≡ step.Done → (s : Scene) → MayPutAll left s → IsMade s
  done_by [] is s made = made
  done_by (d ∷ left) is s all = absurd (no_done is)
    where
      no_done : step.Act (Store d.addr d.word) (mark_of d) ≡ step.Done → ⊥
      no_done e = cc

  pub run_done_gives : step_at (damaged_at given run.asked) run.left ≡ step.Done → (s : Scene) → StageKnows mapped command (stage.Storing run) given s → OverGives Made s × Stands s
  run_done_gives is s (done, all) =
      let made = done_by run.left (sym (step_done given run done) ∙ is) s all in
      (record { legal = legal s made; rests = at_rest s made.stands }, made.stands)
    where
      legal : (s : Scene) → IsMade s → MayReply s.coffers s.seat s.verdict Made
      legal s made = record {
        denied = λ right path e. absurd (false≢true (ap denies (sym made.stays ∙ e)));
        cause = subst (λ (t : Told). HasCause s.seat t Made) (sym made.told) tt;
        settled = subst (λ (v : Verdict). MayTell s.coffers s.seat v s.seat.told Made) (sym made.verdict) refl;
      }

  whole_by : (left : List Due) (addr : ℕ) → step_at None left ≡ step.Damaged addr → ⊥
  whole_by [] addr e = cc
  whole_by (d ∷ left) addr e = cc

  pub run_not_damaged : (addr : ℕ) → step_at (damaged_at given run.asked) run.left ≡ step.Damaged addr → (s : Scene) → StageKnows mapped command (stage.Storing run) given s → ⊥
  run_not_damaged addr is s (done, all) = whole_by run.left addr (sym (step_done given run done) ∙ is)

-- a run stores, and whatever it is answered
acts_by : (mapped : Mapped) (action : Action) (mark : Mark) (damage : Option ℕ) (left : List Due) → step_at damage left ≡ step.Act action mark → IsAction mapped action × MayMark mark action
acts_by mapped action mark (Some addr) left is = absurd (no_act is)
  where
    no_act : step.Damaged addr ≡ step.Act action mark → ⊥
    no_act e = cc
acts_by mapped action mark None [] is = absurd (no_act is)
  where
    no_act : step.Done ≡ step.Act action mark → ⊥
    no_act e = cc
acts_by mapped action mark None (d ∷ left) is =
    subst (λ (a : Action). IsAction mapped a × MayMark mark a) (action_of is) (tt, subst (λ (m : Mark). MayMark m (Store d.addr d.word)) (mark_from is) (may_mark d.commits d.addr d.word))
  where
    action_of : step.Act (Store d.addr d.word) (mark_of d) ≡ step.Act action mark → Store d.addr d.word ≡ action
    action_of e = cc

    mark_from : step.Act (Store d.addr d.word) (mark_of d) ≡ step.Act action mark → mark_of d ≡ mark
    mark_from e = cc

pub run_acts : (mapped : Mapped) (given : Answer) (run : Running) (action : Action) (mark : Mark) → step_at (damaged_at given run.asked) run.left ≡ step.Act action mark → IsAction mapped action × MayMark mark action
run_acts mapped given run action mark is = acts_by mapped action mark (damaged_at given run.asked) run.left is
