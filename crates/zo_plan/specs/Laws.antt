-- Laws of runs under leases, whatever their actions are answered.
use Rattle.std.specs.Prelude.{◌≡◌, ◌↔◌, ℕ, ◌+◌, ◌*◌, ◌/◌, ◌<◌, ◌≤◌, List, [], ◌∷◌, ◌++◌, length, filter, All, Contains, Bool, true, false, not, Some}
use Rattle.tr_types.specs.declared.action.Action.{Action}
use Rattle.tr_types.specs.declared.action.Action.TheVariants.{Load, Store}
use Rattle.tr_types.specs.declared.action.Answer.{Answer}
use Rattle.tr_types.specs.declared.action.Answer.TheVariants.{Word, Done, Fault}
use Rattle.tr_types.specs.declared.action.FaultKind.{FaultKind}
use Rattle.tr_types.specs.declared.entry.Mark.{Mark}
use Rattle.tr_types.specs.declared.entry.Mark.TheVariants.{Check}
use Rattle.zo_layout.specs.Layout.{dir_lease, dir_at, dir_counter, control_lease, control_at, control_counter}
use Rattle.zo_plan.specs.declared.deed.Deed.TheVariants.{Look}
use Rattle.zo_plan.specs.declared.deed.Due.{Due}
use Rattle.zo_plan.specs.declared.held.Held.{Held}
use Rattle.zo_plan.specs.declared.plan.Operand.{Operand}
use Rattle.zo_plan.specs.declared.plan.Operand.TheVariants.{Known, Drawn}
use Rattle.zo_plan.specs.declared.plan.Plan.{Plan}
use Rattle.zo_plan.specs.declared.run.Step.{Step}
use Rattle.zo_plan.specs.declared.run.Step.TheVariants as step
use Rattle.zo_plan.specs.Deeds.{address_of, word_in}
use Rattle.zo_lease.specs.Words.{noted_word, counter_word, expiry_of}
use Rattle.zo_plan.specs.Leases.{is_shown}
use Rattle.zo_plan.specs.Runs.{early, Running, step_of, run_after, begun}

-- an action of a run, with its mark, its answer, and the tick of the answer
pub record Made : Type 0 where
  pub action : Action
  pub mark : Mark
  pub answer : Answer
  pub now : ℕ

-- the actions from a step on, after which the run is this one, where they are answered so
abbrev pub made_from : Step → Running → List (Answer × ℕ) → List Made
made_from (step.Act action mark) run (reply ∷ replies) =
    record { action = action; mark = mark; answer = reply.0; now = reply.1 } ∷ made_from (step_of run reply.0 reply.1) (run_after run reply.0 reply.1) replies
made_from step run replies = []

-- the actions of a run that has given nothing yet
abbrev pub made_of : Running → List (Answer × ℕ) → List Made
made_of run replies = made_from (step_of run Done 0) (run_after run Done 0) replies

-- the place lies in a drawn page, where it is given as one
abbrev pub IsInPages : List ℕ → Operand → Type 0
IsInPages drawn (Known addr) = Unit {0}
IsInPages drawn (Drawn page byte) = (page < length drawn) × (byte < 4096)

-- a look at a lease that has shown the call's own word, not expired
pub record IsLook (held : Held) (made : Made) : Type 0 where
  pub action : made.action ≡ Load held.lease
  pub mark : made.mark ≡ Check
  pub own : made.answer ≡ Word held.own
  pub fresh : made.now ≤ expiry_of held.own

-- such looks at these leases, one each
abbrev pub AreLooks : List Held → List Made → Type 0
AreLooks [] [] = Unit {0}
AreLooks (held ∷ leases) (made ∷ looks) = IsLook held made × AreLooks leases looks
AreLooks leases looks = ⊥

-- the last of these actions are such looks
pub record EndsInLooks (leases : List Held) (made : List Made) : Type 0 where
  pub earlier : List Made
  pub looks : List Made
  pub made_are : made ≡ earlier ++ looks
  pub shown : AreLooks leases looks

-- Each store outside the drawn pages comes directly after looks at all leases, each of which has shown the call's own word, not
-- expired.
abbrev pub LookLaw : Type 0
LookLaw =
    (drawn : List ℕ) (leases : List Held) (plan : Plan) (replies : List (Answer × ℕ)) → All (λ put. IsInPages drawn put.at) plan.prepares.items
    → (before after : List Made) (made : Made) (addr word : ℕ) → made_of (begun drawn leases plan) replies ≡ before ++ made ∷ after
    → made.action ≡ Store addr word → (Contains drawn (addr / 4096) → ⊥) → EndsInLooks leases before

-- The action given last was a look at this lease, before the commit. It was not refused, and has shown this word: not the call's own,
-- or expired.
pub record HasShownTaken (run : Running) (answer : Answer) (now addr word : ℕ) : Type 0 where
  pub held : Held
  pub asked : run.asked ≡ Some (early (Look held))
  pub lease : addr ≡ held.lease
  pub word_is : word ≡ word_in answer
  pub taken : is_shown held answer now ≡ false
  pub answered : (kind : FaultKind) → answer ≡ Fault kind → ⊥

abbrev pub ExpiredLaw : Type 0
ExpiredLaw = (run : Running) (answer : Answer) (now addr word : ℕ) → (step_of run answer now ≡ step.Expired addr word) ↔ HasShownTaken run answer now addr word

-- the action given last, on this address and no later than at the commit, was refused
pub record WasRefused (run : Running) (answer : Answer) (addr : ℕ) : Type 0 where
  pub due : Due
  pub asked : run.asked ≡ Some due
  pub early_is : due.late ≡ false
  pub address : address_of due.deed ≡ Some addr
  pub kind : FaultKind
  pub refused : answer ≡ Fault kind

abbrev pub DamagedLaw : Type 0
DamagedLaw = (run : Running) (answer : Answer) (now addr : ℕ) → (step_of run answer now ≡ step.Damaged addr) ↔ WasRefused run answer addr

-- a store to a place in a drawn page
abbrev pub is_drawn : Operand → Bool
is_drawn (Known addr) = false
is_drawn (Drawn page byte) = true

-- how many stores of a plan go to drawn pages, and how many don't
abbrev pub drawn_stores : Plan → ℕ
drawn_stores plan = length (filter (λ put. is_drawn put.at) plan.prepares.items)

abbrev pub other_stores : Plan → ℕ
other_stores plan = length (filter (λ put. not (is_drawn put.at)) plan.prepares.items) + 1 + length plan.after.items

-- under at most four leases a run has at most two actions for each store in a drawn page, ten for each other one, and 64
abbrev pub CountLaw : Type 0
CountLaw =
    (drawn : List ℕ) (leases : List Held) (plan : Plan) (replies : List (Answer × ℕ)) → length leases ≤ 4
    → length (made_of (begun drawn leases plan) replies) ≤ 2 * drawn_stores plan + 10 * other_stores plan + 64

-- the words behind a lease are those of its directory or coffer
pub record IsBeside (lease note counter : ℕ) : Type 0 where
  pub note_is : noted_word lease ≡ note
  pub counter_is : counter_word lease ≡ counter

pub record PlaceLaw : Type 0 where
  pub directories : (dir : ℕ) → IsBeside (dir_lease dir) (dir_at dir) (dir_counter dir)
  pub coffers : (control : ℕ) → IsBeside (control_lease control) (control_at control) (control_counter control)
