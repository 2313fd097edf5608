-- What a machine has been told, and the tries for a lease that failed by it. Lists have the last first.
use Rattle.std.specs.Prelude.{◌≡◌, ◌≢◌, ◌⊎◌, ℕ, ◌+◌, ◌<◌, List, [], ◌∷◌, ◌++◌, Bool, true, false, not, Option, Some, None, if◌then◌else◌, ◌==◌, ◌&&◌, ◌||◌}
use Rattle.tr_types.specs.declared.action.Action.{Action}
use Rattle.tr_types.specs.declared.action.Action.TheVariants as action
use Rattle.tr_types.specs.declared.entry.Mark.{Mark}
use Rattle.tr_types.specs.declared.entry.Mark.TheVariants as mark
use Rattle.zo_lease.specs.declared.step.Heard.{Heard}
use Rattle.zo_lease.specs.declared.step.Heard.TheVariants as hears
use Rattle.zo_lease.specs.declared.step.LeaseStep.{LeaseStep}
use Rattle.zo_lease.specs.declared.step.LeaseStep.TheVariants as step
use Rattle.zo_lease.specs.declared.giving.Gift.{Gift}
use Rattle.zo_lease.specs.Words.{own_word, is_open, is_kept, is_expired, noted_word, counter_word, head_word}

-- what is heard of an action, and the tick at which it was made
pub record Told : Type 0 where
  pub heard : Heard
  pub now : ℕ

-- an action that a machine gave, with what it was told of it
pub record Turn : Type 0 where
  pub action : Action
  pub mark : Mark
  pub heard : Heard
  pub now : ℕ

-- a machine after it was told all this
abbrev pub ran : {M : Type 0} → (M → Heard → ℕ → M) → M → List Told → M
ran after m [] = m
ran after m (t ∷ earlier) = after (ran after m earlier) t.heard t.now

abbrev pub with_turn : LeaseStep → Heard → ℕ → List Turn → List Turn
with_turn (step.Act action mark) heard now turns = record { action = action; mark = mark; heard = heard; now = now } ∷ turns
with_turn step heard now turns = turns

-- the turns that it made of it
abbrev pub turns_of : {M : Type 0} → (M → Heard → ℕ → M) → (M → LeaseStep) → M → List Told → List Turn
turns_of after gives m [] = []
turns_of after gives m (t ∷ earlier) = with_turn (gives (ran after m earlier)) t.heard t.now (turns_of after gives m earlier)

-- The word of a lease as these turns show it last: a load shows it, and so does an exchange, which may have changed it.
abbrev pub stands_after : ℕ → Action → Heard → Option ℕ → Option ℕ
stands_after addr (action.Load at) (hears.Word word) before = if at == addr then Some word else before
stands_after addr (action.Cas at old new) (hears.Word word) before = if at == addr then Some (if word == old then new else word) else before
stands_after addr action heard before = before

abbrev pub stands_in : ℕ → List Turn → Option ℕ
stands_in addr [] = None
stands_in addr (t ∷ earlier) = stands_after addr t.action t.heard (stands_in addr earlier)

abbrev pub is_word : Option ℕ → ℕ → Bool
is_word None word = false
is_word (Some seen) word = word == seen

-- Who wants to change fails by an exchange, on a lease that showed `seen`: it finds another word than it asked for, and that holds
-- still, or isn't the one that was seen.
abbrev pub exchange_fails : ℕ → Action → Heard → ℕ → Option ℕ → Bool
exchange_fails addr (action.Cas at old new) (hears.Word word) now seen =
    (at == addr) && (not (word == old) && (not (is_open word now) || not (is_word seen word)))
exchange_fails addr action heard now seen = false

-- who only reads fails by a load, which finds a lease that holds still
abbrev pub look_fails : ℕ → Action → Heard → ℕ → Option ℕ → Bool
look_fails addr (action.Load at) (hears.Word word) now seen = (at == addr) && not (is_open word now)
look_fails addr action heard now seen = false

-- how an action on the lease at an address fails: what it was told, at which tick, and what the lease showed before
abbrev pub Failing : Type 0
Failing = ℕ → Action → Heard → ℕ → Option ℕ → Bool

abbrev pub fails_in : Failing → ℕ → Turn → List Turn → Bool
fails_in fails addr t earlier = fails addr t.action t.heard t.now (stands_in addr earlier)

-- how many tries for the lease at an address failed
abbrev pub failed_tries : Failing → ℕ → List Turn → ℕ
failed_tries fails addr [] = 0
failed_tries fails addr (t ∷ earlier) = (if fails_in fails addr t earlier then 1 else 0) + failed_tries fails addr earlier

-- the word that the last failed try was told, with its tick
pub record Failure : Type 0 where
  pub word : Heard
  pub now : ℕ

abbrev pub last_failure : Failing → ℕ → List Turn → Option Failure
last_failure fails addr [] = None
last_failure fails addr (t ∷ earlier) =
    if fails_in fails addr t earlier then Some (record { word = t.heard; now = t.now }) else last_failure fails addr earlier

-- All tries failed, of which so many were made before; the last failed one was told this word at this tick.
pub record AllFailed (fails : Failing) (addr began word now : ℕ) (turns : List Turn) : Type 0 where
  pub tries : began + failed_tries fails addr turns ≡ 16
  pub last : last_failure fails addr turns ≡ Some (record { word = hears.Word word; now = now })

-- The lease was taken just now: an exchange put the thread's word in place of one that could be taken when the turn before it was
-- made, at whose tick the lease was made to begin.
pub record Taken (addr thread own found : ℕ) (turns : List Turn) : Type 0 where
  pub tick : ℕ
  pub before : Turn
  pub earlier : List Turn
  pub is : turns ≡ record { action = action.Cas addr found own; mark = mark.Take; heard = hears.Word found; now = tick } ∷ before ∷ earlier
  pub own_is : own ≡ own_word thread before.now
  pub could : is_open found before.now ≡ true

-- Since these turns the line was flushed that the holder had noted beside the lease, if one was.
pub record Flushed (lease : ℕ) (before turns : List Turn) : Type 0 where
  pub at : ℕ
  pub tick : ℕ
  pub loaded : List Turn
  pub load : loaded ≡ record { action = action.Load (noted_word lease); mark = mark.Plain; heard = hears.Word at; now = tick } ∷ before
  pub flush : ((at ≡ 0) × (turns ≡ loaded))
      ⊎ ((at ≢ 0) × (heard : Heard) × (now : ℕ) × (turns ≡ record { action = action.Flush at; mark = mark.Plain; heard = heard; now = now } ∷ loaded))

-- and then a fence was made
pub record Mended (lease : ℕ) (before turns : List Turn) : Type 0 where
  pub heard : Heard
  pub now : ℕ
  pub earlier : List Turn
  pub is : turns ≡ record { action = action.Fence; mark = mark.Plain; heard = heard; now = now } ∷ earlier
  pub flushed : Flushed lease before earlier

-- An action on the word at an address, whose refusal is damage. A flush is none.
abbrev pub IsOn : ℕ → Action → Type 0
IsOn addr (action.Load at) = addr ≡ at
IsOn addr (action.Store at word) = addr ≡ at
IsOn addr (action.Cas at old new) = addr ≡ at
IsOn addr action = ⊥

-- these turns are all on the word at an address
abbrev pub OnlyOn : ℕ → List Turn → Type 0
OnlyOn addr [] = Unit {0}
OnlyOn addr (t ∷ turns) = IsOn addr t.action × OnlyOn addr turns

-- The lease is given back just now: since some turns it was only tried for, and an exchange found the own word at last.
pub record GivenBack (gift : Gift) (before turns : List Turn) : Type 0 where
  pub tick : ℕ
  pub tries : List Turn
  pub is : turns ≡ record { action = action.Cas gift.addr gift.own gift.put; mark = mark.Plain; heard = hears.Word gift.own; now = tick } ∷ tries ++ before
  pub only : OnlyOn gift.addr tries

-- a look at the lease has shown this word just now, which isn't the own one or has expired
pub record Lost (addr own : ℕ) (look : Mark) (word : ℕ) (turns : List Turn) : Type 0 where
  pub tick : ℕ
  pub earlier : List Turn
  pub is : turns ≡ record { action = action.Load addr; mark = look; heard = hears.Word word; now = tick } ∷ earlier
  pub lost : is_kept own word tick ≡ false

-- Refused is what is told so, and a load or an exchange also where it is told no word.
abbrev pub is_refused : Action → Heard → Bool
is_refused (action.Load at) (hears.Word word) = false
is_refused (action.Load at) heard = true
is_refused (action.Cas at old new) (hears.Word word) = false
is_refused (action.Cas at old new) heard = true
is_refused action hears.Refused = true
is_refused action heard = false

-- a look at the lease has shown the own word just now, unexpired
pub record Kept (addr own : ℕ) (look : Mark) (word : ℕ) (turns : List Turn) : Type 0 where
  pub tick : ℕ
  pub earlier : List Turn
  pub is : turns ≡ record { action = action.Load addr; mark = look; heard = hears.Word word; now = tick } ∷ earlier
  pub own_is : word ≡ own
  pub kept : is_expired own tick ≡ false

-- the turn of a load that showed this word, which was no check
abbrev pub shows : ℕ → ℕ → ℕ → Turn
shows addr word tick = record { action = action.Load addr; mark = mark.Plain; heard = hears.Word word; now = tick }

-- A lease is seen just now, behind its counter, and can be taken at that tick.
pub record Watched (addr counter found : ℕ) (turns : List Turn) : Type 0 where
  pub first : ℕ
  pub tick : ℕ
  pub earlier : List Turn
  pub is : turns ≡ shows addr found tick ∷ shows (counter_word addr) counter first ∷ earlier
  pub could : is_open found tick ≡ true

-- the step tells damage just where the action was refused
abbrev pub TellsDamage : Action → Heard → LeaseStep → Type 0
TellsDamage action heard (step.Damaged addr) = IsOn addr action × (is_refused action heard ≡ true)
TellsDamage action heard step = (addr : ℕ) → IsOn addr action → is_refused action heard ≡ false

abbrev pub DamageAfter : LeaseStep → Heard → LeaseStep → Type 0
DamageAfter (step.Act action mark) heard next = TellsDamage action heard next
DamageAfter step heard next = Unit {0}

-- A page is drawn from a pool that was taken: its head led to the page, the page to the next one, and then the head was stored to lead
-- there, directly behind a look that showed the own word, unexpired.
pub record Drawn (addr own page : ℕ) (taken turns : List Turn) : Type 0 where
  pub some : page ≢ 0
  pub next : ℕ
  pub head_tick : ℕ
  pub next_tick : ℕ
  pub look_tick : ℕ
  pub heard : Heard
  pub tick : ℕ
  pub is : turns ≡ record { action = action.Store (head_word addr) next; mark = mark.Plain; heard = heard; now = tick }
      ∷ shows addr own look_tick ∷ shows page next next_tick ∷ shows (head_word addr) page head_tick ∷ taken
  pub kept : is_expired own look_tick ≡ false
  pub heeded : is_refused (action.Store (head_word addr) next) heard ≡ false

-- or its head led to none
pub record Drained (addr page : ℕ) (taken turns : List Turn) : Type 0 where
  pub none : page ≡ 0
  pub tick : ℕ
  pub is : turns ≡ shows (head_word addr) 0 tick ∷ taken

-- A page is in a pool that was taken: it was made to lead to the page to which the head led, and then the head to it. Each store came
-- directly behind a look that showed the own word, unexpired.
pub record Pushed (addr own page : ℕ) (taken turns : List Turn) : Type 0 where
  pub first : ℕ
  pub head_tick : ℕ
  pub page_look : ℕ
  pub page_heard : Heard
  pub page_tick : ℕ
  pub head_look : ℕ
  pub heard : Heard
  pub tick : ℕ
  pub is : turns ≡ record { action = action.Store (head_word addr) page; mark = mark.Plain; heard = heard; now = tick }
      ∷ shows addr own head_look ∷ record { action = action.Store page first; mark = mark.Plain; heard = page_heard; now = page_tick }
      ∷ shows addr own page_look ∷ shows (head_word addr) first head_tick ∷ taken
  pub page_kept : is_expired own page_look ≡ false
  pub head_kept : is_expired own head_look ≡ false
  pub page_heeded : is_refused (action.Store page first) page_heard ≡ false
  pub heeded : is_refused (action.Store (head_word addr) page) heard ≡ false

-- The thread has taken the lease and not given it back: its own word was put there.
pub record Holds (addr thread own : ℕ) (turns : List Turn) : Type 0 where
  pub found : ℕ
  pub taken : List Turn
  pub since : List Turn
  pub won : Taken addr thread own found taken
  pub is : turns ≡ since ++ taken

-- a look has just shown the own word, unexpired
pub record Guarded (addr thread : ℕ) (turns : List Turn) : Type 0 where
  pub own : ℕ
  pub tick : ℕ
  pub earlier : List Turn
  pub is : turns ≡ shows addr own tick ∷ earlier
  pub kept : is_expired own tick ≡ false
  pub holds : Holds addr thread own earlier

-- each store is guarded
abbrev pub GuardsStore : ℕ → ℕ → Action → List Turn → Type 0
GuardsStore addr thread (action.Store at word) turns = Guarded addr thread turns
GuardsStore addr thread action turns = Unit {0}

-- Damage is told just where an action on a word is refused, once the first call is made.
abbrev pub TellsAllDamage : {M : Type 0} → (M → Heard → ℕ → M) → (M → LeaseStep) → (M → Type 0) → Type 0
TellsAllDamage after gives Began = (m : _) (heard : Heard) (now : ℕ) → Began m → DamageAfter (gives m) heard (gives (after m heard now))

-- The own word that stands in a lease: an exchange that found what it asked for takes it where it is marked so, and else gives it back.
abbrev pub held_after : LeaseStep → Heard → Option ℕ → Option ℕ
held_after (step.Act (action.Cas at old new) mark.Take) (hears.Word word) held = if word == old then Some new else held
held_after (step.Act (action.Cas at old new) mark) (hears.Word word) held = if word == old then None else held
held_after step heard held = held

-- a machine tells what it holds, once the first call is made
abbrev pub TellsHeld : {M : Type 0} → (M → Heard → ℕ → M) → (M → LeaseStep) → (M → Option ℕ) → (M → Type 0) → Type 0
TellsHeld after gives held Began = (m : _) (heard : Heard) (now : ℕ) → Began m → held (after m heard now) ≡ held_after (gives m) heard (held m)

abbrev pub IsAct : LeaseStep → Type 0
IsAct (step.Act action mark) = Unit {0}
IsAct step = ⊥

-- A count that each action raises, once the first call is made, so that it bounds how many are made.
abbrev pub CountsActs : {M : Type 0} → (M → Heard → ℕ → M) → (M → LeaseStep) → (M → ℕ) → (M → Type 0) → Type 0
CountsActs after gives made Began = (m : _) (heard : Heard) (now : ℕ) → Began m → IsAct (gives m) → made m < made (after m heard now)
