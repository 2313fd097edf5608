-- What the machines on leases keep, whatever they are told.
use Rattle.std.specs.Prelude.{◌≡◌, ◌≢◌, ◌⊎◌, ℕ, ◌+◌, ◌*◌, ◌<◌, ◌≤◌, List, [], length}
use Rattle.zo_layout.specs.Layout as layout
use Rattle.tr_types.specs.declared.entry.Mark.{Mark}
use Rattle.tr_types.specs.declared.entry.Mark.TheVariants as mark
use Rattle.zo_lease.specs.declared.step.LeaseStep.{LeaseStep}
use Rattle.zo_lease.specs.declared.step.LeaseStep.TheVariants as step
use Rattle.zo_lease.specs.declared.step.Heard.{Heard}
use Rattle.zo_lease.specs.declared.bid.Bid.TheVariants.{Looking}
use Rattle.zo_lease.specs.declared.take.Take.{Take}
use Rattle.zo_lease.specs.declared.take.Stage.TheVariants as take
use Rattle.zo_lease.specs.declared.giving.Gift.{Gift}
use Rattle.zo_lease.specs.declared.giving.Giving.TheVariants as giving
use Rattle.zo_lease.specs.declared.give_back.GiveBack.{GiveBack}
use Rattle.zo_lease.specs.declared.give_back.Stage.TheVariants as give
use Rattle.zo_lease.specs.declared.watch.Watch.{Watch}
use Rattle.zo_lease.specs.declared.watch.Stage.TheVariants as watch
use Rattle.zo_lease.specs.declared.pop.Pop.{Pop}
use Rattle.zo_lease.specs.declared.pop.Stage.TheVariants as pop
use Rattle.zo_lease.specs.declared.push.Push.{Push}
use Rattle.zo_lease.specs.declared.push.Stage.TheVariants as push
use Rattle.zo_lease.specs.declared.check.Stage.TheVariants as check
use Rattle.zo_lease.specs.Words.{noted_word, counter_word, head_word}
use Rattle.zo_lease.specs.Checks.{first_check, check_after, check_step}
use Rattle.zo_lease.specs.Watches.{IsFirstWatch, watch_after, watch_step, watch_made}
use Rattle.zo_lease.specs.Pops.{IsFirstPop, pop_after, pop_step, pop_held, pop_made}
use Rattle.zo_lease.specs.Pushes.{IsFirstPush, push_after, push_step, push_held, push_made}
use Rattle.zo_lease.specs.Gives.{first_give, give_after, give_step, give_made}
use Rattle.zo_lease.specs.Takes.{IsFirstTake, take_after, take_step, take_held, take_made}
use Rattle.zo_lease.specs.Turns.{Told, Turn, Failing, ran, turns_of, exchange_fails, look_fails, failed_tries, AllFailed, Taken, Mended, Watched, Holds, Drawn, Drained, Pushed, GuardsStore, GivenBack, Lost, Kept, TellsAllDamage, TellsHeld, CountsActs}

-- at most 4 actions are made for each failed try, and 20
abbrev pub IsShort : Failing → ℕ → List Turn → Type 0
IsShort fails addr turns = length turns ≤ 4 * failed_tries fails addr turns + 20

-- A lease is won by the exchange that took it, and where it had expired, what is noted beside it is mended since.
pub record WonLease (addr thread own found : ℕ) (turns : List Turn) : Type 0 where
  pub free : found ≡ 0 → Taken addr thread own found turns
  pub expired : found ≢ 0 → (taken : List Turn) × Taken addr thread own found taken × Mended addr taken turns

abbrev pub TakeTells : ℕ → ℕ → ℕ → LeaseStep → List Turn → Type 0
TakeTells addr thread began (step.Won own found) turns = WonLease addr thread own found turns
TakeTells addr thread began (step.Busy at word now) turns = (at ≡ addr) × AllFailed exchange_fails addr began word now turns
TakeTells addr thread began (step.Expired at word) turns = ⊥
TakeTells addr thread began (step.Damaged at) turns = Unit {0}
TakeTells addr thread began (step.Act action mark) turns = began + failed_tries exchange_fails addr turns < 16

-- a take whose first call was made, of a call of which so many tries have failed
pub record TakeBegan (addr thread began : ℕ) (t : Take) : Type 0 where
  pub lease : t.lease.addr ≡ addr
  pub bidder : t.bidder.thread ≡ thread
  pub tries : t.failed ≡ began
  pub stage : t.stage ≡ take.Bidding Looking

abbrev pub TakeBegins : Type 0
TakeBegins = (addr thread began : ℕ) (t : Take) (heard : Heard) (now : ℕ) → IsFirstTake addr thread began t → TakeBegan addr thread began (take_after t heard now)

pub record TakeHistory (addr thread began : ℕ) (t : Take) (told : List Told) : Type 0 where
  pub tells : TakeTells addr thread began (take_step (ran take_after t told)) (turns_of take_after take_step t told)
  pub short : IsShort exchange_fails addr (turns_of take_after take_step t told)

abbrev pub TakeLaw : Type 0
TakeLaw = (addr thread began : ℕ) (t : Take) (told : List Told) → began < 16 → TakeBegan addr thread began t → TakeHistory addr thread began t told

abbrev pub TakeHeld : Type 0
TakeHeld = TellsHeld take_after take_step (λ m. take_held m.stage) (λ m. m.stage ≢ take.Begin)

abbrev pub TakeActs : Type 0
TakeActs = CountsActs take_after take_step take_made (λ m. m.stage ≢ take.Begin)

abbrev pub TakeDamage : Type 0
TakeDamage = TellsAllDamage take_after take_step (λ t. t.stage ≢ take.Begin)

-- A give-back. It is busy only where 16 exchanges failed though the lease showed the own word after each.
abbrev pub GiveTells : Gift → LeaseStep → List Turn → Type 0
GiveTells gift (step.Won value found) turns = (value ≡ 0) × (found ≡ gift.own) × GivenBack gift [] turns
GiveTells gift (step.Busy at word now) turns = (at ≡ gift.addr) × AllFailed exchange_fails gift.addr 0 word now turns
GiveTells gift (step.Expired at word) turns = (at ≡ gift.addr) × Lost gift.addr gift.own gift.look word turns
GiveTells gift (step.Damaged at) turns = Unit {0}
GiveTells gift (step.Act action mark) turns = failed_tries exchange_fails gift.addr turns ≤ 16

-- a give-back whose first call was made
pub record GiveBegan (gift : Gift) (g : GiveBack) : Type 0 where
  pub gift_is : g.gift ≡ gift
  pub tries : g.failed ≡ 0
  pub stage : g.stage ≡ give.Going giving.Exchanging

abbrev pub GiveBegins : Type 0
GiveBegins = (addr own put : ℕ) (look : Mark) (heard : Heard) (now : ℕ)
    → GiveBegan (record { addr = addr; own = own; put = put; look = look }) (give_after (first_give addr own put look) heard now)

pub record GiveHistory (gift : Gift) (g : GiveBack) (told : List Told) : Type 0 where
  pub tells : GiveTells gift (give_step (ran give_after g told)) (turns_of give_after give_step g told)
  pub short : IsShort exchange_fails gift.addr (turns_of give_after give_step g told)

abbrev pub GiveLaw : Type 0
GiveLaw = (gift : Gift) (g : GiveBack) (told : List Told) → GiveBegan gift g → GiveHistory gift g told

abbrev pub GiveActs : Type 0
GiveActs = CountsActs give_after give_step give_made (λ m. m.stage ≢ give.Begin)

abbrev pub GiveDamage : Type 0
GiveDamage = TellsAllDamage give_after give_step (λ g. g.stage ≢ give.Begin)

-- A watch tells the counter that it saw first, and the lease that it saw behind it. Where that had expired, what is noted beside it is
-- mended since.
pub record WonWatch (addr counter found : ℕ) (turns : List Turn) : Type 0 where
  pub free : found ≡ 0 → Watched addr counter found turns
  pub expired : found ≢ 0 → (seen : List Turn) × Watched addr counter found seen × Mended addr seen turns

abbrev pub WatchTells : ℕ → ℕ → LeaseStep → List Turn → Type 0
WatchTells addr began (step.Won counter found) turns = WonWatch addr counter found turns
WatchTells addr began (step.Busy at word now) turns = (at ≡ addr) × AllFailed look_fails addr began word now turns
WatchTells addr began (step.Expired at word) turns = ⊥
WatchTells addr began (step.Damaged at) turns = Unit {0}
WatchTells addr began (step.Act action mark) turns = began + failed_tries look_fails addr turns < 16

-- a watch whose first call was made, of a call of which so many tries have failed
pub record WatchBegan (addr began : ℕ) (w : Watch) : Type 0 where
  pub lease : w.lease.addr ≡ addr
  pub tries : w.failed ≡ began
  pub stage : w.stage ≡ watch.Counter

abbrev pub WatchBegins : Type 0
WatchBegins = (addr began : ℕ) (w : Watch) (heard : Heard) (now : ℕ) → IsFirstWatch addr began w → WatchBegan addr began (watch_after w heard now)

pub record WatchHistory (addr began : ℕ) (w : Watch) (told : List Told) : Type 0 where
  pub tells : WatchTells addr began (watch_step (ran watch_after w told)) (turns_of watch_after watch_step w told)
  pub short : IsShort look_fails addr (turns_of watch_after watch_step w told)

abbrev pub WatchLaw : Type 0
WatchLaw = (addr began : ℕ) (w : Watch) (told : List Told) → began < 16 → WatchBegan addr began w → WatchHistory addr began w told

abbrev pub WatchActs : Type 0
WatchActs = CountsActs watch_after watch_step watch_made (λ m. m.stage ≢ watch.Begin)

abbrev pub WatchDamage : Type 0
WatchDamage = TellsAllDamage watch_after watch_step (λ w. w.stage ≢ watch.Begin)

-- A page that is popped is the one to which the head led while the lease was held; then the lease was given back.
pub record WonPage (addr thread page found : ℕ) (turns : List Turn) : Type 0 where
  pub own : ℕ
  pub taken : List Turn
  pub won : Taken addr thread own found taken
  pub drawn : List Turn
  pub draws : Drawn addr own page taken drawn ⊎ Drained addr page taken drawn
  pub back : GivenBack (record { addr = addr; own = own; put = 0; look = mark.Plain }) drawn turns

-- a lease that was taken is lost: a look shows another word, or the own one, expired
pub record LostLease (addr thread word : ℕ) (turns : List Turn) : Type 0 where
  pub own : ℕ
  pub holds : Holds addr thread own turns
  pub lost : Lost addr own mark.Plain word turns

abbrev pub PopTells : ℕ → ℕ → ℕ → LeaseStep → List Turn → Type 0
PopTells addr thread began (step.Won page found) turns = WonPage addr thread page found turns
PopTells addr thread began (step.Busy at word now) turns = (at ≡ addr) × AllFailed exchange_fails addr began word now turns
PopTells addr thread began (step.Expired at word) turns = (at ≡ addr) × LostLease addr thread word turns
PopTells addr thread began (step.Damaged at) turns = Unit {0}
PopTells addr thread began (step.Act action mark) turns = (began + failed_tries exchange_fails addr turns ≤ 16) × GuardsStore addr thread action turns

-- a pop whose first call was made, of a call of which so many tries have failed
pub record PopBegan (addr thread began : ℕ) (p : Pop) : Type 0 where
  pub lease : p.lease.addr ≡ addr
  pub bidder : p.bidder.thread ≡ thread
  pub tries : p.failed ≡ began
  pub stage : p.stage ≡ pop.Bidding Looking

abbrev pub PopBegins : Type 0
PopBegins = (addr thread began : ℕ) (p : Pop) (heard : Heard) (now : ℕ) → IsFirstPop addr thread began p → PopBegan addr thread began (pop_after p heard now)

pub record PopHistory (addr thread began : ℕ) (p : Pop) (told : List Told) : Type 0 where
  pub tells : PopTells addr thread began (pop_step (ran pop_after p told)) (turns_of pop_after pop_step p told)
  pub short : IsShort exchange_fails addr (turns_of pop_after pop_step p told)

abbrev pub PopLaw : Type 0
PopLaw = (addr thread began : ℕ) (p : Pop) (told : List Told) → began < 16 → PopBegan addr thread began p → PopHistory addr thread began p told

abbrev pub PopHeld : Type 0
PopHeld = TellsHeld pop_after pop_step (λ m. pop_held m.stage) (λ m. m.stage ≢ pop.Begin)

abbrev pub PopActs : Type 0
PopActs = CountsActs pop_after pop_step pop_made (λ m. m.stage ≢ pop.Begin)

abbrev pub PopDamage : Type 0
PopDamage = TellsAllDamage pop_after pop_step (λ p. p.stage ≢ pop.Begin)

-- A page that is pushed stands before those to which the head led while the lease was held; then the lease was given back.
pub record WonPush (addr thread page value found : ℕ) (turns : List Turn) : Type 0 where
  pub none : value ≡ 0
  pub own : ℕ
  pub taken : List Turn
  pub won : Taken addr thread own found taken
  pub pushed : List Turn
  pub pushes : Pushed addr own page taken pushed
  pub back : GivenBack (record { addr = addr; own = own; put = 0; look = mark.Plain }) pushed turns

abbrev pub PushTells : ℕ → ℕ → ℕ → ℕ → LeaseStep → List Turn → Type 0
PushTells addr thread page began (step.Won value found) turns = WonPush addr thread page value found turns
PushTells addr thread page began (step.Busy at word now) turns = (at ≡ addr) × AllFailed exchange_fails addr began word now turns
PushTells addr thread page began (step.Expired at word) turns = (at ≡ addr) × LostLease addr thread word turns
PushTells addr thread page began (step.Damaged at) turns = Unit {0}
PushTells addr thread page began (step.Act action mark) turns =
    (began + failed_tries exchange_fails addr turns ≤ 16) × GuardsStore addr thread action turns

-- a push whose first call was made, of a call of which so many tries have failed
pub record PushBegan (addr thread page began : ℕ) (p : Push) : Type 0 where
  pub lease : p.lease.addr ≡ addr
  pub bidder : p.bidder.thread ≡ thread
  pub page_is : p.page ≡ page
  pub tries : p.failed ≡ began
  pub stage : p.stage ≡ push.Bidding Looking

abbrev pub PushBegins : Type 0
PushBegins = (addr thread page began : ℕ) (p : Push) (heard : Heard) (now : ℕ) → IsFirstPush addr thread page began p → PushBegan addr thread page began (push_after p heard now)

pub record PushHistory (addr thread page began : ℕ) (p : Push) (told : List Told) : Type 0 where
  pub tells : PushTells addr thread page began (push_step (ran push_after p told)) (turns_of push_after push_step p told)
  pub short : IsShort exchange_fails addr (turns_of push_after push_step p told)

abbrev pub PushLaw : Type 0
PushLaw = (addr thread page began : ℕ) (p : Push) (told : List Told) → began < 16 → PushBegan addr thread page began p → PushHistory addr thread page began p told

abbrev pub PushHeld : Type 0
PushHeld = TellsHeld push_after push_step (λ m. push_held m.stage) (λ m. m.stage ≢ push.Begin)

abbrev pub PushActs : Type 0
PushActs = CountsActs push_after push_step push_made (λ m. m.stage ≢ push.Begin)

abbrev pub PushDamage : Type 0
PushDamage = TellsAllDamage push_after push_step (λ p. p.stage ≢ push.Begin)

-- A check tells what its load showed: the own word, or that the lease is the call's own no longer.
abbrev pub CheckTells : ℕ → ℕ → Mark → LeaseStep → List Turn → Type 0
CheckTells addr own look (step.Won value found) turns = (value ≡ 0) × Kept addr own look found turns
CheckTells addr own look (step.Busy at word now) turns = ⊥
CheckTells addr own look (step.Expired at word) turns = (at ≡ addr) × Lost addr own look word turns
CheckTells addr own look (step.Damaged at) turns = Unit {0}
CheckTells addr own look (step.Act action mark) turns = turns ≡ []

abbrev pub CheckLaw : Type 0
CheckLaw = (addr own : ℕ) (look : Mark) (heard : Heard) (now : ℕ) (told : List Told)
    → CheckTells addr own look (check_step (ran check_after (check_after (first_check addr own look) heard now) told))
    (turns_of check_after check_step (check_after (first_check addr own look) heard now) told)

abbrev pub CheckDamage : Type 0
CheckDamage = TellsAllDamage check_after check_step (λ c. c.stage ≢ check.Begin)

-- The words beside a lease stand where the layout has them: beside a directory's, a control page's and a pool's.
pub record BesideLease (page pool : ℕ) : Type 0 where
  pub dir_noted : noted_word (layout.dir_lease page) ≡ layout.dir_at page
  pub dir_counter : counter_word (layout.dir_lease page) ≡ layout.dir_counter page
  pub control_noted : noted_word (layout.control_lease page) ≡ layout.control_at page
  pub control_counter : counter_word (layout.control_lease page) ≡ layout.control_counter page
  pub head : head_word (layout.pool_lease page pool) ≡ layout.pool_head page pool

abbrev pub BesideLaw : Type 0
BesideLaw = (page pool : ℕ) → BesideLease page pool
