-- How a page is put into a pool, by what each stage hears: its first word is made to lead to the page to which the head leads, and
-- then the head to it. The lease is looked at before each of the two stores.
use Rattle.std.specs.Prelude.{◌≡◌, ℕ, ◌+◌, ◌*◌, Option, Some, None, if◌then◌else◌}
use Rattle.zo_lease.specs.declared.step.Heard.{Heard}
use Rattle.zo_lease.specs.declared.step.Heard.TheVariants as hears
use Rattle.zo_lease.specs.declared.step.LeaseStep.{LeaseStep}
use Rattle.zo_lease.specs.declared.step.End.{End}
use Rattle.zo_lease.specs.declared.step.End.TheVariants as end
use Rattle.zo_lease.specs.declared.bid.Bid.TheVariants.{Looking}
use Rattle.zo_lease.specs.declared.bid.Bidding.{Bidding}
use Rattle.zo_lease.specs.declared.bid.Bidding.TheVariants as bidding
use Rattle.zo_lease.specs.declared.bid.Holding.{Holding}
use Rattle.zo_lease.specs.declared.giving.Giving.TheVariants as giving
use Rattle.zo_lease.specs.declared.giving.Given.{Given}
use Rattle.zo_lease.specs.declared.giving.Given.TheVariants as given
use Rattle.zo_lease.specs.declared.push.Push.{Push}
use Rattle.zo_lease.specs.declared.push.Stage.{Stage}
use Rattle.zo_lease.specs.declared.push.Stage.TheVariants as push
use Rattle.zo_lease.specs.declared.push.Work.{Work}
use Rattle.zo_lease.specs.declared.push.Work.TheVariants as work
use Rattle.zo_layout.specs.Layout.{next_free_page}
use Rattle.zo_lease.specs.Words.{head_word, is_kept}
use Rattle.zo_lease.specs.Steps.{load, store, end_step}
use Rattle.zo_lease.specs.Bids.{bid_step, bid_after, is_last_try, bid_made}
use Rattle.zo_lease.specs.Gives.{giving_step, giving_after, pool_gift, giving_made}

-- it begins, after so many failed tries of this call on the lease
pub record IsFirstPush (addr thread page failed : ℕ) (p : Push) : Type 0 where
  pub lease : p.lease.addr ≡ addr
  pub bidder : p.bidder.thread ≡ thread
  pub page_is : p.page ≡ page
  pub tries : p.failed ≡ failed
  pub stage : p.stage ≡ push.Begin

-- it has ended with the lease given back or never taken, or with the own word still there
abbrev pub over_free : End → Stage
over_free end = push.Over end None

abbrev pub over_held : End → Holding → Stage
over_held end holding = push.Over end (Some holding.own)

abbrev pub push_held : Stage → Option ℕ
push_held (push.Working work holding) = Some holding.own
push_held (push.Over end held) = held
push_held stage = None

abbrev pub push_stage : Push → Stage → Push
push_stage p stage = record { lease = p.lease; bidder = p.bidder; page = p.page; failed = p.failed; stage = stage }

abbrev pub push_work : Push → Work → Holding → Push
push_work p work holding = push_stage p (push.Working work holding)

-- a try for the lease failed: the next one begins, unless it was the last
abbrev pub push_failed : Push → ℕ → ℕ → Push
push_failed p word now =
    if is_last_try p.failed then push_stage p (over_free (end.Busy p.lease.addr word now))
    else record { lease = p.lease; bidder = p.bidder; page = p.page; failed = p.failed + 1; stage = push.Bidding Looking }

abbrev pub push_bid : Push → Bidding → ℕ → ℕ → Push
push_bid p (bidding.On bid) word now = push_stage p (push.Bidding bid)
push_bid p (bidding.Won holding) word now = push_work p work.Head holding
push_bid p bidding.Failed word now = push_failed p word now

-- the store is made where the lease is the call's own still
abbrev pub push_check : Push → Work → Holding → ℕ → ℕ → Push
push_check p store holding word now =
    if is_kept holding.own word now then push_work p store holding
    else push_stage p (over_held (end.Expired p.lease.addr word) holding)

-- a try to give the lease back failed: the next one begins, unless it was the last
abbrev pub push_kept : Push → Holding → ℕ → ℕ → Push
push_kept p holding word now =
    if is_last_try p.failed then push_stage p (over_held (end.Busy p.lease.addr word now) holding)
    else record { lease = p.lease; bidder = p.bidder; page = p.page; failed = p.failed + 1; stage = push.Working (work.Giving giving.Exchanging) holding }

-- the lease showed this word last
abbrev pub push_given : Push → Given → Holding → ℕ → Push
push_given p (given.On giving) holding word = push_work p (work.Giving giving) holding
push_given p given.Done holding word = push_stage p (over_free (end.Won 0 holding.found))
push_given p given.Lost holding word = push_stage p (over_held (end.Expired p.lease.addr word) holding)
push_given p (given.Failed shown tick) holding word = push_kept p holding shown tick

-- the address of what is given
abbrev pub work_place : ℕ → ℕ → Work → ℕ
work_place lease page work.Head = head_word lease
work_place lease page (work.StorePage first) = next_free_page page
work_place lease page work.StoreHead = head_word lease
work_place lease page work = lease

abbrev pub push_damaged : Push → Work → Holding → Push
push_damaged p work holding = push_stage p (over_held (end.Damaged (work_place p.lease.addr p.page work)) holding)

-- a word is shown under the lease
abbrev pub push_shown : Push → Work → Holding → ℕ → ℕ → Push
push_shown p work.Head holding first now = push_work p (work.CheckPage first) holding
push_shown p (work.CheckPage first) holding word now = push_check p (work.StorePage first) holding word now
push_shown p (work.StorePage first) holding word now = push_work p work.CheckHead holding
push_shown p work.CheckHead holding word now = push_check p work.StoreHead holding word now
push_shown p work.StoreHead holding word now = push_work p (work.Giving giving.Exchanging) holding
push_shown p (work.Giving giving) holding word now = push_given p (giving_after holding.own giving word now) holding word

-- a store is made
abbrev pub push_done : Push → Work → Holding → Push
push_done p (work.StorePage first) holding = push_work p work.CheckHead holding
push_done p work.StoreHead holding = push_work p (work.Giving giving.Exchanging) holding
push_done p work holding = push_damaged p work holding

abbrev pub push_heard : Push → Work → Holding → Heard → ℕ → Push
push_heard p work holding (hears.Word word) now = push_shown p work holding word now
push_heard p work holding hears.Done now = push_done p work holding
push_heard p work holding hears.Refused now = push_damaged p work holding

abbrev pub push_at : Push → Stage → Heard → ℕ → Push
push_at p push.Begin heard now = push_stage p (push.Bidding Looking)
push_at p (push.Bidding bid) (hears.Word word) now = push_bid p (bid_after p.bidder.thread bid word now) word now
push_at p (push.Bidding bid) heard now = push_stage p (over_free (end.Damaged p.lease.addr))
push_at p (push.Working work holding) heard now = push_heard p work holding heard now
push_at p (push.Over end held) heard now = p

abbrev pub push_after : Push → Heard → ℕ → Push
push_after p heard now = push_at p p.stage heard now

abbrev pub work_step : ℕ → ℕ → Holding → Work → LeaseStep
work_step lease page holding work.Head = load (head_word lease)
work_step lease page holding (work.StorePage first) = store (next_free_page page) first
work_step lease page holding work.StoreHead = store (head_word lease) page
work_step lease page holding (work.Giving giving) = giving_step (pool_gift lease holding) giving
work_step lease page holding work = load lease

abbrev pub push_gives : ℕ → ℕ → Stage → LeaseStep
push_gives lease page push.Begin = bid_step lease Looking
push_gives lease page (push.Bidding bid) = bid_step lease bid
push_gives lease page (push.Working work holding) = work_step lease page holding work
push_gives lease page (push.Over end held) = end_step end

abbrev pub push_step : Push → LeaseStep
push_step p = push_gives p.lease.addr p.page p.stage

-- how many actions were made at most: 4 for each failed try, and at most 10
abbrev pub work_made : Work → ℕ
work_made work.Head = 3
work_made (work.CheckPage first) = 4
work_made (work.StorePage first) = 5
work_made work.CheckHead = 6
work_made work.StoreHead = 7
work_made (work.Giving giving) = 8 + giving_made giving

abbrev pub push_made_at : Stage → ℕ
push_made_at push.Begin = 0
push_made_at (push.Bidding bid) = bid_made bid
push_made_at (push.Working work holding) = work_made work
push_made_at (push.Over end held) = 10

abbrev pub push_made : Push → ℕ
push_made p = 4 * p.failed + push_made_at p.stage
