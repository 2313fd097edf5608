-- How a page is taken out of a pool, by what each stage hears: the head leads to the page, and its first word to the next one, to
-- which the head leads from then on.
use Rattle.std.specs.Prelude.{◌≡◌, ℕ, ◌+◌, ◌*◌, Option, Some, None, if◌then◌else◌, ◌==◌}
use Rattle.zo_lease.specs.declared.step.Heard.{Heard}
use Rattle.zo_lease.specs.declared.step.Heard.TheVariants as hears
use Rattle.zo_lease.specs.declared.step.LeaseStep.{LeaseStep}
use Rattle.zo_lease.specs.declared.step.End.{End}
use Rattle.zo_lease.specs.declared.step.End.TheVariants as end
use Rattle.zo_lease.specs.declared.bid.Bid.TheVariants.{Looking}
use Rattle.zo_lease.specs.declared.bid.Bidding.{Bidding}
use Rattle.zo_lease.specs.declared.bid.Bidding.TheVariants as bidding
use Rattle.zo_lease.specs.declared.bid.Holding.{Holding}
use Rattle.zo_lease.specs.declared.giving.Giving.TheVariants as giving
use Rattle.zo_lease.specs.declared.giving.Given.{Given}
use Rattle.zo_lease.specs.declared.giving.Given.TheVariants as given
use Rattle.zo_lease.specs.declared.pop.Pop.{Pop}
use Rattle.zo_lease.specs.declared.pop.Stage.{Stage}
use Rattle.zo_lease.specs.declared.pop.Stage.TheVariants as pop
use Rattle.zo_lease.specs.declared.pop.Work.{Work}
use Rattle.zo_lease.specs.declared.pop.Work.TheVariants as work
use Rattle.zo_lease.specs.declared.pop.Draw.{Draw}
use Rattle.zo_lease.specs.Words.{head_word, is_kept}
use Rattle.zo_lease.specs.Steps.{load, store, end_step}
use Rattle.zo_lease.specs.Bids.{bid_step, bid_after, is_last_try, bid_made}
use Rattle.zo_lease.specs.Gives.{giving_step, giving_after, pool_gift, giving_made}

-- it begins, after so many failed tries of this call on the lease
pub record IsFirstPop (addr thread failed : ℕ) (p : Pop) : Type 0 where
  pub lease : p.lease.addr ≡ addr
  pub bidder : p.bidder.thread ≡ thread
  pub tries : p.failed ≡ failed
  pub stage : p.stage ≡ pop.Begin

-- it has ended with the lease given back or never taken, or with the own word still there
abbrev pub over_free : End → Stage
over_free end = pop.Over end None

abbrev pub over_held : End → Holding → Stage
over_held end holding = pop.Over end (Some holding.own)

abbrev pub pop_held : Stage → Option ℕ
pop_held (pop.Working work holding) = Some holding.own
pop_held (pop.Over end held) = held
pop_held stage = None

abbrev pub pop_stage : Pop → Stage → Pop
pop_stage p stage = record { lease = p.lease; bidder = p.bidder; failed = p.failed; stage = stage }

abbrev pub pop_work : Pop → Work → Holding → Pop
pop_work p work holding = pop_stage p (pop.Working work holding)

-- the page is drawn, or there is none: the lease is given back
abbrev pub pop_give : Pop → ℕ → Holding → Pop
pop_give p page holding = pop_work p (work.Giving giving.Exchanging page) holding

-- a try for the lease failed: the next one begins, unless it was the last
abbrev pub pop_failed : Pop → ℕ → ℕ → Pop
pop_failed p word now =
    if is_last_try p.failed then pop_stage p (over_free (end.Busy p.lease.addr word now))
    else record { lease = p.lease; bidder = p.bidder; failed = p.failed + 1; stage = pop.Bidding Looking }

abbrev pub pop_bid : Pop → Bidding → ℕ → ℕ → Pop
pop_bid p (bidding.On bid) word now = pop_stage p (pop.Bidding bid)
pop_bid p (bidding.Won holding) word now = pop_work p work.Head holding
pop_bid p bidding.Failed word now = pop_failed p word now

-- the head is stored where the lease is the call's own still
abbrev pub pop_check : Pop → Draw → Holding → ℕ → ℕ → Pop
pop_check p draw holding word now =
    if is_kept holding.own word now then pop_work p (work.Store draw) holding
    else pop_stage p (over_held (end.Expired p.lease.addr word) holding)

-- a try to give it back failed: the next one begins, unless it was the last
abbrev pub pop_kept : Pop → ℕ → Holding → ℕ → ℕ → Pop
pop_kept p page holding word now =
    if is_last_try p.failed then pop_stage p (over_held (end.Busy p.lease.addr word now) holding)
    else record { lease = p.lease; bidder = p.bidder; failed = p.failed + 1; stage = pop.Working (work.Giving giving.Exchanging page) holding }

-- the lease showed this word last
abbrev pub pop_given : Pop → Given → ℕ → Holding → ℕ → Pop
pop_given p (given.On giving) page holding word = pop_work p (work.Giving giving page) holding
pop_given p given.Done page holding word = pop_stage p (over_free (end.Won page holding.found))
pop_given p given.Lost page holding word = pop_stage p (over_held (end.Expired p.lease.addr word) holding)
pop_given p (given.Failed shown tick) page holding word = pop_kept p page holding shown tick

-- the address of what is given, where it has one
abbrev pub work_place : ℕ → Work → ℕ
work_place lease work.Head = head_word lease
work_place lease (work.Next page) = page
work_place lease (work.Check draw) = lease
work_place lease (work.Store draw) = head_word lease
work_place lease (work.Giving giving page) = lease

abbrev pub pop_damaged : Pop → Work → Holding → Pop
pop_damaged p work holding = pop_stage p (over_held (end.Damaged (work_place p.lease.addr work)) holding)

-- a word is shown under the lease
abbrev pub pop_shown : Pop → Work → Holding → ℕ → ℕ → Pop
pop_shown p work.Head holding page now = if page == 0 then pop_give p 0 holding else pop_work p (work.Next page) holding
pop_shown p (work.Next page) holding next now = pop_work p (work.Check (record { page = page; next = next })) holding
pop_shown p (work.Check draw) holding word now = pop_check p draw holding word now
pop_shown p (work.Store draw) holding word now = pop_give p draw.page holding
pop_shown p (work.Giving giving page) holding word now = pop_given p (giving_after holding.own giving word now) page holding word

-- a store is made
abbrev pub pop_done : Pop → Work → Holding → Pop
pop_done p (work.Store draw) holding = pop_give p draw.page holding
pop_done p work holding = pop_damaged p work holding

abbrev pub pop_heard : Pop → Work → Holding → Heard → ℕ → Pop
pop_heard p work holding (hears.Word word) now = pop_shown p work holding word now
pop_heard p work holding hears.Done now = pop_done p work holding
pop_heard p work holding hears.Refused now = pop_damaged p work holding

abbrev pub pop_at : Pop → Stage → Heard → ℕ → Pop
pop_at p pop.Begin heard now = pop_stage p (pop.Bidding Looking)
pop_at p (pop.Bidding bid) (hears.Word word) now = pop_bid p (bid_after p.bidder.thread bid word now) word now
pop_at p (pop.Bidding bid) heard now = pop_stage p (over_free (end.Damaged p.lease.addr))
pop_at p (pop.Working work holding) heard now = pop_heard p work holding heard now
pop_at p (pop.Over end held) heard now = p

abbrev pub pop_after : Pop → Heard → ℕ → Pop
pop_after p heard now = pop_at p p.stage heard now

abbrev pub work_step : ℕ → Holding → Work → LeaseStep
work_step lease holding work.Head = load (head_word lease)
work_step lease holding (work.Next page) = load page
work_step lease holding (work.Check draw) = load lease
work_step lease holding (work.Store draw) = store (head_word lease) draw.next
work_step lease holding (work.Giving giving page) = giving_step (pool_gift lease holding) giving

abbrev pub pop_gives : ℕ → Stage → LeaseStep
pop_gives lease pop.Begin = bid_step lease Looking
pop_gives lease (pop.Bidding bid) = bid_step lease bid
pop_gives lease (pop.Working work holding) = work_step lease holding work
pop_gives lease (pop.Over end held) = end_step end

abbrev pub pop_step : Pop → LeaseStep
pop_step p = pop_gives p.lease.addr p.stage

-- how many actions were made at most: 4 for each failed try, and at most 9
abbrev pub work_made : Work → ℕ
work_made work.Head = 3
work_made (work.Next page) = 4
work_made (work.Check draw) = 5
work_made (work.Store draw) = 6
work_made (work.Giving giving page) = 7 + giving_made giving

abbrev pub pop_made_at : Stage → ℕ
pop_made_at pop.Begin = 0
pop_made_at (pop.Bidding bid) = bid_made bid
pop_made_at (pop.Working work holding) = work_made work
pop_made_at (pop.Over end held) = 9

abbrev pub pop_made : Pop → ℕ
pop_made p = 4 * p.failed + pop_made_at p.stage
