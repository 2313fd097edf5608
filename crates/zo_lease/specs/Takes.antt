-- How a lease of a directory or of a control page is taken, by what each stage hears.
use Rattle.std.specs.Prelude.{◌≡◌, ℕ, ◌+◌, ◌*◌, Option, Some, None, if◌then◌else◌, ◌==◌}
use Rattle.zo_lease.specs.declared.step.Heard.{Heard}
use Rattle.zo_lease.specs.declared.step.Heard.TheVariants as hears
use Rattle.zo_lease.specs.declared.step.LeaseStep.{LeaseStep}
use Rattle.zo_lease.specs.declared.step.End.{End}
use Rattle.zo_lease.specs.declared.step.End.TheVariants as end
use Rattle.zo_lease.specs.declared.bid.Bid.TheVariants.{Looking}
use Rattle.zo_lease.specs.declared.bid.Bidding.{Bidding}
use Rattle.zo_lease.specs.declared.bid.Bidding.TheVariants as bidding
use Rattle.zo_lease.specs.declared.bid.Holding.{Holding}
use Rattle.zo_lease.specs.declared.mend.Mend.TheVariants as mend
use Rattle.zo_lease.specs.declared.mend.Mending.{Mending}
use Rattle.zo_lease.specs.declared.mend.Mending.TheVariants as mending
use Rattle.zo_lease.specs.declared.take.Take.{Take}
use Rattle.zo_lease.specs.declared.take.Stage.{Stage}
use Rattle.zo_lease.specs.declared.take.Stage.TheVariants as take
use Rattle.zo_lease.specs.Words.{noted_word}
use Rattle.zo_lease.specs.Steps.{end_step}
use Rattle.zo_lease.specs.Bids.{bid_step, bid_after, is_last_try, won_end, bid_made}
use Rattle.zo_lease.specs.Mends.{mend_step, mend_after, mend_made}

-- it begins, after so many failed tries of this call on the lease
pub record IsFirstTake (addr thread failed : ℕ) (t : Take) : Type 0 where
  pub lease : t.lease.addr ≡ addr
  pub bidder : t.bidder.thread ≡ thread
  pub tries : t.failed ≡ failed
  pub stage : t.stage ≡ take.Begin

-- it has ended without the lease, or with it: then the own word stands there
abbrev pub over_free : End → Stage
over_free end = take.Over end None

abbrev pub over_held : End → Holding → Stage
over_held end holding = take.Over end (Some holding.own)

abbrev pub take_held : Stage → Option ℕ
take_held (take.Mending mend holding) = Some holding.own
take_held (take.Over end held) = held
take_held stage = None

abbrev pub at_stage : Take → Stage → Take
at_stage t stage = record { lease = t.lease; bidder = t.bidder; failed = t.failed; stage = stage }

-- a try failed: the next one begins, unless it was the last
abbrev pub take_failed : Take → ℕ → ℕ → Take
take_failed t word now =
    if is_last_try t.failed then at_stage t (over_free (end.Busy t.lease.addr word now))
    else record { lease = t.lease; bidder = t.bidder; failed = t.failed + 1; stage = take.Bidding Looking }

-- a lease that was free is won at once, one that had expired is mended first
abbrev pub take_bid : Take → Bidding → ℕ → ℕ → Take
take_bid t (bidding.On bid) word now = at_stage t (take.Bidding bid)
take_bid t (bidding.Won holding) word now =
    at_stage t (if holding.found == 0 then over_held (won_end holding) holding else take.Mending mend.Noted holding)
take_bid t bidding.Failed word now = take_failed t word now

abbrev pub take_mend : Take → Mending → Holding → Take
take_mend t (mending.On mend) holding = at_stage t (take.Mending mend holding)
take_mend t mending.Done holding = at_stage t (over_held (won_end holding) holding)
take_mend t mending.Refused holding = at_stage t (over_held (end.Damaged (noted_word t.lease.addr)) holding)

abbrev pub take_at : Take → Stage → Heard → ℕ → Take
take_at t take.Begin heard now = at_stage t (take.Bidding Looking)
take_at t (take.Bidding bid) (hears.Word word) now = take_bid t (bid_after t.bidder.thread bid word now) word now
take_at t (take.Bidding bid) heard now = at_stage t (over_free (end.Damaged t.lease.addr))
take_at t (take.Mending mend holding) heard now = take_mend t (mend_after mend heard) holding
take_at t (take.Over end held) heard now = t

-- the machine after what it heard of the action that it gave last, which was made at this tick
abbrev pub take_after : Take → Heard → ℕ → Take
take_after t heard now = take_at t t.stage heard now

-- what a stage gives
abbrev pub take_gives : ℕ → Stage → LeaseStep
take_gives addr take.Begin = bid_step addr Looking
take_gives addr (take.Bidding bid) = bid_step addr bid
take_gives addr (take.Mending mend holding) = mend_step addr mend
take_gives addr (take.Over end held) = end_step end

abbrev pub take_step : Take → LeaseStep
take_step t = take_gives t.lease.addr t.stage

-- how many actions were made at most: 4 for each failed try, and at most 6
abbrev pub take_made_at : Stage → ℕ
take_made_at take.Begin = 0
take_made_at (take.Bidding bid) = bid_made bid
take_made_at (take.Mending mend holding) = 3 + mend_made mend
take_made_at (take.Over end held) = 6

abbrev pub take_made : Take → ℕ
take_made t = 4 * t.failed + take_made_at t.stage
