-- Giving a lease back: an exchange from the own word. Where it finds another, the lease is looked at, and is lost unless it is the
-- call's own after all.
use Rattle.std.specs.Prelude.{ℕ, ◌+◌, ◌*◌, if◌then◌else◌, ◌==◌}
use Rattle.tr_types.specs.declared.action.Action.TheVariants as action
use Rattle.tr_types.specs.declared.entry.Mark.{Mark}
use Rattle.tr_types.specs.declared.entry.Mark.TheVariants as mark
use Rattle.zo_lease.specs.declared.step.Heard.{Heard}
use Rattle.zo_lease.specs.declared.step.Heard.TheVariants as hears
use Rattle.zo_lease.specs.declared.step.LeaseStep.{LeaseStep}
use Rattle.zo_lease.specs.declared.step.LeaseStep.TheVariants as step
use Rattle.zo_lease.specs.declared.step.End.TheVariants as end
use Rattle.zo_lease.specs.declared.giving.Gift.{Gift}
use Rattle.zo_lease.specs.declared.giving.Giving.{Giving}
use Rattle.zo_lease.specs.declared.giving.Giving.TheVariants as giving
use Rattle.zo_lease.specs.declared.giving.Given.{Given}
use Rattle.zo_lease.specs.declared.giving.Given.TheVariants as given
use Rattle.zo_lease.specs.declared.give_back.GiveBack.{GiveBack}
use Rattle.zo_lease.specs.declared.give_back.Stage.{Stage}
use Rattle.zo_lease.specs.declared.give_back.Stage.TheVariants as give
use Rattle.zo_lease.specs.declared.bid.Holding.{Holding}
use Rattle.zo_lease.specs.Words.{is_kept}
use Rattle.zo_lease.specs.Steps.{end_step}
use Rattle.zo_lease.specs.Bids.{is_last_try}

-- what the call gives back of a pool
abbrev pub pool_gift : ℕ → Holding → Gift
pool_gift lease holding = record { addr = lease; own = holding.own; put = 0; look = mark.Plain }

abbrev pub giving_step : Gift → Giving → LeaseStep
giving_step g giving.Exchanging = step.Act (action.Cas g.addr g.own g.put) mark.Plain
giving_step g (giving.Looking word now) = step.Act (action.Load g.addr) g.look

abbrev pub giving_after : ℕ → Giving → ℕ → ℕ → Given
giving_after own giving.Exchanging word now = if word == own then given.Done else given.On (giving.Looking word now)
giving_after own (giving.Looking shown tick) word now = if is_kept own word now then given.Failed shown tick else given.Lost

abbrev pub first_give : ℕ → ℕ → ℕ → Mark → GiveBack
first_give addr own put look =
    record { gift = record { addr = addr; own = own; put = put; look = look }; failed = 0; stage = give.Begin }

abbrev pub give_stage : GiveBack → Stage → GiveBack
give_stage g stage = record { gift = g.gift; failed = g.failed; stage = stage }

-- a try failed: the next one begins, unless it was the last
abbrev pub give_failed : GiveBack → ℕ → ℕ → GiveBack
give_failed g word now =
    if is_last_try g.failed then give_stage g (give.Over (end.Busy g.gift.addr word now))
    else record { gift = g.gift; failed = g.failed + 1; stage = give.Going giving.Exchanging }

-- the lease showed this word last
abbrev pub give_given : GiveBack → Given → ℕ → GiveBack
give_given g (given.On going) word = give_stage g (give.Going going)
give_given g given.Done word = give_stage g (give.Over (end.Won 0 g.gift.own))
give_given g given.Lost word = give_stage g (give.Over (end.Expired g.gift.addr word))
give_given g (given.Failed shown tick) word = give_failed g shown tick

abbrev pub give_at : GiveBack → Stage → Heard → ℕ → GiveBack
give_at g give.Begin heard now = give_stage g (give.Going giving.Exchanging)
give_at g (give.Going going) (hears.Word word) now = give_given g (giving_after g.gift.own going word now) word
give_at g (give.Going going) heard now = give_stage g (give.Over (end.Damaged g.gift.addr))
give_at g (give.Over end) heard now = g

abbrev pub give_after : GiveBack → Heard → ℕ → GiveBack
give_after g heard now = give_at g g.stage heard now

abbrev pub give_gives : Gift → Stage → LeaseStep
give_gives g give.Begin = giving_step g giving.Exchanging
give_gives g (give.Going going) = giving_step g going
give_gives g (give.Over end) = end_step end

abbrev pub give_step : GiveBack → LeaseStep
give_step g = give_gives g.gift g.stage

-- how many actions were made at most: 4 for each failed try, and at most 2
abbrev pub giving_made : Giving → ℕ
giving_made giving.Exchanging = 0
giving_made (giving.Looking word now) = 1

abbrev pub give_made_at : Stage → ℕ
give_made_at give.Begin = 0
give_made_at (give.Going going) = giving_made going
give_made_at (give.Over end) = 2

abbrev pub give_made : GiveBack → ℕ
give_made g = 4 * g.failed + give_made_at g.stage
