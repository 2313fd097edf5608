-- A try for a lease: a load, then an exchange from the word that it showed where that can be taken, and else from 0.
use Rattle.std.specs.Prelude.{ℕ, Bool, if◌then◌else◌, ◌==◌, ◌&&◌, nat_le}
use Rattle.tr_types.specs.declared.action.Action.TheVariants as action
use Rattle.tr_types.specs.declared.entry.Mark.TheVariants as mark
use Rattle.zo_lease.specs.declared.step.LeaseStep.{LeaseStep}
use Rattle.zo_lease.specs.declared.step.LeaseStep.TheVariants as step
use Rattle.zo_lease.specs.declared.bid.Bid.{Bid}
use Rattle.zo_lease.specs.declared.bid.Bid.TheVariants.{Looking, Offering}
use Rattle.zo_lease.specs.declared.bid.Bidding.{Bidding}
use Rattle.zo_lease.specs.declared.bid.Bidding.TheVariants as bidding
use Rattle.zo_lease.specs.declared.bid.Offer.{Offer}
use Rattle.zo_lease.specs.declared.bid.Holding.{Holding}
use Rattle.zo_lease.specs.declared.step.End.{End}
use Rattle.zo_lease.specs.declared.step.End.TheVariants as end
use Rattle.zo_lease.specs.Words.{own_word, is_open, is_expired}
use Rattle.zo_lease.specs.Steps.{load}

-- after so many failed tries the next one is the last: 16 are made
abbrev pub is_last_try : ℕ → Bool
is_last_try failed = nat_le 15 failed

-- what a thread offers where the lease showed this word at this tick
abbrev pub offer_after : ℕ → ℕ → ℕ → Offer
offer_after thread seen now = record { seen = seen; old = if is_open seen now then seen else 0; own = own_word thread now }

abbrev pub bid_step : ℕ → Bid → LeaseStep
bid_step addr Looking = load addr
bid_step addr (Offering offer) = step.Act (action.Cas addr offer.old offer.own) mark.Take

-- An exchange that finds the word that it asked for has taken the lease. One that finds the word that the try had seen, which has
-- expired meanwhile, is made anew from that word. Any other has failed.
abbrev pub bid_after : ℕ → Bid → ℕ → ℕ → Bidding
bid_after thread Looking word now = bidding.On (Offering (offer_after thread word now))
bid_after thread (Offering offer) word now =
    if word == offer.old then bidding.Won (record { own = offer.own; found = word })
    else (if (word == offer.seen) && is_expired word now then bidding.On (Offering (offer_after thread word now)) else bidding.Failed)

-- who has won a lease is told the own word and the one that was found
abbrev pub won_end : Holding → End
won_end holding = end.Won holding.own holding.found

-- how many actions a try has made at most: an offer from the word that was seen may be its second one
abbrev pub bid_made : Bid → ℕ
bid_made Looking = 0
bid_made (Offering offer) = if offer.old == offer.seen then 2 else 1
