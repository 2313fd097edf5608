-- A pop, a push and a give-back stay on the lease with which they began.
use Rattle.std.proofs.Common.{◌≡◌, ℕ, Bool, true, false, refl}
use Rattle.std.specs.Prelude.{if◌then◌else◌, ◌==◌}
use Rattle.zo_lease.specs.declared.step.Heard.{Heard}
use Rattle.zo_lease.specs.declared.step.Heard.TheVariants as hears
use Rattle.zo_lease.specs.declared.bid.Bidding.{Bidding}
use Rattle.zo_lease.specs.declared.bid.Bidding.TheVariants as bidding
use Rattle.zo_lease.specs.declared.bid.Holding.{Holding}
use Rattle.zo_lease.specs.declared.giving.Given.{Given}
use Rattle.zo_lease.specs.declared.giving.Given.TheVariants as given
use Rattle.zo_lease.specs.declared.pop.Pop.{Pop}
use Rattle.zo_lease.specs.declared.pop.Stage.{Stage as PopStage}
use Rattle.zo_lease.specs.declared.pop.Stage.TheVariants as pop
use Rattle.zo_lease.specs.declared.pop.Work.{Work as PopWork}
use Rattle.zo_lease.specs.declared.pop.Work.TheVariants as popping
use Rattle.zo_lease.specs.declared.push.Push.{Push}
use Rattle.zo_lease.specs.declared.push.Stage.{Stage as PushStage}
use Rattle.zo_lease.specs.declared.push.Stage.TheVariants as push
use Rattle.zo_lease.specs.declared.push.Work.{Work as PushWork}
use Rattle.zo_lease.specs.declared.push.Work.TheVariants as pushing
use Rattle.zo_lease.specs.declared.give_back.GiveBack.{GiveBack}
use Rattle.zo_lease.specs.declared.give_back.Stage.{Stage as GiveStage}
use Rattle.zo_lease.specs.declared.give_back.Stage.TheVariants as give
use Rattle.zo_lease.specs.Words.{is_kept}
use Rattle.zo_lease.specs.Bids.{bid_after, is_last_try}
use Rattle.zo_lease.specs.Gives.{give_after, give_at, give_given, giving_after}
use Rattle.zo_lease.specs.Pops.{pop_after, pop_at, pop_bid, pop_given, pop_shown, pop_done}
use Rattle.zo_lease.specs.Pushes.{push_after, push_at, push_bid, push_given, push_shown, push_done}

either : {A : Type 0} (K : A → Type 0) (b : Bool) (x y : A) → K x → K y → K (if b then x else y)
either K true x y kx ky = kx
either K false x y kx ky = ky

pub record SamePop (p new : Pop) : Type 0 where
  pub lease : new.lease ≡ p.lease
  pub bidder : new.bidder ≡ p.bidder

pop_bids : (p : Pop) (b : Bidding) (word now : ℕ) → SamePop p (pop_bid p b word now)
pop_bids p (bidding.On bid) word now = record { lease = refl; bidder = refl }
pop_bids p (bidding.Won h) word now = record { lease = refl; bidder = refl }
pop_bids p bidding.Failed word now = either (SamePop p) (is_last_try p.failed) _ _ (record { lease = refl; bidder = refl }) (record { lease = refl; bidder = refl })

pop_gives_back : (p : Pop) (g : Given) (page word : ℕ) (h : Holding) → SamePop p (pop_given p g page h word)
pop_gives_back p (given.On going) page word h = record { lease = refl; bidder = refl }
pop_gives_back p given.Done page word h = record { lease = refl; bidder = refl }
pop_gives_back p given.Lost page word h = record { lease = refl; bidder = refl }
pop_gives_back p (given.Failed shown tick) page word h = either (SamePop p) (is_last_try p.failed) _ _ (record { lease = refl; bidder = refl }) (record { lease = refl; bidder = refl })

pop_sees : (p : Pop) (w : PopWork) (h : Holding) (word now : ℕ) → SamePop p (pop_shown p w h word now)
pop_sees p popping.Head h word now = either (SamePop p) (word == 0) _ _ (record { lease = refl; bidder = refl }) (record { lease = refl; bidder = refl })
pop_sees p (popping.Next page) h word now = record { lease = refl; bidder = refl }
pop_sees p (popping.Check draw) h word now = either (SamePop p) (is_kept h.own word now) _ _ (record { lease = refl; bidder = refl }) (record { lease = refl; bidder = refl })
pop_sees p (popping.Store draw) h word now = record { lease = refl; bidder = refl }
pop_sees p (popping.Giving going page) h word now = pop_gives_back p (giving_after h.own going word now) page word h

pop_stores : (p : Pop) (w : PopWork) (h : Holding) → SamePop p (pop_done p w h)
pop_stores p popping.Head h = record { lease = refl; bidder = refl }
pop_stores p (popping.Next page) h = record { lease = refl; bidder = refl }
pop_stores p (popping.Check draw) h = record { lease = refl; bidder = refl }
pop_stores p (popping.Store draw) h = record { lease = refl; bidder = refl }
pop_stores p (popping.Giving going page) h = record { lease = refl; bidder = refl }

pop_goes : (p : Pop) (s : PopStage) (heard : Heard) (now : ℕ) → SamePop p (pop_at p s heard now)
pop_goes p pop.Begin heard now = record { lease = refl; bidder = refl }
pop_goes p (pop.Bidding bid) (hears.Word word) now = pop_bids p (bid_after p.bidder.thread bid word now) word now
pop_goes p (pop.Bidding bid) hears.Done now = record { lease = refl; bidder = refl }
pop_goes p (pop.Bidding bid) hears.Refused now = record { lease = refl; bidder = refl }
pop_goes p (pop.Working w h) (hears.Word word) now = pop_sees p w h word now
pop_goes p (pop.Working w h) hears.Done now = pop_stores p w h
pop_goes p (pop.Working w h) hears.Refused now = record { lease = refl; bidder = refl }
pop_goes p (pop.Over e held) heard now = record { lease = refl; bidder = refl }

pub pop_stays : (p : Pop) (heard : Heard) (now : ℕ) → SamePop p (pop_after p heard now)
pop_stays p heard now = pop_goes p p.stage heard now

pub record SamePush (p new : Push) : Type 0 where
  pub lease : new.lease ≡ p.lease
  pub bidder : new.bidder ≡ p.bidder

push_bids : (p : Push) (b : Bidding) (word now : ℕ) → SamePush p (push_bid p b word now)
push_bids p (bidding.On bid) word now = record { lease = refl; bidder = refl }
push_bids p (bidding.Won h) word now = record { lease = refl; bidder = refl }
push_bids p bidding.Failed word now = either (SamePush p) (is_last_try p.failed) _ _ (record { lease = refl; bidder = refl }) (record { lease = refl; bidder = refl })

push_gives_back : (p : Push) (g : Given) (word : ℕ) (h : Holding) → SamePush p (push_given p g h word)
push_gives_back p (given.On going) word h = record { lease = refl; bidder = refl }
push_gives_back p given.Done word h = record { lease = refl; bidder = refl }
push_gives_back p given.Lost word h = record { lease = refl; bidder = refl }
push_gives_back p (given.Failed shown tick) word h = either (SamePush p) (is_last_try p.failed) _ _ (record { lease = refl; bidder = refl }) (record { lease = refl; bidder = refl })

push_sees : (p : Push) (w : PushWork) (h : Holding) (word now : ℕ) → SamePush p (push_shown p w h word now)
push_sees p pushing.Head h word now = record { lease = refl; bidder = refl }
push_sees p (pushing.CheckPage first) h word now = either (SamePush p) (is_kept h.own word now) _ _ (record { lease = refl; bidder = refl }) (record { lease = refl; bidder = refl })
push_sees p (pushing.StorePage first) h word now = record { lease = refl; bidder = refl }
push_sees p pushing.CheckHead h word now = either (SamePush p) (is_kept h.own word now) _ _ (record { lease = refl; bidder = refl }) (record { lease = refl; bidder = refl })
push_sees p pushing.StoreHead h word now = record { lease = refl; bidder = refl }
push_sees p (pushing.Giving going) h word now = push_gives_back p (giving_after h.own going word now) word h

push_stores : (p : Push) (w : PushWork) (h : Holding) → SamePush p (push_done p w h)
push_stores p pushing.Head h = record { lease = refl; bidder = refl }
push_stores p (pushing.CheckPage first) h = record { lease = refl; bidder = refl }
push_stores p (pushing.StorePage first) h = record { lease = refl; bidder = refl }
push_stores p pushing.CheckHead h = record { lease = refl; bidder = refl }
push_stores p pushing.StoreHead h = record { lease = refl; bidder = refl }
push_stores p (pushing.Giving going) h = record { lease = refl; bidder = refl }

push_goes : (p : Push) (s : PushStage) (heard : Heard) (now : ℕ) → SamePush p (push_at p s heard now)
push_goes p push.Begin heard now = record { lease = refl; bidder = refl }
push_goes p (push.Bidding bid) (hears.Word word) now = push_bids p (bid_after p.bidder.thread bid word now) word now
push_goes p (push.Bidding bid) hears.Done now = record { lease = refl; bidder = refl }
push_goes p (push.Bidding bid) hears.Refused now = record { lease = refl; bidder = refl }
push_goes p (push.Working w h) (hears.Word word) now = push_sees p w h word now
push_goes p (push.Working w h) hears.Done now = push_stores p w h
push_goes p (push.Working w h) hears.Refused now = record { lease = refl; bidder = refl }
push_goes p (push.Over e held) heard now = record { lease = refl; bidder = refl }

pub push_stays : (p : Push) (heard : Heard) (now : ℕ) → SamePush p (push_after p heard now)
push_stays p heard now = push_goes p p.stage heard now

give_ends : (g : GiveBack) (n : Given) (word : ℕ) → (give_given g n word).gift ≡ g.gift
give_ends g (given.On going) word = refl
give_ends g given.Done word = refl
give_ends g given.Lost word = refl
give_ends g (given.Failed shown tick) word = either (λ (x : GiveBack). x.gift ≡ g.gift) (is_last_try g.failed) _ _ refl refl

give_goes : (g : GiveBack) (s : GiveStage) (heard : Heard) (now : ℕ) → (give_at g s heard now).gift ≡ g.gift
give_goes g give.Begin heard now = refl
give_goes g (give.Going going) (hears.Word word) now = give_ends g (giving_after g.gift.own going word now) word
give_goes g (give.Going going) hears.Done now = refl
give_goes g (give.Going going) hears.Refused now = refl
give_goes g (give.Over e) heard now = refl

pub give_stays : (g : GiveBack) (heard : Heard) (now : ℕ) → (give_after g heard now).gift ≡ g.gift
give_stays g heard now = give_goes g g.stage heard now
