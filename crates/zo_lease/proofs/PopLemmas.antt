-- A pop, step by step.
use Rattle.std.proofs.Common.{◌≡◌, ◌≢◌, ◌⊎◌, inl, inr, ℕ, ◌+◌, ◌<◌, ◌≤◌, Bool, true, false, List, [], ◌∷◌, ◌++◌, ap, sym, ◌∙◌, refl, subst, arith}
use Rattle.std.specs.Prelude.{Option, Some, not, if◌then◌else◌, ◌==◌}
use Rattle.std.proofs.lemmas.Bool.{eqb-true, eqb-false, leb-false, and_parts, not-true}
use Rattle.tr_types.specs.declared.action.Action.TheVariants as action
use Rattle.tr_types.specs.declared.entry.Mark.TheVariants as mark
use Rattle.zo_lease.specs.declared.place.LeaseAt.{LeaseAt}
use Rattle.zo_lease.specs.declared.place.Bidder.{Bidder}
use Rattle.zo_lease.specs.declared.step.Heard.{Heard}
use Rattle.zo_lease.specs.declared.step.Heard.TheVariants as hears
use Rattle.zo_lease.specs.declared.step.End.{End}
use Rattle.zo_lease.specs.declared.step.End.TheVariants as end
use Rattle.zo_lease.specs.declared.bid.Bid.TheVariants.{Looking, Offering}
use Rattle.zo_lease.specs.declared.bid.Bidding.{Bidding}
use Rattle.zo_lease.specs.declared.bid.Bidding.TheVariants as bidding
use Rattle.zo_lease.specs.declared.bid.Holding.{Holding}
use Rattle.zo_lease.specs.declared.giving.Giving.{Giving}
use Rattle.zo_lease.specs.declared.giving.Giving.TheVariants as giving
use Rattle.zo_lease.specs.declared.giving.Given.{Given}
use Rattle.zo_lease.specs.declared.giving.Given.TheVariants as given
use Rattle.zo_lease.specs.declared.pop.Pop.{Pop}
use Rattle.zo_lease.specs.declared.pop.Stage.{Stage}
use Rattle.zo_lease.specs.declared.pop.Stage.TheVariants as pop
use Rattle.zo_lease.specs.declared.pop.Work.{Work}
use Rattle.zo_lease.specs.declared.pop.Work.TheVariants as work
use Rattle.zo_lease.specs.declared.pop.Draw.{Draw}
use Rattle.zo_lease.specs.Words.{head_word, is_kept, is_expired}
use Rattle.zo_lease.specs.Steps.{end_step}
use Rattle.zo_lease.specs.Bids.{bid_step, bid_after, is_last_try}
use Rattle.zo_lease.specs.Gives.{giving_step, giving_after, pool_gift}
use Rattle.zo_lease.specs.Pops.{pop_after, pop_step, pop_at, pop_bid, pop_heard, pop_given, pop_give, pop_gives, pop_stage, pop_work, work_step, over_free, over_held}
use Rattle.zo_lease.specs.Turns.{Told, Turn, with_turn, ran, turns_of, stands_in, exchange_fails, failed_tries, AllFailed, Taken, Drawn, Drained, Guarded, is_refused, shows}
use Rattle.zo_lease.specs.Laws.{WonPage, LostLease, PopTells, PopBegan, PopHistory, IsShort}
use Rattle.zo_lease.proofs.Counts.{Counts, count_more, count_on, kept_on, short_of, short_on}
use Rattle.zo_lease.proofs.BidLemmas.{KnowsBid, KnowsBidding, bid_knows, offers_made}
use Rattle.zo_lease.proofs.TakeLemmas.{unheard}
use Rattle.zo_lease.proofs.GivingLemmas.{KnowsGiving, KnowsGiven, giving_knows}
use Rattle.zo_lease.proofs.GiveLemmas.{all_tried, giving_unheard}
use Rattle.zo_lease.proofs.PoolLemmas.{taken_stands, head_aside, look_stands, gives_first, lost_since}

-- the head led to a page
pub record Headed (addr thread page : ℕ) (h : Holding) (turns : List Turn) : Type 0 where
  pub some : page ≢ 0
  pub taken : List Turn
  pub won : Taken addr thread h.own h.found taken
  pub head_tick : ℕ
  pub is : turns ≡ shows (head_word addr) page head_tick ∷ taken

-- and the page to the next one
pub record Followed (addr thread : ℕ) (d : Draw) (h : Holding) (turns : List Turn) : Type 0 where
  pub some : d.page ≢ 0
  pub taken : List Turn
  pub won : Taken addr thread h.own h.found taken
  pub head_tick : ℕ
  pub next_tick : ℕ
  pub is : turns ≡ shows d.page d.next next_tick ∷ shows (head_word addr) d.page head_tick ∷ taken

-- and the lease was the call's own then
pub record Looked (addr thread : ℕ) (d : Draw) (h : Holding) (turns : List Turn) : Type 0 where
  pub earlier : List Turn
  pub followed : Followed addr thread d h earlier
  pub tick : ℕ
  pub is : turns ≡ shows addr h.own tick ∷ earlier
  pub kept : is_expired h.own tick ≡ false

-- the page is drawn, or there is none
pub record Gives (addr thread began failed page : ℕ) (h : Holding) (g : Giving) (turns : List Turn) : Type 0 where
  pub taken : List Turn
  pub won : Taken addr thread h.own h.found taken
  pub drawn : List Turn
  pub draws : Drawn addr h.own page taken drawn ⊎ Drained addr page taken drawn
  pub giving : KnowsGiving (pool_gift addr h) began failed 6 drawn g turns

abbrev pub KnowsWork : ℕ → ℕ → ℕ → ℕ → Holding → Work → List Turn → Type 0
KnowsWork addr thread began failed h work.Head turns = Counts exchange_fails addr began failed 3 turns × Taken addr thread h.own h.found turns
KnowsWork addr thread began failed h (work.Next page) turns = Counts exchange_fails addr began failed 4 turns × Headed addr thread page h turns
KnowsWork addr thread began failed h (work.Check d) turns = Counts exchange_fails addr began failed 5 turns × Followed addr thread d h turns
KnowsWork addr thread began failed h (work.Store d) turns = Counts exchange_fails addr began failed 6 turns × Looked addr thread d h turns
KnowsWork addr thread began failed h (work.Giving g page) turns = Gives addr thread began failed page h g turns

abbrev pub KnowsEnd : ℕ → ℕ → ℕ → End → List Turn → Type 0
KnowsEnd addr thread began (end.Won page found) turns = WonPage addr thread page found turns
KnowsEnd addr thread began (end.Busy at word now) turns = (at ≡ addr) × AllFailed exchange_fails addr began word now turns
KnowsEnd addr thread began (end.Expired at word) turns = (at ≡ addr) × LostLease addr thread word turns
KnowsEnd addr thread began (end.Damaged at) turns = Unit {0}

abbrev pub KnowsStage : ℕ → ℕ → ℕ → ℕ → Stage → List Turn → Type 0
KnowsStage addr thread began failed pop.Begin turns = ⊥
KnowsStage addr thread began failed (pop.Bidding bid) turns = (failed < 16) × KnowsBid addr thread began failed bid turns
KnowsStage addr thread began failed (pop.Working w h) turns = (failed < 16) × KnowsWork addr thread began failed h w turns
KnowsStage addr thread began failed (pop.Over e held) turns = IsShort exchange_fails addr turns × KnowsEnd addr thread began e turns

pub record KnowsAfter (began : ℕ) (p new : Pop) (turns : List Turn) : Type 0 where
  pub lease : new.lease ≡ p.lease
  pub bidder : new.bidder ≡ p.bidder
  pub stage : KnowsStage p.lease.addr p.bidder.thread began new.failed new.stage turns

bidden : (began word now : ℕ) (p : Pop) (b : Bidding) (turns : List Turn) → p.failed < 16
    → KnowsBidding p.lease.addr p.bidder.thread began p.failed b word now turns → KnowsAfter began p (pop_bid p b word now) turns
bidden began word now p (bidding.On bid) turns low k = record { lease = refl; bidder = refl; stage = (low, k) }
bidden began word now p (bidding.Won h) turns low k = record { lease = refl; bidder = refl; stage = (low, k) }
bidden began word now p bidding.Failed turns low (c, last) = by (is_last_try p.failed) refl
  where
    by : (b : Bool) → is_last_try p.failed ≡ b
        → KnowsAfter began p (if b then pop_stage p (over_free (end.Busy p.lease.addr word now))
        else record { lease = p.lease; bidder = p.bidder; failed = p.failed + 1; stage = pop.Bidding Looking }) turns
    by true e = record {
      lease = refl;
      bidder = refl;
      stage = (short_of exchange_fails p.lease.addr began (p.failed + 1) 0 turns (omega arith) c, (refl, all_tried p.lease.addr began p.failed 0 word now turns low e c last));
    }
    by false e = record { lease = refl; bidder = refl; stage = (let most : p.failed < 15 = leb-false 15 p.failed e in omega arith, c) }

-- what an action that isn't heeded leaves
unworked : (addr thread began failed : ℕ) (h : Holding) (w : Work) (heard : Heard) (now : ℕ) (turns : List Turn)
    → ((old new : ℕ) (seen : Option ℕ) → exchange_fails addr (action.Cas addr old new) heard now seen ≡ false)
    → KnowsWork addr thread began failed h w turns → IsShort exchange_fails addr (with_turn (work_step addr h w) heard now turns)
unworked addr thread began failed h work.Head heard now turns on (c, k) = short_on exchange_fails addr began failed 3 (action.Load (head_word addr)) mark.Plain heard now turns (omega arith) refl c
unworked addr thread began failed h (work.Next page) heard now turns on (c, k) = short_on exchange_fails addr began failed 4 (action.Load page) mark.Plain heard now turns (omega arith) refl c
unworked addr thread began failed h (work.Check d) heard now turns on (c, k) = short_on exchange_fails addr began failed 5 (action.Load addr) mark.Plain heard now turns (omega arith) refl c
unworked addr thread began failed h (work.Store d) heard now turns on (c, k) = short_on exchange_fails addr began failed 6 (action.Store (head_word addr) d.next) mark.Plain heard now turns (omega arith) refl c
unworked addr thread began failed h (work.Giving g page) heard now turns on k = giving_unheard (pool_gift addr h) began failed 6 k.drawn g heard now turns (omega arith) on k.giving

-- the head is loaded
headed : (began page now : ℕ) (p : Pop) (h : Holding) (turns : List Turn) → p.failed < 16
    → Counts exchange_fails p.lease.addr began p.failed 3 turns → Taken p.lease.addr p.bidder.thread h.own h.found turns
    → (b : Bool) → (page == 0) ≡ b
    → KnowsAfter began p (if b then pop_give p 0 h else pop_work p (work.Next page) h) (shows (head_word p.lease.addr) page now ∷ turns)
headed began page now p h turns low c won true e =
    let t = shows (head_word p.lease.addr) page now in
    let counts : Counts exchange_fails p.lease.addr began p.failed 4 (t ∷ turns) = count_on exchange_fails p.lease.addr began p.failed 3 t turns refl c in
    let stands : stands_in p.lease.addr (t ∷ turns) ≡ Some h.own = head_aside p.lease.addr page now turns ∙ taken_stands p.lease.addr p.bidder.thread h.own h.found turns won in
    record {
      lease = refl;
      bidder = refl;
      stage = (
        low,
        record {
          taken = turns;
          won = won;
          drawn = t ∷ turns;
          draws = inr (record { none = refl; tick = now; is = ap (λ (w : ℕ). shows (head_word p.lease.addr) w now ∷ turns) (eqb-true page 0 e) });
          giving = gives_first (pool_gift p.lease.addr h) began p.failed 6 (t ∷ turns) (count_more exchange_fails p.lease.addr began p.failed 4 7 (t ∷ turns) (omega arith) counts) stands;
        },
      );
    }
headed began page now p h turns low c won false e =
    let t = shows (head_word p.lease.addr) page now in
    record {
      lease = refl;
      bidder = refl;
      stage = (
        low,
        (count_on exchange_fails p.lease.addr began p.failed 3 t turns refl c, record { some = eqb-false page 0 e; taken = turns; won = won; head_tick = now; is = refl }),
      );
    }

followed : (began page next now : ℕ) (p : Pop) (h : Holding) (turns : List Turn) → p.failed < 16
    → Counts exchange_fails p.lease.addr began p.failed 4 turns → Headed p.lease.addr p.bidder.thread page h turns
    → KnowsAfter began p (pop_work p (work.Check (record { page = page; next = next })) h) (shows page next now ∷ turns)
followed began page next now p h turns low c k = record {
  lease = refl;
  bidder = refl;
  stage = (
    low,
    (
      count_on exchange_fails p.lease.addr began p.failed 4 (shows page next now) turns refl c,
      record { some = k.some; taken = k.taken; won = k.won; head_tick = k.head_tick; next_tick = now; is = ap (λ (ts : List Turn). shows page next now ∷ ts) k.is },
    ),
  );
}

-- the lease is looked at before the store
checked : (began word now : ℕ) (p : Pop) (d : Draw) (h : Holding) (turns : List Turn) → p.failed < 16
    → Counts exchange_fails p.lease.addr began p.failed 5 turns → Followed p.lease.addr p.bidder.thread d h turns
    → (b : Bool) → is_kept h.own word now ≡ b
    → KnowsAfter began p (if b then pop_work p (work.Store d) h else pop_stage p (over_held (end.Expired p.lease.addr word) h)) (shows p.lease.addr word now ∷ turns)
checked began word now p d h turns low c k true e =
    let parts = and_parts (word == h.own) (not (is_expired word now)) e in
    let own : word ≡ h.own = eqb-true word h.own parts.0 in
    record {
      lease = refl;
      bidder = refl;
      stage = (
        low,
        (
          count_on exchange_fails p.lease.addr began p.failed 5 (shows p.lease.addr word now) turns refl c,
          record {
            earlier = turns;
            followed = k;
            tick = now;
            is = ap (λ (w : ℕ). shows p.lease.addr w now ∷ turns) own;
            kept = ap (λ (w : ℕ). is_expired w now) (sym own) ∙ not-true (is_expired word now) parts.1;
          },
        ),
      );
    }
checked began word now p d h turns low c k false e =
    let t = shows p.lease.addr word now in
    record {
      lease = refl;
      bidder = refl;
      stage = (
        short_on exchange_fails p.lease.addr began p.failed 5 (action.Load p.lease.addr) mark.Plain (hears.Word word) now turns (omega arith) refl c,
        (
          refl,
          lost_since p.lease.addr p.bidder.thread h.own h.found word k.taken (shows d.page d.next k.next_tick ∷ shows (head_word p.lease.addr) d.page k.head_tick ∷ []) turns (t ∷ turns) k.won k.is
              (record { tries = t ∷ []; is = refl; only = (refl, tt) }) (record { tick = now; earlier = turns; is = refl; lost = e }),
        ),
      );
    }

-- the head is stored
stored : (began now : ℕ) (heard : Heard) (p : Pop) (d : Draw) (h : Holding) (turns : List Turn) → p.failed < 16
    → Counts exchange_fails p.lease.addr began p.failed 6 turns → Looked p.lease.addr p.bidder.thread d h turns
    → is_refused (action.Store (head_word p.lease.addr) d.next) heard ≡ false
    → KnowsAfter began p (pop_give p d.page h) (record { action = action.Store (head_word p.lease.addr) d.next; mark = mark.Plain; heard = heard; now = now } ∷ turns)
stored began now heard p d h turns low c k heeded =
    let t : Turn = record { action = action.Store (head_word p.lease.addr) d.next; mark = mark.Plain; heard = heard; now = now } in
    let stands : stands_in p.lease.addr (t ∷ turns) ≡ Some h.own = ap (λ (ts : List Turn). stands_in p.lease.addr ts) k.is ∙ look_stands p.lease.addr h.own k.tick k.earlier in
    record {
      lease = refl;
      bidder = refl;
      stage = (
        low,
        record {
          taken = k.followed.taken;
          won = k.followed.won;
          drawn = t ∷ turns;
          draws = inl (record {
            some = k.followed.some;
            next = d.next;
            head_tick = k.followed.head_tick;
            next_tick = k.followed.next_tick;
            look_tick = k.tick;
            heard = heard;
            tick = now;
            is = ap (λ (ts : List Turn). t ∷ ts) (k.is ∙ ap (λ (ts : List Turn). shows p.lease.addr h.own k.tick ∷ ts) k.followed.is);
            kept = k.kept;
            heeded = heeded;
          });
          giving = gives_first (pool_gift p.lease.addr h) began p.failed 6 (t ∷ turns) (count_on exchange_fails p.lease.addr began p.failed 6 t turns refl c) stands;
        },
      );
    }

-- what the drawing did since the lease was taken
since_of : (addr own page : ℕ) (taken drawn : List Turn) → Drawn addr own page taken drawn ⊎ Drained addr page taken drawn → (since : List Turn) × (drawn ≡ since ++ taken)
since_of addr own page taken drawn (inl k) = (
  record { action = action.Store (head_word addr) k.next; mark = mark.Plain; heard = k.heard; now = k.tick } ∷ shows addr own k.look_tick ∷ shows page k.next k.next_tick ∷ shows (head_word addr) page k.head_tick ∷ [],
  k.is,
)
since_of addr own page taken drawn (inr k) = (shows (head_word addr) 0 k.tick ∷ [], k.is)

-- the give-back goes on
gave : (began word : ℕ) (p : Pop) (page : ℕ) (h : Holding) (going : Giving) (turns later : List Turn) → p.failed < 16
    → (k : Gives p.lease.addr p.bidder.thread began p.failed page h going turns) → (x : Given)
    → KnowsGiven (pool_gift p.lease.addr h) began p.failed 6 k.drawn x word later → KnowsAfter began p (pop_given p x page h word) later
gave began word p page h going turns later low k (given.On g) y =
    record { lease = refl; bidder = refl; stage = (low, record { taken = k.taken; won = k.won; drawn = k.drawn; draws = k.draws; giving = y }) }
gave began word p page h going turns later low k given.Done (c, back) = record {
  lease = refl;
  bidder = refl;
  stage = (
    short_of exchange_fails p.lease.addr began p.failed 8 later (omega arith) c,
    record { own = h.own; taken = k.taken; won = k.won; drawn = k.drawn; draws = k.draws; back = back },
  );
}
gave began word p page h going turns later low k given.Lost (c, lost, trying) =
    let before = since_of p.lease.addr h.own page k.taken k.drawn k.draws in
    record {
      lease = refl;
      bidder = refl;
      stage = (
        short_of exchange_fails p.lease.addr began (p.failed + 1) 7 later (omega arith) c,
        (refl, lost_since p.lease.addr p.bidder.thread h.own h.found word k.taken before.0 k.drawn later k.won before.1 trying lost),
      );
    }
gave began word p page h going turns later low k (given.Failed shown tick) (y, last) = by (is_last_try p.failed) refl
  where
    by : (b : Bool) → is_last_try p.failed ≡ b
        → KnowsAfter began p (if b then pop_stage p (over_held (end.Busy p.lease.addr shown tick) h)
        else record { lease = p.lease; bidder = p.bidder; failed = p.failed + 1; stage = pop.Working (work.Giving giving.Exchanging page) h }) later
    by true e = record {
      lease = refl;
      bidder = refl;
      stage = (
        short_of exchange_fails p.lease.addr began (p.failed + 1) 7 later (omega arith) y.counts,
        (refl, all_tried p.lease.addr began p.failed 7 shown tick later low e y.counts last),
      );
    }
    by false e = record {
      lease = refl;
      bidder = refl;
      stage = (
        let most : p.failed < 15 = leb-false 15 p.failed e in omega arith,
        record { taken = k.taken; won = k.won; drawn = k.drawn; draws = k.draws; giving = y },
      );
    }

-- what a word, a store or a refusal comes to under the lease
worked : (began now : ℕ) (p : Pop) (h : Holding) (w : Work) (heard : Heard) (turns : List Turn) → p.failed < 16 → KnowsWork p.lease.addr p.bidder.thread began p.failed h w turns
    → KnowsAfter began p (pop_heard p w h heard now) (with_turn (work_step p.lease.addr h w) heard now turns)
worked began now p h work.Head (hears.Word page) turns low (c, won) = headed began page now p h turns low c won (page == 0) refl
worked began now p h (work.Next page) (hears.Word next) turns low (c, k) = followed began page next now p h turns low c k
worked began now p h (work.Check d) (hears.Word word) turns low (c, k) = checked began word now p d h turns low c k (is_kept h.own word now) refl
worked began now p h (work.Store d) (hears.Word word) turns low (c, k) = stored began now (hears.Word word) p d h turns low c k refl
worked began now p h (work.Giving g page) (hears.Word word) turns low k =
    gave began word p page h g turns (with_turn (giving_step (pool_gift p.lease.addr h) g) (hears.Word word) now turns) low k (giving_after h.own g word now)
    (giving_knows (pool_gift p.lease.addr h) began p.failed 6 k.drawn g turns word now k.giving)
worked began now p h (work.Store d) hears.Done turns low (c, k) = stored began now hears.Done p d h turns low c k refl
worked began now p h work.Head hears.Done turns low k =
    record { lease = refl; bidder = refl; stage = (unworked p.lease.addr p.bidder.thread began p.failed h work.Head hears.Done now turns (λ old new seen. refl) k, tt) }
worked began now p h (work.Next page) hears.Done turns low k =
    record { lease = refl; bidder = refl; stage = (unworked p.lease.addr p.bidder.thread began p.failed h (work.Next page) hears.Done now turns (λ old new seen. refl) k, tt) }
worked began now p h (work.Check d) hears.Done turns low k =
    record { lease = refl; bidder = refl; stage = (unworked p.lease.addr p.bidder.thread began p.failed h (work.Check d) hears.Done now turns (λ old new seen. refl) k, tt) }
worked began now p h (work.Giving g page) hears.Done turns low k =
    record { lease = refl; bidder = refl; stage = (unworked p.lease.addr p.bidder.thread began p.failed h (work.Giving g page) hears.Done now turns (λ old new seen. refl) k, tt) }
worked began now p h w hears.Refused turns low k =
    record { lease = refl; bidder = refl; stage = (unworked p.lease.addr p.bidder.thread began p.failed h w hears.Refused now turns (λ old new seen. refl) k, tt) }

goes : (began now : ℕ) (p : Pop) (stage : Stage) (heard : Heard) (turns : List Turn) → p.stage ≡ stage → KnowsStage p.lease.addr p.bidder.thread began p.failed stage turns
    → KnowsAfter began p (pop_at p stage heard now) (with_turn (pop_gives p.lease.addr stage) heard now turns)
goes began now p pop.Begin heard turns is k = absurd k
goes began now p (pop.Bidding bid) (hears.Word word) turns is (low, k) =
    bidden began word now p (bid_after p.bidder.thread bid word now) (with_turn (bid_step p.lease.addr bid) (hears.Word word) now turns) low
    (bid_knows p.lease.addr p.bidder.thread began p.failed bid turns word now k)
goes began now p (pop.Bidding bid) hears.Done turns is (low, k) =
    record { lease = refl; bidder = refl; stage = (unheard p.lease.addr p.bidder.thread began p.failed bid hears.Done now turns (λ old new seen. refl) k, tt) }
goes began now p (pop.Bidding bid) hears.Refused turns is (low, k) =
    record { lease = refl; bidder = refl; stage = (unheard p.lease.addr p.bidder.thread began p.failed bid hears.Refused now turns (λ old new seen. refl) k, tt) }
goes began now p (pop.Working w h) heard turns is (low, k) = worked began now p h w heard turns low k
goes began now p (pop.Over e held) heard turns is k = record {
  lease = refl;
  bidder = refl;
  stage = subst (λ (s : Stage). KnowsStage p.lease.addr p.bidder.thread began p.failed s (with_turn (end_step e) heard now turns)) (sym is) (over e k);
}
  where
    over : (e : End) → IsShort exchange_fails p.lease.addr turns × KnowsEnd p.lease.addr p.bidder.thread began e turns
        → KnowsStage p.lease.addr p.bidder.thread began p.failed (pop.Over e held) (with_turn (end_step e) heard now turns)
    over (end.Won value found) k = k
    over (end.Busy at word tick) k = k
    over (end.Expired at word) k = k
    over (end.Damaged at) k = k

pub record KnowsPop (addr thread began : ℕ) (p : Pop) (turns : List Turn) : Type 0 where
  pub lease : p.lease.addr ≡ addr
  pub bidder : p.bidder.thread ≡ thread
  pub stage : KnowsStage addr thread began p.failed p.stage turns

knows_next : (addr thread began : ℕ) (p : Pop) (turns : List Turn) (heard : Heard) (now : ℕ) → KnowsPop addr thread began p turns
    → KnowsPop addr thread began (pop_after p heard now) (with_turn (pop_step p) heard now turns)
knows_next addr thread began p turns heard now k =
    let own = subst (λ (a : ℕ). KnowsStage a p.bidder.thread began p.failed p.stage turns) (sym k.lease)
    (subst (λ (b : ℕ). KnowsStage addr b began p.failed p.stage turns) (sym k.bidder) k.stage) in
    let after = goes began now p p.stage heard turns refl own in
    let new = pop_after p heard now in
    record {
      lease = ap (λ (l : LeaseAt). l.addr) after.lease ∙ k.lease;
      bidder = ap (λ (b : Bidder). b.thread) after.bidder ∙ k.bidder;
      stage = subst (λ (a : ℕ). KnowsStage a thread began new.failed new.stage (with_turn (pop_step p) heard now turns)) k.lease
          (subst (λ (b : ℕ). KnowsStage p.lease.addr b began new.failed new.stage (with_turn (pop_step p) heard now turns)) k.bidder after.stage);
    }

few_since : (addr began failed most : ℕ) (turns : List Turn) → failed < 16 → Counts exchange_fails addr began failed most turns → began + failed_tries exchange_fails addr turns ≤ 16
few_since addr began failed most turns low c = let tries : began + failed_tries exchange_fails addr turns ≡ failed = c.tries in omega arith

few_while : (addr began failed most : ℕ) (turns : List Turn) → failed < 16 → Counts exchange_fails addr began (failed + 1) most turns → began + failed_tries exchange_fails addr turns ≤ 16
few_while addr began failed most turns low c = let tries : began + failed_tries exchange_fails addr turns ≡ failed + 1 = c.tries in omega arith

few_offers : (b : Bool) → (if b then 2 else 1) ≤ 20
few_offers true = omega arith
few_offers false = omega arith

-- a store is guarded
guarded : (addr thread : ℕ) (d : Draw) (h : Holding) (turns : List Turn) → Looked addr thread d h turns → Guarded addr thread turns
guarded addr thread d h turns k = record {
  own = h.own;
  tick = k.tick;
  earlier = k.earlier;
  is = k.is;
  kept = k.kept;
  holds = record {
    found = h.found;
    taken = k.followed.taken;
    since = shows d.page d.next k.followed.next_tick ∷ shows (head_word addr) d.page k.followed.head_tick ∷ [];
    won = k.followed.won;
    is = k.followed.is;
  };
}

tells : (addr thread began failed : ℕ) (stage : Stage) (turns : List Turn) → KnowsStage addr thread began failed stage turns
    → PopTells addr thread began (pop_gives addr stage) turns × IsShort exchange_fails addr turns
tells addr thread began failed pop.Begin turns k = absurd k
tells addr thread began failed (pop.Bidding Looking) turns (low, c) = ((few_since addr began failed 0 turns low c, tt), short_of exchange_fails addr began failed 0 turns (omega arith) c)
tells addr thread began failed (pop.Bidding (Offering o)) turns (low, (c, f)) =
    ((few_since addr began failed (offers_made o) turns low c, tt), short_of exchange_fails addr began failed (offers_made o) turns (few_offers (o.old == o.seen)) c)
tells addr thread began failed (pop.Working work.Head h) turns (low, (c, k)) = ((few_since addr began failed 3 turns low c, tt), short_of exchange_fails addr began failed 3 turns (omega arith) c)
tells addr thread began failed (pop.Working (work.Next page) h) turns (low, (c, k)) = ((few_since addr began failed 4 turns low c, tt), short_of exchange_fails addr began failed 4 turns (omega arith) c)
tells addr thread began failed (pop.Working (work.Check d) h) turns (low, (c, k)) = ((few_since addr began failed 5 turns low c, tt), short_of exchange_fails addr began failed 5 turns (omega arith) c)
tells addr thread began failed (pop.Working (work.Store d) h) turns (low, (c, k)) =
    ((few_since addr began failed 6 turns low c, guarded addr thread d h turns k), short_of exchange_fails addr began failed 6 turns (omega arith) c)
tells addr thread began failed (pop.Working (work.Giving giving.Exchanging page) h) turns (low, k) =
    ((few_since addr began failed 7 turns low k.giving.counts, tt), short_of exchange_fails addr began failed 7 turns (omega arith) k.giving.counts)
tells addr thread began failed (pop.Working (work.Giving (giving.Looking word now) page) h) turns (low, k) =
    ((few_while addr began failed 6 turns low k.giving.counts, tt), short_of exchange_fails addr began (failed + 1) 6 turns (omega arith) k.giving.counts)
tells addr thread began failed (pop.Over (end.Won value found) held) turns (short, k) = (k, short)
tells addr thread began failed (pop.Over (end.Busy at word now) held) turns (short, k) = (k, short)
tells addr thread began failed (pop.Over (end.Expired at word) held) turns (short, k) = (k, short)
tells addr thread began failed (pop.Over (end.Damaged at) held) turns (short, k) = (tt, short)

pub pop_history : (addr thread began : ℕ) (p : Pop) (told : List Told) → began < 16 → PopBegan addr thread began p → PopHistory addr thread began p told
pop_history addr thread began p told low b =
    let first : KnowsPop addr thread began p [] = record {
      lease = b.lease;
      bidder = b.bidder;
      stage = subst (λ (s : Stage). KnowsStage addr thread began p.failed s []) (sym b.stage)
          (let is : p.failed ≡ began = b.tries in let few : p.failed < 16 = omega arith in let tries : began + 0 ≡ p.failed = omega arith in (few, record { tries = tries; few = omega arith }));
    } in
    let k = kept_on pop_after pop_step (λ u turns. KnowsPop addr thread began u turns) (knows_next addr thread began) p first told in
    let m = ran pop_after p told in
    let all = turns_of pop_after pop_step p told in
    let told' = tells addr thread began m.failed m.stage all k.stage in
    record { tells = subst (λ (a : ℕ). PopTells addr thread began (pop_gives a m.stage) all) (sym k.lease) told'.0; short = told'.1 }
