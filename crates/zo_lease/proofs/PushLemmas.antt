-- A push, step by step.
use Rattle.std.proofs.Common.{◌≡◌, ℕ, ◌+◌, ◌<◌, ◌≤◌, Bool, true, false, List, [], ◌∷◌, ◌++◌, ap, sym, ◌∙◌, refl, subst, arith}
use Rattle.std.specs.Prelude.{Option, Some, not, if◌then◌else◌, ◌==◌}
use Rattle.std.proofs.lemmas.Bool.{eqb-true, leb-false, and_parts, not-true}
use Rattle.tr_types.specs.declared.action.Action.TheVariants as action
use Rattle.tr_types.specs.declared.entry.Mark.TheVariants as mark
use Rattle.zo_lease.specs.declared.place.LeaseAt.{LeaseAt}
use Rattle.zo_lease.specs.declared.place.Bidder.{Bidder}
use Rattle.zo_lease.specs.declared.step.Heard.{Heard}
use Rattle.zo_lease.specs.declared.step.Heard.TheVariants as hears
use Rattle.zo_lease.specs.declared.step.End.{End}
use Rattle.zo_lease.specs.declared.step.End.TheVariants as end
use Rattle.zo_lease.specs.declared.bid.Bid.TheVariants.{Looking, Offering}
use Rattle.zo_lease.specs.declared.bid.Bidding.{Bidding}
use Rattle.zo_lease.specs.declared.bid.Bidding.TheVariants as bidding
use Rattle.zo_lease.specs.declared.bid.Holding.{Holding}
use Rattle.zo_lease.specs.declared.giving.Giving.{Giving}
use Rattle.zo_lease.specs.declared.giving.Giving.TheVariants as giving
use Rattle.zo_lease.specs.declared.giving.Given.{Given}
use Rattle.zo_lease.specs.declared.giving.Given.TheVariants as given
use Rattle.zo_lease.specs.declared.push.Push.{Push}
use Rattle.zo_lease.specs.declared.push.Stage.{Stage}
use Rattle.zo_lease.specs.declared.push.Stage.TheVariants as push
use Rattle.zo_lease.specs.declared.push.Work.{Work}
use Rattle.zo_lease.specs.declared.push.Work.TheVariants as work
use Rattle.zo_lease.specs.Words.{head_word, is_kept, is_expired}
use Rattle.zo_lease.specs.Steps.{end_step}
use Rattle.zo_lease.specs.Bids.{bid_step, bid_after, is_last_try}
use Rattle.zo_lease.specs.Gives.{giving_step, giving_after, pool_gift}
use Rattle.zo_lease.specs.Pushes.{push_after, push_step, push_at, push_bid, push_heard, push_given, push_gives, push_stage, push_work, work_step, over_free, over_held}
use Rattle.zo_lease.specs.Turns.{Told, Turn, with_turn, ran, turns_of, stands_in, exchange_fails, failed_tries, AllFailed, Taken, Pushed, Holds, is_refused, shows}
use Rattle.zo_lease.specs.Laws.{WonPush, LostLease, PushTells, PushBegan, PushHistory, IsShort}
use Rattle.zo_lease.proofs.Counts.{Counts, count_on, kept_on, short_of, short_on}
use Rattle.zo_lease.proofs.BidLemmas.{KnowsBid, KnowsBidding, bid_knows, offers_made}
use Rattle.zo_lease.proofs.TakeLemmas.{unheard}
use Rattle.zo_lease.proofs.GivingLemmas.{KnowsGiving, KnowsGiven, giving_knows}
use Rattle.zo_lease.proofs.GiveLemmas.{all_tried, giving_unheard}
use Rattle.zo_lease.proofs.PoolLemmas.{look_stands, gives_first, lost_since}

-- the head led to this page, or to none
pub record Headed (addr thread first : ℕ) (h : Holding) (turns : List Turn) : Type 0 where
  pub taken : List Turn
  pub won : Taken addr thread h.own h.found taken
  pub head_tick : ℕ
  pub is : turns ≡ shows (head_word addr) first head_tick ∷ taken

-- and the lease was the call's own then
pub record PageLooked (addr thread first : ℕ) (h : Holding) (turns : List Turn) : Type 0 where
  pub earlier : List Turn
  pub headed : Headed addr thread first h earlier
  pub tick : ℕ
  pub is : turns ≡ shows addr h.own tick ∷ earlier
  pub kept : is_expired h.own tick ≡ false

-- and the page was made to lead there
pub record PageStored (addr thread page : ℕ) (h : Holding) (turns : List Turn) : Type 0 where
  pub first : ℕ
  pub earlier : List Turn
  pub looked : PageLooked addr thread first h earlier
  pub heard : Heard
  pub tick : ℕ
  pub is : turns ≡ record { action = action.Store page first; mark = mark.Plain; heard = heard; now = tick } ∷ earlier
  pub heeded : is_refused (action.Store page first) heard ≡ false

-- and the lease was still the call's own
pub record HeadLooked (addr thread page : ℕ) (h : Holding) (turns : List Turn) : Type 0 where
  pub earlier : List Turn
  pub stored : PageStored addr thread page h earlier
  pub tick : ℕ
  pub is : turns ≡ shows addr h.own tick ∷ earlier
  pub kept : is_expired h.own tick ≡ false

-- the page is in the pool
pub record Gives (addr thread page began failed : ℕ) (h : Holding) (g : Giving) (turns : List Turn) : Type 0 where
  pub taken : List Turn
  pub won : Taken addr thread h.own h.found taken
  pub pushed : List Turn
  pub pushes : Pushed addr h.own page taken pushed
  pub giving : KnowsGiving (pool_gift addr h) began failed 7 pushed g turns

-- what was done since the lease was taken
pub record Since (addr thread : ℕ) (h : Holding) (turns : List Turn) : Type 0 where
  pub taken : List Turn
  pub won : Taken addr thread h.own h.found taken
  pub since : List Turn
  pub is : turns ≡ since ++ taken

since_headed : (addr thread first : ℕ) (h : Holding) (turns : List Turn) → Headed addr thread first h turns → Since addr thread h turns
since_headed addr thread first h turns k = record { taken = k.taken; won = k.won; since = shows (head_word addr) first k.head_tick ∷ []; is = k.is }

since_more : (addr thread : ℕ) (h : Holding) (t : Turn) (turns later : List Turn) → later ≡ t ∷ turns → Since addr thread h turns → Since addr thread h later
since_more addr thread h t turns later is k = record { taken = k.taken; won = k.won; since = t ∷ k.since; is = is ∙ ap (λ (ts : List Turn). t ∷ ts) k.is }

since_looked : (addr thread first : ℕ) (h : Holding) (turns : List Turn) → PageLooked addr thread first h turns → Since addr thread h turns
since_looked addr thread first h turns k = since_more addr thread h (shows addr h.own k.tick) k.earlier turns k.is (since_headed addr thread first h k.earlier k.headed)

since_stored : (addr thread page : ℕ) (h : Holding) (turns : List Turn) → PageStored addr thread page h turns → Since addr thread h turns
since_stored addr thread page h turns k =
    since_more addr thread h (record { action = action.Store page k.first; mark = mark.Plain; heard = k.heard; now = k.tick }) k.earlier turns k.is (since_looked addr thread k.first h k.earlier k.looked)

abbrev pub KnowsWork : ℕ → ℕ → ℕ → ℕ → ℕ → Holding → Work → List Turn → Type 0
KnowsWork addr thread page began failed h work.Head turns = Counts exchange_fails addr began failed 3 turns × Taken addr thread h.own h.found turns
KnowsWork addr thread page began failed h (work.CheckPage first) turns = Counts exchange_fails addr began failed 4 turns × Headed addr thread first h turns
KnowsWork addr thread page began failed h (work.StorePage first) turns = Counts exchange_fails addr began failed 5 turns × PageLooked addr thread first h turns
KnowsWork addr thread page began failed h work.CheckHead turns = Counts exchange_fails addr began failed 6 turns × PageStored addr thread page h turns
KnowsWork addr thread page began failed h work.StoreHead turns = Counts exchange_fails addr began failed 7 turns × HeadLooked addr thread page h turns
KnowsWork addr thread page began failed h (work.Giving g) turns = Gives addr thread page began failed h g turns

abbrev pub KnowsEnd : ℕ → ℕ → ℕ → ℕ → End → List Turn → Type 0
KnowsEnd addr thread page began (end.Won value found) turns = WonPush addr thread page value found turns
KnowsEnd addr thread page began (end.Busy at word now) turns = (at ≡ addr) × AllFailed exchange_fails addr began word now turns
KnowsEnd addr thread page began (end.Expired at word) turns = (at ≡ addr) × LostLease addr thread word turns
KnowsEnd addr thread page began (end.Damaged at) turns = Unit {0}

abbrev pub KnowsStage : ℕ → ℕ → ℕ → ℕ → ℕ → Stage → List Turn → Type 0
KnowsStage addr thread page began failed push.Begin turns = ⊥
KnowsStage addr thread page began failed (push.Bidding bid) turns = (failed < 16) × KnowsBid addr thread began failed bid turns
KnowsStage addr thread page began failed (push.Working w h) turns = (failed < 16) × KnowsWork addr thread page began failed h w turns
KnowsStage addr thread page began failed (push.Over e held) turns = IsShort exchange_fails addr turns × KnowsEnd addr thread page began e turns

pub record KnowsAfter (began : ℕ) (p new : Push) (turns : List Turn) : Type 0 where
  pub lease : new.lease ≡ p.lease
  pub bidder : new.bidder ≡ p.bidder
  pub page : new.page ≡ p.page
  pub stage : KnowsStage p.lease.addr p.bidder.thread p.page began new.failed new.stage turns

bidden : (began word now : ℕ) (p : Push) (b : Bidding) (turns : List Turn) → p.failed < 16
    → KnowsBidding p.lease.addr p.bidder.thread began p.failed b word now turns → KnowsAfter began p (push_bid p b word now) turns
bidden began word now p (bidding.On bid) turns low k = record { lease = refl; bidder = refl; page = refl; stage = (low, k) }
bidden began word now p (bidding.Won h) turns low k = record { lease = refl; bidder = refl; page = refl; stage = (low, k) }
bidden began word now p bidding.Failed turns low (c, last) = by (is_last_try p.failed) refl
  where
    by : (b : Bool) → is_last_try p.failed ≡ b
        → KnowsAfter began p (if b then push_stage p (over_free (end.Busy p.lease.addr word now))
        else record { lease = p.lease; bidder = p.bidder; page = p.page; failed = p.failed + 1; stage = push.Bidding Looking }) turns
    by true e = record {
      lease = refl;
      bidder = refl;
      page = refl;
      stage = (short_of exchange_fails p.lease.addr began (p.failed + 1) 0 turns (omega arith) c, (refl, all_tried p.lease.addr began p.failed 0 word now turns low e c last));
    }
    by false e = record { lease = refl; bidder = refl; page = refl; stage = (let most : p.failed < 15 = leb-false 15 p.failed e in omega arith, c) }

-- what an action that isn't heeded leaves
unworked : (addr thread page began failed : ℕ) (h : Holding) (w : Work) (heard : Heard) (now : ℕ) (turns : List Turn)
    → ((old new : ℕ) (seen : Option ℕ) → exchange_fails addr (action.Cas addr old new) heard now seen ≡ false)
    → KnowsWork addr thread page began failed h w turns → IsShort exchange_fails addr (with_turn (work_step addr page h w) heard now turns)
unworked addr thread page began failed h work.Head heard now turns on (c, k) = short_on exchange_fails addr began failed 3 (action.Load (head_word addr)) mark.Plain heard now turns (omega arith) refl c
unworked addr thread page began failed h (work.CheckPage first) heard now turns on (c, k) = short_on exchange_fails addr began failed 4 (action.Load addr) mark.Plain heard now turns (omega arith) refl c
unworked addr thread page began failed h (work.StorePage first) heard now turns on (c, k) = short_on exchange_fails addr began failed 5 (action.Store page first) mark.Plain heard now turns (omega arith) refl c
unworked addr thread page began failed h work.CheckHead heard now turns on (c, k) = short_on exchange_fails addr began failed 6 (action.Load addr) mark.Plain heard now turns (omega arith) refl c
unworked addr thread page began failed h work.StoreHead heard now turns on (c, k) = short_on exchange_fails addr began failed 7 (action.Store (head_word addr) page) mark.Plain heard now turns (omega arith) refl c
unworked addr thread page began failed h (work.Giving g) heard now turns on k = giving_unheard (pool_gift addr h) began failed 7 k.pushed g heard now turns (omega arith) on k.giving

-- the head is loaded
headed : (began first now : ℕ) (p : Push) (h : Holding) (turns : List Turn) → p.failed < 16
    → Counts exchange_fails p.lease.addr began p.failed 3 turns → Taken p.lease.addr p.bidder.thread h.own h.found turns
    → KnowsAfter began p (push_work p (work.CheckPage first) h) (shows (head_word p.lease.addr) first now ∷ turns)
headed began first now p h turns low c won = record {
  lease = refl;
  bidder = refl;
  page = refl;
  stage = (
    low,
    (count_on exchange_fails p.lease.addr began p.failed 3 (shows (head_word p.lease.addr) first now) turns refl c, record { taken = turns; won = won; head_tick = now; is = refl }),
  );
}

-- a look finds the lease lost
lost : (began most word now : ℕ) (p : Push) (h : Holding) (turns : List Turn) → most < 20 → Counts exchange_fails p.lease.addr began p.failed most turns
    → Since p.lease.addr p.bidder.thread h turns → is_kept h.own word now ≡ false
    → KnowsAfter began p (push_stage p (over_held (end.Expired p.lease.addr word) h)) (shows p.lease.addr word now ∷ turns)
lost began most word now p h turns le c k e =
    let t = shows p.lease.addr word now in
    record {
      lease = refl;
      bidder = refl;
      page = refl;
      stage = (
        short_on exchange_fails p.lease.addr began p.failed most (action.Load p.lease.addr) mark.Plain (hears.Word word) now turns le refl c,
        (
          refl,
          lost_since p.lease.addr p.bidder.thread h.own h.found word k.taken k.since turns (t ∷ turns) k.won k.is
              (record { tries = t ∷ []; is = refl; only = (refl, tt) }) (record { tick = now; earlier = turns; is = refl; lost = e }),
        ),
      );
    }

kept_now : (own word now : ℕ) → is_kept own word now ≡ true → (word ≡ own) × (is_expired own now ≡ false)
kept_now own word now e =
    let parts = and_parts (word == own) (not (is_expired word now)) e in
    let same_word : word ≡ own = eqb-true word own parts.0 in
    (same_word, ap (λ (w : ℕ). is_expired w now) (sym same_word) ∙ not-true (is_expired word now) parts.1)

-- the lease is looked at before the page is stored
page_checked : (began first word now : ℕ) (p : Push) (h : Holding) (turns : List Turn) → p.failed < 16
    → Counts exchange_fails p.lease.addr began p.failed 4 turns → Headed p.lease.addr p.bidder.thread first h turns → (b : Bool) → is_kept h.own word now ≡ b
    → KnowsAfter began p (if b then push_work p (work.StorePage first) h else push_stage p (over_held (end.Expired p.lease.addr word) h)) (shows p.lease.addr word now ∷ turns)
page_checked began first word now p h turns low c k true e =
    let kept = kept_now h.own word now e in
    record {
      lease = refl;
      bidder = refl;
      page = refl;
      stage = (
        low,
        (
          count_on exchange_fails p.lease.addr began p.failed 4 (shows p.lease.addr word now) turns refl c,
          record { earlier = turns; headed = k; tick = now; is = ap (λ (w : ℕ). shows p.lease.addr w now ∷ turns) kept.0; kept = kept.1 },
        ),
      );
    }
page_checked began first word now p h turns low c k false e = lost began 4 word now p h turns (omega arith) c (since_headed p.lease.addr p.bidder.thread first h turns k) e

-- the page is stored
page_stored : (began first now : ℕ) (heard : Heard) (p : Push) (h : Holding) (turns : List Turn) → p.failed < 16
    → Counts exchange_fails p.lease.addr began p.failed 5 turns → PageLooked p.lease.addr p.bidder.thread first h turns → is_refused (action.Store p.page first) heard ≡ false
    → KnowsAfter began p (push_work p work.CheckHead h) (record { action = action.Store p.page first; mark = mark.Plain; heard = heard; now = now } ∷ turns)
page_stored began first now heard p h turns low c k heeded = record {
  lease = refl;
  bidder = refl;
  page = refl;
  stage = (
    low,
    (
      count_on exchange_fails p.lease.addr began p.failed 5 (record { action = action.Store p.page first; mark = mark.Plain; heard = heard; now = now }) turns refl c,
      record { first = first; earlier = turns; looked = k; heard = heard; tick = now; is = refl; heeded = heeded },
    ),
  );
}

-- the lease is looked at before the head is stored
head_checked : (began word now : ℕ) (p : Push) (h : Holding) (turns : List Turn) → p.failed < 16
    → Counts exchange_fails p.lease.addr began p.failed 6 turns → PageStored p.lease.addr p.bidder.thread p.page h turns → (b : Bool) → is_kept h.own word now ≡ b
    → KnowsAfter began p (if b then push_work p work.StoreHead h else push_stage p (over_held (end.Expired p.lease.addr word) h)) (shows p.lease.addr word now ∷ turns)
head_checked began word now p h turns low c k true e =
    let kept = kept_now h.own word now e in
    record {
      lease = refl;
      bidder = refl;
      page = refl;
      stage = (
        low,
        (
          count_on exchange_fails p.lease.addr began p.failed 6 (shows p.lease.addr word now) turns refl c,
          record { earlier = turns; stored = k; tick = now; is = ap (λ (w : ℕ). shows p.lease.addr w now ∷ turns) kept.0; kept = kept.1 },
        ),
      );
    }
head_checked began word now p h turns low c k false e = lost began 6 word now p h turns (omega arith) c (since_stored p.lease.addr p.bidder.thread p.page h turns k) e

-- the head is stored
head_stored : (began now : ℕ) (heard : Heard) (p : Push) (h : Holding) (turns : List Turn) → p.failed < 16
    → Counts exchange_fails p.lease.addr began p.failed 7 turns → HeadLooked p.lease.addr p.bidder.thread p.page h turns
    → is_refused (action.Store (head_word p.lease.addr) p.page) heard ≡ false
    → KnowsAfter began p (push_work p (work.Giving giving.Exchanging) h) (record { action = action.Store (head_word p.lease.addr) p.page; mark = mark.Plain; heard = heard; now = now } ∷ turns)
head_stored began now heard p h turns low c k heeded =
    let t : Turn = record { action = action.Store (head_word p.lease.addr) p.page; mark = mark.Plain; heard = heard; now = now } in
    let stands : stands_in p.lease.addr (t ∷ turns) ≡ Some h.own = ap (λ (ts : List Turn). stands_in p.lease.addr ts) k.is ∙ look_stands p.lease.addr h.own k.tick k.earlier in
    let page = k.stored in
    let look = k.stored.looked in
    record {
      lease = refl;
      bidder = refl;
      page = refl;
      stage = (
        low,
        record {
          taken = look.headed.taken;
          won = look.headed.won;
          pushed = t ∷ turns;
          pushes = record {
            first = page.first;
            head_tick = look.headed.head_tick;
            page_look = look.tick;
            page_heard = page.heard;
            page_tick = page.tick;
            head_look = k.tick;
            heard = heard;
            tick = now;
            is = ap (λ (ts : List Turn). t ∷ ts) (k.is ∙ ap (λ (ts : List Turn). shows p.lease.addr h.own k.tick ∷ ts) (page.is
                ∙ ap (λ (ts : List Turn). record { action = action.Store p.page page.first; mark = mark.Plain; heard = page.heard; now = page.tick } ∷ ts) (look.is
                ∙ ap (λ (ts : List Turn). shows p.lease.addr h.own look.tick ∷ ts) look.headed.is)));
            page_kept = look.kept;
            head_kept = k.kept;
            page_heeded = page.heeded;
            heeded = heeded;
          };
          giving = gives_first (pool_gift p.lease.addr h) began p.failed 7 (t ∷ turns) (count_on exchange_fails p.lease.addr began p.failed 7 t turns refl c) stands;
        },
      );
    }

-- the give-back goes on
gave : (began word : ℕ) (p : Push) (h : Holding) (going : Giving) (turns later : List Turn) → p.failed < 16
    → (k : Gives p.lease.addr p.bidder.thread p.page began p.failed h going turns) → (x : Given)
    → KnowsGiven (pool_gift p.lease.addr h) began p.failed 7 k.pushed x word later → KnowsAfter began p (push_given p x h word) later
gave began word p h going turns later low k (given.On g) y =
    record { lease = refl; bidder = refl; page = refl; stage = (low, record { taken = k.taken; won = k.won; pushed = k.pushed; pushes = k.pushes; giving = y }) }
gave began word p h going turns later low k given.Done (c, back) = record {
  lease = refl;
  bidder = refl;
  page = refl;
  stage = (
    short_of exchange_fails p.lease.addr began p.failed 9 later (omega arith) c,
    record { none = refl; own = h.own; taken = k.taken; won = k.won; pushed = k.pushed; pushes = k.pushes; back = back },
  );
}
gave began word p h going turns later low k given.Lost (c, lost, trying) =
    let b = k.pushes in
    let since = record { action = action.Store (head_word p.lease.addr) p.page; mark = mark.Plain; heard = b.heard; now = b.tick } ∷ shows p.lease.addr h.own b.head_look
    ∷ record { action = action.Store p.page b.first; mark = mark.Plain; heard = b.page_heard; now = b.page_tick } ∷ shows p.lease.addr h.own b.page_look
    ∷ shows (head_word p.lease.addr) b.first b.head_tick ∷ [] in
    record {
      lease = refl;
      bidder = refl;
      page = refl;
      stage = (
        short_of exchange_fails p.lease.addr began (p.failed + 1) 8 later (omega arith) c,
        (refl, lost_since p.lease.addr p.bidder.thread h.own h.found word k.taken since k.pushed later k.won b.is trying lost),
      );
    }
gave began word p h going turns later low k (given.Failed shown tick) (y, last) = by (is_last_try p.failed) refl
  where
    by : (b : Bool) → is_last_try p.failed ≡ b
        → KnowsAfter began p (if b then push_stage p (over_held (end.Busy p.lease.addr shown tick) h)
        else record { lease = p.lease; bidder = p.bidder; page = p.page; failed = p.failed + 1; stage = push.Working (work.Giving giving.Exchanging) h }) later
    by true e = record {
      lease = refl;
      bidder = refl;
      page = refl;
      stage = (
        short_of exchange_fails p.lease.addr began (p.failed + 1) 8 later (omega arith) y.counts,
        (refl, all_tried p.lease.addr began p.failed 8 shown tick later low e y.counts last),
      );
    }
    by false e = record {
      lease = refl;
      bidder = refl;
      page = refl;
      stage = (
        let most : p.failed < 15 = leb-false 15 p.failed e in omega arith,
        record { taken = k.taken; won = k.won; pushed = k.pushed; pushes = k.pushes; giving = y },
      );
    }

-- what a word, a store or a refusal comes to under the lease
worked : (began now : ℕ) (p : Push) (h : Holding) (w : Work) (heard : Heard) (turns : List Turn) → p.failed < 16 → KnowsWork p.lease.addr p.bidder.thread p.page began p.failed h w turns
    → KnowsAfter began p (push_heard p w h heard now) (with_turn (work_step p.lease.addr p.page h w) heard now turns)
worked began now p h work.Head (hears.Word first) turns low (c, won) = headed began first now p h turns low c won
worked began now p h (work.CheckPage first) (hears.Word word) turns low (c, k) = page_checked began first word now p h turns low c k (is_kept h.own word now) refl
worked began now p h (work.StorePage first) (hears.Word word) turns low (c, k) = page_stored began first now (hears.Word word) p h turns low c k refl
worked began now p h work.CheckHead (hears.Word word) turns low (c, k) = head_checked began word now p h turns low c k (is_kept h.own word now) refl
worked began now p h work.StoreHead (hears.Word word) turns low (c, k) = head_stored began now (hears.Word word) p h turns low c k refl
worked began now p h (work.Giving g) (hears.Word word) turns low k =
    gave began word p h g turns (with_turn (giving_step (pool_gift p.lease.addr h) g) (hears.Word word) now turns) low k (giving_after h.own g word now)
    (giving_knows (pool_gift p.lease.addr h) began p.failed 7 k.pushed g turns word now k.giving)
worked began now p h (work.StorePage first) hears.Done turns low (c, k) = page_stored began first now hears.Done p h turns low c k refl
worked began now p h work.StoreHead hears.Done turns low (c, k) = head_stored began now hears.Done p h turns low c k refl
worked began now p h work.Head hears.Done turns low k =
    record { lease = refl; bidder = refl; page = refl; stage = (unworked p.lease.addr p.bidder.thread p.page began p.failed h work.Head hears.Done now turns (λ old new seen. refl) k, tt) }
worked began now p h (work.CheckPage first) hears.Done turns low k =
    record { lease = refl; bidder = refl; page = refl; stage = (unworked p.lease.addr p.bidder.thread p.page began p.failed h (work.CheckPage first) hears.Done now turns (λ old new seen. refl) k, tt) }
worked began now p h work.CheckHead hears.Done turns low k =
    record { lease = refl; bidder = refl; page = refl; stage = (unworked p.lease.addr p.bidder.thread p.page began p.failed h work.CheckHead hears.Done now turns (λ old new seen. refl) k, tt) }
worked began now p h (work.Giving g) hears.Done turns low k =
    record { lease = refl; bidder = refl; page = refl; stage = (unworked p.lease.addr p.bidder.thread p.page began p.failed h (work.Giving g) hears.Done now turns (λ old new seen. refl) k, tt) }
worked began now p h w hears.Refused turns low k =
    record { lease = refl; bidder = refl; page = refl; stage = (unworked p.lease.addr p.bidder.thread p.page began p.failed h w hears.Refused now turns (λ old new seen. refl) k, tt) }

goes : (began now : ℕ) (p : Push) (stage : Stage) (heard : Heard) (turns : List Turn) → p.stage ≡ stage → KnowsStage p.lease.addr p.bidder.thread p.page began p.failed stage turns
    → KnowsAfter began p (push_at p stage heard now) (with_turn (push_gives p.lease.addr p.page stage) heard now turns)
goes began now p push.Begin heard turns is k = absurd k
goes began now p (push.Bidding bid) (hears.Word word) turns is (low, k) =
    bidden began word now p (bid_after p.bidder.thread bid word now) (with_turn (bid_step p.lease.addr bid) (hears.Word word) now turns) low
    (bid_knows p.lease.addr p.bidder.thread began p.failed bid turns word now k)
goes began now p (push.Bidding bid) hears.Done turns is (low, k) =
    record { lease = refl; bidder = refl; page = refl; stage = (unheard p.lease.addr p.bidder.thread began p.failed bid hears.Done now turns (λ old new seen. refl) k, tt) }
goes began now p (push.Bidding bid) hears.Refused turns is (low, k) =
    record { lease = refl; bidder = refl; page = refl; stage = (unheard p.lease.addr p.bidder.thread began p.failed bid hears.Refused now turns (λ old new seen. refl) k, tt) }
goes began now p (push.Working w h) heard turns is (low, k) = worked began now p h w heard turns low k
goes began now p (push.Over e held) heard turns is k = record {
  lease = refl;
  bidder = refl;
  page = refl;
  stage = subst (λ (s : Stage). KnowsStage p.lease.addr p.bidder.thread p.page began p.failed s (with_turn (end_step e) heard now turns)) (sym is) (over e k);
}
  where
    over : (e : End) → IsShort exchange_fails p.lease.addr turns × KnowsEnd p.lease.addr p.bidder.thread p.page began e turns
        → KnowsStage p.lease.addr p.bidder.thread p.page began p.failed (push.Over e held) (with_turn (end_step e) heard now turns)
    over (end.Won value found) k = k
    over (end.Busy at word tick) k = k
    over (end.Expired at word) k = k
    over (end.Damaged at) k = k

pub record KnowsPush (addr thread page began : ℕ) (p : Push) (turns : List Turn) : Type 0 where
  pub lease : p.lease.addr ≡ addr
  pub bidder : p.bidder.thread ≡ thread
  pub page_is : p.page ≡ page
  pub stage : KnowsStage addr thread page began p.failed p.stage turns

knows_next : (addr thread page began : ℕ) (p : Push) (turns : List Turn) (heard : Heard) (now : ℕ) → KnowsPush addr thread page began p turns
    → KnowsPush addr thread page began (push_after p heard now) (with_turn (push_step p) heard now turns)
knows_next addr thread page began p turns heard now k =
    let own = subst (λ (a : ℕ). KnowsStage a p.bidder.thread p.page began p.failed p.stage turns) (sym k.lease)
    (subst (λ (b : ℕ). KnowsStage addr b p.page began p.failed p.stage turns) (sym k.bidder)
    (subst (λ (q : ℕ). KnowsStage addr thread q began p.failed p.stage turns) (sym k.page_is) k.stage)) in
    let after = goes began now p p.stage heard turns refl own in
    let new = push_after p heard now in
    record {
      lease = ap (λ (l : LeaseAt). l.addr) after.lease ∙ k.lease;
      bidder = ap (λ (b : Bidder). b.thread) after.bidder ∙ k.bidder;
      page_is = after.page ∙ k.page_is;
      stage = subst (λ (a : ℕ). KnowsStage a thread page began new.failed new.stage (with_turn (push_step p) heard now turns)) k.lease
          (subst (λ (b : ℕ). KnowsStage p.lease.addr b page began new.failed new.stage (with_turn (push_step p) heard now turns)) k.bidder
          (subst (λ (q : ℕ). KnowsStage p.lease.addr p.bidder.thread q began new.failed new.stage (with_turn (push_step p) heard now turns)) k.page_is after.stage));
    }

few_since : (addr began failed most : ℕ) (turns : List Turn) → failed < 16 → Counts exchange_fails addr began failed most turns → began + failed_tries exchange_fails addr turns ≤ 16
few_since addr began failed most turns low c = let tries : began + failed_tries exchange_fails addr turns ≡ failed = c.tries in omega arith

few_while : (addr began failed most : ℕ) (turns : List Turn) → failed < 16 → Counts exchange_fails addr began (failed + 1) most turns → began + failed_tries exchange_fails addr turns ≤ 16
few_while addr began failed most turns low c = let tries : began + failed_tries exchange_fails addr turns ≡ failed + 1 = c.tries in omega arith

few_offers : (b : Bool) → (if b then 2 else 1) ≤ 20
few_offers true = omega arith
few_offers false = omega arith

holds_since : (addr thread : ℕ) (h : Holding) (turns : List Turn) → Since addr thread h turns → Holds addr thread h.own turns
holds_since addr thread h turns k = record { found = h.found; taken = k.taken; since = k.since; won = k.won; is = k.is }

tells : (addr thread page began failed : ℕ) (stage : Stage) (turns : List Turn) → KnowsStage addr thread page began failed stage turns
    → PushTells addr thread page began (push_gives addr page stage) turns × IsShort exchange_fails addr turns
tells addr thread page began failed push.Begin turns k = absurd k
tells addr thread page began failed (push.Bidding Looking) turns (low, c) = ((few_since addr began failed 0 turns low c, tt), short_of exchange_fails addr began failed 0 turns (omega arith) c)
tells addr thread page began failed (push.Bidding (Offering o)) turns (low, (c, f)) =
    ((few_since addr began failed (offers_made o) turns low c, tt), short_of exchange_fails addr began failed (offers_made o) turns (few_offers (o.old == o.seen)) c)
tells addr thread page began failed (push.Working work.Head h) turns (low, (c, k)) = ((few_since addr began failed 3 turns low c, tt), short_of exchange_fails addr began failed 3 turns (omega arith) c)
tells addr thread page began failed (push.Working (work.CheckPage first) h) turns (low, (c, k)) = ((few_since addr began failed 4 turns low c, tt), short_of exchange_fails addr began failed 4 turns (omega arith) c)
tells addr thread page began failed (push.Working (work.StorePage first) h) turns (low, (c, k)) = (
  (
    few_since addr began failed 5 turns low c,
    record { own = h.own; tick = k.tick; earlier = k.earlier; is = k.is; kept = k.kept; holds = holds_since addr thread h k.earlier (since_headed addr thread first h k.earlier k.headed) },
  ),
  short_of exchange_fails addr began failed 5 turns (omega arith) c,
)
tells addr thread page began failed (push.Working work.CheckHead h) turns (low, (c, k)) = ((few_since addr began failed 6 turns low c, tt), short_of exchange_fails addr began failed 6 turns (omega arith) c)
tells addr thread page began failed (push.Working work.StoreHead h) turns (low, (c, k)) = (
  (
    few_since addr began failed 7 turns low c,
    record { own = h.own; tick = k.tick; earlier = k.earlier; is = k.is; kept = k.kept; holds = holds_since addr thread h k.earlier (since_stored addr thread page h k.earlier k.stored) },
  ),
  short_of exchange_fails addr began failed 7 turns (omega arith) c,
)
tells addr thread page began failed (push.Working (work.Giving giving.Exchanging) h) turns (low, k) =
    ((few_since addr began failed 8 turns low k.giving.counts, tt), short_of exchange_fails addr began failed 8 turns (omega arith) k.giving.counts)
tells addr thread page began failed (push.Working (work.Giving (giving.Looking word now)) h) turns (low, k) =
    ((few_while addr began failed 7 turns low k.giving.counts, tt), short_of exchange_fails addr began (failed + 1) 7 turns (omega arith) k.giving.counts)
tells addr thread page began failed (push.Over (end.Won value found) held) turns (short, k) = (k, short)
tells addr thread page began failed (push.Over (end.Busy at word now) held) turns (short, k) = (k, short)
tells addr thread page began failed (push.Over (end.Expired at word) held) turns (short, k) = (k, short)
tells addr thread page began failed (push.Over (end.Damaged at) held) turns (short, k) = (tt, short)

pub push_history : (addr thread page began : ℕ) (p : Push) (told : List Told) → began < 16 → PushBegan addr thread page began p → PushHistory addr thread page began p told
push_history addr thread page began p told low b =
    let first : KnowsPush addr thread page began p [] = record {
      lease = b.lease;
      bidder = b.bidder;
      page_is = b.page_is;
      stage = subst (λ (s : Stage). KnowsStage addr thread page began p.failed s []) (sym b.stage)
          (let is : p.failed ≡ began = b.tries in let few : p.failed < 16 = omega arith in let tries : began + 0 ≡ p.failed = omega arith in (few, record { tries = tries; few = omega arith }));
    } in
    let k = kept_on push_after push_step (λ u turns. KnowsPush addr thread page began u turns) (knows_next addr thread page began) p first told in
    let m = ran push_after p told in
    let all = turns_of push_after push_step p told in
    let told' = tells addr thread page began m.failed m.stage all k.stage in
    record {
      tells = subst (λ (a : ℕ). PushTells addr thread page began (push_gives a m.page m.stage) all) (sym k.lease)
          (subst (λ (q : ℕ). PushTells addr thread page began (push_gives addr q m.stage) all) (sym k.page_is) told'.0);
      short = told'.1;
    }
