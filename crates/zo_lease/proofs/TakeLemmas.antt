-- A take of a lease, step by step.
use Rattle.std.proofs.Common.{◌≡◌, ◌≢◌, ℕ, ◌+◌, ◌<◌, ◌≤◌, Bool, true, false, List, [], ap, sym, ◌∙◌, refl, subst, arith}
use Rattle.std.specs.Prelude.{Option, Some, if◌then◌else◌, ◌==◌}
use Rattle.std.proofs.lemmas.Bool.{eqb-true, eqb-false, leb-true, leb-false}
use Rattle.tr_types.specs.declared.action.Action.TheVariants as action
use Rattle.tr_types.specs.declared.entry.Mark.TheVariants as mark
use Rattle.zo_lease.specs.declared.step.Heard.{Heard}
use Rattle.zo_lease.specs.declared.step.Heard.TheVariants as hears
use Rattle.zo_lease.specs.declared.step.End.{End}
use Rattle.zo_lease.specs.declared.step.End.TheVariants as end
use Rattle.zo_lease.specs.declared.place.LeaseAt.{LeaseAt}
use Rattle.zo_lease.specs.declared.place.Bidder.{Bidder}
use Rattle.zo_lease.specs.declared.bid.Bid.{Bid}
use Rattle.zo_lease.specs.declared.bid.Bid.TheVariants.{Looking, Offering}
use Rattle.zo_lease.specs.declared.bid.Bidding.{Bidding}
use Rattle.zo_lease.specs.declared.bid.Bidding.TheVariants as bidding
use Rattle.zo_lease.specs.declared.bid.Holding.{Holding}
use Rattle.zo_lease.specs.declared.mend.Mend.{Mend}
use Rattle.zo_lease.specs.declared.mend.Mend.TheVariants as mend
use Rattle.zo_lease.specs.declared.take.Take.{Take}
use Rattle.zo_lease.specs.declared.take.Stage.{Stage}
use Rattle.zo_lease.specs.declared.take.Stage.TheVariants as take
use Rattle.zo_lease.specs.Words.{noted_word}
use Rattle.zo_lease.specs.Steps.{end_step}
use Rattle.zo_lease.specs.Bids.{bid_step, bid_after, is_last_try}
use Rattle.zo_lease.specs.Mends.{mend_step, mend_after}
use Rattle.zo_lease.specs.Takes.{take_after, take_step, take_at, take_bid, take_mend, take_gives, at_stage, over_held, over_free}
use Rattle.zo_lease.specs.Turns.{Told, Turn, with_turn, ran, turns_of, stands_in, exchange_fails, failed_tries, last_failure, AllFailed, Taken}
use Rattle.zo_lease.specs.Laws.{WonLease, TakeTells, TakeBegan, TakeHistory, IsShort}
use Rattle.zo_lease.proofs.Counts.{Counts, count_more, count_on, kept_on, short_of, short_on}
use Rattle.zo_lease.proofs.BidLemmas.{KnowsBid, KnowsBidding, bid_knows, offers_made, offers_most}
use Rattle.zo_lease.proofs.MendLemmas.{KnowsMend, mend_knows, mends_most, noted_most}

-- how it may have ended
abbrev pub KnowsEnd : ℕ → ℕ → ℕ → End → List Turn → Type 0
KnowsEnd addr thread began (end.Won own found) turns = WonLease addr thread own found turns
KnowsEnd addr thread began (end.Busy at word now) turns = (at ≡ addr) × AllFailed exchange_fails addr began word now turns
KnowsEnd addr thread began (end.Expired at word) turns = ⊥
KnowsEnd addr thread began (end.Damaged at) turns = Unit {0}

-- a lease that had expired is held, and is being mended since
pub record Mends (addr thread : ℕ) (m : Mend) (h : Holding) (turns : List Turn) : Type 0 where
  pub expired : h.found ≢ 0
  pub taken : List Turn
  pub won : Taken addr thread h.own h.found taken
  pub mends : KnowsMend addr taken m turns

abbrev pub KnowsStage : ℕ → ℕ → ℕ → ℕ → Stage → List Turn → Type 0
KnowsStage addr thread began failed take.Begin turns = ⊥
KnowsStage addr thread began failed (take.Bidding bid) turns = (failed < 16) × KnowsBid addr thread began failed bid turns
KnowsStage addr thread began failed (take.Mending m h) turns = (failed < 16) × Counts exchange_fails addr began failed (mends_most m) turns × Mends addr thread m h turns
KnowsStage addr thread began failed (take.Over e held) turns = IsShort exchange_fails addr turns × KnowsEnd addr thread began e turns

-- what is known of a take behind the one that it was
pub record KnowsAfter (began : ℕ) (t new : Take) (turns : List Turn) : Type 0 where
  pub lease : new.lease ≡ t.lease
  pub bidder : new.bidder ≡ t.bidder
  pub stage : KnowsStage t.lease.addr t.bidder.thread began new.failed new.stage turns

-- the tries of which the last one failed
all_failed : (addr began failed word now : ℕ) (turns : List Turn) → failed < 16 → is_last_try failed ≡ true → Counts exchange_fails addr began (failed + 1) 0 turns
    → last_failure exchange_fails addr turns ≡ Some (record { word = hears.Word word; now = now }) → AllFailed exchange_fails addr began word now turns
all_failed addr began failed word now turns low e c last =
    let least : 15 ≤ failed = leb-true 15 failed e in
    let tries : began + failed_tries exchange_fails addr turns ≡ failed + 1 = c.tries in
    record { tries = omega arith; last = last }

-- what a bid comes to
bidden : (began word now : ℕ) (t : Take) (b : Bidding) (turns : List Turn) → t.failed < 16
    → KnowsBidding t.lease.addr t.bidder.thread began t.failed b word now turns → KnowsAfter began t (take_bid t b word now) turns
bidden began word now t (bidding.On bid) turns low k = record { lease = refl; bidder = refl; stage = (low, k) }
bidden began word now t (bidding.Won h) turns low (c, taken) = by (h.found == 0) refl
  where
    by : (b : Bool) → (h.found == 0) ≡ b → KnowsAfter began t (at_stage t (if b then over_held (end.Won h.own h.found) h else take.Mending mend.Noted h)) turns
    by true e = record {
      lease = refl;
      bidder = refl;
      stage = (short_of exchange_fails t.lease.addr began t.failed 3 turns (omega arith) c, record { free = λ _. taken; expired = λ some. absurd (some (eqb-true h.found 0 e)) });
    }
    by false e = record { lease = refl; bidder = refl; stage = (low, c, record { expired = eqb-false h.found 0 e; taken = turns; won = taken; mends = refl }) }
bidden began word now t bidding.Failed turns low (c, last) = by (is_last_try t.failed) refl
  where
    by : (b : Bool) → is_last_try t.failed ≡ b
        → KnowsAfter began t (if b then at_stage t (over_free (end.Busy t.lease.addr word now))
        else record { lease = t.lease; bidder = t.bidder; failed = t.failed + 1; stage = take.Bidding Looking }) turns
    by true e = record {
      lease = refl;
      bidder = refl;
      stage = (short_of exchange_fails t.lease.addr began (t.failed + 1) 0 turns (omega arith) c, (refl, all_failed t.lease.addr began t.failed word now turns low e c last));
    }
    by false e = record { lease = refl; bidder = refl; stage = (let most : t.failed < 15 = leb-false 15 t.failed e in omega arith, c) }

-- a bid that hears no word
pub unheard : (addr thread began failed : ℕ) (bid : Bid) (heard : Heard) (now : ℕ) (turns : List Turn)
    → ((old new : ℕ) (seen : Option ℕ) → exchange_fails addr (action.Cas addr old new) heard now seen ≡ false)
    → KnowsBid addr thread began failed bid turns → IsShort exchange_fails addr (with_turn (bid_step addr bid) heard now turns)
unheard addr thread began failed Looking heard now turns on k = short_on exchange_fails addr began failed 0 (action.Load addr) mark.Plain heard now turns (omega arith) refl k
unheard addr thread began failed (Offering o) heard now turns on (c, f) =
    short_on exchange_fails addr began failed 2 (action.Cas addr o.old o.own) mark.Take heard now turns (omega arith) (on o.old o.own (stands_in addr turns))
    (count_more exchange_fails addr began failed (offers_made o) 2 turns (offers_most (o.old == o.seen)) c)

mending_on : (began most : ℕ) (t : Take) (h : Holding) (m : Mend) (taken turns : List Turn) → t.failed < 16 → most ≤ mends_most m
    → Counts exchange_fails t.lease.addr began t.failed most turns → h.found ≢ 0 → Taken t.lease.addr t.bidder.thread h.own h.found taken → KnowsMend t.lease.addr taken m turns
    → KnowsAfter began t (at_stage t (take.Mending m h)) turns
mending_on began most t h m taken turns low le c some won mends = record {
  lease = refl;
  bidder = refl;
  stage = (low, count_more exchange_fails t.lease.addr began t.failed most (mends_most m) turns le c, record { expired = some; taken = taken; won = won; mends = mends });
}

mended : (began now : ℕ) (t : Take) (h : Holding) (m : Mend) (heard : Heard) (turns : List Turn) → t.failed < 16
    → Counts exchange_fails t.lease.addr began t.failed (mends_most m) turns → Mends t.lease.addr t.bidder.thread m h turns
    → KnowsAfter began t (take_mend t (mend_after m heard) h) (with_turn (mend_step t.lease.addr m) heard now turns)
mended began now t h mend.Noted (hears.Word at) turns low c k =
    mending_on began 4 t h (if at == 0 then mend.Fence else mend.Flush at) k.taken _ low (noted_most at (at == 0)) (count_on exchange_fails t.lease.addr began t.failed 3 _ turns refl c)
    k.expired k.won (mend_knows t.lease.addr k.taken turns mend.Noted (hears.Word at) now k.mends)
mended began now t h mend.Noted hears.Done turns low c k =
    record { lease = refl; bidder = refl; stage = (short_on exchange_fails t.lease.addr began t.failed 3 (action.Load (noted_word t.lease.addr)) mark.Plain hears.Done now turns (omega arith) refl c, tt) }
mended began now t h mend.Noted hears.Refused turns low c k =
    record { lease = refl; bidder = refl; stage = (short_on exchange_fails t.lease.addr began t.failed 3 (action.Load (noted_word t.lease.addr)) mark.Plain hears.Refused now turns (omega arith) refl c, tt) }
mended began now t h (mend.Flush at) heard turns low c k =
    mending_on began 5 t h mend.Fence k.taken _ low (omega arith) (count_on exchange_fails t.lease.addr began t.failed 4 _ turns refl c)
    k.expired k.won (mend_knows t.lease.addr k.taken turns (mend.Flush at) heard now k.mends)
mended began now t h mend.Fence heard turns low c k =
    record {
      lease = refl;
      bidder = refl;
      stage = (
        short_on exchange_fails t.lease.addr began t.failed 5 action.Fence mark.Plain heard now turns (omega arith) refl c,
        record { free = λ none. absurd (k.expired none); expired = λ some. (k.taken, k.won, mend_knows t.lease.addr k.taken turns mend.Fence heard now k.mends) },
      );
    }

goes : (began now : ℕ) (t : Take) (stage : Stage) (heard : Heard) (turns : List Turn) → t.stage ≡ stage → KnowsStage t.lease.addr t.bidder.thread began t.failed stage turns
    → KnowsAfter began t (take_at t stage heard now) (with_turn (take_gives t.lease.addr stage) heard now turns)
goes began now t take.Begin heard turns is k = absurd k
goes began now t (take.Bidding bid) (hears.Word word) turns is (low, k) =
    bidden began word now t (bid_after t.bidder.thread bid word now) _ low (bid_knows t.lease.addr t.bidder.thread began t.failed bid turns word now k)
goes began now t (take.Bidding bid) hears.Done turns is (low, k) =
    record { lease = refl; bidder = refl; stage = (unheard t.lease.addr t.bidder.thread began t.failed bid hears.Done now turns (λ old new seen. refl) k, tt) }
goes began now t (take.Bidding bid) hears.Refused turns is (low, k) =
    record { lease = refl; bidder = refl; stage = (unheard t.lease.addr t.bidder.thread began t.failed bid hears.Refused now turns (λ old new seen. refl) k, tt) }
goes began now t (take.Mending m h) heard turns is (low, c, k) = mended began now t h m heard turns low c k
goes began now t (take.Over e held) heard turns is k = record {
  lease = refl;
  bidder = refl;
  stage = subst (λ (s : Stage). KnowsStage t.lease.addr t.bidder.thread began t.failed s (with_turn (end_step e) heard now turns)) (sym is) (over e k);
}
  where
    over : (e : End) → IsShort exchange_fails t.lease.addr turns × KnowsEnd t.lease.addr t.bidder.thread began e turns
        → KnowsStage t.lease.addr t.bidder.thread began t.failed (take.Over e held) (with_turn (end_step e) heard now turns)
    over (end.Won value found) k = k
    over (end.Busy at word tick) k = k
    over (end.Expired at word) k = k
    over (end.Damaged at) k = k

-- the take keeps what is known of it
pub record KnowsTake (addr thread began : ℕ) (t : Take) (turns : List Turn) : Type 0 where
  pub lease : t.lease.addr ≡ addr
  pub bidder : t.bidder.thread ≡ thread
  pub stage : KnowsStage addr thread began t.failed t.stage turns

knows_next : (addr thread began : ℕ) (t : Take) (turns : List Turn) (heard : Heard) (now : ℕ) → KnowsTake addr thread began t turns
    → KnowsTake addr thread began (take_after t heard now) (with_turn (take_step t) heard now turns)
knows_next addr thread began t turns heard now k =
    let own = subst (λ (a : ℕ). KnowsStage a t.bidder.thread began t.failed t.stage turns) (sym k.lease)
    (subst (λ (b : ℕ). KnowsStage addr b began t.failed t.stage turns) (sym k.bidder) k.stage) in
    let after = goes began now t t.stage heard turns refl own in
    let new = take_after t heard now in
    record {
      lease = ap (λ (l : LeaseAt). l.addr) after.lease ∙ k.lease;
      bidder = ap (λ (b : Bidder). b.thread) after.bidder ∙ k.bidder;
      stage = subst (λ (a : ℕ). KnowsStage a thread began new.failed new.stage (with_turn (take_step t) heard now turns)) k.lease
          (subst (λ (b : ℕ). KnowsStage t.lease.addr b began new.failed new.stage (with_turn (take_step t) heard now turns)) k.bidder after.stage);
    }

-- what a stage tells
tells : (addr thread began failed : ℕ) (stage : Stage) (turns : List Turn) → KnowsStage addr thread began failed stage turns
    → TakeTells addr thread began (take_gives addr stage) turns × IsShort exchange_fails addr turns
tells addr thread began failed take.Begin turns k = absurd k
tells addr thread began failed (take.Bidding Looking) turns (low, c) = (few low c.tries, short_of exchange_fails addr began failed 0 turns (omega arith) c)
  where
    few : failed < 16 → began + failed_tries exchange_fails addr turns ≡ failed → began + failed_tries exchange_fails addr turns < 16
    few low tries = omega arith
tells addr thread began failed (take.Bidding (Offering o)) turns (low, (c, f)) = (few low c.tries, short_of exchange_fails addr began failed (offers_made o) turns (fewer (o.old == o.seen)) c)
  where
    few : failed < 16 → began + failed_tries exchange_fails addr turns ≡ failed → began + failed_tries exchange_fails addr turns < 16
    few low tries = omega arith

    fewer : (b : Bool) → (if b then 2 else 1) ≤ 20
    fewer true = omega arith
    fewer false = omega arith
tells addr thread began failed (take.Mending m h) turns (low, c, k) = (by m, short_of exchange_fails addr began failed (mends_most m) turns (few_mends m) c)
  where
    few : failed < 16 → began + failed_tries exchange_fails addr turns ≡ failed → began + failed_tries exchange_fails addr turns < 16
    few low tries = omega arith

    by : (m : Mend) → TakeTells addr thread began (mend_step addr m) turns
    by mend.Noted = few low c.tries
    by (mend.Flush at) = few low c.tries
    by mend.Fence = few low c.tries

    few_mends : (m : Mend) → mends_most m ≤ 20
    few_mends mend.Noted = omega arith
    few_mends (mend.Flush at) = omega arith
    few_mends mend.Fence = omega arith
tells addr thread began failed (take.Over (end.Won value found) held) turns (short, k) = (k, short)
tells addr thread began failed (take.Over (end.Busy at word now) held) turns (short, k) = (k, short)
tells addr thread began failed (take.Over (end.Expired at word) held) turns (short, k) = absurd k
tells addr thread began failed (take.Over (end.Damaged at) held) turns (short, k) = (tt, short)

pub take_history : (addr thread began : ℕ) (t : Take) (told : List Told) → began < 16 → TakeBegan addr thread began t → TakeHistory addr thread began t told
take_history addr thread began t told low b =
    let first : KnowsTake addr thread began t [] = record {
      lease = b.lease;
      bidder = b.bidder;
      stage = subst (λ (s : Stage). KnowsStage addr thread began t.failed s []) (sym b.stage)
          (let is : t.failed ≡ began = b.tries in let few : t.failed < 16 = omega arith in let tries : began + 0 ≡ t.failed = omega arith in (few, record { tries = tries; few = omega arith }));
    } in
    let k = kept_on take_after take_step (λ u turns. KnowsTake addr thread began u turns) (knows_next addr thread began) t first told in
    let m = ran take_after t told in
    let all = turns_of take_after take_step t told in
    let told' = tells addr thread began m.failed m.stage all k.stage in
    record { tells = subst (λ (a : ℕ). TakeTells addr thread began (take_gives a m.stage) all) (sym k.lease) told'.0; short = told'.1 }
