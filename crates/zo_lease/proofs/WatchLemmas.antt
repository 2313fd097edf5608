-- A watch, step by step.
use Rattle.std.proofs.Common.{◌≡◌, ◌≢◌, ℕ, ◌+◌, ◌*◌, ◌<◌, ◌≤◌, Bool, true, false, List, [], ◌∷◌, ap, sym, ◌∙◌, refl, subst, arith}
use Rattle.std.specs.Prelude.{Option, Some, not, if◌then◌else◌, ◌==◌, ◌&&◌}
use Rattle.std.proofs.lemmas.Bool.{eqb-true, eqb-false, ne_eqb, leb-true, leb-false, and_left, or_from, or_left, or_right, not_from_true, not_from_false}
use Rattle.tr_types.specs.declared.action.Action.TheVariants as action
use Rattle.tr_types.specs.declared.entry.Mark.TheVariants as mark
use Rattle.zo_lease.specs.declared.place.LeaseAt.{LeaseAt}
use Rattle.zo_lease.specs.declared.step.Heard.{Heard}
use Rattle.zo_lease.specs.declared.step.Heard.TheVariants as hears
use Rattle.zo_lease.specs.declared.step.End.{End}
use Rattle.zo_lease.specs.declared.step.End.TheVariants as end
use Rattle.zo_lease.specs.declared.mend.Mend.{Mend}
use Rattle.zo_lease.specs.declared.mend.Mend.TheVariants as mend
use Rattle.zo_lease.specs.declared.watch.Watch.{Watch}
use Rattle.zo_lease.specs.declared.watch.Seen.{Seen}
use Rattle.zo_lease.specs.declared.watch.Stage.{Stage}
use Rattle.zo_lease.specs.declared.watch.Stage.TheVariants as watch
use Rattle.zo_lease.specs.Words.{noted_word, counter_word, is_open, is_expired}
use Rattle.zo_lease.specs.Steps.{end_step}
use Rattle.zo_lease.specs.Bids.{is_last_try}
use Rattle.zo_lease.specs.Mends.{mend_step, mend_after}
use Rattle.zo_lease.specs.Watches.{watch_after, watch_step, watch_at, watch_look, watch_failed, watch_mend, watch_gives, watch_stage}
use Rattle.zo_lease.specs.Turns.{Told, Turn, with_turn, ran, turns_of, stands_in, look_fails, fails_in, failed_tries, last_failure, AllFailed, Watched, shows}
use Rattle.zo_lease.specs.Laws.{WonWatch, WatchTells, WatchBegan, WatchHistory, IsShort}
use Rattle.zo_lease.proofs.Counts.{Counts, count_more, count_on, count_failure, failure_is, kept_on, short_of, short_on, same}
use Rattle.zo_lease.proofs.MendLemmas.{KnowsMend, mend_knows, mends_most, noted_most}

-- the words beside a lease are others
aside : (addr at word now : ℕ) (seen : Option ℕ) → (at ≡ addr → ⊥) → look_fails addr (action.Load at) (hears.Word word) now seen ≡ false
aside addr at word now seen other = and_left (at == addr) (not (is_open word now)) (ne_eqb at addr other)

looks_counter : (addr word now : ℕ) (seen : Option ℕ) → look_fails addr (action.Load (counter_word addr)) (hears.Word word) now seen ≡ false
looks_counter addr word now seen = aside addr (counter_word addr) word now seen (λ e. let is : addr + 8 * 2 ≡ addr = e in omega arith)

looks_noted : (addr word now : ℕ) (seen : Option ℕ) → look_fails addr (action.Load (noted_word addr)) (hears.Word word) now seen ≡ false
looks_noted addr word now seen = aside addr (noted_word addr) word now seen (λ e. let is : addr + 8 * 1 ≡ addr = e in omega arith)

looks_lease : (addr word now : ℕ) (seen : Option ℕ) → look_fails addr (action.Load addr) (hears.Word word) now seen ≡ not (is_open word now)
looks_lease addr word now seen = ap (λ (b : Bool). b && not (is_open word now)) (same addr)

abbrev pub KnowsEnd : ℕ → ℕ → End → List Turn → Type 0
KnowsEnd addr began (end.Won counter found) turns = WonWatch addr counter found turns
KnowsEnd addr began (end.Busy at word now) turns = (at ≡ addr) × AllFailed look_fails addr began word now turns
KnowsEnd addr began (end.Expired at word) turns = ⊥
KnowsEnd addr began (end.Damaged at) turns = Unit {0}

-- the counter was seen just now
pub record Counted (addr counter : ℕ) (turns : List Turn) : Type 0 where
  pub tick : ℕ
  pub earlier : List Turn
  pub is : turns ≡ shows (counter_word addr) counter tick ∷ earlier

-- a lease that had expired is seen, and is being mended since
pub record Mends (addr : ℕ) (m : Mend) (s : Seen) (turns : List Turn) : Type 0 where
  pub expired : s.found ≢ 0
  pub seen : List Turn
  pub watched : Watched addr s.counter s.found seen
  pub mends : KnowsMend addr seen m turns

abbrev pub KnowsStage : ℕ → ℕ → ℕ → Stage → List Turn → Type 0
KnowsStage addr began failed watch.Begin turns = ⊥
KnowsStage addr began failed watch.Counter turns = (failed < 16) × Counts look_fails addr began failed 0 turns
KnowsStage addr began failed (watch.Lease counter) turns = (failed < 16) × Counts look_fails addr began failed 1 turns × Counted addr counter turns
KnowsStage addr began failed (watch.Mending m s) turns = (failed < 16) × Counts look_fails addr began failed (mends_most m) turns × Mends addr m s turns
KnowsStage addr began failed (watch.Over e) turns = IsShort look_fails addr turns × KnowsEnd addr began e turns

-- what is known of a watch behind the one that it was
pub record KnowsAfter (began : ℕ) (w new : Watch) (turns : List Turn) : Type 0 where
  pub lease : new.lease ≡ w.lease
  pub stage : KnowsStage w.lease.addr began new.failed new.stage turns

failed_look : (began word now : ℕ) (w : Watch) (turns : List Turn) → w.failed < 16 → Counts look_fails w.lease.addr began (w.failed + 1) 0 turns
    → last_failure look_fails w.lease.addr turns ≡ Some (record { word = hears.Word word; now = now }) → (b : Bool) → is_last_try w.failed ≡ b
    → KnowsAfter began w (if b then watch_stage w (watch.Over (end.Busy w.lease.addr word now)) else record { lease = w.lease; failed = w.failed + 1; stage = watch.Counter }) turns
failed_look began word now w turns low c last true e =
    let least : 15 ≤ w.failed = leb-true 15 w.failed e in
    let tries : began + failed_tries look_fails w.lease.addr turns ≡ w.failed + 1 = c.tries in
    record { lease = refl; stage = (short_of look_fails w.lease.addr began (w.failed + 1) 0 turns (omega arith) c, (refl, record { tries = omega arith; last = last })) }
failed_look began word now w turns low c last false e = record { lease = refl; stage = (let most : w.failed < 15 = leb-false 15 w.failed e in omega arith, c) }

-- the lease is seen behind its counter
looked : (began counter found now : ℕ) (w : Watch) (turns : List Turn) → w.failed < 16 → Counts look_fails w.lease.addr began w.failed 1 turns → Counted w.lease.addr counter turns
    → KnowsAfter began w (watch_look w (record { counter = counter; found = found }) now) (shows w.lease.addr found now ∷ turns)
looked began counter found now w turns low c k = by (found == 0) refl
  where
    seen : is_open found now ≡ true → Watched w.lease.addr counter found (shows w.lease.addr found now ∷ turns)
    seen could = record { first = k.tick; tick = now; earlier = k.earlier; is = ap (λ (ts : List Turn). shows w.lease.addr found now ∷ ts) k.is; could = could }

    on : is_open found now ≡ true → fails_in look_fails w.lease.addr (shows w.lease.addr found now) turns ≡ false
    on could = looks_lease w.lease.addr found now (stands_in w.lease.addr turns) ∙ not_from_true (is_open found now) could

    counts : is_open found now ≡ true → Counts look_fails w.lease.addr began w.failed 2 (shows w.lease.addr found now ∷ turns)
    counts could = count_on look_fails w.lease.addr began w.failed 1 (shows w.lease.addr found now) turns (on could) c

    more : (b : Bool) → is_expired found now ≡ b → (found == 0) ≡ false
        → KnowsAfter began w (if b then watch_stage w (watch.Mending mend.Noted (record { counter = counter; found = found })) else watch_failed w found now) (shows w.lease.addr found now ∷ turns)
    more true e some =
        let could : is_open found now ≡ true = or_right (found == 0) (is_expired found now) e in
        record {
          lease = refl;
          stage = (
            low,
            count_more look_fails w.lease.addr began w.failed 2 3 (shows w.lease.addr found now ∷ turns) (omega arith) (counts could),
            record { expired = eqb-false found 0 some; seen = shows w.lease.addr found now ∷ turns; watched = seen could; mends = refl },
          );
        }
    more false e some =
        let failure : fails_in look_fails w.lease.addr (shows w.lease.addr found now) turns ≡ true =
        looks_lease w.lease.addr found now (stands_in w.lease.addr turns) ∙ not_from_false (is_open found now) (or_from (found == 0) (is_expired found now) some e) in
        failed_look began found now w (shows w.lease.addr found now ∷ turns) low
        (count_failure look_fails w.lease.addr began w.failed 1 0 (shows w.lease.addr found now) turns failure (omega arith) c)
        (failure_is look_fails w.lease.addr (shows w.lease.addr found now) turns failure) (is_last_try w.failed) refl

    by : (b : Bool) → (found == 0) ≡ b
        → KnowsAfter began w (if b then watch_stage w (watch.Over (end.Won counter found))
        else (if is_expired found now then watch_stage w (watch.Mending mend.Noted (record { counter = counter; found = found })) else watch_failed w found now)) (shows w.lease.addr found now ∷ turns)
    by true e =
        let could : is_open found now ≡ true = or_left (found == 0) (is_expired found now) e in
        record {
          lease = refl;
          stage = (
            short_of look_fails w.lease.addr began w.failed 2 (shows w.lease.addr found now ∷ turns) (omega arith) (counts could),
            record { free = λ _. seen could; expired = λ some. absurd (some (eqb-true found 0 e)) },
          );
        }
    by false e = more (is_expired found now) refl e

mending_on : (began most : ℕ) (w : Watch) (s : Seen) (m : Mend) (seen turns : List Turn) → w.failed < 16 → most ≤ mends_most m
    → Counts look_fails w.lease.addr began w.failed most turns → s.found ≢ 0 → Watched w.lease.addr s.counter s.found seen → KnowsMend w.lease.addr seen m turns
    → KnowsAfter began w (watch_stage w (watch.Mending m s)) turns
mending_on began most w s m seen turns low le c some watched mends =
    record { lease = refl; stage = (low, count_more look_fails w.lease.addr began w.failed most (mends_most m) turns le c, record { expired = some; seen = seen; watched = watched; mends = mends }) }

mended : (began now : ℕ) (w : Watch) (s : Seen) (m : Mend) (heard : Heard) (turns : List Turn) → w.failed < 16
    → Counts look_fails w.lease.addr began w.failed (mends_most m) turns → Mends w.lease.addr m s turns
    → KnowsAfter began w (watch_mend w (mend_after m heard) s) (with_turn (mend_step w.lease.addr m) heard now turns)
mended began now w s mend.Noted (hears.Word at) turns low c k =
    mending_on began 4 w s (if at == 0 then mend.Fence else mend.Flush at) k.seen (shows (noted_word w.lease.addr) at now ∷ turns) low (noted_most at (at == 0))
    (count_on look_fails w.lease.addr began w.failed 3 (shows (noted_word w.lease.addr) at now) turns (looks_noted w.lease.addr at now (stands_in w.lease.addr turns)) c)
    k.expired k.watched (mend_knows w.lease.addr k.seen turns mend.Noted (hears.Word at) now k.mends)
mended began now w s mend.Noted hears.Done turns low c k =
    record { lease = refl; stage = (short_on look_fails w.lease.addr began w.failed 3 (action.Load (noted_word w.lease.addr)) mark.Plain hears.Done now turns (omega arith) refl c, tt) }
mended began now w s mend.Noted hears.Refused turns low c k =
    record { lease = refl; stage = (short_on look_fails w.lease.addr began w.failed 3 (action.Load (noted_word w.lease.addr)) mark.Plain hears.Refused now turns (omega arith) refl c, tt) }
mended began now w s (mend.Flush at) heard turns low c k =
    mending_on began 5 w s mend.Fence k.seen (record { action = action.Flush at; mark = mark.Plain; heard = heard; now = now } ∷ turns) low (omega arith)
    (count_on look_fails w.lease.addr began w.failed 4 (record { action = action.Flush at; mark = mark.Plain; heard = heard; now = now }) turns refl c)
    k.expired k.watched (mend_knows w.lease.addr k.seen turns (mend.Flush at) heard now k.mends)
mended began now w s mend.Fence heard turns low c k =
    record {
      lease = refl;
      stage = (
        short_on look_fails w.lease.addr began w.failed 5 action.Fence mark.Plain heard now turns (omega arith) refl c,
        record { free = λ none. absurd (k.expired none); expired = λ some. (k.seen, k.watched, mend_knows w.lease.addr k.seen turns mend.Fence heard now k.mends) },
      );
    }

goes : (began now : ℕ) (w : Watch) (stage : Stage) (heard : Heard) (turns : List Turn) → w.stage ≡ stage → KnowsStage w.lease.addr began w.failed stage turns
    → KnowsAfter began w (watch_at w stage heard now) (with_turn (watch_gives w.lease.addr stage) heard now turns)
goes began now w watch.Begin heard turns is k = absurd k
goes began now w watch.Counter (hears.Word counter) turns is (low, c) = record {
  lease = refl;
  stage = (
    low,
    count_on look_fails w.lease.addr began w.failed 0 (shows (counter_word w.lease.addr) counter now) turns (looks_counter w.lease.addr counter now (stands_in w.lease.addr turns)) c,
    record { tick = now; earlier = turns; is = refl },
  );
}
goes began now w watch.Counter hears.Done turns is (low, c) =
    record { lease = refl; stage = (short_on look_fails w.lease.addr began w.failed 0 (action.Load (counter_word w.lease.addr)) mark.Plain hears.Done now turns (omega arith) refl c, tt) }
goes began now w watch.Counter hears.Refused turns is (low, c) =
    record { lease = refl; stage = (short_on look_fails w.lease.addr began w.failed 0 (action.Load (counter_word w.lease.addr)) mark.Plain hears.Refused now turns (omega arith) refl c, tt) }
goes began now w (watch.Lease counter) (hears.Word found) turns is (low, c, k) = looked began counter found now w turns low c k
goes began now w (watch.Lease counter) hears.Done turns is (low, c, k) =
    record { lease = refl; stage = (short_on look_fails w.lease.addr began w.failed 1 (action.Load w.lease.addr) mark.Plain hears.Done now turns (omega arith) refl c, tt) }
goes began now w (watch.Lease counter) hears.Refused turns is (low, c, k) =
    record { lease = refl; stage = (short_on look_fails w.lease.addr began w.failed 1 (action.Load w.lease.addr) mark.Plain hears.Refused now turns (omega arith) refl c, tt) }
goes began now w (watch.Mending m s) heard turns is (low, c, k) = mended began now w s m heard turns low c k
goes began now w (watch.Over e) heard turns is k = record {
  lease = refl;
  stage = subst (λ (s : Stage). KnowsStage w.lease.addr began w.failed s (with_turn (end_step e) heard now turns)) (sym is) (over e k);
}
  where
    over : (e : End) → IsShort look_fails w.lease.addr turns × KnowsEnd w.lease.addr began e turns → KnowsStage w.lease.addr began w.failed (watch.Over e) (with_turn (end_step e) heard now turns)
    over (end.Won value found) k = k
    over (end.Busy at word tick) k = k
    over (end.Expired at word) k = k
    over (end.Damaged at) k = k

pub record KnowsWatch (addr began : ℕ) (w : Watch) (turns : List Turn) : Type 0 where
  pub lease : w.lease.addr ≡ addr
  pub stage : KnowsStage addr began w.failed w.stage turns

knows_next : (addr began : ℕ) (w : Watch) (turns : List Turn) (heard : Heard) (now : ℕ) → KnowsWatch addr began w turns
    → KnowsWatch addr began (watch_after w heard now) (with_turn (watch_step w) heard now turns)
knows_next addr began w turns heard now k =
    let after = goes began now w w.stage heard turns refl (subst (λ (a : ℕ). KnowsStage a began w.failed w.stage turns) (sym k.lease) k.stage) in
    let new = watch_after w heard now in
    record {
      lease = ap (λ (l : LeaseAt). l.addr) after.lease ∙ k.lease;
      stage = subst (λ (a : ℕ). KnowsStage a began new.failed new.stage (with_turn (watch_step w) heard now turns)) k.lease after.stage;
    }

tells : (addr began failed : ℕ) (stage : Stage) (turns : List Turn) → KnowsStage addr began failed stage turns → WatchTells addr began (watch_gives addr stage) turns × IsShort look_fails addr turns
tells addr began failed watch.Begin turns k = absurd k
tells addr began failed watch.Counter turns (low, c) = (few low c.tries, short_of look_fails addr began failed 0 turns (omega arith) c)
  where
    few : failed < 16 → began + failed_tries look_fails addr turns ≡ failed → began + failed_tries look_fails addr turns < 16
    few low tries = omega arith
tells addr began failed (watch.Lease counter) turns (low, c, k) = (few low c.tries, short_of look_fails addr began failed 1 turns (omega arith) c)
  where
    few : failed < 16 → began + failed_tries look_fails addr turns ≡ failed → began + failed_tries look_fails addr turns < 16
    few low tries = omega arith
tells addr began failed (watch.Mending m s) turns (low, c, k) = (by m, short_of look_fails addr began failed (mends_most m) turns (few_mends m) c)
  where
    few : failed < 16 → began + failed_tries look_fails addr turns ≡ failed → began + failed_tries look_fails addr turns < 16
    few low tries = omega arith

    by : (m : Mend) → WatchTells addr began (mend_step addr m) turns
    by mend.Noted = few low c.tries
    by (mend.Flush at) = few low c.tries
    by mend.Fence = few low c.tries

    few_mends : (m : Mend) → mends_most m ≤ 20
    few_mends mend.Noted = omega arith
    few_mends (mend.Flush at) = omega arith
    few_mends mend.Fence = omega arith
tells addr began failed (watch.Over (end.Won value found)) turns (short, k) = (k, short)
tells addr began failed (watch.Over (end.Busy at word now)) turns (short, k) = (k, short)
tells addr began failed (watch.Over (end.Expired at word)) turns (short, k) = absurd k
tells addr began failed (watch.Over (end.Damaged at)) turns (short, k) = (tt, short)

pub watch_history : (addr began : ℕ) (w : Watch) (told : List Told) → began < 16 → WatchBegan addr began w → WatchHistory addr began w told
watch_history addr began w told low b =
    let first : KnowsWatch addr began w [] = record {
      lease = b.lease;
      stage = subst (λ (s : Stage). KnowsStage addr began w.failed s []) (sym b.stage)
          (let is : w.failed ≡ began = b.tries in let few : w.failed < 16 = omega arith in let tries : began + 0 ≡ w.failed = omega arith in (few, record { tries = tries; few = omega arith }));
    } in
    let k = kept_on watch_after watch_step (λ u turns. KnowsWatch addr began u turns) (knows_next addr began) w first told in
    let m = ran watch_after w told in
    let all = turns_of watch_after watch_step w told in
    let told' = tells addr began m.failed m.stage all k.stage in
    record { tells = subst (λ (a : ℕ). WatchTells addr began (watch_gives a m.stage) all) (sym k.lease) told'.0; short = told'.1 }
