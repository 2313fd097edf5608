-- A give-back, step by step.
use Rattle.std.proofs.Common.{◌≡◌, ℕ, ◌+◌, ◌<◌, ◌≤◌, Bool, true, false, List, [], sym, refl, subst, arith}
use Rattle.std.specs.Prelude.{Option, Some, if◌then◌else◌}
use Rattle.std.proofs.lemmas.Bool.{leb-true, leb-false}
use Rattle.tr_types.specs.declared.action.Action.TheVariants as action
use Rattle.tr_types.specs.declared.entry.Mark.TheVariants as mark
use Rattle.zo_lease.specs.declared.step.Heard.{Heard}
use Rattle.zo_lease.specs.declared.step.Heard.TheVariants as hears
use Rattle.zo_lease.specs.declared.step.End.{End}
use Rattle.zo_lease.specs.declared.step.End.TheVariants as end
use Rattle.zo_lease.specs.declared.giving.Gift.{Gift}
use Rattle.zo_lease.specs.declared.giving.Giving.{Giving}
use Rattle.zo_lease.specs.declared.giving.Giving.TheVariants as giving
use Rattle.zo_lease.specs.declared.giving.Given.{Given}
use Rattle.zo_lease.specs.declared.giving.Given.TheVariants as given
use Rattle.zo_lease.specs.declared.give_back.GiveBack.{GiveBack}
use Rattle.zo_lease.specs.declared.give_back.Stage.{Stage}
use Rattle.zo_lease.specs.declared.give_back.Stage.TheVariants as give
use Rattle.zo_lease.specs.Steps.{end_step}
use Rattle.zo_lease.specs.Bids.{is_last_try}
use Rattle.zo_lease.specs.Gives.{giving_step, giving_after, give_stage, give_given, give_at, give_after, give_gives, give_step}
use Rattle.zo_lease.specs.Turns.{Told, Turn, with_turn, ran, turns_of, stands_in, exchange_fails, failed_tries, last_failure, AllFailed, GivenBack, Lost}
use Rattle.zo_lease.specs.Laws.{GiveTells, GiveBegan, GiveHistory, IsShort}
use Rattle.zo_lease.proofs.Counts.{Counts, kept_on, short_of, short_on}
use Rattle.zo_lease.proofs.GivingLemmas.{KnowsGiving, KnowsGiven, giving_knows}

-- the tries of which the last one failed
pub all_tried : (addr began failed most word now : ℕ) (turns : List Turn) → failed < 16 → is_last_try failed ≡ true → Counts exchange_fails addr began (failed + 1) most turns
    → last_failure exchange_fails addr turns ≡ Some (record { word = hears.Word word; now = now }) → AllFailed exchange_fails addr began word now turns
all_tried addr began failed most word now turns low e c last =
    let least : 15 ≤ failed = leb-true 15 failed e in
    let tries : began + failed_tries exchange_fails addr turns ≡ failed + 1 = c.tries in
    record { tries = omega arith; last = last }

-- a give-back that hears no word
pub giving_unheard : (gift : Gift) (began failed most : ℕ) (before : List Turn) (going : Giving) (heard : Heard) (now : ℕ) (turns : List Turn) → most < 18
    → ((old new : ℕ) (seen : Option ℕ) → exchange_fails gift.addr (action.Cas gift.addr old new) heard now seen ≡ false)
    → KnowsGiving gift began failed most before going turns → IsShort exchange_fails gift.addr (with_turn (giving_step gift going) heard now turns)
giving_unheard gift began failed most before giving.Exchanging heard now turns le on k =
    short_on exchange_fails gift.addr began failed (most + 1) (action.Cas gift.addr gift.own gift.put) mark.Plain heard now turns (omega arith) (on gift.own gift.put (stands_in gift.addr turns)) k.counts
giving_unheard gift began failed most before (giving.Looking word tick) heard now turns le on k =
    short_on exchange_fails gift.addr began (failed + 1) most (action.Load gift.addr) gift.look heard now turns (omega arith) refl k.counts

abbrev pub KnowsEnd : Gift → End → List Turn → Type 0
KnowsEnd gift (end.Won value found) turns = (value ≡ 0) × (found ≡ gift.own) × GivenBack gift [] turns
KnowsEnd gift (end.Busy at word now) turns = (at ≡ gift.addr) × AllFailed exchange_fails gift.addr 0 word now turns
KnowsEnd gift (end.Expired at word) turns = (at ≡ gift.addr) × Lost gift.addr gift.own gift.look word turns
KnowsEnd gift (end.Damaged at) turns = Unit {0}

abbrev pub KnowsStage : Gift → ℕ → Stage → List Turn → Type 0
KnowsStage gift failed give.Begin turns = ⊥
KnowsStage gift failed (give.Going going) turns = (failed < 16) × KnowsGiving gift 0 failed 1 [] going turns
KnowsStage gift failed (give.Over e) turns = IsShort exchange_fails gift.addr turns × KnowsEnd gift e turns

pub record KnowsGive (gift : Gift) (g : GiveBack) (turns : List Turn) : Type 0 where
  pub gift_is : g.gift ≡ gift
  pub stage : KnowsStage gift g.failed g.stage turns

given_knows : (g : GiveBack) (x : Given) (word : ℕ) (turns : List Turn) → g.failed < 16 → KnowsGiven g.gift 0 g.failed 1 [] x word turns → KnowsGive g.gift (give_given g x word) turns
given_knows g (given.On going) word turns low k = record { gift_is = refl; stage = (low, k) }
given_knows g given.Done word turns low (c, back) = record { gift_is = refl; stage = (short_of exchange_fails g.gift.addr 0 g.failed 3 turns (omega arith) c, (refl, refl, back)) }
given_knows g given.Lost word turns low (c, lost, trying) = record { gift_is = refl; stage = (short_of exchange_fails g.gift.addr 0 (g.failed + 1) 2 turns (omega arith) c, (refl, lost)) }
given_knows g (given.Failed shown tick) word turns low (k, last) = by (is_last_try g.failed) refl
  where
    by : (b : Bool) → is_last_try g.failed ≡ b
        → KnowsGive g.gift (if b then give_stage g (give.Over (end.Busy g.gift.addr shown tick))
        else record { gift = g.gift; failed = g.failed + 1; stage = give.Going giving.Exchanging }) turns
    by true e = record {
      gift_is = refl;
      stage = (short_of exchange_fails g.gift.addr 0 (g.failed + 1) 2 turns (omega arith) k.counts, (refl, all_tried g.gift.addr 0 g.failed 2 shown tick turns low e k.counts last));
    }
    by false e = record { gift_is = refl; stage = (let most : g.failed < 15 = leb-false 15 g.failed e in omega arith, k) }

goes : (g : GiveBack) (stage : Stage) (heard : Heard) (now : ℕ) (turns : List Turn) → g.stage ≡ stage → KnowsStage g.gift g.failed stage turns
    → KnowsGive g.gift (give_at g stage heard now) (with_turn (give_gives g.gift stage) heard now turns)
goes g give.Begin heard now turns is k = absurd k
goes g (give.Going going) (hears.Word word) now turns is (low, k) =
    given_knows g (giving_after g.gift.own going word now) word (with_turn (giving_step g.gift going) (hears.Word word) now turns) low (giving_knows g.gift 0 g.failed 1 [] going turns word now k)
goes g (give.Going going) hears.Done now turns is (low, k) =
    record { gift_is = refl; stage = (giving_unheard g.gift 0 g.failed 1 [] going hears.Done now turns (omega arith) (λ old new seen. refl) k, tt) }
goes g (give.Going going) hears.Refused now turns is (low, k) =
    record { gift_is = refl; stage = (giving_unheard g.gift 0 g.failed 1 [] going hears.Refused now turns (omega arith) (λ old new seen. refl) k, tt) }
goes g (give.Over e) heard now turns is k = record { gift_is = refl; stage = subst (λ (s : Stage). KnowsStage g.gift g.failed s (with_turn (end_step e) heard now turns)) (sym is) (over e k) }
  where
    over : (e : End) → IsShort exchange_fails g.gift.addr turns × KnowsEnd g.gift e turns → KnowsStage g.gift g.failed (give.Over e) (with_turn (end_step e) heard now turns)
    over (end.Won value found) k = k
    over (end.Busy at word tick) k = k
    over (end.Expired at word) k = k
    over (end.Damaged at) k = k

knows_next : (gift : Gift) (g : GiveBack) (turns : List Turn) (heard : Heard) (now : ℕ) → KnowsGive gift g turns → KnowsGive gift (give_after g heard now) (with_turn (give_step g) heard now turns)
knows_next gift g turns heard now k =
    let own = subst (λ (x : Gift). KnowsStage x g.failed g.stage turns) (sym k.gift_is) k.stage in
    subst (λ (x : Gift). KnowsGive x (give_after g heard now) (with_turn (give_step g) heard now turns)) k.gift_is (goes g g.stage heard now turns refl own)

tells : (gift : Gift) (failed : ℕ) (stage : Stage) (turns : List Turn) → KnowsStage gift failed stage turns → GiveTells gift (give_gives gift stage) turns × IsShort exchange_fails gift.addr turns
tells gift failed give.Begin turns k = absurd k
tells gift failed (give.Going giving.Exchanging) turns (low, k) = (few low k.counts.tries, short_of exchange_fails gift.addr 0 failed 2 turns (omega arith) k.counts)
  where
    few : failed < 16 → 0 + failed_tries exchange_fails gift.addr turns ≡ failed → failed_tries exchange_fails gift.addr turns ≤ 16
    few low tries = omega arith
tells gift failed (give.Going (giving.Looking word now)) turns (low, k) = (few low k.counts.tries, short_of exchange_fails gift.addr 0 (failed + 1) 1 turns (omega arith) k.counts)
  where
    few : failed < 16 → 0 + failed_tries exchange_fails gift.addr turns ≡ failed + 1 → failed_tries exchange_fails gift.addr turns ≤ 16
    few low tries = omega arith
tells gift failed (give.Over (end.Won value found)) turns (short, k) = (k, short)
tells gift failed (give.Over (end.Busy at word now)) turns (short, k) = (k, short)
tells gift failed (give.Over (end.Expired at word)) turns (short, k) = (k, short)
tells gift failed (give.Over (end.Damaged at)) turns (short, k) = (tt, short)

pub give_history : (gift : Gift) (g : GiveBack) (told : List Told) → GiveBegan gift g → GiveHistory gift g told
give_history gift g told b =
    let first : KnowsGive gift g [] = record {
      gift_is = b.gift_is;
      stage = subst (λ (s : Stage). KnowsStage gift g.failed s []) (sym b.stage)
          (let is : g.failed ≡ 0 = b.tries in let few : g.failed < 16 = omega arith in let none : 0 + 0 ≡ g.failed = omega arith in
          (few, record { counts = record { tries = none; few = omega arith }; other = λ word ne. refl; trying = record { tries = []; is = refl; only = tt } }));
    } in
    let k = kept_on give_after give_step (λ u turns. KnowsGive gift u turns) (knows_next gift) g first told in
    let m = ran give_after g told in
    let all = turns_of give_after give_step g told in
    let told' = tells gift m.failed m.stage all k.stage in
    record { tells = subst (λ (x : Gift). GiveTells gift (give_gives x m.stage) all) (sym k.gift_is) told'.0; short = told'.1 }
