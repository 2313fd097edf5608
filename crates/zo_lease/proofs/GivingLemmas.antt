-- Giving a lease back, step by step.
use Rattle.std.proofs.Common.{◌≡◌, ℕ, ◌+◌, Bool, true, false, List, ◌∷◌, ◌++◌, ap, ◌∙◌, refl, arith}
use Rattle.std.specs.Prelude.{Option, Some, not, if◌then◌else◌, ◌==◌, ◌&&◌, ◌||◌}
use Rattle.std.proofs.lemmas.Bool.{eqb-true, and_parts, and_left, and_from, or_right, not_from_true, not_from_false}
use Rattle.tr_types.specs.declared.action.Action.TheVariants as action
use Rattle.tr_types.specs.declared.entry.Mark.TheVariants as mark
use Rattle.zo_lease.specs.declared.step.Heard.TheVariants as hears
use Rattle.zo_lease.specs.declared.giving.Gift.{Gift}
use Rattle.zo_lease.specs.declared.giving.Giving.{Giving}
use Rattle.zo_lease.specs.declared.giving.Giving.TheVariants as giving
use Rattle.zo_lease.specs.declared.giving.Given.{Given}
use Rattle.zo_lease.specs.declared.giving.Given.TheVariants as given
use Rattle.zo_lease.specs.Words.{is_open, is_expired, is_kept}
use Rattle.zo_lease.specs.Gives.{giving_step, giving_after}
use Rattle.zo_lease.specs.Turns.{Turn, with_turn, stands_in, is_word, exchange_fails, fails_in, last_failure, IsOn, OnlyOn, GivenBack, Lost}
use Rattle.zo_lease.proofs.Counts.{Counts, count_on, count_failure, failure_is, same}
use Rattle.zo_lease.proofs.BidLemmas.{fails_is}

-- no word but the own one was shown there last
abbrev pub NoOther : ℕ → ℕ → List Turn → Type 0
NoOther addr own turns = (word : ℕ) → (word == own) ≡ false → is_word (stands_in addr turns) word ≡ false

-- since some turns it was only tried for
pub record Trying (addr : ℕ) (before turns : List Turn) : Type 0 where
  pub tries : List Turn
  pub is : turns ≡ tries ++ before
  pub only : OnlyOn addr tries

-- what is known of a give-back: `most` counts the actions since the last failed try
pub record Exchanges (gift : Gift) (began failed most : ℕ) (before turns : List Turn) : Type 0 where
  pub counts : Counts exchange_fails gift.addr began failed (most + 1) turns
  pub other : NoOther gift.addr gift.own turns
  pub trying : Trying gift.addr before turns

pub record Looks (gift : Gift) (began failed most word now : ℕ) (before turns : List Turn) : Type 0 where
  pub counts : Counts exchange_fails gift.addr began (failed + 1) most turns
  pub last : last_failure exchange_fails gift.addr turns ≡ Some (record { word = hears.Word word; now = now })
  pub trying : Trying gift.addr before turns

abbrev pub KnowsGiving : Gift → ℕ → ℕ → ℕ → List Turn → Giving → List Turn → Type 0
KnowsGiving gift began failed most before giving.Exchanging turns = Exchanges gift began failed most before turns
KnowsGiving gift began failed most before (giving.Looking word now) turns = Looks gift began failed most word now before turns

abbrev pub KnowsGiven : Gift → ℕ → ℕ → ℕ → List Turn → Given → ℕ → List Turn → Type 0
KnowsGiven gift began failed most before (given.On going) word turns = KnowsGiving gift began failed most before going turns
KnowsGiven gift began failed most before given.Done word turns = Counts exchange_fails gift.addr began failed (most + 1 + 1) turns × GivenBack gift before turns
KnowsGiven gift began failed most before given.Lost word turns =
    Counts exchange_fails gift.addr began (failed + 1) (most + 1) turns × Lost gift.addr gift.own gift.look word turns × Trying gift.addr before turns
KnowsGiven gift began failed most before (given.Failed shown tick) word turns =
    Exchanges gift began (failed + 1) most before turns × (last_failure exchange_fails gift.addr turns ≡ Some (record { word = hears.Word shown; now = tick }))

-- a further turn on the lease
try_more : (addr : ℕ) (t : Turn) (before turns : List Turn) → IsOn addr t.action → Trying addr before turns → Trying addr before (t ∷ turns)
try_more addr t before turns on k = record { tries = t ∷ k.tries; is = ap (λ (ts : List Turn). t ∷ ts) k.is; only = (on, k.only) }

-- how the exchange fails
gift_fails : (gift : Gift) (word now : ℕ) (turns : List Turn)
    → fails_in exchange_fails gift.addr (record { action = action.Cas gift.addr gift.own gift.put; mark = mark.Plain; heard = hears.Word word; now = now }) turns
    ≡ (not (word == gift.own) && (not (is_open word now) || not (is_word (stands_in gift.addr turns) word)))
gift_fails gift word now turns = fails_is gift.addr gift.own gift.put word now (stands_in gift.addr turns)

exchanged : (gift : Gift) (began failed most word now : ℕ) (before turns : List Turn) → Exchanges gift began failed most before turns → (b : Bool) → (word == gift.own) ≡ b
    → KnowsGiven gift began failed most before (if b then given.Done else given.On (giving.Looking word now)) word
    (record { action = action.Cas gift.addr gift.own gift.put; mark = mark.Plain; heard = hears.Word word; now = now } ∷ turns)
exchanged gift began failed most word now before turns k true e =
    let t : Turn = record { action = action.Cas gift.addr gift.own gift.put; mark = mark.Plain; heard = hears.Word word; now = now } in
    let on : fails_in exchange_fails gift.addr t turns ≡ false =
    gift_fails gift word now turns
    ∙ and_left (not (word == gift.own)) (not (is_open word now) || not (is_word (stands_in gift.addr turns) word)) (not_from_true (word == gift.own) e) in (
      count_on exchange_fails gift.addr began failed (most + 1) t turns on k.counts,
      record {
        tick = now;
        tries = k.trying.tries;
        is = ap (λ (w : ℕ). record { action = action.Cas gift.addr gift.own gift.put; mark = mark.Plain; heard = hears.Word w; now = now } ∷ turns) (eqb-true word gift.own e)
            ∙ ap (λ (ts : List Turn). record { action = action.Cas gift.addr gift.own gift.put; mark = mark.Plain; heard = hears.Word gift.own; now = now } ∷ ts) k.trying.is;
        only = k.trying.only;
      },
    )
exchanged gift began failed most word now before turns k false e =
    let t : Turn = record { action = action.Cas gift.addr gift.own gift.put; mark = mark.Plain; heard = hears.Word word; now = now } in
    let failure : fails_in exchange_fails gift.addr t turns ≡ true =
    gift_fails gift word now turns
    ∙ and_from (not (word == gift.own)) (not (is_open word now) || not (is_word (stands_in gift.addr turns) word)) (not_from_false (word == gift.own) e)
    (or_right (not (is_open word now)) (not (is_word (stands_in gift.addr turns) word)) (not_from_false (is_word (stands_in gift.addr turns) word) (k.other word e))) in
    record {
      counts = count_failure exchange_fails gift.addr began failed (most + 1) most t turns failure (omega arith) k.counts;
      last = failure_is exchange_fails gift.addr t turns failure;
      trying = try_more gift.addr t before turns refl k.trying;
    }

looked : (gift : Gift) (began failed most shown tick word now : ℕ) (before turns : List Turn) → Looks gift began failed most shown tick before turns → (b : Bool) → is_kept gift.own word now ≡ b
    → KnowsGiven gift began failed most before (if b then given.Failed shown tick else given.Lost) word
    (record { action = action.Load gift.addr; mark = gift.look; heard = hears.Word word; now = now } ∷ turns)
looked gift began failed most shown tick word now before turns k true e =
    let t : Turn = record { action = action.Load gift.addr; mark = gift.look; heard = hears.Word word; now = now } in
    let own : word ≡ gift.own = eqb-true word gift.own (and_parts (word == gift.own) (not (is_expired word now)) e).0 in
    let stands : stands_in gift.addr (t ∷ turns) ≡ Some gift.own =
    ap (λ (b : Bool). if b then Some word else stands_in gift.addr turns) (same gift.addr) ∙ ap (λ (w : ℕ). Some w) own in (
      record {
        counts = count_on exchange_fails gift.addr began (failed + 1) most t turns refl k.counts;
        other = λ x ne. ap (λ (s : Option ℕ). is_word s x) stands ∙ ne;
        trying = try_more gift.addr t before turns refl k.trying;
      },
      k.last,
    )
looked gift began failed most shown tick word now before turns k false e =
    let t : Turn = record { action = action.Load gift.addr; mark = gift.look; heard = hears.Word word; now = now } in
    (count_on exchange_fails gift.addr began (failed + 1) most t turns refl k.counts, record { tick = now; earlier = turns; is = refl; lost = e }, try_more gift.addr t before turns refl k.trying)

pub giving_knows : (gift : Gift) (began failed most : ℕ) (before : List Turn) (going : Giving) (turns : List Turn) (word now : ℕ) → KnowsGiving gift began failed most before going turns
    → KnowsGiven gift began failed most before (giving_after gift.own going word now) word (with_turn (giving_step gift going) (hears.Word word) now turns)
giving_knows gift began failed most before giving.Exchanging turns word now k = exchanged gift began failed most word now before turns k (word == gift.own) refl
giving_knows gift began failed most before (giving.Looking shown tick) turns word now k = looked gift began failed most shown tick word now before turns k (is_kept gift.own word now) refl
