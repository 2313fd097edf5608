-- A try for a lease, step by step.
use Rattle.std.proofs.Common.{◌≡◌, ℕ, ◌+◌, ◌≤◌, Bool, true, false, List, ◌∷◌, ap, sym, ◌∙◌, refl, arith}
use Rattle.std.specs.Prelude.{Option, Some, not, if◌then◌else◌, ◌==◌, ◌&&◌, ◌||◌}
use Rattle.std.proofs.lemmas.Bool.{eq-eqb, eqb-true, eqb-false, ne_eqb, both_ways, and_parts, and_left, and_right, and_from, or_left, or_right, or_from, not_from_true, not_from_false}
use Rattle.tr_types.specs.declared.action.Action.TheVariants as action
use Rattle.tr_types.specs.declared.entry.Mark.TheVariants as mark
use Rattle.zo_lease.specs.declared.step.Heard.TheVariants as hears
use Rattle.zo_lease.specs.declared.bid.Bid.{Bid}
use Rattle.zo_lease.specs.declared.bid.Bid.TheVariants.{Looking, Offering}
use Rattle.zo_lease.specs.declared.bid.Bidding.{Bidding}
use Rattle.zo_lease.specs.declared.bid.Bidding.TheVariants as bidding
use Rattle.zo_lease.specs.declared.bid.Offer.{Offer}
use Rattle.zo_lease.specs.Words.{is_open, is_expired, own_word}
use Rattle.zo_lease.specs.Bids.{offer_after, bid_step, bid_after}
use Rattle.zo_lease.specs.Turns.{Turn, with_turn, stands_in, is_word, exchange_fails, fails_in, last_failure, Taken}
use Rattle.zo_lease.proofs.Counts.{Counts, count_more, count_on, count_failure, failure_is, same}

-- the offer of a try was made by the turn before, which showed the word that was seen
pub record Offered (addr thread : ℕ) (o : Offer) (turns : List Turn) : Type 0 where
  pub last : Turn
  pub earlier : List Turn
  pub is : turns ≡ last ∷ earlier
  pub shown : stands_in addr turns ≡ Some o.seen
  pub own_is : o.own ≡ own_word thread last.now
  pub old_is : o.old ≡ (if is_open o.seen last.now then o.seen else 0)

-- an offer from the word that was seen may be the second one of its try
abbrev pub offers_made : Offer → ℕ
offers_made o = if o.old == o.seen then 2 else 1

abbrev pub KnowsBid : ℕ → ℕ → ℕ → ℕ → Bid → List Turn → Type 0
KnowsBid addr thread began failed Looking turns = Counts exchange_fails addr began failed 0 turns
KnowsBid addr thread began failed (Offering o) turns = Counts exchange_fails addr began failed (offers_made o) turns × Offered addr thread o turns

abbrev pub KnowsBidding : ℕ → ℕ → ℕ → ℕ → Bidding → ℕ → ℕ → List Turn → Type 0
KnowsBidding addr thread began failed (bidding.On bid) word now turns = KnowsBid addr thread began failed bid turns
KnowsBidding addr thread began failed (bidding.Won holding) word now turns =
    Counts exchange_fails addr began failed 3 turns × Taken addr thread holding.own holding.found turns
KnowsBidding addr thread began failed bidding.Failed word now turns =
    Counts exchange_fails addr began (failed + 1) 0 turns
    × (last_failure exchange_fails addr turns ≡ Some (record { word = hears.Word word; now = now }))

open_zero : (now : ℕ) → is_open 0 now ≡ true
open_zero now = or_left (0 == 0) (is_expired 0 now) (same 0)

-- what an offer asks for can be taken
offer_open : (seen now : ℕ) (b : Bool) → is_open seen now ≡ b → is_open (if b then seen else 0) now ≡ true
offer_open seen now true e = e
offer_open seen now false e = open_zero now

old_open : (addr thread : ℕ) (o : Offer) (turns : List Turn) (f : Offered addr thread o turns) → is_open o.old f.last.now ≡ true
old_open addr thread o turns f =
    ap (λ (w : ℕ). is_open w f.last.now) f.old_is ∙ offer_open o.seen f.last.now (is_open o.seen f.last.now) refl

-- an offer asks for 0 where 0 was seen
zero_old : (seen now : ℕ) (b : Bool) → seen ≡ 0 → (if b then seen else 0) ≡ 0
zero_old seen now true e = e
zero_old seen now false e = refl

or_none : (x y : Bool) → x ≡ false → y ≡ false → (x || y) ≡ false
or_none x y = or_from x y

-- one that is true leaves the other
and_second : (x y : Bool) → x ≡ true → (x && y) ≡ false → y ≡ false
and_second true y e h = h
and_second false y e h = absurd (both_ways false refl e)

few_offers : (b : Bool) → 1 ≤ (if b then 2 else 1)
few_offers true = omega arith
few_offers false = omega arith

pub offers_most : (b : Bool) → (if b then 2 else 1) ≤ 2
offers_most true = omega arith
offers_most false = omega arith

offers_few : (b : Bool) → (if b then 2 else 1) + 1 ≤ 3
offers_few true = omega arith
offers_few false = omega arith

-- how an exchange fails that asked on the lease for a word
pub fails_is : (addr old new word now : ℕ) (seen : Option ℕ)
    → exchange_fails addr (action.Cas addr old new) (hears.Word word) now seen ≡ (not (word == old) && (not (is_open word now) || not (is_word seen word)))
fails_is addr old new word now seen = ap (λ (b : Bool). b && (not (word == old) && (not (is_open word now) || not (is_word seen word)))) (same addr)

-- the first turn of a try
looked : (addr thread began failed word now : ℕ) (turns : List Turn) → Counts exchange_fails addr began failed 0 turns
    → KnowsBid addr thread began failed (Offering (offer_after thread word now)) (with_turn (bid_step addr Looking) (hears.Word word) now turns)
looked addr thread began failed word now turns c =
    let t : Turn = record { action = action.Load addr; mark = mark.Plain; heard = hears.Word word; now = now } in
    let o = offer_after thread word now in (
      count_more exchange_fails addr began failed 1 (offers_made o) (t ∷ turns) (few_offers (o.old == o.seen)) (count_on exchange_fails addr began failed 0 t turns refl c),
      record { last = t; earlier = turns; is = refl; shown = ap (λ (b : Bool). if b then Some word else stands_in addr turns) (same addr); own_is = refl; old_is = refl },
    )

offer_fails : (addr thread word now : ℕ) (o : Offer) (turns : List Turn) → Offered addr thread o turns
    → fails_in exchange_fails addr (record { action = action.Cas addr o.old o.own; mark = mark.Take; heard = hears.Word word; now = now }) turns
    ≡ (not (word == o.old) && (not (is_open word now) || not (word == o.seen)))
offer_fails addr thread word now o turns f =
    fails_is addr o.old o.own word now (stands_in addr turns)
    ∙ ap (λ (s : Option ℕ). not (word == o.old) && (not (is_open word now) || not (is_word s word))) f.shown

-- the exchange found what it asked for
won : (addr thread began failed word now : ℕ) (o : Offer) (turns : List Turn) → KnowsBid addr thread began failed (Offering o) turns → (word == o.old) ≡ true
    → KnowsBidding addr thread began failed (bidding.Won (record { own = o.own; found = word })) word now (with_turn (bid_step addr (Offering o)) (hears.Word word) now turns)
won addr thread began failed word now o turns (c, f) e =
    let t : Turn = record { action = action.Cas addr o.old o.own; mark = mark.Take; heard = hears.Word word; now = now } in
    let is_old : word ≡ o.old = eqb-true word o.old e in
    let on : fails_in exchange_fails addr t turns ≡ false =
    offer_fails addr thread word now o turns f ∙ and_left (not (word == o.old)) (not (is_open word now) || not (word == o.seen)) (not_from_true (word == o.old) e) in (
      count_more exchange_fails addr began failed (offers_made o + 1) 3 (t ∷ turns) (offers_few (o.old == o.seen)) (count_on exchange_fails addr began failed (offers_made o) t turns on c),
      record {
        tick = now;
        before = f.last;
        earlier = f.earlier;
        is = ap (λ (w : ℕ). record { action = action.Cas addr w o.own; mark = mark.Take; heard = hears.Word word; now = now } ∷ turns) (sym is_old)
            ∙ ap (λ (ts : List Turn). record { action = action.Cas addr word o.own; mark = mark.Take; heard = hears.Word word; now = now } ∷ ts) f.is;
        own_is = f.own_is;
        could = ap (λ (w : ℕ). is_open w f.last.now) is_old ∙ old_open addr thread o turns f;
      },
    )

-- the word that was seen has expired since: the try goes on
again : (addr thread began failed word now : ℕ) (o : Offer) (turns : List Turn) → KnowsBid addr thread began failed (Offering o) turns → (word == o.old) ≡ false
    → (word == o.seen) ≡ true → is_expired word now ≡ true
    → KnowsBid addr thread began failed (Offering (offer_after thread word now)) (with_turn (bid_step addr (Offering o)) (hears.Word word) now turns)
again addr thread began failed word now o turns (c, f) other seen expired =
    let t : Turn = record { action = action.Cas addr o.old o.own; mark = mark.Take; heard = hears.Word word; now = now } in
    let opens : is_open word now ≡ true = or_right (word == 0) (is_expired word now) expired in
    let on : fails_in exchange_fails addr t turns ≡ false =
    offer_fails addr thread word now o turns f
    ∙ and_right (not (word == o.old)) (not (is_open word now) || not (word == o.seen))
    (or_from (not (is_open word now)) (not (word == o.seen)) (not_from_true (is_open word now) opens) (not_from_true (word == o.seen) seen)) in
    let apart : (o.old == o.seen) ≡ false = ap (λ (w : ℕ). o.old == w) (sym (eqb-true word o.seen seen)) ∙ ne_eqb o.old word (λ e. eqb-false word o.old other (sym e)) in
    let first : offers_made o ≡ 1 = ap (λ (b : Bool). if b then 2 else 1) apart in
    let whole : (if is_open word now then word else 0) ≡ word = ap (λ (b : Bool). if b then word else 0) opens in
    let second : offers_made (offer_after thread word now) ≡ 2 = ap (λ (b : Bool). if b then 2 else 1) (eq-eqb (if is_open word now then word else 0) word whole) in
    let enough : offers_made o + 1 ≤ offers_made (offer_after thread word now) = omega (arith, first, second) in (
      count_more exchange_fails addr began failed (offers_made o + 1) (offers_made (offer_after thread word now)) (t ∷ turns) enough (count_on exchange_fails addr began failed (offers_made o) t turns on c),
      record {
        last = t;
        earlier = turns;
        is = refl;
        shown = ap (λ (b : Bool). if b then Some (if word == o.old then o.own else word) else stands_in addr turns) (same addr)
            ∙ ap (λ (b : Bool). Some (if b then o.own else word)) other;
        own_is = refl;
        old_is = refl;
      },
    )

-- the exchange found another word: the try has failed
failed_try : (addr thread began failed word now : ℕ) (o : Offer) (turns : List Turn) → KnowsBid addr thread began failed (Offering o) turns → (word == o.old) ≡ false
    → ((word == o.seen) && is_expired word now) ≡ false
    → KnowsBidding addr thread began failed bidding.Failed word now (with_turn (bid_step addr (Offering o)) (hears.Word word) now turns)
failed_try addr thread began failed word now o turns (c, f) other kept =
    let t : Turn = record { action = action.Cas addr o.old o.own; mark = mark.Take; heard = hears.Word word; now = now } in
    let failure : fails_in exchange_fails addr t turns ≡ true =
    offer_fails addr thread word now o turns f
    ∙ and_from (not (word == o.old)) (not (is_open word now) || not (word == o.seen)) (not_from_false (word == o.old) other) (by (word == o.seen) refl) in
    (count_failure exchange_fails addr began failed (offers_made o) 0 t turns failure (few3 (o.old == o.seen)) c, failure_is exchange_fails addr t turns failure)
  where
    few3 : (b : Bool) → (if b then 2 else 1) ≤ 0 + 3
    few3 true = omega arith
    few3 false = omega arith

    not_zero : (word == o.seen) ≡ true → word ≡ 0 → ⊥
    not_zero seen zero' =
        let is_seen : o.seen ≡ 0 = sym (eqb-true word o.seen seen) ∙ zero' in
        eqb-false word o.old other (zero' ∙ sym (f.old_is ∙ zero_old o.seen f.last.now (is_open o.seen f.last.now) is_seen))

    holds : (word == o.seen) ≡ true → is_open word now ≡ false
    holds seen =
        or_none (word == 0) (is_expired word now) (ne_eqb word 0 (not_zero seen))
        (and_second (word == o.seen) (is_expired word now) seen kept)

    by : (b : Bool) → (word == o.seen) ≡ b → (not (is_open word now) || not (word == o.seen)) ≡ true
    by true seen = or_left (not (is_open word now)) (not (word == o.seen)) (not_from_false (is_open word now) (holds seen))
    by false seen = or_right (not (is_open word now)) (not (word == o.seen)) (not_from_false (word == o.seen) seen)

pub bid_knows : (addr thread began failed : ℕ) (bid : Bid) (turns : List Turn) (word now : ℕ) → KnowsBid addr thread began failed bid turns
    → KnowsBidding addr thread began failed (bid_after thread bid word now) word now (with_turn (bid_step addr bid) (hears.Word word) now turns)
bid_knows addr thread began failed Looking turns word now c = looked addr thread began failed word now turns c
bid_knows addr thread began failed (Offering o) turns word now k = by (word == o.old) refl
  where
    more : (b : Bool) → (word == o.old) ≡ false → ((word == o.seen) && is_expired word now) ≡ b
        → KnowsBidding addr thread began failed (if b then bidding.On (Offering (offer_after thread word now)) else bidding.Failed) word now
        (with_turn (bid_step addr (Offering o)) (hears.Word word) now turns)
    more true other e =
        let parts = and_parts (word == o.seen) (is_expired word now) e in
        again addr thread began failed word now o turns k other parts.0 parts.1
    more false other e = failed_try addr thread began failed word now o turns k other e

    by : (b : Bool) → (word == o.old) ≡ b
        → KnowsBidding addr thread began failed
        (if b then bidding.Won (record { own = o.own; found = word })
        else (if (word == o.seen) && is_expired word now then bidding.On (Offering (offer_after thread word now)) else bidding.Failed)) word now
        (with_turn (bid_step addr (Offering o)) (hears.Word word) now turns)
    by true e = won addr thread began failed word now o turns k e
    by false e = more ((word == o.seen) && is_expired word now) e refl
