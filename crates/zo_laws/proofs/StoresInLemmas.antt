-- The stores of a run, and the words that they leave.
use Rattle.std.proofs.Common.{◌≡◌, ◌≢◌, ◌⊎◌, inl, inr, ℕ, zero, suc, ◌/◌, ◌<◌, ◌==◌, Bool, true, false, cond, List, [], ◌∷◌, ◌++◌, length, take, All, slice_index_or, slice_set, refl, sym, ap, subst, ◌∙◌, eq-eqb, get_or-set_same}
use Rattle.std.specs.List.{AllByRecursion}
use Rattle.std.proofs.lemmas.Bool.{cases_eq, cond-true}
use Rattle.std.proofs.lemmas.List.Elements.{recursion_from_All}
use Rattle.pm_words.specs.Memory.{word_at, store_at, flush_at, fence_by}
use Rattle.pm_words.specs.Word.{Word, settled, stored}
use Rattle.tr_types.specs.declared.entry.Mark.TheVariants as mark
use Rattle.zo_model.specs.Steps.{put as put_at}
use Rattle.zo_plan.specs.declared.deed.Deed.{Deed}
use Rattle.zo_plan.specs.declared.deed.Deed.TheVariants.{Store, Count, Raise, Look, Flush, Fence}
use Rattle.zo_plan.specs.declared.deed.Due.{Due}
use Rattle.zo_plan.specs.declared.held.Held.{Held}
use Rattle.zo_plan.specs.declared.plan.Plan.{Plan}
use Rattle.zo_plan.specs.declared.plan.Put.{Put}
use Rattle.zo_plan.specs.Deeds.{raised}
use Rattle.zo_lease.specs.Words.{counter_word, noted_word}
use Rattle.zo_plan.specs.Operands.{real, pair_of, pairs_of}
use Rattle.zo_plan.specs.Runs.{early, late, looks, late_looks, looked_before, store_of, note_beside, line_of, flush_between, prepared, raises, notes, follows, from_settling, from_commit, from_notes, from_counters, dues_of}
use Rattle.zo_laws.specs.RunWords.{done_by, counted_by, Goes, IsAside, stores_by, stores_in, note_pairs, StoresLaw}
use Rattle.zo_laws.specs.Stores.{after_stores}
use Rattle.zo_laws.proofs.StoreLemmas.{put_other}
use Rattle.zo_laws.proofs.WordMarks.{store_aside, length_store, length_flush, length_fence, flush_present, spares_fence}
use Rattle.zo_laws.proofs.CounterLemmas.{all_append}
use Rattle.zo_laws.proofs.NoteLemmas.{Inside, inside_after, inside_spared}

-- the stores among actions

stores_append : (front behind : List Due) → stores_in (front ++ behind) ≡ stores_in front ++ stores_in behind
stores_append [] behind = refl
stores_append (d ∷ front) behind = by d.deed (stores_append front behind)
  where
    by : (deed : Deed) → stores_in (front ++ behind) ≡ stores_in front ++ stores_in behind → stores_by deed (stores_in (front ++ behind)) ≡ stores_by deed (stores_in front) ++ stores_in behind
    by (Store addr word mark) e = ap (λ (ps : List (ℕ × ℕ)). (addr, word) ∷ ps) e
    by (Count addr) e = e
    by (Raise addr) e = e
    by (Look held) e = e
    by (Flush addr) e = e
    by Fence e = e

stores_looks : (leases : List Held) (behind : List Due) → stores_in (looks leases ++ behind) ≡ stores_in behind
stores_looks [] behind = refl
stores_looks (held ∷ leases) behind = stores_looks leases behind

stores_late_looks : (leases : List Held) (behind : List Due) → stores_in (late_looks leases ++ behind) ≡ stores_in behind
stores_late_looks [] behind = refl
stores_late_looks (held ∷ leases) behind = stores_late_looks leases behind

stores_flush : (drawn : List ℕ) (put : Put) (puts : List Put) → stores_in (flush_between drawn put puts) ≡ []
stores_flush drawn put [] = refl
stores_flush drawn put (next ∷ puts) = by (line_of (real drawn next.at) == line_of (real drawn put.at))
  where
    by : (same : Bool) → stores_in (cond same [] (early (Flush (real drawn put.at)) ∷ [])) ≡ []
    by true = refl
    by false = refl

stores_prepared : (drawn : List ℕ) (leases first : List Held) (puts : List Put) → stores_in (prepared drawn leases first puts) ≡ pairs_of drawn puts
stores_prepared drawn leases first [] = refl
stores_prepared drawn leases first (put ∷ puts) =
    stores_append (looks (looked_before put.at first) ++ early (store_of drawn mark.Plain put) ∷ flush_between drawn put puts) (prepared drawn leases leases puts)
    ∙ ap (λ (ps : List (ℕ × ℕ)). ps ++ stores_in (prepared drawn leases leases puts))
    (stores_looks (looked_before put.at first) (early (store_of drawn mark.Plain put) ∷ flush_between drawn put puts) ∙ ap (λ (ps : List (ℕ × ℕ)). pair_of drawn put ∷ ps) (stores_flush drawn put puts))
    ∙ ap (λ (ps : List (ℕ × ℕ)). pair_of drawn put ∷ ps) (stores_prepared drawn leases leases puts)

stores_raises : (leases held : List Held) (behind : List Due) → stores_in (raises leases held ++ behind) ≡ stores_in behind
stores_raises leases [] behind = refl
stores_raises leases (held ∷ others) behind =
    stores_append (raises leases (held ∷ others)) behind
    ∙ ap (λ (ps : List (ℕ × ℕ)). ps ++ stores_in behind) (stores_looks leases (early (Raise (counter_word held.lease)) ∷ raises leases others))
    ∙ sym (stores_append (raises leases others) behind)
    ∙ stores_raises leases others behind

stores_notes : (drawn : List ℕ) (plan : Plan) (leases first held : List Held) → stores_in (notes drawn plan leases first held) ≡ note_pairs drawn held plan
stores_notes drawn plan leases first [] = refl
stores_notes drawn plan leases first (held ∷ others) =
    stores_looks first (early (note_beside drawn plan held) ∷ notes drawn plan leases leases others)
    ∙ ap (λ (ps : List (ℕ × ℕ)). (noted_word held.lease, real drawn plan.at) ∷ ps) (stores_notes drawn plan leases leases others)

stores_follows : (drawn : List ℕ) (leases first : List Held) (puts : List Put) → stores_in (follows drawn leases first puts) ≡ pairs_of drawn puts
stores_follows drawn leases first [] = refl
stores_follows drawn leases first (put ∷ puts) =
    stores_late_looks first (late (store_of drawn mark.Plain put) ∷ follows drawn leases leases puts)
    ∙ ap (λ (ps : List (ℕ × ℕ)). pair_of drawn put ∷ ps) (stores_follows drawn leases leases puts)

stores_dues : (drawn : List ℕ) (leases : List Held) (plan : Plan)
    → stores_in (dues_of drawn leases plan) ≡ pairs_of drawn plan.prepares.items ++ (note_pairs drawn leases plan ++ pair_of drawn plan.commit ∷ pairs_of drawn plan.after.items)
stores_dues drawn leases plan =
    stores_append (prepared drawn leases leases plan.prepares.items) (early Fence ∷ from_counters drawn leases plan leases)
    ∙ (λ i. stores_prepared drawn leases leases plan.prepares.items i ++ behind i)
  where
    commit : stores_in (from_commit drawn leases plan leases) ≡ pair_of drawn plan.commit ∷ pairs_of drawn plan.after.items
    commit =
        stores_looks leases (early (store_of drawn mark.Commit plan.commit) ∷ from_settling drawn leases plan)
        ∙ ap (λ (ps : List (ℕ × ℕ)). pair_of drawn plan.commit ∷ ps) (stores_follows drawn leases leases plan.after.items)

    behind : stores_in (from_counters drawn leases plan leases) ≡ note_pairs drawn leases plan ++ pair_of drawn plan.commit ∷ pairs_of drawn plan.after.items
    behind =
        stores_raises leases leases (from_notes drawn leases plan leases leases)
        ∙ stores_append (notes drawn plan leases leases leases) (from_commit drawn leases plan leases)
        ∙ (λ i. stores_notes drawn plan leases leases leases i ++ commit i)

stores_first : (count : ℕ) (dues : List Due) → stores_in (take count dues) ≡ take (length (stores_in (take count dues))) (stores_in dues)
stores_first zero dues = refl
stores_first (suc count) [] = refl
stores_first (suc count) (d ∷ dues) = by d.deed (stores_first count dues)
  where
    by : (deed : Deed) → stores_in (take count dues) ≡ take (length (stores_in (take count dues))) (stores_in dues)
        → stores_by deed (stores_in (take count dues)) ≡ take (length (stores_by deed (stores_in (take count dues)))) (stores_by deed (stores_in dues))
    by (Store addr word mark) e = ap (λ (ps : List (ℕ × ℕ)). (addr, word) ∷ ps) e
    by (Count addr) e = e
    by (Raise addr) e = e
    by (Look held) e = e
    by (Flush addr) e = e
    by Fence e = e

-- the words that they leave

stored_value : (addr other word : ℕ) (words : List Word) (at : ℕ → ℕ) → addr / 8 < length words → (word_at words addr).present ≡ at addr → (word_at (store_at other word words) addr).present ≡ put_at at other word addr
stored_value addr other word words at inside is = by (cases_eq (other / 8) (addr / 8))
  where
    by : (other / 8 ≡ addr / 8) ⊎ (other / 8 ≡ addr / 8 → ⊥) → (word_at (store_at other word words) addr).present ≡ put_at at other word addr
    by (inl same) = ap (λ (w : Word). w.present)
        (subst (λ (k : ℕ). slice_index_or (slice_set words k (stored word (word_at words other))) (addr / 8) (settled 0) ≡ stored word (word_at words other)) (sym same)
        (get_or-set_same words (addr / 8) (stored word (word_at words other)) (settled 0) inside))
        ∙ sym (cond-true _ word (at addr) (eq-eqb (addr / 8) (other / 8) (sym same)))
    by (inr ne) = ap (λ (w : Word). w.present) (store_aside other word addr words ne) ∙ is ∙ sym (put_other at other word addr (λ e. ne (sym e)))

-- no counter there is raised
abbrev IsRaiseAside : ℕ → Deed → Type 0
IsRaiseAside addr (Raise counter) = counter / 8 ≢ addr / 8
IsRaiseAside addr deed = Unit {0}

abbrev IsDueAside : ℕ → Due → Type 0
IsDueAside addr d = IsRaiseAside addr d.deed

module _ (thread addr : ℕ) where
  left_by : (dues : List Due) (seen : ℕ) (at : ℕ → ℕ) (before after : List Word) → AllByRecursion (IsDueAside addr) dues → Inside thread addr before → (word_at before addr).present ≡ at addr
      → Goes thread addr seen dues before after → (word_at after addr).present ≡ after_stores at (stores_in dues) addr
  left_by [] seen at before after aside inside is spares = spares.present ∙ is
  left_by (d ∷ dues) seen at before after (here, aside) inside is (between, spares, goes) =
      by d.deed here (inside_spared thread addr before between spares inside) (spares.present ∙ is) goes (λ seen at words inside is goes. left_by dues seen at words after aside inside is goes)
    where
      by : (deed : Deed) → IsRaiseAside addr deed → Inside thread addr between → (word_at between addr).present ≡ at addr
          → Goes thread addr (counted_by seen deed between) dues (done_by thread seen deed between) after
          → ((seen : ℕ) (at : ℕ → ℕ) (words : List Word) → Inside thread addr words → (word_at words addr).present ≡ at addr → Goes thread addr seen dues words after → (word_at after addr).present ≡ after_stores at (stores_in dues) addr)
          → (word_at after addr).present ≡ after_stores at (stores_by deed (stores_in dues)) addr
      by (Store other word mark) here inside is goes rest =
          rest seen (put_at at other word) (store_at other word between) (inside_after thread addr between (store_at other word between) (length_store other word between) inside) (stored_value addr other word between at inside is) goes
      by (Count other) here inside is goes rest = rest (word_at between other).present at between inside is goes
      by (Raise other) here inside is goes rest =
          rest seen at (store_at other (raised seen) between) (inside_after thread addr between (store_at other (raised seen) between) (length_store other (raised seen) between) inside)
          (ap (λ (w : Word). w.present) (store_aside other (raised seen) addr between here) ∙ is) goes
      by (Look held) here inside is goes rest = rest seen at between inside is goes
      by (Flush other) here inside is goes rest =
          rest seen at (flush_at thread other between) (inside_after thread addr between (flush_at thread other between) (length_flush thread other between) inside) (flush_present thread other addr between ∙ is) goes
      by Fence here inside is goes rest =
          rest seen at (fence_by thread between) (inside_after thread addr between (fence_by thread between) (length_fence thread between) inside) ((spares_fence thread addr thread between).present ∙ is) goes

module _ (addr : ℕ) where
  abbrev AreAside : List Due → Type 0
  AreAside dues = AllByRecursion (IsDueAside addr) dues

  aside_looks : (leases : List Held) → AreAside (looks leases)
  aside_looks [] = tt
  aside_looks (held ∷ leases) = (tt, aside_looks leases)

  aside_late_looks : (leases : List Held) → AreAside (late_looks leases)
  aside_late_looks [] = tt
  aside_late_looks (held ∷ leases) = (tt, aside_late_looks leases)

  aside_flush : (drawn : List ℕ) (put : Put) (puts : List Put) → AreAside (flush_between drawn put puts)
  aside_flush drawn put [] = (tt, tt)
  aside_flush drawn put (next ∷ puts) = by (line_of (real drawn next.at) == line_of (real drawn put.at))
    where
      by : (same : Bool) → AreAside (cond same [] (early (Flush (real drawn put.at)) ∷ []))
      by true = tt
      by false = (tt, tt)

  aside_prepared : (drawn : List ℕ) (leases first : List Held) (puts : List Put) → AreAside (prepared drawn leases first puts)
  aside_prepared drawn leases first [] = tt
  aside_prepared drawn leases first (put ∷ puts) =
      all_append (IsDueAside addr) (looks (looked_before put.at first) ++ early (store_of drawn mark.Plain put) ∷ flush_between drawn put puts) (prepared drawn leases leases puts)
      (all_append (IsDueAside addr) (looks (looked_before put.at first)) (early (store_of drawn mark.Plain put) ∷ flush_between drawn put puts) (aside_looks (looked_before put.at first)) (tt, aside_flush drawn put puts))
      (aside_prepared drawn leases leases puts)

  aside_raises : (leases held : List Held) → AllByRecursion (IsAside addr) held → AreAside (raises leases held)
  aside_raises leases [] aside = tt
  aside_raises leases (held ∷ others) ((note, counter), aside) =
      (tt, all_append (IsDueAside addr) (looks leases) (early (Raise (counter_word held.lease)) ∷ raises leases others) (aside_looks leases) (λ e. counter (sym e), aside_raises leases others aside))

  aside_notes : (drawn : List ℕ) (plan : Plan) (leases first held : List Held) → AreAside (notes drawn plan leases first held)
  aside_notes drawn plan leases first [] = tt
  aside_notes drawn plan leases first (held ∷ others) =
      all_append (IsDueAside addr) (looks first) (early (note_beside drawn plan held) ∷ notes drawn plan leases leases others) (aside_looks first) (tt, aside_notes drawn plan leases leases others)

  aside_follows : (drawn : List ℕ) (leases first : List Held) (puts : List Put) → AreAside (follows drawn leases first puts)
  aside_follows drawn leases first [] = tt
  aside_follows drawn leases first (put ∷ puts) =
      all_append (IsDueAside addr) (late_looks first) (late (store_of drawn mark.Plain put) ∷ follows drawn leases leases puts) (aside_late_looks first) (tt, aside_follows drawn leases leases puts)

  aside_dues : (drawn : List ℕ) (leases : List Held) (plan : Plan) → AllByRecursion (IsAside addr) leases → AreAside (dues_of drawn leases plan)
  aside_dues drawn leases plan aside =
      all_append (IsDueAside addr) (prepared drawn leases leases plan.prepares.items) (early Fence ∷ from_counters drawn leases plan leases) (aside_prepared drawn leases leases plan.prepares.items) (
        tt,
        all_append (IsDueAside addr) (raises leases leases) (from_notes drawn leases plan leases leases) (aside_raises leases leases aside)
            (all_append (IsDueAside addr) (notes drawn plan leases leases leases) (from_commit drawn leases plan leases) (aside_notes drawn plan leases leases leases)
            (all_append (IsDueAside addr) (looks leases) (early (store_of drawn mark.Commit plan.commit) ∷ from_settling drawn leases plan) (aside_looks leases)
            (tt, (tt, (tt, aside_follows drawn leases leases plan.after.items))))),
      )

  aside_take : (count : ℕ) (dues : List Due) → AreAside dues → AreAside (take count dues)
  aside_take zero dues aside = tt
  aside_take (suc count) [] aside = tt
  aside_take (suc count) (d ∷ dues) (here, aside) = (here, aside_take count dues aside)

stores_word : (thread addr seen count : ℕ) (drawn : List ℕ) (leases : List Held) (plan : Plan) (at : ℕ → ℕ) (before after : List Word)
    → All (IsAside addr) leases → addr / 8 < length before → (word_at before addr).present ≡ at addr
    → Goes thread addr seen (take count (dues_of drawn leases plan)) before after
    → (word_at after addr).present ≡ after_stores at (stores_in (take count (dues_of drawn leases plan))) addr
stores_word thread addr seen count drawn leases plan at before after aside inside is goes =
    left_by thread addr (take count (dues_of drawn leases plan)) seen at before after
    (aside_take addr count (dues_of drawn leases plan) (aside_dues addr drawn leases plan (recursion_from_All (IsAside addr) leases aside)))
    inside is goes

pub stores : StoresLaw
stores = record { stores = stores_dues; first = stores_first; word = stores_word }
