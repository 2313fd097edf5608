-- What crashes leave between the events of the journal.
use Rattle.std.proofs.Common.{◌≡◌, ℕ, ◌+◌, ◌-◌, ◌/◌, ◌<◌, ◌≤◌, List, [], ◌∷◌, take, length, get_or, map, refl, sym, ap, subst, ◌∙◌, inl, inr, ◌⊎◌, arith, All, Contains}
use Rattle.std.specs.List.{range_with_len}
use Rattle.std.proofs.lemmas.Bool.{cases_lt}
use Rattle.std.proofs.lemmas.List.{take-append-le}
use Rattle.std.proofs.lemmas.List.Elements.{All-head, All-tail, All-take}
use Rattle.std.proofs.lemmas.List.Sums.{fold-append}
use Rattle.zo_layout.specs.Layout.{pair_address, pair_value, committed_word}
use Rattle.pm_words.specs.Word.{Word, crash_list}
use Rattle.pm_words.specs.Memory.{word_at, IsAddress}
use Rattle.pm_words.specs.Crash.{MayLeave}
use Rattle.kern_model.specs.declared.inner.Inner.{Inner}
use Rattle.kern_model.specs.Inner.{made, made_all, phase}
use Rattle.kern_model.specs.Inner.{IsHome, committed, pair_at, laid_over, journal_words, count_pair, finish_events}
use Rattle.kern_model.specs.JournalLaws.{IsDurable, IsUnnamed, AreDone}
use Rattle.kern_model.proofs.EventLemmas.{count_inside, words_have}
use Rattle.kern_model.proofs.WordSteps.{length_run, Spares, shortened_then, Within, within_shortened}
use Rattle.kern_model.proofs.PhaseLemmas.{IsInJournal, take_past, one_value, kept_by, durable_kept, all_done, count_in, words_in, words_behind, home_from_count, words_from_count, journal_from_homes, unnamed_spared, count_either}
use Rattle.kern_model.proofs.FinishLemmas.{IsList, list_over, home_over, addresses}

-- what a crash leaves of one word
pub within_crash : (words mid : List Word) (addr : ℕ) → MayLeave words mid → addr / 8 < length words → Within (word_at words addr) (word_at mid addr)
within_crash words mid addr leave lt value there =
    let none : (word_at mid addr).older ≡ [] = ap (λ (w : Word). w.older) (leave.durable (addr / 8) lt) in
    subst (λ (n : ℕ). Contains (crash_list (word_at words addr)) n) (sym (one_value (word_at mid addr).older (word_at mid addr).present value none there)) (leave.value (addr / 8) lt)

pub crashed : (words mid : List Word) (addr : ℕ) → MayLeave words mid → addr / 8 < length words → IsDurable mid addr (word_at mid addr).present
crashed words mid addr leave lt = record { present = refl; older = ap (λ (w : Word). w.older) (leave.durable (addr / 8) lt) }

pub durable_crashed : (words mid : List Word) (addr value : ℕ) → MayLeave words mid → addr / 8 < length words → IsDurable words addr value → IsDurable mid addr value
durable_crashed words mid addr value leave lt durable = record {
  present = one_value (word_at words addr).older (word_at words addr).present (word_at mid addr).present durable.older (leave.value (addr / 8) lt) ∙ durable.present;
  older = (crashed words mid addr leave lt).older;
}

-- Where a list of pairs stands between events: it is committed; it is stored, and nothing is committed; or nothing is committed, and it isn't stored.
pub record IsCommitted (pairs : List (ℕ × ℕ)) (old after : List Word) : Type 0 where
  pub len : length after ≡ length old
  pub count : IsDurable after committed_word (length pairs)
  pub journal : All (λ (p : ℕ × ℕ). IsDurable after p.0 p.1) (journal_words 0 pairs)
  pub others : (addr : ℕ) → IsHome (length old) addr → IsUnnamed pairs addr → Within (word_at old addr) (word_at after addr)

pub record IsStored (pairs : List (ℕ × ℕ)) (old after : List Word) : Type 0 where
  pub len : length after ≡ length old
  pub count : IsDurable after committed_word 0
  pub done : AreDone pairs after
  pub others : (addr : ℕ) → IsHome (length old) addr → IsUnnamed pairs addr → Within (word_at old addr) (word_at after addr)

pub record IsLeft (old after : List Word) : Type 0 where
  pub len : length after ≡ length old
  pub count : IsDurable after committed_word 0
  pub homes : (addr : ℕ) → IsHome (length old) addr → Within (word_at old addr) (word_at after addr)

-- the pairs that the journal says
read_is : (after : List Word) (i : ℕ) (pairs : List (ℕ × ℕ)) → All (λ (p : ℕ × ℕ). IsDurable after p.0 p.1) (journal_words i pairs) → map (pair_at after) (range_with_len i (length pairs)) ≡ pairs
read_is after i [] all = refl
read_is after i (p ∷ ps) all =
    let one = All-head (λ (q : ℕ × ℕ). IsDurable after q.0 q.1) (pair_address i, p.0) ((pair_value i, p.1) ∷ journal_words (i + 1) ps) all in
    let rest = All-tail (λ (q : ℕ × ℕ). IsDurable after q.0 q.1) (pair_address i, p.0) ((pair_value i, p.1) ∷ journal_words (i + 1) ps) all in
    let two = All-head (λ (q : ℕ × ℕ). IsDurable after q.0 q.1) (pair_value i, p.1) (journal_words (i + 1) ps) rest in
    let more = read_is after (i + 1) ps (All-tail (λ (q : ℕ × ℕ). IsDurable after q.0 q.1) (pair_value i, p.1) (journal_words (i + 1) ps) rest) in
    λ j. (one.present j, two.present j) ∷ more j

pub committed_is : (pairs : List (ℕ × ℕ)) (old after : List Word) → IsCommitted pairs old after → committed after ≡ pairs
committed_is pairs old after state = ap (λ (n : ℕ). map (pair_at after) (range_with_len 0 n)) state.count.present ∙ read_is after 0 pairs state.journal

pub none_committed : (after : List Word) → IsDurable after committed_word 0 → committed after ≡ []
none_committed after count = ap (λ (n : ℕ). map (pair_at after) (range_with_len 0 n)) count.present

-- a crash inside of finishing committed pairs
pub cut_committed : (pairs : List (ℕ × ℕ)) (old after mid : List Word) (k : ℕ) → IsList (length old) pairs → IsCommitted pairs old after → MayLeave (made_all (take k (finish_events pairs)) after) mid
    → IsCommitted pairs old mid ⊎ (IsStored pairs old mid × (length (phase pairs) < k))
cut_committed pairs old after mid k list state leave = by (cases_lt (length (phase pairs)) k)
  where
    count : ℕ
    count = length after

    here : IsList count pairs
    here = list_over (length old) count pairs state.len list

    word_inside : committed_word / 8 < count
    word_inside = (count_inside count here.size).inside

    words_inside : All (λ (p : ℕ × ℕ). IsAddress count p.0) (journal_words 0 pairs)
    words_inside = let room = here.room in words_have count 0 pairs here.size (omega (arith, room))

    in_journal : All (λ (p : ℕ × ℕ). IsInJournal count p.0) (journal_words 0 pairs)
    in_journal = let room = here.room in words_in count 0 pairs (omega (arith, room))

    -- within the first phase
    early : List Inner → List Word
    early es = made_all es after

    first : (es : List Inner) → ((addr : ℕ) → All (Spares addr) (phase pairs) → All (Spares addr) es) → MayLeave (early es) mid → IsCommitted pairs old mid
    first es some left = record {
      len = left.len ∙ length_run es after ∙ state.len;
      count = durable_crashed (early es) mid committed_word (length pairs) left (inside_of es committed_word word_inside)
          (durable_kept es after committed_word (length pairs) word_inside (some committed_word (journal_from_homes count committed_word pairs here.homes (count_in count))) state.count);
      journal = λ j d lt.
          let p = get_or (journal_words 0 pairs) j d in
          durable_crashed (early es) mid p.0 p.1 left (inside_of es p.0 (words_inside j d lt).inside)
          (durable_kept es after p.0 p.1 (words_inside j d lt).inside (some p.0 (journal_from_homes count p.0 pairs here.homes (in_journal j d lt))) (state.journal j d lt));
      others = λ addr home none value there.
          let home_here = home_over (length old) count addr state.len home in
          state.others addr home none value
          (within_shortened (word_at after addr) (word_at (early es) addr) (kept_by es after addr home_here.inside.inside (some addr (unnamed_spared count addr pairs here.homes home_here none))) value
          (within_crash (early es) mid addr left (inside_of es addr home_here.inside.inside) value there));
    }
      where
        inside_of : (es : List Inner) (addr : ℕ) → addr / 8 < count → addr / 8 < length (early es)
        inside_of es addr lt = let size = length_run es after in omega (arith, size, lt)

    -- past it
    stored : List Word
    stored = made_all (phase pairs) after

    past : (j : ℕ) → MayLeave (made_all (take j (phase (count_pair 0))) stored) mid → IsCommitted pairs old mid ⊎ IsStored pairs old mid
    past j left = which (count_either stored 0 j (word_at mid committed_word).present (length pairs) (in_stored committed_word word_inside) count_stored (left.value (committed_word / 8) (in_late committed_word word_inside)))
      where
        late : List Word
        late = made_all (take j (phase (count_pair 0))) stored

        in_stored : (addr : ℕ) → addr / 8 < count → addr / 8 < length stored
        in_stored addr lt = let size = length_run (phase pairs) after in omega (arith, size, lt)

        in_late : (addr : ℕ) → addr / 8 < count → addr / 8 < length late
        in_late addr lt = let size = length_run (take j (phase (count_pair 0))) stored in let more = in_stored addr lt in omega (arith, size, more)

        len : length mid ≡ length old
        len = left.len ∙ length_run (take j (phase (count_pair 0))) stored ∙ length_run (phase pairs) after ∙ state.len

        count_stored : IsDurable stored committed_word (length pairs)
        count_stored = durable_kept (phase pairs) after committed_word (length pairs) word_inside (journal_from_homes count committed_word pairs here.homes (count_in count)) state.count

        spared : (addr : ℕ) → All (Spares addr) (phase (count_pair 0)) → All (Spares addr) (take j (phase (count_pair 0)))
        spared addr all = All-take (Spares addr) j (phase (count_pair 0)) all

        journal : All (λ (p : ℕ × ℕ). IsDurable mid p.0 p.1) (journal_words 0 pairs)
        journal i d lt =
            let p = get_or (journal_words 0 pairs) i d in
            let inside = (words_inside i d lt).inside in
            durable_crashed late mid p.0 p.1 left (in_late p.0 inside)
            (durable_kept (take j (phase (count_pair 0))) stored p.0 p.1 (in_stored p.0 inside) (spared p.0 (words_from_count p.0 0 (words_behind 0 pairs i d lt)))
            (durable_kept (phase pairs) after p.0 p.1 inside (journal_from_homes count p.0 pairs here.homes (in_journal i d lt)) (state.journal i d lt)))

        others : (addr : ℕ) → IsHome (length old) addr → IsUnnamed pairs addr → Within (word_at old addr) (word_at mid addr)
        others addr home none value there =
            let home_here = home_over (length old) count addr state.len home in
            let inside = home_here.inside.inside in
            state.others addr home none value
            (within_shortened (word_at after addr) (word_at late addr)
            (shortened_then (word_at after addr) (word_at stored addr) (word_at late addr) (kept_by (phase pairs) after addr inside (unnamed_spared count addr pairs here.homes home_here none))
            (kept_by (take j (phase (count_pair 0))) stored addr (in_stored addr inside) (spared addr (home_from_count count addr 0 home_here))))
            value (within_crash late mid addr left (in_late addr inside) value there))

        done : AreDone pairs mid
        done i d lt =
            let p = get_or pairs i d in
            let home_here = here.homes i d lt in
            let inside = home_here.inside.inside in
            durable_crashed late mid p.0 (laid_over pairs p.0 p.1) left (in_late p.0 inside)
            (durable_kept (take j (phase (count_pair 0))) stored p.0 (laid_over pairs p.0 p.1) (in_stored p.0 inside) (spared p.0 (home_from_count count p.0 0 home_here))
            (all_done after pairs (addresses count pairs here) i d lt))

        which : ((word_at mid committed_word).present ≡ length pairs) ⊎ ((word_at mid committed_word).present ≡ 0) → IsCommitted pairs old mid ⊎ IsStored pairs old mid
        which (inl e) = inl (record { len = len; count = record { present = e; older = (crashed late mid committed_word left (in_late committed_word word_inside)).older }; journal = journal; others = others })
        which (inr e) = inr (record { len = len; count = record { present = e; older = (crashed late mid committed_word left (in_late committed_word word_inside)).older }; done = done; others = others })

    with_count : length (phase pairs) < k → IsCommitted pairs old mid ⊎ IsStored pairs old mid → IsCommitted pairs old mid ⊎ (IsStored pairs old mid × (length (phase pairs) < k))
    with_count lt (inl next) = inl next
    with_count lt (inr next) = inr (next, lt)

    by : (length (phase pairs) < k) ⊎ (k ≤ length (phase pairs)) → IsCommitted pairs old mid ⊎ (IsStored pairs old mid × (length (phase pairs) < k))
    by (inr le) =
        inl (first (take k (phase pairs)) (λ addr all. All-take (Spares addr) k (phase pairs) all)
        (subst (λ (es : List Inner). MayLeave (made_all es after) mid) (take-append-le k (phase pairs) (phase (count_pair 0)) le) leave))
    by (inl lt) =
        with_count lt (past (k - length (phase pairs))
        (subst (λ (words : List Word). MayLeave words mid)
        (ap (λ (es : List Inner). made_all es after) (take_past k (phase pairs) (phase (count_pair 0)) (omega arith)) ∙ fold-append made after (phase pairs) (take (k - length (phase pairs)) (phase (count_pair 0)))) leave))
