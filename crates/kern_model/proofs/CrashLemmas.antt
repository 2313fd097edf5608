-- Crashes one after another, and a whole `redo` at the end.
use Rattle.std.proofs.Common.{◌≡◌, ◌≢◌, ℕ, ◌+◌, ◌-◌, ◌/◌, ◌<◌, ◌≤◌, zero, suc, List, [], ◌∷◌, ◌++◌, take, length, get_or, map, refl, sym, ap, subst, ◌∙◌, inl, inr, ◌⊎◌, arith, All, Contains}
use Rattle.std.specs.List.{range_with_len}
use Rattle.std.proofs.lemmas.Bool.{cases_lt, cases_eq}
use Rattle.std.proofs.lemmas.List.{take-append-le, length-append}
use Rattle.std.proofs.lemmas.List.Elements.{All-nil, All-cons, All-take, All-same, Contains-push}
use Rattle.std.proofs.lemmas.List.FromFn.{length-map-range_with_len}
use Rattle.std.proofs.lemmas.List.Sums.{fold-append}
use Rattle.zo_layout.specs.Layout.{pair_address, pair_value, committed_word}
use Rattle.pm_words.specs.Word.{Word, crash_list}
use Rattle.pm_words.specs.Memory.{word_at, IsAddress, HasPages}
use Rattle.pm_words.specs.Crash.{MayLeave}
use Rattle.kern_model.specs.declared.inner.Inner.{Inner}
use Rattle.kern_model.specs.Inner.{made, made_all, phase}
use Rattle.kern_model.specs.Inner.{IsHome, IsReadable, committed, committed_count, pair_at, journal_words, count_pair, finish_events, finish_any, journal_events, redo_events, laid_over}
use Rattle.kern_model.specs.JournalLaws.{IsDurable, IsUnnamed, AreDone, IsReady, IsSettled, MayCome, steps_to_stored, IsThrough, IsAllOrNone, IsRedone, CrashLaw, CutLaw}
use Rattle.kern_model.proofs.EventLemmas.{count_inside, words_have}
use Rattle.kern_model.proofs.WordSteps.{length_run, Spares, Shortened, shortened_then, still_durable, Within, within_shortened}
use Rattle.kern_model.proofs.LaidLemmas.{laid_own, words_apart}
use Rattle.kern_model.proofs.PhaseLemmas.{take_past, kept_by, durable_kept, all_done, words_behind, home_from_words, count_from_words, home_from_count, words_from_count, count_done, count_either}
use Rattle.kern_model.proofs.FinishLemmas.{IsList, list_over, home_over, IsFinish, finish_is, nothing_is, committed_list, IsBegun, begun_is, ready_list, own_values}
use Rattle.kern_model.proofs.CutLemmas.{within_crash, crashed, durable_crashed, IsCommitted, IsStored, IsLeft, committed_is, none_committed, cut_committed}

-- a crash inside of a `redo` with nothing to finish
record IsIdleCut (after mid : List Word) : Type 0 where
  len : length mid ≡ length after
  count : IsDurable mid committed_word 0
  kept : (addr : ℕ) → IsHome (length after) addr → Within (word_at after addr) (word_at mid addr)
  durable : (addr value : ℕ) → IsHome (length after) addr → IsDurable after addr value → IsDurable mid addr value

take_none : (k : ℕ) → take {A = Inner} k [] ≡ []
take_none zero = refl
take_none (suc k) = refl

idle_cut : (after mid : List Word) (k : ℕ) → HasPages (length after) → IsDurable after committed_word 0 → MayLeave (made_all (take k (redo_events after)) after) mid → IsIdleCut after mid
idle_cut after mid k size count leave = record {
  len = left.len;
  count = durable_crashed after mid committed_word 0 left (count_inside (length after) size).inside count;
  kept = λ addr home. within_crash after mid addr left home.inside.inside;
  durable = λ addr value home durable. durable_crashed after mid addr value left home.inside.inside durable;
}
  where
    left : MayLeave after mid
    left =
        subst (λ (es : List Inner). MayLeave (made_all es after) mid) (take_none k)
        (subst (λ (ps : List (ℕ × ℕ)). MayLeave (made_all (take k (finish_any ps)) after) mid) (none_committed after count) leave)

-- crashes inside of one `redo` after another
size_over : (one two : ℕ) → two ≡ one → HasPages one → HasPages two
size_over one two same size = subst HasPages (sym same) size

cuts_stored : (cuts : List ℕ) (pairs : List (ℕ × ℕ)) (old after final : List Word) → IsList (length old) pairs → IsStored pairs old after → MayCome cuts after final → IsStored pairs old final
cuts_stored [] pairs old after final list state same = subst (IsStored pairs old) (sym same) state
cuts_stored (k ∷ ks) pairs old after final list state (mid, leave, rest) =
    let cut = idle_cut after mid k (size_over (length old) (length after) state.len list.size) state.count leave in
    cuts_stored ks pairs old mid final list (record {
      len = cut.len ∙ state.len;
      count = cut.count;
      done = λ i d lt. cut.durable (get_or pairs i d).0 _ (home_over (length old) (length after) (get_or pairs i d).0 state.len (list.homes i d lt)) (state.done i d lt);
      others = λ addr home none value there. state.others addr home none value (cut.kept addr (home_over (length old) (length after) addr state.len home) value there);
    }) rest

cuts_left : (cuts : List ℕ) (old after final : List Word) → HasPages (length old) → IsLeft old after → MayCome cuts after final → IsLeft old final
cuts_left [] old after final size state same = subst (IsLeft old) (sym same) state
cuts_left (k ∷ ks) old after final size state (mid, leave, rest) =
    let cut = idle_cut after mid k (size_over (length old) (length after) state.len size) state.count leave in
    cuts_left ks old mid final size (record {
      len = cut.len ∙ state.len;
      count = cut.count;
      homes = λ addr home value there. state.homes addr home value (cut.kept addr (home_over (length old) (length after) addr state.len home) value there);
    }) rest

-- no pairs that are committed are stored
stored_none : (old after : List Word) → IsCommitted [] old after → IsStored [] old after
stored_none old after state = record { len = state.len; count = state.count; done = All-nil (λ (p : ℕ × ℕ). IsDurable after p.0 (laid_over [] p.0 p.1)); others = state.others }

cuts_committed : (cuts : List ℕ) (pairs : List (ℕ × ℕ)) (old after final : List Word) → IsList (length old) pairs → IsCommitted pairs old after → MayCome cuts after final
    → IsCommitted pairs old final ⊎ IsStored pairs old final
cuts_committed [] pairs old after final list state same = inl (subst (IsCommitted pairs old) (sym same) state)
cuts_committed (k ∷ ks) [] old after final list state come = inr (cuts_stored (k ∷ ks) [] old after final list (stored_none old after state) come)
cuts_committed (k ∷ ks) (p ∷ ps) old after final list state (mid, leave, rest) =
    by (cut_committed pairs old after mid k list state (subst (λ (qs : List (ℕ × ℕ)). MayLeave (made_all (take k (finish_any qs)) after) mid) (committed_is pairs old after state) leave))
    (λ next. cuts_committed ks pairs old mid final list next rest)
  where
    pairs : List (ℕ × ℕ)
    pairs = p ∷ ps

    by : IsCommitted pairs old mid ⊎ (IsStored pairs old mid × (length (phase pairs) < k)) → (IsCommitted pairs old mid → IsCommitted pairs old final ⊎ IsStored pairs old final) → IsCommitted pairs old final ⊎ IsStored pairs old final
    by (inl next) go = go next
    by (inr (next, past)) go = inr (cuts_stored ks pairs old mid final list next rest)

-- what was left can be finished
pub committed_readable : (pairs : List (ℕ × ℕ)) (old after : List Word) → IsList (length old) pairs → IsCommitted pairs old after → IsReadable after
committed_readable pairs old after list state =
    let here = list_over (length old) (length after) pairs state.len list in
    let count = state.count.present in
    let most = here.room in
    record { room = omega (arith, count, most); homes = All-same (λ (p : ℕ × ℕ). IsHome (length after) p.0) (committed after) pairs (committed_is pairs old after state) here.homes }

pub idle_readable : (after : List Word) → IsDurable after committed_word 0 → IsReadable after
idle_readable after count =
    let none = count.present in
    record { room = omega (arith, none); homes = All-same (λ (p : ℕ × ℕ). IsHome (length after) p.0) (committed after) [] (none_committed after count) (All-nil (λ (p : ℕ × ℕ). IsHome (length after) p.0)) }

-- what a whole `redo` leaves
redone_idle : (after : List Word) → IsDurable after committed_word 0 → IsFinish [] after (made_all (redo_events after) after)
redone_idle after count =
    subst (λ (ps : List (ℕ × ℕ)). IsFinish [] after (made_all (finish_any ps) after)) (sym (none_committed after count)) (nothing_is after count)

redone_committed : (pairs : List (ℕ × ℕ)) (old after : List Word) → IsList (length old) pairs → IsCommitted pairs old after → IsFinish pairs after (made_all (redo_events after) after)
redone_committed [] old after list state = redone_idle after state.count
redone_committed (p ∷ ps) old after list state =
    subst (λ (qs : List (ℕ × ℕ)). IsFinish (p ∷ ps) after (made_all (finish_any qs) after)) (sym (committed_is (p ∷ ps) old after state)) (finish_is after (p ∷ ps) (list_over (length old) (length after) (p ∷ ps) state.len list))

own_present : (old after new : Word) → Within old after → Shortened after new → Contains (crash_list old) new.present
own_present old after new within short = within new.present (within_shortened after new short new.present (Contains-push new.older new.present))

-- what stands at the end: the pairs are stored
record IsEnded (pairs : List (ℕ × ℕ)) (old new : List Word) : Type 0 where
  len : length new ≡ length old
  done : AreDone pairs new
  idle : IsDurable new committed_word 0
  others : (addr : ℕ) → IsHome (length old) addr → IsUnnamed pairs addr → Contains (crash_list (word_at old addr)) (word_at new addr).present

ended_committed : (pairs : List (ℕ × ℕ)) (old after : List Word) → IsList (length old) pairs → IsCommitted pairs old after → IsEnded pairs old (made_all (redo_events after) after)
ended_committed pairs old after list state =
    let finish = redone_committed pairs old after list state in
    record {
      len = finish.len ∙ state.len;
      done = finish.done;
      idle = finish.idle;
      others = λ addr home none.
          own_present (word_at old addr) (word_at after addr) (word_at (made_all (redo_events after) after) addr) (state.others addr home none) (finish.others addr (home_over (length old) (length after) addr state.len home) none);
    }

ended_stored : (pairs : List (ℕ × ℕ)) (old after : List Word) → IsList (length old) pairs → IsStored pairs old after → IsEnded pairs old (made_all (redo_events after) after)
ended_stored pairs old after list state = record {
  len = finish.len ∙ state.len;
  done = λ i d lt.
      let p = get_or pairs i d in
      let short = same p.0 (list.homes i d lt) in
      record { present = short.present ∙ (state.done i d lt).present; older = still_durable (word_at after p.0) (word_at new p.0) short (state.done i d lt).older };
  idle = finish.idle;
  others = λ addr home none. own_present (word_at old addr) (word_at after addr) (word_at new addr) (state.others addr home none) (same addr home);
}
  where
    new : List Word
    new = made_all (redo_events after) after

    finish : IsFinish [] after new
    finish = redone_idle after state.count

    same : (addr : ℕ) → IsHome (length old) addr → Shortened (word_at after addr) (word_at new addr)
    same addr home = finish.others addr (home_over (length old) (length after) addr state.len home) (All-nil (λ (p : ℕ × ℕ). p.0 ≢ addr))

-- a `redo` that is cut by any crashes
says_own : (words : List Word) (i n : ℕ) → All (λ (p : ℕ × ℕ). (word_at words p.0).present ≡ p.1) (journal_words i (map (pair_at words) (range_with_len i n)))
says_own words i zero = All-nil (λ (p : ℕ × ℕ). (word_at words p.0).present ≡ p.1)
says_own words i (suc n) =
    let rest = journal_words (i + 1) (map (pair_at words) (range_with_len (i + 1) n)) in
    All-cons (λ (p : ℕ × ℕ). (word_at words p.0).present ≡ p.1) (pair_address i, (pair_at words i).0) ((pair_value i, (pair_at words i).1) ∷ rest) refl
    (All-cons (λ (p : ℕ × ℕ). (word_at words p.0).present ≡ p.1) (pair_value i, (pair_at words i).1) rest refl (says_own words (i + 1) n))

begins_committed : (words : List Word) → IsSettled words → IsCommitted (committed words) words words
begins_committed words settled = record {
  len = refl;
  count = record { present = sym (length-map-range_with_len (pair_at words) 0 (committed_count words)); older = settled.count };
  journal = λ k d lt. record { present = says_own words 0 (committed_count words) k d lt; older = settled.pairs k d lt };
  others = λ addr home none value there. there;
}

pub cut_anywhere : CutLaw
cut_anywhere words cuts after size readable settled come = by (cuts_committed cuts pairs words words after list (begins_committed words settled) come)
  where
    pairs : List (ℕ × ℕ)
    pairs = committed words

    list : IsList (length words) pairs
    list = committed_list words size readable

    told : IsEnded pairs words (made_all (redo_events after) after) → (committed_count after ≡ 0 → AreDone pairs after) → IsRedone words after (made_all (redo_events after) after)
    told ended early = record { len = ended.len; done = ended.done; idle = ended.idle; others = ended.others; early = early }

    by : IsCommitted pairs words after ⊎ IsStored pairs words after → IsReadable after × IsRedone words after (made_all (redo_events after) after)
    by (inl state) = (
      committed_readable pairs words after list state,
      told (ended_committed pairs words after list state) (λ none i d lt. let count = state.count.present in absurd (omega (arith, count, none, lt))),
    )
    by (inr state) = (idle_readable after state.count, told (ended_stored pairs words after list state) (λ none. state.done))

-- a crash inside of the list of events: nothing is committed yet; or the pairs are; or they are stored, and all steps but the last few were made
abbrev Leaves : List Word → List (ℕ × ℕ) → List Word → ℕ → Type 0
Leaves words pairs left k =
    (IsLeft words left × (k ≤ length (steps_to_stored pairs))) ⊎ (IsCommitted pairs words left ⊎ (IsStored pairs words left × (length (steps_to_stored pairs) < k)))

first_crash : (words : List Word) (pairs : List (ℕ × ℕ)) (left : List Word) (k : ℕ) → IsReady words pairs → MayLeave (made_all (take k (journal_events pairs)) words) left
    → Leaves words pairs left k
first_crash words pairs left k ready leave = by (cases_lt (length (phase (journal_words 0 pairs))) k)
  where
    count : ℕ
    count = length words

    list : IsList count pairs
    list = ready_list words pairs ready

    word_inside : committed_word / 8 < count
    word_inside = (count_inside count ready.size).inside

    written : List Inner
    written = phase (journal_words 0 pairs)

    counted : List Inner
    counted = phase (count_pair (length pairs))

    first : List Word
    first = made_all written words

    second : List Word
    second = made_all counted first

    inside_run : (es : List Inner) (now : List Word) (addr : ℕ) → addr / 8 < length now → addr / 8 < length (made_all es now)
    inside_run es now addr lt = let size = length_run es now in omega (arith, size, lt)

    words_inside : All (λ (p : ℕ × ℕ). IsAddress count p.0) (journal_words 0 pairs)
    words_inside = let room = ready.room in words_have count 0 pairs ready.size (omega (arith, room))

    idle_first : IsDurable first committed_word 0
    idle_first = durable_kept written words committed_word 0 word_inside (count_from_words pairs) ready.idle

    homes_first : (addr : ℕ) → IsHome count addr → Shortened (word_at words addr) (word_at first addr)
    homes_first addr home = kept_by written words addr home.inside.inside (home_from_words count addr pairs ready.room home)

    journal_first : All (λ (p : ℕ × ℕ). IsDurable first p.0 p.1) (journal_words 0 pairs)
    journal_first i d lt =
        let p = get_or (journal_words 0 pairs) i d in
        let done = all_done words (journal_words 0 pairs) words_inside i d lt in
        record { present = done.present ∙ laid_own (journal_words 0 pairs) i d p.1 lt (words_apart 0 pairs); older = done.older }

    -- the pairs are written
    early : MayLeave (made_all (take k written) words) left → IsLeft words left
    early cut = record {
      len = cut.len ∙ length_run (take k written) words;
      count = durable_crashed (made_all (take k written) words) left committed_word 0 cut (inside_run (take k written) words committed_word word_inside)
          (durable_kept (take k written) words committed_word 0 word_inside (All-take (Spares committed_word) k written (count_from_words pairs)) ready.idle);
      homes = λ addr home value there.
          within_shortened (word_at words addr) (word_at (made_all (take k written) words) addr)
          (kept_by (take k written) words addr home.inside.inside (All-take (Spares addr) k written (home_from_words count addr pairs ready.room home))) value
          (within_crash (made_all (take k written) words) left addr cut (inside_run (take k written) words addr home.inside.inside) value there);
    }

    -- their number is
    middle : (j : ℕ) → MayLeave (made_all (take j counted) first) left → IsLeft words left ⊎ IsCommitted pairs words left
    middle j cut = which (count_either first (length pairs) j (word_at left committed_word).present 0 (inside_first committed_word word_inside) idle_first (cut.value (committed_word / 8) (inside_late committed_word word_inside)))
      where
        late : List Word
        late = made_all (take j counted) first

        inside_first : (addr : ℕ) → addr / 8 < count → addr / 8 < length first
        inside_first addr lt = inside_run written words addr lt

        inside_late : (addr : ℕ) → addr / 8 < count → addr / 8 < length late
        inside_late addr lt = inside_run (take j counted) first addr (inside_first addr lt)

        len : length left ≡ count
        len = cut.len ∙ length_run (take j counted) first ∙ length_run written words

        older : (word_at left committed_word).older ≡ []
        older = (crashed late left committed_word cut (inside_late committed_word word_inside)).older

        homes : (addr : ℕ) → IsHome count addr → Within (word_at words addr) (word_at left addr)
        homes addr home value there =
            let inside = home.inside.inside in
            within_shortened (word_at words addr) (word_at late addr)
            (shortened_then (word_at words addr) (word_at first addr) (word_at late addr) (homes_first addr home)
            (kept_by (take j counted) first addr (inside_first addr inside) (All-take (Spares addr) j counted (home_from_count count addr (length pairs) home))))
            value (within_crash late left addr cut (inside_late addr inside) value there)

        journal : All (λ (p : ℕ × ℕ). IsDurable left p.0 p.1) (journal_words 0 pairs)
        journal i d lt =
            let p = get_or (journal_words 0 pairs) i d in
            let inside = (words_inside i d lt).inside in
            durable_crashed late left p.0 p.1 cut (inside_late p.0 inside)
            (durable_kept (take j counted) first p.0 p.1 (inside_first p.0 inside) (All-take (Spares p.0) j counted (words_from_count p.0 (length pairs) (words_behind 0 pairs i d lt))) (journal_first i d lt))

        which : ((word_at left committed_word).present ≡ 0) ⊎ ((word_at left committed_word).present ≡ length pairs) → IsLeft words left ⊎ IsCommitted pairs words left
        which (inl e) = inl (record { len = len; count = record { present = e; older = older }; homes = homes })
        which (inr e) = inr (record { len = len; count = record { present = e; older = older }; journal = journal; others = λ addr home none. homes addr home })

    -- they are committed
    begun : IsBegun words second
    begun = begun_is words pairs ready.room

    at_second : IsCommitted pairs words second
    at_second = record {
      len = begun.len;
      count = count_done first (length pairs) (count_inside (length first) (size_over count (length first) (length_run written words) ready.size));
      journal = λ i d lt.
          let p = get_or (journal_words 0 pairs) i d in
          durable_kept counted first p.0 p.1 (inside_run written words p.0 (words_inside i d lt).inside) (words_from_count p.0 (length pairs) (words_behind 0 pairs i d lt)) (journal_first i d lt);
      others = λ addr home none. within_shortened (word_at words addr) (word_at second addr) (begun.homes addr home);
    }

    -- how many steps there are
    steps : length (steps_to_stored pairs) ≡ length written + length counted + length (phase pairs)
    steps =
        let one = length-append written (counted ++ phase pairs) in
        let two = length-append counted (phase pairs) in
        omega (arith, one, two)

    past : (j : ℕ) → k ≡ length written + j → (length counted < j) ⊎ (j ≤ length counted) → MayLeave (made_all (take j (counted ++ finish_events pairs)) first) left → Leaves words pairs left k
    past j is (inr le) cut = early_on (middle j (subst (λ (es : List Inner). MayLeave (made_all es first) left) (take-append-le j counted (finish_events pairs) le) cut))
      where
        early_on : IsLeft words left ⊎ IsCommitted pairs words left → Leaves words pairs left k
        early_on (inl state) = inl (state, let s = steps in omega (arith, le, is, s))
        early_on (inr state) = inr (inl state)
    past j is (inl lt) cut =
        later (cut_committed pairs words second left (j - length counted) list at_second
        (subst (λ (now : List Word). MayLeave now left)
        (ap (λ (es : List Inner). made_all es first) (take_past j counted (finish_events pairs) (omega (arith, lt))) ∙ fold-append made first counted (take (j - length counted) (finish_events pairs))) cut))
      where
        later : IsCommitted pairs words left ⊎ (IsStored pairs words left × (length (phase pairs) < j - length counted)) → Leaves words pairs left k
        later (inl state) = inr (inl state)
        later (inr (state, more)) = inr (inr (state, let s = steps in omega (arith, lt, is, s, more)))

    by : (length written < k) ⊎ (k ≤ length written) → Leaves words pairs left k
    by (inr le) = inl (early (subst (λ (es : List Inner). MayLeave (made_all es words) left) (take-append-le k written (counted ++ finish_events pairs) le) leave), let s = steps in omega (arith, le, s))
    by (inl lt) =
        past (k - length written) (omega (arith, lt)) (cases_lt (length counted) (k - length written))
        (subst (λ (now : List Word). MayLeave now left)
        (ap (λ (es : List Inner). made_all es words) (take_past k written (counted ++ finish_events pairs) (omega (arith, lt))) ∙ fold-append made words written (take (k - length written) (counted ++ finish_events pairs))) leave)

-- a list as long as none has no element
none_of : (P : ℕ × ℕ → Type 0) (pairs : List (ℕ × ℕ)) → length pairs ≡ 0 → All P pairs
none_of P pairs none k d lt = absurd (omega (arith, none, lt))

pub crash_anywhere : CrashLaw
crash_anywhere words pairs k cuts left after ready leave come = by (first_crash words pairs left k ready leave)
  where
    new : List Word
    new = made_all (redo_events after) after

    list : IsList (length words) pairs
    list = ready_list words pairs ready

    -- all are stored, and the crash came too late
    whole : IsEnded pairs words new → ((IsThrough (steps_to_stored pairs) k left → ⊥) → length pairs ≡ 0) → IsAllOrNone pairs k left words new
    whole ended through = record {
      len = ended.len;
      all = λ past. own_values pairs new words ready ended.done;
      none = λ early. none_of (λ (p : ℕ × ℕ). Contains (crash_list (word_at words p.0)) (word_at new p.0).present) pairs (through early);
      idle = ended.idle;
      others = ended.others;
    }

    none : IsLeft words after → (IsThrough (steps_to_stored pairs) k left → ⊥) → IsReadable after × IsAllOrNone pairs k left words new
    none state early = (
      idle_readable after state.count,
      record {
        len = finish.len ∙ state.len;
        all = λ past. absurd (early past);
        none = λ before i d lt. own (get_or pairs i d).0 (list.homes i d lt);
        idle = finish.idle;
        others = λ addr home unnamed. own addr home;
      },
    )
      where
        finish : IsFinish [] after new
        finish = redone_idle after state.count

        own : (addr : ℕ) → IsHome (length words) addr → Contains (crash_list (word_at words addr)) (word_at new addr).present
        own addr home =
            own_present (word_at words addr) (word_at after addr) (word_at new addr) (state.homes addr home)
            (finish.others addr (home_over (length words) (length after) addr state.len home) (All-nil (λ (p : ℕ × ℕ). p.0 ≢ addr)))

    -- where word 0 of the journal is 0 though its pairs are committed, there are none
    said : IsCommitted pairs words left → (IsThrough (steps_to_stored pairs) k left → ⊥) → length pairs ≡ 0
    said state early = by_count (cases_eq (word_at left committed_word).present 0)
      where
        by_count : ((word_at left committed_word).present ≡ 0) ⊎ ((word_at left committed_word).present ≡ 0 → ⊥) → length pairs ≡ 0
        by_count (inl e) = sym state.count.present ∙ e
        by_count (inr ne) = absurd (early (inl ne))

    ended : IsCommitted pairs words after ⊎ IsStored pairs words after → IsReadable after × IsEnded pairs words new
    ended (inl state) = (committed_readable pairs words after list state, ended_committed pairs words after list state)
    ended (inr state) = (idle_readable after state.count, ended_stored pairs words after list state)

    told : IsReadable after × IsEnded pairs words new → ((IsThrough (steps_to_stored pairs) k left → ⊥) → length pairs ≡ 0) → IsReadable after × IsAllOrNone pairs k left words new
    told end through = (end.0, whole end.1 through)

    too_early : IsLeft words left → k ≤ length (steps_to_stored pairs) → IsThrough (steps_to_stored pairs) k left → ⊥
    too_early state le (inl some) = some state.count.present
    too_early state le (inr past) = omega (arith, le, past)

    by : Leaves words pairs left k → IsReadable after × IsAllOrNone pairs k left words new
    by (inl (state, le)) = none (cuts_left cuts words left after ready.size state come) (too_early state le)
    by (inr (inl state)) = told (ended (cuts_committed cuts pairs words left after list state come)) (said state)
    by (inr (inr (state, past))) = told (ended (inr (cuts_stored cuts pairs words left after list state come))) (λ early. absurd (early (inr past)))
