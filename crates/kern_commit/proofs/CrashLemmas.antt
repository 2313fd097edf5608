-- A crash inside of a commit leaves the whole or none.
use Rattle.std.proofs.Common.{◌≡◌, ◌≢◌, ◌⊎◌, inl, inr, ℕ, ◌+◌, ◌-◌, ◌/◌, ◌<◌, ◌≤◌, List, [], ◌∷◌, ◌++◌, take, length, get_or, refl, sym, ap, subst, ◌∙◌, arith, All, Contains}
use Rattle.std.proofs.lemmas.Bool.{cases_lt}
use Rattle.std.proofs.lemmas.List.{take_all, take-append-le, append-nil, length-append}
use Rattle.std.proofs.lemmas.List.Elements.{All-take, All-append}
use Rattle.std.proofs.lemmas.List.Sums.{fold-append}
use Rattle.zo_layout.specs.Layout.{committed_word}
use Rattle.pm_words.specs.Word.{Word, crash_list}
use Rattle.pm_words.specs.Memory.{word_at}
use Rattle.pm_words.specs.Crash.{MayLeave}
use Rattle.kern_model.specs.declared.inner.Inner.{Inner}
use Rattle.kern_model.specs.Journal.{IsHome, IsReadable, laid_over}
use Rattle.kern_model.specs.Inner.{made, made_all, journal_events, redo_events}
use Rattle.kern_model.specs.JournalLaws.{IsDurable, IsUnnamed, MayCome, steps_to_stored, IsThrough}
use Rattle.kern_model.specs.JournalLaws as journal
use Rattle.kern_model.specs.KernelCalls.{in_order, zero_events, stored_events}
use Rattle.kern_model.specs.Commits.{MayCommit, IsCommitted, present_at}
use Rattle.kern_model.proofs.WordSteps.{Spares, length_run, within_shortened}
use Rattle.kern_model.proofs.LaidLemmas.{IsNamed, named_at, named_cases, laid_unnamed}
use Rattle.kern_model.proofs.PhaseLemmas.{kept_by, durable_kept, one_value, take_past}
use Rattle.kern_model.proofs.GivenSteps.{zeroes_spare}
use Rattle.kern_model.proofs.CutLemmas.{durable_crashed}
use Rattle.kern_model.proofs.CrashLemmas.{idle_readable, crash_anywhere}
use Rattle.kern_commit.proofs.OrderLemmas.{in_order_all, laid_in_order, named_in_order, named_place}
use Rattle.kern_commit.proofs.ZeroedLemmas.{zeroed_durable}
use Rattle.kern_commit.proofs.CommitLemmas.{named_is, away, stored_spares, spares_journal, ready, committed_is}
use Rattle.kern_commit.specs.Crashes.{IsThere, IsAsBefore, IsTaken, Survives, CommitCrashLaw, OthersLaw}
use Rattle.kern_commit.proofs.CrashWords.{Clears, zeros_clear, cleared, redo_none, idle_crashes}

module _ (words : List Word) (granted : List ℕ) (pairs : List (ℕ × ℕ)) (may : MayCommit words granted pairs) where
  abbrev zeros : List Inner
  zeros = zero_events granted

  abbrev mid : List Word
  mid = made_all (zero_events granted) words

  len_mid : length mid ≡ length words
  len_mid = length_run zeros words

  word_inside : committed_word / 8 < length words
  word_inside = let whole = may.size.whole in let least = may.size.least in omega (arith, whole, least)

  over : (es : List Inner) (addr : ℕ) → addr / 8 < length words → addr / 8 < length (made_all es words)
  over es addr lt = let len = length_run es words in omega (arith, len, lt)

  -- where all events are made
  whole : (cuts : List ℕ) (left after : List Word) → MayLeave (made_all (zero_events granted ++ stored_events pairs) words) left → MayCome cuts left after → IsThere granted pairs (made_all (redo_events after) after)
  whole cuts left after leave come = subst (IsThere granted pairs) (sym same) (record {
    stored = λ k d lt. durable_crashed done after (get_or pairs k d).0 _ crash (over (zero_events granted ++ stored_events pairs) _ (may.homes k d lt).inside.inside) (c.durable k d lt);
    zeroed = λ addr home given. (durable_crashed done after addr (laid_over pairs addr 0) crash (over (zero_events granted ++ stored_events pairs) addr (here addr home).inside.inside) (c.zeroed addr (here addr home) given)).present;
  })
    where
      done : List Word
      done = made_all (zero_events granted ++ stored_events pairs) words

      c : IsCommitted granted pairs words (made_all (zero_events granted ++ stored_events pairs) words)
      c = committed_is words granted pairs may

      crash : MayLeave (made_all (zero_events granted ++ stored_events pairs) words) after
      crash = idle_crashes cuts (made_all (zero_events granted ++ stored_events pairs) words) left after (over (zero_events granted ++ stored_events pairs) committed_word word_inside) c.idle leave come

      same : made_all (redo_events after) after ≡ after
      same = ap (λ (es : List Inner). made_all es after) (redo_none after (durable_crashed (made_all (zero_events granted ++ stored_events pairs) words) after committed_word 0 crash (over (zero_events granted ++ stored_events pairs) committed_word word_inside) c.idle))

      here : (addr : ℕ) → IsHome (length after) addr → IsHome (length words) addr
      here addr home = subst (λ (n : ℕ). IsHome n addr) (crash.len ∙ length_run (zero_events granted ++ stored_events pairs) words) home

  -- before anything is committed: pages are zeroed, in part or whole
  zeroing : (count : ℕ) (es : List Inner) (cuts : List ℕ) (left after : List Word) → All Clears es → ((addr : ℕ) → All (Spares addr) (zero_events granted) → All (Spares addr) es) → MayLeave (made_all es words) left
      → MayCome cuts left after → (length (zero_events granted ++ steps_to_stored (in_order pairs)) < count → IsThere granted pairs (made_all (redo_events after) after))
      → (length (zero_events granted ++ stored_events pairs) ≤ count → IsThere granted pairs (made_all (redo_events after) after)) → Survives granted pairs words count left after
  zeroing count es cuts left after clears some leave come past at_end = record {
    readable = idle_readable after idle_after;
    whole_or_none = record {
      len = ap (λ (ws : List Word). length ws) same ∙ crash.len ∙ length_run es words;
      idle = subst (λ (ws : List Word). IsDurable ws committed_word 0) (sym same) idle_after;
      whole = taken;
      none = λ early k d lt. before (get_or pairs k d).0 (may.homes k d lt);
      others = λ addr home none. before addr home;
    };
    at_end = at_end;
  }
    where
      idle_now : IsDurable (made_all es words) committed_word 0
      idle_now = durable_kept es words committed_word 0 word_inside (some committed_word (spares_journal words granted pairs may)) may.idle

      taken : IsTaken granted pairs count left → IsThere granted pairs (made_all (redo_events after) after)
      taken (inl some_left) = absurd (some_left (durable_crashed (made_all es words) left committed_word 0 leave (over es committed_word word_inside) idle_now).present)
      taken (inr late) = past late

      crash : MayLeave (made_all es words) after
      crash = idle_crashes cuts (made_all es words) left after (over es committed_word word_inside) idle_now leave come

      idle_after : IsDurable after committed_word 0
      idle_after = durable_crashed (made_all es words) after committed_word 0 crash (over es committed_word word_inside) idle_now

      same : made_all (redo_events after) after ≡ after
      same = ap (λ (events : List Inner). made_all events after) (redo_none after idle_after)

      before : (addr : ℕ) → IsHome (length words) addr → IsAsBefore granted words (made_all (redo_events after) after) addr
      before addr home =
          subst (λ (ws : List Word). IsAsBefore granted words ws addr) (sym same)
          (cleared granted es words addr (present_at after addr) home.inside clears (some addr) (crash.value (addr / 8) (over es addr home.inside.inside)))

  -- once the pages are zeroed, the pairs go through the journal
  storing : (count k : ℕ) (cuts : List ℕ) (left after : List Word) → count ≡ length (zero_events granted) + k → MayLeave (made_all (take k (journal_events (in_order pairs))) mid) left → MayCome cuts left after
      → (length (zero_events granted ++ stored_events pairs) ≤ count → IsThere granted pairs (made_all (redo_events after) after)) → Survives granted pairs words count left after
  storing count k cuts left after is leave come at_end = record {
    readable = crash.0;
    whole_or_none = record {
      len = state.len ∙ len_mid;
      idle = state.idle;
      whole = λ taken. done_all (state.all (told taken));
      none = λ early. as_before (state.none (λ through. early (untold through)));
      others = λ addr home none. before addr home (state.others addr (home_mid addr home) (in_order_all (λ (p : ℕ × ℕ). p.0 ≢ addr) pairs none));
    };
    at_end = at_end;
  }
    where
      new : List Word
      new = made_all (redo_events after) after

      can : journal.IsReady mid (in_order pairs)
      can = ready words granted pairs may

      crash : IsReadable after × journal.IsAllOrNone (in_order pairs) k left mid new
      crash = crash_anywhere mid (in_order pairs) k cuts left after can leave come

      state : journal.IsAllOrNone (in_order pairs) k left mid new
      state = crash.1

      home_mid : (addr : ℕ) → IsHome (length words) addr → IsHome (length mid) addr
      home_mid addr home = subst (λ (n : ℕ). IsHome n addr) (sym len_mid) home

      before : (addr : ℕ) → IsHome (length words) addr → Contains (crash_list (word_at mid addr)) (present_at new addr) → IsAsBefore granted words new addr
      before addr home there = cleared granted zeros words addr (present_at new addr) home.inside (zeros_clear granted) (λ all. all) there

      named : (addr default : ℕ) → All (λ (p : ℕ × ℕ). IsDurable new p.0 p.1) (in_order pairs) → IsNamed (in_order pairs) addr → IsDurable new addr (laid_over pairs addr default)
      named addr default done there = subst (IsDurable new addr) (laid_in_order pairs addr default) (named_is new (in_order pairs) mid addr default can done there)

      zeroed : All (λ (p : ℕ × ℕ). IsDurable new p.0 p.1) (in_order pairs) → (addr : ℕ) → IsHome (length words) addr → Contains granted (addr / 4096) → present_at new addr ≡ laid_over pairs addr 0
      zeroed done addr home given = by (named_cases (in_order pairs) addr)
        where
          by : IsUnnamed (in_order pairs) addr ⊎ IsNamed (in_order pairs) addr → present_at new addr ≡ laid_over pairs addr 0
          by (inl none) =
              let zero_there = zeroed_durable granted words addr home.inside.aligned home.inside.inside given in
              one_value (word_at mid addr).older (word_at mid addr).present (present_at new addr) zero_there.older (state.others addr (home_mid addr home) none)
              ∙ zero_there.present ∙ sym (laid_unnamed (in_order pairs) addr 0 none) ∙ laid_in_order pairs addr 0
          by (inr there) = (named addr 0 done there).present

      in_place : (k : ℕ) (d : ℕ × ℕ) → k < length pairs → IsNamed (in_order pairs) (get_or pairs k d).0
      in_place k d lt = named_in_order pairs (get_or pairs k d).0 (named_at pairs k d lt)

      steps : length (zero_events granted ++ steps_to_stored (in_order pairs)) ≡ length zeros + length (steps_to_stored (in_order pairs))
      steps = length-append zeros (steps_to_stored (in_order pairs))

      told : IsTaken granted pairs count left → IsThrough (steps_to_stored (in_order pairs)) k left
      told (inl some) = inl some
      told (inr late) = inr (let s = steps in omega (arith, s, is, late))

      untold : IsThrough (steps_to_stored (in_order pairs)) k left → IsTaken granted pairs count left
      untold (inl some) = inl some
      untold (inr late) = inr (let s = steps in omega (arith, s, is, late))

      done_all : All (λ (p : ℕ × ℕ). IsDurable new p.0 p.1) (in_order pairs) → IsThere granted pairs new
      done_all done = record {
        stored = λ k d lt. named (get_or pairs k d).0 (get_or pairs k d).1 done (in_place k d lt);
        zeroed = λ addr home given. zeroed done addr (subst (λ (n : ℕ). IsHome n addr) (state.len ∙ len_mid) home) given;
      }

      as_before : All (λ (p : ℕ × ℕ). Contains (crash_list (word_at mid p.0)) (word_at new p.0).present) (in_order pairs) → All (λ (p : ℕ × ℕ). IsAsBefore granted words new p.0) pairs
      as_before old k d lt =
          let addr = (get_or pairs k d).0 in
          let (i, less, at) = named_place (in_order pairs) addr (in_place k d lt) in
          before addr (may.homes k d lt) (subst (λ (a : ℕ). Contains (crash_list (word_at mid a)) (present_at new a)) at (old i (0, 0) less))

  survives : (count : ℕ) (cuts : List ℕ) (left after : List Word) → MayLeave (made_all (take count (zero_events granted ++ stored_events pairs)) words) left → MayCome cuts left after
      → Survives granted pairs words count left after
  survives count cuts left after leave come = by (cases_lt (length zeros) count)
    where
      at_end : length (zero_events granted ++ stored_events pairs) ≤ count → IsThere granted pairs (made_all (redo_events after) after)
      at_end le = whole cuts left after (subst (λ (es : List Inner). MayLeave (made_all es words) left) (take_all count (zero_events granted ++ stored_events pairs) le) leave) come

      later : length zeros ≤ count → (listed : List (ℕ × ℕ)) → pairs ≡ listed → Survives granted pairs words count left after
      later le [] none =
          let same : take count (zero_events granted ++ stored_events pairs) ≡ zeros =
          ap (λ (ps : List (ℕ × ℕ)). take count (zeros ++ stored_events ps)) none ∙ ap (λ (es : List Inner). take count es) (append-nil zeros) ∙ take_all count zeros le in
          zeroing count zeros cuts left after (zeros_clear granted) (λ addr all. all) (subst (λ (es : List Inner). MayLeave (made_all es words) left) same leave) come
          (λ late. at_end (let whole = ap (λ (ps : List (ℕ × ℕ)). length (zeros ++ stored_events ps)) none ∙ ap (λ (es : List Inner). length es) (append-nil zeros) in omega (arith, whole, le))) at_end
      later le (p ∷ ps) some =
          let stored : stored_events pairs ≡ journal_events (in_order pairs) =
          ap (λ (qs : List (ℕ × ℕ)). stored_events qs) some ∙ sym (ap (λ (qs : List (ℕ × ℕ)). journal_events (in_order qs)) some) in
          let k = count - length zeros in
          let same : take count (zero_events granted ++ stored_events pairs) ≡ zeros ++ take k (journal_events (in_order pairs)) =
          take_past count zeros (stored_events pairs) le ∙ ap (λ (es : List Inner). zeros ++ take k es) stored in
          let run : made_all (take count (zero_events granted ++ stored_events pairs)) words ≡ made_all (take k (journal_events (in_order pairs))) mid =
          ap (λ (es : List Inner). made_all es words) same ∙ fold-append made words zeros (take k (journal_events (in_order pairs))) in
          storing count k cuts left after (omega (arith, le)) (subst (λ (ws : List Word). MayLeave ws left) run leave) come at_end

      by : (length zeros < count) ⊎ (count ≤ length zeros) → Survives granted pairs words count left after
      by (inl lt) = later (omega (arith, lt)) pairs refl
      by (inr le) =
          zeroing count (take count zeros) cuts left after (All-take Clears count zeros (zeros_clear granted)) (λ addr all. All-take (Spares addr) count zeros all)
          (subst (λ (es : List Inner). MayLeave (made_all es words) left) (take-append-le count zeros (stored_events pairs) le) leave) come
          (λ late. let longer = length-append zeros (steps_to_stored (in_order pairs)) in absurd (omega (arith, longer, late, le))) at_end

pub commits_survive : CommitCrashLaw
commits_survive words granted pairs count cuts left after may = survives words granted pairs may count cuts left after

pub others_kept : OthersLaw
others_kept words granted pairs addr may home apart none =
    let short =
    kept_by (zero_events granted ++ stored_events pairs) words addr home.inside.inside
    (All-append (Spares addr) (zero_events granted) (stored_events pairs) (zeroes_spare addr granted home.inside.aligned (away words granted pairs may addr apart))
    (stored_spares (length words) addr pairs may.room (in_order_all (λ (p : ℕ × ℕ). IsHome (length words) p.0) pairs may.homes) home (in_order_all (λ (p : ℕ × ℕ). p.0 ≢ addr) pairs none))) in
    record { present = short.present; list = within_shortened (word_at words addr) (word_at (made_all (zero_events granted ++ stored_events pairs) words) addr) short }
