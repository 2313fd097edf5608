-- What finishing a list of pairs leaves, and what the whole list of events does.
use Rattle.std.proofs.Common.{◌≡◌, ◌≢◌, ℕ, ◌/◌, ◌<◌, ◌≤◌, List, [], ◌∷◌, ◌++◌, length, get_or, map, refl, sym, ap, subst, ◌∙◌, inl, inr, ◌⊎◌, arith, All}
use Rattle.std.specs.List.{range_with_len}
use Rattle.std.proofs.lemmas.Bool.{cases_eq}
use Rattle.std.proofs.lemmas.List.Elements.{All-weaker, All-nil}
use Rattle.std.proofs.lemmas.List.FromFn.{length-map-range_with_len}
use Rattle.std.proofs.lemmas.List.Sums.{fold-append}
use Rattle.zo_layout.specs.Layout.{pair_capacity, committed_word}
use Rattle.pm_words.specs.Word.{Word}
use Rattle.pm_words.specs.Memory.{word_at, IsAddress, HasPages}
use Rattle.kern_model.specs.declared.inner.Inner.{Inner}
use Rattle.kern_model.specs.Inner.{made, made_all, phase}
use Rattle.kern_model.specs.Inner.{IsHome, IsReadable, committed, committed_count, pair_at, laid_over, journal_words, count_pair, finish_events, finish_any, redo_events}
use Rattle.kern_model.specs.JournalLaws.{IsDurable, IsUnnamed, AreDone, IsReady, IsApplied, IsFinished, ApplyLaw, ViewLaw, IdleLaw}
use Rattle.kern_model.proofs.EventLemmas.{count_inside}
use Rattle.kern_model.proofs.WordSteps.{length_run, Shortened, same_word, shortened_then, within_shortened}
use Rattle.kern_model.proofs.LaidLemmas.{IsNamed, named_cases, laid_unnamed, laid_own}
use Rattle.kern_model.proofs.PhaseLemmas.{kept_by, phase_done, all_done, done_kept, home_from_words, home_from_count, unnamed_spared, count_done}

-- pairs that the journal has room for, for words outside its pages
pub record IsList (count : ℕ) (pairs : List (ℕ × ℕ)) : Type 0 where
  pub size : HasPages count
  pub room : length pairs ≤ pair_capacity (count / 512)
  pub homes : All (λ (p : ℕ × ℕ). IsHome count p.0) pairs

pub list_over : (one two : ℕ) (pairs : List (ℕ × ℕ)) → two ≡ one → IsList one pairs → IsList two pairs
list_over one two pairs same list = subst (λ (n : ℕ). IsList n pairs) (sym same) list

pub home_over : (one two addr : ℕ) → two ≡ one → IsHome one addr → IsHome two addr
home_over one two addr same home = subst (λ (n : ℕ). IsHome n addr) (sym same) home

pub addresses : (count : ℕ) (pairs : List (ℕ × ℕ)) → IsList count pairs → All (λ (p : ℕ × ℕ). IsAddress count p.0) pairs
addresses count pairs list = All-weaker (λ (p : ℕ × ℕ). IsHome count p.0) (λ (p : ℕ × ℕ). IsAddress count p.0) (λ p home. home.inside) pairs list.homes

-- what finishing leaves
pub record IsFinish (pairs : List (ℕ × ℕ)) (words new : List Word) : Type 0 where
  pub len : length new ≡ length words
  pub idle : IsDurable new committed_word 0
  pub done : AreDone pairs new
  pub values : (addr : ℕ) → IsHome (length words) addr → (word_at new addr).present ≡ laid_over pairs addr (word_at words addr).present
  pub others : (addr : ℕ) → IsHome (length words) addr → IsUnnamed pairs addr → Shortened (word_at words addr) (word_at new addr)

pub finish_is : (words : List Word) (pairs : List (ℕ × ℕ)) → IsList (length words) pairs → IsFinish pairs words (made_all (finish_events pairs) words)
finish_is words pairs list = subst (IsFinish pairs words) (sym (fold-append made words (phase pairs) (phase (count_pair 0)))) (record {
  len = length_run (phase (count_pair 0)) first ∙ len;
  idle = count_done first 0 (count_inside (length first) (over_size list.size));
  done = done_kept (phase (count_pair 0)) first pairs (addresses (length first) pairs over) (λ k d lt. home_from_count (length first) (get_or pairs k d).0 0 (over.homes k d lt)) (all_done words pairs (addresses (length words) pairs list));
  values = λ addr home. value addr home (named_cases pairs addr);
  others = others;
})
  where
    first : List Word
    first = made_all (phase pairs) words

    len : length first ≡ length words
    len = length_run (phase pairs) words

    over_size : HasPages (length words) → HasPages (length first)
    over_size size = subst HasPages (sym len) size

    over : IsList (length first) pairs
    over = list_over (length words) (length first) pairs len list

    last : (addr : ℕ) → IsHome (length words) addr → Shortened (word_at first addr) (word_at (made_all (phase (count_pair 0)) first) addr)
    last addr home =
        let inside = home.inside.inside in
        let size = len in
        kept_by (phase (count_pair 0)) first addr (omega (arith, inside, size)) (home_from_count (length words) addr 0 home)

    others : (addr : ℕ) → IsHome (length words) addr → IsUnnamed pairs addr → Shortened (word_at words addr) (word_at (made_all (phase (count_pair 0)) first) addr)
    others addr home none =
        shortened_then (word_at words addr) (word_at first addr) (word_at (made_all (phase (count_pair 0)) first) addr)
        (kept_by (phase pairs) words addr home.inside.inside (unnamed_spared (length words) addr pairs list.homes home none)) (last addr home)

    value : (addr : ℕ) → IsHome (length words) addr → IsUnnamed pairs addr ⊎ IsNamed pairs addr
        → (word_at (made_all (phase (count_pair 0)) first) addr).present ≡ laid_over pairs addr (word_at words addr).present
    value addr home (inl none) = (others addr home none).present ∙ sym (laid_unnamed pairs addr (word_at words addr).present none)
    value addr home (inr named) =
        (last addr home).present ∙ (phase_done words pairs addr home.inside (λ k d lt. (list.homes k d lt).inside.aligned) named).present

-- where nothing is committed, the kernel reads the words themselves
pub idle_read : IdleLaw
idle_read words addr none = ap (λ (n : ℕ). laid_over (map (pair_at words) (range_with_len 0 n)) addr (word_at words addr).present) none

pub committed_list : (words : List Word) → HasPages (length words) → IsReadable words → IsList (length words) (committed words)
committed_list words size readable =
    let count : length (committed words) ≡ committed_count words = length-map-range_with_len (pair_at words) 0 (committed_count words) in
    let most = readable.room in
    record { size = size; room = omega (arith, count, most); homes = readable.homes }

-- finishing nothing leaves everything
pub nothing_is : (words : List Word) → IsDurable words committed_word 0 → IsFinish [] words words
nothing_is words durable = record {
  len = refl;
  idle = durable;
  done = All-nil (λ (p : ℕ × ℕ). IsDurable words p.0 (laid_over [] p.0 p.1));
  values = λ addr home. refl;
  others = λ addr home none. same_word (word_at words addr);
}

some_any : (pairs : List (ℕ × ℕ)) → 0 < length pairs → finish_events pairs ≡ finish_any pairs
some_any [] some = absurd (omega arith)
some_any (p ∷ pairs) some = refl

finished_none : (words : List Word) → committed_count words ≡ 0 → IsFinished words words
finished_none words none = record {
  len = refl;
  idle = none;
  durable = durable;
  done = subst (λ (ps : List (ℕ × ℕ)). AreDone ps words) (sym empty) (All-nil (λ (p : ℕ × ℕ). IsDurable words p.0 (laid_over [] p.0 p.1)));
  values = λ addr home. sym (idle_read words addr none);
  view = λ addr home. refl;
  others = λ addr home unnamed. record { present = refl; list = λ value there. there };
}
  where
    empty : committed words ≡ []
    empty = ap (λ (n : ℕ). map (pair_at words) (range_with_len 0 n)) none

    durable : (committed_count words ≢ 0) ⊎ ((word_at words committed_word).older ≡ []) → IsDurable words committed_word 0
    durable (inl some) = absurd (some none)
    durable (inr older) = record { present = none; older = older }

finished_some : (words : List Word) → HasPages (length words) → IsReadable words → committed_count words ≢ 0 → IsFinished words (made_all (redo_events words) words)
finished_some words size readable some = record {
  len = finish.len;
  idle = finish.idle.present;
  durable = λ either. finish.idle;
  done = finish.done;
  values = finish.values;
  view = λ addr home. idle_read (made_all (redo_events words) words) addr finish.idle.present ∙ finish.values addr home;
  others = λ addr home none.
      let short = finish.others addr home none in
      record { present = short.present; list = within_shortened (word_at words addr) (word_at (made_all (redo_events words) words) addr) short };
}
  where
    count : length (committed words) ≡ committed_count words
    count = length-map-range_with_len (pair_at words) 0 (committed_count words)

    finish : IsFinish (committed words) words (made_all (redo_events words) words)
    finish =
        subst (λ (es : List Inner). IsFinish (committed words) words (made_all es words)) (some_any (committed words) (let is = count in let ne = some in omega (arith, is, ne)))
        (finish_is words (committed words) (committed_list words size readable))

pub finished : ViewLaw
finished words size readable = by (cases_eq (committed_count words) 0)
  where
    by : (committed_count words ≡ 0) ⊎ (committed_count words ≢ 0) → IsFinished words (made_all (redo_events words) words)
    by (inl none) =
        subst (λ (es : List Inner). IsFinished words (made_all es words)) (sym (ap (λ (n : ℕ). finish_any (map (pair_at words) (range_with_len 0 n))) none)) (finished_none words none)
    by (inr some) = finished_some words size readable some

-- what the phases of the journal leave outside it, before the pairs are finished
pub record IsBegun (words new : List Word) : Type 0 where
  pub len : length new ≡ length words
  pub homes : (addr : ℕ) → IsHome (length words) addr → Shortened (word_at words addr) (word_at new addr)

pub begun_is : (words : List Word) (pairs : List (ℕ × ℕ)) → length pairs ≤ pair_capacity (length words / 512) → IsBegun words (made_all (phase (count_pair (length pairs))) (made_all (phase (journal_words 0 pairs)) words))
begun_is words pairs room = record {
  len = length_run (phase (count_pair (length pairs))) first ∙ len;
  homes = λ addr home.
      let inside = home.inside.inside in
      let size = len in
      shortened_then (word_at words addr) (word_at first addr) (word_at (made_all (phase (count_pair (length pairs))) first) addr)
      (kept_by (phase (journal_words 0 pairs)) words addr home.inside.inside (home_from_words (length words) addr pairs room home))
      (kept_by (phase (count_pair (length pairs))) first addr (omega (arith, inside, size)) (home_from_count (length words) addr (length pairs) home));
}
  where
    first : List Word
    first = made_all (phase (journal_words 0 pairs)) words

    len : length first ≡ length words
    len = length_run (phase (journal_words 0 pairs)) words

pub own_values : (pairs : List (ℕ × ℕ)) (words : List Word) (old : List Word) → IsReady old pairs → AreDone pairs words → All (λ (p : ℕ × ℕ). IsDurable words p.0 p.1) pairs
own_values pairs words old ready done k d lt =
    let p = get_or pairs k d in
    record { present = (done k d lt).present ∙ laid_own pairs k d p.1 lt ready.different; older = (done k d lt).older }

pub ready_list : (words : List Word) (pairs : List (ℕ × ℕ)) → IsReady words pairs → IsList (length words) pairs
ready_list words pairs ready = record { size = ready.size; room = ready.room; homes = ready.homes }

pub applied : ApplyLaw
applied words pairs ready =
    subst (IsApplied pairs words)
    (sym (fold-append made words (phase (journal_words 0 pairs)) (phase (count_pair (length pairs)) ++ finish_events pairs) ∙ fold-append made first (phase (count_pair (length pairs))) (finish_events pairs)))
    (record {
      len = finish.len ∙ begun.len;
      done = own_values pairs new words ready finish.done;
      idle = finish.idle;
      others = λ addr home none.
          let short = shortened_then (word_at words addr) (word_at second addr) (word_at new addr) (begun.homes addr home)
          (finish.others addr (home_over (length words) (length second) addr begun.len home) none) in
          record { present = short.present; list = within_shortened (word_at words addr) (word_at new addr) short };
    })
  where
    first : List Word
    first = made_all (phase (journal_words 0 pairs)) words

    second : List Word
    second = made_all (phase (count_pair (length pairs))) first

    new : List Word
    new = made_all (finish_events pairs) second

    begun : IsBegun words second
    begun = begun_is words pairs ready.room

    finish : IsFinish pairs second new
    finish = finish_is second pairs (list_over (length words) (length second) pairs begun.len (ready_list words pairs ready))
