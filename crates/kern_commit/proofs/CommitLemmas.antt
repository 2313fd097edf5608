-- What a commit leaves.
use Rattle.std.proofs.Common.{◌≡◌, ◌≢◌, ◌⊎◌, inl, inr, ℕ, ◌/◌, ◌≤◌, List, [], ◌∷◌, ◌++◌, length, get_or, refl, sym, subst, ◌∙◌, arith, All, Contains}
use Rattle.std.proofs.lemmas.List.Elements.{All-nil, All-append, All-weaker, Contains-get_or}
use Rattle.std.proofs.lemmas.List.Sums.{fold-append}
use Rattle.zo_layout.specs.Layout.{committed_word, pair_capacity}
use Rattle.pm_words.specs.Word.{Word}
use Rattle.pm_words.specs.Memory.{HasPages}
use Rattle.kern_model.specs.Kernel.{read_after}
use Rattle.kern_model.specs.Inner.{IsHome, made, made_all, phase, journal_words, count_pair, finish_events, journal_events, laid_over}
use Rattle.kern_model.specs.JournalLaws.{IsDurable, IsUnnamed, IsReady, IsApplied}
use Rattle.kern_model.specs.KernelCalls.{in_order, zero_events, stored_events}
use Rattle.kern_model.specs.Commits.{IsOuter, MayCommit, IsCommitted, CommitLaw, present_at}
use Rattle.kern_model.proofs.WordSteps.{Spares, length_run}
use Rattle.kern_model.proofs.LaidLemmas.{IsNamed, named_at, named_cases, laid_unnamed, laid_own}
use Rattle.kern_model.proofs.PhaseLemmas.{durable_kept, kept_by, home_from_words, home_from_count, unnamed_spared}
use Rattle.kern_model.proofs.FinishLemmas.{applied}
use Rattle.kern_model.proofs.GivenSteps.{zeroes_spare, rising_differ}
use Rattle.kern_commit.proofs.OrderLemmas.{in_order_all, in_order_rises, laid_in_order, named_in_order, named_place}
use Rattle.kern_commit.proofs.ZeroedLemmas.{zeroed_durable}

stored_is : (words : List Word) (pairs : List (ℕ × ℕ)) → IsReady words (in_order pairs) → IsApplied (in_order pairs) words (made_all (stored_events pairs) words)
stored_is words [] ready = record { len = refl; done = All-nil (λ (p : ℕ × ℕ). IsDurable words p.0 p.1); idle = ready.idle; others = λ addr home none. record { present = refl; list = λ value there. there } }
stored_is words (p ∷ pairs) ready = applied words (in_order (p ∷ pairs)) ready

-- the journal stores nothing in a word outside it that no pair names
journal_spares : (count addr : ℕ) (pairs : List (ℕ × ℕ)) → length pairs ≤ pair_capacity (count / 512) → All (λ (p : ℕ × ℕ). IsHome count p.0) pairs → IsHome count addr → IsUnnamed pairs addr
    → All (Spares addr) (journal_events pairs)
journal_spares count addr pairs room homes home none =
    All-append (Spares addr) (phase (journal_words 0 pairs)) (phase (count_pair (length pairs)) ++ finish_events pairs) (home_from_words count addr pairs room home)
    (All-append (Spares addr) (phase (count_pair (length pairs))) (finish_events pairs) (home_from_count count addr (length pairs) home)
    (All-append (Spares addr) (phase pairs) (phase (count_pair 0)) (unnamed_spared count addr pairs homes home none) (home_from_count count addr 0 home)))

pub stored_spares : (count addr : ℕ) (pairs : List (ℕ × ℕ)) → length (in_order pairs) ≤ pair_capacity (count / 512) → All (λ (p : ℕ × ℕ). IsHome count p.0) (in_order pairs) → IsHome count addr
    → IsUnnamed (in_order pairs) addr → All (Spares addr) (stored_events pairs)
stored_spares count addr [] room homes home none = All-nil (Spares addr)
stored_spares count addr (p ∷ pairs) room homes home none = journal_spares count addr (in_order (p ∷ pairs)) room homes home none

-- a word that a pair names has the value that is laid over it
pub named_is : (words : List Word) (pairs : List (ℕ × ℕ)) (old : List Word) (addr default : ℕ) → IsReady old pairs → All (λ (p : ℕ × ℕ). IsDurable words p.0 p.1) pairs → IsNamed pairs addr
    → IsDurable words addr (laid_over pairs addr default)
named_is words pairs old addr default ready done named =
    let (k, lt, at) = named_place pairs addr named in
    subst (λ (a : ℕ). IsDurable words a (laid_over pairs a default)) at
    (subst (λ (v : ℕ). IsDurable words (get_or pairs k (0, 0)).0 v) (sym (laid_own pairs k (0, 0) default lt ready.different)) (done k (0, 0) lt))

module _ (words : List Word) (granted : List ℕ) (pairs : List (ℕ × ℕ)) (may : MayCommit words granted pairs) where
  abbrev mid : List Word
  mid = made_all (zero_events granted) words

  abbrev new : List Word
  new = made_all (stored_events pairs) mid

  len_mid : length mid ≡ length words
  len_mid = length_run (zero_events granted) words

  -- where nothing of the pages is stored, the word has its value still
  pub away : (addr : ℕ) → (Contains granted (addr / 4096) → ⊥) → All (λ page. addr / 4096 ≢ page) granted
  away addr none k d lt e = none (subst (Contains granted) (sym e) (Contains-get_or granted k d lt))

  pub spares_journal : All (Spares committed_word) (zero_events granted)
  spares_journal =
      zeroes_spare committed_word granted refl (All-weaker (IsOuter words) (λ page. committed_word / 4096 ≢ page) (λ page outer e. let past = outer.past in omega (arith, past, e)) granted may.pages)

  pub ready : IsReady mid (in_order pairs)
  ready = record {
    size = subst HasPages (sym len_mid) may.size;
    room = subst (λ (n : ℕ). length (in_order pairs) ≤ pair_capacity (n / 512)) (sym len_mid) may.room;
    different = rising_differ 0 (in_order pairs) (in_order_rises pairs);
    homes = in_order_all (λ (p : ℕ × ℕ). IsHome (length mid) p.0) pairs (subst (λ (n : ℕ). All (λ (p : ℕ × ℕ). IsHome n p.0) pairs) (sym len_mid) may.homes);
    idle = durable_kept (zero_events granted) words committed_word 0 (let whole = may.size.whole in let least = may.size.least in omega (arith, whole, least)) spares_journal may.idle;
  }

  after : IsApplied (in_order pairs) mid new
  after = stored_is mid pairs ready

  home_mid : (addr : ℕ) → IsHome (length words) addr → IsHome (length mid) addr
  home_mid addr home = subst (λ (n : ℕ). IsHome n addr) (sym len_mid) home

  named : (addr default : ℕ) → IsNamed (in_order pairs) addr → IsDurable new addr (laid_over pairs addr default)
  named addr default there =
      subst (IsDurable new addr) (laid_in_order pairs addr default) (named_is new (in_order pairs) mid addr default ready after.done there)

  -- what is laid over a word that no pair names
  unlaid : (addr default : ℕ) → IsUnnamed (in_order pairs) addr → default ≡ laid_over pairs addr default
  unlaid addr default none = sym (laid_unnamed (in_order pairs) addr default none) ∙ laid_in_order pairs addr default

  reads : (addr : ℕ) → IsHome (length words) addr → (Contains granted (addr / 4096) → ⊥) → present_at new addr ≡ read_after pairs (present_at words) addr
  reads addr home apart = by (named_cases (in_order pairs) addr)
    where
      by : IsUnnamed (in_order pairs) addr ⊎ IsNamed (in_order pairs) addr → present_at new addr ≡ read_after pairs (present_at words) addr
      by (inl none) =
          (after.others addr (home_mid addr home) none).present
          ∙ (kept_by (zero_events granted) words addr home.inside.inside (zeroes_spare addr granted home.inside.aligned (away addr apart))).present
          ∙ unlaid addr (present_at words addr) none
      by (inr there) = (named addr (present_at words addr) there).present

  zeroed : (addr : ℕ) → IsHome (length words) addr → Contains granted (addr / 4096) → IsDurable new addr (laid_over pairs addr 0)
  zeroed addr home given = by (named_cases (in_order pairs) addr)
    where
      by : IsUnnamed (in_order pairs) addr ⊎ IsNamed (in_order pairs) addr → IsDurable new addr (laid_over pairs addr 0)
      by (inl none) =
          subst (IsDurable new addr) (unlaid addr 0 none)
          (durable_kept (stored_events pairs) mid addr 0 (home_mid addr home).inside.inside (stored_spares (length mid) addr pairs ready.room ready.homes (home_mid addr home) none)
          (zeroed_durable granted words addr home.inside.aligned home.inside.inside given))
      by (inr there) = named addr 0 there

  left : IsCommitted granted pairs words new
  left = record {
    len = after.len ∙ len_mid;
    idle = after.idle;
    reads = reads;
    zeroed = zeroed;
    durable = λ k d lt. named (get_or pairs k d).0 (get_or pairs k d).1 (named_in_order pairs (get_or pairs k d).0 (named_at pairs k d lt));
  }

pub committed_is : CommitLaw
committed_is words granted pairs may =
    subst (IsCommitted granted pairs words) (sym (fold-append made words (zero_events granted) (stored_events pairs))) (left words granted pairs may)
