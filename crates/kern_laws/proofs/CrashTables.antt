-- What the kernel reads of its pages after a crash inside of a call.
use Rattle.std.proofs.Common.{◌≡◌, ◌≢◌, ◌⊎◌, inl, inr, ℕ, ◌/◌, ◌%◌, ◌<◌, ◌≤◌, true, List, [], ◌∷◌, ◌++◌, length, get_or, nat_eq, refl, sym, ap, subst, ◌∙◌, arith, eqb-true}
use Rattle.std.specs.Prelude.{All}
use Rattle.std.specs.List.{list_any}
use Rattle.std.proofs.lemmas.Bool.{or_cases, false≢true, cases_eq, cases_lt}
use Rattle.std.proofs.lemmas.List.Elements.{All-nil, All-head, All-tail, All-weaker, All-contains}
use Rattle.zo_layout.specs.Layout.{page_at, kernel_pages, owner_table, signature_word, version_word, count_word, committed_word}
use Rattle.pm_words.specs.Word.{Word}
use Rattle.pm_words.specs.Memory.{word_at}
use Rattle.kern_model.specs.KernelView.{pages_of}
use Rattle.kern_model.specs.Journal.{IsHome, laid_over, kernel_word}
use Rattle.kern_model.specs.Kernel.{read_after}
use Rattle.kern_model.specs.KernelTables.{is_id, stands_in}
use Rattle.kern_model.specs.JournalLaws.{IsDurable, IsUnnamed, steps_to_stored}
use Rattle.kern_model.specs.KernelCalls.{Row, in_order, zero_events}
use Rattle.kern_model.specs.Commits.{present_at, IsOuter, IsWorking, HasSteadyTables}
use Rattle.tr_types.specs.declared.kernel_call.Holder.{Holder}
use Rattle.kern_model.proofs.LaidLemmas.{IsNamed, named_at, named_cases, laid_unnamed, laid_named}
use Rattle.kern_model.proofs.FinishLemmas.{idle_read}
use Rattle.kern_owner.specs.Laws.{SameTables, TablesPass}
use Rattle.kern_commit.specs.Crashes.{IsAsBefore, IsThere, IsTaken, IsWholeOrNone}
use Rattle.kern_laws.specs.Rows.{KeepsTables}
use Rattle.kern_laws.specs.Crashes.{ReadsTables, KernelSurvives}
use Rattle.kern_laws.proofs.TablesLemmas.{tables_same, tables_of}
use Rattle.kern_laws.proofs.FrameLemmas.{SameFront, works}

-- what holds at each pair's address holds at one that a pair names
pub named_has : (P : ℕ → Type 0) (pairs : List (ℕ × ℕ)) (addr : ℕ) → IsNamed pairs addr → All (λ (p : ℕ × ℕ). P p.0) pairs → P addr
named_has P [] addr named all = absurd (false≢true named)
named_has P (p ∷ pairs) addr named all = by (or_cases (nat_eq p.0 addr) (list_any (λ (q : ℕ × ℕ). nat_eq q.0 addr) pairs) named) (λ more. named_has P pairs addr more (All-tail (λ (q : ℕ × ℕ). P q.0) p pairs all))
  where
    by : (nat_eq p.0 addr ≡ true) ⊎ IsNamed pairs addr → (IsNamed pairs addr → P addr) → P addr
    by (inl own) rest = subst P (eqb-true p.0 addr own) (All-head (λ (q : ℕ × ℕ). P q.0) p pairs all)
    by (inr more) rest = rest more

module _ (words : List Word) (holders : List Holder) (row : Row) (w : IsWorking words holders) (k : KeepsTables words row) (steady : HasSteadyTables words) (count : ℕ) (left new : List Word) (s : IsWholeOrNone row.granted row.pairs count left words new) (still : HasSteadyTables new) where
  -- a word of the kernel's pages that is as before has the value that it had
  was : (addr : ℕ) → IsHome (length words) addr → addr / 4096 < kernel_pages (pages_of words) → IsAsBefore row.granted words new addr → present_at new addr ≡ present_at words addr
  was addr home low (inl there) = steady addr home low (present_at new addr) there
  was addr home low (inr (given, none)) = let past = (All-contains (IsOuter words) row.granted (addr / 4096) k.may.pages given).past in absurd (omega (arith, past, low))

  -- what is read of the kernel's pages, as they were or with the pairs laid over them
  abbrev Reads : (ℕ → ℕ) → Type 0
  Reads at = (addr : ℕ) → IsHome (length words) addr → addr / 4096 < kernel_pages (pages_of words) → present_at new addr ≡ at addr

  before : All (λ (p : ℕ × ℕ). IsAsBefore row.granted words new p.0) row.pairs → Reads (present_at words)
  before all addr home low = was addr home low (by (named_cases row.pairs addr))
    where
      by : IsUnnamed row.pairs addr ⊎ IsNamed row.pairs addr → IsAsBefore row.granted words new addr
      by (inl none) = s.others addr home none
      by (inr named) = named_has (IsAsBefore row.granted words new) row.pairs addr named all

  behind : IsThere row.granted row.pairs new → Reads (read_after row.pairs (present_at words))
  behind there addr home low = by (named_cases row.pairs addr)
    where
      by : IsUnnamed row.pairs addr ⊎ IsNamed row.pairs addr → present_at new addr ≡ laid_over row.pairs addr (present_at words addr)
      by (inl none) = was addr home low (s.others addr home none) ∙ sym (laid_unnamed row.pairs addr (present_at words addr) none)
      by (inr named) =
          (named_has (λ a. IsDurable new a (laid_over row.pairs a (present_at words addr))) row.pairs addr named
          (λ i d lt. subst (IsDurable new (get_or row.pairs i d).0) (laid_named row.pairs (get_or row.pairs i d).0 (get_or row.pairs i d).1 (present_at words addr) (named_at row.pairs i d lt)) (there.stored i d lt))).present

  reads_new : (addr : ℕ) → kernel_word new addr ≡ present_at new addr
  reads_new addr = idle_read new addr s.idle.present

  reads_old : (addr : ℕ) → present_at words addr ≡ kernel_word words addr
  reads_old addr = sym (idle_read words addr w.idle.present)

  told : (at : ℕ → ℕ) → Reads at → ReadsTables new at
  told at reads addr home low = reads_new addr ∙ reads addr (subst (λ (n : ℕ). IsHome n addr) s.len home) (subst (λ (n : ℕ). addr / 4096 < kernel_pages (n / 512)) s.len low)

  -- a word of the superblock, and one of the tables

  in_front : (addr : ℕ) → addr < 4096 → addr % 8 ≡ 0 → IsHome (length words) addr
  in_front addr first whole =
      let least = w.size.least in
      let all = w.size.whole in
      record { inside = record { aligned = whole; inside = omega arith }; outside = λ past. absurd (omega arith) }

  in_tables : (addr : ℕ) → addr % 8 ≡ 0 → page_at (owner_table (pages_of words)) ≤ addr → addr < page_at (kernel_pages (pages_of words)) → IsHome (length words) addr
  in_tables addr whole low high =
      let least = w.size.least in
      let all = w.size.whole in
      record { inside = record { aligned = whole; inside = omega arith }; outside = λ past. low }

  front : (at : ℕ → ℕ) → Reads at → at signature_word ≡ present_at words signature_word → at version_word ≡ present_at words version_word → at count_word ≡ present_at words count_word → SameFront words new
  front at reads signature version count = record {
    signature = reads signature_word (in_front signature_word (omega arith) (omega arith)) (omega arith) ∙ signature;
    version = reads version_word (in_front version_word (omega arith) (omega arith)) (omega arith) ∙ version;
    count = reads count_word (in_front count_word (omega arith) (omega arith)) (omega arith) ∙ count;
  }

  same : (at seen : ℕ → ℕ) → Reads at → ((addr : ℕ) → at addr ≡ seen addr) → SameTables (pages_of words) seen (kernel_word new)
  same at seen reads is addr whole low high = reads_new addr ∙ reads addr (in_tables addr whole low high) (omega (arith, high)) ∙ is addr

  works_on : SameFront words new → TablesPass (pages_of words) (kernel_word new) → IsWorking new []
  works_on front tables =
      works words new holders [] w s.len s.idle front tables (All-nil (λ (h : Holder). is_id h.id ≡ true)) (All-nil (λ (h : Holder). stands_in (pages_of words) (kernel_word new) h.id ≡ true))

  laid : (addr : ℕ) → read_after row.pairs (present_at words) addr ≡ read_after row.pairs (kernel_word words) addr
  laid addr = ap (λ (v : ℕ). laid_over row.pairs addr v) (reads_old addr)

  -- no pair is for what the superblock says
  spared : (addr : ℕ) → ((p : ℕ × ℕ) → (p.0 ≢ signature_word) × (p.0 ≢ version_word) × (p.0 ≢ count_word) → p.0 ≢ addr) → read_after row.pairs (present_at words) addr ≡ present_at words addr
  spared addr apart =
      laid_unnamed row.pairs addr (present_at words addr) (All-weaker (λ (p : ℕ × ℕ). (p.0 ≢ signature_word) × (p.0 ≢ version_word) × (p.0 ≢ count_word)) (λ (p : ℕ × ℕ). p.0 ≢ addr) apart row.pairs k.spares)

  -- whichever came of the call, the kernel works, and a crash changes no word of its pages
  works_whole : IsThere row.granted row.pairs new → IsWorking new []
  works_whole there =
      works_on (front (read_after row.pairs (present_at words)) (behind there) (spared signature_word (λ p apart. apart.0)) (spared version_word (λ p apart. apart.1)) (spared count_word (λ p apart. apart.2)))
      (k.tables (kernel_word new) (same (read_after row.pairs (present_at words)) (read_after row.pairs (kernel_word words)) (behind there) laid))

  works_none : All (λ (p : ℕ × ℕ). IsAsBefore row.granted words new p.0) row.pairs → IsWorking new []
  works_none all =
      works_on (front (present_at words) (before all) refl refl refl)
      (tables_same (pages_of words) (kernel_word words) (kernel_word new) (same (present_at words) (kernel_word words) (before all) reads_old) (tables_of words w.sound))

  pub kernel_survives : KernelSurvives row words count left new
  kernel_survives = record {
    whole = λ taken. told (read_after row.pairs (kernel_word words)) (λ addr home low. behind (s.whole taken) addr home low ∙ laid addr);
    none = λ early. told (kernel_word words) (λ addr home low. before (s.none early) addr home low ∙ reads_old addr);
    works = which (cases_eq (word_at left committed_word).present 0) (cases_lt (length (zero_events row.granted ++ steps_to_stored (in_order row.pairs))) count);
    steady = still;
  }
    where
      which : ((word_at left committed_word).present ≡ 0) ⊎ ((word_at left committed_word).present ≡ 0 → ⊥)
          → (length (zero_events row.granted ++ steps_to_stored (in_order row.pairs)) < count) ⊎ (count ≤ length (zero_events row.granted ++ steps_to_stored (in_order row.pairs)))
          → IsWorking new []
      which (inr some) either = works_whole (s.whole (inl some))
      which (inl zero) (inl late) = works_whole (s.whole (inr late))
      which (inl zero) (inr soon) = works_none (s.none early)
        where
          early : IsTaken row.granted row.pairs count left → ⊥
          early (inl some) = some zero
          early (inr late) = omega (arith, soon, late)
