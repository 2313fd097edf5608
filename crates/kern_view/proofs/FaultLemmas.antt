use Rattle.std.proofs.Common.{◌≡◌, ◌⊎◌, inl, inr, ℕ, ◌<◌, ◌≤◌, List, Bool, true, false, Option, Some, None, MatchOption, refl, sym, ap, subst, ◌∙◌, arith}
use Rattle.std.proofs.lemmas.Bool.{both_ways, cases_lt}
use Rattle.zo_layout.specs.Layout.{committed_word, owner_word, coffer_entry, path_bucket}
use Rattle.pm_words.specs.Word.{Word}
use Rattle.pm_words.specs.Memory.{word_at}
use Rattle.kern_model.specs.KernelView.{pages_of}
use Rattle.kern_model.specs.Journal.{kernel_word}
use Rattle.kern_model.specs.KernelTables.{owner_fails, entry_fails, bucket_fails}
use Rattle.kern_model.specs.KernelRules.{Stage, FailsFirst, FailsIn, IsFinishable, IsFirstFault, IsSoundKernel, PassesStage}
use Rattle.kern_model.specs.KernelRules as rules
use Rattle.kern_view.specs.RuleParts.{AreGoodTables, HasSuperblock, IsLeast}

-- ---- the tables, in order of address

not_below : (test : ℕ → Bool) (low n k : ℕ) → ((k : ℕ) → low ≤ k → k < n → test k ≡ false) → low ≤ k → test k ≡ true → n ≤ k
not_below test low n k below from fails = by (cases_lt k n)
  where
    by : (k < n) ⊎ (n ≤ k) → n ≤ k
    by (inl lt) = absurd (both_ways (test k) (below k from lt) fails)
    by (inr le) = le

pub owner_first : (words : List Word) (page : ℕ) → IsLeast (owner_fails (pages_of words) (kernel_word words)) 0 (pages_of words) (Some page)
    → FailsFirst words rules.Tables (owner_word (pages_of words) page)
owner_first words page (_, lt, fails, below) = record { fails = inl (page, lt, refl, fails); least = least }
  where
    pages : ℕ
    pages = pages_of words

    least : (other : ℕ) → FailsIn words rules.Tables other → owner_word pages page ≤ other
    least other (inl (k, inside, is, wrong)) =
        let le : page ≤ k = not_below (owner_fails pages (kernel_word words)) 0 page k below (omega arith) wrong in
        subst (λ (place : ℕ). owner_word pages page ≤ place) (sym is) (omega arith)
    least other (inr (inl (id, from, to, is, wrong))) = subst (λ (place : ℕ). owner_word pages page ≤ place) (sym is) (omega arith)
    least other (inr (inr (bucket, inside, is, wrong))) = subst (λ (place : ℕ). owner_word pages page ≤ place) (sym is) (omega arith)

pub entry_first : (words : List Word) (id : ℕ) → IsLeast (owner_fails (pages_of words) (kernel_word words)) 0 (pages_of words) None
    → IsLeast (entry_fails (pages_of words) (kernel_word words)) 1 257 (Some id) → FailsFirst words rules.Tables (coffer_entry (pages_of words) id)
entry_first words id owners (from, lt, fails, below) = record { fails = inr (inl (id, from, omega arith, refl, fails)); least = least }
  where
    pages : ℕ
    pages = pages_of words

    least : (other : ℕ) → FailsIn words rules.Tables other → coffer_entry pages id ≤ other
    least other (inl (k, inside, is, wrong)) = absurd (both_ways (owner_fails pages (kernel_word words) k) (owners k (omega arith) inside) wrong)
    least other (inr (inl (k, low, high, is, wrong))) =
        let le : id ≤ k = not_below (entry_fails pages (kernel_word words)) 1 id k below low wrong in
        subst (λ (place : ℕ). coffer_entry pages id ≤ place) (sym is) (omega arith)
    least other (inr (inr (bucket, inside, is, wrong))) = subst (λ (place : ℕ). coffer_entry pages id ≤ place) (sym is) (omega arith)

pub bucket_first : (words : List Word) (bucket : ℕ) → IsLeast (owner_fails (pages_of words) (kernel_word words)) 0 (pages_of words) None
    → IsLeast (entry_fails (pages_of words) (kernel_word words)) 1 257 None
    → IsLeast (bucket_fails (pages_of words) (kernel_word words)) 0 256 (Some bucket) → FailsFirst words rules.Tables (path_bucket (pages_of words) bucket)
bucket_first words bucket owners entries (_, lt, fails, below) = record { fails = inr (inr (bucket, lt, refl, fails)); least = least }
  where
    pages : ℕ
    pages = pages_of words

    least : (other : ℕ) → FailsIn words rules.Tables other → path_bucket pages bucket ≤ other
    least other (inl (k, inside, is, wrong)) = absurd (both_ways (owner_fails pages (kernel_word words) k) (owners k (omega arith) inside) wrong)
    least other (inr (inl (k, low, high, is, wrong))) = absurd (both_ways (entry_fails pages (kernel_word words) k) (entries k low (omega arith)) wrong)
    least other (inr (inr (k, inside, is, wrong))) =
        let le : bucket ≤ k = not_below (bucket_fails pages (kernel_word words)) 0 bucket k below (omega arith) wrong in
        subst (λ (place : ℕ). path_bucket pages bucket ≤ place) (sym is) (omega arith)

pub good_tables : (words : List Word) → IsLeast (owner_fails (pages_of words) (kernel_word words)) 0 (pages_of words) None
    → IsLeast (entry_fails (pages_of words) (kernel_word words)) 1 257 None
    → IsLeast (bucket_fails (pages_of words) (kernel_word words)) 0 256 None → AreGoodTables words
good_tables words owners entries buckets = record {
  owners = λ page lt. owners page (omega arith) lt;
  entries = λ id low high. entries id low (omega arith);
  buckets = λ bucket lt. buckets bucket (omega arith) lt;
}

-- ---- the stages

pub superblock_passes : (words : List Word) → HasSuperblock words → PassesStage words rules.Superblock
superblock_passes words has place (inl (is, wrong)) = wrong (ap (λ (addr : ℕ). (word_at words addr).present) is ∙ has.signature)
superblock_passes words has place (inr (inl (is, wrong))) = wrong (ap (λ (addr : ℕ). (word_at words addr).present) is ∙ has.version)
superblock_passes words has place (inr (inr (is, wrong))) = wrong (ap (λ (addr : ℕ). (word_at words addr).present) is ∙ has.count)

pub journal_first : (words : List Word) → HasSuperblock words → (IsFinishable words → ⊥) → IsFirstFault words committed_word
journal_first words has unfinishable = inr (inl (
  superblock_passes words has,
  record {
    fails = (refl, unfinishable);
    least = λ other (is, wrong). omega arith;
  },
))

pub tables_first : (words : List Word) (place : ℕ) → HasSuperblock words → IsFinishable words → FailsFirst words rules.Tables place → IsFirstFault words place
tables_first words place has finishable first = inr (inr (superblock_passes words has, (λ other (is, wrong). wrong finishable), first))

pub sound : (words : List Word) → HasSuperblock words → IsFinishable words → AreGoodTables words → IsSoundKernel words
sound words has finishable tables = record {
  signature = has.signature;
  version = has.version;
  count = has.count;
  pairs = finishable;
  owners = tables.owners;
  entries = tables.entries;
  buckets = tables.buckets;
}

-- the answer of the tables is that of the whole, where all before them holds
pub judged : (words : List Word) → HasSuperblock words → IsFinishable words → (fault : Option ℕ)
    → MatchOption fault (AreGoodTables words) (FailsFirst words rules.Tables) → MatchOption fault (IsSoundKernel words) (IsFirstFault words)
judged words has finishable None good = sound words has finishable good
judged words has finishable (Some place) first = tables_first words place has finishable first

-- ---- there is one first fault

one_of_stage : (words : List Word) (stage : Stage) (place other : ℕ) → FailsFirst words stage place → FailsFirst words stage other → place ≡ other
one_of_stage words stage place other first second =
    let le = first.least other second.fails in
    let ge = second.least place first.fails in
    omega arith

pub one_fault : (words : List Word) (place other : ℕ) → IsFirstFault words place → IsFirstFault words other → place ≡ other
one_fault words place other (inl first) (inl second) = one_of_stage words rules.Superblock place other first second
one_fault words place other (inl first) (inr (inl (passed, second))) = absurd (passed place first.fails)
one_fault words place other (inl first) (inr (inr (passed, pairs, second))) = absurd (passed place first.fails)
one_fault words place other (inr (inl (passed, first))) (inl second) = absurd (passed other second.fails)
one_fault words place other (inr (inl (passed, first))) (inr (inl (_, second))) = one_of_stage words rules.Pairs place other first second
one_fault words place other (inr (inl (passed, first))) (inr (inr (_, pairs, second))) = absurd (pairs place first.fails)
one_fault words place other (inr (inr (passed, pairs, first))) (inl second) = absurd (passed other second.fails)
one_fault words place other (inr (inr (passed, pairs, first))) (inr (inl (_, second))) = absurd (pairs other second.fails)
one_fault words place other (inr (inr (passed, pairs, first))) (inr (inr (_, _, second))) = one_of_stage words rules.Tables place other first second

tables_pass : (words : List Word) → IsSoundKernel words → PassesStage words rules.Tables
tables_pass words is place (inl (page, inside, _, wrong)) = both_ways (owner_fails (pages_of words) (kernel_word words) page) (is.owners page inside) wrong
tables_pass words is place (inr (inl (id, from, to, _, wrong))) = both_ways (entry_fails (pages_of words) (kernel_word words) id) (is.entries id from to) wrong
tables_pass words is place (inr (inr (bucket, inside, _, wrong))) = both_ways (bucket_fails (pages_of words) (kernel_word words) bucket) (is.buckets bucket inside) wrong

pub none_in_sound : (words : List Word) (place : ℕ) → IsSoundKernel words → IsFirstFault words place → ⊥
none_in_sound words place is (inl first) =
    superblock_passes words (record { signature = is.signature; version = is.version; count = is.count }) place first.fails
none_in_sound words place is (inr (inl (_, first))) = first.fails.1 is.pairs
none_in_sound words place is (inr (inr (_, _, first))) = tables_pass words is place first.fails
