-- What a crash may leave.
use Rattle.std.proofs.Common.{◌≡◌, ℕ, ◌*◌, ◌<◌, ◌≤◌, ◌++◌, List, [], ◌∷◌, length, slice_index_or, Contains, sym, ap, subst, ◌∙◌, inl, inr, ◌⊎◌}
use Rattle.std.proofs.lemmas.Bool.{cases_lt}
use Rattle.std.proofs.lemmas.List.{get_or_past}
use Rattle.std.proofs.lemmas.List.Elements.{Contains-push, Contains-get_or}
use Rattle.pm_words.specs.declared.choice.Choice.{Choice}
use Rattle.pm_words.specs.declared.choice.Choice.TheVariants as pick
use Rattle.pm_words.specs.Word.{Word, settled, crash_list}
use Rattle.pm_words.specs.Memory.{each_word}
use Rattle.pm_words.specs.Crash.{picked, after_crash, CrashLaw}
use Rattle.pm_words.proofs.ViewLemmas.{length_each_word, each_word_at}

-- a place in a list and beyond it
in_list : (older : List ℕ) (present i : ℕ) → Contains (older ++ present ∷ []) (slice_index_or (older ++ present ∷ []) i present)
in_list older present i = by (cases_lt i (length (older ++ present ∷ [])))
  where
    by : (i < length (older ++ present ∷ [])) ⊎ (length (older ++ present ∷ []) ≤ i) → Contains (older ++ present ∷ []) (slice_index_or (older ++ present ∷ []) i present)
    by (inl lt) = Contains-get_or (older ++ present ∷ []) i present lt
    by (inr le) = subst (λ (x : ℕ). Contains (older ++ present ∷ []) x) (sym (get_or_past (older ++ present ∷ []) i present le)) (Contains-push older present)

in_crash_list : (choice : Choice) (address : ℕ) (older : List ℕ) (present : ℕ) → Contains (older ++ present ∷ []) (picked choice address older present)
in_crash_list pick.All address older present = Contains-push older present
in_crash_list pick.None address older present = in_list older present 0
in_crash_list (pick.Seed seed) address older present = in_list older present _

pub crash_leaves : CrashLaw
crash_leaves choice words = record { len = length_each_word left words; durable = durable; value = value }
  where
    left : ℕ → Word → Word
    left place w = settled (picked choice (8 * place) w.older w.present)

    at : (k : ℕ) → k < length words → slice_index_or (each_word left words) k (settled 0) ≡ left k (slice_index_or words k (settled 0))
    at k lt = each_word_at left words k (settled 0) lt

    durable : (k : ℕ) → k < length words → slice_index_or (after_crash choice words) k (settled 0) ≡ settled (slice_index_or (after_crash choice words) k (settled 0)).present
    durable k lt = at k lt ∙ sym (ap (λ (w : Word). settled w.present) (at k lt))

    value : (k : ℕ) → k < length words → Contains (crash_list (slice_index_or words k (settled 0))) (slice_index_or (after_crash choice words) k (settled 0)).present
    value k lt =
        let w = slice_index_or words k (settled 0) in
        subst (λ (x : Word). Contains (crash_list w) x.present) (sym (at k lt)) (in_crash_list choice (8 * k) w.older w.present)
