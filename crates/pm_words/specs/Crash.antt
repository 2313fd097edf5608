use Rattle.std.specs.Prelude.{◌≡◌, ℕ, ◌*◌, ◌%◌, ◌<◌, List, [], ◌∷◌, ◌++◌, length, slice_index_or, Contains}
use Rattle.std.specs.Int.{w64, to_le_bytes}
use Rattle.pm_words.specs.Hash.{fnv64_of}
use Rattle.pm_words.specs.Word.{Word, settled, crash_list}
use Rattle.pm_words.specs.Memory.{each_word}
use Rattle.pm_words.specs.declared.choice.Choice.{Choice}
use Rattle.pm_words.specs.declared.choice.Choice.TheVariants as pick

-- the value that a crash leaves in the word at an address, of the values before the present one and the present one
abbrev pub picked : Choice → ℕ → List ℕ → ℕ → ℕ
picked pick.All address older present = present
picked pick.None address older present = slice_index_or (older ++ present ∷ []) 0 present
picked (pick.Seed seed) address older present =
    slice_index_or (older ++ present ∷ []) (fnv64_of (to_le_bytes w64 seed ++ to_le_bytes w64 address) % length (older ++ present ∷ [])) present

-- the memory after a crash: each word is durable
abbrev pub after_crash : Choice → List Word → List Word
after_crash choice words = each_word (λ place w. settled (picked choice (8 * place) w.older w.present)) words

-- what any crash may leave: each word is durable, with a value of its crash list
pub record MayLeave (words after : List Word) : Type 0 where
  pub len : length after ≡ length words
  pub durable : (k : ℕ) → k < length words → slice_index_or after k (settled 0) ≡ settled (slice_index_or after k (settled 0)).present
  pub value : (k : ℕ) → k < length words → Contains (crash_list (slice_index_or words k (settled 0))) (slice_index_or after k (settled 0)).present

abbrev pub CrashLaw : Type 0
CrashLaw = (choice : Choice) (words : List Word) → MayLeave words (after_crash choice words)
