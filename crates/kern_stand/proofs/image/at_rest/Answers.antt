use Rattle.std.proofs.Common.{◌≡◌, ℕ, zero, suc, ◌/◌, List, [], ◌∷◌, refl, ap, ◌∙◌}
use Rattle.std.specs.Prelude.{slice_index_or}
use Rattle.std.proofs.lemmas.Result.{IfOk-weaker}
use Rattle.zo_layout.specs.Layout.{committed_word}
use Rattle.pm_words.specs.Word.{Word, settled}
use Rattle.pm_words.specs.Memory.{word_at, all_durable}
use Rattle.kern_stand.proofs.image.at_rest.Goals as goal

-- a word of an image has no older value
none_older : (values : List ℕ) (k : ℕ) → (slice_index_or (all_durable values) k (settled 0)).older ≡ []
none_older [] k = refl
none_older (v ∷ vs) zero = refl
none_older (v ∷ vs) (suc k) = none_older vs k

pub returns : goal.returns
returns c =
    IfOk-weaker c.of_image.result _ _ (λ words is. ap (λ (ws : List Word). (word_at ws committed_word).older) is ∙ none_older c.args.image (committed_word / 8)) c.of_image.ensures.ok
