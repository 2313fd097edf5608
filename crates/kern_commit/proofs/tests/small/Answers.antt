use Rattle.std.proofs.Common.{◌≡◌, List, arith}
use Rattle.std.proofs.lemmas.Result.{IfOk-weaker}
use Rattle.zo_layout.specs.Layout.{committed_word}
use Rattle.pm_words.specs.Word.{Word}
use Rattle.pm_words.specs.Memory.{all_durable}
use Rattle.kern_model.specs.NewImage.{new_image}
use Rattle.kern_model.specs.JournalLaws.{IsDurable}
use Rattle.kern_commit.proofs.NewLemmas.{idle_new}
use Rattle.kern_commit.proofs.tests.small.Goals as goal

pub returns-clause-idle : goal.returns-clause-idle
returns-clause-idle c =
    IfOk-weaker c.new_image.result (λ (words : List Word). words ≡ all_durable (new_image 64)) (λ (words : List Word). IsDurable words committed_word 0) (λ words is. idle_new words 64 (omega arith) is) c.new_image.ensures.words
