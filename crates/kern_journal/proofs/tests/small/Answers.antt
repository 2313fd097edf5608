use Rattle.std.proofs.Common.{◌≡◌, List, arith}
use Rattle.std.proofs.lemmas.Result.{IfOk-weaker}
use Rattle.pm_words.specs.Word.{Word}
use Rattle.pm_words.specs.Memory.{all_durable}
use Rattle.kern_model.specs.NewImage.{new_image}
use Rattle.kern_model.specs.Inner.{IsReadable}
use Rattle.kern_model.specs.JournalLaws.{IsReady}
use Rattle.kern_journal.proofs.NewLemmas.{readable_new, ready_new}
use Rattle.kern_journal.proofs.tests.small.Goals as goal

pub returns-clause-readable : goal.returns-clause-readable
returns-clause-readable c =
    IfOk-weaker c.new_image.result (λ (words : List Word). words ≡ all_durable (new_image 64)) (λ (words : List Word). IsReadable words) (λ words is. readable_new words 64 (omega arith) is) c.new_image.ensures.words

pub returns-clause-ready : goal.returns-clause-ready
returns-clause-ready c = IfOk-weaker c.new_image.result (λ (words : List Word). words ≡ all_durable (new_image 64)) (λ words. IsReady words _) (λ words is. ready_new words is) c.new_image.ensures.words
