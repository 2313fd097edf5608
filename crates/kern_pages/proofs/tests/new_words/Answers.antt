use Rattle.std.proofs.Common.{◌≡◌, List, sym, subst, arith}
use Rattle.std.proofs.lemmas.Result.{IfOk-weaker}
use Rattle.pm_words.specs.Word.{Word}
use Rattle.pm_words.specs.Memory.{all_durable}
use Rattle.kern_model.specs.NewImage.{new_image}
use Rattle.kern_model.specs.KernelRules.{IsSoundKernel}
use Rattle.kern_model.proofs.NewKernel.{new_is_sound}
use Rattle.kern_pages.proofs.tests.new_words.Goals as goal

pub returns-clause-sound : goal.returns-clause-sound
returns-clause-sound c =
    IfOk-weaker c.new_image.result (λ (w : List Word). w ≡ all_durable (new_image 64)) (λ (w : List Word). IsSoundKernel w)
    (λ w is. subst (λ (ws : List Word). IsSoundKernel ws) (sym is) (new_is_sound 64 (omega arith) (omega arith))) c.new_image.ensures.words
