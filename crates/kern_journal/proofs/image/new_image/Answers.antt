use Rattle.std.proofs.Common.{◌≡◌, ap, ◌∙◌, List, ℕ, length, ◌*◌}
use Rattle.std.proofs.lemmas.Result.{IfOk-weaker}
use Rattle.pm_words.specs.Word.{Word}
use Rattle.pm_words.specs.Memory.{all_durable}
use Rattle.kern_model.specs.Commits.{AreDurable, HasSteadyTables}
use Rattle.kern_model.proofs.FreePages.{has_pages_new, size_new}
use Rattle.kern_model.proofs.Steady.{durable_image, steady_durable}
use Rattle.kern_journal.proofs.image.new_image.Goals as goal

pub of_image-requires : goal.of_image-requires
of_image-requires c = has_pages_new _ c.args.pages (c.new.ensures.words ∙ c.in_ok-words.ensures) c.requires.least c.requires.most

pub returns-clause-len : goal.returns-clause-len
returns-clause-len c =
    IfOk-weaker c.of_image.result (λ (w : List Word). length w ≡ length c.new.result) (λ (w : List Word). length w ≡ 512 * c.args.pages)
    (λ w len. len ∙ ap (λ (l : List ℕ). length l) (c.new.ensures.words ∙ c.in_ok-words.ensures) ∙ (size_new c.args.pages c.requires.least c.requires.most).whole)
    c.of_image.ensures.len

pub returns-clause-durable : goal.returns-clause-durable
returns-clause-durable c =
    IfOk-weaker c.of_image.result (λ (w : List Word). w ≡ all_durable c.new.result) (λ (w : List Word). AreDurable w)
    (λ w is. durable_image w c.new.result is)
    c.of_image.ensures.ok

pub returns-clause-steady : goal.returns-clause-steady
returns-clause-steady c =
    IfOk-weaker c.of_image.result (λ (w : List Word). w ≡ all_durable c.new.result) (λ (w : List Word). HasSteadyTables w)
    (λ w is. steady_durable w (durable_image w c.new.result is))
    c.of_image.ensures.ok
