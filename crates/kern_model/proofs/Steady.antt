-- A crash changes nothing where all is durable.
use Rattle.std.proofs.Common.{◌≡◌, ℕ, ◌/◌, ◌<◌, List, length, sym, ap, subst, ◌∙◌, arith}
use Rattle.pm_words.specs.Word.{Word}
use Rattle.pm_words.specs.Memory.{word_at, all_durable}
use Rattle.pm_words.proofs.WordLemmas.{length_all_durable, word_at_all_durable}
use Rattle.kern_model.specs.Commits.{AreDurable, HasSteadyTables}
use Rattle.kern_model.proofs.PhaseLemmas.{one_value}

pub steady_durable : (words : List Word) → AreDurable words → HasSteadyTables words
steady_durable words durable addr home low value there =
    one_value (word_at words addr).older (word_at words addr).present value (durable addr home.inside.inside) there

pub durable_image : (words : List Word) (image : List ℕ) → words ≡ all_durable image → AreDurable words
durable_image words image is = subst AreDurable (sym is) (λ addr lt.
    let len = length_all_durable image in
    ap (λ (w : Word). w.older) (word_at_all_durable image (addr / 8) (omega (arith, len, lt))))
