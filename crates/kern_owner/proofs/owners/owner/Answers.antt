use Rattle.std.proofs.Common.{◌≡◌, ◌∙◌, ℕ, ap, arith}
use Rattle.zo_layout.specs.Layout.{owner_word}
use Rattle.kern_model.specs.KernelView.{pages_of}
use Rattle.kern_model.specs.Journal.{kernel_word}
use Rattle.kern_model.specs.Kernel.{kernel_owner}
use Rattle.kern_owner.proofs.SoundLemmas.{owner_fits}
use Rattle.kern_owner.proofs.owners.owner.Goals as goal

pub kernel_word-requires-clause-readable : goal.kernel_word-requires-clause-readable
kernel_word-requires-clause-readable c = c.requires.sound.pairs.readable

pub overflow_cast-result : goal.overflow_cast-result
overflow_cast-result c =
    let small = owner_fits (pages_of c.args.words.now) (kernel_word c.args.words.now) c.args.page (c.requires.sound.owners c.args.page c.requires.inside) in
    let count : c.pages.result ≡ pages_of c.args.words.now = omega arith in
    let is : c.kernel_word.result ≡ kernel_owner c.args.words.now c.args.page =
    c.kernel_word.ensures ∙ ap (λ (addr : ℕ). kernel_word c.args.words.now addr) (c.owner_word.ensures ∙ ap (λ (n : ℕ). owner_word n c.args.page) count)
    in
    omega arith

pub returns : goal.returns
returns c =
    let count : c.pages.result ≡ pages_of c.args.words.now = omega arith in
    c.kernel_word.ensures ∙ ap (λ (addr : ℕ). kernel_word c.args.words.now addr) (c.owner_word.ensures ∙ ap (λ (n : ℕ). owner_word n c.args.page) count)
