use Rattle.std.proofs.Common.{◌<◌, ℕ, sym, subst}
use Rattle.kern_model.specs.KernelView.{pages_of}
use Rattle.kern_plans.proofs.calls.split.piece_pairs.Goals as goal

pub clear_directory-requires : goal.clear_directory-requires
clear_directory-requires c = subst (λ (page : ℕ). page < pages_of c.args.words.now) (sym c.page_of.ensures) (c.requires.listed 0 0 c.requires.some)
