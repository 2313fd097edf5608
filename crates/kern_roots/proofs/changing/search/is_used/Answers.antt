use Rattle.std.proofs.Common.{◌∙◌, sym}
use Rattle.kern_model.specs.KernelView.{pages_of}
use Rattle.kern_model.specs.Journal.{kernel_word}
use Rattle.kern_roots.proofs.ChangingSearch.{used_is, range_of}
use Rattle.kern_roots.proofs.changing.search.is_used.Goals as goal

pub returns-clause-used : goal.returns-clause-used
returns-clause-used c = c.is_there.ensures ∙ used_is (pages_of c.args.words.now) (kernel_word c.args.words.now) c.args.id

pub returns-clause-least : goal.returns-clause-least
returns-clause-least c = λ e. (range_of (pages_of c.args.words.now) (kernel_word c.args.words.now) c.args.id (sym c.is_there.ensures ∙ e)).0

pub returns-clause-most : goal.returns-clause-most
returns-clause-most c = λ e. (range_of (pages_of c.args.words.now) (kernel_word c.args.words.now) c.args.id (sym c.is_there.ensures ∙ e)).1
