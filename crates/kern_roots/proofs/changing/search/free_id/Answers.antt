use Rattle.std.proofs.Common.{◌∙◌, not, ap, sym, arith}
use Rattle.kern_model.specs.KernelView.{pages_of}
use Rattle.kern_model.specs.Journal.{kernel_word}
use Rattle.kern_model.specs.KernelTables.{stands_in}
use Rattle.kern_roots.proofs.ChangingSearch.{in_range, find_start, find_hit, find_miss, find_end}
use Rattle.kern_roots.proofs.changing.search.free_id.Goals as goal

pub loop-id-init : goal.loop-id-init
loop-id-init c = find_start (λ id. not (stands_in (pages_of c.args.words.now) (kernel_word c.args.words.now) id))

pub returns-then-not-is_there-clause-least_free : goal.returns-then-not-is_there-clause-least_free
returns-then-not-is_there-clause-least_free c =
    let pages = pages_of c.args.words.now in
    let at = kernel_word c.args.words.now in
    let free = sym (in_range pages at c.loop-id.id (omega arith) (omega arith)) ∙ sym c.if-not-is_there.ensures in
    sym (find_hit (λ id. not (stands_in pages at id)) c.loop-id.id c.loop-id-test.true (ap not free)) ∙ c.loop-id.invariant

pub loop-id-preserved : goal.loop-id-preserved
loop-id-preserved c =
    let pages = pages_of c.args.words.now in
    let at = kernel_word c.args.words.now in
    let there = sym (in_range pages at c.loop-id.id (omega arith) (omega arith)) ∙ sym c.if-not-is_there.ensures in
    find_miss (λ id. not (stands_in pages at id)) c.loop-id.id c.loop-id-test.true (ap not there) ∙ c.loop-id.invariant

pub returns-clause-least_free : goal.returns-clause-least_free
returns-clause-least_free c =
    sym (find_end (λ id. not (stands_in (pages_of c.args.words.now) (kernel_word c.args.words.now) id)) c.loop-id.id c.loop-id-test.false)
    ∙ c.loop-id.invariant
