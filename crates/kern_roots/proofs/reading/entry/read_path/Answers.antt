use Rattle.std.proofs.Common.{ℕ, List, ◌++◌, take, sym, ap, ◌∙◌, arith}
use Rattle.kern_model.specs.KernelView.{pages_of}
use Rattle.kern_model.specs.Journal.{kernel_word}
use Rattle.kern_roots.specs.Entries.{path_piece}
use Rattle.kern_roots.proofs.ReadingPieces.{pieces, pieces_more}
use Rattle.kern_roots.proofs.ReadingPaths.{path_read}
use Rattle.kern_roots.proofs.reading.entry.read_path.Goals as goal

pub loop-i-preserved : goal.loop-i-preserved
loop-i-preserved c =
    let f = path_piece (pages_of c.args.words.now) (kernel_word c.args.words.now) c.args.id in
    c.in_ok-extend_from_slice.ensures.items
    ∙ ap (λ (xs : List ℕ). xs ++ c.path_piece.result) c.loop-i.invariant
    ∙ ap (λ (xs : List ℕ). pieces f c.loop-i.i ++ xs) c.path_piece.ensures
    ∙ sym (pieces_more f c.loop-i.i)

pub returns : goal.returns
returns c =
    let pages = pages_of c.args.words.now in
    let at = kernel_word c.args.words.now in
    let len = c.path_len-len.ensures.len in
    let most = c.path_len-len.ensures.most in
    let cover = c.pieces_of-i-end.ensures.cover in
    let within = c.pieces_of-i-end.ensures.most in
    let end = c.loop-i-test.false in
    let below = c.loop-i.auto.i-end in
    c.truncate.ensures.items
    ∙ ap (λ (xs : List ℕ). take c.path_len-len.result xs) c.loop-i.invariant
    ∙ ap (λ (n : ℕ). take n (pieces (path_piece pages at c.args.id) c.loop-i.i)) len
    ∙ path_read pages at c.args.id c.loop-i.i (omega arith) (omega arith) (omega arith)
