use Rattle.std.proofs.Common.{ℕ, List, ◌*◌, take, drop, nat_eq, sym, ap, ◌∙◌, arith}
use Rattle.std.specs.List.{starts_with}
use Rattle.kern_model.specs.KernelView.{pages_of}
use Rattle.kern_model.specs.Journal.{kernel_word}
use Rattle.kern_roots.proofs.ReadingPaths.{agree_more, agree_all, apart_here, apart_by_length}
use Rattle.kern_roots.proofs.reading.entry.has_path.Goals as goal

pub returns-then-path_len-path : goal.returns-then-path_len-path
returns-then-path_len-path c =
    let len = c.path_len.ensures.len in
    let most = c.path_len.ensures.most in
    let differs = c.if-path_len-path.true in
    sym (apart_by_length (pages_of c.args.words.now) (kernel_word c.args.words.now) c.args.id c.args.path.now (omega arith) (λ same. differs (len ∙ same)))

pub returns-then-not-begins_with : goal.returns-then-not-begins_with
returns-then-not-begins_with c =
    let len = c.path_len.ensures.len in
    let most = c.path_len.ensures.most in
    let same = c.if-path_len-path.false in
    let within = c.pieces_of-i-end.ensures.most in
    let test = c.loop-i-test.true in
    let apart = ap (λ (xs : List ℕ). starts_with nat_eq c.path_piece.result xs) (sym c.piece_at.ensures.piece) ∙ sym c.begins_with.ensures ∙ c.if-not-begins_with.true in
    let here = ap (λ (xs : List ℕ). starts_with nat_eq xs (take 8 (drop (8 * c.loop-i.i) c.args.path.now))) (sym c.path_piece.ensures) ∙ apart in
    sym (apart_here (pages_of c.args.words.now) (kernel_word c.args.words.now) c.args.id c.args.path.now c.loop-i.i (omega arith) (sym same ∙ len) (omega arith) here)

pub loop-i-preserved : goal.loop-i-preserved
loop-i-preserved c =
    let len = c.path_len.ensures.len in
    let most = c.path_len.ensures.most in
    let same = c.if-path_len-path.false in
    let within = c.pieces_of-i-end.ensures.most in
    let test = c.loop-i-test.true in
    let starts = ap (λ (xs : List ℕ). starts_with nat_eq c.path_piece.result xs) (sym c.piece_at.ensures.piece) ∙ sym c.begins_with.ensures ∙ c.if-not-begins_with.false in
    let here = ap (λ (xs : List ℕ). starts_with nat_eq xs (take 8 (drop (8 * c.loop-i.i) c.args.path.now))) (sym c.path_piece.ensures) ∙ starts in
    agree_more (pages_of c.args.words.now) (kernel_word c.args.words.now) c.args.id c.args.path.now c.loop-i.i (omega arith) (sym same ∙ len) (omega arith) c.loop-i.invariant here

pub returns : goal.returns
returns c =
    let len = c.path_len.ensures.len in
    let most = c.path_len.ensures.most in
    let same = c.if-path_len-path.false in
    let cover = c.pieces_of-i-end.ensures.cover in
    let end = c.loop-i-test.false in
    sym (agree_all (pages_of c.args.words.now) (kernel_word c.args.words.now) c.args.id c.args.path.now c.loop-i.i (omega arith) (sym same ∙ len) (omega arith) c.loop-i.invariant)
