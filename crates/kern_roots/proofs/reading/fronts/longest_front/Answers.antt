use Rattle.std.proofs.Common.{◌≡◌, ℕ, sym, subst, ◌∙◌, arith}
use Rattle.kern_roots.proofs.ReadingTexts.{path_starts}
use Rattle.kern_roots.proofs.ReadingFronts.{NoneLonger, met_is_longest, root_is_longest, root_path}
use Rattle.kern_roots.proofs.reading.fronts.longest_front.Goals as goal

pub returns-in-Some-clause-coffer : goal.returns-in-Some-clause-coffer
returns-in-Some-clause-coffer c =
    let inv = c.loop-end.invariant in
    let most = c.requires.most in
    let within = inv.most in
    met_is_longest c.args.words.now c.args.path.now c.args.most c.loop-end.end c.in-Some.id c.requires.sound (omega (arith, c.loop-end-test.true)) inv.most (omega arith) inv.none_longer c.in-Some.ensures

pub returns-clause-coffer : goal.returns-clause-coffer
returns-clause-coffer c =
    let inv = c.loop-end.invariant in
    let least = inv.least in
    let test = c.loop-end-test.false in
    let last : c.loop-end.end ≡ 1 = omega arith in
    root_is_longest c.args.words.now c.args.path.now c.args.most c.requires.sound c.requires.least
    (subst (λ (end : ℕ). NoneLonger c.args.words.now c.args.path.now c.args.most end) last inv.none_longer)

pub returns-clause-front : goal.returns-clause-front
returns-clause-front c = root_path c.args.words.now c.requires.sound ∙ sym (path_starts c.args.path.now c.requires.path)
