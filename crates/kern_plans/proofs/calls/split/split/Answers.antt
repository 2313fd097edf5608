use Rattle.std.proofs.Common.{◌≡◌, ◌∙◌, ℕ, List, [], ◌∷◌, None, Err, IfOk, sym, ap, subst}
use Rattle.std.proofs.lemmas.Result.{err_from_is_err_and}
use Rattle.kern_model.specs.KernelCalls.{control_and_root, first_due, is_bad_new_path, refused_where, pages_refused, guard_refused, link_refused}
use Rattle.tr_types.specs.declared.kernel_call.KernAnswer.TheVariants.{BadPath, Same}
use Rattle.tr_types.specs.declared.permission.Perm.{Perm}
use Rattle.kern_roots.specs.declared.types.Root.{Root}
use Rattle.kern_plans.specs.declared.linking.Linking.{Linking}
use Rattle.kern_plans.specs.Plans.{Plan}
use Rattle.kern_plans.specs.Links.{link_of, guard_of, linking_of}
use Rattle.kern_plans.specs.Refusals.{TellsFirstDue, linking_refusals, piece_refusals}
use Rattle.kern_plans.specs.Stored.{piece_plan}
use Rattle.kern_plans.proofs.MoveLemmas.{two_due, listed_inside}
use Rattle.kern_plans.proofs.SplitLemmas.{split_stopped, split_same, split_refused_later, split_planned}
use Rattle.kern_plans.proofs.calls.split.split.Goals as goal

pub returns-in_err-whole : goal.returns-in_err-whole
returns-in_err-whole c = λ callers cred.
    let p = err_from_is_err_and c.from_residual.result c.from_residual.ensures.1 in
    let asked = c.args.asked.now in
    split_stopped callers asked.words asked.holders asked.thread asked.tick c.args.id c.args.path.now c.args.pages.now c.args.mode c.args.link c.args.guard
    c.in_err-whole.field-0.0 p.0 c.from_residual.result p.1 p.2 (c.in_err-whole.ensures.refused callers cred)

pub returns-then-whole-mode : goal.returns-then-whole-mode
returns-then-whole-mode c = λ callers cred.
    let asked = c.args.asked.now in
    let plan : Plan = record { answer = Same; granted = c.new.result.items; pairs = c.new-then-whole-mode.result.items } in
    split_same callers asked.words asked.holders asked.thread asked.tick c.args.id c.args.path.now c.args.pages.now c.args.mode c.args.link c.args.guard
    plan (c.in_ok-whole.ensures.refused callers cred) (sym (ap (λ (r : Root). r.perm.mode) c.in_ok-whole.ensures.root) ∙ c.if-whole-mode.true)
    (λ i. record { answer = Same; granted = c.new.ensures.items i; pairs = c.new-then-whole-mode.ensures.items i })

pub returns-in_err-check_piece : goal.returns-in_err-check_piece
returns-in_err-check_piece c = λ callers cred.
    let p = err_from_is_err_and c.from_residual-in_err-check_piece.result c.from_residual-in_err-check_piece.ensures.1 in
    let asked = c.args.asked.now in
    let e = c.in_err-check_piece.field-0.0 in
    let whole = c.in_ok-whole.whole in
    let kept : whole.control ∷ whole.root ∷ [] ≡ control_and_root asked.words c.args.id = ap (λ (r : Root). r.control ∷ r.root ∷ []) c.in_ok-whole.ensures.root in
    split_refused_later callers asked.words asked.holders asked.thread asked.tick c.args.id c.args.path.now c.args.pages.now c.args.mode c.args.link c.args.guard
    e p.0 c.from_residual-in_err-check_piece.result (c.in_ok-whole.ensures.refused callers cred) (λ same. c.if-whole-mode.false (ap (λ (r : Root). r.perm.mode) c.in_ok-whole.ensures.root ∙ same)) p.1 p.2
    (subst (λ (xs : List ℕ). TellsFirstDue {X = Unit {0}} (piece_refusals asked.words asked.tick c.args.id c.args.path.now xs c.args.pages.now (linking_of c.args.link c.args.guard)) (Err e)) kept
    (subst (λ (xs : List ℕ). TellsFirstDue {X = Unit {0}} (piece_refusals asked.words asked.tick c.args.id c.args.path.now (whole.control ∷ whole.root ∷ []) xs (linking_of c.args.link c.args.guard)) (Err e)) c.as_slice-pages.ensures
    (subst (λ (l : Linking). TellsFirstDue {X = Unit {0}} (piece_refusals asked.words asked.tick c.args.id c.args.path.now (whole.control ∷ whole.root ∷ []) c.as_slice-pages.result.now l) (Err e)) c.new-linking.ensures
    c.in_err-check_piece.ensures)))

pub piece-requires-clause-listed : goal.piece-requires-clause-listed
piece-requires-clause-listed c =
    let asked = c.args.asked.now in
    let whole = c.in_ok-whole.whole in
    let linking = c.new-linking.result in
    let addrs = linking.link.addr ∷ linking.guard.addr ∷ [] in
    let kept = whole.control ∷ whole.root ∷ [] in
    let pages = c.as_slice-pages.result.now in
    let later =
    two_due (refused_where (is_bad_new_path asked.words c.args.id c.args.path.now) BadPath)
    (linking_refusals asked.words asked.tick c.args.id linking c.args.id kept pages) c.in_ok-check_piece.ensures in
    listed_inside asked.words c.args.id c.args.id addrs kept pages
    (two_due (pages_refused asked.words c.args.id addrs c.args.id kept pages) (guard_refused asked.words asked.tick (guard_of linking.guard) ∷ link_refused asked.words (link_of linking.link) ∷ []) later.1).0

pub returns : goal.returns
returns c = λ callers cred.
    let asked = c.args.asked.now in
    let whole = c.in_ok-whole.whole in
    let is = c.in_ok-whole.ensures.root in
    let kept : whole.control ∷ whole.root ∷ [] ≡ control_and_root asked.words c.args.id = ap (λ (r : Root). r.control ∷ r.root ∷ []) is in
    let perm : Perm = record { uid = whole.perm.uid; gid = whole.perm.gid; mode = c.args.mode } in
    split_planned callers asked.words asked.holders asked.thread asked.tick c.args.id c.args.path.now c.args.pages.now c.args.mode c.args.link c.args.guard
    perm c.piece.result (c.in_ok-whole.ensures.refused callers cred) (λ same. c.if-whole-mode.false (ap (λ (r : Root). r.perm.mode) is ∙ same))
    (subst (λ (xs : List ℕ). first_due (piece_refusals asked.words asked.tick c.args.id c.args.path.now xs c.args.pages.now (linking_of c.args.link c.args.guard)) ≡ None) kept
    (subst (λ (xs : List ℕ). first_due (piece_refusals asked.words asked.tick c.args.id c.args.path.now (whole.control ∷ whole.root ∷ []) xs (linking_of c.args.link c.args.guard)) ≡ None) c.as_slice-pages.ensures
    (subst (λ (l : Linking). first_due (piece_refusals asked.words asked.tick c.args.id c.args.path.now (whole.control ∷ whole.root ∷ []) c.as_slice-pages.result.now l) ≡ None) c.new-linking.ensures
    c.in_ok-check_piece.ensures)))
    (λ i. record { uid = (is i).perm.uid; gid = (is i).perm.gid; mode = c.args.mode })
    c.piece.ensures.refused
    (subst (λ (xs : List ℕ). IfOk c.piece.result (λ plan. plan ≡ piece_plan asked.words c.args.path.now perm xs c.args.link)) c.as_slice-pages.ensures
    (subst (λ (l : Linking). IfOk c.piece.result (λ plan. plan ≡ piece_plan asked.words c.args.path.now perm c.as_slice-pages.result.now (link_of l.link))) c.new-linking.ensures c.piece.ensures.plan))
