use Rattle.std.proofs.Common.{◌≡◌, ℕ, List, [], Some, sym, ap, ◌∙◌}
use Rattle.tr_types.specs.Paths.{names_of}
use Rattle.tr_types.specs.declared.command.Command.TheVariants.{Stat}
use Rattle.tr_types.specs.declared.command.Reply.{Reply}
use Rattle.zo_model.specs.Answers.{told, state_of, walk}
use Rattle.zo_model.specs.Coffers.{within}
use Rattle.tr_answer.specs.Decisions.{opened_by}
use Rattle.tr_answer.proofs.AnswerLemmas.{stat_is}
use Rattle.tr_answer.proofs.Deepest.{found_at, path_inside}
use Rattle.tr_answer.proofs.decision.stat.Goals as goal

pub state_of-requires-clause-inside : goal.state_of-requires-clause-inside
state_of-requires-clause-inside c =
    let coffers = c.args.coffers.now in
    let names = c.as_slice-names.result.now in
    let coffer = c.index-coffers-at.result in
    path_inside coffers names coffer (found_at coffers names c.in-Some.at coffer c.in-Some.ensures.inside c.index-coffers-at.is c.in-Some.ensures.coffer)

pub returns-in-Ok : goal.returns-in-Ok
returns-in-Ok c =
    let coffers = c.args.coffers.now in
    let cred = c.args.cred.now in
    let path = c.args.path.now in
    let names = c.as_slice-names.result.now in
    let coffer = c.index-coffers-at.result in
    let tree = c.in-Ok.tree.now in
    let are : names ≡ names_of path = c.as_slice-names.ensures ∙ c.in_ok-names.ensures in
    let opened = ap (opened_by coffers cred (Stat path) coffer) (sym c.in-Ok.is) ∙ c.in_ok-tree.ensures.answer coffers (Stat path) in
    let state : c.state_of.result ≡ state_of coffers coffer tree (within coffer (names_of path)) (walk tree [] (within coffer (names_of path))) =
    c.state_of.ensures ∙ ap (λ (n : List (List ℕ)). state_of coffers coffer tree (within coffer n) (walk tree [] (within coffer n))) are in
    stat_is coffers cred path names coffer _ (sym c.is_too_long.ensures ∙ c.if-is_too_long.false) are
    (found_at coffers names c.in-Some.at coffer c.in-Some.ensures.inside c.index-coffers-at.is c.in-Some.ensures.coffer)
    (ap (λ (r : Reply). Some (told coffers r)) state ∙ opened)

pub returns : goal.returns
returns c =
    let coffers = c.args.coffers.now in
    let cred = c.args.cred.now in
    let path = c.args.path.now in
    let names = c.as_slice-names.result.now in
    let coffer = c.index-coffers-at.result in
    let opened = ap (opened_by coffers cred (Stat path) coffer) (sym c.in-Err.is) ∙ c.in_ok-tree.ensures.answer coffers (Stat path) in
    stat_is coffers cred path names coffer _ (sym c.is_too_long.ensures ∙ c.if-is_too_long.false) (c.as_slice-names.ensures ∙ c.in_ok-names.ensures)
    (found_at coffers names c.in-Some.at coffer c.in-Some.ensures.inside c.index-coffers-at.is c.in-Some.ensures.coffer)
    opened
