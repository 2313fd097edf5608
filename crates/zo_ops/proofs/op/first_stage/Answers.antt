use Rattle.std.proofs.Common.{◌≡◌, ℕ, ◌<◌, List, length, sym, ap, subst, ◌∙◌, arith}
use Rattle.std.proofs.lemmas.Bool.{eqb-true, eqb-false}
use Rattle.tr_types.specs.declared.action.Answer.{Answer}
use Rattle.zo_hash_dir.specs.Counting.{ListKnows}
use Rattle.zo_hash_dir.specs.Looking.{Knows as LookKnows}
use Rattle.zo_hash_dir.specs.Scene.{Scene as Seen, IsShown, CanMake}
use Rattle.zo_ops.specs.Knows.{name_of}
use Rattle.zo_ops.proofs.CountExits.{count_begins}
use Rattle.zo_ops.proofs.LookExits.{look_begins}
use Rattle.zo_ops.proofs.op.first_stage.Goals as goal

pub returns-then-is_empty : goal.returns-then-is_empty
returns-then-is_empty c =
    let none : length (name_of c.args.command.now) ≡ 0 = ap (λ (n : List ℕ). length n) (sym c.name_of-name.ensures) ∙ eqb-true (length c.name_of-name.result.now) 0 (sym c.is_empty.ensures ∙ c.if-is_empty.true) in
    λ mapped dir_is pages_are first s k.
    let begins = subst (λ (n : ℕ). (v : Seen) (answer : Answer) → IsShown v c.args.dir.at n → ListKnows c.begin.result answer v) pages_are c.begin.ensures.begins in
    count_begins mapped c.args.command.now c.begin.result c.args.dir.at first s k dir_is (ap (λ d. d.at) c.begin.ensures.dir) none begins

pub returns : goal.returns
returns c =
    let other = eqb-false (length c.name_of-name.result.now) 0 (sym c.is_empty.ensures ∙ c.if-is_empty.false) in
    let same : length c.name_of-name.result.now ≡ length (name_of c.args.command.now) = ap (λ (n : List ℕ). length n) c.name_of-name.ensures in
    let some : 0 < length (name_of c.args.command.now) = omega (arith, other, same) in
    let name = c.look_for.ensures.name ∙ c.new-name.ensures ∙ c.in_ok-from_slice.ensures.items ∙ c.name_of-name.ensures in
    λ mapped dir_is pages_are first s k.
    let begins = subst (λ (n : ℕ). (v : Seen) (answer : Answer) → IsShown v c.args.dir.at n → CanMake v c.args.dir.at → LookKnows c.look_for.result answer v) pages_are (λ v answer. c.look_for.ensures.begins v answer) in
    look_begins mapped c.args.command.now c.look_for.result c.args.dir.at first s k dir_is (ap (λ d. d.at) c.look_for.ensures.dir) name c.look_for.ensures.purpose some begins
