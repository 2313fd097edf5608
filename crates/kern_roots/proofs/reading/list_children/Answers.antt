use Rattle.std.proofs.Common.{◌≡◌, ℕ, ◌-◌, List, [], ◌∷◌, ◌++◌, Bool, cond, filter, Vec, Global, sym, ap, ◌∙◌, arith}
use Rattle.std.specs.List.{range_with_len}
use Rattle.std.proofs.lemmas.List.{append-nil}
use Rattle.kern_roots.specs.Fronts.{is_child_of}
use Rattle.kern_roots.proofs.ReadingChildren.{children_are, row_more}
use Rattle.kern_roots.proofs.reading.list_children.Goals as goal
use Rattle.kern_roots.proofs.reading.list_children.Goals.{then-branch+in_ok-push, else-branch}

pub loop-other-preserved : goal.loop-other-preserved
loop-other-preserved c =
    let test = λ (k : ℕ). is_child_of c.args.words.now k c.args.id in
    let from = c.loop-other.auto.other in
    let more = row_more test c.loop-other.other from in
    let before = filter test (range_with_len 1 (c.loop-other.other - 1)) in
    elim c.if-branch.branch [
      | then-branch+in_ok-push w ↦
          let yes = sym c.in_ok-is_child.ensures ∙ w.if-branch.true in
          ap (λ (v : Vec ℕ Global). v.items) w.ids-is
          ∙ w.in_ok-push.ensures.items
          ∙ ap (λ (xs : List ℕ). xs ++ c.loop-other.other ∷ []) c.loop-other.invariant
          ∙ sym (more ∙ ap (λ (b : Bool). before ++ cond b (c.loop-other.other ∷ []) []) yes)
      | else-branch w ↦
          let no_child = sym c.in_ok-is_child.ensures ∙ w.if-branch.false in
          ap (λ (v : Vec ℕ Global). v.items) w.ids-is
          ∙ c.loop-other.invariant
          ∙ sym (more ∙ ap (λ (b : Bool). before ++ cond b (c.loop-other.other ∷ []) []) no_child ∙ append-nil before)
    ]

pub returns : goal.returns
returns c =
    let past = c.loop-other-test.false in
    let end = c.loop-other.auto.other-end (omega arith) in
    let all : c.loop-other.other - 1 ≡ 256 = omega arith in
    c.loop-other.invariant
    ∙ ap (λ (n : ℕ). filter (λ k. is_child_of c.args.words.now k c.args.id) (range_with_len 1 n)) all
    ∙ children_are c.args.words.now c.args.id
