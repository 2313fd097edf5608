use Rattle.std.proofs.Common.{◌≡◌, ℕ, List, true, false, not, ◌&&◌, ◌==◌, ap, sym, ◌∙◌, arith, subst}
use Rattle.std.proofs.lemmas.Bool.{ne_eqb, eq-eqb, and_left, and_right}
use Rattle.kern_model.specs.KernelView.{pages_of}
use Rattle.kern_model.specs.Journal.{kernel_word}
use Rattle.kern_view.specs.RuleParts.{has_path}
use Rattle.kern_view.proofs.RangeLemmas.{one_more, stands_once, stands_twice}
use Rattle.kern_view.proofs.tables.Tables.path_stands_twice.Goals as goal
use Rattle.kern_view.proofs.tables.Tables.path_stands_twice.Goals.{else-other-id-via-then-other-id+else-has_path, else-other-id-via-else-other-id}

pub returns-then-has_path : goal.returns-then-has_path
returns-then-has_path c =
    let pages = pages_of c.args.self.now in
    let at = kernel_word c.args.self.now in
    let has : has_path pages at c.args.path.now c.loop-other.other ≡ true = sym c.has_path.ensures ∙ c.if-has_path.true in
    sym (stands_twice pages at c.args.id c.loop-other.other (omega arith) (omega arith)
    (ap not (ne_eqb c.loop-other.other c.args.id c.if-other-id.true))
    (subst (λ (path : List ℕ). has_path pages at path c.loop-other.other ≡ true) c.requires.path has))

pub loop-other-preserved : goal.loop-other-preserved
loop-other-preserved c =
    let pages = pages_of c.args.self.now in
    let at = kernel_word c.args.self.now in
    let P = λ (k : ℕ). not (k == c.args.id) && has_path pages at c.args.path.now k ≡ false in
    one_more P 1 c.loop-other.other c.loop-other.invariant (elim c.else-other-id.branch [
      | else-other-id-via-then-other-id+else-has_path w ↦
          and_right (not (c.loop-other.other == c.args.id)) (has_path pages at c.args.path.now c.loop-other.other) (sym w.has_path.ensures ∙ w.if-has_path.false)
      | else-other-id-via-else-other-id w ↦
          and_left (not (c.loop-other.other == c.args.id)) (has_path pages at c.args.path.now c.loop-other.other) (ap not (eq-eqb c.loop-other.other c.args.id w.if-other-id.false))
    ])

pub returns : goal.returns
returns c =
    let pages = pages_of c.args.self.now in
    let at = kernel_word c.args.self.now in
    sym (stands_once pages at c.args.id
    (λ k low high. ap (λ (path : List ℕ). not (k == c.args.id) && has_path pages at path k) (sym c.requires.path) ∙ c.loop-other.invariant k low (omega arith)))
