use Rattle.std.proofs.Common.{◌≡◌, ℕ, Bool, false, not, ◌&&◌, ap, sym, ◌∙◌, arith, slice_index_or}
use Rattle.std.proofs.lemmas.Bool.{and_left, and_right}
use Rattle.kern_model.specs.KernelView.{pages_of}
use Rattle.kern_model.specs.Journal.{kernel_word}
use Rattle.kern_model.specs.KernelTables.{belongs}
use Rattle.kern_view.proofs.RangeLemmas.{one_more, lacks_none, lacks_some}
use Rattle.kern_view.proofs.tables.Tables.lacks_one.Goals as goal
use Rattle.kern_view.proofs.tables.Tables.lacks_one.Goals.{else-belongs-via-then-belongs+else-not-seen-from, else-belongs-via-else-belongs}

pub returns-then-not-seen-from : goal.returns-then-not-seen-from
returns-then-not-seen-from c =
    let words = c.args.self.now in
    let p : ℕ → Bool = belongs (pages_of words) (kernel_word words) c.args.bucket in
    let h : ℕ → Bool = λ k. slice_index_or c.args.seen.now k false in
    sym (lacks_some p h c.loop-id.id (omega arith) (omega arith)
    (ap p (sym c.from.ensures) ∙ sym c.belongs.ensures.value ∙ c.if-belongs.true)
    (ap h (sym c.from-then-belongs.ensures) ∙ c.if-not-seen-from.true))

pub loop-id-preserved : goal.loop-id-preserved
loop-id-preserved c =
    let words = c.args.self.now in
    let p : ℕ → Bool = belongs (pages_of words) (kernel_word words) c.args.bucket in
    let h : ℕ → Bool = λ k. slice_index_or c.args.seen.now k false in
    one_more (λ (k : ℕ). p k && not (h k) ≡ false) 1 c.loop-id.id c.loop-id.invariant (elim c.else-belongs.branch [
      | else-belongs-via-then-belongs+else-not-seen-from w ↦
          and_right (p c.loop-id.id) (not (h c.loop-id.id)) (ap not (ap h (sym w.from-then-belongs.ensures) ∙ w.if-not-seen-from.false))
      | else-belongs-via-else-belongs w ↦
          and_left (p c.loop-id.id) (not (h c.loop-id.id)) (ap p (sym c.from.ensures) ∙ sym c.belongs.ensures.value ∙ w.if-belongs.false)
    ])

pub returns : goal.returns
returns c =
    let words = c.args.self.now in
    sym (lacks_none (belongs (pages_of words) (kernel_word words) c.args.bucket) (λ k. slice_index_or c.args.seen.now k false)
    (λ k low high. c.loop-id.invariant k low (omega arith)))
