use Rattle.std.proofs.Common.{◌≡◌, ◌∙◌, ℕ, List, ap, sym, arith}
use Rattle.std.specs.List.{list_all}
use Rattle.zo_layout.specs.Layout.{coffer_next, coffer_entry}
use Rattle.kern_model.specs.KernelView.{pages_of}
use Rattle.kern_model.specs.Journal.{kernel_word}
use Rattle.kern_model.specs.KernelTables.{is_id, chain_in}
use Rattle.kern_model.specs.PathMap.{leads_to}
use Rattle.kern_roots.proofs.ChangingChain.{chain_start, chain_after, ids_in_bucket, head_is_id, head_in_table, rest_are_ids, leads_stop, leads_end, leads_here, leads_past}
use Rattle.kern_roots.proofs.changing.chain.leading_word.Goals as goal

pub loop-step-init : goal.loop-step-init
loop-step-init c =
    let words = c.args.words.now in
    let pages = pages_of words in
    let at = kernel_word words in
    let bucket = c.args.bucket in
    let place = c.bucket_at-place.ensures.at in
    let chain : chain_after pages at 0 c.read-coffer.result ≡ chain_in pages at bucket =
    ap (chain_after pages at 0) (c.read-coffer.ensures ∙ ap at place) ∙ sym (chain_start pages at bucket) in
    record {
      ids = ap (list_all is_id) chain ∙ ids_in_bucket pages at bucket (c.requires.buckets bucket (omega arith));
      leads = ap (λ (xs : List ℕ). leads_to pages c.bucket_at-place.result xs c.args.id) chain ∙ ap (λ (a : ℕ). leads_to pages a (chain_in pages at bucket) c.args.id) place;
    }

pub returns-then-coffer-eq0 : goal.returns-then-coffer-eq0
returns-then-coffer-eq0 c =
    let words = c.args.words.now in
    sym (leads_stop (pages_of words) (kernel_word words) c.loop-step._step c.loop-step.place c.loop-step.coffer c.args.id c.loop-step-test.true c.if-coffer-eq0.true)
    ∙ c.loop-step.invariant.leads

pub returns-then-coffer-from : goal.returns-then-coffer-from
returns-then-coffer-from c =
    let words = c.args.words.now in
    sym (leads_here (pages_of words) (kernel_word words) c.loop-step._step c.loop-step.place c.loop-step.coffer c.args.id c.loop-step-test.true c.if-coffer-eq0.false (c.if-coffer-from.true ∙ c.from.ensures))
    ∙ c.loop-step.invariant.leads

pub overflow_cast-before : goal.overflow_cast-before
overflow_cast-before c =
    let words = c.args.words.now in
    let h = head_is_id (pages_of words) (kernel_word words) c.loop-step._step c.loop-step.coffer c.loop-step-test.true c.if-coffer-eq0.false c.loop-step.invariant.ids in
    omega (arith, h)

pub next_of-coffer-requires-clause-id : goal.next_of-coffer-requires-clause-id
next_of-coffer-requires-clause-id c =
    let words = c.args.words.now in
    head_in_table (pages_of words) (kernel_word words) c.loop-step._step c.loop-step.coffer c.loop-step-test.true c.if-coffer-eq0.false c.loop-step.invariant.ids

pub loop-step-preserved : goal.loop-step-preserved
loop-step-preserved c =
    let words = c.args.words.now in
    let pages = pages_of words in
    let at = kernel_word words in
    let head = c.loop-step.coffer in
    let other : head ≡ c.args.id → ⊥ = λ e. c.if-coffer-from.false (e ∙ sym c.from.ensures) in
    let place : c.coffer_next-place.result ≡ coffer_next (coffer_entry pages head) = c.coffer_next-place.ensures ∙ ap coffer_next c.entry_at.ensures.at in
    record {
      ids = rest_are_ids pages at c.loop-step._step head c.next_of-coffer.result c.loop-step-test.true c.if-coffer-eq0.false c.next_of-coffer.ensures c.loop-step.invariant.ids;
      leads = leads_past pages at c.loop-step._step c.loop-step.place head c.args.id c.coffer_next-place.result c.next_of-coffer.result c.loop-step-test.true c.if-coffer-eq0.false other place c.next_of-coffer.ensures
          ∙ c.loop-step.invariant.leads;
    }

pub returns : goal.returns
returns c =
    let words = c.args.words.now in
    sym (leads_end (pages_of words) (kernel_word words) c.loop-step._step c.loop-step.place c.loop-step.coffer c.args.id c.loop-step-test.false)
    ∙ c.loop-step.invariant.leads
