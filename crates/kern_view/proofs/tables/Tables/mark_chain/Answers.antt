use Rattle.std.proofs.Common.{◌≡◌, inl, inr, ℕ, suc, ◌+◌, ◌-◌, List, ap, sym, ◌∙◌, arith, subst}
use Rattle.zo_layout.specs.Layout.{coffer_entry, coffer_next, path_bucket}
use Rattle.kern_model.specs.KernelView.{pages_of}
use Rattle.kern_model.specs.Journal.{kernel_word}
use Rattle.kern_model.specs.KernelTables.{belongs, chain_in, chain_from, longest_chain}
use Rattle.kern_view.proofs.ChainLemmas.{IsFollowed, longest_is, belongs_bound, follow_from, follow_more, good_at_end, marked_at_end, bad_here}
use Rattle.kern_view.proofs.tables.Tables.mark_chain.Goals as goal
use Rattle.kern_view.proofs.tables.Tables.mark_chain.Goals.{then-not-belongs-via-then-not-belongs, then-not-belongs-via-else-not-belongs+then-seen-id}

pub loop-init : goal.loop-init
loop-init c =
    let words = c.args.self.now in
    let good = belongs (pages_of words) (kernel_word words) c.args.bucket in
    let next = λ (id : ℕ). kernel_word words (coffer_next (coffer_entry (pages_of words) id)) in
    let first : c.word-id.result ≡ kernel_word words (path_bucket (pages_of words) c.args.bucket) =
    c.word-id.ensures ∙ ap (kernel_word words) (c.path_bucket.ensures ∙ ap (λ (pages : ℕ). path_bucket pages c.args.bucket) c.pages.ensures.pages) in
    subst (λ (chain : List ℕ). IsFollowed good next chain (longest_chain - 0) c.word-id.result c.args.seen.now) (ap (chain_from next longest_chain) first)
    (follow_from good (belongs_bound (pages_of words) (kernel_word words) c.args.bucket) next longest_chain (longest_chain - 0) c.word-id.result c.args.seen.now
    c.requires.len c.requires.blank (omega arith))

pub returns-then-id-eq0-clause-good : goal.returns-then-id-eq0-clause-good
returns-then-id-eq0-clause-good c = good_at_end _ _ _ _ _ _ c.loop.invariant (inl c.if-id-eq0.true)

pub returns-then-id-eq0-clause-marked : goal.returns-then-id-eq0-clause-marked
returns-then-id-eq0-clause-marked c _ k le = marked_at_end _ _ _ _ _ _ c.loop.invariant (inl c.if-id-eq0.true) k le

pub returns-then-not-belongs-clause-good : goal.returns-then-not-belongs-clause-good
returns-then-not-belongs-clause-good c =
    let longest = longest_is in
    let less : longest_chain - c.loop.counter ≡ suc (longest_chain - (c.loop.counter + 1)) = omega arith in
    bad_here _ _ _ _ _ _ _ c.loop.invariant less c.if-id-eq0.false (elim c.then-not-belongs.branch [
      | then-not-belongs-via-then-not-belongs w ↦ inl (sym c.belongs.ensures.value ∙ w.if-not-belongs.true)
      | then-not-belongs-via-else-not-belongs+then-seen-id w ↦ inr w.if-seen-id.true
    ])

pub loop-preserved : goal.loop-preserved
loop-preserved c =
    let words = c.args.self.now in
    let good = belongs (pages_of words) (kernel_word words) c.args.bucket in
    let next = λ (id : ℕ). kernel_word words (coffer_next (coffer_entry (pages_of words) id)) in
    let longest = longest_is in
    let less : longest_chain - c.loop.counter ≡ suc (longest_chain - (c.loop.counter + 1)) = omega arith in
    let to : c.word-id-in-loop.result ≡ next c.loop.id =
    c.word-id-in-loop.ensures ∙ ap (kernel_word words) (c.coffer_next.ensures ∙ ap coffer_next c.entry.ensures.at) in
    follow_more good next (chain_in (pages_of words) (kernel_word words) c.args.bucket) (longest_chain - c.loop.counter) (longest_chain - (c.loop.counter + 1))
    c.loop.id c.word-id-in-loop.result c.loop.seen c.loop.invariant less c.if-id-eq0.false (sym c.belongs.ensures.value ∙ c.if-not-belongs.false)
    (c.belongs.ensures.most c.if-not-belongs.false) c.if-seen-id.false to

pub returns-clause-good : goal.returns-clause-good
returns-clause-good c =
    let longest = longest_is in
    good_at_end _ _ _ _ _ _ c.loop.invariant (inr (omega arith))

pub returns-clause-marked : goal.returns-clause-marked
returns-clause-marked c _ k le =
    let longest = longest_is in
    marked_at_end _ _ _ _ _ _ c.loop.invariant (inr (omega arith)) k le
