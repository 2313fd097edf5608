use Rattle.std.proofs.Common.{◌≡◌, inl, inr, ℕ, suc, ◌+◌, ◌-◌, ◌<◌, List, true, sym, ap, subst, ◌∙◌, arith}
use Rattle.std.specs.Prelude.{nat_le}
use Rattle.std.proofs.lemmas.Bool.{and_parts, leb-true}
use Rattle.std.proofs.lemmas.Slice.Eq.{bytes_eq-Decides}
use Rattle.zo_layout.specs.Layout.{bucket_of, path_bucket}
use Rattle.pm_words.specs.Word.{Word}
use Rattle.kern_model.specs.KernelView.{pages_of}
use Rattle.kern_model.specs.Journal.{kernel_word}
use Rattle.kern_model.specs.KernelTables.{is_id, stands_in}
use Rattle.kern_model.specs.KernelRules.{IsSoundKernel}
use Rattle.kern_roots.specs.Entries.{has_coffer, path_of}
use Rattle.kern_roots.proofs.ReadingChains.{IsBucket, IsWalk, bucket_is_sound, chain_tells, walk_begins, walk_ends, walk_at, walk_goes_on}
use Rattle.kern_roots.proofs.reading.fronts.coffer_at.Goals as goal

bucket_at : (words : List Word) (path : List ℕ) → IsSoundKernel words → IsBucket (pages_of words) (kernel_word words) (bucket_of path)
bucket_at words path sound = bucket_is_sound (pages_of words) (kernel_word words) (bucket_of path) (sound.buckets (bucket_of path) (omega arith))

-- with one number at least to come
abbrev Walking : List Word → List ℕ → ℕ → ℕ → Type 0
Walking words path step next = IsWalk (pages_of words) (kernel_word words) path (suc (257 - (step + 1))) next

walking : (words : List Word) (path : List ℕ) (step next : ℕ) → step < 257 → IsWalk (pages_of words) (kernel_word words) path (257 - step) next → Walking words path step next
walking words path step next lt walk =
    let more : 257 - step ≡ suc (257 - (step + 1)) = omega arith in
    subst (λ (left : ℕ). IsWalk (pages_of words) (kernel_word words) path left next) more walk

id_of : (words : List Word) (id : ℕ) → has_coffer words id ≡ true → is_id id ≡ true
id_of words id there = (and_parts (is_id id) (stands_in (pages_of words) (kernel_word words) id) there).0

pub loop-step-init : goal.loop-step-init
loop-step-init c =
    let words = c.args.words.now in
    let path = c.args.path.now in
    let whole = c.pages.ensures.pages in
    let pages : c.pages.result ≡ pages_of c.args.words.now = omega arith in
    let first : c.read-next.result ≡ kernel_word c.args.words.now (path_bucket (pages_of c.args.words.now) (bucket_of c.args.path.now)) =
    c.read-next.ensures ∙ ap (kernel_word words) (c.path_bucket.ensures ∙ ap (λ (p : ℕ). path_bucket p c.bucket_of.result) pages ∙ ap (path_bucket (pages_of words)) c.bucket_of.ensures) in
    subst (λ (next : ℕ). IsWalk (pages_of words) (kernel_word words) path 257 next) (sym first)
    (walk_begins (pages_of words) (kernel_word words) path (bucket_at words path c.requires.sound))

pub returns-then-next-eq0 : goal.returns-then-next-eq0
returns-then-next-eq0 c =
    let words = c.args.words.now in
    let path = c.args.path.now in
    chain_tells (pages_of words) (kernel_word words) path (bucket_at words path c.requires.sound)
    (walk_ends (pages_of words) (kernel_word words) path (257 - c.loop-step._step) c.loop-step.next c.loop-step.invariant (inr c.if-next-eq0.true))

pub overflow_cast-id : goal.overflow_cast-id
overflow_cast-id c =
    let words = c.args.words.now in
    let walk = walking words c.args.path.now c.loop-step._step c.loop-step.next c.loop-step-test.true c.loop-step.invariant in
    let there = walk_at (pages_of words) (kernel_word words) c.args.path.now (257 - (c.loop-step._step + 1)) c.loop-step.next walk c.if-next-eq0.false in
    let most = leb-true c.loop-step.next 256 (and_parts (nat_le 1 c.loop-step.next) (nat_le c.loop-step.next 256) (id_of words c.loop-step.next there)).1 in
    omega arith

pub has_path-requires-clause-there : goal.has_path-requires-clause-there
has_path-requires-clause-there c =
    let words = c.args.words.now in
    let walk = walking words c.args.path.now c.loop-step._step c.loop-step.next c.loop-step-test.true c.loop-step.invariant in
    walk_at (pages_of words) (kernel_word words) c.args.path.now (257 - (c.loop-step._step + 1)) c.loop-step.next walk c.if-next-eq0.false

pub returns-then-has_path : goal.returns-then-has_path
returns-then-has_path c =
    let words = c.args.words.now in
    let walk = walking words c.args.path.now c.loop-step._step c.loop-step.next c.loop-step-test.true c.loop-step.invariant in
    let same = sym c.has_path.ensures ∙ c.if-has_path.true in (
      walk_at (pages_of words) (kernel_word words) c.args.path.now (257 - (c.loop-step._step + 1)) c.loop-step.next walk c.if-next-eq0.false,
      (bytes_eq-Decides (path_of words c.loop-step.next) c.args.path.now).0 same,
    )

pub next_of-next-requires-clause-id : goal.next_of-next-requires-clause-id
next_of-next-requires-clause-id c =
    let words = c.args.words.now in
    let walk = walking words c.args.path.now c.loop-step._step c.loop-step.next c.loop-step-test.true c.loop-step.invariant in
    id_of words c.loop-step.next (walk_at (pages_of words) (kernel_word words) c.args.path.now (257 - (c.loop-step._step + 1)) c.loop-step.next walk c.if-next-eq0.false)

pub loop-step-preserved : goal.loop-step-preserved
loop-step-preserved c =
    let words = c.args.words.now in
    let path = c.args.path.now in
    let walk = walking words path c.loop-step._step c.loop-step.next c.loop-step-test.true c.loop-step.invariant in
    let differs = sym c.has_path.ensures ∙ c.if-has_path.false in
    subst (λ (next : ℕ). IsWalk (pages_of words) (kernel_word words) path (257 - (c.loop-step._step + 1)) next) (sym c.next_of-next.ensures)
    (walk_goes_on (pages_of words) (kernel_word words) path (257 - (c.loop-step._step + 1)) c.loop-step.next walk c.if-next-eq0.false differs)

pub returns : goal.returns
returns c =
    let words = c.args.words.now in
    let path = c.args.path.now in
    let end = c.loop-step-test.false in
    chain_tells (pages_of words) (kernel_word words) path (bucket_at words path c.requires.sound)
    (walk_ends (pages_of words) (kernel_word words) path (257 - c.loop-step._step) c.loop-step.next c.loop-step.invariant (inl (omega arith)))
