-- The notes beside the leases of a run have the address of its commit word before the commit.
use Rattle.std.proofs.Common.{◌≡◌, ◌⊎◌, inl, inr, ℕ, ◌/◌, ◌<◌, List, [], ◌∷◌, ◌++◌, length, slice_index_or, slice_set, Contains, refl, sym, ap, subst, ◌∙◌, arith, get_or-set_same}
use Rattle.std.specs.List.{AllByRecursion}
use Rattle.std.proofs.lemmas.Bool.{cases_eq}
use Rattle.std.proofs.lemmas.List.{append_assoc}
use Rattle.pm_words.specs.Memory.{word_at, store_at, fence_by}
use Rattle.pm_words.specs.Word.{Word, settled, stored}
use Rattle.zo_plan.specs.declared.deed.Deed.{Deed}
use Rattle.zo_plan.specs.declared.deed.Deed.TheVariants.{Store, Count, Raise, Look, Flush, Fence}
use Rattle.zo_plan.specs.declared.deed.Due.{Due}
use Rattle.zo_plan.specs.declared.held.Held.{Held}
use Rattle.zo_plan.specs.declared.plan.Plan.{Plan}
use Rattle.zo_plan.specs.Deeds.{raised}
use Rattle.zo_lease.specs.Words.{noted_word}
use Rattle.zo_plan.specs.Operands.{real}
use Rattle.zo_plan.specs.Runs.{early, looks, note_beside, prepared, raises, notes}
use Rattle.zo_laws.specs.RunWords.{done_by, Spares, Goes, before_commit, NoteLaw}
use Rattle.zo_laws.proofs.Members.{contains_cases, contains_none}
use Rattle.zo_laws.proofs.WordMarks.{store_aside, length_store, length_flush, length_fence}
use Rattle.zo_laws.proofs.DurableLemmas.{Comes, Keeps, keeps_all, keeps_end, keeps_append, keeps_looks}

length_done : (thread seen : ℕ) (deed : Deed) (words : List Word) → length (done_by thread seen deed words) ≡ length words
length_done thread seen (Store addr word mark) words = length_store addr word words
length_done thread seen (Count addr) words = refl
length_done thread seen (Raise addr) words = length_store addr (raised seen) words
length_done thread seen (Look held) words = refl
length_done thread seen (Flush addr) words = length_flush thread addr words
length_done thread seen Fence words = length_fence thread words

pub store_here : (addr word : ℕ) (words : List Word) → addr / 8 < length words → (word_at (store_at addr word words) addr).present ≡ word
store_here addr word words inside = ap (λ (w : Word). w.present) (get_or-set_same words (addr / 8) (stored word (word_at words addr)) (settled 0) inside)

-- a store of a word anywhere, over words that have it here
store_anywhere : (addr other word : ℕ) (words : List Word) → addr / 8 < length words → (word_at words addr).present ≡ word → (word_at (store_at other word words) addr).present ≡ word
store_anywhere addr other word words inside is = by (cases_eq (other / 8) (addr / 8))
  where
    by : (other / 8 ≡ addr / 8) ⊎ (other / 8 ≡ addr / 8 → ⊥) → (word_at (store_at other word words) addr).present ≡ word
    by (inl same) = ap (λ (w : Word). w.present)
        (subst (λ (k : ℕ). slice_index_or (slice_set words k (stored word (word_at words other))) (addr / 8) (settled 0) ≡ stored word (word_at words other)) (sym same)
        (get_or-set_same words (addr / 8) (stored word (word_at words other)) (settled 0) inside))
    by (inr ne) = ap (λ (w : Word). w.present) (store_aside other word addr words ne) ∙ is

module _ (thread addr : ℕ) where
  -- the address is one of the memory
  abbrev pub Inside : List Word → Type 0
  Inside words = addr / 8 < length words

  pub inside_after : (before after : List Word) → length after ≡ length before → Inside before → Inside after
  inside_after before after len inside = omega (arith, len, inside)

  pub inside_spared : (before after : List Word) → Spares thread addr before after → Inside before → Inside after
  inside_spared before after spares inside = inside_after before after spares.len inside

  keeps_inside : (front : List Due) → AllByRecursion (Keeps thread addr Inside inside_spared) front
  keeps_inside [] = tt
  keeps_inside (d ∷ front) = (λ seen words inside. inside_after words (done_by thread seen d.deed words) (length_done thread seen d.deed words) inside, keeps_inside front)

  -- the word at the address has this value
  abbrev pub Has : ℕ → List Word → Type 0
  Has value words = Inside words × ((word_at words addr).present ≡ value)

  pub has_spared : (value : ℕ) (before after : List Word) → Spares thread addr before after → Has value before → Has value after
  has_spared value before after spares (inside, is) = (inside_spared before after spares inside, spares.present ∙ is)

module _ (thread : ℕ) (drawn : List ℕ) (leases : List Held) (plan : Plan) (held : Held) where
  abbrev addr : ℕ
  addr = noted_word held.lease

  abbrev Noted : List Word → Type 0
  Noted words = Has thread addr (real drawn plan.at) words

  noted_spared : (before after : List Word) → Spares thread addr before after → Noted before → Noted after
  noted_spared before after spares noted = has_spared thread addr (real drawn plan.at) before after spares noted

  keeps_noted : (first left : List Held) → AllByRecursion (Keeps thread addr Noted noted_spared) (notes drawn plan leases first left)
  keeps_noted first [] = tt
  keeps_noted first (other ∷ left) =
      keeps_append thread addr Noted noted_spared (looks first) (early (note_beside drawn plan other) ∷ notes drawn plan leases leases left)
      (keeps_looks thread addr Noted noted_spared first) (
        λ seen words noted. (
          inside_after thread addr words (store_at (noted_word other.lease) (real drawn plan.at) words) (length_store (noted_word other.lease) (real drawn plan.at) words) noted.0,
          store_anywhere addr (noted_word other.lease) (real drawn plan.at) words noted.0 noted.1,
        ),
        keeps_noted leases left,
      )

  noted_by : (left first : List Held) (rest : List Due) (seen : ℕ) (before after : List Word) → Contains left held → Inside thread addr before
      → Goes thread addr seen (notes drawn plan leases first left ++ rest) before after → Comes thread addr Noted rest after
  noted_by [] first rest seen before after among inside goes = absurd (contains_none held among)
  noted_by (this ∷ left) first rest seen before after among inside goes =
      by (contains_cases this left held among) (λ among seen before inside goes. noted_by left leases rest seen before after among inside goes)
    where
      stored_here : (seen : ℕ) (words : List Word) → Inside thread addr words → this ≡ held
          → Goes thread addr seen (early (note_beside drawn plan this) ∷ (notes drawn plan leases leases left ++ rest)) words after → Comes thread addr Noted rest after
      stored_here seen words inside is (between, spares, goes) =
          let inside' = inside_spared thread addr words between spares inside in
          let noted : Noted (store_at (noted_word this.lease) (real drawn plan.at) between) =
          subst (λ (h : Held). Noted (store_at (noted_word h.lease) (real drawn plan.at) between)) (sym is)
          (inside_after thread addr between (store_at addr (real drawn plan.at) between) (length_store addr (real drawn plan.at) between) inside', store_here addr (real drawn plan.at) between inside') in
          keeps_all thread addr Noted noted_spared (notes drawn plan leases leases left) rest seen (store_at (noted_word this.lease) (real drawn plan.at) between) after (keeps_noted leases left) noted goes

      by : (this ≡ held) ⊎ Contains left held
          → (Contains left held → (seen : ℕ) (before : List Word) → Inside thread addr before → Goes thread addr seen (notes drawn plan leases leases left ++ rest) before after → Comes thread addr Noted rest after)
          → Comes thread addr Noted rest after
      by (inl is) next =
          let comes = keeps_all thread addr (Inside thread addr) (inside_spared thread addr) (looks first) (early (note_beside drawn plan this) ∷ (notes drawn plan leases leases left ++ rest)) seen before after
          (keeps_inside thread addr (looks first)) inside
          (subst (λ (ds : List Due). Goes thread addr seen ds before after) (append_assoc (looks first) (early (note_beside drawn plan this) ∷ notes drawn plan leases leases left) rest) goes) in
          stored_here comes.seen comes.words comes.holds is comes.goes
      by (inr among) next =
          let comes = keeps_all thread addr (Inside thread addr) (inside_spared thread addr) (looks first ++ early (note_beside drawn plan this) ∷ []) (notes drawn plan leases leases left ++ rest) seen before after
          (keeps_inside thread addr (looks first ++ early (note_beside drawn plan this) ∷ [])) inside
          (subst (λ (ds : List Due). Goes thread addr seen ds before after)
          (append_assoc (looks first) (early (note_beside drawn plan this) ∷ notes drawn plan leases leases left) rest
          ∙ sym (append_assoc (looks first) (early (note_beside drawn plan this) ∷ []) (notes drawn plan leases leases left ++ rest))) goes) in
          next among comes.seen comes.words comes.holds comes.goes

  noted_at_last : (seen : ℕ) (before after : List Word) → Contains leases held → Inside thread addr before → Goes thread addr seen (before_commit drawn leases plan) before after → (word_at after addr).present ≡ real drawn plan.at
  noted_at_last seen before after among inside goes =
      let comes = keeps_all thread addr (Inside thread addr) (inside_spared thread addr) (prepared drawn leases leases plan.prepares.items) (early Fence ∷ (raises leases leases ++ (notes drawn plan leases leases leases ++ looks leases))) seen before after
      (keeps_inside thread addr (prepared drawn leases leases plan.prepares.items)) inside goes in
      fenced comes.seen comes.words comes.holds comes.goes
    where
      ended : Comes thread addr Noted (looks leases) after → (word_at after addr).present ≡ real drawn plan.at
      ended comes = (keeps_end thread addr Noted noted_spared (looks leases) comes.seen comes.words after (keeps_looks thread addr Noted noted_spared leases) comes.holds comes.goes).1

      fenced : (seen : ℕ) (words : List Word) → Inside thread addr words → Goes thread addr seen (early Fence ∷ (raises leases leases ++ (notes drawn plan leases leases leases ++ looks leases))) words after → (word_at after addr).present ≡ real drawn plan.at
      fenced seen words inside (between, spares, goes) =
          let comes = keeps_all thread addr (Inside thread addr) (inside_spared thread addr) (raises leases leases) (notes drawn plan leases leases leases ++ looks leases) seen (fence_by thread between) after
          (keeps_inside thread addr (raises leases leases))
          (inside_after thread addr between (fence_by thread between) (length_fence thread between) (inside_spared thread addr words between spares inside)) goes in
          ended (noted_by leases leases (looks leases) comes.seen comes.words after among comes.holds comes.goes)

pub noted_law : NoteLaw
noted_law thread seen drawn leases plan held before after among inside goes = noted_at_last thread drawn leases plan held seen before after among inside goes
