-- The counters beside the leases of a run are raised before the commit.
use Rattle.std.proofs.Common.{◌≡◌, ◌≢◌, ℕ, ◌+◌, ◌*◌, ◌/◌, ◌==◌, Bool, true, false, cond, List, [], ◌∷◌, ◌++◌, refl, sym, ap, subst, ◌∙◌, arith}
use Rattle.std.specs.List.{AllByRecursion}
use Rattle.std.proofs.lemmas.List.{append_assoc}
use Rattle.std.proofs.lemmas.List.Elements.{recursion_from_All}
use Rattle.pm_words.specs.Memory.{word_at, store_at, flush_at, fence_by}
use Rattle.pm_words.specs.Word.{Word}
use Rattle.tr_types.specs.declared.entry.Mark.TheVariants as mark
use Rattle.zo_plan.specs.declared.deed.Deed.TheVariants.{Count, Raise, Flush, Fence}
use Rattle.zo_plan.specs.declared.deed.Due.{Due}
use Rattle.zo_plan.specs.declared.held.Held.{Held}
use Rattle.zo_plan.specs.declared.plan.Plan.{Plan}
use Rattle.zo_plan.specs.declared.plan.Put.{Put}
use Rattle.zo_plan.specs.Deeds.{raised}
use Rattle.zo_lease.specs.Words.{noted_word, counter_word}
use Rattle.zo_plan.specs.Operands.{real}
use Rattle.zo_plan.specs.Runs.{early, looks, looked_before, store_of, note_beside, line_of, flush_between, prepared, raises, notes}
use Rattle.zo_laws.specs.RunWords.{Spares, Goes, before_commit, IsAside, CounterLaw}
use Rattle.zo_laws.proofs.WordMarks.{store_aside, length_store, length_flush, flush_present, spares_fence}
use Rattle.zo_laws.proofs.DurableLemmas.{Comes, Keeps, keeps_all, keeps_end, keeps_append, keeps_looks}
use Rattle.zo_laws.proofs.NoteLemmas.{store_here, inside_after, inside_spared, Has, has_spared}

pub all_append : {X : Type 0} (P : X → Type 0) (front behind : List X) → AllByRecursion P front → AllByRecursion P behind → AllByRecursion P (front ++ behind)
all_append P [] behind one two = two
all_append P (x ∷ front) behind (here, one) two = (here, all_append P front behind one two)

module _ (thread addr : ℕ) (drawn : List ℕ) (leases : List Held) (value : ℕ) where
  abbrev HasIt : List Word → Type 0
  HasIt words = Has thread addr value words

  it_spared : (before after : List Word) → Spares thread addr before after → HasIt before → HasIt after
  it_spared before after spares has = has_spared thread addr value before after spares has

  abbrev KeepsIt : Due → Type 0
  KeepsIt d = Keeps thread addr HasIt it_spared d

  store_keeps : (other word : ℕ) (words : List Word) → other / 8 ≢ addr / 8 → HasIt words → HasIt (store_at other word words)
  store_keeps other word words ne (inside, is) =
      (inside_after thread addr words (store_at other word words) (length_store other word words) inside, ap (λ (w : Word). w.present) (store_aside other word addr words ne) ∙ is)

  flush_keeps : (line : ℕ) (words : List Word) → HasIt words → HasIt (flush_at thread line words)
  flush_keeps line words (inside, is) = (inside_after thread addr words (flush_at thread line words) (length_flush thread line words) inside, flush_present thread line addr words ∙ is)

  keeps_flush : (put : Put) (puts : List Put) → AllByRecursion KeepsIt (flush_between drawn put puts)
  keeps_flush put [] = (λ seen words has. flush_keeps (real drawn put.at) words has, tt)
  keeps_flush put (next ∷ puts) = by (line_of (real drawn next.at) == line_of (real drawn put.at))
    where
      by : (same : Bool) → AllByRecursion KeepsIt (cond same [] (early (Flush (real drawn put.at)) ∷ []))
      by true = tt
      by false = (λ seen words has. flush_keeps (real drawn put.at) words has, tt)

  abbrev IsOther : Put → Type 0
  IsOther put = real drawn put.at / 8 ≢ addr / 8

  keeps_prepared : (first : List Held) (puts : List Put) → AllByRecursion IsOther puts → AllByRecursion KeepsIt (prepared drawn leases first puts)
  keeps_prepared first [] others = tt
  keeps_prepared first (put ∷ puts) (other, others) =
      keeps_append thread addr HasIt it_spared (looks (looked_before put.at first) ++ early (store_of drawn mark.Plain put) ∷ flush_between drawn put puts) (prepared drawn leases leases puts)
      (keeps_append thread addr HasIt it_spared (looks (looked_before put.at first)) (early (store_of drawn mark.Plain put) ∷ flush_between drawn put puts)
      (keeps_looks thread addr HasIt it_spared (looked_before put.at first))
      (λ seen words has. store_keeps (real drawn put.at) (real drawn put.word) words other has, keeps_flush put puts))
      (keeps_prepared leases puts others)

  keeps_raises : (held : List Held) → AllByRecursion (IsAside addr) held → AllByRecursion KeepsIt (raises leases held)
  keeps_raises [] aside = tt
  keeps_raises (held ∷ others) ((note, counter), aside) = (
    λ seen words has. has,
    keeps_append thread addr HasIt it_spared (looks leases) (early (Raise (counter_word held.lease)) ∷ raises leases others)
        (keeps_looks thread addr HasIt it_spared leases)
        (λ seen words has. store_keeps (counter_word held.lease) (raised seen) words (λ e. counter (sym e)) has, keeps_raises others aside),
  )

  abbrev IsNotedAside : Held → Type 0
  IsNotedAside held = addr / 8 ≢ noted_word held.lease / 8

  noted_aside : (held : List Held) → AllByRecursion (IsAside addr) held → AllByRecursion IsNotedAside held
  noted_aside [] aside = tt
  noted_aside (held ∷ others) ((note, counter), aside) = (note, noted_aside others aside)

  keeps_notes : (plan : Plan) (first held : List Held) → AllByRecursion IsNotedAside held → AllByRecursion KeepsIt (notes drawn plan leases first held)
  keeps_notes plan first [] aside = tt
  keeps_notes plan first (held ∷ others) (note, aside) =
      keeps_append thread addr HasIt it_spared (looks first) (early (note_beside drawn plan held) ∷ notes drawn plan leases leases others)
      (keeps_looks thread addr HasIt it_spared first)
      (λ seen words has. store_keeps (noted_word held.lease) (real drawn plan.at) words (λ e. note (sym e)) has, keeps_notes plan leases others aside)

  -- looks change nothing that is known, and no counter is loaded by them
  pub record Looked (left : List Due) (seen : ℕ) (after : List Word) : Type 0 where
    pub words : List Word
    pub has : HasIt words
    pub goes : Goes thread addr seen left words after

  looks_pass : (first : List Held) (left : List Due) (seen : ℕ) (before after : List Word) → HasIt before → Goes thread addr seen (looks first ++ left) before after → Looked left seen after
  looks_pass [] left seen before after has goes = record { words = before; has = has; goes = goes }
  looks_pass (held ∷ first) left seen before after has (between, spares, goes) = looks_pass first left seen between after (it_spared before between spares has) goes

raises_append : (leases front behind : List Held) → raises leases (front ++ behind) ≡ raises leases front ++ raises leases behind
raises_append leases [] behind = refl
raises_append leases (held ∷ front) behind =
    ap (λ (ds : List Due). (early (Count (counter_word held.lease)) ∷ looks leases) ++ early (Raise (counter_word held.lease)) ∷ ds) (raises_append leases front behind)
    ∙ sym (append_assoc (early (Count (counter_word held.lease)) ∷ looks leases) (early (Raise (counter_word held.lease)) ∷ raises leases front) (raises leases behind))

module _ (thread : ℕ) (drawn : List ℕ) (leases behind : List Held) (held : Held) (value : ℕ) (rest : List Due) (after : List Word) (behind_aside : AllByRecursion (IsAside (counter_word held.lease)) behind) where
  abbrev counter : ℕ
  counter = counter_word held.lease

  abbrev Old : List Word → Type 0
  Old words = Has thread counter value words

  abbrev New : List Word → Type 0
  New words = Has thread counter (raised value) words

  new_spared : (before after : List Word) → Spares thread counter before after → New before → New after
  new_spared before after spares has = has_spared thread counter (raised value) before after spares has

  stores_raised : (seen : ℕ) (words : List Word) → Old words → seen ≡ value → Goes thread counter seen (early (Raise counter) ∷ (raises leases behind ++ rest)) words after → Comes thread counter New rest after
  stores_raised seen words (inside, is) seen_is (between, spares, goes) =
      let inside' = inside_spared thread counter words between spares inside in
      keeps_all thread counter New new_spared (raises leases behind) rest seen (store_at counter (raised seen) between) after
      (keeps_raises thread counter drawn leases (raised value) behind behind_aside)
      (inside_after thread counter between (store_at counter (raised seen) between) (length_store counter (raised seen) between) inside', store_here counter (raised seen) between inside' ∙ ap raised seen_is)
      goes

  raises_this : (seen : ℕ) (words : List Word) → Old words → Goes thread counter seen (raises leases (held ∷ behind) ++ rest) words after → Comes thread counter New rest after
  raises_this seen words old (between, spares, goes) =
      let old' = has_spared thread counter value words between spares old in
      let looked = looks_pass thread counter drawn leases value leases (early (Raise counter) ∷ (raises leases behind ++ rest)) (word_at between counter).present between after old'
      (subst (λ (ds : List Due). Goes thread counter (word_at between counter).present ds between after) (append_assoc (looks leases) (early (Raise counter) ∷ raises leases behind) rest) goes) in
      stores_raised (word_at between counter).present looked.words looked.has old'.1 looked.goes

-- the note beside a lease is another word than its counter
note_differs : (lease : ℕ) → counter_word lease / 8 ≢ noted_word lease / 8
note_differs lease same = let eq : (lease + 8 * 2) / 8 ≡ (lease + 8 * 1) / 8 = same in omega (arith, eq)

module _ (thread : ℕ) (drawn : List ℕ) (leases front behind : List Held) (plan : Plan) (held : Held) (value : ℕ) (after : List Word) (split : leases ≡ front ++ held ∷ behind)
    (front_aside : AllByRecursion (IsAside (counter_word held.lease)) front) (behind_aside : AllByRecursion (IsAside (counter_word held.lease)) behind) where
  abbrev this_counter : ℕ
  this_counter = counter_word held.lease

  abbrev Before : List Word → Type 0
  Before words = Has thread this_counter value words

  abbrev After : List Word → Type 0
  After words = Has thread this_counter (raised value) words

  before_spared : (before after : List Word) → Spares thread this_counter before after → Before before → Before after
  before_spared before after spares has = has_spared thread this_counter value before after spares has

  after_spared : (before after : List Word) → Spares thread this_counter before after → After before → After after
  after_spared before after spares has = has_spared thread this_counter (raised value) before after spares has

  abbrev noting : List Due
  noting = notes drawn plan leases leases leases ++ looks leases

  notes_aside : AllByRecursion (IsNotedAside thread this_counter drawn leases (raised value)) leases
  notes_aside = subst (λ (hs : List Held). AllByRecursion (IsNotedAside thread this_counter drawn leases (raised value)) hs) (sym split)
      (all_append (IsNotedAside thread this_counter drawn leases (raised value)) front (held ∷ behind) (noted_aside thread this_counter drawn leases (raised value) front front_aside)
      (note_differs held.lease, noted_aside thread this_counter drawn leases (raised value) behind behind_aside))

  ended : Comes thread this_counter After noting after → (word_at after this_counter).present ≡ raised value
  ended comes = (keeps_end thread this_counter After after_spared noting comes.seen comes.words after
      (keeps_append thread this_counter After after_spared (notes drawn plan leases leases leases) (looks leases)
      (keeps_notes thread this_counter drawn leases (raised value) plan leases leases notes_aside)
      (keeps_looks thread this_counter After after_spared leases))
      comes.holds comes.goes).1

  raises_all : (seen : ℕ) (words : List Word) → Before words → Goes thread this_counter seen (raises leases leases ++ noting) words after → (word_at after this_counter).present ≡ raised value
  raises_all seen words has goes =
      let comes = keeps_all thread this_counter Before before_spared (raises leases front) (raises leases (held ∷ behind) ++ noting) seen words after
      (keeps_raises thread this_counter drawn leases value front front_aside) has
      (subst (λ (ds : List Due). Goes thread this_counter seen ds words after)
      (ap (λ (hs : List Held). raises leases hs ++ noting) split
      ∙ ap (λ (ds : List Due). ds ++ noting) (raises_append leases front (held ∷ behind))
      ∙ append_assoc (raises leases front) (raises leases (held ∷ behind)) noting) goes) in
      ended (raises_this thread drawn leases behind held value noting after behind_aside comes.seen comes.words comes.holds comes.goes)

  fenced : (seen : ℕ) (words : List Word) → Before words → Goes thread this_counter seen (early Fence ∷ (raises leases leases ++ noting)) words after → (word_at after this_counter).present ≡ raised value
  fenced seen words has (between, spares, goes) =
      raises_all seen (fence_by thread between)
      (before_spared between (fence_by thread between) (spares_fence thread this_counter thread between) (before_spared words between spares has)) goes

  counter_raised : (seen : ℕ) (before : List Word) → Before before → AllByRecursion (IsOther thread this_counter drawn leases value) plan.prepares.items
      → Goes thread this_counter seen (before_commit drawn leases plan) before after → (word_at after this_counter).present ≡ raised value
  counter_raised seen before has others goes =
      let comes = keeps_all thread this_counter Before before_spared (prepared drawn leases leases plan.prepares.items) (early Fence ∷ (raises leases leases ++ noting)) seen before after
      (keeps_prepared thread this_counter drawn leases value leases plan.prepares.items others) has goes in
      fenced comes.seen comes.words comes.holds comes.goes

pub counter_law : CounterLaw
counter_law thread seen drawn leases front behind plan held before after split front_aside behind_aside others inside goes =
    counter_raised thread drawn leases front behind plan held (word_at before (counter_word held.lease)).present after split
    (recursion_from_All (IsAside (counter_word held.lease)) front front_aside) (recursion_from_All (IsAside (counter_word held.lease)) behind behind_aside)
    seen before (inside, refl)
    (recursion_from_All (λ (put : Put). real drawn put.at / 8 ≢ counter_word held.lease / 8) plan.prepares.items others) goes
