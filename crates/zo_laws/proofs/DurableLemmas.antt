-- What the actions of a run leave of a word of the memory.
use Rattle.std.proofs.Common.{◌≡◌, ◌≢◌, ◌⊎◌, inl, inr, ℕ, zero, suc, ◌/◌, ◌≤◌, ◌==◌, Bool, true, false, cond, List, [], ◌∷◌, ◌++◌, take, All, Contains, refl, sym, ap, subst, ◌∙◌, arith}
use Rattle.std.specs.List.{AllByRecursion}
use Rattle.std.proofs.lemmas.Bool.{cases_eq, eq-eqb, ne_eqb}
use Rattle.std.proofs.lemmas.List.{append_assoc}
use Rattle.std.proofs.lemmas.List.Elements.{recursion_from_All}
use Rattle.pm_words.specs.Memory.{store_at, flush_at, fence_by}
use Rattle.pm_words.specs.Word.{Word}
use Rattle.tr_types.specs.declared.entry.Mark.TheVariants as mark
use Rattle.zo_plan.specs.declared.deed.Deed.TheVariants.{Raise, Flush, Fence}
use Rattle.zo_plan.specs.declared.deed.Due.{Due}
use Rattle.zo_plan.specs.declared.held.Held.{Held}
use Rattle.zo_plan.specs.declared.plan.Plan.{Plan}
use Rattle.zo_plan.specs.declared.plan.Put.{Put}
use Rattle.zo_plan.specs.Deeds.{raised}
use Rattle.zo_lease.specs.Words.{noted_word, counter_word}
use Rattle.zo_plan.specs.Operands.{real}
use Rattle.zo_plan.specs.Runs.{early, late, looks, late_looks, looked_before, store_of, note_beside, line_of, flush_between, prepared, raises, notes, follows, from_settling, dues_of}
use Rattle.zo_laws.specs.RunWords.{done_by, counted_by, Spares, Goes, before_commit, IsAside, IsDurable, DurableLaw}
use Rattle.zo_laws.proofs.Members.{contains_cases, contains_none}
use Rattle.zo_laws.proofs.WordMarks.{IsMarked, flush_marks, flush_keeps_marked, spares_store, spared_marked, spared_durable, fence_settles}

-- a run comes to this memory, with so much left, and this holds there
pub record Comes (thread addr : ℕ) (P : List Word → Type 0) (left : List Due) (after : List Word) : Type 0 where
  pub seen : ℕ
  pub words : List Word
  pub holds : P words
  pub goes : Goes thread addr seen left words after

module _ (thread addr : ℕ) (P : List Word → Type 0) (spared : (before after : List Word) → Spares thread addr before after → P before → P after) where
  -- the action keeps it
  abbrev pub Keeps : Due → Type 0
  Keeps d = (seen : ℕ) (words : List Word) → P words → P (done_by thread seen d.deed words)

  -- a row of such actions keeps it
  pub keeps_all : (front left : List Due) (seen : ℕ) (before after : List Word) → AllByRecursion Keeps front → P before → Goes thread addr seen (front ++ left) before after → Comes thread addr P left after
  keeps_all [] left seen before after each holds goes = record { seen = seen; words = before; holds = holds; goes = goes }
  keeps_all (d ∷ front) left seen before after (here, each) holds (between, spares, goes) =
      keeps_all front left (counted_by seen d.deed between) (done_by thread seen d.deed between) after each (here seen between (spared before between spares holds)) goes

  pub keeps_end : (front : List Due) (seen : ℕ) (before after : List Word) → AllByRecursion Keeps front → P before → Goes thread addr seen front before after → P after
  keeps_end [] seen before after each holds spares = spared before after spares holds
  keeps_end (d ∷ front) seen before after (here, each) holds (between, spares, goes) =
      keeps_end front (counted_by seen d.deed between) (done_by thread seen d.deed between) after each (here seen between (spared before between spares holds)) goes

  pub keeps_append : (front behind : List Due) → AllByRecursion Keeps front → AllByRecursion Keeps behind → AllByRecursion Keeps (front ++ behind)
  keeps_append [] behind one two = two
  keeps_append (d ∷ front) behind (here, one) two = (here, keeps_append front behind one two)

  pub keeps_looks : (leases : List Held) → AllByRecursion Keeps (looks leases)
  keeps_looks [] = tt
  keeps_looks (held ∷ leases) = (λ seen words holds. holds, keeps_looks leases)

  pub keeps_late_looks : (leases : List Held) → AllByRecursion Keeps (late_looks leases)
  keeps_late_looks [] = tt
  keeps_late_looks (held ∷ leases) = (λ seen words holds. holds, keeps_late_looks leases)

-- that nothing is known holds always
module _ (thread addr : ℕ) where
  abbrev Any' : List Word → Type 0
  Any' words = Unit {0}

  pub passes : (front left : List Due) (seen : ℕ) (before after : List Word) → Goes thread addr seen (front ++ left) before after → Comes thread addr Any' left after
  passes front left seen before after goes = keeps_all thread addr Any' (λ before after spares holds. tt) front left seen before after (each front) tt goes
    where
      each : (front : List Due) → AllByRecursion (Keeps thread addr Any' (λ before after spares holds. tt)) front
      each [] = tt
      each (d ∷ front) = (λ seen words holds. tt, each front)

keeps_take : (thread addr : ℕ) (P : List Word → Type 0) (spared : (before after : List Word) → Spares thread addr before after → P before → P after) (count : ℕ) (front : List Due)
    → AllByRecursion (Keeps thread addr P spared) front → AllByRecursion (Keeps thread addr P spared) (take count front)
keeps_take thread addr P spared zero front each = tt
keeps_take thread addr P spared (suc count) [] each = tt
keeps_take thread addr P spared (suc count) (d ∷ front) (here, each) = (here, keeps_take thread addr P spared count front each)

module _ (thread addr : ℕ) where
  abbrev Marked : List Word → Type 0
  Marked words = IsMarked thread addr words

  abbrev Durable : List Word → Type 0
  Durable words = IsDurable addr words

  marked_spared : (before after : List Word) → Spares thread addr before after → Marked before → Marked after
  marked_spared before after spares marked = spared_marked thread addr before after spares marked

  durable_spared : (before after : List Word) → Spares thread addr before after → Durable before → Durable after
  durable_spared before after spares durable = spared_durable thread addr before after spares durable

  abbrev KeepsMarked : Due → Type 0
  KeepsMarked d = Keeps thread addr Marked marked_spared d

  abbrev KeepsDurable : Due → Type 0
  KeepsDurable d = Keeps thread addr Durable durable_spared d

  store_keeps_durable : (other word : ℕ) (words : List Word) → other / 8 ≢ addr / 8 → Durable words → Durable (store_at other word words)
  store_keeps_durable other word words ne durable = spared_durable thread addr words (store_at other word words) (spares_store thread addr other word words ne) durable

-- the stores that prepare a change

module _ (thread addr : ℕ) (drawn : List ℕ) (leases : List Held) where
  -- a store of these goes to the line
  abbrev in_lines : List Put → Bool
  in_lines [] = false
  in_lines (put ∷ puts) = cond (line_of (real drawn put.at) == line_of addr) true (in_lines puts)

  is_in : (puts : List Put) (put : Put) → Contains puts put → addr ≡ real drawn put.at → in_lines puts ≡ true
  is_in [] put among is = absurd (contains_none put among)
  is_in (first ∷ puts) put among is = by (contains_cases first puts put among) (λ among. is_in puts put among is)
    where
      here : first ≡ put → line_of (real drawn first.at) ≡ line_of addr
      here e = ap (λ (p : Put). line_of (real drawn p.at)) e ∙ ap (λ (a : ℕ). line_of a) (sym is)

      by_test : (same : Bool) → in_lines puts ≡ true → cond same true (in_lines puts) ≡ true
      by_test true rest = refl
      by_test false rest = rest

      by : (first ≡ put) ⊎ Contains puts put → (Contains puts put → in_lines puts ≡ true) → cond (line_of (real drawn first.at) == line_of addr) true (in_lines puts) ≡ true
      by (inl e) rest = ap (λ (b : Bool). cond b true (in_lines puts)) (eq-eqb (line_of (real drawn first.at)) (line_of addr) (here e))
      by (inr among) rest = by_test (line_of (real drawn first.at) == line_of addr) (rest among)

  abbrev IsElsewhere : Put → Type 0
  IsElsewhere put = line_of (real drawn put.at) ≢ line_of addr

  none_in : (puts : List Put) → in_lines puts ≡ false → AllByRecursion IsElsewhere puts
  none_in [] none = tt
  none_in (put ∷ puts) none = by (cases_eq (line_of (real drawn put.at)) (line_of addr)) (λ none. none_in puts none)
    where
      true_is : true ≡ false → ⊥
      true_is e = cc

      by : (line_of (real drawn put.at) ≡ line_of addr) ⊎ (line_of (real drawn put.at) ≡ line_of addr → ⊥) → (in_lines puts ≡ false → AllByRecursion IsElsewhere puts) → AllByRecursion IsElsewhere (put ∷ puts)
      by (inl same) rest = absurd (true_is (sym (ap (λ (b : Bool). cond b true (in_lines puts)) (eq-eqb (line_of (real drawn put.at)) (line_of addr) same)) ∙ none))
      by (inr other) rest = (other, rest (sym (ap (λ (b : Bool). cond b true (in_lines puts)) (ne_eqb (line_of (real drawn put.at)) (line_of addr) other)) ∙ none))

  first_in : (put : Put) (puts : List Put) → in_lines (put ∷ puts) ≡ true → in_lines puts ≡ false → line_of (real drawn put.at) ≡ line_of addr
  first_in put puts some none = by (cases_eq (line_of (real drawn put.at)) (line_of addr))
    where
      false_is : false ≡ true → ⊥
      false_is e = cc

      by : (line_of (real drawn put.at) ≡ line_of addr) ⊎ (line_of (real drawn put.at) ≡ line_of addr → ⊥) → line_of (real drawn put.at) ≡ line_of addr
      by (inl same) = same
      by (inr other) = absurd (false_is (sym none ∙ sym (ap (λ (b : Bool). cond b true (in_lines puts)) (ne_eqb (line_of (real drawn put.at)) (line_of addr) other)) ∙ some))

  flush_last : (put : Put) (puts : List Put) → line_of (real drawn put.at) ≡ line_of addr → AllByRecursion IsElsewhere puts → flush_between drawn put puts ≡ early (Flush (real drawn put.at)) ∷ []
  flush_last put [] same others = refl
  flush_last put (next ∷ puts) same (other, others) =
      ap (λ (b : Bool). cond b [] (early (Flush (real drawn put.at)) ∷ [])) (ne_eqb (line_of (real drawn next.at)) (line_of (real drawn put.at)) (λ e. other (e ∙ same)))

  keeps_flush : (put : Put) (puts : List Put) → AllByRecursion (KeepsMarked thread addr) (flush_between drawn put puts)
  keeps_flush put [] = (λ seen words marked. flush_keeps_marked thread (real drawn put.at) addr words marked, tt)
  keeps_flush put (next ∷ puts) = by (line_of (real drawn next.at) == line_of (real drawn put.at))
    where
      by : (same : Bool) → AllByRecursion (KeepsMarked thread addr) (cond same [] (early (Flush (real drawn put.at)) ∷ []))
      by true = tt
      by false = (λ seen words marked. flush_keeps_marked thread (real drawn put.at) addr words marked, tt)

  keeps_prepared : (first : List Held) (puts : List Put) → AllByRecursion IsElsewhere puts → AllByRecursion (KeepsMarked thread addr) (prepared drawn leases first puts)
  keeps_prepared first [] others = tt
  keeps_prepared first (put ∷ puts) (other, others) =
      keeps_append thread addr (Marked thread addr) (marked_spared thread addr) (looks (looked_before put.at first) ++ early (store_of drawn mark.Plain put) ∷ flush_between drawn put puts) (prepared drawn leases leases puts)
      (keeps_append thread addr (Marked thread addr) (marked_spared thread addr) (looks (looked_before put.at first)) (early (store_of drawn mark.Plain put) ∷ flush_between drawn put puts)
      (keeps_looks thread addr (Marked thread addr) (marked_spared thread addr) (looked_before put.at first))
      (λ seen words marked. spared_marked thread addr words (store_at (real drawn put.at) (real drawn put.word) words) (spares_store thread addr (real drawn put.at) (real drawn put.word) words (apart (real drawn put.at) other)) marked, keeps_flush put puts))
      (keeps_prepared leases puts others)
    where
      apart : (a : ℕ) → line_of a ≢ line_of addr → a / 8 ≢ addr / 8
      apart a ne same = ne (let eq : a / 8 ≡ addr / 8 = same in omega (arith, eq))

  -- the line of each store was flushed behind the last one that goes there
  marked_by : (puts : List Put) (first : List Held) (left : List Due) (seen : ℕ) (before after : List Word) → in_lines puts ≡ true
      → Goes thread addr seen (prepared drawn leases first puts ++ left) before after → Comes thread addr (Marked thread addr) left after
  marked_by [] first left seen before after some goes = absurd (false_is some)
    where
      false_is : false ≡ true → ⊥
      false_is e = cc
  marked_by (put ∷ puts) first left seen before after some goes = by (in_lines puts) refl (λ seen before goes more. marked_by puts leases left seen before after more goes)
    where
      nested : (a b d : List Due) → ((a ++ early (store_of drawn mark.Plain put) ∷ b) ++ d) ++ left ≡ (a ++ early (store_of drawn mark.Plain put) ∷ b) ++ (d ++ left)
      nested a b d = append_assoc (a ++ early (store_of drawn mark.Plain put) ∷ b) d left

      last : (a d : List Due) → (a ++ early (store_of drawn mark.Plain put) ∷ early (Flush (real drawn put.at)) ∷ []) ++ d ≡ (a ++ early (store_of drawn mark.Plain put) ∷ []) ++ early (Flush (real drawn put.at)) ∷ d
      last a d = append_assoc a (early (store_of drawn mark.Plain put) ∷ early (Flush (real drawn put.at)) ∷ []) d ∙ sym (append_assoc a (early (store_of drawn mark.Plain put) ∷ []) (early (Flush (real drawn put.at)) ∷ d))

      by : (more : Bool) → in_lines puts ≡ more
          → ((seen : ℕ) (before : List Word) → Goes thread addr seen (prepared drawn leases leases puts ++ left) before after → in_lines puts ≡ true → Comes thread addr (Marked thread addr) left after)
          → Comes thread addr (Marked thread addr) left after
      by true e next =
          let passed = passes thread addr (looks (looked_before put.at first) ++ early (store_of drawn mark.Plain put) ∷ flush_between drawn put puts) (prepared drawn leases leases puts ++ left) seen before after
          (subst (λ (ds : List Due). Goes thread addr seen ds before after) (nested (looks (looked_before put.at first)) (flush_between drawn put puts) (prepared drawn leases leases puts)) goes) in
          next passed.seen passed.words passed.goes e
      by false e next =
          let same = first_in put puts some e in
          let others = none_in puts e in
          let passed = passes thread addr (looks (looked_before put.at first) ++ early (store_of drawn mark.Plain put) ∷ []) (early (Flush (real drawn put.at)) ∷ (prepared drawn leases leases puts ++ left)) seen before after
          (subst (λ (ds : List Due). Goes thread addr seen ds before after)
          (nested (looks (looked_before put.at first)) (flush_between drawn put puts) (prepared drawn leases leases puts)
          ∙ ap (λ (b : List Due). (looks (looked_before put.at first) ++ early (store_of drawn mark.Plain put) ∷ b) ++ (prepared drawn leases leases puts ++ left)) (flush_last put puts same others)
          ∙ last (looks (looked_before put.at first)) (prepared drawn leases leases puts ++ left)) goes) in
          flushed passed.seen passed.goes same others
        where
          flushed : (seen : ℕ) → {words : List Word} → Goes thread addr seen (early (Flush (real drawn put.at)) ∷ (prepared drawn leases leases puts ++ left)) words after
              → line_of (real drawn put.at) ≡ line_of addr → AllByRecursion IsElsewhere puts → Comes thread addr (Marked thread addr) left after
          flushed seen (between, spares, goes) same others =
              keeps_all thread addr (Marked thread addr) (marked_spared thread addr) (prepared drawn leases leases puts) left seen (flush_at thread (real drawn put.at) between) after
              (keeps_prepared leases puts others) (flush_marks thread (real drawn put.at) addr between same) goes

  keeps_raises : (held : List Held) → AllByRecursion (IsAside addr) held → AllByRecursion (KeepsDurable thread addr) (raises leases held)
  keeps_raises [] aside = tt
  keeps_raises (held ∷ others) ((note, counter), aside) = (
    λ seen words durable. durable,
    keeps_append thread addr (Durable thread addr) (durable_spared thread addr) (looks leases) (early (Raise (counter_word held.lease)) ∷ raises leases others)
        (keeps_looks thread addr (Durable thread addr) (durable_spared thread addr) leases)
        (λ seen words durable. store_keeps_durable thread addr (counter_word held.lease) (raised seen) words (λ e. counter (sym e)) durable, keeps_raises others aside),
  )

  keeps_notes : (plan : Plan) (first held : List Held) → AllByRecursion (IsAside addr) held → AllByRecursion (KeepsDurable thread addr) (notes drawn plan leases first held)
  keeps_notes plan first [] aside = tt
  keeps_notes plan first (held ∷ others) ((note, counter), aside) =
      keeps_append thread addr (Durable thread addr) (durable_spared thread addr) (looks first) (early (note_beside drawn plan held) ∷ notes drawn plan leases leases others)
      (keeps_looks thread addr (Durable thread addr) (durable_spared thread addr) first)
      (λ seen words durable. store_keeps_durable thread addr (noted_word held.lease) (real drawn plan.at) words (λ e. note (sym e)) durable, keeps_notes plan leases others aside)

  abbrev IsOther : Put → Type 0
  IsOther put = real drawn put.at / 8 ≢ addr / 8

  keeps_follows : (first : List Held) (puts : List Put) → AllByRecursion IsOther puts → AllByRecursion (KeepsDurable thread addr) (follows drawn leases first puts)
  keeps_follows first [] others = tt
  keeps_follows first (put ∷ puts) (other, others) =
      keeps_append thread addr (Durable thread addr) (durable_spared thread addr) (late_looks first) (late (store_of drawn mark.Plain put) ∷ follows drawn leases leases puts)
      (keeps_late_looks thread addr (Durable thread addr) (durable_spared thread addr) first)
      (λ seen words durable. store_keeps_durable thread addr (real drawn put.at) (real drawn put.word) words other durable, keeps_follows leases puts others)

abbrev the_commit : List ℕ → List Held → Plan → List Due
the_commit drawn leases plan = early (store_of drawn mark.Commit plan.commit) ∷ from_settling drawn leases plan

-- what a run gives between the fence and the commit
abbrev between_fences : List ℕ → List Held → Plan → List Due
between_fences drawn leases plan = raises leases leases ++ (notes drawn plan leases leases leases ++ looks leases)

order_is : (drawn : List ℕ) (leases : List Held) (plan : Plan) → dues_of drawn leases plan ≡ before_commit drawn leases plan ++ early (store_of drawn mark.Commit plan.commit) ∷ from_settling drawn leases plan
order_is drawn leases plan =
    sym (append_assoc (prepared drawn leases leases plan.prepares.items) (early Fence ∷ (raises leases leases ++ (notes drawn plan leases leases leases ++ looks leases))) (the_commit drawn leases plan)
    ∙ ap (λ (ds : List Due). prepared drawn leases leases plan.prepares.items ++ early Fence ∷ ds)
    (append_assoc (raises leases leases) (notes drawn plan leases leases leases ++ looks leases) (the_commit drawn leases plan)
    ∙ ap (λ (ds : List Due). raises leases leases ++ ds) (append_assoc (notes drawn plan leases leases leases) (looks leases) (the_commit drawn leases plan))))

prepared_durable : (thread addr seen : ℕ) (drawn : List ℕ) (leases : List Held) (plan : Plan) (put : Put) (before after : List Word)
    → Contains plan.prepares.items put → addr ≡ real drawn put.at → All (IsAside addr) leases
    → Goes thread addr seen (before_commit drawn leases plan) before after → IsDurable addr after
prepared_durable thread addr seen drawn leases plan put before after among is aside goes =
    fenced (marked_by thread addr drawn leases plan.prepares.items leases (early Fence ∷ between_fences drawn leases plan) seen before after (is_in thread addr drawn leases plan.prepares.items put among is) goes)
  where
    settled_by : (seen : ℕ) (words : List Word) → IsMarked thread addr words → Goes thread addr seen (early Fence ∷ between_fences drawn leases plan) words after → IsDurable addr after
    settled_by seen words marked (between, spares, goes) =
        keeps_end thread addr (Durable thread addr) (durable_spared thread addr) (between_fences drawn leases plan) seen (fence_by thread between) after
        (keeps_append thread addr (Durable thread addr) (durable_spared thread addr) (raises leases leases) (notes drawn plan leases leases leases ++ looks leases)
        (keeps_raises thread addr drawn leases leases (recursion_from_All (IsAside addr) leases aside))
        (keeps_append thread addr (Durable thread addr) (durable_spared thread addr) (notes drawn plan leases leases leases) (looks leases)
        (keeps_notes thread addr drawn leases plan leases leases (recursion_from_All (IsAside addr) leases aside))
        (keeps_looks thread addr (Durable thread addr) (durable_spared thread addr) leases)))
        (fence_settles thread addr between (spared_marked thread addr words between spares marked)) goes

    fenced : Comes thread addr (Marked thread addr) (early Fence ∷ between_fences drawn leases plan) after → IsDurable addr after
    fenced comes = settled_by comes.seen comes.words comes.holds comes.goes

committed_durable : (thread seen count : ℕ) (drawn : List ℕ) (leases : List Held) (plan : Plan) (before after : List Word)
    → 2 ≤ count → All (λ put. real drawn put.at / 8 ≢ real drawn plan.commit.at / 8) plan.after.items
    → Goes thread (real drawn plan.commit.at) seen (take count (from_settling drawn leases plan)) before after → IsDurable (real drawn plan.commit.at) after
committed_durable thread seen zero drawn leases plan before after few others goes = absurd (omega arith)
committed_durable thread seen (suc zero) drawn leases plan before after few others goes = absurd (omega arith)
committed_durable thread seen (suc (suc count)) drawn leases plan before after few others (flushing, one, (fencing, two, goes)) =
    keeps_end thread (real drawn plan.commit.at) (Durable thread (real drawn plan.commit.at)) (durable_spared thread (real drawn plan.commit.at)) (take count (follows drawn leases leases plan.after.items)) seen (fence_by thread fencing) after
    (keeps_take thread (real drawn plan.commit.at) (Durable thread (real drawn plan.commit.at)) (durable_spared thread (real drawn plan.commit.at)) count (follows drawn leases leases plan.after.items)
    (keeps_follows thread (real drawn plan.commit.at) drawn leases leases plan.after.items (recursion_from_All (λ (put : Put). real drawn put.at / 8 ≢ real drawn plan.commit.at / 8) plan.after.items others)))
    (fence_settles thread (real drawn plan.commit.at) fencing (spared_marked thread (real drawn plan.commit.at) (flush_at thread (real drawn plan.commit.at) flushing) fencing two (flush_marks thread (real drawn plan.commit.at) (real drawn plan.commit.at) flushing refl))) goes

pub durable : DurableLaw
durable = record { order = order_is; prepared = prepared_durable; committed = committed_durable }
