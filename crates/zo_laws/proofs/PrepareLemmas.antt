-- What the stores that prepare a link leave alone: all that the directory shows.
use Rattle.std.proofs.Common.{◌≡◌, ◌⊎◌, inl, inr, ℕ, ◌+◌, ◌%◌, ◌<◌, ◌≤◌, List, [], ◌∷◌, length, take, Contains, Option, subst, ap, arith}
use Rattle.zo_layout.specs.Layout.{page_at, bucket_head, first_entry_page, first_free_entry, next_entry}
use Rattle.zo_model.specs.Directory.{IsPlace, Leads, Shows, IsReached, HasFree}
use Rattle.zo_laws.specs.Stores.{after_stores}
use Rattle.zo_laws.proofs.Members.{contains_cases}
use Rattle.zo_laws.proofs.StoreLemmas.{Within, Aside, within-weaker, after_aside}
use Rattle.zo_laws.proofs.FrameLemmas.{SameEntry, shows_same, reached_same, leads_unique}
use Rattle.zo_laws.proofs.PairLemmas.{InRange}
use Rattle.zo_laws.proofs.CommitLemmas.{off_dir, IsReady}

-- the addresses that the stores of a link go to before the commit: two words of the directory, and a range
abbrev pub Touched : ℕ → ℕ → ℕ → ℕ → Type 0
Touched d from to a = (a ≡ first_entry_page (page_at d)) ⊎ ((a ≡ first_free_entry (page_at d)) ⊎ InRange from to a)

-- a range of words that the directory doesn't show
pub record IsAsideOf (at : ℕ → ℕ) (EntryPage : ℕ → Type 0) (d from to : ℕ) : Type 0 where
  pub not_entries : EntryPage d → ⊥
  pub off_page : (to ≤ page_at d) ⊎ (page_at d + 4096 ≤ from)
  pub off_entries : (e : ℕ) → IsReached at (page_at d) e → IsPlace EntryPage e → (e + 320 ≤ from) ⊎ (to ≤ e)

head_aside : (d from to b a : ℕ) → b < 256 → (to ≤ page_at d) ⊎ (page_at d + 4096 ≤ from) → Touched d from to a → Aside (bucket_head (page_at d) b) a
head_aside d from to b a low off (inl first) = λ same. omega arith
head_aside d from to b a low off (inr (inl free)) = λ same. omega arith
head_aside d from to b a low (inl before) (inr (inr (at_8, more, less))) = λ same. omega arith
head_aside d from to b a low (inr behind) (inr (inr (at_8, more, less))) = λ same. omega arith

-- stores to those addresses leave the heads of the buckets
pub heads_kept : (at : ℕ → ℕ) (EntryPage : ℕ → Type 0) (d from to : ℕ) (pairs : List (ℕ × ℕ)) → IsAsideOf at EntryPage d from to → Within (Touched d from to) pairs
    → (b : ℕ) → b < 256 → after_stores at pairs (bucket_head (page_at d) b) ≡ at (bucket_head (page_at d) b)
heads_kept at EntryPage d from to pairs aside all b low =
    after_aside at pairs (bucket_head (page_at d) b)
    (within-weaker (Touched d from to) (Aside (bucket_head (page_at d) b)) (λ a touched. head_aside d from to b a low aside.off_page touched) pairs all)

word_aside : (d from to a x : ℕ) → a % 8 ≡ 0 → (a < page_at d) ⊎ (page_at d + 4096 ≤ a) → (a < from) ⊎ (to ≤ a) → Touched d from to x → Aside a x
word_aside d from to a x at_8 (inl before) out (inl first) = λ same. omega arith
word_aside d from to a x at_8 (inr behind) out (inl first) = λ same. omega arith
word_aside d from to a x at_8 (inl before) out (inr (inl free)) = λ same. omega arith
word_aside d from to a x at_8 (inr behind) out (inr (inl free)) = λ same. omega arith
word_aside d from to a x at_8 off (inl under) (inr (inr (x_8, more, less))) = λ same. omega arith
word_aside d from to a x at_8 off (inr over) (inr (inr (x_8, more, less))) = λ same. omega arith

-- a word that lies in no page of the directory's and outside of the range
pub word_kept : (at : ℕ → ℕ) (d from to a : ℕ) (pairs : List (ℕ × ℕ)) → a % 8 ≡ 0 → (a < page_at d) ⊎ (page_at d + 4096 ≤ a) → (a < from) ⊎ (to ≤ a) → Within (Touched d from to) pairs → after_stores at pairs a ≡ at a
word_kept at d from to a pairs at_8 off out all =
    after_aside at pairs a (within-weaker (Touched d from to) (Aside a) (λ x touched. word_aside d from to a x at_8 off out touched) pairs all)

-- an entry of the directory's pages outside of the range
pub entry_kept : (at : ℕ → ℕ) (EntryPage : ℕ → Type 0) (d from to e : ℕ) (pairs : List (ℕ × ℕ)) → (EntryPage d → ⊥) → IsPlace EntryPage e → (e + 320 ≤ from) ⊎ (to ≤ e) → Within (Touched d from to) pairs → SameEntry at (after_stores at pairs) e
entry_kept at EntryPage d from to e pairs not_entries place out all a at_8 low high =
    word_kept at d from to a pairs at_8 (off_dir EntryPage d e a not_entries place low high) (by out) all
  where
    by : (e + 320 ≤ from) ⊎ (to ≤ e) → (a < from) ⊎ (to ≤ a)
    by (inl before) = inl (omega arith)
    by (inr behind) = inr (omega arith)

entries_kept : (at : ℕ → ℕ) (EntryPage : ℕ → Type 0) (d from to : ℕ) (pairs : List (ℕ × ℕ)) → IsAsideOf at EntryPage d from to → Within (Touched d from to) pairs
    → (e : ℕ) → IsReached at (page_at d) e → IsPlace EntryPage e → SameEntry at (after_stores at pairs) e
entries_kept at EntryPage d from to pairs aside all e reached place = entry_kept at EntryPage d from to e pairs aside.not_entries place (aside.off_entries e reached place) all

-- the directory shows what it showed
pub shows_kept : (at : ℕ → ℕ) (EntryPage More : ℕ → Type 0) (d from to : ℕ) (want : List ℕ → Option ℕ) (pairs : List (ℕ × ℕ)) → ((page : ℕ) → EntryPage page → More page) → IsAsideOf at EntryPage d from to → Within (Touched d from to) pairs
    → Shows at EntryPage (page_at d) want → Shows (after_stores at pairs) More (page_at d) want
shows_kept at EntryPage More d from to want pairs more aside all shows =
    shows_same at (after_stores at pairs) EntryPage More (page_at d) want more (heads_kept at EntryPage d from to pairs aside all) (entries_kept at EntryPage d from to pairs aside all) shows

-- what it reaches was reached
pub reached_kept : (at : ℕ → ℕ) (EntryPage : ℕ → Type 0) (d from to : ℕ) (want : List ℕ → Option ℕ) (pairs : List (ℕ × ℕ)) → IsAsideOf at EntryPage d from to → Within (Touched d from to) pairs
    → Shows at EntryPage (page_at d) want → (e : ℕ) → IsReached (after_stores at pairs) (page_at d) e → IsReached at (page_at d) e
reached_kept at EntryPage d from to want pairs aside all shows e now =
    reached_same at (after_stores at pairs) EntryPage (page_at d) want (heads_kept at EntryPage d from to pairs aside all) (entries_kept at EntryPage d from to pairs aside all) shows e now

-- an entry that the directory reaches has its place in one of its pages
pub reached_place : (at : ℕ → ℕ) (EntryPage : ℕ → Type 0) (dir : ℕ) (want : List ℕ → Option ℕ) → Shows at EntryPage dir want → (e : ℕ) → IsReached at dir e → IsPlace EntryPage e
reached_place at EntryPage dir want shows e now =
    let was = shows now.bucket now.is_bucket in
    let one = leads_unique at (at (bucket_head dir now.bucket)) now.entries was.entries now.leads was.leads in
    (was.each e (subst (λ (es : List ℕ). Contains es e) one now.among)).place

-- no chain comes back to an entry
leads_behind : (at : ℕ → ℕ) (word : ℕ) (xs : List ℕ) (e : ℕ) → Leads at word xs → Contains xs e → (ys : List ℕ) × Leads at (at (next_entry e)) ys × (length ys < length xs)
leads_behind at word [] e leads (k, low, is) = absurd (omega arith)
leads_behind at word (x ∷ xs) e leads among = by (contains_cases x xs e among) (leads_behind at (at (next_entry x)) xs e leads.2)
  where
    by : (x ≡ e) ⊎ Contains xs e → (Contains xs e → (ys : List ℕ) × Leads at (at (next_entry e)) ys × (length ys < length xs)) → (ys : List ℕ) × Leads at (at (next_entry e)) ys × (length ys < length (x ∷ xs))
    by (inl same) later = (xs, subst (λ (a : ℕ). Leads at (at (next_entry a)) xs) same leads.2, omega arith)
    by (inr rest) later = let found = later rest in (found.0, found.1, (let less = found.2 in omega arith))

pub not_again : (at : ℕ → ℕ) (entry : ℕ) (behind : List ℕ) → Leads at (at (next_entry entry)) behind → Contains behind entry → ⊥
not_again at entry behind leads among =
    let found = leads_behind at (at (next_entry entry)) behind entry leads among in
    let same : behind ≡ found.0 = leads_unique at (at (next_entry entry)) behind found.0 leads found.1 in
    let less = found.2 in
    omega (arith, ap length same, less)

-- What the stores that prepare a link leave.
pub record IsPrepared (at : ℕ → ℕ) (pairs : List (ℕ × ℕ)) (EntryPage More : ℕ → Type 0) (d : ℕ) (want : List ℕ → Option ℕ) (frees : List ℕ) (name : List ℕ) (entry target : ℕ) : Type 0 where
  pub before : (made : ℕ) → Shows (after_stores at (take made pairs)) EntryPage (page_at d) want
  pub free : HasFree (after_stores at pairs) More (page_at d) frees
  pub ready : IsReady (after_stores at pairs) More d want name entry target
  pub taken : Contains frees entry → ⊥
