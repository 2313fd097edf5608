-- What a link leaves of its directory, over the words that its stores leave.
use Rattle.std.specs.Prelude.{◌≡◌, ◌≢◌, ◌⊎◌, ℕ, ◌<◌, List, [], ◌∷◌, ◌++◌, map, take, slice_index, Contains, Option, Some, None, if◌then◌else◌}
use Rattle.std.specs.List.{range_with_len}
use Rattle.tr_types.specs.Paths.{same_text}
use Rattle.zo_layout.specs.Layout.{page_at, word_of, bucket_head, bucket_of, entry_place, first_entry_page, first_free_entry, next_entry}
use Rattle.zo_model.specs.Commands.{IsName}
use Rattle.zo_model.specs.Directory.{Shows, HasFree}
use Rattle.zo_plan.specs.declared.place.Place.{Place}
use Rattle.zo_plan.specs.declared.plan.Operand.{Operand}
use Rattle.zo_plan.specs.declared.plan.Operand.TheVariants.{Known}
use Rattle.zo_plan.specs.Operands.{real, pairs_of, pair_of}
use Rattle.zo_hash_dir.specs.Links.{put, link_puts, linked_entry}
use Rattle.zo_laws.specs.Stores.{after_stores}

-- The place tells the bucket of this name and the first words of the directory, as the words have them. The word that leads
-- to the entry pages counts where no entry is free.
pub record IsPlaceFor (at : ℕ → ℕ) (dir : ℕ) (name : List ℕ) (place : Place) : Type 0 where
  pub bucket : place.bucket ≡ bucket_head dir (bucket_of name)
  pub head : place.head ≡ at (bucket_head dir (bucket_of name))
  pub first : place.free ≡ 0 → place.first ≡ at (first_entry_page dir)
  pub free : place.free ≡ at (first_free_entry dir)
  pub free_next : place.free ≢ 0 → place.free_next ≡ at (next_entry place.free)

-- the targets that are wanted, with this name's beside them
abbrev pub with_name : (List ℕ → Option ℕ) → List ℕ → ℕ → List ℕ → Option ℕ
with_name want name target other = if same_text name other then Some target else want other

-- entry pages, and one more
abbrev pub WithPage : (ℕ → Type 0) → ℕ → ℕ → Type 0
WithPage EntryPage fresh page = EntryPage page ⊎ (page ≡ fresh)

-- the entry pages after a link: the drawn page is one where no entry was free
abbrev pub PagesAfter : (ℕ → Type 0) → Place → ℕ → ℕ → Type 0
PagesAfter EntryPage place fresh page = EntryPage page ⊎ ((place.free ≡ 0) × (page ≡ fresh))

-- the free entries after a link
abbrev pub frees_after : Place → ℕ → List ℕ → List ℕ
frees_after place fresh [] = map (entry_place (page_at fresh)) (range_with_len 1 11)
frees_after place fresh (entry ∷ frees) = frees

-- A page that is all zeros, and neither the directory nor an entry page of it.
pub record IsFreshPage (at : ℕ → ℕ) (EntryPage : ℕ → Type 0) (dir fresh : ℕ) : Type 0 where
  pub not_dir : fresh ≢ dir
  pub not_entries : EntryPage fresh → ⊥
  pub blank : (i : ℕ) → i < 512 → at (word_of (page_at fresh) i) ≡ 0

-- A directory, on page `dir`, in which this name can be linked. A page is drawn for it where no entry is free.
pub record CanLink (at : ℕ → ℕ) (EntryPage : ℕ → Type 0) (dir : ℕ) (want : List ℕ → Option ℕ) (frees : List ℕ) (name : List ℕ) (place : Place) (fresh : ℕ) : Type 0 where
  pub not_entries : EntryPage dir → ⊥
  pub shows : Shows at EntryPage (page_at dir) want
  pub free : HasFree at EntryPage (page_at dir) frees
  pub is_name : IsName name
  pub missing : want name ≡ None
  pub found : IsPlaceFor at (page_at dir) name place
  pub drawn : place.free ≡ 0 → IsFreshPage at EntryPage dir fresh

-- the stores that prepare a link, and its commit, where this page is the first one drawn
abbrev pub prepares_of : ℕ → Place → List ℕ → Operand → List ℕ → List (ℕ × ℕ)
prepares_of dir place name target drawn = pairs_of drawn (link_puts dir place name target)

abbrev pub commit_of : Place → List ℕ → ℕ × ℕ
commit_of place drawn = pair_of drawn (put (Known place.bucket) (linked_entry place))

-- what a link leaves of its directory
pub record IsLinked (at : ℕ → ℕ) (EntryPage : ℕ → Type 0) (dir : ℕ) (want : List ℕ → Option ℕ) (frees : List ℕ) (name : List ℕ) (place : Place) (target : Operand) (drawn : List ℕ) (fresh : ℕ) : Type 0 where
  pub prepared : (made : ℕ) → Shows (after_stores at (take made (prepares_of (page_at dir) place name target drawn))) EntryPage (page_at dir) want
  pub free_before : HasFree (after_stores at (prepares_of (page_at dir) place name target drawn)) (PagesAfter EntryPage place fresh) (page_at dir) (frees_after place fresh frees)
  pub shows : Shows (after_stores at (prepares_of (page_at dir) place name target drawn ++ commit_of place drawn ∷ [])) (PagesAfter EntryPage place fresh) (page_at dir) (with_name want name (real drawn target))
  pub free_after : HasFree (after_stores at (prepares_of (page_at dir) place name target drawn ++ commit_of place drawn ∷ [])) (PagesAfter EntryPage place fresh) (page_at dir) (frees_after place fresh frees)

-- the directory's entry pages are these, by their numbers
abbrev pub LinkLaw : Type 0
LinkLaw =
    (at : ℕ → ℕ) (pages : List ℕ) (dir : ℕ) (want : List ℕ → Option ℕ) (frees : List ℕ) (name : List ℕ) (place : Place) (target : Operand) (drawn : List ℕ) (fresh : ℕ)
    → CanLink at (Contains pages) dir want frees name place fresh → (place.free ≡ 0 → slice_index drawn 0 ≡ fresh)
    → IsLinked at (Contains pages) dir want frees name place target drawn fresh
