-- What a call stores where it isn't refused.
use Rattle.std.specs.Prelude.{◌≡◌, ℕ, List, [], ◌∷◌, ◌++◌, take, None, slice_index_or}
use Rattle.zo_layout.specs.Layout.{page_at, page_kind}
use Rattle.pm_words.specs.Word.{Word}
use Rattle.kern_model.specs.KernelView.{pages_of}
use Rattle.kern_model.specs.Journal.{kernel_word}
use Rattle.kern_model.specs.Kernel.{spare_pages}
use Rattle.kern_model.specs.PathMap.{added_pairs}
use Rattle.kern_model.specs.KernelCalls.{Row, first_due, next_id, owner_pairs, first_page, cleared_words, link_pair}
use Rattle.tr_types.specs.declared.permission.Perm.{Perm}
use Rattle.tr_types.specs.declared.kernel_call.KernAnswer.TheVariants.{Done, Made}
use Rattle.kern_plans.specs.Plans.{Plan}

-- what a row does where none of its refusals is due
abbrev pub plan_of : Row → Plan
plan_of row = record { answer = row.answer; granted = row.granted; pairs = row.pairs }

-- none of the row's refusals is due, and it only stores these words
pub record OnlyStores (row : Row) (stored : List (ℕ × ℕ)) : Type 0 where
  pub due : first_due row.refusals ≡ None
  pub answer : row.answer ≡ Done
  pub granted : row.granted ≡ []
  pub pairs : row.pairs ≡ stored

-- the words of the entry of a new coffer, with these pages as its control page and its root page
abbrev pub entry_pairs : List Word → List ℕ → Perm → ℕ → ℕ → List (ℕ × ℕ)
entry_pairs words path perm control root =
    added_pairs (pages_of words) (kernel_word words) (record { id = next_id words; path = path; perm = perm; state = 1; kind = 0; control = control; root = root })

-- the words that are stored for a coffer that is split off another, with these words of its entry
abbrev pub piece_pairs : List Word → ℕ → List ℕ → List ℕ → List (ℕ × ℕ) → (ℕ × ℕ × ℕ) → List (ℕ × ℕ)
piece_pairs words id pages granted added link =
    owner_pairs words id (pages ++ granted) ++ (added ++ (cleared_words words (first_page pages) ++ link_pair link ∷ []))

abbrev pub piece_plan : List Word → List ℕ → Perm → List ℕ → (ℕ × ℕ × ℕ) → Plan
piece_plan words path perm pages link = record {
  answer = Made (next_id words);
  granted = take 1 (spare_pages words);
  pairs = piece_pairs words (next_id words) pages (take 1 (spare_pages words)) (entry_pairs words path perm (first_page (spare_pages words)) (first_page pages)) link;
}

-- the words that are stored for a new coffer, with these words of its entry
abbrev pub fresh_pairs : List Word → ℕ → List ℕ → List (ℕ × ℕ) → ℕ → (ℕ × ℕ × ℕ) → List (ℕ × ℕ)
fresh_pairs words id granted added kind link =
    owner_pairs words id granted ++ (added ++ ((page_kind (page_at (slice_index_or granted 1 0)), kind) ∷ link_pair link ∷ []))

abbrev pub fresh_plan : List Word → List ℕ → Perm → ℕ → (ℕ × ℕ × ℕ) → Plan
fresh_plan words path perm kind link = record {
  answer = Made (next_id words);
  granted = take 2 (spare_pages words);
  pairs = fresh_pairs words (next_id words) (take 2 (spare_pages words)) (entry_pairs words path perm (first_page (spare_pages words)) (slice_index_or (spare_pages words) 1 0)) kind link;
}

-- The words that are stored where a coffer goes into its parent: the listed pages become the parent's, the others nobody's,
-- and these words of the coffer's entry are stored.
abbrev pub merged_pairs : List Word → ℕ → List ℕ → List ℕ → List (ℕ × ℕ) → (ℕ × ℕ × ℕ) → List (ℕ × ℕ)
merged_pairs words parent pages others dropped link = owner_pairs words parent pages ++ (owner_pairs words 0 others ++ (dropped ++ link_pair link ∷ []))
