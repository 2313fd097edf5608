-- What a store leaves in the words, for crates above.
use Rattle.std.proofs.Common.{◌≡◌, ◌≢◌, ℕ, ◌<◌, ◌/◌, ◌%◌, List, [], ◌∷◌, ◌++◌, length, slice_index_or, slice_set, refl, sym, subst, ap, arith, get_or-set_same, get_or-set_other}
use Rattle.std.proofs.lemmas.List.{length-set, length-map, map-set, get_or-map}
use Rattle.pm_words.specs.Word.{Word, settled, stored, crash_list}
use Rattle.pm_words.specs.Memory.{word_at, store_at, present_values, all_durable, IsAddress, IsPages, HasPages}

-- a store keeps the length
pub length_store_at : (address value : ℕ) (words : List Word) → length (store_at address value words) ≡ length words
length_store_at address value words = length-set words (address / 8) (stored value (word_at words address))

-- the word that was stored
pub word_at_stored : (address value : ℕ) (words : List Word) → IsAddress (length words) address → word_at (store_at address value words) address ≡ stored value (word_at words address)
word_at_stored address value words at = get_or-set_same words (address / 8) (stored value (word_at words address)) (settled 0) at.inside

-- every other place keeps its word
pub other_place : (address value : ℕ) (words : List Word) (k : ℕ) (d : Word) → k ≢ address / 8 → slice_index_or (store_at address value words) k d ≡ slice_index_or words k d
other_place address value words k d ne = get_or-set_other words (address / 8) k (stored value (word_at words address)) d ne

-- addresses of words that differ have different places
pub places_differ : (address other : ℕ) → address % 8 ≡ 0 → other % 8 ≡ 0 → other ≢ address → other / 8 ≢ address / 8
places_differ address other one two ne same = ne (omega arith)

-- every other address keeps its word
pub word_at_other : (address other value : ℕ) (words : List Word) → address % 8 ≡ 0 → other % 8 ≡ 0 → other ≢ address → word_at (store_at address value words) other ≡ word_at words other
word_at_other address other value words one two ne = other_place address value words (other / 8) (settled 0) (places_differ address other one two ne)

-- a store adds its value to what a crash may leave
pub crash_list_stored : (value : ℕ) (w : Word) → crash_list (stored value w) ≡ crash_list w ++ value ∷ []
crash_list_stored value w = refl

-- a store changes one present value
pub present_store_at : (address value : ℕ) (words : List Word) → present_values (store_at address value words) ≡ slice_set (present_values words) (address / 8) value
present_store_at address value words = map-set (λ (w : Word). w.present) words (address / 8) (stored value (word_at words address))

-- the present value at a place
pub present_at : (words : List Word) (k : ℕ) → k < length words → slice_index_or (present_values words) k 0 ≡ (slice_index_or words k (settled 0)).present
present_at words k lt = get_or-map (λ (w : Word). w.present) words k (settled 0) 0 lt

pub length_present_values : (words : List Word) → length (present_values words) ≡ length words
length_present_values words = length-map words (λ w. w.present)

-- the memory of an image shows the image
pub present_all_durable : (values : List ℕ) → present_values (all_durable values) ≡ values
present_all_durable [] = refl
present_all_durable (v ∷ vs) = ap (λ (l : List ℕ). v ∷ l) (present_all_durable vs)

pub length_all_durable : (values : List ℕ) → length (all_durable values) ≡ length values
length_all_durable values = length-map values settled

-- a word of an image is durable
pub word_at_all_durable : (values : List ℕ) (k : ℕ) → k < length values → slice_index_or (all_durable values) k (settled 0) ≡ settled (slice_index_or values k 0)
word_at_all_durable values k lt = get_or-map settled values k 0 (settled 0) lt

-- a number of pages that is known
pub has_pages : (count pages : ℕ) → IsPages count pages → HasPages count
has_pages count pages known =
    let same : count / 512 ≡ pages = omega (arith, known.whole) in
    subst (IsPages count) (sym same) known
