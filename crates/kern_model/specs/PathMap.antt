-- The path map: which coffer a path lies in, what lies directly under a coffer, and which words of the tables change with it.
use Rattle.std.specs.Prelude.{ℕ, ◌*◌, List, [], ◌∷◌, ◌++◌, length, map, take, drop, filter, fold, find, Bool, false, not, Option, Some, None, replicate, if◌then◌else◌, ◌==◌, nat_lt}
use Rattle.std.specs.List.{range_with_len, enumerate_from}
use Rattle.std.specs.Int.{w64, from_le_bytes}
use Rattle.zo_layout.specs.Layout.{coffer_entry, coffer_state, coffer_uid, coffer_root, coffer_next, path_bucket, bucket_of, word_of}
use Rattle.tr_types.specs.Paths.{same_text, begins_with, lies_under}
use Rattle.kern_model.specs.KernelTables.{Coffer, stands_in, path_in, chain_in, all_ids}
use Rattle.tr_types.specs.declared.permission.Perm.{Perm}

-- the coffer with the longer path
abbrev pub longer : Option Coffer → Coffer → Option Coffer
longer None c = Some c
longer (Some best) c = if nat_lt (length best.path) (length c.path) then Some c else Some best

-- the coffer with the longest path of some
abbrev pub longest : List Coffer → Option Coffer
longest coffers = fold longer None coffers

-- the coffer of a path: the one with the longest path that the path begins with
abbrev pub coffer_of_path : List Coffer → List ℕ → Option Coffer
coffer_of_path coffers path = longest (filter (λ c. begins_with path c.path) coffers)

-- the coffer that a path lies under: the one with the longest path that the path begins with and isn't
abbrev pub coffer_above : List Coffer → List ℕ → Option Coffer
coffer_above coffers path = longest (filter (λ c. lies_under path c.path) coffers)

abbrev pub is_coffer : ℕ → Option Coffer → Bool
is_coffer id None = false
is_coffer id (Some c) = c.id == id

-- the numbers of the coffers that lie directly under a coffer, the least first
abbrev pub children_of : List Coffer → ℕ → List ℕ
children_of coffers id = map (λ (c : Coffer). c.id) (filter (λ c. is_coffer id (coffer_above coffers c.path)) coffers)

-- the coffer with a number, where it is there
abbrev pub coffer_with : List Coffer → ℕ → Option Coffer
coffer_with coffers id = find (λ c. c.id == id) coffers

-- the coffer that has just this path
abbrev pub coffer_at_path : List Coffer → List ℕ → Option Coffer
coffer_at_path coffers path = find (λ c. same_text c.path path) coffers

-- the least number that no coffer has
abbrev pub free_id : ℕ → (ℕ → ℕ) → Option ℕ
free_id pages at = find (λ id. not (stands_in pages at id)) all_ids

-- The words of an entry.

-- a text as whole words, the lowest byte first, with zeros behind its end: `count` words
abbrev pub text_words : ℕ → List ℕ → List ℕ
text_words count text = map (λ i. from_le_bytes w64 (take 8 (drop (8 * i) text ++ replicate 8 0))) (range_with_len 0 count)

-- the 64 words of a coffer's entry: state, uid, gid, mode, control page, root page, the next coffer of its bucket, length of
-- the path, kind, and the path
abbrev pub entry_words : Coffer → ℕ → List ℕ
entry_words c next = c.state ∷ c.perm.uid ∷ c.perm.gid ∷ c.perm.mode ∷ c.control ∷ c.root ∷ next ∷ length c.path ∷ c.kind ∷ text_words 55 c.path

-- these words in their places, from an address on: pairs of address and word, in order of address
abbrev pub from_address : ℕ → List ℕ → List (ℕ × ℕ)
from_address start ws = map (λ p. (word_of start p.0, p.1)) (enumerate_from 0 ws)

-- A new coffer goes to the front of the chain of its path's bucket: all words of its entry, and the bucket's.
abbrev pub added_pairs : ℕ → (ℕ → ℕ) → Coffer → List (ℕ × ℕ)
added_pairs pages at c =
    from_address (coffer_entry pages c.id) (entry_words c (at (path_bucket pages (bucket_of c.path)))) ++ (path_bucket pages (bucket_of c.path), c.id) ∷ []

-- the word that leads to a coffer in a chain: the bucket's, or the `next` of the coffer before it
abbrev pub leads_to : ℕ → ℕ → List ℕ → ℕ → ℕ
leads_to pages place [] id = place
leads_to pages place (c ∷ chain) id = if c == id then place else leads_to pages (coffer_next (coffer_entry pages c)) chain id

abbrev pub leading_word : ℕ → (ℕ → ℕ) → ℕ → ℕ
leading_word pages at id =
    leads_to pages (path_bucket pages (bucket_of (path_in pages at id))) (chain_in pages at (bucket_of (path_in pages at id))) id

-- a pair in its place by address
abbrev pub with_pair : (ℕ × ℕ) → List (ℕ × ℕ) → List (ℕ × ℕ)
with_pair p [] = p ∷ []
with_pair p (q ∷ qs) = if nat_lt p.0 q.0 then p ∷ q ∷ qs else q ∷ with_pair p qs

-- the 64 words of an entry in which no coffer stands
unfoldable pub no_words : List ℕ
no_words = replicate 64 0

-- A coffer that goes leaves the chain, and all words of its entry become 0.
abbrev pub dropped_pairs : ℕ → (ℕ → ℕ) → ℕ → List (ℕ × ℕ)
dropped_pairs pages at id =
    with_pair (leading_word pages at id, at (coffer_next (coffer_entry pages id))) (from_address (coffer_entry pages id) no_words)

-- the words of a permission: 1 to 3 of the entry
abbrev pub perm_pairs : ℕ → ℕ → Perm → List (ℕ × ℕ)
perm_pairs pages id perm = from_address (coffer_uid (coffer_entry pages id)) (perm.uid ∷ perm.gid ∷ perm.mode ∷ [])

abbrev pub state_pairs : ℕ → ℕ → ℕ → List (ℕ × ℕ)
state_pairs pages id state = (coffer_state (coffer_entry pages id), state) ∷ []

abbrev pub root_pairs : ℕ → ℕ → ℕ → List (ℕ × ℕ)
root_pairs pages id root = (coffer_root (coffer_entry pages id), root) ∷ []
