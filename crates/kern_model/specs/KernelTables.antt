-- What the kernel's tables say: whose each page is, and which coffers there are. `at` gives the word at each byte address
-- as the kernel reads it, so that the same tables can be read from the words as they stand, or with a list of changes
-- laid over them. `pages` is the number of pages of the image.
use Rattle.std.specs.Prelude.{ℕ, zero, suc, List, [], ◌∷◌, map, take, filter, Bool, true, not, if◌then◌else◌, ◌==◌, ◌&&◌, ◌||◌, nat_lt, nat_le, nat_eq, bit_and, codes}
use Rattle.std.specs.List.{range_with_len, flat_map, list_any, list_all}
use Rattle.std.specs.Int.{w64, to_le_bytes}
use Rattle.zo_layout.specs.Layout.{kernel_pages, owner_word, coffer_entry, coffer_state, coffer_uid, coffer_gid, coffer_mode, coffer_control, coffer_root, coffer_next, coffer_path_length, coffer_kind, coffer_path_word, path_bucket, bucket_of}
use Rattle.tr_types.specs.Paths.{same_text, is_path_text}
use Rattle.tr_types.specs.declared.permission.Perm.{Perm}
use Rattle.kern_model.specs.declared.limits.TheConstants.{NOBODY, KERNEL, ROOT_COFFER, LAST_COFFER, LONGEST_PATH, MODE_BITS, LAST_USER}

-- The first table: whose a page is. 0 is nobody, 1 to 256 a coffer by its number, 65535 the kernel.

abbrev pub owner_in : ℕ → (ℕ → ℕ) → ℕ → ℕ
owner_in pages at page = at (owner_word pages page)

-- the pages that someone owns, the least first
abbrev pub pages_owned : ℕ → (ℕ → ℕ) → ℕ → List ℕ
pages_owned pages at owner = filter (λ page. owner_in pages at page == owner) (range_with_len 0 pages)

-- the pages that are nobody's
abbrev pub pages_free : ℕ → (ℕ → ℕ) → List ℕ
pages_free pages at = pages_owned pages at NOBODY

-- The second table: the coffers. Its entries have the numbers 1 to 256.

-- a coffer: its number and path; its permission; 1 where it stands, 2 where it is quarantined; its kind; the numbers of its
-- control page and of its root page
pub record Coffer : Type 0 where
  pub id : ℕ
  pub path : List ℕ
  pub perm : Perm
  pub state : ℕ
  pub kind : ℕ
  pub control : ℕ
  pub root : ℕ

unfoldable pub all_ids : List ℕ
all_ids = range_with_len 1 LAST_COFFER

abbrev pub is_id : ℕ → Bool
is_id id = nat_le 1 id && nat_le id LAST_COFFER

-- a state in which a coffer is there: it stands, or is quarantined
abbrev pub is_there : ℕ → Bool
is_there state = (state == 1) || (state == 2)

abbrev pub stands_in : ℕ → (ℕ → ℕ) → ℕ → Bool
stands_in pages at id = is_there (at (coffer_state (coffer_entry pages id)))

-- the 440 bytes in which a path stands: 55 words, the lowest byte of each first
abbrev pub path_bytes : ℕ → (ℕ → ℕ) → ℕ → List ℕ
path_bytes pages at id = flat_map (λ i. to_le_bytes w64 (at (coffer_path_word (coffer_entry pages id) i))) (range_with_len 0 55)

-- the length of the path in bytes, as the entry says it
abbrev pub path_length : ℕ → (ℕ → ℕ) → ℕ → ℕ
path_length pages at id = at (coffer_path_length (coffer_entry pages id))

-- The path is the first `length` of them; what stands behind them tells nothing. An entry that says more than 440 has no path, so that it
-- is like no other's.
abbrev pub path_in : ℕ → (ℕ → ℕ) → ℕ → List ℕ
path_in pages at id = if nat_le (path_length pages at id) LONGEST_PATH then take (path_length pages at id) (path_bytes pages at id) else []

abbrev pub perm_in : ℕ → (ℕ → ℕ) → ℕ → Perm
perm_in pages at id = record {
  uid = at (coffer_uid (coffer_entry pages id));
  gid = at (coffer_gid (coffer_entry pages id));
  mode = at (coffer_mode (coffer_entry pages id));
}

abbrev pub coffer_in : ℕ → (ℕ → ℕ) → ℕ → Coffer
coffer_in pages at id = record {
  id = id;
  path = path_in pages at id;
  perm = perm_in pages at id;
  state = at (coffer_state (coffer_entry pages id));
  kind = at (coffer_kind (coffer_entry pages id));
  control = at (coffer_control (coffer_entry pages id));
  root = at (coffer_root (coffer_entry pages id));
}

-- the numbers of the coffers that are there, the least first
abbrev pub ids_in : ℕ → (ℕ → ℕ) → List ℕ
ids_in pages at = filter (stands_in pages at) all_ids

-- the coffers in order of their numbers
abbrev pub coffers_in : ℕ → (ℕ → ℕ) → List Coffer
coffers_in pages at = map (coffer_in pages at) (ids_in pages at)

-- Path buckets: the coffers whose paths have one hash are chained, from the word of their bucket on; 0 ends a chain.

-- the numbers of a chain, as far as `fuel` tells
abbrev pub chain_from : (ℕ → ℕ) → ℕ → ℕ → List ℕ
chain_from next zero id = []
chain_from next (suc fuel) id = if id == 0 then [] else id ∷ chain_from next fuel (next id)

-- a chain that repeats none has at most 256 numbers, so that this many tell
unfoldable pub longest_chain : ℕ
longest_chain = 257

abbrev pub chain_in : ℕ → (ℕ → ℕ) → ℕ → List ℕ
chain_in pages at bucket = chain_from (λ id. at (coffer_next (coffer_entry pages id))) longest_chain (at (path_bucket pages bucket))

-- The rules of the tables. Each is a test that holds where the rule fails.

-- An owner word: each page below the kernel's end is the kernel's and no other; every other page is nobody's, or that of
-- a coffer that is there.
abbrev pub owner_fails : ℕ → (ℕ → ℕ) → ℕ → Bool
owner_fails pages at page =
    if nat_lt page (kernel_pages pages) then not (owner_in pages at page == KERNEL)
    else not ((owner_in pages at page == NOBODY) || (is_id (owner_in pages at page) && stands_in pages at (owner_in pages at page)))

-- a mode has three octal digits, each 0, 2, 4 or 6: it has no bit but those of 666, which is 438
abbrev pub is_mode : ℕ → Bool
is_mode mode = bit_and mode MODE_BITS == mode

-- the entry's path is a path, of at most 440 bytes
abbrev pub path_fails : ℕ → (ℕ → ℕ) → ℕ → Bool
path_fails pages at id =
    not (nat_le (path_length pages at id) LONGEST_PATH && is_path_text (path_in pages at id))

-- the coffer owns the page
abbrev pub owns : ℕ → (ℕ → ℕ) → ℕ → ℕ → Bool
owns pages at id page = nat_lt page pages && (owner_in pages at page == id)

-- its control page and its root page are two pages of its own
abbrev pub pages_fail : ℕ → (ℕ → ℕ) → Coffer → Bool
pages_fail pages at c = not (owns pages at c.id c.control && owns pages at c.id c.root) || (c.control == c.root)

-- another coffer has the same path
abbrev pub path_stands_twice : ℕ → (ℕ → ℕ) → ℕ → Bool
path_stands_twice pages at id =
    list_any (λ other. not (other == id) && same_text (path_in pages at other) (path_in pages at id)) (ids_in pages at)

-- what is wrong with the entry of a coffer that is there
abbrev pub coffer_fails : ℕ → (ℕ → ℕ) → Coffer → Bool
coffer_fails pages at c =
    not (nat_le c.perm.uid LAST_USER) || not (nat_le c.perm.gid LAST_USER) || not (is_mode c.perm.mode)
    || path_fails pages at c.id || not (c.kind == 0) || pages_fail pages at c || path_stands_twice pages at c.id
    || ((c.id == ROOT_COFFER) && not (same_text c.path (codes "/")))

-- An entry of the coffer table. Entry 1 is that of the root coffer, which is always there.
abbrev pub entry_fails : ℕ → (ℕ → ℕ) → ℕ → Bool
entry_fails pages at id =
    if stands_in pages at id then coffer_fails pages at (coffer_in pages at id)
    else not (at (coffer_state (coffer_entry pages id)) == 0) || (id == ROOT_COFFER)

abbrev pub is_in_chain : ℕ → List ℕ → Bool
is_in_chain id chain = list_any (nat_eq id) chain

-- no number stands twice
abbrev pub none_twice : List ℕ → Bool
none_twice [] = true
none_twice (id ∷ ids) = not (is_in_chain id ids) && none_twice ids

-- a coffer that is there, whose path belongs to the bucket
abbrev pub belongs : ℕ → (ℕ → ℕ) → ℕ → ℕ → Bool
belongs pages at bucket id = is_id id && stands_in pages at id && (bucket_of (path_in pages at id) == bucket)

-- A path bucket: its chain has the coffers that belong to it, each once, and nothing else.
abbrev pub bucket_fails : ℕ → (ℕ → ℕ) → ℕ → Bool
bucket_fails pages at bucket =
    not (list_all (belongs pages at bucket) (chain_in pages at bucket) && none_twice (chain_in pages at bucket)
    && list_all (λ id. is_in_chain id (chain_in pages at bucket)) (filter (belongs pages at bucket) all_ids))
