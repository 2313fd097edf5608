-- Where the fields of an image of a number of pages stand. A page has 4,096 bytes, a word has 8.
-- Addresses are in bytes.
use Rattle.std.specs.Prelude.{ℕ, ◌+◌, ◌-◌, ◌*◌, ◌/◌, ◌%◌, ◌^◌, List, fold, bit_xor}

-- the address of a page, by its number
abbrev pub page_at : ℕ → ℕ
page_at page = 4096 * page

-- the address of word i of what begins at an address
abbrev pub word_of : ℕ → ℕ → ℕ
word_of start i = start + 8 * i

-- The kernel's pages: the superblock is page 0, behind it the journal, the owner table, 32 pages of coffer
-- entries and one page of path buckets.

-- pages of the journal: a count in 8 words' place, and room for a pair of words for each page and 512 more
abbrev pub journal_pages : ℕ → ℕ
journal_pages pages = (8 + 2 * (pages + 512) + 511) / 512

-- pages of the owner table, one word for each page of the image
abbrev pub owner_pages : ℕ → ℕ
owner_pages pages = (pages + 511) / 512

-- how many pages are the kernel's; the pages from there on are free or a coffer's
abbrev pub kernel_pages : ℕ → ℕ
kernel_pages pages = 34 + journal_pages pages + owner_pages pages

-- the first page of the owner table
abbrev pub owner_table : ℕ → ℕ
owner_table pages = 1 + journal_pages pages

-- the address of the word that says whose a page is: 0 free, 1 to 256 a coffer, 65535 the kernel
abbrev pub owner_word : ℕ → ℕ → ℕ
owner_word pages page = word_of (page_at (owner_table pages)) page

-- the first page of the coffer table
abbrev pub coffer_table : ℕ → ℕ
coffer_table pages = owner_table pages + owner_pages pages

-- the page of path buckets
abbrev pub bucket_page : ℕ → ℕ
bucket_page pages = coffer_table pages + 32

-- in a new image, the page numbers of the root coffer's control page and root page
abbrev pub root_control : ℕ → ℕ
root_control pages = kernel_pages pages

abbrev pub root_page : ℕ → ℕ
root_page pages = kernel_pages pages + 1

-- Fields of the superblock: the bytes `TREASURY`, the version, the number of pages.
abbrev pub signature_word : ℕ
signature_word = word_of (page_at 0) 0

abbrev pub version_word : ℕ
version_word = word_of (page_at 0) 1

abbrev pub count_word : ℕ
count_word = word_of (page_at 0) 2

-- Fields of the journal, which begins in page 1: how many pairs are committed, and for each pair, from word 8 on, an
-- address and the word that goes there. The pairs run over all pages of the journal, as many as fit.
abbrev pub committed_word : ℕ
committed_word = page_at 1

abbrev pub pair_address : ℕ → ℕ
pair_address i = word_of committed_word (8 + 2 * i)

abbrev pub pair_value : ℕ → ℕ
pair_value i = word_of committed_word (8 + 2 * i + 1)

abbrev pub pair_capacity : ℕ → ℕ
pair_capacity pages = 256 * journal_pages pages - 4

-- Fields of the entry of a coffer, 64 words in the coffer table: its state, uid, gid, mode, control page, root page, the
-- next coffer in its path bucket, the length of its path, its kind, and from word 9 on its path.
abbrev pub coffer_entry : ℕ → ℕ → ℕ
coffer_entry pages id = word_of (page_at (coffer_table pages)) (64 * (id - 1))

abbrev pub coffer_state : ℕ → ℕ
coffer_state entry = entry

abbrev pub coffer_uid : ℕ → ℕ
coffer_uid entry = word_of entry 1

abbrev pub coffer_gid : ℕ → ℕ
coffer_gid entry = word_of entry 2

abbrev pub coffer_mode : ℕ → ℕ
coffer_mode entry = word_of entry 3

abbrev pub coffer_control : ℕ → ℕ
coffer_control entry = word_of entry 4

abbrev pub coffer_root : ℕ → ℕ
coffer_root entry = word_of entry 5

abbrev pub coffer_next : ℕ → ℕ
coffer_next entry = word_of entry 6

abbrev pub coffer_path_length : ℕ → ℕ
coffer_path_length entry = word_of entry 7

abbrev pub coffer_kind : ℕ → ℕ
coffer_kind entry = word_of entry 8

abbrev pub coffer_path_word : ℕ → ℕ → ℕ
coffer_path_word entry i = word_of entry (9 + i)

-- the first coffer of a path bucket
abbrev pub path_bucket : ℕ → ℕ → ℕ
path_bucket pages bucket = word_of (page_at (bucket_page pages)) bucket

-- Fields of a control page: its lease, the address that its holder notes, its counter, its intent page; the lease of
-- pool p, and the address of the first free page of pool p.
abbrev pub control_lease : ℕ → ℕ
control_lease control = control

abbrev pub control_at : ℕ → ℕ
control_at control = word_of control 1

abbrev pub control_counter : ℕ → ℕ
control_counter control = word_of control 2

abbrev pub control_intent : ℕ → ℕ
control_intent control = word_of control 3

abbrev pub pool_lease : ℕ → ℕ → ℕ
pool_lease control pool = word_of control (8 * (pool + 1))

abbrev pub pool_head : ℕ → ℕ → ℕ
pool_head control pool = word_of control (8 * (pool + 1) + 1)

-- The next free page of a pool, in word 0 of a free page.
abbrev pub next_free_page : ℕ → ℕ
next_free_page page = page

-- Fields of a directory page: its kind, which is 0, its lease, the address that its holder notes, its counter; the
-- address of its first entry page, of its first free entry, of a bucket's first entry.
abbrev pub page_kind : ℕ → ℕ
page_kind page = page

abbrev pub dir_lease : ℕ → ℕ
dir_lease dir = word_of dir 1

abbrev pub dir_at : ℕ → ℕ
dir_at dir = word_of dir 2

abbrev pub dir_counter : ℕ → ℕ
dir_counter dir = word_of dir 3

abbrev pub first_entry_page : ℕ → ℕ
first_entry_page dir = word_of dir 4

abbrev pub first_free_entry : ℕ → ℕ
first_free_entry dir = word_of dir 5

abbrev pub bucket_head : ℕ → ℕ → ℕ
bucket_head dir bucket = word_of dir (256 + bucket)

-- An entry page has the next one's address in word 0, and twelve entries of 40 words from word 32 on.
abbrev pub next_entry_page : ℕ → ℕ
next_entry_page page = page

abbrev pub entry_place : ℕ → ℕ → ℕ
entry_place page i = word_of page (32 + 40 * i)

-- Fields of an entry: word 0 the next entry's address or 0, 1 the target, 2 the name's length, from 3 on the name.
abbrev pub next_entry : ℕ → ℕ
next_entry entry = entry

abbrev pub entry_target : ℕ → ℕ
entry_target entry = word_of entry 1

abbrev pub name_length : ℕ → ℕ
name_length entry = word_of entry 2

abbrev pub name_word : ℕ → ℕ → ℕ
name_word entry i = word_of entry (3 + i)

-- Fields of a file page: word 0 is 1, word 1 the map page's address or 0.
abbrev pub file_map : ℕ → ℕ
file_map file = word_of file 1

-- Fields of a map page: the file's size in bytes, and the addresses of its blocks, numbered from 0.
abbrev pub map_size : ℕ → ℕ
map_size map = map

abbrev pub map_block : ℕ → ℕ → ℕ
map_block map block = word_of map (1 + block)

-- Fields of an intent page: the number of pairs, and from word 2 on the pairs, an address and a word each.
abbrev pub intent_count : ℕ → ℕ
intent_count intent = intent

abbrev pub intent_address : ℕ → ℕ → ℕ
intent_address intent i = word_of intent (2 + 2 * i)

abbrev pub intent_word : ℕ → ℕ → ℕ
intent_word intent i = word_of intent (2 + 2 * i + 1)

-- The hash of a name or path: FNV-1a of 64 bits.
abbrev pub hash_step : ℕ → ℕ → ℕ
hash_step hash byte = (bit_xor hash byte * 1099511628211) % 2 ^ 64

abbrev pub name_hash : List ℕ → ℕ
name_hash name = fold hash_step 14695981039346656037 name

-- the bucket of a name in its directory: the low eight bits of its hash
abbrev pub bucket_of : List ℕ → ℕ
bucket_of name = name_hash name % 256
