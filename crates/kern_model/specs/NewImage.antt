-- Every word of a new image of a number of pages.
use Rattle.std.specs.Prelude.{ℕ, ◌+◌, ◌-◌, ◌*◌, ◌/◌, ◌%◌, List, map, if◌then◌else◌, ◌==◌, nat_lt}
use Rattle.std.specs.List.{range_with_len}
use Rattle.zo_layout.specs.Layout.{kernel_pages, owner_table, coffer_table, bucket_page, root_control, root_page}
use Rattle.kern_model.specs.declared.limits.TheConstants.{TREASURY, VERSION, NOBODY, KERNEL, ROOT_COFFER, ROOT_MODE}

-- the superblock: the bytes `TREASURY`, the version, the number of pages
abbrev pub superblock_word : ℕ → ℕ → ℕ
superblock_word pages i =
    if i == 0 then TREASURY else (if i == 1 then VERSION else (if i == 2 then pages else 0))

-- whose a page is: the kernel's, the root coffer's, or nobody's
abbrev pub owner_in_new : ℕ → ℕ → ℕ
owner_in_new pages page =
    if nat_lt page (kernel_pages pages) then KERNEL else (if nat_lt page (kernel_pages pages + 2) then ROOT_COFFER else NOBODY)

-- the coffer table has one coffer: number 1, standing, of uid and gid 0 and mode 666, with its control and root page
-- and the path `/` of one byte
abbrev pub coffer_word : ℕ → ℕ → ℕ
coffer_word pages i =
    if i == 0 then 1
    else (if i == 3 then ROOT_MODE
    else (if i == 4 then root_control pages
    else (if i == 5 then root_page pages
    else (if i == 7 then 1
    else (if i == 9 then 47 else 0)))))

-- the root coffer is the first of the bucket of its path
abbrev pub bucket_word : ℕ → ℕ
bucket_word i = if i == 254 then ROOT_COFFER else 0

-- the owner table has a word for each page of the image
abbrev pub owner_table_word : ℕ → ℕ → ℕ
owner_table_word pages page = if nat_lt page pages then owner_in_new pages page else 0

-- word i of a page: the journal is empty, and every page past the kernel's is all zeros
abbrev pub word_in_page : ℕ → ℕ → ℕ → ℕ
word_in_page pages page i =
    if page == 0 then superblock_word pages i
    else (if nat_lt page (owner_table pages) then 0
    else (if nat_lt page (coffer_table pages) then owner_table_word pages (512 * (page - owner_table pages) + i)
    else (if page == coffer_table pages then coffer_word pages i
    else (if page == bucket_page pages then bucket_word i
    else 0))))

-- word i of the image
abbrev pub new_word : ℕ → ℕ → ℕ
new_word pages i = word_in_page pages (i / 512) (i % 512)

-- all words of a new image, 512 for each page
abbrev pub new_image : ℕ → List ℕ
new_image pages = map (new_word pages) (range_with_len 0 (512 * pages))
