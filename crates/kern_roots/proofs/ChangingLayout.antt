-- Where the words of entries and buckets stand: all at different addresses.
use Rattle.std.proofs.Common.{◌≡◌, ℕ, ◌+◌, ◌-◌, ◌*◌, ◌<◌, ◌≤◌, arith}
use Rattle.zo_layout.specs.Layout.{word_of, coffer_table, bucket_page, coffer_entry, path_bucket}

-- the same with the number of the first page of the table as a variable
entry_place : (t id other i j : ℕ) → 1 ≤ id → 1 ≤ other → i < 64 → j < 64
    → 4096 * t + 8 * (64 * (id - 1)) + 8 * i ≡ 4096 * t + 8 * (64 * (other - 1)) + 8 * j → (id ≡ other) × (i ≡ j)
entry_place t id other i j l m h k e = (omega arith, omega arith)

bucket_place : (t id i bucket : ℕ) → 1 ≤ id → id ≤ 256 → i < 64 → 4096 * t + 8 * (64 * (id - 1)) + 8 * i ≡ 4096 * (t + 32) + 8 * bucket → ⊥
bucket_place t id i bucket l m h e = omega arith

two_buckets : (t b d : ℕ) → 4096 * t + 8 * b ≡ 4096 * t + 8 * d → b ≡ d
two_buckets t b d e = omega arith

pub same_entry_word : (pages id other i j : ℕ) → 1 ≤ id → 1 ≤ other → i < 64 → j < 64
    → word_of (coffer_entry pages id) i ≡ word_of (coffer_entry pages other) j → (id ≡ other) × (i ≡ j)
same_entry_word pages id other i j l m h k e = entry_place (coffer_table pages) id other i j l m h k e

pub entry_not_bucket : (pages id i bucket : ℕ) → 1 ≤ id → id ≤ 256 → i < 64 → word_of (coffer_entry pages id) i ≡ path_bucket pages bucket → ⊥
entry_not_bucket pages id i bucket l m h e = bucket_place (coffer_table pages) id i bucket l m h e

pub same_bucket : (pages b d : ℕ) → path_bucket pages b ≡ path_bucket pages d → b ≡ d
same_bucket pages b d e = two_buckets (bucket_page pages) b d e

pub first_word : (start : ℕ) → word_of start 0 ≡ start
first_word start = omega arith

pub word_in_part : (start i j : ℕ) → word_of (word_of start i) j ≡ word_of start (i + j)
word_in_part start i j = omega arith

-- the buckets stand behind all entries
behind_place : (t id bucket : ℕ) → 1 ≤ id → id ≤ 256 → 4096 * t + 8 * (64 * (id - 1)) + 8 * 64 ≤ 4096 * (t + 32) + 8 * bucket
behind_place t id bucket l m = omega arith

pub bucket_behind : (pages id bucket : ℕ) → 1 ≤ id → id ≤ 256 → word_of (coffer_entry pages id) 64 ≤ path_bucket pages bucket
bucket_behind pages id bucket l m = behind_place (coffer_table pages) id bucket l m
