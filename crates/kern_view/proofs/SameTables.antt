-- Two readers that agree on the words of the tables break the same rules of the tables.
use Rattle.std.proofs.Common.{◌≡◌, ℕ, ◌+◌, ◌%◌, ◌≤◌, [], take, filter, not, ◌&&◌, ◌||◌, ◌==◌, nat_le, nat_lt, if◌then◌else◌, codes, arith}
use Rattle.std.specs.List.{range_with_len, flat_map, list_any, list_all}
use Rattle.std.specs.Int.{w64, to_le_bytes}
use Rattle.zo_layout.specs.Layout.{page_at, word_of, kernel_pages, owner_table, owner_word, coffer_entry, path_bucket, bucket_of}
use Rattle.tr_types.specs.Paths.{same_text, is_path_text}
use Rattle.kern_model.specs.KernelTables.{all_ids, bucket_fails, chain_from, chain_in, belongs, coffer_fails, coffer_in, entry_fails, is_id, is_in_chain, is_mode, is_there, longest_chain, none_twice, owner_fails, owner_in, pages_fail, path_in, path_stands_twice, stands_in}

-- the readers agree on each word from the owner table on
pub record ReadSame (pages : ℕ) (a b : ℕ → ℕ) : Type 0 where
  pub same : (addr : ℕ) → addr % 8 ≡ 0 → page_at (owner_table pages) ≤ addr → a addr ≡ b addr

same_owner : (pages : ℕ) (a b : ℕ → ℕ) → ReadSame pages a b → owner_in pages a ≡ owner_in pages b
same_owner pages a b is = λ i page. is.same (owner_word pages page) (omega arith) (omega arith) i

abbrev state_in : ℕ → (ℕ → ℕ) → ℕ → ℕ
state_in pages at id = at (coffer_entry pages id)

same_state : (pages : ℕ) (a b : ℕ → ℕ) → ReadSame pages a b → state_in pages a ≡ state_in pages b
same_state pages a b is = λ i id. is.same (coffer_entry pages id) (omega arith) (omega arith) i

same_stands : (pages : ℕ) (a b : ℕ → ℕ) → ReadSame pages a b → stands_in pages a ≡ stands_in pages b
same_stands pages a b is = λ i id. is_there (same_state pages a b is i id)

-- word k of an entry
abbrev word_in : ℕ → (ℕ → ℕ) → ℕ → ℕ → ℕ
word_in pages at id k = at (word_of (coffer_entry pages id) k)

same_word : (pages : ℕ) (a b : ℕ → ℕ) → ReadSame pages a b → word_in pages a ≡ word_in pages b
same_word pages a b is = λ i id k. is.same (word_of (coffer_entry pages id) k) (omega arith) (omega arith) i

same_path : (pages : ℕ) (a b : ℕ → ℕ) → ReadSame pages a b → path_in pages a ≡ path_in pages b
same_path pages a b is = λ i id.
    let w = same_word pages a b is i id in
    if nat_le (w 7) 440 then take (w 7) (flat_map (λ k. to_le_bytes w64 (w (9 + k))) (range_with_len 0 55)) else []

same_coffer : (pages : ℕ) (a b : ℕ → ℕ) → ReadSame pages a b → coffer_in pages a ≡ coffer_in pages b
same_coffer pages a b is = λ i id.
    let w = same_word pages a b is i id in
    record {
      id = id;
      path = same_path pages a b is i id;
      perm = record { uid = w 1; gid = w 2; mode = w 3 };
      state = same_state pages a b is i id;
      kind = w 8;
      control = w 4;
      root = w 5;
    }

pub same_owner_fails : (pages : ℕ) (a b : ℕ → ℕ) → ReadSame pages a b → owner_fails pages a ≡ owner_fails pages b
same_owner_fails pages a b is = λ i page.
    let owner = same_owner pages a b is i page in
    if nat_lt page (kernel_pages pages) then not (owner == 65535)
    else not ((owner == 0) || (is_id owner && same_stands pages a b is i owner))

same_pages_fail : (pages : ℕ) (a b : ℕ → ℕ) → ReadSame pages a b → pages_fail pages a ≡ pages_fail pages b
same_pages_fail pages a b is = λ i c.
    let owner = same_owner pages a b is i in
    not ((nat_lt c.control pages && (owner c.control == c.id)) && (nat_lt c.root pages && (owner c.root == c.id))) || (c.control == c.root)

same_twice : (pages : ℕ) (a b : ℕ → ℕ) → ReadSame pages a b → path_stands_twice pages a ≡ path_stands_twice pages b
same_twice pages a b is = λ i id.
    let path = same_path pages a b is i in
    list_any (λ other. not (other == id) && same_text (path other) (path id)) (filter (same_stands pages a b is i) all_ids)

same_coffer_fails : (pages : ℕ) (a b : ℕ → ℕ) → ReadSame pages a b → coffer_fails pages a ≡ coffer_fails pages b
same_coffer_fails pages a b is = λ i c.
    not (nat_le c.perm.uid 4294967295) || not (nat_le c.perm.gid 4294967295) || not (is_mode c.perm.mode)
    || not (nat_le (same_word pages a b is i c.id 7) 440 && is_path_text (same_path pages a b is i c.id)) || not (c.kind == 0)
    || same_pages_fail pages a b is i c || same_twice pages a b is i c.id || ((c.id == 1) && not (same_text c.path (codes "/")))

pub same_entry_fails : (pages : ℕ) (a b : ℕ → ℕ) → ReadSame pages a b → entry_fails pages a ≡ entry_fails pages b
same_entry_fails pages a b is = λ i id.
    if same_stands pages a b is i id then same_coffer_fails pages a b is i (same_coffer pages a b is i id)
    else not (same_state pages a b is i id == 0) || (id == 1)

same_belongs : (pages : ℕ) (a b : ℕ → ℕ) → ReadSame pages a b → belongs pages a ≡ belongs pages b
same_belongs pages a b is = λ i bucket id.
    is_id id && same_stands pages a b is i id && (bucket_of (same_path pages a b is i id) == bucket)

same_chain : (pages : ℕ) (a b : ℕ → ℕ) → ReadSame pages a b → chain_in pages a ≡ chain_in pages b
same_chain pages a b is = λ i bucket.
    chain_from (λ id. same_word pages a b is i id 6) longest_chain (is.same (path_bucket pages bucket) (omega arith) (omega arith) i)

pub same_bucket_fails : (pages : ℕ) (a b : ℕ → ℕ) → ReadSame pages a b → bucket_fails pages a ≡ bucket_fails pages b
same_bucket_fails pages a b is = λ i bucket.
    let own = same_belongs pages a b is i bucket in
    let chain = same_chain pages a b is i bucket in
    not (list_all own chain && none_twice chain && list_all (λ id. is_in_chain id chain) (filter own all_ids))
