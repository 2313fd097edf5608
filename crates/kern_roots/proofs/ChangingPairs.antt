-- Lists of pairs, and the words of an entry.
use Rattle.std.proofs.Common.{◌≡◌, ℕ, zero, suc, ◌+◌, ◌-◌, ◌*◌, ◌<◌, ◌≤◌, ◌⊎◌, List, [], ◌∷◌, ◌++◌, map, length, take, drop, replicate, get_or, insert, min, Bool, true, false, not, cond, refl, ap, sym, ◌∙◌, inl, inr, arith, nat_lt, length-append, append-nil, add-one}
use Rattle.std.specs.List.{enumerate_from, position_or_len, range_with_len, flat_map}
use Rattle.std.specs.Int.{w64, from_le_bytes}
use Rattle.std.proofs.lemmas.Bool.{cases_lt}
use Rattle.std.proofs.lemmas.List.{take_all, take_at, take-append-le, append_assoc, drop-replicate, take_more, length-take, flat_map_more, length-replicate, replicate-append-replicate}
use Rattle.std.proofs.lemmas.List.FromFn.{map-range_with_len_more, length-map-range_with_len}
use Rattle.zo_layout.specs.Layout.{word_of, coffer_entry, coffer_next, path_bucket, bucket_of}
use Rattle.kern_model.specs.PathMap as paths
use Rattle.kern_roots.specs.declared.types.Root.{Root}
use Rattle.kern_roots.specs.Reading.{state_word}
use Rattle.kern_roots.specs.Changes.{new_coffer}

-- words in their places, from place n on
abbrev pub placed : ℕ → ℕ → List ℕ → List (ℕ × ℕ)
placed start n ws = map {B = ℕ × ℕ} (λ p. (word_of start p.0, p.1)) (enumerate_from n ws)

-- one more word, in its place
placed_more : (start n : ℕ) (ws : List ℕ) (w : ℕ) → placed start n (ws ++ w ∷ []) ≡ placed start n ws ++ (word_of start (n + length ws), w) ∷ []
placed_more start n [] w = let e : n ≡ n + 0 = omega arith in ap (λ (k : ℕ). pair k ∷ []) e
  where
    pair : ℕ → ℕ × ℕ
    pair k = (word_of start k, w)
placed_more start n (x ∷ ws) w =
    let e : n + 1 + length ws ≡ n + suc (length ws) = omega arith in
    ap (λ (ps : List (ℕ × ℕ)). (word_of start n, x) ∷ ps) (placed_more start (n + 1) ws w ∙ ap (λ (k : ℕ). placed start (n + 1) ws ++ (word_of start k, w) ∷ []) e)

pub from_address_more : (start i : ℕ) (ws : List ℕ) (w : ℕ) (pairs : List (ℕ × ℕ)) → i < length ws → get_or ws i w ≡ w → pairs ≡ paths.from_address start (take i ws)
    → pairs ++ (word_of start i, w) ∷ [] ≡ paths.from_address start (take (i + 1) ws)
from_address_more start i ws w pairs lt e h =
    let long : 0 + length (take i ws) ≡ i = omega (arith, length-take i ws) in
    ap (λ (ps : List (ℕ × ℕ)). ps ++ (word_of start i, w) ∷ []) h
    ∙ ap (λ (k : ℕ). placed start 0 (take i ws) ++ (word_of start k, w) ∷ []) (sym long)
    ∙ sym (placed_more start 0 (take i ws) w)
    ∙ ap (placed start 0) (ap (λ (v : ℕ). take i ws ++ v ∷ []) (sym e) ∙ sym (take_more ws i w lt))

-- a pair goes before the first one of a greater address
pub with_pair_is : (p : ℕ × ℕ) (ps : List (ℕ × ℕ)) → insert ps (position_or_len (λ q. nat_lt p.0 q.0) ps) p ≡ paths.with_pair p ps
with_pair_is p [] = refl
with_pair_is p (q ∷ ps) = by (nat_lt p.0 q.0) (with_pair_is p ps)
  where
    by : (b : Bool) → insert ps (position_or_len (λ r. nat_lt p.0 r.0) ps) p ≡ paths.with_pair p ps
        → insert (q ∷ ps) (cond (not b) (1 + position_or_len (λ r. nat_lt p.0 r.0) ps) 0) p ≡ cond b (p ∷ q ∷ ps) (q ∷ paths.with_pair p ps)
    by true e = refl
    by false e =
        let n = position_or_len (λ (r : ℕ × ℕ). nat_lt p.0 r.0) ps in
        let f : 1 + n ≡ suc n = omega arith in
        ap (λ (k : ℕ). insert (q ∷ ps) k p) f ∙ ap (λ (rs : List (ℕ × ℕ)). q ∷ rs) e

-- word i of a text
abbrev pub text_word : List ℕ → ℕ → ℕ
text_word text i = from_le_bytes w64 (take 8 (drop (8 * i) text ++ replicate 8 0))

-- a text of at most eight bytes, or its first eight, in eight bytes
pub padded : (rest : List ℕ) (n : ℕ) → n ≡ min (length rest) 8 → take n rest ++ drop n (replicate 8 0) ≡ take 8 (rest ++ replicate 8 0)
padded rest n e = by (cases_lt (length rest) 8)
  where
    by : (length rest < 8) ⊎ (8 ≤ length rest) → take n rest ++ drop n (replicate 8 0) ≡ take 8 (rest ++ replicate 8 0)
    by (inl h) =
        let all : length rest ≤ n = omega arith in
        let split : 8 - n + n ≡ 8 = omega arith in
        let long : length (rest ++ replicate (8 - n) 0) ≡ 8 = omega (arith, length-append rest (replicate (8 - n) 0), length-replicate {A = ℕ} (8 - n) 0) in
        ap (λ (xs : List ℕ). xs ++ drop n (replicate 8 0)) (take_all n rest all)
        ∙ ap (λ (xs : List ℕ). rest ++ xs) (drop-replicate n 8 0)
        ∙ sym (ap (λ (k : ℕ). take 8 (rest ++ replicate k 0)) (sym split)
        ∙ ap (λ (xs : List ℕ). take 8 (rest ++ xs)) (sym (replicate-append-replicate (8 - n) n 0))
        ∙ ap (take 8) (sym (append_assoc rest (replicate (8 - n) 0) (replicate n 0)))
        ∙ take_at (rest ++ replicate (8 - n) 0) (replicate n 0) 8 long)
    by (inr h) =
        let eight : n ≡ 8 = omega arith in
        ap (λ (k : ℕ). take k rest ++ drop k (replicate 8 0)) eight
        ∙ append-nil (take 8 rest)
        ∙ sym (take-append-le 8 rest (replicate 8 0) h)

-- Words one after another, as bytes.

range_more : (a n : ℕ) → range_with_len a (suc n) ≡ range_with_len a n ++ (a + n) ∷ []
range_more a zero = let e : a ≡ a + 0 = omega arith in ap (λ (k : ℕ). k ∷ []) e
range_more a (suc n) =
    let e : a + 1 + n ≡ a + suc n = omega arith in
    ap (λ (ks : List ℕ). a ∷ ks) (range_more (a + 1) n ∙ ap (λ (k : ℕ). range_with_len (a + 1) n ++ k ∷ []) e)

range_last : (n : ℕ) → range_with_len 0 (suc n) ≡ range_with_len 0 n ++ n ∷ []
range_last n = let e : 0 + n ≡ n = omega arith in range_more 0 n ∙ ap (λ (k : ℕ). range_with_len 0 n ++ k ∷ []) e

pub bytes_more : (f : ℕ → List ℕ) (old new ws : List ℕ) (i : ℕ) → length ws ≡ 8 → 8 * i + 8 ≤ length old → ws ≡ f i
    → new ≡ take (8 * i) old ++ ws ++ drop (8 * i + 8) old → take (8 * i) old ≡ flat_map f (range_with_len 0 i)
    → take (8 * (i + 1)) new ≡ flat_map f (range_with_len 0 (i + 1))
bytes_more f old new ws i eight inside is put before =
    let long : length (take (8 * i) old ++ ws) ≡ 8 * (i + 1) = omega (arith, length-append (take (8 * i) old) ws, length-take (8 * i) old) in
    ap (take (8 * (i + 1))) put
    ∙ take_at (take (8 * i) old ++ ws) (drop (8 * i + 8) old) (8 * (i + 1)) long
    ∙ ap (λ (xs : List ℕ). xs ++ ws) before
    ∙ ap (λ (xs : List ℕ). flat_map f (range_with_len 0 i) ++ xs) is
    ∙ flat_map_more f [] (range_with_len 0 i) i
    ∙ ap (flat_map f) (sym (range_last i))
    ∙ ap (λ (k : ℕ). flat_map f (range_with_len 0 k)) (sym (add-one i))

pub bytes_all : (f : ℕ → List ℕ) (bytes : List ℕ) (i n : ℕ) → i ≡ n → length bytes ≡ 8 * n → take (8 * i) bytes ≡ flat_map f (range_with_len 0 i) → bytes ≡ flat_map f (range_with_len 0 n)
bytes_all f bytes i n e long done =
    let most : length bytes ≤ 8 * i = omega arith in
    sym (take_all (8 * i) bytes most) ∙ done ∙ ap (λ (k : ℕ). flat_map f (range_with_len 0 k)) e

-- The words of an entry are those before the path, and then those of the path.
pub entry_words_more : (text : List ℕ) (ws front : List ℕ) (i w : ℕ) → ws ≡ front ++ map (text_word text) (range_with_len 0 i) → w ≡ text_word text i
    → ws ++ w ∷ [] ≡ front ++ map (text_word text) (range_with_len 0 (i + 1))
entry_words_more text ws front i w e h =
    let at : 0 + i ≡ i = omega arith in
    ap (λ (xs : List ℕ). xs ++ w ∷ []) e
    ∙ append_assoc front (map (text_word text) (range_with_len 0 i)) (w ∷ [])
    ∙ ap (λ (v : ℕ). front ++ (map (text_word text) (range_with_len 0 i) ++ v ∷ [])) h
    ∙ ap (λ (xs : List ℕ). front ++ xs) (sym (map-range_with_len_more (text_word text) 0 i i at))

pub entry_words_are : (id next i : ℕ) (text : List ℕ) (given : Root) (ws front : List ℕ) → i ≡ 55
    → front ≡ state_word given.state ∷ given.perm.uid ∷ given.perm.gid ∷ given.perm.mode ∷ given.control ∷ given.root ∷ next ∷ length text ∷ given.kind ∷ []
    → ws ≡ front ++ map (text_word text) (range_with_len 0 i) → ws ≡ paths.entry_words (new_coffer id text given) next
entry_words_are id next i text given ws front e f h =
    h
    ∙ ap (λ (xs : List ℕ). xs ++ map (text_word text) (range_with_len 0 i)) f
    ∙ ap (λ (k : ℕ). (state_word given.state ∷ given.perm.uid ∷ given.perm.gid ∷ given.perm.mode ∷ given.control ∷ given.root ∷ next ∷ length text ∷ given.kind ∷ []) ++ map (text_word text) (range_with_len 0 k)) e

pub length_entry_words : (i : ℕ) (text ws front : List ℕ) → i ≡ 55 → length front ≡ 9 → ws ≡ front ++ map (text_word text) (range_with_len 0 i) → length ws ≡ 64
length_entry_words i text ws front e f h =
    omega (arith, ap (λ (xs : List ℕ). length xs) h, length-append front (map (text_word text) (range_with_len 0 i)), length-map-range_with_len (text_word text) 0 i)

-- The pairs of a change, put together.

pub added_are : (pages : ℕ) (at : ℕ → ℕ) (id : ℕ) (text : List ℕ) (given : Root) (entry bucket last : ℕ) (ws : List ℕ) (first pairs : List (ℕ × ℕ))
    → entry ≡ coffer_entry pages id → bucket ≡ path_bucket pages (bucket_of text) → last ≡ id
    → ws ≡ paths.entry_words (new_coffer id text given) (at bucket) → first ≡ paths.from_address entry ws → pairs ≡ first ++ (bucket, last) ∷ []
    → pairs ≡ paths.added_pairs pages at (new_coffer id text given)
added_are pages at id text given entry bucket last ws first pairs is_entry is_bucket is_id is_ws is_first is =
    let c = new_coffer id text given in
    is
    ∙ ap (λ (ps : List (ℕ × ℕ)). ps ++ (bucket, last) ∷ []) is_first
    ∙ ap (λ (a : ℕ). paths.from_address a ws ++ (bucket, last) ∷ []) is_entry
    ∙ ap (λ (xs : List ℕ). paths.from_address (coffer_entry pages id) xs ++ (bucket, last) ∷ []) is_ws
    ∙ ap (λ (b : ℕ). paths.from_address (coffer_entry pages id) (paths.entry_words c (at b)) ++ (b, last) ∷ []) is_bucket
    ∙ ap (λ (n : ℕ). paths.from_address (coffer_entry pages id) (paths.entry_words c (at (path_bucket pages (bucket_of text)))) ++ (path_bucket pages (bucket_of text), n) ∷ []) is_id

pub dropped_are : (pages : ℕ) (at : ℕ → ℕ) (id entry lead next : ℕ) (cleared pairs : List (ℕ × ℕ))
    → entry ≡ coffer_entry pages id → lead ≡ paths.leading_word pages at id → next ≡ at (coffer_next (coffer_entry pages id))
    → cleared ≡ paths.from_address entry paths.no_words → pairs ≡ paths.with_pair (lead, next) cleared
    → pairs ≡ paths.dropped_pairs pages at id
dropped_are pages at id entry lead next cleared pairs is_entry is_lead is_next is_cleared is =
    is
    ∙ ap (paths.with_pair (lead, next)) (is_cleared ∙ ap (λ (a : ℕ). paths.from_address a paths.no_words) is_entry)
    ∙ ap (λ (a : ℕ). paths.with_pair (a, next) (paths.from_address (coffer_entry pages id) paths.no_words)) is_lead
    ∙ ap (λ (n : ℕ). paths.with_pair (paths.leading_word pages at id, n) (paths.from_address (coffer_entry pages id) paths.no_words)) is_next
