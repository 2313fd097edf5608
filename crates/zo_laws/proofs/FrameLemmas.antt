-- Chains, entries and directories over words that agree where they are read.
use Rattle.std.proofs.Common.{◌≡◌, ℕ, zero, suc, ◌+◌, ◌/◌, ◌%◌, ◌^◌, ◌<◌, ◌≤◌, cond, List, [], ◌∷◌, map, Contains, Option, Some, refl, sym, subst, ap, ap₂, ◌∙◌, arith}
use Rattle.std.proofs.lemmas.List.FromFn.{length-map-range_with_len}
use Rattle.std.specs.List.{range_with_len, IsDistinct}
use Rattle.zo_layout.specs.Layout.{word_of, bucket_head, bucket_of, entry_target, name_length, name_word, next_entry}
use Rattle.tr_types.specs.Paths.{same_text}
use Rattle.zo_model.specs.Commands.{IsName}
use Rattle.zo_model.specs.Directory.{byte_at, text_at, name_at, IsPlace, Leads, target_in, IsBucket, Shows, IsReached}
use Rattle.zo_laws.proofs.Members.{contains_here, contains_there}

-- the 40 words of an entry are the same
abbrev pub SameEntry : (ℕ → ℕ) → (ℕ → ℕ) → ℕ → Type 0
SameEntry at new entry = (a : ℕ) → a % 8 ≡ 0 → entry ≤ a → a < entry + 320 → new a ≡ at a

-- texts whose words are the same
texts_same : (at new : ℕ → ℕ) (start first count len : ℕ) → first + count ≤ len → ((k : ℕ) → k < len → new (word_of start (k / 8)) ≡ at (word_of start (k / 8)))
    → map (byte_at new start) (range_with_len first count) ≡ map (byte_at at start) (range_with_len first count)
texts_same at new start first zero len low same = refl
texts_same at new start first (suc count) len low same =
    ap₂ (λ (b : ℕ) (bs : List ℕ). b ∷ bs)
    (ap (λ (w : ℕ). w / 256 ^ (first % 8) % 256) (same first (omega arith)))
    (texts_same at new start (first + 1) count len (omega arith) same)

-- an entry keeps its name
pub name_same : (at new : ℕ → ℕ) (entry : ℕ) → entry % 8 ≡ 0 → at (name_length entry) ≤ 255 → SameEntry at new entry → name_at new entry ≡ name_at at entry
name_same at new entry aligned short same =
    let len : new (name_length entry) ≡ at (name_length entry) = same (name_length entry) (omega arith) (omega arith) (omega arith) in
    ap (text_at new (name_word entry 0)) len
    ∙ texts_same at new (name_word entry 0) 0 (at (name_length entry)) 255 (omega arith) (λ k low. same (word_of (name_word entry 0) (k / 8)) (omega arith) (omega arith) (omega arith))

pub place_aligned : (EntryPage : ℕ → Type 0) (entry : ℕ) → IsPlace EntryPage entry → entry % 8 ≡ 0
place_aligned EntryPage entry p = subst (λ (e : ℕ). e % 8 ≡ 0) (sym p.is) (omega arith)

pub entry_short : (at : ℕ → ℕ) (entry : ℕ) → IsName (name_at at entry) → at (name_length entry) ≤ 255
entry_short at entry is = omega (arith, is.short, length-map-range_with_len (byte_at at (name_word entry 0)) 0 (at (name_length entry)))

-- a chain of entries that keep their first words
pub leads_same : (at new : ℕ → ℕ) (word : ℕ) (entries : List ℕ) → ((e : ℕ) → Contains entries e → new (next_entry e) ≡ at (next_entry e)) → Leads at word entries → Leads new word entries
leads_same at new word [] same leads = leads
leads_same at new word (entry ∷ entries) same leads = (
  leads.0,
  leads.1,
  subst (λ (w : ℕ). Leads new w entries) (sym (same entry (contains_here entry entries))) (leads_same at new (at (next_entry entry)) entries (λ e has. same e (contains_there entry entries e has)) leads.2),
)

-- the words lead to one list only
pub leads_unique : (at : ℕ → ℕ) (word : ℕ) (xs ys : List ℕ) → Leads at word xs → Leads at word ys → xs ≡ ys
leads_unique at word [] [] one two = refl
leads_unique at word [] (y ∷ ys) one two = absurd (two.1 (sym two.0 ∙ one))
leads_unique at word (x ∷ xs) [] one two = absurd (one.1 (sym one.0 ∙ two))
leads_unique at word (x ∷ xs) (y ∷ ys) one two =
    let same : x ≡ y = sym one.0 ∙ two.0 in
    ap₂ (λ (e : ℕ) (es : List ℕ). e ∷ es) same (leads_unique at (at (next_entry x)) xs ys one.2 (subst (λ (e : ℕ). Leads at (at (next_entry e)) ys) (sym same) two.2))

-- what is read of the entries of a chain
pub names_same : (at new : ℕ → ℕ) (entries : List ℕ) → ((e : ℕ) → Contains entries e → name_at new e ≡ name_at at e) → map (name_at new) entries ≡ map (name_at at) entries
names_same at new [] same = refl
names_same at new (entry ∷ entries) same =
    ap₂ (λ (n : List ℕ) (ns : List (List ℕ)). n ∷ ns) (same entry (contains_here entry entries)) (names_same at new entries (λ e has. same e (contains_there entry entries e has)))

pub target_same : (at new : ℕ → ℕ) (name : List ℕ) (entries : List ℕ) → ((e : ℕ) → Contains entries e → name_at new e ≡ name_at at e) → ((e : ℕ) → Contains entries e → new (entry_target e) ≡ at (entry_target e)) → target_in new name entries ≡ target_in at name entries
target_same at new name [] names targets = refl
target_same at new name (entry ∷ entries) names targets =
    let here = contains_here entry entries in
    ap₂ (λ (n : List ℕ) (t : ℕ). cond (same_text n name) (Some t) (target_in new name entries)) (names entry here) (targets entry here)
    ∙ ap (λ (rest : Option ℕ). cond (same_text (name_at at entry) name) (Some (at (entry_target entry))) rest)
    (target_same at new name entries (λ e has. names e (contains_there entry entries e has)) (λ e has. targets e (contains_there entry entries e has)))

-- a bucket whose words are the same; its entries may lie in more pages
unfoldable pub bucket_same : (at new : ℕ → ℕ) (EntryPage More : ℕ → Type 0) (dir : ℕ) (want : List ℕ → Option ℕ) (b : ℕ) → ((page : ℕ) → EntryPage page → More page)
    → new (bucket_head dir b) ≡ at (bucket_head dir b) → (was : IsBucket at EntryPage dir want b) → ((e : ℕ) → Contains was.entries e → SameEntry at new e) → IsBucket new More dir want b
bucket_same at new EntryPage More dir want b more head was same =
    let aligned = λ (e : ℕ) (has : Contains was.entries e). place_aligned EntryPage e (was.each e has).place in
    let names = λ (e : ℕ) (has : Contains was.entries e). name_same at new e (aligned e has) (entry_short at e (was.each e has).name) (same e has) in
    let lists = names_same at new was.entries names in
    record {
      entries = was.entries;
      leads = subst (λ (w : ℕ). Leads new w was.entries) (sym head)
          (leads_same at new (at (bucket_head dir b)) was.entries (λ e has. same e has (next_entry e) (aligned e has) (omega arith) (omega arith)) was.leads);
      each = λ e has.
          let is = was.each e has in
          record {
            place = record { page = is.place.page; place = is.place.place; is = is.place.is; twelve = is.place.twelve; entries = more is.place.page is.place.entries };
            name = subst IsName (sym (names e has)) is.name;
            in_bucket = ap bucket_of (names e has) ∙ is.in_bucket;
          };
      once = subst (IsDistinct same_text) (sym lists) was.once;
      names = λ name in_bucket.
          target_same at new name was.entries names (λ e has. let at_8 = aligned e has in same e has (entry_target e) (omega arith) (omega arith) (omega arith))
          ∙ was.names name in_bucket;
    }

-- a directory whose words are the same where it is read
pub shows_same : (at new : ℕ → ℕ) (EntryPage More : ℕ → Type 0) (dir : ℕ) (want : List ℕ → Option ℕ) → ((page : ℕ) → EntryPage page → More page)
    → ((b : ℕ) → b < 256 → new (bucket_head dir b) ≡ at (bucket_head dir b)) → ((e : ℕ) → IsReached at dir e → IsPlace EntryPage e → SameEntry at new e)
    → Shows at EntryPage dir want → Shows new More dir want
shows_same at new EntryPage More dir want more heads same shows b low =
    let was = shows b low in
    bucket_same at new EntryPage More dir want b more (heads b low) was
    (λ e has. same e (record { bucket = b; is_bucket = low; entries = was.entries; leads = was.leads; among = has }) (was.each e has).place)

-- an entry that the new words reach, where the heads and all reached entries are the same, was reached
pub reached_same : (at new : ℕ → ℕ) (EntryPage : ℕ → Type 0) (dir : ℕ) (want : List ℕ → Option ℕ)
    → ((b : ℕ) → b < 256 → new (bucket_head dir b) ≡ at (bucket_head dir b)) → ((e : ℕ) → IsReached at dir e → IsPlace EntryPage e → SameEntry at new e)
    → Shows at EntryPage dir want → (entry : ℕ) → IsReached new dir entry → IsReached at dir entry
unfolding bucket_same
reached_same at new EntryPage dir want heads same shows entry now =
    let was = shows now.bucket now.is_bucket in
    let is = bucket_same at new EntryPage EntryPage dir want now.bucket (λ page p. p) (heads now.bucket now.is_bucket) was
    (λ e has. same e (record { bucket = now.bucket; is_bucket = now.is_bucket; entries = was.entries; leads = was.leads; among = has }) (was.each e has).place) in
    let one = leads_unique new (new (bucket_head dir now.bucket)) now.entries was.entries now.leads is.leads in
    record { bucket = now.bucket; is_bucket = now.is_bucket; entries = was.entries; leads = was.leads; among = subst (λ (es : List ℕ). Contains es entry) one now.among }
