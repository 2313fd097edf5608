-- What a directory shows stays with the words that tell it.
use Rattle.std.proofs.Common.{◌≡◌, ◌⊎◌, ℕ, ◌+◌, ◌/◌, ◌%◌, ◌^◌, ◌<◌, ◌≤◌, if◌then◌else◌, List, [], ◌∷◌, length, map, Contains, ap, sym, refl, subst, ◌∙◌, arith}
use Rattle.std.specs.Prelude.{Option, Some}
use Rattle.std.specs.List.{IsDistinct}
use Rattle.std.proofs.lemmas.List.{ext_get_or}
use Rattle.std.proofs.lemmas.List.FromFn.{length-map-range_with_len, get_or-map-range_with_len}
use Rattle.tr_types.specs.Paths.{same_text}
use Rattle.zo_layout.specs.Layout.{page_at, first_entry_page, word_of, bucket_head, bucket_of, entry_target, name_length, name_word, next_entry, first_free_entry}
use Rattle.zo_model.specs.Commands.{IsName}
use Rattle.zo_model.specs.Directory.{Leads, IsBucket, Shows, IsReached, HasFirst, HasFree, byte_at, text_at, name_at, target_in}
use Rattle.zo_laws.specs.Laws.{KeepsNames}
use Rattle.zo_laws.proofs.Members.{contains_here, contains_there}
use Rattle.zo_laws.proofs.Chains.{one_chain, leads_stay}

-- texts stay with their words
pub text_stays : (before after : ℕ → ℕ) (start len : ℕ) → ((k : ℕ) → k < len → after (word_of start (k / 8)) ≡ before (word_of start (k / 8))) → text_at after start len ≡ text_at before start len
text_stays before after start len same =
    let long : length (text_at after start len) ≡ len = length-map-range_with_len (byte_at after start) 0 len in
    let len_is : length (text_at after start len) ≡ length (text_at before start len) = long ∙ sym (length-map-range_with_len (byte_at before start) 0 len) in
    ext_get_or 0 (text_at after start len) (text_at before start len) len_is (λ k low.
    let low' : k < len = omega (arith, long) in
    get_or-map-range_with_len (byte_at after start) 0 len k k 0 low' (omega arith)
    ∙ ap (λ (w : ℕ). w / 256 ^ (k % 8) % 256) (same k low')
    ∙ sym (get_or-map-range_with_len (byte_at before start) 0 len k k 0 low' (omega arith)))

-- the name of an entry stays with the entry's words
pub name_stays : (before after : ℕ → ℕ) (entry : ℕ) → before (name_length entry) ≤ 255
    → ((i : ℕ) → i < 40 → after (word_of entry i) ≡ before (word_of entry i)) → name_at after entry ≡ name_at before entry
name_stays before after entry short same =
    ap (text_at after (name_word entry 0)) (same 2 (omega arith))
    ∙ text_stays before after (name_word entry 0) (before (name_length entry)) (λ k low.
    let is : word_of entry (3 + k / 8) ≡ word_of (name_word entry 0) (k / 8) = omega arith in
    subst (λ (a : ℕ). after a ≡ before a) is (same (3 + k / 8) (omega arith)))

-- the length of a name is its entry's word
pub length-name_at : (at : ℕ → ℕ) (entry : ℕ) → length (name_at at entry) ≡ at (name_length entry)
length-name_at at entry = length-map-range_with_len (byte_at at (name_word entry 0)) 0 (at (name_length entry))

-- what is the same for each member
pub map_agree : {X : Type 0} (f g : ℕ → X) (xs : List ℕ) → ((x : ℕ) → Contains xs x → f x ≡ g x) → map f xs ≡ map g xs
map_agree f g [] same = refl
map_agree {X = X} f g (x ∷ xs) same =
    ap (λ (y : X). y ∷ map f xs) (same x (contains_here x xs)) ∙ ap (λ (ys : List X). g x ∷ ys) (map_agree f g xs (λ y h. same y (contains_there x xs y h)))

pub target_stays : (before after : ℕ → ℕ) (name : List ℕ) (entries : List ℕ) → ((entry : ℕ) → Contains entries entry → name_at after entry ≡ name_at before entry)
    → ((entry : ℕ) → Contains entries entry → after (entry_target entry) ≡ before (entry_target entry)) → target_in after name entries ≡ target_in before name entries
target_stays before after name [] names targets = refl
target_stays before after name (e ∷ entries) names targets =
    let rest = target_stays before after name entries (λ f h. names f (contains_there e entries f h)) (λ f h. targets f (contains_there e entries f h)) in
    ap (λ (n : List ℕ). if same_text n name then Some (after (entry_target e)) else target_in after name entries) (names e (contains_here e entries))
    ∙ ap (λ (t : ℕ). if same_text (name_at before e) name then Some t else target_in after name entries) (targets e (contains_here e entries))
    ∙ ap (λ (o : Option ℕ). if same_text (name_at before e) name then Some (before (entry_target e)) else o) rest

pub bucket_stays : (P Q : ℕ → Type 0) (before after : ℕ → ℕ) (dir : ℕ) (want : List ℕ → Option ℕ) (bucket : ℕ) → bucket < 256 → KeepsNames before after dir → ((page : ℕ) → P page → Q page)
    → IsBucket before P dir want bucket → IsBucket after Q dir want bucket
bucket_stays P Q before after dir want bucket low keeps grows b =
    record {
      entries = b.entries;
      leads = subst (λ (w : ℕ). Leads after w b.entries) (sym (keeps.heads bucket low))
          (leads_stay before after (before (bucket_head dir bucket)) b.entries b.leads (λ entry h.
          let first : word_of entry 0 ≡ next_entry entry = omega arith in
          subst (λ (a : ℕ). after a ≡ before a) first (words entry h 0 (omega arith))));
      each = λ entry h.
          let e = b.each entry h in
          record {
            place = record { page = e.place.page; place = e.place.place; is = e.place.is; twelve = e.place.twelve; entries = grows e.place.page e.place.entries };
            name = subst IsName (sym (name_is entry h)) e.name;
            in_bucket = ap bucket_of (name_is entry h) ∙ e.in_bucket;
          };
      once = subst (IsDistinct same_text) (sym (map_agree (name_at after) (name_at before) b.entries name_is)) b.once;
      names = λ name is. target_stays before after name b.entries name_is (λ entry h. words entry h 1 (omega arith)) ∙ b.names name is;
    }
  where
    words : (entry : ℕ) → Contains b.entries entry → (i : ℕ) → i < 40 → after (word_of entry i) ≡ before (word_of entry i)
    words entry h i few = keeps.entries entry i (record { bucket = bucket; is_bucket = low; entries = b.entries; leads = b.leads; among = h }) few

    name_is : (entry : ℕ) → Contains b.entries entry → name_at after entry ≡ name_at before entry
    name_is entry h =
        let short : before (name_length entry) ≤ 255 = omega (arith, (b.each entry h).name.short, length-name_at before entry) in
        name_stays before after entry short (words entry h)

pub shows_stay : (P Q : ℕ → Type 0) (before after : ℕ → ℕ) (dir : ℕ) (want : List ℕ → Option ℕ) → Shows before P dir want → KeepsNames before after dir → ((page : ℕ) → P page → Q page) → Shows after Q dir want
shows_stay P Q before after dir want shows keeps grows bucket low = bucket_stays P Q before after dir want bucket low keeps grows (shows bucket low)

-- what is reached afterwards was reached before
pub reached_before : (P : ℕ → Type 0) (before after : ℕ → ℕ) (dir : ℕ) (want : List ℕ → Option ℕ) → Shows before P dir want → KeepsNames before after dir → (entry : ℕ) → IsReached after dir entry → IsReached before dir entry
unfolding bucket_stays
reached_before P before after dir want shows keeps entry r =
    let b = shows r.bucket r.is_bucket in
    let a = bucket_stays P P before after dir want r.bucket r.is_bucket keeps (λ page p. p) b in
    let same : r.entries ≡ b.entries = one_chain after (after (bucket_head dir r.bucket)) r.entries b.entries r.leads a.leads in
    record { bucket = r.bucket; is_bucket = r.is_bucket; entries = b.entries; leads = b.leads; among = subst (λ (xs : List ℕ). Contains xs entry) same r.among }

pub free_stays : (P : ℕ → Type 0) (before after : ℕ → ℕ) (dir : ℕ) (want : List ℕ → Option ℕ) (frees : List ℕ) → Shows before P dir want → KeepsNames before after dir
    → after (first_free_entry dir) ≡ before (first_free_entry dir) → ((entry : ℕ) → Contains frees entry → after (next_entry entry) ≡ before (next_entry entry))
    → HasFree before P dir frees → HasFree after P dir frees
free_stays P before after dir want frees shows keeps first links h = record {
  leads = subst (λ (w : ℕ). Leads after w frees) (sym first) (leads_stay before after (before (first_free_entry dir)) frees h.leads links);
  each = λ entry c.
      let f = h.each entry c in
      record { place = f.place; unreached = λ r. f.unreached (reached_before P before after dir want shows keeps entry r) };
}

pub first_stays : (P : ℕ → Type 0) (before after : ℕ → ℕ) (dir : ℕ) → after (first_entry_page dir) ≡ before (first_entry_page dir) → HasFirst before P dir → HasFirst after P dir
first_stays P before after dir same h = subst (λ (w : ℕ). (w ≡ 0) ⊎ ((page : ℕ) × (w ≡ page_at page) × P page)) (sym same) h
