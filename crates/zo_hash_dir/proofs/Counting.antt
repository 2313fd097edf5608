-- A count of names, step by step.
use Rattle.std.proofs.Common.{◌≡◌, ◌≢◌, ◌⊎◌, ℕ, zero, suc, ◌+◌, ◌-◌, ◌*◌, ◌<◌, ◌≤◌, false, List, [], ◌∷◌, ◌++◌, length, Contains, ap, sym, refl, subst, ◌∙◌, inl, inr, arith}
use Rattle.std.specs.Prelude.{nat_eq}
use Rattle.std.specs.List.{IsDistinct, AllByRecursion}
use Rattle.std.proofs.lemmas.Bool.{cases_lt, ne_eqb}
use Rattle.std.proofs.lemmas.List.{append_assoc, length-append}
use Rattle.std.proofs.lemmas.List.Elements.{Contains-append_cases}
use Rattle.std.proofs.lemmas.Map.Keys.{IsDistinct-head, IsDistinct-tail, IsDistinct-cons}
use Rattle.zo_layout.specs.Layout.{word_of, bucket_head, next_entry}
use Rattle.zo_model.specs.Directory.{Leads, IsEntry, name_at}
use Rattle.zo_hash_dir.specs.Addresses.{IsEntryAddress}
use Rattle.zo_hash_dir.specs.Scene.{Scene, IsPageOf, IsShown, IsRead, OfEntry}
use Rattle.tr_types.specs.declared.action.Answer.{Answer}
use Rattle.tr_types.specs.declared.action.Answer.TheVariants.{Word}
use Rattle.zo_hash_dir.specs.declared.list.ListRun.{ListRun}
use Rattle.zo_hash_dir.specs.declared.list.Asked.{Asked}
use Rattle.zo_hash_dir.specs.declared.list.Asked.TheVariants as list
use Rattle.zo_hash_dir.specs.declared.list.ListStep.{ListStep}
use Rattle.zo_hash_dir.specs.declared.list.ListStep.TheVariants.{Load, Counted, Damaged}
use Rattle.zo_hash_dir.specs.Looking.{LeadsAstray}
use Rattle.zo_hash_dir.specs.Counting.{At, at_of, asked_word, names_below, HasNames, AreChains, Counts, CountsAll, ListKnowsAt, ListGives, IsListDamageAt, TellsListDamage}
use Rattle.zo_hash_dir.proofs.Members.{contains_here, contains_there}
use Rattle.zo_hash_dir.proofs.Chains.{leads_behind, link_behind_push}
use Rattle.zo_hash_dir.proofs.Few.{distinct_by_name, entries_few, no_entry}
use Rattle.zo_hash_dir.proofs.Walking.{place_allowed, contains_middle}

-- how many names stand in a bucket and before it
pub names_none : (chains : ℕ → List ℕ) → names_below chains 0 ≡ 0
unfolding names_below
names_none chains = refl

pub names_more : (chains : ℕ → List ℕ) (bucket : ℕ) → names_below chains (suc bucket) ≡ names_below chains bucket + length (chains bucket)
unfolding names_below
names_more chains bucket = refl

pub names_grow : (chains : ℕ → List ℕ) (more bucket : ℕ) → names_below chains bucket ≤ names_below chains (more + bucket)
names_grow chains zero bucket = omega (arith, ap (names_below chains) (let e : 0 + bucket ≡ bucket = omega arith in e))
names_grow chains (suc more) bucket =
    let is : suc more + bucket ≡ suc (more + bucket) = omega arith in
    omega (arith, names_grow chains more bucket, names_more chains (more + bucket), ap (names_below chains) is)

pub names_within : (chains : ℕ → List ℕ) (bucket all : ℕ) → bucket < all → names_below chains bucket + length (chains bucket) ≤ names_below chains all
names_within chains bucket all low =
    let more = all - suc bucket in
    let is : more + suc bucket ≡ all = omega arith in
    omega (arith, names_grow chains more (suc bucket), names_more chains bucket, ap (names_below chains) is)

-- all entries of the first buckets
all_below : (ℕ → List ℕ) → ℕ → List ℕ
all_below chains zero = []
all_below chains (suc bucket) = all_below chains bucket ++ chains bucket

length-all_below : (chains : ℕ → List ℕ) (bucket : ℕ) → length (all_below chains bucket) ≡ names_below chains bucket
unfolding all_below names_below
length-all_below chains zero = refl
length-all_below chains (suc bucket) = omega (arith, length-append (all_below chains bucket) (chains bucket), length-all_below chains bucket)

among_below : (chains : ℕ → List ℕ) (bucket entry : ℕ) → Contains (all_below chains bucket) entry → (b : ℕ) × (b < bucket) × Contains (chains b) entry
unfolding all_below
among_below chains zero entry h = absurd (omega (arith, h.1))
among_below chains (suc bucket) entry h = by (λ before. among_below chains bucket entry before) (Contains-append_cases (all_below chains bucket) (chains bucket) entry h)
  where
    by : (Contains (all_below chains bucket) entry → (b : ℕ) × (b < bucket) × Contains (chains b) entry)
        → Contains (all_below chains bucket) entry ⊎ Contains (chains bucket) entry → (b : ℕ) × (b < suc bucket) × Contains (chains b) entry
    by rest (inl before) = let r = rest before in (r.0, omega (arith, r.1), r.2)
    by rest (inr here) = (bucket, omega arith, here)

all_append : (P : ℕ → Type 0) (xs ys : List ℕ) → AllByRecursion P xs → AllByRecursion P ys → AllByRecursion P (xs ++ ys)
all_append P [] ys a b = b
all_append P (x ∷ xs) ys a b = (a.0, all_append P xs ys a.1 b)

all_apart : (x : ℕ) (ys : List ℕ) → ((y : ℕ) → Contains ys y → x ≢ y) → AllByRecursion (λ y. nat_eq x y ≡ false) ys
all_apart x [] h = tt
all_apart x (y ∷ ys) h = (ne_eqb x y (h y (contains_here y ys)), all_apart x ys (λ z c. h z (contains_there y ys z c)))

distinct_append : (xs ys : List ℕ) → IsDistinct nat_eq xs → IsDistinct nat_eq ys → ((x : ℕ) → Contains xs x → Contains ys x → ⊥) → IsDistinct nat_eq (xs ++ ys)
distinct_append [] ys a b apart = b
distinct_append (x ∷ xs) ys a b apart =
    IsDistinct-cons nat_eq x (xs ++ ys)
    (all_append (λ y. nat_eq x y ≡ false) xs ys (IsDistinct-head nat_eq x xs a)
    (all_apart x ys (λ y c e. apart x (contains_here x xs) (subst (Contains ys) (sym e) c))))
    (distinct_append xs ys (IsDistinct-tail nat_eq x xs a) b (λ y c d. apart y (contains_there x xs y c) d))

-- the chains of a directory that shows its names
module _ (s : Scene) (dir pages : ℕ) (shown : IsShown s dir pages) where
  chain_at : (bucket : ℕ) → (bucket < 256) ⊎ (256 ≤ bucket) → List ℕ
  chain_at bucket (inl low) = (shown.shows bucket low).entries
  chain_at bucket (inr high) = []

  chain : ℕ → List ℕ
  chain bucket = chain_at bucket (cases_lt bucket 256)

  chain_leads : (bucket : ℕ) → bucket < 256 → Leads s.at (s.at (bucket_head dir bucket)) (chain bucket)
  unfolding chain chain_at
  chain_leads bucket low = by (cases_lt bucket 256)
    where
      by : (d : (bucket < 256) ⊎ (256 ≤ bucket)) → Leads s.at (s.at (bucket_head dir bucket)) (chain_at bucket d)
      by (inl l) = (shown.shows bucket l).leads
      by (inr high) = absurd (omega arith)

  chain_each : (bucket entry : ℕ) → bucket < 256 → Contains (chain bucket) entry → IsEntry s.at (IsPageOf s.pages) bucket entry
  unfolding chain chain_at
  chain_each bucket entry low h = by (cases_lt bucket 256) h
    where
      by : (d : (bucket < 256) ⊎ (256 ≤ bucket)) → Contains (chain_at bucket d) entry → IsEntry s.at (IsPageOf s.pages) bucket entry
      by (inl l) h = (shown.shows bucket l).each entry h
      by (inr high) h = absurd (omega arith)

  chain_distinct : (bucket : ℕ) → IsDistinct nat_eq (chain bucket)
  unfolding chain chain_at
  chain_distinct bucket = by (cases_lt bucket 256)
    where
      by : (d : (bucket < 256) ⊎ (256 ≤ bucket)) → IsDistinct nat_eq (chain_at bucket d)
      by (inl l) = distinct_by_name (name_at s.at) (shown.shows bucket l).entries (shown.shows bucket l).once
      by (inr high) = no_entry

  all_distinct : (bucket : ℕ) → bucket ≤ 256 → IsDistinct nat_eq (all_below chain bucket)
  unfolding all_below
  all_distinct zero low = no_entry
  all_distinct (suc bucket) low =
      distinct_append (all_below chain bucket) (chain bucket) (all_distinct bucket (omega arith)) (chain_distinct bucket) (λ entry before here.
      let r = among_below chain bucket entry before in
      let mine = (chain_each bucket entry (omega arith) here).in_bucket in
      let others = (chain_each r.0 entry (omega (arith, r.1)) r.2).in_bucket in
      omega (arith, mine, others, r.1))

  all_few : names_below chain 256 ≤ 12 * pages
  all_few =
      let most = entries_few s.pages (all_below chain 256) (λ entry h.
      let r = among_below chain 256 entry h in
      (chain_each r.0 entry r.1 r.2).place) (all_distinct 256 (omega arith)) in
      omega (arith, most, shown.few, length-all_below chain 256)

  pub counts_begin : Counts s dir (12 * pages) 0 0 (bucket_head dir 0)
  counts_begin = record {
    low = omega arith;
    chains = chain;
    are = record { leads = chain_leads; each = chain_each; few = all_few };
    passed = [];
    left = chain 0;
    here = refl;
    behind = refl;
    counted = omega (arith, names_none chain);
  }

-- a bucket's count begins at its first word
pub counts_first : (s : Scene) (dir most bucket names : ℕ) (chains : ℕ → List ℕ) → bucket < 256 → AreChains s dir most chains → names ≡ names_below chains bucket → Counts s dir most bucket names (bucket_head dir bucket)
counts_first s dir most bucket names chains low are is = record {
  low = low;
  chains = chains;
  are = are;
  passed = [];
  left = chains bucket;
  here = refl;
  behind = refl;
  counted = omega (arith, is);
}

-- the chain that is left
on_chain : (s : Scene) (dir most bucket names before : ℕ) → (c : Counts s dir most bucket names before) → Leads s.at (s.at before) c.left
on_chain s dir most bucket names before c =
    subst (λ (link : ℕ). Leads s.at (s.at link) c.left) (sym c.behind)
    (leads_behind s.at (bucket_head dir bucket) c.passed c.left (subst (Leads s.at (s.at (bucket_head dir bucket))) c.here (c.are.leads bucket c.low)))

-- The word at hand leads to an entry, if it isn't 0: one name more is counted.
pub record CountsOne (s : Scene) (dir most bucket names entry : ℕ) : Type 0 where
  pub some : names < most
  pub next : Counts s dir most bucket (names + 1) (next_entry entry)
  pub read : IsRead s dir (next_entry entry)
  pub allowed : IsEntryAddress entry

pub counts_on : (s : Scene) (dir most bucket names before word : ℕ) → Counts s dir most bucket names before → word ≡ s.at before → word ≢ 0 → CountsOne s dir most bucket names word
counts_on s dir most bucket names before word c is some = by c.left c.here (on_chain s dir most bucket names before c)
  where
    by : (left : List ℕ) → c.chains bucket ≡ c.passed ++ left → Leads s.at (s.at before) left → CountsOne s dir most bucket names word
    by [] here on = absurd (some (is ∙ on))
    by (entry ∷ left) here on =
        let same : entry ≡ word = sym (is ∙ on.0) in
        let long : length (c.chains bucket) ≡ length c.passed + (length left + 1) = omega (arith, ap length here, length-append c.passed (entry ∷ left)) in
        let inside = names_within c.chains bucket 256 c.low in
        let longer : length (c.passed ++ entry ∷ []) ≡ length c.passed + 1 = omega (arith, length-append c.passed (entry ∷ [])) in
        let among : Contains (c.chains bucket) entry = subst (λ (xs : List ℕ). Contains xs entry) (sym here) (contains_middle c.passed entry left) in
        let e = c.are.each bucket entry c.low among in
        let first : word_of entry 0 ≡ next_entry entry = omega arith in
        let read : IsRead s dir (next_entry entry) = subst (IsRead s dir) first
        (OfEntry entry 0 (record { bucket = bucket; is_bucket = c.low; entries = c.chains bucket; leads = c.are.leads bucket c.low; among = among }) e.place (omega arith) refl) in
        subst (CountsOne s dir most bucket names) same (record {
          some = omega (arith, c.counted, long, inside, c.are.few);
          next = record {
            low = c.low;
            chains = c.chains;
            are = c.are;
            passed = c.passed ++ entry ∷ [];
            left = left;
            here = here ∙ sym (append_assoc c.passed (entry ∷ []) left);
            behind = sym (link_behind_push (bucket_head dir bucket) c.passed entry);
            counted = omega (arith, c.counted, longer);
          };
          read = read;
          allowed = place_allowed s.pages entry e.place;
        })

-- where the word at hand is 0 all names of the bucket are counted
pub counts_end : (s : Scene) (dir most bucket names before : ℕ) → Counts s dir most bucket names before → s.at before ≡ 0 → CountsAll s dir most bucket names
counts_end s dir most bucket names before c is = by c.left c.here (on_chain s dir most bucket names before c)
  where
    by : (left : List ℕ) → c.chains bucket ≡ c.passed ++ left → Leads s.at (s.at before) left → CountsAll s dir most bucket names
    by [] here on =
        let long : length (c.chains bucket) ≡ length c.passed = omega (arith, ap length here, length-append c.passed []) in
        record { chains = c.chains; are = c.are; counted = omega (arith, c.counted, long, names_more c.chains bucket) }
    by (entry ∷ left) here on = absurd (on.1 (sym on.0 ∙ is))

-- what a step of a list gives

pub gives_load : (l : ListRun) (a : At) (s : Scene) (asked : Asked) (step : ListStep) → at_of l ≡ a → l.asked ≡ asked → step ≡ Load (asked_word a asked) → asked ≢ list.Nothing
    → IsRead s a.dir (asked_word a asked) → Counts s a.dir a.most a.bucket a.names (asked_word a asked) → ListGives l s step
gives_load l a s asked step at_is asked_is step_is ne read counts =
    let addr = asked_word a asked in
    let knows : ListKnowsAt asked (Word (s.at addr)) a s = known asked ne counts in
    let first : ListGives l s (Load addr) = (
      subst (λ (b : At). IsRead s b.dir addr) (sym at_is) read,
      subst (λ (b : At). ListKnowsAt l.asked (Word (s.at addr)) b s) (sym at_is) (subst (λ (q : Asked). ListKnowsAt q (Word (s.at addr)) a s) (sym asked_is) knows),
    ) in
    subst (ListGives l s) (sym step_is) first
  where
    known : (asked : Asked) → asked ≢ list.Nothing → Counts s a.dir a.most a.bucket a.names (asked_word a asked) → ListKnowsAt asked (Word (s.at (asked_word a asked))) a s
    known list.Nothing ne c = absurd (ne refl)
    known list.Head ne c = (c, refl)
    known (list.Next before entry) ne c = (c, refl)

pub knows_asked : (asked other : Asked) (a : At) (s : Scene) (first answer : Answer) → asked ≡ other → first ≡ answer → ListKnowsAt asked first a s → ListKnowsAt other answer a s
knows_asked asked other a s first answer is is' k = subst (λ (q : Asked). ListKnowsAt q answer a s) is (subst (λ (x : Answer). ListKnowsAt asked x a s) is' k)

-- what is known where a word was asked for and answered
pub knows_word : (asked : Asked) (a : At) (s : Scene) (word : ℕ) → asked ≢ list.Nothing → ListKnowsAt asked (Word word) a s
    → Counts s a.dir a.most a.bucket a.names (asked_word a asked) × (word ≡ s.at (asked_word a asked))
knows_word list.Nothing a s word ne k = absurd (ne refl)
knows_word list.Head a s word ne k = k
knows_word (list.Next before entry) a s word ne k = k

-- damage where a word was asked for and answered
abbrev pub BadAt : At → Asked → ℕ → ℕ → Type 0
BadAt a asked word addr = LeadsAstray (a.most - a.names) word × (addr ≡ asked_word a asked)

damage_of : (a : At) (asked : Asked) (word addr : ℕ) → asked ≢ list.Nothing → BadAt a asked word addr → IsListDamageAt asked (Word word) a addr
damage_of a list.Nothing word addr ne d = absurd (ne refl)
damage_of a list.Head word addr ne d = d
damage_of a (list.Next before entry) word addr ne d = d

of_damage : (a : At) (asked : Asked) (word addr : ℕ) → asked ≢ list.Nothing → IsListDamageAt asked (Word word) a addr → BadAt a asked word addr
of_damage a list.Nothing word addr ne d = absurd (ne refl)
of_damage a list.Head word addr ne d = d
of_damage a (list.Next before entry) word addr ne d = d

tells_same : (step : ListStep) (D E : ℕ → Type 0) → ((addr : ℕ) → D addr → E addr) → ((addr : ℕ) → E addr → D addr) → TellsListDamage step D → TellsListDamage step E
tells_same (Load addr) D E to from tells = λ a e. tells a (from a e)
tells_same (Counted names) D E to from tells = λ a e. tells a (from a e)
tells_same (Damaged addr) D E to from tells = to addr tells

pub tells_word : (step : ListStep) (a : At) (asked : Asked) (answer : Answer) (word : ℕ) → asked ≢ list.Nothing → answer ≡ Word word
    → TellsListDamage step (BadAt a asked word) → TellsListDamage step (IsListDamageAt asked answer a)
tells_word step a asked answer word ne is tells =
    subst (λ (x : Answer). TellsListDamage step (IsListDamageAt asked x a)) (sym is)
    (tells_same step (BadAt a asked word) (IsListDamageAt asked (Word word) a) (λ addr d. damage_of a asked word addr ne d) (λ addr d. of_damage a asked word addr ne d) tells)

-- all names are counted behind the last bucket
pub counts_all : (s : Scene) (dir most bucket names : ℕ) → CountsAll s dir most bucket names → bucket ≡ 255 → HasNames s.at dir names
counts_all s dir most bucket names c is = record {
  chains = c.chains;
  leads = c.are.leads;
  count = c.counted ∙ ap (λ (b : ℕ). names_below c.chains (suc b)) is;
}
