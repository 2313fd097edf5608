-- The commit of a link: the store of an entry's address into its bucket's word, where the entry's own words stand.
use Rattle.std.proofs.Common.{◌≡◌, ◌≢◌, ◌⊎◌, inl, inr, ℕ, ◌+◌, ◌/◌, ◌<◌, ◌≤◌, Bool, true, false, cond, List, [], ◌∷◌, map, Contains, Option, Some, None, refl, sym, subst, ap, ap₂, ◌∙◌, arith}
use Rattle.std.proofs.lemmas.Bool.{cases_lt, cases_eq}
use Rattle.std.proofs.lemmas.Option.{none-some}
use Rattle.std.specs.Cmp.Lexicographic.{bytes_decides}
use Rattle.std.specs.List.{IsDistinct, AllByRecursion}
use Rattle.std.proofs.lemmas.Map.Keys.{IsDistinct-cons}
use Rattle.zo_layout.specs.Layout.{page_at, bucket_head, bucket_of, entry_target, first_free_entry, next_entry}
use Rattle.tr_types.specs.Paths.{same_text}
use Rattle.zo_model.specs.Commands.{IsName}
use Rattle.zo_model.specs.Directory.{name_at, IsPlace, Leads, target_in, IsEntry, IsBucket, Shows, IsReached, HasFree}
use Rattle.zo_model.specs.Steps.{put as put_at}
use Rattle.zo_laws.specs.Linking.{with_name}
use Rattle.zo_laws.proofs.Members.{contains_cases}
use Rattle.zo_laws.proofs.StoreLemmas.{put_here, put_other}
use Rattle.zo_laws.proofs.FrameLemmas.{SameEntry, bucket_same, name_same, names_same, target_same, entry_short, place_aligned, leads_unique, leads_same}
use Rattle.zo_laws.proofs.PairLemmas.{HasEntry}

-- no entry of a bucket has a name that it doesn't show
unlike : (name other : List ℕ) (r : Bool) → same_text name other ≡ r → same_text other name ≡ false → r ≡ false
unlike name other false is ne = refl
unlike name other true is ne =
    let same : name ≡ other = (bytes_decides name other).0 is in
    let again : same_text other name ≡ true = (bytes_decides other name).1 (sym same) in
    cc

pub none_named : (at : ℕ → ℕ) (name : List ℕ) (entries : List ℕ) → target_in at name entries ≡ None → AllByRecursion (λ n. same_text name n ≡ false) (map (name_at at) entries)
none_named at name [] none = tt
none_named at name (entry ∷ entries) none = by (same_text (name_at at entry) name) refl none (none_named at name entries)
  where
    by : (b : Bool) → same_text (name_at at entry) name ≡ b → cond b (Some (at (entry_target entry))) (target_in at name entries) ≡ None
        → (target_in at name entries ≡ None → AllByRecursion (λ n. same_text name n ≡ false) (map (name_at at) entries))
        → AllByRecursion (λ n. same_text name n ≡ false) (map (name_at at) (entry ∷ entries))
    by true is e later = absurd (none-some (at (entry_target entry)) (sym e))
    by false is e later = (unlike name (name_at at entry) (same_text name (name_at at entry)) refl is, later e)

-- the words of an entry of another page aren't the directory's
pub off_dir : (EntryPage : ℕ → Type 0) (d e a : ℕ) → (EntryPage d → ⊥) → IsPlace EntryPage e → e ≤ a → a < e + 320 → (a < page_at d) ⊎ (page_at d + 4096 ≤ a)
off_dir EntryPage d e a not_entries p low high = by (cases_lt p.page d) (cases_eq p.page d)
  where
    by : (p.page < d) ⊎ (d ≤ p.page) → (p.page ≡ d) ⊎ (p.page ≢ d) → (a < page_at d) ⊎ (page_at d + 4096 ≤ a)
    by _ (inl same) = absurd (not_entries (subst EntryPage same p.entries))
    by (inl below) (inr other) = inl (let is = p.is in let twelve = p.twelve in omega arith)
    by (inr above) (inr other) = inr (let is = p.is in let twelve = p.twelve in omega arith)

-- What is known when a link is prepared: the entry's words stand, and no chain reaches it.
pub record IsReady (at : ℕ → ℕ) (EntryPage : ℕ → Type 0) (d : ℕ) (want : List ℕ → Option ℕ) (name : List ℕ) (entry target : ℕ) : Type 0 where
  pub not_entries : EntryPage d → ⊥
  pub shows : Shows at EntryPage (page_at d) want
  pub is_name : IsName name
  pub missing : want name ≡ None
  pub place : IsPlace EntryPage entry
  pub unreached : IsReached at (page_at d) entry → ⊥
  pub has : HasEntry at entry (at (bucket_head (page_at d) (bucket_of name))) target name

-- the words after the commit
unfoldable pub committed : (ℕ → ℕ) → ℕ → List ℕ → ℕ → ℕ → ℕ
committed at d name entry = put_at at (bucket_head (page_at d) (bucket_of name)) entry

bucket_low : (name : List ℕ) → bucket_of name < 256
bucket_low name = omega arith

-- an entry's words stay
pub entry_stays : (at : ℕ → ℕ) (EntryPage : ℕ → Type 0) (d : ℕ) (name : List ℕ) (entry e : ℕ) → (EntryPage d → ⊥) → IsPlace EntryPage e → SameEntry at (committed at d name entry) e
unfolding committed
entry_stays at EntryPage d name entry e not_entries place a at_8 low high =
    put_other at (bucket_head (page_at d) (bucket_of name)) entry a (other (bucket_of name) (bucket_low name) (off_dir EntryPage d e a not_entries place low high))
  where
    other : (b : ℕ) → b < 256 → (a < page_at d) ⊎ (page_at d + 4096 ≤ a) → a / 8 ≢ bucket_head (page_at d) b / 8
    other b low (inl before) = λ same. omega arith
    other b low (inr behind) = λ same. omega arith

head_stays : (at : ℕ → ℕ) (d : ℕ) (name : List ℕ) (entry b : ℕ) → b ≢ bucket_of name → committed at d name entry (bucket_head (page_at d) b) ≡ at (bucket_head (page_at d) b)
unfolding committed
head_stays at d name entry b other = put_other at (bucket_head (page_at d) (bucket_of name)) entry (bucket_head (page_at d) b) (apart (bucket_of name) other)
  where
    apart : (c : ℕ) → b ≢ c → bucket_head (page_at d) b / 8 ≢ bucket_head (page_at d) c / 8
    apart c ne = λ same. ne (omega arith)

head_leads : (at : ℕ → ℕ) (d : ℕ) (name : List ℕ) (entry : ℕ) → committed at d name entry (bucket_head (page_at d) (bucket_of name)) ≡ entry
unfolding committed
head_leads at d name entry = put_here at (bucket_head (page_at d) (bucket_of name)) entry (bucket_head (page_at d) (bucket_of name)) refl

-- the entry keeps what it has
pub has_still : (at : ℕ → ℕ) (EntryPage : ℕ → Type 0) (d : ℕ) (want : List ℕ → Option ℕ) (name : List ℕ) (entry target : ℕ) → (r : IsReady at EntryPage d want name entry target)
    → HasEntry (committed at d name entry) entry (at (bucket_head (page_at d) (bucket_of name))) target name
has_still at EntryPage d want name entry target r =
    let stays = entry_stays at EntryPage d name entry entry r.not_entries r.place in
    let aligned = place_aligned EntryPage entry r.place in
    record {
      leads = stays (next_entry entry) aligned (omega arith) (omega arith) ∙ r.has.leads;
      aims = stays (entry_target entry) (omega arith) (omega arith) (omega arith) ∙ r.has.aims;
      named = name_same at (committed at d name entry) entry aligned (entry_short at entry (subst IsName (sym r.has.named) r.is_name)) stays ∙ r.has.named;
    }

place_some : (EntryPage : ℕ → Type 0) (e : ℕ) → IsPlace EntryPage e → e ≢ 0
place_some EntryPage e p = λ zero. (let is = p.is in omega arith)

-- the chain of the name's bucket after the commit
chain_here : (at : ℕ → ℕ) (EntryPage : ℕ → Type 0) (d : ℕ) (want : List ℕ → Option ℕ) (name : List ℕ) (entry target : ℕ) → (r : IsReady at EntryPage d want name entry target)
    → Leads (committed at d name entry) (committed at d name entry (bucket_head (page_at d) (bucket_of name))) (entry ∷ (r.shows (bucket_of name) (bucket_low name)).entries)
chain_here at EntryPage d want name entry target r =
    let new = committed at d name entry in
    let was = r.shows (bucket_of name) (bucket_low name) in
    let has = has_still at EntryPage d want name entry target r in (
      head_leads at d name entry,
      place_some EntryPage entry r.place,
      subst (λ (w : ℕ). Leads new w was.entries) (sym has.leads)
          (leads_same at new (at (bucket_head (page_at d) (bucket_of name))) was.entries
          (λ e among. let place = (was.each e among).place in entry_stays at EntryPage d name entry e r.not_entries place (next_entry e) (place_aligned EntryPage e place) (omega arith) (omega arith)) was.leads),
    )

-- another bucket after the commit, as it was
bucket_other : (at : ℕ → ℕ) (EntryPage : ℕ → Type 0) (d : ℕ) (want : List ℕ → Option ℕ) (name : List ℕ) (entry target b : ℕ) → (r : IsReady at EntryPage d want name entry target) → (low : b < 256) → b ≢ bucket_of name
    → IsBucket (committed at d name entry) EntryPage (page_at d) want b
bucket_other at EntryPage d want name entry target b r low other =
    let was = r.shows b low in
    bucket_same at (committed at d name entry) EntryPage EntryPage (page_at d) want b (λ page p. p) (head_stays at d name entry b other) was
    (λ e among. entry_stays at EntryPage d name entry e r.not_entries (was.each e among).place)

want_other : (want : List ℕ → Option ℕ) (name other : List ℕ) (target b : ℕ) → b ≢ bucket_of name → bucket_of other ≡ b → with_name want name target other ≡ want other
want_other want name other target b ne in_bucket = by (same_text name other) refl
  where
    by : (r : Bool) → same_text name other ≡ r → cond r (Some target) (want other) ≡ want other
    by true is = absurd (ne (sym in_bucket ∙ ap bucket_of (sym ((bytes_decides name other).0 is))))
    by false is = refl

-- an entry's record after the commit
each_still : (at : ℕ → ℕ) (EntryPage : ℕ → Type 0) (d : ℕ) (name : List ℕ) (entry b e : ℕ) → (EntryPage d → ⊥) → IsEntry at EntryPage b e → IsEntry (committed at d name entry) EntryPage b e
each_still at EntryPage d name entry b e not_entries is =
    let named = name_same at (committed at d name entry) e (place_aligned EntryPage e is.place) (entry_short at e is.name) (entry_stays at EntryPage d name entry e not_entries is.place) in
    record { place = is.place; name = subst IsName (sym named) is.name; in_bucket = ap bucket_of named ∙ is.in_bucket }

-- the name's bucket after the commit
bucket_here : (at : ℕ → ℕ) (EntryPage : ℕ → Type 0) (d : ℕ) (want : List ℕ → Option ℕ) (name : List ℕ) (entry target : ℕ) → (r : IsReady at EntryPage d want name entry target)
    → IsBucket (committed at d name entry) EntryPage (page_at d) (with_name want name target) (bucket_of name)
bucket_here at EntryPage d want name entry target r =
    let new = committed at d name entry in
    let b = bucket_of name in
    let was = r.shows b (bucket_low name) in
    let has = has_still at EntryPage d want name entry target r in
    let stays = λ (e : ℕ) (among : Contains was.entries e). entry_stays at EntryPage d name entry e r.not_entries (was.each e among).place in
    let aligned = λ (e : ℕ) (among : Contains was.entries e). place_aligned EntryPage e (was.each e among).place in
    let names = λ (e : ℕ) (among : Contains was.entries e). name_same at new e (aligned e among) (entry_short at e (was.each e among).name) (stays e among) in
    let lists = names_same at new was.entries names in
    let none : target_in at name was.entries ≡ None = was.names name refl ∙ r.missing in
    let others : AllByRecursion (λ n. same_text name n ≡ false) (map (name_at at) was.entries) = none_named at name was.entries none in
    record {
      entries = entry ∷ was.entries;
      leads = chain_here at EntryPage d want name entry target r;
      each = λ e among. elim (contains_cases entry was.entries e among) [
        | inl same ↦ subst (IsEntry new EntryPage b) same (record { place = r.place; name = subst IsName (sym has.named) r.is_name; in_bucket = ap bucket_of has.named })
        | inr rest ↦ each_still at EntryPage d name entry b e r.not_entries (was.each e rest)
      ];
      once = IsDistinct-cons same_text (name_at new entry) (map (name_at new) was.entries)
          (subst (λ (n : List ℕ). AllByRecursion (λ m. same_text n m ≡ false) (map (name_at new) was.entries)) (sym has.named)
          (subst (AllByRecursion (λ m. same_text name m ≡ false)) (sym lists) others))
          (subst (IsDistinct same_text) (sym lists) was.once);
      names = λ other in_bucket.
          ap₂ (λ (n : List ℕ) (t : ℕ). cond (same_text n other) (Some t) (target_in new other was.entries)) has.named has.aims
          ∙ ap (λ (rest : Option ℕ). cond (same_text name other) (Some target) rest)
          (target_same at new other was.entries names (λ e among. let at_8 = aligned e among in stays e among (entry_target e) (omega arith) (omega arith) (omega arith)) ∙ was.names other in_bucket);
    }

-- after the commit the directory shows the name too
pub shows_linked : (at : ℕ → ℕ) (EntryPage : ℕ → Type 0) (d : ℕ) (want : List ℕ → Option ℕ) (name : List ℕ) (entry target : ℕ) → IsReady at EntryPage d want name entry target
    → Shows (committed at d name entry) EntryPage (page_at d) (with_name want name target)
shows_linked at EntryPage d want name entry target r b low = by (cases_eq b (bucket_of name))
  where
    by : (b ≡ bucket_of name) ⊎ (b ≢ bucket_of name) → IsBucket (committed at d name entry) EntryPage (page_at d) (with_name want name target) b
    by (inl same) = subst (IsBucket (committed at d name entry) EntryPage (page_at d) (with_name want name target)) (sym same) (bucket_here at EntryPage d want name entry target r)
    by (inr other) =
        let is = bucket_other at EntryPage d want name entry target b r low other in
        record {
          entries = is.entries;
          leads = is.leads;
          each = is.each;
          once = is.once;
          names = λ n in_bucket. is.names n in_bucket ∙ sym (want_other want name n target b other in_bucket);
        }

-- what is reached after the commit is the entry, or was reached
pub reached_linked : (at : ℕ → ℕ) (EntryPage : ℕ → Type 0) (d : ℕ) (want : List ℕ → Option ℕ) (name : List ℕ) (entry target e : ℕ) → IsReady at EntryPage d want name entry target
    → IsReached (committed at d name entry) (page_at d) e → (entry ≡ e) ⊎ IsReached at (page_at d) e
unfolding bucket_other bucket_same
reached_linked at EntryPage d want name entry target e r now = by (cases_eq now.bucket (bucket_of name))
  where
    new : ℕ → ℕ
    new = committed at d name entry

    by : (now.bucket ≡ bucket_of name) ⊎ (now.bucket ≢ bucket_of name) → (entry ≡ e) ⊎ IsReached at (page_at d) e
    by (inl same) =
        let was = r.shows (bucket_of name) (bucket_low name) in
        let leads = subst (λ (b : ℕ). Leads (committed at d name entry) (committed at d name entry (bucket_head (page_at d) b)) now.entries) same now.leads in
        let one = leads_unique (committed at d name entry) (committed at d name entry (bucket_head (page_at d) (bucket_of name))) now.entries (entry ∷ was.entries) leads (chain_here at EntryPage d want name entry target r) in
        elim (contains_cases entry was.entries e (subst (λ (es : List ℕ). Contains es e) one now.among)) [
          | inl is ↦ inl is
          | inr rest ↦ inr (record { bucket = bucket_of name; is_bucket = bucket_low name; entries = was.entries; leads = was.leads; among = rest })
        ]
    by (inr other) =
        let was = r.shows now.bucket now.is_bucket in
        let is = bucket_other at EntryPage d want name entry target now.bucket r now.is_bucket other in
        let one = leads_unique (committed at d name entry) (committed at d name entry (bucket_head (page_at d) now.bucket)) now.entries was.entries now.leads is.leads in
        inr (record { bucket = now.bucket; is_bucket = now.is_bucket; entries = was.entries; leads = was.leads; among = subst (λ (es : List ℕ). Contains es e) one now.among })

first_stays : (at : ℕ → ℕ) (d : ℕ) (name : List ℕ) (entry : ℕ) → committed at d name entry (first_free_entry (page_at d)) ≡ at (first_free_entry (page_at d))
unfolding committed
first_stays at d name entry = put_other at (bucket_head (page_at d) (bucket_of name)) entry (first_free_entry (page_at d)) (apart (bucket_of name))
  where
    apart : (c : ℕ) → first_free_entry (page_at d) / 8 ≢ bucket_head (page_at d) c / 8
    apart c = λ same. omega arith

-- the free entries stay, where the entry isn't one of them
pub free_linked : (at : ℕ → ℕ) (EntryPage : ℕ → Type 0) (d : ℕ) (want : List ℕ → Option ℕ) (name : List ℕ) (entry target : ℕ) (frees : List ℕ) → IsReady at EntryPage d want name entry target
    → (Contains frees entry → ⊥) → HasFree at EntryPage (page_at d) frees → HasFree (committed at d name entry) EntryPage (page_at d) frees
free_linked at EntryPage d want name entry target frees r taken has =
    let new = committed at d name entry in
    record {
      leads = subst (λ (w : ℕ). Leads new w frees) (sym (first_stays at d name entry))
          (leads_same at new (at (first_free_entry (page_at d))) frees (λ e among. let place = (has.each e among).place in entry_stays at EntryPage d name entry e r.not_entries place (next_entry e) (place_aligned EntryPage e place) (omega arith) (omega arith)) has.leads);
      each = λ e among. record {
        place = (has.each e among).place;
        unreached = λ now. elim (reached_linked at EntryPage d want name entry target e r now) [
          | inl same ↦ taken (subst (Contains frees) (sym same) among)
          | inr was ↦ (has.each e among).unreached was
        ];
      };
    }
