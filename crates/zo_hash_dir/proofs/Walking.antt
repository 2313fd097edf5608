-- A walk along the bucket of a name, step by step.
use Rattle.std.proofs.Common.{◌≡◌, ◌≢◌, ℕ, ◌+◌, ◌*◌, ◌<◌, ◌≤◌, List, [], ◌∷◌, ◌++◌, length, Contains, sym, refl, subst, ◌∙◌, arith}
use Rattle.std.specs.Prelude.{Some}
use Rattle.zo_layout.specs.Layout.{word_of, bucket_head, bucket_of, entry_target, next_entry}
use Rattle.zo_model.specs.Directory.{Leads, IsPlace, IsEntry, name_at, target_in}
use Rattle.zo_hash_dir.specs.Addresses.{IsEntryAddress}
use Rattle.zo_hash_dir.specs.Scene.{Scene, IsPageOf, IsShown, IsRead, OfDirectory, OfEntry}
use Rattle.zo_hash_dir.specs.Looking.{bucket_at, Walks, Visits, IsEnd}
use Rattle.zo_hash_dir.proofs.Members.{contains_here, contains_there}
use Rattle.zo_hash_dir.proofs.Names.{target_here, target_behind}
use Rattle.zo_hash_dir.proofs.Chains.{leads_behind, link_behind_push, leads_push, leads_none}
use Rattle.zo_hash_dir.proofs.Few.{distinct_by_name, entries_few}

-- a place of the coffer is an address that the layout allows
pub place_allowed : (pages : List ℕ) (entry : ℕ) → IsPlace (IsPageOf pages) entry → IsEntryAddress entry
place_allowed pages entry p = record { page = p.page; place = p.place; is = p.is; twelve = p.twelve; entries = p.entries.near }

-- the walk begins at the bucket's first word
pub walks_first : (s : Scene) (dir pages : ℕ) (name : List ℕ) → IsShown s dir pages → Walks s dir name (12 * pages) (bucket_at dir name)
walks_first s dir pages name shown =
    let low : bucket_of name < 256 = omega arith in
    let b = shown.shows (bucket_of name) low in
    let most = entries_few s.pages b.entries (λ entry h. (b.each entry h).place) (distinct_by_name (name_at s.at) b.entries b.once) in
    record {
      passed = [];
      left = b.entries;
      leads = b.leads;
      behind = refl;
      each = b.each;
      few = omega (arith, most, shown.few);
      target = b.names name refl;
    }

-- The word at hand leads to an entry, if it isn't 0, and another entry may be visited.
pub record ComesTo (s : Scene) (dir : ℕ) (name : List ℕ) (visits before entry : ℕ) : Type 0 where
  pub some : 0 < visits
  pub visit : (rest : ℕ) → visits ≡ rest + 1 → Visits s dir name rest before entry

pub walks_on : (s : Scene) (dir : ℕ) (name : List ℕ) (visits before word : ℕ) → Walks s dir name visits before → word ≡ s.at before → word ≢ 0 → ComesTo s dir name visits before word
walks_on s dir name visits before word w is some =
    by w.left w.leads (subst (λ (link : ℕ). Leads s.at (s.at link) w.left) (sym w.behind) (leads_behind s.at (bucket_at dir name) w.passed w.left w.leads)) w.each w.few w.target
  where
    by : (left : List ℕ) → Leads s.at (s.at (bucket_at dir name)) (w.passed ++ left) → Leads s.at (s.at before) left
        → ((entry : ℕ) → Contains left entry → IsEntry s.at (IsPageOf s.pages) (bucket_of name) entry) → length left ≤ visits
        → target_in s.at name left ≡ s.want name → ComesTo s dir name visits before word
    by [] leads on each few target = absurd (some (is ∙ on))
    by (entry ∷ left) leads on each few target =
        let here : entry ≡ word = sym (is ∙ on.0) in
        record {
          some = omega (arith, few);
          visit = λ rest more. subst (Visits s dir name rest before) here (record {
            passed = w.passed;
            left = left;
            leads = leads;
            behind = w.behind;
            here = each entry (contains_here entry left);
            each = λ other h. each other (contains_there entry left other h);
            few = omega (arith, few, more);
            target = target;
          });
        }

-- the word at hand is 0: the name doesn't stand
pub walks_end : (s : Scene) (dir : ℕ) (name : List ℕ) (visits before : ℕ) → Walks s dir name visits before → s.at before ≡ 0 → IsEnd s dir name (s.at (bucket_at dir name)) before
walks_end s dir name visits before w is =
    by w.left w.leads (subst (λ (link : ℕ). Leads s.at (s.at link) w.left) (sym w.behind) (leads_behind s.at (bucket_at dir name) w.passed w.left w.leads)) w.target
  where
    by : (left : List ℕ) → Leads s.at (s.at (bucket_at dir name)) (w.passed ++ left) → Leads s.at (s.at before) left → target_in s.at name left ≡ s.want name
        → IsEnd s dir name (s.at (bucket_at dir name)) before
    by [] leads on target = record {
      begins = refl;
      passed = w.passed;
      leads = leads_none s.at (s.at (bucket_at dir name)) w.passed leads;
      behind = w.behind;
      wanted = sym target;
    }
    by (entry ∷ left) leads on target = absurd (on.1 (sym on.0 ∙ is))

-- behind an entry of another name the walk goes on
pub visits_pass : (s : Scene) (dir : ℕ) (name : List ℕ) (visits before entry : ℕ) → Visits s dir name visits before entry → name_at s.at entry ≢ name → Walks s dir name visits (next_entry entry)
visits_pass s dir name visits before entry v other = record {
  passed = v.passed ++ entry ∷ [];
  left = v.left;
  leads = leads_push s.at (s.at (bucket_at dir name)) v.passed entry v.left v.leads;
  behind = sym (link_behind_push (bucket_at dir name) v.passed entry);
  each = v.each;
  few = v.few;
  target = sym (target_behind s.at name entry v.left other) ∙ v.target;
}

-- an entry of the name has the target that is wanted
pub visits_found : (s : Scene) (dir : ℕ) (name : List ℕ) (visits before entry : ℕ) → Visits s dir name visits before entry → name_at s.at entry ≡ name → s.want name ≡ Some (s.at (entry_target entry))
visits_found s dir name visits before entry v named = sym v.target ∙ target_here s.at name entry v.left named

pub contains_middle : (passed : List ℕ) (entry : ℕ) (left : List ℕ) → Contains (passed ++ entry ∷ left) entry
contains_middle [] entry left = contains_here entry left
contains_middle (other ∷ passed) entry left = contains_there other (passed ++ entry ∷ left) entry (contains_middle passed entry left)

-- the words that are loaded
pub head_read : (s : Scene) (dir bucket : ℕ) → bucket < 256 → IsRead s dir (bucket_head dir bucket)
head_read s dir bucket low = OfDirectory (256 + bucket) (omega arith) refl

pub entry_read : (s : Scene) (dir : ℕ) (name : List ℕ) (visits before entry i : ℕ) → Visits s dir name visits before entry → i < 40 → IsRead s dir (word_of entry i)
entry_read s dir name visits before entry i v low =
    OfEntry entry i
    (record {
      bucket = bucket_of name;
      is_bucket = omega arith;
      entries = v.passed ++ entry ∷ v.left;
      leads = v.leads;
      among = contains_middle v.passed entry v.left;
    })
    v.here.place low refl
