-- What a list of names knows of words that stay as they are, and what its steps give.
use Rattle.std.specs.Prelude.{◌≡◌, ℕ, zero, suc, ◌+◌, ◌-◌, ◌<◌, ◌≤◌, List, ◌++◌, length, Contains}
use Rattle.zo_layout.specs.Layout.{bucket_head, next_entry}
use Rattle.zo_model.specs.Directory.{Leads, IsEntry}
use Rattle.tr_types.specs.declared.action.Answer.{Answer}
use Rattle.tr_types.specs.declared.action.Answer.TheVariants as answer
use Rattle.zo_hash_dir.specs.Scene.{Scene, IsPageOf, IsRead}
use Rattle.zo_hash_dir.specs.Looking.{link_behind, LeadsAstray, LeadsTooFar}
use Rattle.zo_hash_dir.specs.declared.list.ListRun.{ListRun}
use Rattle.zo_hash_dir.specs.declared.list.Asked.{Asked}
use Rattle.zo_hash_dir.specs.declared.list.Asked.TheVariants as list
use Rattle.zo_hash_dir.specs.declared.list.ListStep.{ListStep}
use Rattle.zo_hash_dir.specs.declared.list.ListStep.TheVariants as list_step

-- how many entries the first buckets have
unfoldable pub names_below : (ℕ → List ℕ) → ℕ → ℕ
names_below chains zero = 0
names_below chains (suc bucket) = names_below chains bucket + length (chains bucket)

-- the directory's buckets lead to these entries, and there are so many names in all
pub record HasNames (at : ℕ → ℕ) (dir names : ℕ) : Type 0 where
  pub chains : ℕ → List ℕ
  pub leads : (bucket : ℕ) → bucket < 256 → Leads at (at (bucket_head dir bucket)) (chains bucket)
  pub count : names ≡ names_below chains 256

-- The buckets lead to these entries, each in its bucket, and at most so many.
pub record AreChains (s : Scene) (dir most : ℕ) (chains : ℕ → List ℕ) : Type 0 where
  pub leads : (bucket : ℕ) → bucket < 256 → Leads s.at (s.at (bucket_head dir bucket)) (chains bucket)
  pub each : (bucket entry : ℕ) → bucket < 256 → Contains (chains bucket) entry → IsEntry s.at (IsPageOf s.pages) bucket entry
  pub few : names_below chains 256 ≤ most

-- A count along a bucket: the word at `before` is the one behind the entries that were passed. These and the entries of
-- the earlier buckets are counted.
pub record Counts (s : Scene) (dir most bucket names before : ℕ) : Type 0 where
  pub low : bucket < 256
  pub chains : ℕ → List ℕ
  pub are : AreChains s dir most chains
  pub passed : List ℕ
  pub left : List ℕ
  pub here : chains bucket ≡ passed ++ left
  pub behind : before ≡ link_behind (bucket_head dir bucket) passed
  pub counted : names ≡ names_below chains bucket + length passed

-- all names of the bucket and of those before it are counted
pub record CountsAll (s : Scene) (dir most bucket names : ℕ) : Type 0 where
  pub chains : ℕ → List ℕ
  pub are : AreChains s dir most chains
  pub counted : names ≡ names_below chains (suc bucket)

-- what a list is at, and the address of the word that it asked for
pub record At : Type 0 where
  pub dir : ℕ
  pub bucket : ℕ
  pub names : ℕ
  pub most : ℕ

abbrev pub at_of : ListRun → At
at_of l = record { dir = l.dir.at; bucket = l.bucket; names = l.names; most = l.most }

abbrev pub asked_word : At → Asked → ℕ
asked_word a list.Nothing = bucket_head a.dir a.bucket
asked_word a list.Head = bucket_head a.dir a.bucket
asked_word a (list.Next before entry) = next_entry entry.at

-- what is known where this was asked for and this is the answer: the present word
abbrev pub ListKnowsAt : Asked → Answer → At → Scene → Type 0
ListKnowsAt list.Nothing answer a s = Counts s a.dir a.most a.bucket a.names (bucket_head a.dir a.bucket)
ListKnowsAt asked (answer.Word x) a s = Counts s a.dir a.most a.bucket a.names (asked_word a asked) × (x ≡ s.at (asked_word a asked))
ListKnowsAt asked answer a s = ⊥

abbrev pub ListKnows : ListRun → Answer → Scene → Type 0
ListKnows l answer s = ListKnowsAt l.asked answer (at_of l) s

-- A step of a list: it loads a word of the directory, after which it is known what is needed, or it has counted all names.
-- It finds no damage.
abbrev pub ListGives : ListRun → Scene → ListStep → Type 0
ListGives l s (list_step.Load addr) = IsRead s l.dir.at addr × ListKnows l (answer.Word (s.at addr)) s
ListGives l s (list_step.Counted names) = HasNames s.at l.dir.at names
ListGives l s (list_step.Damaged addr) = ⊥

-- Damage: a word that leads to no entry that may be visited; the word that led to one that isn't answered; and the directory,
-- where its own word isn't.
abbrev pub list_led_by : ℕ → Asked → ℕ
list_led_by dir (list.Next before entry) = before
list_led_by dir asked = dir

abbrev pub IsListDamageAt : Asked → Answer → At → ℕ → Type 0
IsListDamageAt list.Nothing answer a addr = ⊥
IsListDamageAt asked (answer.Word x) a addr = LeadsAstray (a.most - a.names) x × (addr ≡ asked_word a asked)
IsListDamageAt asked answer a addr = addr ≡ list_led_by a.dir asked

abbrev pub IsListDamage : ListRun → Answer → ℕ → Type 0
IsListDamage l answer addr = IsListDamageAt l.asked answer (at_of l) addr

abbrev pub TellsListDamage : ListStep → (ℕ → Type 0) → Type 0
TellsListDamage (list_step.Damaged addr) Damage = Damage addr
TellsListDamage step Damage = (addr : ℕ) → Damage addr → ⊥

-- how many words are loaded at most once this one is answered: one for each bucket, and one for each entry
abbrev pub first_load : Asked → ℕ
first_load list.Nothing = 1
first_load asked = 0

abbrev pub list_loads_left : ListRun → ℕ
list_loads_left l = first_load l.asked + (255 - l.bucket) + (l.most - l.names)

abbrev pub ListLoadsFewer : ListStep → ℕ → ListRun → Type 0
ListLoadsFewer (list_step.Load addr) before l = list_loads_left l < before
ListLoadsFewer step before l = Unit {0}

abbrev pub ListWantsMore : ListRun → Answer → Type 0
ListWantsMore l given = LeadsTooFar (l.most - l.names) given
