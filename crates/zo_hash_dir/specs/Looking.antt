-- What a look-up of a name knows of words that stay as they are, and what its steps give.
use Rattle.std.specs.Prelude.{◌≡◌, ◌≢◌, ◌⊎◌, ℕ, ◌+◌, ◌-◌, ◌*◌, ◌/◌, ◌<◌, ◌≤◌, List, [], ◌∷◌, ◌++◌, length, slice_index, Contains, Some, None}
use Rattle.zo_layout.specs.Layout.{bucket_head, bucket_of, entry_target, first_entry_page, first_free_entry, name_length, name_word, next_entry}
use Rattle.zo_model.specs.Directory.{Leads, IsEntry, byte_at, name_at, target_in}
use Rattle.tr_types.specs.declared.action.Answer.{Answer}
use Rattle.tr_types.specs.declared.action.Answer.TheVariants as answer
use Rattle.zo_plan.specs.declared.place.Place.{Place}
use Rattle.zo_hash_dir.specs.Addresses.{IsEntryAddress, IsPageAddress, IsTarget}
use Rattle.zo_hash_dir.specs.Scene.{Scene, IsPageOf, IsNoneOr, CanMake, IsRead}
use Rattle.zo_hash_dir.specs.declared.lookup.Lookup.{Lookup}
use Rattle.zo_hash_dir.specs.declared.lookup.Asked.{Asked}
use Rattle.zo_hash_dir.specs.declared.lookup.Asked.TheVariants as look
use Rattle.zo_hash_dir.specs.declared.lookup.Purpose.{Purpose}
use Rattle.zo_hash_dir.specs.declared.lookup.Purpose.TheVariants as purpose
use Rattle.zo_hash_dir.specs.declared.lookup.Visit.{Visit}
use Rattle.zo_hash_dir.specs.declared.lookup.End.{End}
use Rattle.zo_hash_dir.specs.declared.lookup.LookStep.{LookStep}
use Rattle.zo_hash_dir.specs.declared.lookup.LookStep.TheVariants as look_step

-- What a look-up is for: the directory's address, the name, whether an entry is to be made, and how many entries it may
-- still visit.
pub record Aim : Type 0 where
  pub dir : ℕ
  pub name : List ℕ
  pub purpose : Purpose
  pub visits : ℕ

abbrev pub aim_of : Lookup → Aim
aim_of l = record { dir = l.dir.at; name = l.name; purpose = l.purpose; visits = l.left }

-- the address of the first word of a name's bucket
abbrev pub bucket_at : ℕ → List ℕ → ℕ
bucket_at dir name = bucket_head dir (bucket_of name)

-- the address of the word behind these entries of a bucket: of the bucket's own, or of the first word of the last entry
abbrev pub link_behind : ℕ → List ℕ → ℕ
link_behind link [] = link
link_behind link (entry ∷ entries) = link_behind (next_entry entry) entries

-- A walk along the bucket of a name: the word at `before` is the one behind the entries that were passed. It leads to
-- those that are left, at most as many as may still be visited, and the target of the name among these is the one wanted.
pub record Walks (s : Scene) (dir : ℕ) (name : List ℕ) (visits before : ℕ) : Type 0 where
  pub passed : List ℕ
  pub left : List ℕ
  pub leads : Leads s.at (s.at (bucket_at dir name)) (passed ++ left)
  pub behind : before ≡ link_behind (bucket_at dir name) passed
  pub each : (entry : ℕ) → Contains left entry → IsEntry s.at (IsPageOf s.pages) (bucket_of name) entry
  pub few : length left ≤ visits
  pub target : target_in s.at name left ≡ s.want name

-- the walk has come to this entry, to which the word at `before` leads
pub record Visits (s : Scene) (dir : ℕ) (name : List ℕ) (visits before entry : ℕ) : Type 0 where
  pub passed : List ℕ
  pub left : List ℕ
  pub leads : Leads s.at (s.at (bucket_at dir name)) (passed ++ entry ∷ left)
  pub behind : before ≡ link_behind (bucket_at dir name) passed
  pub here : IsEntry s.at (IsPageOf s.pages) (bucket_of name) entry
  pub each : (other : ℕ) → Contains left other → IsEntry s.at (IsPageOf s.pages) (bucket_of name) other
  pub few : length left ≤ visits
  pub target : target_in s.at name (entry ∷ left) ≡ s.want name

-- the entry's name is as long as this one, and its first letters are this one's
pub record Agrees (at : ℕ → ℕ) (name : List ℕ) (entry count : ℕ) : Type 0 where
  pub len : at (name_length entry) ≡ length name
  pub letters : (k : ℕ) → k < count → k < length name → slice_index name k ≡ byte_at at (name_word entry 0) k

-- The place of a name that stands, with its target.
pub record IsFoundAt (s : Scene) (dir : ℕ) (name : List ℕ) (place : Place) (target : ℕ) : Type 0 where
  pub bucket : place.bucket ≡ bucket_at dir name
  pub head : place.head ≡ s.at place.bucket
  pub passed : List ℕ
  pub left : List ℕ
  pub leads : Leads s.at place.head (passed ++ place.entry ∷ left)
  pub behind : place.before ≡ link_behind place.bucket passed
  pub named : name_at s.at place.entry ≡ name
  pub targets : target ≡ s.at (entry_target place.entry)
  pub wanted : s.want name ≡ Some target

-- the end of a name's bucket, where the name doesn't stand
pub record IsEnd (s : Scene) (dir : ℕ) (name : List ℕ) (head before : ℕ) : Type 0 where
  pub begins : head ≡ s.at (bucket_at dir name)
  pub passed : List ℕ
  pub leads : Leads s.at head passed
  pub behind : before ≡ link_behind (bucket_at dir name) passed
  pub wanted : s.want name ≡ None

-- where an entry of the name is to be made the place has the directory's words, else they are 0
abbrev pub HasWords : Purpose → (ℕ → ℕ) → ℕ → Place → Type 0
HasWords purpose.Reading at dir place = (place.free ≡ 0) × (place.free_next ≡ 0) × (place.first ≡ 0)
HasWords purpose.Making at dir place =
    (place.free ≡ at (first_free_entry dir))
    × (place.free ≢ 0 → (place.free_next ≡ at (next_entry place.free)) × (place.first ≡ 0))
    × (place.free ≡ 0 → (place.free_next ≡ 0) × (place.first ≡ at (first_entry_page dir)))

-- The place of a name that doesn't stand.
pub record IsMissingAt (s : Scene) (dir : ℕ) (name : List ℕ) (purpose : Purpose) (place : Place) : Type 0 where
  pub bucket : place.bucket ≡ bucket_at dir name
  pub entry : place.entry ≡ 0
  pub end : IsEnd s dir name place.head place.before
  pub words : HasWords purpose s.at dir place

-- what a look-up knows of the visit and of the end that it carries
pub record KnowsVisit (a : Aim) (s : Scene) (v : Visit) : Type 0 where
  pub head : v.head ≡ s.at (bucket_at a.dir a.name)
  pub visits : Visits s a.dir a.name a.visits v.before v.entry.at

abbrev pub KnowsEnd : Aim → Scene → End → Type 0
KnowsEnd a s e = IsEnd s a.dir a.name e.head e.before

-- what is known where this was asked for and this is the answer: the present word
abbrev pub KnowsAt : Asked → Answer → Aim → Scene → Type 0
KnowsAt look.Nothing answer a s = Walks s a.dir a.name a.visits (bucket_at a.dir a.name)
KnowsAt look.Head (answer.Word x) a s = Walks s a.dir a.name a.visits (bucket_at a.dir a.name) × (x ≡ s.at (bucket_at a.dir a.name))
KnowsAt (look.Length v) (answer.Word x) a s = KnowsVisit a s v × (x ≡ s.at (name_length v.entry.at))
KnowsAt (look.Letters v i) (answer.Word x) a s =
    KnowsVisit a s v × Agrees s.at a.name v.entry.at (8 * i) × (8 * i < length a.name) × (x ≡ s.at (name_word v.entry.at i))
KnowsAt (look.Target v) (answer.Word x) a s = KnowsVisit a s v × (name_at s.at v.entry.at ≡ a.name) × (x ≡ s.at (entry_target v.entry.at))
KnowsAt (look.Next v) (answer.Word x) a s = KnowsVisit a s v × (name_at s.at v.entry.at ≢ a.name) × (x ≡ s.at (next_entry v.entry.at))
KnowsAt (look.Free e) (answer.Word x) a s = KnowsEnd a s e × (a.purpose ≡ purpose.Making) × (x ≡ s.at (first_free_entry a.dir))
KnowsAt (look.FreeNext e free) (answer.Word x) a s =
    KnowsEnd a s e × (a.purpose ≡ purpose.Making) × (free.at ≡ s.at (first_free_entry a.dir)) × (x ≡ s.at (next_entry free.at))
KnowsAt (look.First e) (answer.Word x) a s =
    KnowsEnd a s e × (a.purpose ≡ purpose.Making) × (s.at (first_free_entry a.dir) ≡ 0) × (x ≡ s.at (first_entry_page a.dir))
KnowsAt asked answer a s = ⊥

-- what holds of the directory as long as the look-up runs: the target that is wanted is one, and an entry can be made
pub record Stands (a : Aim) (s : Scene) : Type 0 where
  pub target : (target : ℕ) → s.want a.name ≡ Some target → IsTarget target
  pub make : a.purpose ≡ purpose.Making → CanMake s a.dir

pub record Knows (l : Lookup) (answer : Answer) (s : Scene) : Type 0 where
  pub stands : Stands (aim_of l) s
  pub at : KnowsAt l.asked answer (aim_of l) s

-- A step of a look-up: it loads a word of the directory, after which it is known what is needed, or it has the answer. It
-- finds no damage.
abbrev pub GivesFor : Lookup → Aim → Scene → LookStep → Type 0
GivesFor l a s (look_step.Load addr) = IsRead s a.dir addr × Knows l (answer.Word (s.at addr)) s
GivesFor l a s (look_step.Found place target) = IsFoundAt s a.dir a.name place target × HasWords purpose.Reading s.at a.dir place
GivesFor l a s (look_step.Missing place) = IsMissingAt s a.dir a.name a.purpose place
GivesFor l a s (look_step.Damaged addr) = ⊥

abbrev pub Gives : Lookup → Scene → LookStep → Type 0
Gives l s step = GivesFor l (aim_of l) s step

-- what a step leaves as it is
pub record Keeps (old new : Lookup) : Type 0 where
  pub dir : new.dir ≡ old.dir
  pub name : new.name ≡ old.name
  pub purpose : new.purpose ≡ old.purpose

-- the address of the word that was asked for
abbrev pub asked_word : ℕ → List ℕ → Asked → ℕ
asked_word dir name look.Nothing = bucket_at dir name
asked_word dir name look.Head = bucket_at dir name
asked_word dir name (look.Length v) = name_length v.entry.at
asked_word dir name (look.Letters v i) = name_word v.entry.at i
asked_word dir name (look.Target v) = entry_target v.entry.at
asked_word dir name (look.Next v) = next_entry v.entry.at
asked_word dir name (look.Free e) = first_free_entry dir
asked_word dir name (look.FreeNext e free) = next_entry free.at
asked_word dir name (look.First e) = first_entry_page dir

-- Damage. A word is, that names no place that the layout allows, or one entry more than may be visited; the word that led to
-- a word that isn't answered; and the directory, where its own word isn't.

-- the word leads to no entry that may be visited
pub record LeadsAstray (visits word : ℕ) : Type 0 where
  pub some : word ≢ 0
  pub astray : (visits ≡ 0) ⊎ (IsEntryAddress word → ⊥)

abbrev pub IsNoLink : (ℕ → Type 0) → ℕ → Type 0
IsNoLink Allowed word = IsNoneOr Allowed word → ⊥

-- the address of the word that led to the one that was asked for
abbrev pub led_by : ℕ → Asked → ℕ
led_by dir (look.Length v) = v.before
led_by dir (look.Letters v i) = v.before
led_by dir (look.Target v) = v.before
led_by dir (look.Next v) = v.before
led_by dir (look.FreeNext e free) = first_free_entry dir
led_by dir asked = dir

-- the loaded word is damaged
abbrev pub IsBad : Asked → ℕ → ℕ → Type 0
IsBad look.Head visits word = LeadsAstray visits word
IsBad (look.Target v) visits word = IsTarget word → ⊥
IsBad (look.Next v) visits word = LeadsAstray visits word
IsBad (look.Free e) visits word = IsNoLink IsEntryAddress word
IsBad (look.FreeNext e free) visits word = IsNoLink IsEntryAddress word
IsBad (look.First e) visits word = IsNoLink IsPageAddress word
IsBad asked visits word = ⊥

abbrev pub IsDamageAt : Asked → Answer → ℕ → ℕ → List ℕ → ℕ → Type 0
IsDamageAt look.Nothing answer visits dir name addr = ⊥
IsDamageAt asked (answer.Word x) visits dir name addr = IsBad asked visits x × (addr ≡ asked_word dir name asked)
IsDamageAt asked answer visits dir name addr = addr ≡ led_by dir asked

abbrev pub IsDamage : Lookup → Answer → ℕ → Type 0
IsDamage l answer addr = IsDamageAt l.asked answer l.left l.dir.at l.name addr

-- damage is told where it is, and nowhere else
abbrev pub TellsDamage : LookStep → (ℕ → Type 0) → Type 0
TellsDamage (look_step.Damaged addr) Damage = Damage addr
TellsDamage step Damage = (addr : ℕ) → Damage addr → ⊥

-- the target of a name that is found is one that the layout allows, whatever the words are
abbrev pub FindsTarget : LookStep → Type 0
FindsTarget (look_step.Found place target) = IsTarget target
FindsTarget step = Unit {0}

-- How many words are loaded at most once this one is answered: for each entry that may be visited its name's length, its name,
-- and what it leads to; and two words of the directory.
abbrev pub words_of_name : List ℕ → ℕ
words_of_name name = (length name + 7) / 8

abbrev pub loads_after : Asked → List ℕ → ℕ → ℕ
loads_after look.Nothing name visits = 3 + visits * (3 + words_of_name name)
loads_after look.Head name visits = 2 + visits * (3 + words_of_name name)
loads_after (look.Length v) name visits = 4 + words_of_name name + visits * (3 + words_of_name name)
loads_after (look.Letters v i) name visits = 3 + (words_of_name name - i) + visits * (3 + words_of_name name)
loads_after (look.Next v) name visits = 2 + visits * (3 + words_of_name name)
loads_after (look.Free e) name visits = 1
loads_after asked name visits = 0

abbrev pub loads_left : Lookup → ℕ
loads_left l = loads_after l.asked l.name l.left

-- a step that loads leaves fewer loads than there were
abbrev pub LoadsFewer : LookStep → ℕ → Lookup → Type 0
LoadsFewer (look_step.Load addr) before l = loads_left l < before
LoadsFewer step before l = Unit {0}

-- the step ends the look-up
abbrev pub IsLast : LookStep → Type 0
IsLast (look_step.Load addr) = ⊥
IsLast step = Unit {0}

-- the answer leads on to one entry more than may be visited
pub record LeadsTooFar (visits : ℕ) (given : Answer) : Type 0 where
  pub word : ℕ
  pub given_is : given ≡ answer.Word word
  pub entry : IsEntryAddress word
  pub none : visits ≡ 0

abbrev pub WantsMore : Lookup → Answer → Type 0
WantsMore l given = LeadsTooFar l.left given
