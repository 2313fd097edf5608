-- What a call gives while it looks for its name, and where it has found it or not.
use Rattle.std.proofs.Common.{◌≡◌, ℕ, ◌+◌, ◌*◌, ◌<◌, List, [], ◌∷◌, length, drop, codes, true, Some, None, refl, sym, ap, subst, ◌∙◌, arith, inl, inr, eq-eqb}
use Rattle.zo_layout.specs.Layout.{page_at, page_kind, file_map, pool_head}
use Rattle.tr_types.specs.declared.action.Action.TheVariants.{Load}
use Rattle.tr_types.specs.declared.action.Answer.{Answer}
use Rattle.tr_types.specs.declared.action.Answer.TheVariants.{Word as WordIs}
use Rattle.tr_types.specs.declared.command.Command.{Command}
use Rattle.tr_types.specs.declared.command.Command.TheVariants.{Create, Stat}
use Rattle.tr_types.specs.declared.command.Kind.TheVariants.{File}
use Rattle.tr_types.specs.declared.command.Reply.TheVariants.{Info, Exists, NotFound}
use Rattle.tr_types.specs.declared.entry.Mark.TheVariants.{Plain}
use Rattle.tr_types.specs.declared.kernel_call.Mapped.{Mapped}
use Rattle.zo_model.specs.Alone.{root_cred}
use Rattle.zo_model.specs.Answers.{path_of, answer, told}
use Rattle.zo_model.specs.CofferWords.{IsDir}
use Rattle.zo_model.specs.Commands.{IsCommand, IsPathOfOne}
use Rattle.zo_model.specs.Seats.{drained_after}
use Rattle.zo_model.specs.Steps.{Scene, ActGives, OverGives, pool_of}
use Rattle.zo_model.specs.Tree.{Member, Node, FileOf, node_at}
use Rattle.zo_plan.specs.declared.link.Addr.{Addr}
use Rattle.zo_plan.specs.declared.place.Place.{Place}
use Rattle.zo_hash_dir.specs.declared.lookup.Lookup.{Lookup}
use Rattle.zo_hash_dir.specs.declared.lookup.LookStep.{LookStep}
use Rattle.zo_hash_dir.specs.declared.lookup.LookStep.TheVariants as look_step
use Rattle.zo_hash_dir.specs.declared.lookup.Purpose.{Purpose}
use Rattle.zo_hash_dir.specs.declared.lookup.Purpose.TheVariants.{Making}
use Rattle.zo_hash_dir.specs.Looking.{Knows as LookKnows, Gives as LookGives, GivesFor, Aim, Keeps, IsMissingAt, aim_of}
use Rattle.zo_hash_dir.specs.Scene.{Scene as Seen, IsShown, CanMake}
use Rattle.zo_ops.specs.declared.op.Stage.TheVariants as stage
use Rattle.zo_ops.specs.Knows.{Stands, BeginKnows, IsLookFor, LookingKnows, Finds, StageKnows, FoundKnows, MissingKnows, IsCreate, IsStat, name_of, purpose_of, seen}
use Rattle.zo_ops.proofs.AnswerLaws.{alone, create_exists, stat_missing, stat_file}
use Rattle.zo_ops.proofs.StepLaws.{denoted, loaded, load_gives, ground_loaded, told_gives}
use Rattle.zo_ops.proofs.SeenLaws.{is_shown, can_make, read_word, control_word, stands_at, misses_at, file_member, file_word}

-- what kind of command it is
pub is_create : (command : Command) (path : List ℕ) (mode : ℕ) → command ≡ Create path mode → IsCreate command
is_create command path mode is = subst IsCreate (sym is) tt

pub is_stat : (command : Command) (path : List ℕ) → command ≡ Stat path → IsStat command
is_stat command path is = subst IsStat (sym is) tt

one_name : (command : Command) → IsCommand command → 0 < length (name_of command) → IsPathOfOne (path_of command)
one_name (Create path mode) can some = can.0
one_name (Stat path) (inl root) some =
    let none : 0 < length (drop 1 (codes "/")) = subst (λ (p : List ℕ). 0 < length (drop 1 p)) root some in
    absurd (omega (arith, none))
one_name (Stat path) (inr one) some = one

-- a look-up that begins
pub look_begins : (mapped : Mapped) (command : Command) (look : Lookup) (dir : ℕ) (given : Answer) (s : Scene) → BeginKnows mapped command s → dir ≡ page_at mapped.root → look.dir.at ≡ dir
    → look.name ≡ name_of command → look.purpose ≡ purpose_of command → 0 < length (name_of command)
    → ((seen : Seen) (first : Answer) → IsShown seen dir mapped.pages → CanMake seen dir → LookKnows look first seen) → LookingKnows mapped command look given s
look_begins mapped command look dir given s (k, unasked) at dir_is name purpose some begins = record {
  ground = k;
  unasked = unasked;
  aim = record { dir = dir_is ∙ at; name = name; some = some; purpose = purpose };
  knows = begins (seen s k.stands) given (subst (λ a. IsShown (seen s k.stands) a mapped.pages) (sym at) (is_shown mapped command s k)) (subst (CanMake (seen s k.stands)) (sym at) (can_make mapped command s k));
}

-- a step of a look-up
module _ (mapped : Mapped) (command : Command) (look new : Lookup) (given : Answer) (result : LookStep) (keeps : Keeps look new) (promise : (v : Seen) → LookKnows look given v → LookGives new v result) where
  aim_kept : IsLookFor mapped command look → IsLookFor mapped command new
  aim_kept aim = record {
    dir = ap (λ d. d.at) keeps.dir ∙ aim.dir;
    name = keeps.name ∙ aim.name;
    some = aim.some;
    purpose = keeps.purpose ∙ aim.purpose;
  }

  abbrev ours : Aim
  ours = record { dir = page_at mapped.root; name = name_of command; purpose = purpose_of command; visits = new.left }

  aim_is : IsLookFor mapped command new → aim_of new ≡ ours
  aim_is aim = λ i. record { dir = aim.dir i; name = aim.name i; purpose = aim.purpose i; visits = new.left }

  gave : (s : Scene) (k : LookingKnows mapped command look given s) → GivesFor new ours (seen s k.ground.stands) result
  gave s k = subst (λ a. GivesFor new a (seen s k.ground.stands) result) (aim_is (aim_kept k.aim)) (promise (seen s k.ground.stands) k.knows)

  pub look_load_gives : (addr : ℕ) → result ≡ look_step.Load addr → (s : Scene) → LookingKnows mapped command look given s → ActGives (StageKnows mapped command (stage.Looking new)) Plain (Load addr) s
  look_load_gives addr is s k =
      let g = subst (GivesFor new ours (seen s k.ground.stands)) is (gave s k) in
      load_gives mapped command (stage.Looking new) addr s (read_word mapped command s k.ground addr g.0) (denoted s k.ground.stands)
      (record { ground = ground_loaded mapped command addr s k.ground; unasked = k.unasked; aim = aim_kept k.aim; knows = g.1 })

  pub look_found_knows : (place : Place) (target : ℕ) → result ≡ look_step.Found place target → (s : Scene) → LookingKnows mapped command look given s → FoundKnows target mapped command s
  look_found_knows place target is s k =
      let g = subst (GivesFor new ours (seen s k.ground.stands)) is (gave s k) in
      record { ground = k.ground; unasked = k.unasked; some = k.aim.some; wanted = g.0.wanted }

  pub look_missing_knows : (place : Place) → result ≡ look_step.Missing place → (s : Scene) → LookingKnows mapped command look given s → MissingKnows place mapped command s
  look_missing_knows place is s k =
      let g = subst (GivesFor new ours (seen s k.ground.stands)) is (gave s k) in
      record { ground = k.ground; unasked = k.unasked; some = k.aim.some; missing = g }

  pub look_not_damaged : (addr : ℕ) → result ≡ look_step.Damaged addr → (s : Scene) → LookingKnows mapped command look given s → ⊥
  look_not_damaged addr is s k = subst (GivesFor new ours (seen s k.ground.stands)) is (gave s k)

-- The name stands.

pub exists_answer : (command : Command) (tree : List Member) (node : Node) → IsCreate command → IsCommand command → IsDir tree [] → node_at tree (name_of command ∷ []) ≡ Some node
    → answer (alone tree) root_cred command ≡ Some (told (alone tree) Exists)
exists_answer (Create path mode) tree node create can root stands = ap (λ m. answer (alone tree) root_cred (Create path m)) can.1 ∙ create_exists tree root path can.0 node stands
exists_answer (Stat path) tree node create can root stands = absurd create

pub exists_gives : (target : ℕ) (mapped : Mapped) (command : Command) (s : Scene) → IsCreate command → FoundKnows target mapped command s → OverGives Exists s × Stands s
exists_gives target mapped command s create k =
    let found = stands_at mapped command s k.ground (name_of command) target k.wanted in
    told_gives mapped command s Exists k.ground k.unasked (record { other = refl; denied = λ d. d; cause = tt }) (exists_answer command k.ground.stands.tree (FileOf found.0) create k.ground.call.can_be k.ground.stands.alone.root found.1)

-- The name doesn't stand.

missing_answer : (command : Command) (tree : List Member) → IsStat command → IsCommand command → 0 < length (name_of command) → IsDir tree [] → node_at tree (name_of command ∷ []) ≡ None
    → answer (alone tree) root_cred command ≡ Some (told (alone tree) NotFound)
missing_answer (Create path mode) tree stat can some root none = absurd stat
missing_answer (Stat path) tree stat can some root none = stat_missing tree root path (one_name (Stat path) can some) none

pub missing_gives : (place : Place) (mapped : Mapped) (command : Command) (s : Scene) → IsStat command → MissingKnows place mapped command s → OverGives NotFound s × Stands s
missing_gives place mapped command s stat k =
    told_gives mapped command s NotFound k.ground k.unasked (record { other = refl; denied = λ d. d; cause = tt })
    (missing_answer command k.ground.stands.tree stat k.ground.call.can_be k.some k.ground.stands.alone.root (misses_at mapped command s k.ground (name_of command) k.missing.end.wanted))

making : (command : Command) → IsCreate command → purpose_of command ≡ Making
making (Create path mode) create = refl
making (Stat path) create = absurd create

-- a load of the head of the pool, which shows no page
pub pool_load_gives : (place : Place) (addr : ℕ) (mapped : Mapped) (command : Command) (s : Scene) → IsCreate command → addr ≡ pool_head (page_at mapped.control) 0 → MissingKnows place mapped command s
    → ActGives (StageKnows mapped command (stage.Pool place)) Plain (Load addr) s
pool_load_gives place addr mapped command s create is k =
    let pool : addr ≡ pool_of s.coffer = is ∙ ap (λ c. pool_head (page_at c) 0) (sym k.ground.coffer.control) in
    let empty : s.at addr ≡ 0 = ap s.at pool ∙ k.ground.stands.rests.pool 0 (omega arith) in
    load_gives mapped command (stage.Pool place) addr s (control_word mapped command s k.ground 9 addr (omega arith) is) (denoted s k.ground.stands) (
      record {
        ground = ground_loaded mapped command addr s k.ground;
        create = create;
        missing = subst (λ (p : Purpose). IsMissingAt (seen s k.ground.stands) (page_at mapped.root) (name_of command) p place) (making command create) k.missing;
      },
      k.unasked,
      shown (s.at addr) (pool_of s.coffer) pool empty,
      ap WordIs empty,
    )
  where
    shown : (word head : ℕ) → addr ≡ head → word ≡ 0 → drained_after head (Load addr) (WordIs word) s.seat.drained ≡ true
    shown word head pool empty = rw (eq-eqb addr head pool, eq-eqb word 0 empty) refl

-- What stands in the file's words.

kind_is : (file : ℕ) (mapped : Mapped) (command : Command) (s : Scene) → Finds mapped command file s → s.at (page_kind file) ≡ 1
kind_is file mapped command s k = ap (λ f. s.at (page_kind f)) k.file_is ∙ (file_member mapped command s k.ground (name_of command) k.bytes k.stands).shown.0

map_is : (file : ℕ) (mapped : Mapped) (command : Command) (s : Scene) → Finds mapped command file s → s.at (file_map file) ≡ 0
map_is file mapped command s k = ap (λ f. s.at (file_map f)) k.file_is ∙ (file_member mapped command s k.ground (name_of command) k.bytes k.stands).shown.1.0

abbrev finds_loaded : (file addr : ℕ) (mapped : Mapped) (command : Command) (s : Scene) → Finds mapped command file s → Finds mapped command file (loaded addr s)
finds_loaded file addr mapped command s k = record {
  ground = ground_loaded mapped command addr s k.ground;
  unasked = k.unasked;
  stat = k.stat;
  some = k.some;
  bytes = k.bytes;
  stands = k.stands;
  file_is = k.file_is;
}

-- the word of the file's kind is loaded
pub kind_load_gives : (target : ℕ) (file : Addr) (addr : ℕ) (mapped : Mapped) (command : Command) (s : Scene) → IsStat command → file.at ≡ target → addr ≡ page_kind file.at → FoundKnows target mapped command s
    → ActGives (StageKnows mapped command (stage.Kind file)) Plain (Load addr) s
kind_load_gives target file addr mapped command s stat link is k =
    let found = stands_at mapped command s k.ground (name_of command) target k.wanted in
    let page : file.at ≡ page_at (k.ground.stands.rests.denotes.page_of (name_of command ∷ [])) = link ∙ found.2 in
    load_gives mapped command (stage.Kind file) addr s (file_word mapped command s k.ground (name_of command) found.0 0 addr found.1 (omega arith) (is ∙ page ∙ none_more _)) (denoted s k.ground.stands)
    (finds_loaded file.at addr mapped command s (record { ground = k.ground; unasked = k.unasked; stat = stat; some = k.some; bytes = found.0; stands = found.1; file_is = page }), ap (λ a. WordIs (s.at a)) is)
  where
    none_more : (n : ℕ) → n ≡ n + 8 * 0
    none_more n = omega arith

-- the word of its map is
pub map_load_gives : (file : Addr) (given : Answer) (addr : ℕ) (mapped : Mapped) (command : Command) (s : Scene) → addr ≡ file_map file.at → StageKnows mapped command (stage.Kind file) given s
    → ActGives (StageKnows mapped command (stage.Map file)) Plain (Load addr) s
map_load_gives file given addr mapped command s is (k, word) =
    load_gives mapped command (stage.Map file) addr s (file_word mapped command s k.ground (name_of command) k.bytes 1 addr k.stands (omega arith) (is ∙ ap file_map k.file_is)) (denoted s k.ground.stands)
    (finds_loaded file.at addr mapped command s k, ap (λ a. WordIs (s.at a)) is)

pub is_kind : (file : Addr) (given : Answer) (mapped : Mapped) (command : Command) (s : Scene) → StageKnows mapped command (stage.Kind file) given s → given ≡ WordIs 1
is_kind file given mapped command s (k, word) = word ∙ ap WordIs (kind_is file.at mapped command s k)

pub is_map : (file : Addr) (given : Answer) (mapped : Mapped) (command : Command) (s : Scene) → StageKnows mapped command (stage.Map file) given s → given ≡ WordIs 0
is_map file given mapped command s (k, word) = word ∙ ap WordIs (map_is file.at mapped command s k)

file_answer : (command : Command) (tree : List Member) (bytes : List ℕ) → IsStat command → IsCommand command → 0 < length (name_of command) → IsDir tree [] → node_at tree (name_of command ∷ []) ≡ Some (FileOf bytes) → bytes ≡ []
    → answer (alone tree) root_cred command ≡ Some (told (alone tree) (Info File 0 0 0 438))
file_answer (Create path mode) tree bytes stat can some root stands empty = absurd stat
file_answer (Stat path) tree bytes stat can some root stands empty =
    stat_file tree root path (one_name (Stat path) can some) bytes stands ∙ ap (λ (b : List ℕ). Some (told (alone tree) (Info File (length b) 0 0 438))) empty

-- the file's size is known
pub file_gives : (file : Addr) (given : Answer) (mapped : Mapped) (command : Command) (s : Scene) → StageKnows mapped command (stage.Map file) given s → OverGives (Info File 0 0 0 438) s × Stands s
file_gives file given mapped command s (k, word) =
    told_gives mapped command s (Info File 0 0 0 438) k.ground k.unasked (record { other = refl; denied = λ d. d; cause = tt })
    (file_answer command k.ground.stands.tree k.bytes k.stat k.ground.call.can_be k.some k.ground.stands.alone.root k.stands (file_member mapped command s k.ground (name_of command) k.bytes k.stands).shown.1.1)
