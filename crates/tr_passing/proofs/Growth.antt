-- A change that is right makes one file in the tree of the root coffer.
use Rattle.std.proofs.Common.{◌≡◌, ◌≢◌, ℕ, ◌==◌, Bool, true, false, cond, if◌then◌else◌, List, [], ◌∷◌, ◌++◌, length, refl, sym, ap, ◌∙◌, arith, Option, Some, None}
use Rattle.std.specs.Prelude.{nat_lt, is_some}
use Rattle.std.proofs.lemmas.Bool.{false≢true, or_parts}
use Rattle.tr_types.specs.Paths.{names_of}
use Rattle.tr_types.specs.declared.command.Command.{Command}
use Rattle.tr_types.specs.declared.command.Command.TheVariants.{Create, Stat}
use Rattle.tr_types.specs.declared.command.Reply.{Reply}
use Rattle.tr_types.specs.declared.command.Reply.TheVariants as reply
use Rattle.tr_types.specs.declared.permission.Cred.{Cred}
use Rattle.tr_types.specs.declared.permission.Perm.{Perm}
use Rattle.zo_model.specs.Alone.{root_perm}
use Rattle.zo_model.specs.Tree.{Member, Node, Directory, FileOf, node_at}
use Rattle.zo_model.specs.Coffers.{Content, Ready, Quarantined, Coffer, path_text, parent, is_coffer}
use Rattle.zo_model.specs.Answers.{Answered, Walk, Reaches, MissesName, MeetsFile, answer, answer_in, answer_at, needs, is_too_long, is_denied, is_success, walk, arrived, told, make, made, founded, state_of, stands, perm_of, same_perm, write_right, read_right}
use Rattle.tr_model.specs.Worlds.{Standing, IsReady, IsLost, IsQuarantined, content_of, coffers_of, trees_after}
use Rattle.tr_passing.specs.Laws.{root_standing}

abbrev pub file_of : List ℕ → Member
file_of path = record { names = names_of path; node = FileOf [] }

abbrev pub root_with : Content → Coffer
root_with content = record { path = []; perm = root_perm; content = content }

-- the answer makes a file at the path
pub record Makes (s : Standing) (tree : List Member) (path : List ℕ) (a : Answered) : Type 0 where
  pub ready : s ≡ IsReady
  pub fresh : node_at tree (names_of path) ≡ None
  pub some : names_of path ≢ []
  pub coffers_are : a.coffers ≡ root_with (Ready (tree ++ file_of path ∷ [])) ∷ []
  pub reply_is : a.reply ≡ reply.Made

some_same : (a b : Answered) → Some a ≡ Some b → a ≡ b
some_same a b e = cc

-- a reply that is no success
fails : {X : Type 0} (coffers : List Coffer) (given : Reply) (a : Answered) → is_success given ≡ false → Some (told coffers given) ≡ Some a → is_success a.reply ≡ true → X
fails coffers given a isnt e success = absurd (false≢true (sym isnt ∙ ap (λ (x : Answered). is_success x.reply) (some_same (told coffers given) a e) ∙ success))

is_none : (o : Option Node) → is_some o ≡ false → o ≡ None
is_none None e = refl
is_none (Some node) e = absurd (false≢true (sym e))

-- a path without names can't be made, as its directory is itself
named : (tree : List Member) (names : List (List ℕ)) → walk tree [] (parent names) ≡ Reaches Directory → node_at tree names ≡ None → names ≢ []
named tree names reaches none empty = no (sym (ap arrived there) ∙ at)
  where
    there : node_at tree [] ≡ None
    there = ap (node_at tree) (sym empty) ∙ none

    at : arrived (node_at tree []) ≡ Reaches Directory
    at = ap (λ (ns : List (List ℕ)). walk tree [] (parent ns)) (sym empty) ∙ reaches

    no : MissesName ≡ Reaches Directory → ⊥
    no e = cc

module _ (tree : List Member) (cred : Cred) (path : List ℕ) (mode : ℕ) (a : Answered) (success : is_success a.reply ≡ true) (long : length a.coffers ≡ 1) where
  abbrev cs : List Coffer
  cs = root_with (Ready tree) ∷ []

  abbrev there : Coffer
  there = root_with (Ready tree)

  abbrev perm : Perm
  perm = perm_of cred mode

  founding : (b : Bool) → Some (cond b (told cs reply.TooLong) (record { reply = reply.Made; coffers = founded cs (names_of path) perm (FileOf []) })) ≡ Some a → ⊥
  founding true e = fails cs reply.TooLong a refl e success
  founding false e =
      let is = some_same (record { reply = reply.Made; coffers = founded cs (names_of path) perm (FileOf []) }) a e in
      let two : 2 ≡ length a.coffers = ap (λ (x : Answered). length x.coffers) is in
      omega (arith, two, long)

  making : node_at tree (names_of path) ≡ None → names_of path ≢ [] → (b : Bool)
      → Some (cond b (record { reply = reply.Made; coffers = root_with (Ready (tree ++ file_of path ∷ [])) ∷ [] })
      (cond (nat_lt 440 (length (path_text (names_of path)))) (told cs reply.TooLong) (record { reply = reply.Made; coffers = founded cs (names_of path) perm (FileOf []) }))) ≡ Some a
      → Makes IsReady tree path a
  making none some true e =
      let is = some_same (record { reply = reply.Made; coffers = root_with (Ready (tree ++ file_of path ∷ [])) ∷ [] }) a e in
      record { ready = refl; fresh = none; some = some; coffers_are = ap (λ (x : Answered). x.coffers) (sym is); reply_is = ap (λ (x : Answered). x.reply) (sym is) }
  making none some false e = absurd (founding (nat_lt 440 (length (path_text (names_of path)))) e)

  standing : walk tree [] (parent (names_of path)) ≡ Reaches Directory → (b : Bool) → stands cs there tree (names_of path) ≡ b
      → Some (cond b (told cs reply.Exists) (made cs there tree (names_of path) perm (FileOf []))) ≡ Some a → Makes IsReady tree path a
  standing reaches true s e = fails cs reply.Exists a refl e success
  standing reaches false s e =
      let none = is_none (node_at tree (names_of path)) (or_parts (is_some (node_at tree (names_of path))) (is_coffer cs (names_of path)) s).0 in
      making none (named tree (names_of path) reaches none) (same_perm perm root_perm) e

  walked : (w : Walk) → walk tree [] (parent (names_of path)) ≡ w → Some (make cs there tree (names_of path) perm (FileOf []) w) ≡ Some a → Makes IsReady tree path a
  walked (Reaches Directory) is e = standing is (stands cs there tree (names_of path)) refl e
  walked (Reaches (FileOf bytes)) is e = fails cs reply.NotDir a refl e success
  walked MissesName is e = fails cs reply.NotFound a refl e success
  walked MeetsFile is e = fails cs reply.NotDir a refl e success

-- what a right change of the root coffer is answered
module _ (s : Standing) (tree : List Member) (cred : Cred) (a : Answered) (success : is_success a.reply ≡ true) (long : length a.coffers ≡ 1) where
  abbrev coffers : List Coffer
  coffers = root_with (content_of s tree) ∷ []

  abbrev coffer : Coffer
  coffer = root_with (content_of s tree)

  created : (path : List ℕ) (mode : ℕ) (t : Standing) → s ≡ t → answer_in (root_with (content_of t tree) ∷ []) cred (Create path mode) (root_with (content_of t tree)) (content_of t tree) ≡ Some a → Makes t tree path a
  created path mode IsReady is e = walked tree cred path mode a success long (walk tree [] (parent (names_of path))) refl e
  created path mode IsLost is e = absurd (let no : ⊥ = cc in no)
  created path mode IsQuarantined is e = fails (root_with Quarantined ∷ []) reply.Quarantined a refl e success

  create_right : (path : List ℕ) (mode : ℕ) (d : Bool)
      → cond d (Some (told coffers (reply.Denied write_right (path_text [])))) (answer_in coffers cred (Create path mode) coffer (content_of s tree)) ≡ Some a → Makes s tree path a
  create_right path mode true e = fails coffers (reply.Denied write_right (path_text [])) a refl e success
  create_right path mode false e = created path mode s refl e

  create_long : (path : List ℕ) (mode : ℕ) (b : Bool) → cond b (Some (told coffers reply.TooLong)) (answer_at coffers cred (Create path mode) (needs coffers (Create path mode))) ≡ Some a → Makes s tree path a
  create_long path mode true e = fails coffers reply.TooLong a refl e success
  create_long path mode false e = create_right path mode (is_denied cred (record { right = write_right; coffer = coffer })) e

  state_fails : (all : List Coffer) (c : Coffer) (names : List (List ℕ)) (w : Walk) → is_success (state_of all c tree names w) ≡ false
  state_fails all c names (Reaches Directory) = refl
  state_fails all c names (Reaches (FileOf bytes)) = refl
  state_fails all c names MissesName = refl
  state_fails all c names MeetsFile = refl

  stated : (path : List ℕ) (t : Standing) → answer_in (root_with (content_of t tree) ∷ []) cred (Stat path) (root_with (content_of t tree)) (content_of t tree) ≡ Some a → ⊥
  stated path IsReady e =
      fails (root_with (Ready tree) ∷ []) (state_of (root_with (Ready tree) ∷ []) (root_with (Ready tree)) tree (names_of path) (walk tree [] (names_of path))) a
      (state_fails (root_with (Ready tree) ∷ []) (root_with (Ready tree)) (names_of path) (walk tree [] (names_of path))) e success
  stated path IsLost e = let no : ⊥ = cc in no
  stated path IsQuarantined e = fails (root_with Quarantined ∷ []) reply.Quarantined a refl e success

  stat_right : (path : List ℕ) (d : Bool)
      → cond d (Some (told coffers (reply.Denied read_right (path_text [])))) (answer_in coffers cred (Stat path) coffer (content_of s tree)) ≡ Some a → ⊥
  stat_right path true e = fails coffers (reply.Denied read_right (path_text [])) a refl e success
  stat_right path false e = stated path s e

  stat_long : (path : List ℕ) (b : Bool) → cond b (Some (told coffers reply.TooLong)) (answer_at coffers cred (Stat path) (needs coffers (Stat path))) ≡ Some a → ⊥
  stat_long path true e = fails coffers reply.TooLong a refl e success
  stat_long path false e = stat_right path (is_denied cred (record { right = read_right; coffer = coffer })) e

-- the command makes a file
pub record Creates (s : Standing) (tree : List Member) (command : Command) (a : Answered) : Type 0 where
  pub path : List ℕ
  pub mode : ℕ
  pub command_is : command ≡ Create path mode
  pub makes : Makes s tree path a

pub creates : (s : Standing) (trees : ℕ → List Member) (cred : Cred) (command : Command) (a : Answered) → answer (coffers_of (root_standing s ∷ []) trees) cred command ≡ Some a → is_success a.reply ≡ true → length a.coffers ≡ 1 → Creates s (trees 0) command a
creates s trees cred (Create path mode) a e success long = record { path = path; mode = mode; command_is = refl; makes = create_long s (trees 0) cred a success long path mode (is_too_long path) e }
creates s trees cred (Stat path) a e success long = absurd (stat_long s (trees 0) cred a success long path (is_too_long path) e)

-- the trees with one file more in that of the root coffer
abbrev pub with_file : List ℕ → (ℕ → List Member) → ℕ → List Member
with_file path trees birth = if 0 == birth then trees 0 ++ file_of path ∷ [] else trees birth

pub trees_grow : (s : Standing) (trees : ℕ → List Member) (path : List ℕ) (o : Option Answered) (a : Answered) → o ≡ Some a → Makes s (trees 0) path a → (birth : ℕ) → trees_after (root_standing s ∷ []) trees o birth ≡ with_file path trees birth
trees_grow s trees path o a e m birth =
    ap (λ (x : Option Answered). trees_after (root_standing s ∷ []) trees x birth) e ∙ ap (λ (cs : List Coffer). trees_after (root_standing s ∷ []) trees (Some (record { reply = a.reply; coffers = cs })) birth) m.coffers_are
