-- The commit of a link: one store, which leads a bucket to an entry that was prepared for a new file or directory.
use Rattle.std.specs.Prelude.{◌≡◌, ℕ, ◌+◌, ◌<◌, List, [], ◌∷◌, ◌++◌, false, Contains, Some, None, if◌then◌else◌}
use Rattle.std.specs.List.{list_any}
use Rattle.zo_layout.specs.Layout.{page_at, word_of, bucket_head, bucket_of, entry_target, file_map, next_entry, page_kind}
use Rattle.zo_model.specs.Commands.{IsName}
use Rattle.zo_model.specs.Tree.{Member, Node, Directory, FileOf, node_at, same_names}
use Rattle.zo_model.specs.Directory.{IsPlace, IsReached, name_at}
use Rattle.zo_model.specs.CofferWords.{CofferAt, Use, Nothing, Object, IsEntryPage, IsDir, IsInLimits}
use Rattle.zo_units.specs.Memory.{Memory, at, IsClean, stored_in}
use Rattle.zo_units.specs.Units.{Commitment, Lasts, IsOpen, IsStill, above, node_before, IsSound}
use Rattle.zo_units.specs.UnitLaws.{put_use}

-- The page has the words of an empty file or directory, and they are durable.
abbrev pub IsReady : Memory → ℕ → Node → Type 0
IsReady m page Directory = (i : ℕ) → i < 512 → (at m (word_of page i) ≡ 0) × IsClean m (word_of page i)
IsReady m page (FileOf bytes) = (at m (page_kind page) ≡ 1) × IsClean m (page_kind page) × (at m (file_map page) ≡ 0) × IsClean m (file_map page) × (bytes ≡ [])

-- A free entry has this name and target and leads to where its bucket leads now, and its words are durable.
pub record IsPrepared (m : Memory) (coffer : CofferAt) (use_of : ℕ → Use) (names : List (List ℕ)) (dir : ℕ) (name : List ℕ) (entry target : ℕ) : Type 0 where
  pub place : IsPlace (IsEntryPage coffer use_of names) entry
  pub unreached : IsReached (at m) dir entry → ⊥
  pub leads : at m (next_entry entry) ≡ at m (bucket_head dir (bucket_of name))
  pub aims : at m (entry_target entry) ≡ target
  pub named : name_at (at m) entry ≡ name
  pub clean : (i : ℕ) → i < 40 → IsClean m (word_of entry i)

-- All is ready for the commit: the directory has no open commit, and stands surely itself; the name is right and missing; the entry
-- and the page of no use are prepared.
pub record CanCommit (m : Memory) (coffer : CofferAt) (tree : List Member) (page_of : List (List ℕ) → ℕ) (use_of : ℕ → Use) (lasts : Lasts) (names : List (List ℕ)) (name : List ℕ) (node : Node) (entry made : ℕ) : Type 0 where
  pub dir : IsDir tree names
  pub still : IsStill m (lasts names)
  -- no crash takes the directory away
  pub sure : (c : Commitment) → lasts (above names) ≡ Some c → IsOpen m c → node_before c tree names ≡ Some Directory
  pub missing : node_at tree (names ++ name ∷ []) ≡ None
  pub no_coffer : list_any (same_names (names ++ name ∷ [])) coffer.below ≡ false
  pub is_name : IsName name
  pub limits : IsInLimits (coffer.path ++ (names ++ name ∷ []))
  pub prepared : IsPrepared m coffer use_of names (page_at (page_of names)) name entry (page_at made)
  pub inside : Contains coffer.pages made
  pub useless : use_of made ≡ Nothing
  pub ready : IsReady m (page_at made) node

-- the commit: before it nothing stood at the path
abbrev pub link_commit : ℕ → ℕ → Memory → ℕ → List (List ℕ) → Commitment
link_commit thread position m addr path = record { thread = thread; position = position; addr = addr; place = m.top addr + 1; undo = record { names = path; node = None } ∷ [] }

-- the tree, the pages of its members and the last commits after it
abbrev pub with_member : List Member → List (List ℕ) → Node → List Member
with_member tree path node = tree ++ record { names = path; node = node } ∷ []

abbrev pub put_page : (List (List ℕ) → ℕ) → List (List ℕ) → ℕ → List (List ℕ) → ℕ
put_page page_of path made names = if same_names names path then made else page_of names

abbrev pub put_last : Lasts → List (List ℕ) → Commitment → Lasts
put_last lasts unit c names = if same_names names unit then Some c else lasts names

abbrev pub CommitLaw : Type 0
CommitLaw = (m : Memory) (coffer : CofferAt) (tree : List Member) (page_of : List (List ℕ) → ℕ) (use_of : ℕ → Use) (lasts : Lasts) (names : List (List ℕ)) (name : List ℕ) (node : Node) (entry made thread position : ℕ)
    → IsSound m coffer tree page_of use_of lasts → CanCommit m coffer tree page_of use_of lasts names name node entry made
    → IsSound (stored_in (bucket_head (page_at (page_of names)) (bucket_of name)) entry m) coffer (with_member tree (names ++ name ∷ []) node) (put_page page_of (names ++ name ∷ []) made)
    (put_use use_of made (Object (names ++ name ∷ []))) (put_last lasts names (link_commit thread position m (bucket_head (page_at (page_of names)) (bucket_of name)) (names ++ name ∷ [])))
