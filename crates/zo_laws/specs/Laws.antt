-- Laws of what the words of a directory and of a coffer denote.
use Rattle.std.specs.Prelude.{◌≡◌, ℕ, ◌<◌, ◌≤◌, List, Contains, Option, Some}
use Rattle.zo_layout.specs.Layout.{page_at, word_of, bucket_head, control_intent, file_map, first_entry_page, first_free_entry, next_entry, page_kind, pool_head}
use Rattle.zo_model.specs.Tree.{Member, Node, FileOf, node_at}
use Rattle.zo_model.specs.Directory.{Leads, Shows, IsReached}
use Rattle.zo_model.specs.CofferWords.{CofferAt, Use, IsEntryPage, IsDir, Denotes, Rests}

-- the words by which a directory shows its names stay: its bucket heads, and the forty words of each entry that is reached
pub record KeepsNames (before after : ℕ → ℕ) (dir : ℕ) : Type 0 where
  pub heads : (bucket : ℕ) → bucket < 256 → after (bucket_head dir bucket) ≡ before (bucket_head dir bucket)
  pub entries : (entry i : ℕ) → IsReached before dir entry → i < 40 → after (word_of entry i) ≡ before (word_of entry i)

-- The words that tell a coffer's tree stay: that no change over several words is under way, each member's kind, each
-- file's map, and each directory's names.
pub record KeepsTree (before after : ℕ → ℕ) (coffer : CofferAt) (tree : List Member) (page_of : List (List ℕ) → ℕ) : Type 0 where
  pub intent : after (control_intent (page_at coffer.control)) ≡ before (control_intent (page_at coffer.control))
  pub kinds : (names : List (List ℕ)) (node : Node) → node_at tree names ≡ Some node → after (page_kind (page_at (page_of names))) ≡ before (page_kind (page_at (page_of names)))
  pub maps : (names : List (List ℕ)) (bytes : List ℕ) → node_at tree names ≡ Some (FileOf bytes) → after (file_map (page_at (page_of names))) ≡ before (file_map (page_at (page_of names)))
  pub names : (names : List (List ℕ)) → IsDir tree names → KeepsNames before after (page_at (page_of names))

-- the words stay too that lead to entry pages, free entries and free pages
pub record KeepsFree (before after : ℕ → ℕ) (coffer : CofferAt) (tree : List Member) (page_of : List (List ℕ) → ℕ) (frees : List (List ℕ) → List ℕ) : Type 0 where
  pub firsts : (names : List (List ℕ)) → IsDir tree names → after (first_free_entry (page_at (page_of names))) ≡ before (first_free_entry (page_at (page_of names)))
  pub entry_pages : (names : List (List ℕ)) → IsDir tree names → after (first_entry_page (page_at (page_of names))) ≡ before (first_entry_page (page_at (page_of names)))
  pub links : (names : List (List ℕ)) (entry : ℕ) → IsDir tree names → Contains (frees names) entry → after (next_entry entry) ≡ before (next_entry entry)
  pub pools : (pool : ℕ) → pool ≤ 7 → after (pool_head (page_at coffer.control) pool) ≡ before (pool_head (page_at coffer.control) pool)

abbrev pub OneChain : Type 0
OneChain = (at : ℕ → ℕ) (word : ℕ) (entries others : List ℕ) → Leads at word entries → Leads at word others → entries ≡ others

abbrev pub OneTree : Type 0
OneTree = (at : ℕ → ℕ) (coffer : CofferAt) (tree other : List Member) → Denotes at coffer tree → Denotes at coffer other
    → (names : List (List ℕ)) → node_at tree names ≡ node_at other names

-- pages may become entry pages of the directory meanwhile
abbrev pub NamesStay : Type 0
NamesStay = (before after : ℕ → ℕ) (coffer grown : CofferAt) (use_of now_of : ℕ → Use) (names : List (List ℕ)) (dir : ℕ) (want : List ℕ → Option ℕ)
    → Shows before (IsEntryPage coffer use_of names) dir want → KeepsNames before after dir
    → ((page : ℕ) → IsEntryPage coffer use_of names page → IsEntryPage grown now_of names page)
    → Shows after (IsEntryPage grown now_of names) dir want

-- the same pages serve for the same things
pub record SamePages (before after : ℕ → ℕ) (coffer : CofferAt) (tree : List Member) (d : Denotes before coffer tree) (e : Denotes after coffer tree) : Type 0 where
  pub uses : e.use_of ≡ d.use_of
  pub pages : e.page_of ≡ d.page_of

abbrev pub TreeStays : Type 0
TreeStays = (before after : ℕ → ℕ) (coffer : CofferAt) (tree : List Member) (d : Denotes before coffer tree)
    → KeepsTree before after coffer tree d.page_of → (e : Denotes after coffer tree) × SamePages before after coffer tree d e

abbrev pub RestStays : Type 0
RestStays = (before after : ℕ → ℕ) (coffer : CofferAt) (tree : List Member) (r : Rests before coffer tree)
    → KeepsTree before after coffer tree r.denotes.page_of → KeepsFree before after coffer tree r.denotes.page_of r.frees
    → (q : Rests after coffer tree) × SamePages before after coffer tree r.denotes q.denotes × (q.frees ≡ r.frees)
