-- What a look-up and a count find in the root directory: its names, and words that can be loaded.
use Rattle.std.proofs.Common.{◌≡◌, ℕ, ◌+◌, ◌*◌, ◌/◌, ◌<◌, List, [], ◌∷◌, Contains, cond, Option, Some, None, refl, sym, ap, subst, ◌∙◌, arith}
use Rattle.std.proofs.lemmas.Option.{none-some}
use Rattle.std.specs.List.{list_any}
use Rattle.zo_layout.specs.Layout.{page_at, word_of, entry_place}
use Rattle.tr_types.specs.declared.command.Command.{Command}
use Rattle.tr_types.specs.declared.kernel_call.Mapped.{Mapped}
use Rattle.zo_model.specs.CofferWords.{CofferAt, Denotes, IsMember, target_of}
use Rattle.zo_model.specs.Steps.{Scene, IsCofferWord}
use Rattle.zo_model.specs.Tree.{Node, Directory, FileOf, node_at, same_names}
use Rattle.zo_hash_dir.specs.Scene.{IsShown, CanMake, IsRead}
use Rattle.zo_hash_dir.specs.Scene.IsRead.{OfDirectory, OfEntry, OfFree}
use Rattle.zo_laws.proofs.Scenes.{directories_show, directories_grow}
use Rattle.zo_ops.specs.Knows.{Ground, seen}

-- which node has the target that a directory is to show
pub found_node : (page_of : List (List ℕ) → ℕ) (coffer : CofferAt) (names : List (List ℕ)) (found : Option Node) (target : ℕ) → coffer.below ≡ [] → target_of page_of coffer names found ≡ Some target
    → (node : Node) × (found ≡ Some node) × (target ≡ page_at (page_of names))
found_node page_of coffer names (Some node) target below is = (node, refl, cc)
found_node page_of coffer names None target below is =
    absurd (none-some target (sym (ap (λ (b : List (List (List ℕ))). cond (list_any (same_names names) b) (Some 1) None) below) ∙ is))

pub missing_node : (page_of : List (List ℕ) → ℕ) (coffer : CofferAt) (names : List (List ℕ)) (found : Option Node) → target_of page_of coffer names found ≡ None → found ≡ None
missing_node page_of coffer names (Some node) is = absurd (none-some (page_at (page_of names)) (sym is))
missing_node page_of coffer names None is = refl

-- words of a page
word_in : (coffer : CofferAt) (page i addr : ℕ) → Contains coffer.pages page → i < 512 → addr ≡ word_of (page_at page) i → IsCofferWord coffer addr
word_in coffer page i addr among lt is = record {
  aligned = omega (arith, is);
  coffers = subst (Contains coffer.pages) (let e : page ≡ addr / 4096 = omega (arith, is) in e) among;
}

entry_word_in : (coffer : CofferAt) (page place i addr : ℕ) → Contains coffer.pages page → place < 12 → i < 40 → addr ≡ word_of (entry_place (page_at page) place) i → IsCofferWord coffer addr
entry_word_in coffer page place i addr among twelve lt is = record {
  aligned = omega (arith, is);
  coffers = subst (Contains coffer.pages) (let e : page ≡ addr / 4096 = omega (arith, is) in e) among;
}

module _ (mapped : Mapped) (command : Command) (s : Scene) (k : Ground mapped command s) where
  abbrev d : Denotes s.at s.coffer k.stands.tree
  d = k.stands.rests.denotes

  -- the root directory's page
  root_member : IsMember s.at s.coffer k.stands.tree d.use_of d.page_of [] Directory
  root_member = d.members [] Directory k.stands.alone.root

  root_is : d.page_of [] ≡ mapped.root
  root_is = d.root_page ∙ k.coffer.root

  root_among : Contains s.coffer.pages mapped.root
  root_among = subst (Contains s.coffer.pages) root_is root_member.coffers

  pub some_root : mapped.root ≡ 0 → ⊥
  some_root none = let some = (k.coffer.each mapped.root root_among).0 in omega (arith, some, none)

  pub root_word : (i addr : ℕ) → i < 512 → addr ≡ word_of (page_at mapped.root) i → IsCofferWord s.coffer addr
  root_word i addr lt is = word_in s.coffer mapped.root i addr root_among lt is

  pub control_word : (i addr : ℕ) → i < 512 → addr ≡ word_of (page_at mapped.control) i → IsCofferWord s.coffer addr
  control_word i addr lt is = word_in s.coffer mapped.control i addr (subst (Contains s.coffer.pages) k.coffer.control k.coffer.control_among) lt is

  -- a name that stands: its file, and its page
  pub stands_at : (name : List ℕ) (target : ℕ) → (seen s k.stands).want name ≡ Some target
      → (bytes : List ℕ) × (node_at k.stands.tree (name ∷ []) ≡ Some (FileOf bytes)) × (target ≡ page_at (d.page_of (name ∷ [])))
  stands_at name target is =
      let found = found_node d.page_of s.coffer (name ∷ []) (node_at k.stands.tree (name ∷ [])) target k.stands.alone.below is in
      by found.0 found.1 found.2
    where
      by : (node : Node) → node_at k.stands.tree (name ∷ []) ≡ Some node → target ≡ page_at (d.page_of (name ∷ []))
          → (bytes : List ℕ) × (node_at k.stands.tree (name ∷ []) ≡ Some (FileOf bytes)) × (target ≡ page_at (d.page_of (name ∷ [])))
      by (FileOf bytes) node page = (bytes, node, page)
      by Directory node page = absurd (no_dir (k.stands.alone.dirs (name ∷ []) node))
        where
          no_dir : (name ∷ []) ≡ [] → ⊥
          no_dir e = cc

  pub misses_at : (name : List ℕ) → (seen s k.stands).want name ≡ None → node_at k.stands.tree (name ∷ []) ≡ None
  misses_at name is = missing_node d.page_of s.coffer (name ∷ []) (node_at k.stands.tree (name ∷ [])) is

  -- a file's page, and what stands in its words
  pub file_member : (name bytes : List ℕ) → node_at k.stands.tree (name ∷ []) ≡ Some (FileOf bytes) → IsMember s.at s.coffer k.stands.tree d.use_of d.page_of (name ∷ []) (FileOf bytes)
  file_member name bytes is = d.members (name ∷ []) (FileOf bytes) is

  pub file_word : (name bytes : List ℕ) (i addr : ℕ) → node_at k.stands.tree (name ∷ []) ≡ Some (FileOf bytes) → i < 512 → addr ≡ word_of (page_at (d.page_of (name ∷ []))) i → IsCofferWord s.coffer addr
  file_word name bytes i addr stands lt is = word_in s.coffer (d.page_of (name ∷ [])) i addr (file_member name bytes stands).coffers lt is

  pub is_shown : IsShown (seen s k.stands) (page_at mapped.root) mapped.pages
  is_shown =
      let h = directories_show s.at s.coffer k.stands.tree d [] k.coffer.each k.stands.alone.root in
      subst (λ page. IsShown (seen s k.stands) (page_at page) mapped.pages) root_is (record { shows = h.shows; few = (let few = h.few in let most = k.coffer.few in omega (arith, few, most)); targets = h.targets })

  pub can_make : CanMake (seen s k.stands) (page_at mapped.root)
  can_make = subst (λ page. CanMake (seen s k.stands) (page_at page)) root_is (directories_grow s.at s.coffer k.stands.tree k.stands.rests [] k.coffer.each k.stands.alone.root)

  -- what a look-up loads are words of the coffer
  pub read_word : (addr : ℕ) → IsRead (seen s k.stands) (page_at mapped.root) addr → IsCofferWord s.coffer addr
  read_word addr (OfDirectory i lt is) = root_word i addr lt is
  read_word addr (OfEntry entry i reached p lt is) = entry_word_in s.coffer p.page p.place i addr p.entries.among p.twelve lt (is ∙ ap (λ e. word_of e i) p.is)
  read_word addr (OfFree entry first p is) = entry_word_in s.coffer p.page p.place 0 addr p.entries.among p.twelve (omega arith) (is ∙ p.is ∙ none_more (entry_place (page_at p.page) p.place))
    where
      none_more : (n : ℕ) → n ≡ n + 8 * 0
      none_more n = omega arith
