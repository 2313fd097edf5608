-- What a coffer's words denote: one tree, which stays with the words that tell it.
use Rattle.std.proofs.Common.{◌≡◌, ℕ, ◌<◌, Bool, true, false, if◌then◌else◌, List, [], ◌∷◌, ◌++◌, ap, sym, refl, subst, ◌∙◌, arith}
use Rattle.std.specs.Prelude.{Option, Some, None}
use Rattle.std.specs.List.{list_any}
use Rattle.zo_layout.specs.Layout.{page_at, bucket_head, bucket_of}
use Rattle.zo_model.specs.Tree.{Member, Node, Directory, FileOf, node_at, same_names}
use Rattle.zo_model.specs.Directory.{Shows, target_in}
use Rattle.zo_model.specs.CofferWords.{CofferAt, Use, IsEntryPage, IsNode, Denotes, target_of, wanted}
use Rattle.zo_laws.specs.Laws.{KeepsTree, TreeStays, RestStays}
use Rattle.zo_laws.proofs.Chains.{one_chain}
use Rattle.zo_laws.proofs.Directories.{shows_stay, free_stays, first_stays}

-- one and the same directory shows the same targets
pub one_target : (at : ℕ → ℕ) (P Q : ℕ → Type 0) (dir : ℕ) (want other : List ℕ → Option ℕ) → Shows at P dir want → Shows at Q dir other → (name : List ℕ) → want name ≡ other name
one_target at P Q dir want other shows shows' name =
    let low : bucket_of name < 256 = omega arith in
    let a = shows (bucket_of name) low in
    let b = shows' (bucket_of name) low in
    let same : a.entries ≡ b.entries = one_chain at (at (bucket_head dir (bucket_of name))) a.entries b.entries a.leads b.leads in
    sym (a.names name refl) ∙ ap (target_in at name) same ∙ b.names name refl

-- the page tells what a member is
pub one_node : (at : ℕ → ℕ) (P Q : ℕ → Type 0) (want other : List ℕ → Option ℕ) (page : ℕ) (node node' : Node) → IsNode at P want page node → IsNode at Q other page node' → node ≡ node'
one_node at P Q want other page Directory Directory a b = refl
one_node at P Q want other page Directory (FileOf bytes) a b = absurd (omega (arith, a.0, b.0))
one_node at P Q want other page (FileOf bytes) Directory a b = absurd (omega (arith, a.0, b.0))
one_node at P Q want other page (FileOf bytes) (FileOf bytes') a b = ap FileOf (a.1.1 ∙ sym b.1.1)

-- names from the last one on
from_last : List (List ℕ) → List (List ℕ)
from_last [] = []
from_last (name ∷ names) = from_last names ++ name ∷ []

from_last_push : (names : List (List ℕ)) (name : List ℕ) → from_last (names ++ name ∷ []) ≡ name ∷ from_last names
unfolding from_last
from_last_push [] name = refl
from_last_push (other ∷ names) name = ap (λ (xs : List (List ℕ)). xs ++ other ∷ []) (from_last_push names name)

each_from_last : (names : List (List ℕ)) → (back : List (List ℕ)) × (from_last back ≡ names)
unfolding from_last
each_from_last [] = ([], refl)
each_from_last (name ∷ names) =
    let r = each_from_last names in
    (r.0 ++ name ∷ [], from_last_push r.0 name ∙ ap (λ (xs : List (List ℕ)). name ∷ xs) r.1)

-- the same node stands there, in the same page
record Same (at : ℕ → ℕ) (coffer : CofferAt) (tree other : List Member) (d : Denotes at coffer tree) (e : Denotes at coffer other) (names : List (List ℕ)) (node : Node) : Type 0 where
  node_is : node_at other names ≡ Some node
  page_is : e.page_of names ≡ d.page_of names

some_is : (x y : Node) → Some x ≡ Some y → x ≡ y
some_is x y e = cc

page_of_target : (page word : ℕ) → Some (page_at page) ≡ Some word → word ≡ page_at page
page_of_target page word e = cc

-- where the target is a page, a member stands, in that page
member_of_target : (page_of : List (List ℕ) → ℕ) (coffer : CofferAt) (names : List (List ℕ)) (node : Option Node) (page : ℕ) → target_of page_of coffer names node ≡ Some (page_at page)
    → (n : Node) × (node ≡ Some n) × (page_of names ≡ page)
member_of_target page_of coffer names (Some n) page e =
    let same : page_at (page_of names) ≡ page_at page = cc in
    (n, refl, omega (arith, same))
member_of_target page_of coffer names None page e = by (list_any (same_names names) coffer.below) e
  where
    by : (b : Bool) → (if b then Some 1 else None) ≡ Some (page_at page) → (n : Node) × (None ≡ Some n) × (page_of names ≡ page)
    by true e =
        let one : 1 ≡ page_at page = cc in
        absurd (omega (arith, one))
    by false e = cc

same_member : (at : ℕ → ℕ) (coffer : CofferAt) (tree other : List Member) (d : Denotes at coffer tree) (e : Denotes at coffer other) (names : List (List ℕ)) (node node' : Node)
    → node_at tree names ≡ Some node → node_at other names ≡ Some node' → e.page_of names ≡ d.page_of names → Same at coffer tree other d e names node
same_member at coffer tree other d e names node node' is is' page =
    let m = d.members names node is in
    let m' = e.members names node' is' in
    let shown' = subst (λ (p : ℕ). IsNode at (IsEntryPage coffer e.use_of names) (wanted e.page_of coffer other names) (page_at p) node') page m'.shown in
    let same = one_node at (IsEntryPage coffer d.use_of names) (IsEntryPage coffer e.use_of names) (wanted d.page_of coffer tree names) (wanted e.page_of coffer other names) (page_at (d.page_of names)) node node' m.shown shown' in
    record { node_is = is' ∙ ap Some (sym same); page_is = page }

-- each member of one tree is one of the other, by induction over its names from the last one on
members_same : (at : ℕ → ℕ) (coffer : CofferAt) (tree other : List Member) (d : Denotes at coffer tree) (e : Denotes at coffer other) (back : List (List ℕ)) (node : Node)
    → node_at tree (from_last back) ≡ Some node → Same at coffer tree other d e (from_last back) node
unfolding from_last
members_same at coffer tree other d e [] node is = same_member at coffer tree other d e [] node e.root is e.root_stands (e.root_page ∙ sym d.root_page)
members_same at coffer tree other d e (name ∷ back) node is =
    let names = from_last back in
    let dir = d.inside names name node is in
    let up = members_same at coffer tree other d e back Directory dir in
    let m = d.members names Directory dir in
    let m' = e.members names Directory up.node_is in
    let shows' = subst (λ (p : ℕ). Shows at (IsEntryPage coffer e.use_of names) (page_at p) (wanted e.page_of coffer other names)) up.page_is m'.shown.1 in
    let targets = one_target at (IsEntryPage coffer d.use_of names) (IsEntryPage coffer e.use_of names) (page_at (d.page_of names)) (wanted d.page_of coffer tree names) (wanted e.page_of coffer other names) m.shown.1 shows' name in
    let full = names ++ name ∷ [] in
    let here : wanted d.page_of coffer tree names name ≡ Some (page_at (d.page_of full)) = ap (target_of d.page_of coffer full) is in
    let there = member_of_target e.page_of coffer full (node_at other full) (d.page_of full) (sym targets ∙ here) in
    same_member at coffer tree other d e full node there.0 is there.1 there.2

-- two trees that the words denote are one
pub one_tree : (at : ℕ → ℕ) (coffer : CofferAt) (tree other : List Member) → Denotes at coffer tree → Denotes at coffer other → (names : List (List ℕ)) → node_at tree names ≡ node_at other names
one_tree at coffer tree other d e names = by (node_at tree names) (node_at other names) refl refl
  where
    forth_is : (node : Node) → node_at tree names ≡ Some node → node_at other names ≡ Some node
    forth_is node is =
        let r = each_from_last names in
        let s = members_same at coffer tree other d e r.0 node (ap (node_at tree) r.1 ∙ is) in
        ap (node_at other) (sym r.1) ∙ s.node_is

    back_is : (node : Node) → node_at other names ≡ Some node → node_at tree names ≡ Some node
    back_is node is =
        let r = each_from_last names in
        let s = members_same at coffer other tree e d r.0 node (ap (node_at other) r.1 ∙ is) in
        ap (node_at tree) (sym r.1) ∙ s.node_is

    by : (a b : Option Node) → node_at tree names ≡ a → node_at other names ≡ b → node_at tree names ≡ node_at other names
    by (Some n) b x y = x ∙ sym (forth_is n x)
    by None (Some n) x y = back_is n y ∙ sym y
    by None None x y = x ∙ sym y

-- what a coffer's words denote stays with the words that tell it
pub node_stays : (before after : ℕ → ℕ) (coffer : CofferAt) (tree : List Member) (use_of : ℕ → Use) (page_of : List (List ℕ) → ℕ) (names : List (List ℕ)) (node : Node)
    → KeepsTree before after coffer tree page_of → node_at tree names ≡ Some node
    → IsNode before (IsEntryPage coffer use_of names) (wanted page_of coffer tree names) (page_at (page_of names)) node
    → IsNode after (IsEntryPage coffer use_of names) (wanted page_of coffer tree names) (page_at (page_of names)) node
node_stays before after coffer tree use_of page_of names Directory keeps is shown = (
  keeps.kinds names Directory is ∙ shown.0,
  shows_stay (IsEntryPage coffer use_of names) (IsEntryPage coffer use_of names) before after (page_at (page_of names)) (wanted page_of coffer tree names) shown.1 (keeps.names names is) (λ page p. p),
)
node_stays before after coffer tree use_of page_of names (FileOf bytes) keeps is shown = (
  keeps.kinds names (FileOf bytes) is ∙ shown.0,
  (keeps.maps names bytes is ∙ shown.1.0, shown.1.1),
)

denotes_stays : (before after : ℕ → ℕ) (coffer : CofferAt) (tree : List Member) (d : Denotes before coffer tree) → KeepsTree before after coffer tree d.page_of → Denotes after coffer tree
denotes_stays before after coffer tree d keeps = record {
  use_of = d.use_of;
  page_of = d.page_of;
  control = d.control;
  no_intent = keeps.intent ∙ d.no_intent;
  root = d.root;
  root_stands = d.root_stands;
  root_page = d.root_page;
  once = d.once;
  members = λ names node is.
      let m = d.members names node is in
      record { coffers = m.coffers; object = m.object; shown = node_stays before after coffer tree d.use_of d.page_of names node keeps is m.shown };
  inside = d.inside;
  limits = d.limits;
  below = d.below;
}

pub tree_stays : TreeStays
unfolding denotes_stays
tree_stays before after coffer tree d keeps = (denotes_stays before after coffer tree d keeps, record { uses = refl; pages = refl })

pub rest_stays : RestStays
unfolding denotes_stays
rest_stays before after coffer tree r keeps free = (
  record {
    denotes = denotes_stays before after coffer tree r.denotes keeps;
    frees = r.frees;
    free = λ names dir.
        let m = r.denotes.members names Directory dir in
        free_stays (IsEntryPage coffer r.denotes.use_of names) before after (page_at (r.denotes.page_of names)) (wanted r.denotes.page_of coffer tree names) (r.frees names) m.shown.1
        (keeps.names names dir) (free.firsts names dir) (λ entry c. free.links names entry dir c) (r.free names dir);
    first = λ names dir. first_stays (IsEntryPage coffer r.denotes.use_of names) before after (page_at (r.denotes.page_of names)) (free.entry_pages names dir) (r.first names dir);
    pool = λ pool low. free.pools pool low ∙ r.pool pool low;
  },
  record { uses = refl; pages = refl },
  refl,
)
