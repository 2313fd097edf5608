-- What a new member leaves of its coffer, before the commit and after it.
use Rattle.std.proofs.Common.{◌≡◌, ◌≢◌, ◌⊎◌, inl, inr, ℕ, zero, suc, ◌+◌, ◌/◌, ◌<◌, Bool, true, false, cond, List, [], ◌∷◌, ◌++◌, take, slice_index, Contains, Option, Some, None, refl, sym, subst, ap, ◌∙◌, arith}
use Rattle.std.proofs.lemmas.Bool.{cases_eq, cond-true, cond-false}
use Rattle.std.proofs.lemmas.List.{append_assoc}
use Rattle.std.proofs.lemmas.List.Elements.{Contains-append_left, Contains-append_right}
use Rattle.std.proofs.lemmas.Option.{none-some}
use Rattle.std.specs.Cmp.Lexicographic.{bytes_decides}
use Rattle.std.specs.List.{IsDistinct, list_any}
use Rattle.zo_layout.specs.Layout.{page_at, word_of, bucket_head, bucket_of, control_intent, first_entry_page, page_kind, file_map, pool_head}
use Rattle.tr_types.specs.Paths.{same_text}
use Rattle.zo_model.specs.Tree.{Member, Node, Directory, FileOf, node_at, same_names}
use Rattle.zo_model.specs.Directory.{Shows, HasFree, HasFirst}
use Rattle.zo_model.specs.CofferWords.{CofferAt, Use, Control, Object, Entries, target_of, wanted, IsEntryPage, IsNode, IsMember, IsDir, IsInLimits, Denotes, Rests}
use Rattle.zo_plan.specs.declared.place.Place.{Place}
use Rattle.zo_plan.specs.declared.plan.Operand.{Operand}
use Rattle.zo_plan.specs.Operands.{real}
use Rattle.zo_laws.specs.Stores.{after_stores}
use Rattle.zo_laws.specs.Linking.{with_name, PagesAfter, frees_after, CanLink, IsLinked, prepares_of, commit_of}
use Rattle.zo_laws.specs.Making.{IsEmpty, making, with_pages, CanMake, all_prepares, with_member, IsMade}
use Rattle.zo_laws.proofs.Members.{contains_none}
use Rattle.zo_laws.proofs.StoreLemmas.{put_here, put_other, Aside, Within, within-append, within-weaker, within-take, after_aside, after-append}
use Rattle.zo_laws.proofs.PageLemmas.{AtPage, KeepsPages, keeps_pages, shows_page, node_page, free_page, shows_more, shows_want, free_more, first_more, first_page}
use Rattle.zo_laws.proofs.MemberLemmas.{same_names_decides, names_unlike, cases_names, last_same, longer, not_root, node_kept, one_member, node_new, node_other, node_cases, once_more, page_after, page_new, page_other, use_after, use_made, use_fresh, use_kept, some_same}
use Rattle.zo_laws.proofs.LinkLemmas.{LinkPages, links, link_pages, link_kind, link_first, link_first_fresh, free_at}

pub making_in : (node : Node) (made : ℕ) → Within (AtPage (λ p. p ≡ made)) (making node made)
making_in Directory made = tt
making_in (FileOf bytes) made = (omega arith, tt)

-- what is known before the first store, and after it and any number behind it, is known after any number of all
pub prefixes : (X : (ℕ → ℕ) → Type 0) (at : ℕ → ℕ) (node : Node) (made : ℕ) (pairs : List (ℕ × ℕ)) → X at → ((k : ℕ) → X (after_stores (after_stores at (making node made)) (take k pairs)))
    → (count : ℕ) → X (after_stores at (take count (making node made ++ pairs)))
prefixes X at Directory made pairs base all count = all count
prefixes X at (FileOf bytes) made pairs base all zero = base
prefixes X at (FileOf bytes) made pairs base all (suc k) = all k

object_same : (xs ys : List (List ℕ)) → Object xs ≡ Object ys → xs ≡ ys
object_same xs ys e = cc

entries_same : (xs ys : List (List ℕ)) → Entries xs ≡ Entries ys → xs ≡ ys
entries_same xs ys e = cc

object_entries : (xs ys : List (List ℕ)) → Object xs ≡ Entries ys → ⊥
object_entries xs ys e = cc

control_object : (ys : List (List ℕ)) → Control ≡ Object ys → ⊥
control_object ys e = cc

control_entries : (ys : List (List ℕ)) → Control ≡ Entries ys → ⊥
control_entries ys e = cc

differ : true ≡ false → ⊥
differ e = cc

-- the same member, of which the same is wanted
node_want : (w : ℕ → ℕ) (P : ℕ → Type 0) (page : ℕ) (want other : List ℕ → Option ℕ) (n : Node) → ((m : List ℕ) → want m ≡ other m) → IsNode w P want page n → IsNode w P other page n
node_want w P page want other Directory same shown = (shown.0, shows_want w P page want other same shown.1)
node_want w P page want other (FileOf bytes) same shown = shown

-- a directory of zeros shows no name
shows_none : (w : ℕ → ℕ) (P : ℕ → Type 0) (made : ℕ) (want : List ℕ → Option ℕ) → ((i : ℕ) → i < 512 → w (word_of (page_at made) i) ≡ 0) → ((m : List ℕ) → want m ≡ None) → Shows w P (page_at made) want
unfolding IsDistinct
shows_none w P made want zeros none b low = record {
  entries = [];
  leads = zeros (256 + b) (omega arith);
  each = λ e among. absurd (contains_none e among);
  once = tt;
  names = λ m in_bucket. sym (none m);
}

-- the new member's page
new_shown : (node : Node) (made : ℕ) (at w : ℕ → ℕ) (P : ℕ → Type 0) (want : List ℕ → Option ℕ) → IsEmpty node → ((a : ℕ) → a / 4096 ≡ made → w a ≡ after_stores at (making node made) a)
    → ((i : ℕ) → i < 512 → at (word_of (page_at made) i) ≡ 0) → ((m : List ℕ) → want m ≡ None) → IsNode w P want (page_at made) node
new_shown Directory made at w P want empty same blank none =
    let zeros = λ (i : ℕ) (low : i < 512). same (word_of (page_at made) i) (omega arith) ∙ blank i low in
    let first : page_kind (page_at made) ≡ word_of (page_at made) 0 = omega arith in
    (ap w first ∙ zeros 0 (omega arith), shows_none w P made want zeros none)
new_shown (FileOf bytes) made at w P want empty same blank none = (
  same (page_kind (page_at made)) (omega arith) ∙ put_here at (page_kind (page_at made)) 1 (page_kind (page_at made)) refl,
  (same (file_map (page_at made)) (omega arith) ∙ put_other at (page_kind (page_at made)) 1 (file_map (page_at made)) (λ e. omega arith) ∙ blank 1 (omega arith), empty),
)

making_word : (node : Node) (made : ℕ) (at : ℕ → ℕ) (a : ℕ) → a / 8 ≢ page_kind (page_at made) / 8 → after_stores at (making node made) a ≡ at a
making_word Directory made at a other = refl
making_word (FileOf bytes) made at a other = put_other at (page_kind (page_at made)) 1 a other

module _ (at : ℕ → ℕ) (coffer : CofferAt) (tree : List Member) (r : Rests at coffer tree) (names : List (List ℕ)) (name : List ℕ) (node : Node) (place : Place) (target : Operand) (drawn : List ℕ) (made fresh : ℕ)
    (can : CanMake at coffer tree r names name node place target drawn made fresh) where
  abbrev pub full : List (List ℕ)
  full = names ++ name ∷ []

  abbrev pub dir_page : ℕ
  dir_page = r.denotes.page_of names

  abbrev pub Old : List (List ℕ) → ℕ → Type 0
  Old ns = IsEntryPage coffer r.denotes.use_of ns

  abbrev pub uses : ℕ → Use
  uses = use_after r.denotes.use_of place names full made fresh

  abbrev pub New : List (List ℕ) → ℕ → Type 0
  New ns = IsEntryPage (with_pages coffer drawn) uses ns

  abbrev pub want : List ℕ → Option ℕ
  want = wanted r.denotes.page_of coffer tree names

  abbrev pub prepares : List (ℕ × ℕ)
  prepares = prepares_of (page_at dir_page) place name target drawn

  -- the pages that all stores go to
  abbrev pub Touched : ℕ → Type 0
  Touched page = (page ≡ made) ⊎ LinkPages (Old names) dir_page place fresh page

  pub dir_member : IsMember at coffer tree r.denotes.use_of r.denotes.page_of names Directory
  dir_member = r.denotes.members names Directory can.dir

  pub not_drawn : (p : ℕ) → Contains coffer.pages p → (q : ℕ) → Contains drawn q → p ≢ q
  not_drawn p among q is same = (can.each q is).outside (subst (Contains coffer.pages) same among)

  pub kept_use : (p : ℕ) → Contains coffer.pages p → uses p ≡ r.denotes.use_of p
  kept_use p among = use_kept r.denotes.use_of place names full made fresh p (not_drawn p among made can.made_drawn) (λ none. not_drawn p among fresh (can.fresh_drawn none).among)

  pub control_use : uses coffer.control ≡ Control
  control_use =
      use_kept r.denotes.use_of place names full made fresh coffer.control (λ same. (can.each made can.made_drawn).not_control (sym same)) (λ none same. (can.each fresh (can.fresh_drawn none).among).not_control (sym same))
      ∙ r.denotes.control

  pub more : (ns : List (List ℕ)) (q : ℕ) → Old ns q → New ns q
  more ns q p = record { coffers = Contains-append_left coffer.pages drawn q p.coffers; entries = kept_use q p.coffers ∙ p.entries }

  pub after_more : (q : ℕ) → PagesAfter (Old names) place fresh q → New names q
  after_more q (inl p) = more names q p
  after_more q (inr (none, is)) =
      let drawn_is = can.fresh_drawn none in
      subst (New names) (sym is) (record { coffers = Contains-append_right coffer.pages drawn fresh drawn_is.among; entries = use_fresh r.denotes.use_of place names full made fresh none drawn_is.other })

  -- the words with the object's page
  abbrev pub begun : ℕ → ℕ
  begun = after_stores at (making node made)

  pub keeps_begun : KeepsPages at begun (λ p. p ≡ made)
  keeps_begun = keeps_pages at (λ p. p ≡ made) (making node made) (making_in node made)

  dir_not_made : dir_page ≢ made
  dir_not_made = not_drawn dir_page dir_member.coffers made can.made_drawn

  old_not_made : (q : ℕ) → Old names q → q ≡ made → ⊥
  old_not_made q p = not_drawn q p.coffers made can.made_drawn

  pub can_link : CanLink begun (Old names) dir_page want (r.frees names) name place fresh
  can_link =
      let free = r.free names can.dir in
      let word = λ (i : ℕ) (low : i < 512). keeps_begun (word_of (page_at dir_page) i) dir_page (omega arith) dir_not_made in
      record {
        not_entries = λ p. object_entries names names (sym dir_member.object ∙ p.entries);
        shows = shows_page at begun (λ p. p ≡ made) (Old names) (Old names) dir_page want keeps_begun dir_not_made old_not_made (λ q p. p) dir_member.shown.1;
        free = free_page at begun (λ p. p ≡ made) (Old names) (Old names) dir_page want (r.frees names) keeps_begun dir_not_made old_not_made (λ q p. p) dir_member.shown.1 free;
        is_name = can.is_name;
        missing = ap (target_of r.denotes.page_of coffer full) can.missing ∙ cond-false (list_any (same_names full) coffer.below) (Some 1) None can.no_coffer;
        found = record {
          bucket = can.found.bucket;
          head = can.found.head ∙ sym (word (256 + bucket_of name) (omega arith));
          first = λ none. can.found.first none ∙ sym (word 4 (omega arith));
          free = can.found.free ∙ sym (word 5 (omega arith));
          free_next = λ some.
              let p = free_at (Old names) (page_at dir_page) place.free at (r.frees names) can.found.free free some in
              can.found.free_next some ∙ sym (keeps_begun place.free p.page (let is = p.is in let twelve = p.twelve in omega arith) (old_not_made p.page p.entries));
        };
        drawn = λ none.
            let is = can.fresh_drawn none in
            let page = can.each fresh is.among in
            record {
              not_dir = λ same. page.outside (subst (Contains coffer.pages) (sym same) dir_member.coffers);
              not_entries = λ p. page.outside p.coffers;
              blank = λ i low. keeps_begun (word_of (page_at fresh) i) fresh (omega arith) is.other ∙ page.blank i low;
            };
      }

  pub first_drawn : place.free ≡ 0 → slice_index drawn 0 ≡ fresh
  first_drawn none = (can.fresh_drawn none).first

  pub linked : IsLinked begun (Old names) dir_page want (r.frees names) name place target drawn fresh
  linked = links begun (Old names) dir_page want (r.frees names) name place target drawn fresh can_link first_drawn

  pub prepares_in : Within (AtPage (LinkPages (Old names) dir_page place fresh)) prepares
  prepares_in = link_pages begun (Old names) dir_page want (r.frees names) name place target drawn fresh can_link first_drawn

  pub prepares_kind : Within (Aside (page_kind (page_at dir_page))) prepares
  prepares_kind = link_kind begun (Old names) dir_page want (r.frees names) name place target drawn fresh can_link first_drawn

  -- what other members read lies in other pages
  pub member_off : (ns : List (List ℕ)) (n : Node) → ns ≢ names → node_at tree ns ≡ Some n → Touched (r.denotes.page_of ns) → ⊥
  member_off ns n other is touched = by touched
    where
      m : IsMember at coffer tree r.denotes.use_of r.denotes.page_of ns n
      m = r.denotes.members ns n is

      by : Touched (r.denotes.page_of ns) → ⊥
      by (inl same) = not_drawn (r.denotes.page_of ns) m.coffers made can.made_drawn same
      by (inr (inl same)) = other (object_same ns names (sym m.object ∙ ap r.denotes.use_of same ∙ dir_member.object))
      by (inr (inr (inl p))) = object_entries ns names (sym m.object ∙ p.entries)
      by (inr (inr (inr (none, same)))) = not_drawn (r.denotes.page_of ns) m.coffers fresh (can.fresh_drawn none).among same

  pub entries_off : (ns : List (List ℕ)) → ns ≢ names → (q : ℕ) → Old ns q → Touched q → ⊥
  entries_off ns other q p (inl same) = not_drawn q p.coffers made can.made_drawn same
  entries_off ns other q p (inr (inl same)) = object_entries names ns (sym dir_member.object ∙ ap r.denotes.use_of (sym same) ∙ p.entries)
  entries_off ns other q p (inr (inr (inl o))) = other (entries_same ns names (sym p.entries ∙ o.entries))
  entries_off ns other q p (inr (inr (inr (none, same)))) = not_drawn q p.coffers fresh (can.fresh_drawn none).among same

  pub control_off : Touched coffer.control → ⊥
  control_off (inl same) = (can.each made can.made_drawn).not_control (sym same)
  control_off (inr (inl same)) = control_object names (sym r.denotes.control ∙ ap r.denotes.use_of same ∙ dir_member.object)
  control_off (inr (inr (inl p))) = control_entries names (sym r.denotes.control ∙ p.entries)
  control_off (inr (inr (inr (none, same)))) = (can.each fresh (can.fresh_drawn none).among).not_control (sym same)

  -- a member over words that keep the other pages
  pub node_now : (w : ℕ → ℕ) → KeepsPages at w Touched → IsNode w (New names) want (page_at dir_page) Directory → (ns : List (List ℕ)) (n : Node) → node_at tree ns ≡ Some n
      → IsNode w (New ns) (wanted r.denotes.page_of coffer tree ns) (page_at (r.denotes.page_of ns)) n
  node_now w keeps dir ns n is = by (cases_names ns names)
    where
      by : (ns ≡ names) ⊎ (ns ≢ names) → IsNode w (New ns) (wanted r.denotes.page_of coffer tree ns) (page_at (r.denotes.page_of ns)) n
      by (inl same) =
          let directory : Directory ≡ n = some_same Directory n (sym can.dir ∙ ap (node_at tree) (sym same) ∙ is) in
          subst (λ (k : Node). IsNode w (New ns) (wanted r.denotes.page_of coffer tree ns) (page_at (r.denotes.page_of ns)) k) directory
          (subst (λ (k : List (List ℕ)). IsNode w (New k) (wanted r.denotes.page_of coffer tree k) (page_at (r.denotes.page_of k)) Directory) (sym same) dir)
      by (inr other) =
          node_page at w Touched (Old ns) (New ns) (r.denotes.page_of ns) (wanted r.denotes.page_of coffer tree ns) n keeps (member_off ns n other is) (entries_off ns other) (more ns)
          (r.denotes.members ns n is).shown

  pub denotes_now : (w : ℕ → ℕ) → KeepsPages at w Touched → IsNode w (New names) want (page_at dir_page) Directory → Denotes w (with_pages coffer drawn) tree
  denotes_now w keeps dir = record {
    use_of = uses;
    page_of = r.denotes.page_of;
    control = control_use;
    no_intent = keeps (control_intent (page_at coffer.control)) coffer.control (omega arith) control_off ∙ r.denotes.no_intent;
    root = r.denotes.root;
    root_stands = r.denotes.root_stands;
    root_page = r.denotes.root_page;
    once = r.denotes.once;
    members = λ ns n is.
        let m = r.denotes.members ns n is in
        record {
          coffers = Contains-append_left coffer.pages drawn (r.denotes.page_of ns) m.coffers;
          object = kept_use (r.denotes.page_of ns) m.coffers ∙ m.object;
          shown = node_now w keeps dir ns n is;
        };
    inside = r.denotes.inside;
    limits = r.denotes.limits;
    below = r.denotes.below;
  }

  all_in : Within (AtPage Touched) (making node made ++ prepares)
  all_in = within-append (AtPage Touched) (making node made) prepares
      (within-weaker (AtPage (λ p. p ≡ made)) (AtPage Touched) (λ a is. inl is) (making node made) (making_in node made))
      (within-weaker (AtPage (LinkPages (Old names) dir_page place fresh)) (AtPage Touched) (λ a is. inr is) prepares prepares_in)

  -- the directory while the change is prepared
  dir_before : (count : ℕ) → IsNode (after_stores at (take count (making node made ++ prepares))) (New names) want (page_at dir_page) Directory
  dir_before = prefixes (λ w. IsNode w (New names) want (page_at dir_page) Directory) at node made prepares
      (dir_member.shown.0, shows_more at (Old names) (New names) (page_at dir_page) want (more names) dir_member.shown.1)
      (λ k. (
        after_aside begun (take k prepares) (page_kind (page_at dir_page)) (within-take (Aside (page_kind (page_at dir_page))) k prepares prepares_kind)
            ∙ keeps_begun (page_kind (page_at dir_page)) dir_page (omega arith) dir_not_made
            ∙ dir_member.shown.0,
        shows_more (after_stores begun (take k prepares)) (Old names) (New names) (page_at dir_page) want (more names) (linked.prepared k),
      ))

  -- before the commit the words denote the tree as it was
  pub before : (count : ℕ) → Denotes (after_stores at (take count (all_prepares (page_at dir_page) place name node made target drawn))) (with_pages coffer drawn) tree
  before count =
      denotes_now (after_stores at (take count (making node made ++ prepares)))
      (keeps_pages at Touched (take count (making node made ++ prepares)) (within-take (AtPage Touched) count (making node made ++ prepares) all_in))
      (dir_before count)

  -- the words after the commit
  abbrev pub after_commit : ℕ → ℕ
  after_commit = after_stores begun (prepares ++ commit_of place drawn ∷ [])

  abbrev pub grown_tree : List Member
  grown_tree = with_member tree names name node

  abbrev pub pages : List (List ℕ) → ℕ
  pages = page_after r.denotes.page_of full made

  made_is : Contains (coffer.pages ++ drawn) made
  made_is = Contains-append_right coffer.pages drawn made can.made_drawn

  commit_at : commit_of place drawn ≡ (bucket_head (page_at dir_page) (bucket_of name), (commit_of place drawn).1)
  commit_at = λ i. (can.found.bucket i, (commit_of place drawn).1)

  committing_in : Within (AtPage (LinkPages (Old names) dir_page place fresh)) (prepares ++ commit_of place drawn ∷ [])
  committing_in = within-append (AtPage (LinkPages (Old names) dir_page place fresh)) prepares (commit_of place drawn ∷ []) prepares_in
      (inl (omega (arith, can.found.bucket)), tt)

  -- words that the link's stores leave
  keeps_linked : KeepsPages begun after_commit (LinkPages (Old names) dir_page place fresh)
  keeps_linked = keeps_pages begun (LinkPages (Old names) dir_page place fresh) (prepares ++ commit_of place drawn ∷ []) committing_in

  pub keeps_all : KeepsPages at after_commit Touched
  keeps_all a p there off = keeps_linked a p there (λ is. off (inr is)) ∙ keeps_begun a p there (λ is. off (inl is))

  made_off : LinkPages (Old names) dir_page place fresh made → ⊥
  made_off (inl same) = dir_not_made (sym same)
  made_off (inr (inl p)) = old_not_made made p refl
  made_off (inr (inr (none, same))) = (can.fresh_drawn none).other (sym same)

  pub made_word : (a : ℕ) → a / 4096 ≡ made → after_commit a ≡ begun a
  made_word a there = keeps_linked a made there made_off

  -- the directory's words beside its heads and its word for free entries
  dir_word : (a : ℕ) → Within (Aside a) prepares → a / 4096 ≡ dir_page → a / 8 ≢ bucket_head (page_at dir_page) (bucket_of name) / 8 → after_commit a ≡ at a
  dir_word a aside there other =
      after_aside begun (prepares ++ commit_of place drawn ∷ []) a (within-append (Aside a) prepares (commit_of place drawn ∷ []) aside ((λ same. other (same ∙ ap (λ (b : ℕ). b / 8) can.found.bucket)), tt))
      ∙ keeps_begun a dir_page there dir_not_made

  -- what is wanted with the new member
  target_pages : (ns : List (List ℕ)) (o : Option Node) → pages ns ≡ r.denotes.page_of ns → target_of r.denotes.page_of coffer ns o ≡ target_of pages (with_pages coffer drawn) ns o
  target_pages ns (Some n) same = ap (λ (p : ℕ). Some (page_at p)) (sym same)
  target_pages ns None same = refl

  pub wanted_other : (ns : List (List ℕ)) → ns ≢ full → target_of r.denotes.page_of coffer ns (node_at tree ns) ≡ target_of pages (with_pages coffer drawn) ns (node_at grown_tree ns)
  wanted_other ns other =
      target_pages ns (node_at tree ns) (page_other r.denotes.page_of full made ns other)
      ∙ ap (target_of pages (with_pages coffer drawn) ns) (sym (node_other tree full ns node other))

  wanted_full : Some (real drawn target) ≡ target_of pages (with_pages coffer drawn) full (node_at grown_tree full)
  wanted_full =
      ap Some (can.target_is ∙ ap page_at (sym (page_new r.denotes.page_of full made)))
      ∙ ap (target_of pages (with_pages coffer drawn) full) (sym (node_new tree full node can.missing))

  dir_wanted : (m : List ℕ) → with_name want name (real drawn target) m ≡ wanted pages (with_pages coffer drawn) grown_tree names m
  dir_wanted m = by (same_text name m) refl
    where
      by : (b : Bool) → same_text name m ≡ b → cond b (Some (real drawn target)) (want m) ≡ wanted pages (with_pages coffer drawn) grown_tree names m
      by true is = subst (λ (n : List ℕ). Some (real drawn target) ≡ wanted pages (with_pages coffer drawn) grown_tree names n) ((bytes_decides name m).0 is) wanted_full
      by false is = wanted_other (names ++ m ∷ []) (λ same. (let yes = (bytes_decides name m).1 (sym (last_same names names m name same).1) in differ (sym yes ∙ is)))

  dir_after : IsNode after_commit (New names) (wanted pages (with_pages coffer drawn) grown_tree names) (page_at dir_page) Directory
  dir_after = (
    dir_word (page_kind (page_at dir_page)) prepares_kind (omega arith) (kind_apart (bucket_of name)) ∙ dir_member.shown.0,
    shows_want after_commit (New names) (page_at dir_page) (with_name want name (real drawn target)) (wanted pages (with_pages coffer drawn) grown_tree names) dir_wanted
        (shows_more after_commit (PagesAfter (Old names) place fresh) (New names) (page_at dir_page) (with_name want name (real drawn target)) after_more linked.shows),
  )
    where
      kind_apart : (b : ℕ) → page_kind (page_at dir_page) / 8 ≢ bucket_head (page_at dir_page) b / 8
      kind_apart b same = omega arith

  -- an old member after the commit
  node_after : (ns : List (List ℕ)) (n : Node) → node_at tree ns ≡ Some n → IsNode after_commit (New ns) (wanted pages (with_pages coffer drawn) grown_tree ns) (page_at (r.denotes.page_of ns)) n
  node_after ns n is = by (cases_names ns names)
    where
      by : (ns ≡ names) ⊎ (ns ≢ names) → IsNode after_commit (New ns) (wanted pages (with_pages coffer drawn) grown_tree ns) (page_at (r.denotes.page_of ns)) n
      by (inl same) =
          let directory : Directory ≡ n = some_same Directory n (sym can.dir ∙ ap (node_at tree) (sym same) ∙ is) in
          subst (λ (k : Node). IsNode after_commit (New ns) (wanted pages (with_pages coffer drawn) grown_tree ns) (page_at (r.denotes.page_of ns)) k) directory
          (subst (λ (k : List (List ℕ)). IsNode after_commit (New k) (wanted pages (with_pages coffer drawn) grown_tree k) (page_at (r.denotes.page_of k)) Directory) (sym same) dir_after)
      by (inr other) =
          node_want after_commit (New ns) (page_at (r.denotes.page_of ns)) (wanted r.denotes.page_of coffer tree ns) (wanted pages (with_pages coffer drawn) grown_tree ns) n
          (λ m. wanted_other (ns ++ m ∷ []) (λ same. other (last_same ns names m name same).0))
          (node_page at after_commit Touched (Old ns) (New ns) (r.denotes.page_of ns) (wanted r.denotes.page_of coffer tree ns) n keeps_all (member_off ns n other is) (entries_off ns other) (more ns)
          (r.denotes.members ns n is).shown)

  -- nothing stands below the new member
  none_below : (m : List ℕ) → wanted pages (with_pages coffer drawn) grown_tree full m ≡ None
  none_below m =
      ap (target_of pages (with_pages coffer drawn) (full ++ m ∷ [])) (node_other tree full (full ++ m ∷ []) node (longer full m) ∙ nothing (node_at tree (full ++ m ∷ [])) refl)
      ∙ ap (λ (b : Bool). cond b (Some 1) None) (no_coffer (list_any (same_names (full ++ m ∷ [])) coffer.below) refl)
    where
      nothing : (o : Option Node) → node_at tree (full ++ m ∷ []) ≡ o → node_at tree (full ++ m ∷ []) ≡ None
      nothing (Some n) is = absurd (none-some Directory (sym can.missing ∙ r.denotes.inside full m n is))
      nothing None is = is

      no_coffer : (b : Bool) → list_any (same_names (full ++ m ∷ [])) coffer.below ≡ b → list_any (same_names (full ++ m ∷ [])) coffer.below ≡ false
      no_coffer true is = absurd (none-some Directory (sym can.missing ∙ (r.denotes.below full m is).0))
      no_coffer false is = is

  member_new : IsMember after_commit (with_pages coffer drawn) grown_tree uses pages full node
  member_new =
      let page_is = page_new r.denotes.page_of full made in
      record {
        coffers = subst (Contains (coffer.pages ++ drawn)) (sym page_is) made_is;
        object = ap uses page_is ∙ use_made r.denotes.use_of place names full made fresh;
        shown = subst (λ (p : ℕ). IsNode after_commit (New full) (wanted pages (with_pages coffer drawn) grown_tree full) (page_at p) node) (sym page_is)
            (new_shown node made at after_commit (New full) (wanted pages (with_pages coffer drawn) grown_tree full) can.empty made_word (can.each made can.made_drawn).blank none_below);
      }

  member_after : (ns : List (List ℕ)) (n : Node) → node_at grown_tree ns ≡ Some n → IsMember after_commit (with_pages coffer drawn) grown_tree uses pages ns n
  member_after ns n is = by (node_cases tree full ns node n can.missing is)
    where
      by : ((ns ≢ full) × (node_at tree ns ≡ Some n)) ⊎ ((ns ≡ full) × (node ≡ n)) → IsMember after_commit (with_pages coffer drawn) grown_tree uses pages ns n
      by (inl (other, was)) =
          let m = r.denotes.members ns n was in
          let page_is = page_other r.denotes.page_of full made ns other in
          record {
            coffers = subst (Contains (coffer.pages ++ drawn)) (sym page_is) (Contains-append_left coffer.pages drawn (r.denotes.page_of ns) m.coffers);
            object = ap uses page_is ∙ kept_use (r.denotes.page_of ns) m.coffers ∙ m.object;
            shown = subst (λ (p : ℕ). IsNode after_commit (New ns) (wanted pages (with_pages coffer drawn) grown_tree ns) (page_at p) n) (sym page_is) (node_after ns n was);
          }
      by (inr (same, one)) =
          subst (λ (k : List (List ℕ)). IsMember after_commit (with_pages coffer drawn) grown_tree uses pages k n) (sym same)
          (subst (IsMember after_commit (with_pages coffer drawn) grown_tree uses pages full) one member_new)

  dir_stays : (ns : List (List ℕ)) → IsDir tree ns → IsDir grown_tree ns
  dir_stays ns is = node_kept tree (one_member full node) ns Directory is

  inside_after : (ns : List (List ℕ)) (m : List ℕ) (n : Node) → node_at grown_tree (ns ++ m ∷ []) ≡ Some n → IsDir grown_tree ns
  inside_after ns m n is = by (node_cases tree full (ns ++ m ∷ []) node n can.missing is)
    where
      by : ((ns ++ m ∷ [] ≢ full) × (node_at tree (ns ++ m ∷ []) ≡ Some n)) ⊎ ((ns ++ m ∷ [] ≡ full) × (node ≡ n)) → IsDir grown_tree ns
      by (inl (other, was)) = dir_stays ns (r.denotes.inside ns m n was)
      by (inr (same, one)) = subst (IsDir grown_tree) (sym (last_same ns names m name same).0) (dir_stays names can.dir)

  below_after : (ns : List (List ℕ)) (m : List ℕ) → list_any (same_names (ns ++ m ∷ [])) coffer.below ≡ true → IsDir grown_tree ns × (node_at grown_tree (ns ++ m ∷ []) ≡ None)
  below_after ns m is =
      let was = r.denotes.below ns m is in (
        dir_stays ns was.0,
        node_other tree full (ns ++ m ∷ []) node (λ same. differ (sym is ∙ ap (λ (k : List (List ℕ)). list_any (same_names k) coffer.below) same ∙ can.no_coffer)) ∙ was.1,
      )

  limits_after : (ns : List (List ℕ)) (m : List ℕ) (t : ℕ) → IsDir grown_tree ns → wanted pages (with_pages coffer drawn) grown_tree ns m ≡ Some t → IsInLimits (coffer.path ++ (ns ++ m ∷ []))
  limits_after ns m t dir is = by (cases_names (ns ++ m ∷ []) full) (cases_names ns full)
    where
      by : (ns ++ m ∷ [] ≡ full) ⊎ (ns ++ m ∷ [] ≢ full) → (ns ≡ full) ⊎ (ns ≢ full) → IsInLimits (coffer.path ++ (ns ++ m ∷ []))
      by (inl same) _ = subst (λ (k : List (List ℕ)). IsInLimits (coffer.path ++ k)) (sym same) can.limits
      by (inr other) (inl same) = absurd (none-some t (sym (none_below m) ∙ ap (λ (k : List (List ℕ)). wanted pages (with_pages coffer drawn) grown_tree k m) (sym same) ∙ is))
      by (inr other) (inr old) = r.denotes.limits ns m t (sym (node_other tree full ns node old) ∙ dir) (wanted_other (ns ++ m ∷ []) other ∙ is)

  pub denotes_after : Denotes after_commit (with_pages coffer drawn) grown_tree
  denotes_after = record {
    use_of = uses;
    page_of = pages;
    control = control_use;
    no_intent = keeps_all (control_intent (page_at coffer.control)) coffer.control (omega arith) control_off ∙ r.denotes.no_intent;
    root = r.denotes.root;
    root_stands = node_kept tree (one_member full node) [] r.denotes.root r.denotes.root_stands;
    root_page = page_other r.denotes.page_of full made [] (not_root names name) ∙ r.denotes.root_page;
    once = once_more tree full node can.missing r.denotes.once;
    members = member_after;
    inside = inside_after;
    limits = limits_after;
    below = below_after;
  }

  -- the free entries after the commit
  abbrev pub frees_now : List (List ℕ) → List ℕ
  frees_now ns = cond (same_names ns names) (frees_after place fresh (r.frees names)) (cond (same_names ns full) [] (r.frees ns))

  old_not_full : names ≢ full
  old_not_full same = longer names name (sym same)

  page_names : pages names ≡ dir_page
  page_names = page_other r.denotes.page_of full made names old_not_full

  free_names : HasFree after_commit (New names) (page_at (pages names)) (frees_now names)
  free_names =
      subst (λ (p : ℕ). HasFree after_commit (New names) (page_at p) (frees_now names)) (sym page_names)
      (subst (HasFree after_commit (New names) (page_at dir_page)) (sym (cond-true (same_names names names) (frees_after place fresh (r.frees names)) (cond (same_names names full) [] (r.frees names)) ((same_names_decides names names).1 refl)))
      (free_more after_commit (PagesAfter (Old names) place fresh) (New names) (page_at dir_page) (frees_after place fresh (r.frees names)) after_more linked.free_after))

  made_zero : (i : ℕ) → 0 < i → i < 512 → after_commit (word_of (page_at (pages full)) i) ≡ 0
  made_zero i some low =
      ap (λ (p : ℕ). after_commit (word_of (page_at p) i)) (page_new r.denotes.page_of full made)
      ∙ made_word (word_of (page_at made) i) (omega arith)
      ∙ making_word node made at (word_of (page_at made) i) (λ same. omega arith)
      ∙ (can.each made can.made_drawn).blank i low

  free_full : full ≢ names → HasFree after_commit (New full) (page_at (pages full)) (frees_now full)
  free_full other =
      subst (HasFree after_commit (New full) (page_at (pages full)))
      (sym (cond-false (same_names full names) (frees_after place fresh (r.frees names)) (cond (same_names full full) [] (r.frees full)) (names_unlike full names other) ∙ cond-true (same_names full full) [] (r.frees full) ((same_names_decides full full).1 refl)))
      (record { leads = made_zero 5 (omega arith) (omega arith); each = λ e among. absurd (contains_none e among) })

  frees_old : (ns : List (List ℕ)) → ns ≢ names → ns ≢ full → frees_now ns ≡ r.frees ns
  frees_old ns other old =
      cond-false (same_names ns names) (frees_after place fresh (r.frees names)) (cond (same_names ns full) [] (r.frees ns)) (names_unlike ns names other)
      ∙ cond-false (same_names ns full) [] (r.frees ns) (names_unlike ns full old)

  free_old : (ns : List (List ℕ)) → ns ≢ names → ns ≢ full → IsDir tree ns → HasFree after_commit (New ns) (page_at (pages ns)) (frees_now ns)
  free_old ns other old dir =
      subst (λ (p : ℕ). HasFree after_commit (New ns) (page_at p) (frees_now ns)) (sym (page_other r.denotes.page_of full made ns old))
      (subst (HasFree after_commit (New ns) (page_at (r.denotes.page_of ns))) (sym (frees_old ns other old))
      (free_page at after_commit Touched (Old ns) (New ns) (r.denotes.page_of ns) (wanted r.denotes.page_of coffer tree ns) (r.frees ns) keeps_all (member_off ns Directory other dir) (entries_off ns other) (more ns)
      (r.denotes.members ns Directory dir).shown.1 (r.free ns dir)))

  free_after : (ns : List (List ℕ)) → IsDir grown_tree ns → HasFree after_commit (New ns) (page_at (pages ns)) (frees_now ns)
  free_after ns dir = by (cases_names ns names) (cases_names ns full)
    where
      by : (ns ≡ names) ⊎ (ns ≢ names) → (ns ≡ full) ⊎ (ns ≢ full) → HasFree after_commit (New ns) (page_at (pages ns)) (frees_now ns)
      by (inl same) _ = subst (λ (k : List (List ℕ)). HasFree after_commit (New k) (page_at (pages k)) (frees_now k)) (sym same) free_names
      by (inr other) (inl same) = subst (λ (k : List (List ℕ)). HasFree after_commit (New k) (page_at (pages k)) (frees_now k)) (sym same) (free_full (λ e. other (same ∙ e)))
      by (inr other) (inr old) = free_old ns other old (sym (node_other tree full ns node old) ∙ dir)

  -- the words for entry pages after the commit
  first_names : HasFirst after_commit (New names) (page_at (pages names))
  first_names = subst (λ (p : ℕ). HasFirst after_commit (New names) (page_at p)) (sym page_names) (by (cases_eq place.free 0))
    where
      apart : (b : ℕ) → first_entry_page (page_at dir_page) / 8 ≢ bucket_head (page_at dir_page) b / 8
      apart b same = omega arith

      by : (place.free ≡ 0) ⊎ (place.free ≢ 0) → HasFirst after_commit (New names) (page_at dir_page)
      by (inl none) =
          let a = first_entry_page (page_at dir_page) in
          inr (
            fresh,
            ap (λ (w : ℕ → ℕ). w a) (after-append begun prepares (commit_of place drawn ∷ []))
                ∙ put_other (after_stores begun prepares) (commit_of place drawn).0 (commit_of place drawn).1 a (λ same. apart (bucket_of name) (same ∙ ap (λ (b : ℕ). b / 8) can.found.bucket))
                ∙ link_first_fresh begun dir_page place name target drawn fresh none (first_drawn none),
            after_more fresh (inr (none, refl)),
          )
      by (inr some) =
          first_more at after_commit (Old names) (New names) (page_at dir_page)
          (dir_word (first_entry_page (page_at dir_page)) (link_first begun (Old names) dir_page want (r.frees names) name place target drawn fresh can_link some) (omega arith) (apart (bucket_of name)))
          (more names) (r.first names can.dir)

  first_old : (ns : List (List ℕ)) → ns ≢ names → ns ≢ full → IsDir tree ns → HasFirst after_commit (New ns) (page_at (pages ns))
  first_old ns other old dir =
      subst (λ (p : ℕ). HasFirst after_commit (New ns) (page_at p)) (sym (page_other r.denotes.page_of full made ns old))
      (first_page at after_commit Touched (Old ns) (New ns) (r.denotes.page_of ns) keeps_all (member_off ns Directory other dir) (more ns) (r.first ns dir))

  first_after : (ns : List (List ℕ)) → IsDir grown_tree ns → HasFirst after_commit (New ns) (page_at (pages ns))
  first_after ns dir = by (cases_names ns names) (cases_names ns full)
    where
      by : (ns ≡ names) ⊎ (ns ≢ names) → (ns ≡ full) ⊎ (ns ≢ full) → HasFirst after_commit (New ns) (page_at (pages ns))
      by (inl same) _ = subst (λ (k : List (List ℕ)). HasFirst after_commit (New k) (page_at (pages k))) (sym same) first_names
      by (inr other) (inl same) = subst (λ (k : List (List ℕ)). HasFirst after_commit (New k) (page_at (pages k))) (sym same) (inl (made_zero 4 (omega arith) (omega arith)))
      by (inr other) (inr old) = first_old ns other old (sym (node_other tree full ns node old) ∙ dir)

  rests_after : Rests after_commit (with_pages coffer drawn) grown_tree
  unfolding denotes_after
  rests_after = record {
    denotes = denotes_after;
    frees = frees_now;
    free = free_after;
    first = first_after;
    pool = λ pool low. keeps_all (pool_head (page_at coffer.control) pool) coffer.control (omega arith) control_off ∙ r.pool pool low;
  }

  -- a new member, before its commit and after it
  pub makes : IsMade at coffer tree names name node place target drawn made dir_page
  makes =
      let words : after_stores at (all_prepares (page_at dir_page) place name node made target drawn ++ commit_of place drawn ∷ []) ≡ after_commit =
      ap (after_stores at) (append_assoc (making node made) prepares (commit_of place drawn ∷ [])) ∙ after-append at (making node made) (prepares ++ commit_of place drawn ∷ []) in
      record { before = before; after = subst (λ (w : ℕ → ℕ). Rests w (with_pages coffer drawn) grown_tree) (sym words) rests_after }
