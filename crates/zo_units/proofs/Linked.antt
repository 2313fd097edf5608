-- The commit of a link leaves a coffer sound, with the new member.
use Rattle.std.proofs.Common.{◌≡◌, ◌≢◌, ◌⊎◌, inl, inr, ℕ, ◌+◌, ◌-◌, ◌/◌, ◌<◌, ◌==◌, Bool, true, false, cond, if◌then◌else◌, List, [], ◌∷◌, ◌++◌, length, slice_index_or, Contains, Option, Some, None, refl, sym, ap, ap₂, subst, ◌∙◌, arith, eq-eqb, ne_eqb}
use Rattle.std.proofs.lemmas.Bool.{cases_eq, cond-true, cond-false}
use Rattle.std.proofs.lemmas.Option.{none-some}
use Rattle.std.specs.Cmp.Lexicographic.{bytes_decides}
use Rattle.std.specs.List.{IsDistinct, list_any}
use Rattle.pm_words.specs.Word.{Word, stored, crash_list}
use Rattle.zo_layout.specs.Layout.{page_at, bucket_head, bucket_of, word_of, entry_place, control_intent, page_kind, file_map}
use Rattle.tr_types.specs.Paths.{same_text}
use Rattle.zo_model.specs.Tree.{Member, Node, Directory, FileOf, node_at, same_names}
use Rattle.zo_model.specs.Directory.{IsPlace, IsReached, Leads, Shows}
use Rattle.zo_model.specs.CofferWords.{CofferAt, Use, Nothing, Object, IsEntryPage, IsNode, IsInLimits, IsDir, target_of, wanted}
use Rattle.zo_model.specs.Steps.{put as put_at}
use Rattle.zo_laws.specs.Linking.{with_name}
use Rattle.zo_laws.proofs.Members.{contains_cases, contains_none}
use Rattle.zo_laws.proofs.Directories.{shows_stay}
use Rattle.zo_laws.proofs.PageLemmas.{shows_more, shows_want}
use Rattle.zo_laws.proofs.MemberLemmas.{same_names_decides, cases_names, names_unlike, last_same, longer, not_root, node_kept, one_member, node_new, node_other, node_cases, once_more}
use Rattle.zo_laws.proofs.CommitLemmas.{IsReady as IsLinkReady, committed, shows_linked, reached_linked}
use Rattle.zo_units.specs.Memory.{Memory, Store, at, floor, value_at, IsClean, IsTidy, stored_in}
use Rattle.zo_units.specs.MemoryLaws.{Rises, Spares}
use Rattle.zo_units.specs.Units.{Undo, Commitment, Lasts, IsOpen, IsStill, above, undone, node_before, back, CleanBut, IsFirm, IsFirmNode, wanted_before, Head, IsPending, IsUnit, MayStand, Stood, IsBare, MayReturn, Stands, IsSound}
use Rattle.zo_units.specs.UnitLaws.{put_use}
use Rattle.zo_units.specs.Commits.{IsReady, CanCommit, link_commit, with_member, put_page, put_last, CommitLaw}
use Rattle.zo_units.proofs.Places.{word_stored, top_stored, word_aside, tidy_after, rises_after, still_rises}
use Rattle.zo_units.proofs.Nodes.{above_push, commit_same, IsTold, told, denotes_by}
use Rattle.zo_units.proofs.UnitFrames.{clean_spared, firm_node_spared, unit_moved}
use Rattle.zo_units.proofs.Telling.{reached_place, nothing_control, nothing_object, nothing_entries, control_object, object_entries, object_same}
use Rattle.zo_units.proofs.Steps.{store_spares, put_use_other}

differ : true ≡ false → ⊥
differ e = cc

-- where a bucket head is not
head_page : (p b q k : ℕ) → b < 256 → k < 256 → bucket_head (page_at p) b / 8 ≡ bucket_head (page_at q) k / 8 → p ≡ q
head_page p b q k low few same = omega arith

kind_apart : (p q k : ℕ) → k < 256 → page_kind (page_at p) / 8 ≢ bucket_head (page_at q) k / 8
kind_apart p q k low = λ same. omega arith

map_apart : (p q k : ℕ) → k < 256 → file_map (page_at p) / 8 ≢ bucket_head (page_at q) k / 8
map_apart p q k low = λ same. omega arith

intent_page : (p q k : ℕ) → k < 256 → control_intent (page_at p) / 8 ≡ bucket_head (page_at q) k / 8 → p ≡ q
intent_page p q k low same = omega arith

entry_page : (page place i entry q k : ℕ) → entry ≡ entry_place (page_at page) place → place < 12 → i < 40 → k < 256 → word_of entry i / 8 ≡ bucket_head (page_at q) k / 8 → page ≡ q
entry_page page place i entry q k is twelve few low same = omega arith

-- a directory of zeros shows no name, and reaches no entry
shows_none : (w : ℕ → ℕ) (P : ℕ → Type 0) (dir : ℕ) (want : List ℕ → Option ℕ) → ((b : ℕ) → b < 256 → w (bucket_head dir b) ≡ 0) → ((x : List ℕ) → want x ≡ None) → Shows w P dir want
unfolding IsDistinct
shows_none w P dir want zeros none b low = record { entries = []; leads = zeros b low; each = λ e among. absurd (contains_none e among); once = tt; names = λ x in_bucket. sym (none x) }

reaches_none : (w : ℕ → ℕ) (dir entry : ℕ) → ((b : ℕ) → b < 256 → w (bucket_head dir b) ≡ 0) → IsReached w dir entry → ⊥
reaches_none w dir entry zeros r = by r.entries r.leads r.among
  where
    by : (es : List ℕ) → Leads w (w (bucket_head dir r.bucket)) es → Contains es entry → ⊥
    by [] leads among = contains_none entry among
    by (e ∷ es) leads among = leads.1 (sym leads.0 ∙ zeros r.bucket r.is_bucket)

clean_of : (m : Memory) (a : ℕ) → CleanBut m None a → IsClean m a
clean_of m a (inl clean) = clean
clean_of m a (inr but) = absurd but

module _ (m : Memory) (coffer : CofferAt) (tree : List Member) (page_of : List (List ℕ) → ℕ) (use_of : ℕ → Use) (lasts : Lasts) (names : List (List ℕ)) (name : List ℕ) (node : Node) (entry made thread position : ℕ)
    (s : IsSound m coffer tree page_of use_of lasts) (can : CanCommit m coffer tree page_of use_of lasts names name node entry made) where
  abbrev pub full : List (List ℕ)
  full = names ++ name ∷ []

  abbrev pub d : ℕ
  d = page_of names

  abbrev pub head : ℕ
  head = bucket_head (page_at d) (bucket_of name)

  abbrev pub n : Memory
  n = stored_in head entry m

  abbrev pub c : Commitment
  c = link_commit thread position m head full

  abbrev pub larger : List Member
  larger = with_member tree full node

  abbrev pub pages : List (List ℕ) → ℕ
  pages = put_page page_of full made

  abbrev pub uses : ℕ → Use
  uses = put_use use_of made (Object full)

  abbrev pub lasts_now : Lasts
  lasts_now = put_last lasts names c

  abbrev pub P : List (List ℕ) → ℕ → Type 0
  P ns = IsEntryPage coffer use_of ns

  abbrev pub Q : List (List ℕ) → ℕ → Type 0
  Q ns = IsEntryPage coffer uses ns

  abbrev pub want : List ℕ → Option ℕ
  want = wanted page_of coffer tree names

  t : IsTold (at m) coffer tree page_of use_of
  t = told (at m) coffer tree page_of use_of s.denotes

  dir_stands : Stands m coffer tree page_of use_of names Directory
  dir_stands = s.members names Directory (inl can.dir)

  firm : IsFirm m None (at m) (page_at d)
  firm = (s.units names (inl can.dir)).settled can.still

  low : bucket_of name < 256
  low = omega arith

  head_clean : IsClean m head
  head_clean = clean_of m head (firm.heads (bucket_of name) low)

  tidy_now : IsTidy n
  tidy_now = tidy_after (Store head entry) m s.tidy

  rises : Rises m n
  rises = rises_after (Store head entry) m s.tidy

  -- the pages, their uses and the last commits
  pub pages_other : (ns : List (List ℕ)) → ns ≢ full → pages ns ≡ page_of ns
  pages_other ns other = cond-false (same_names ns full) made (page_of ns) (names_unlike ns full other)

  pub pages_full : pages full ≡ made
  pages_full = cond-true (same_names full full) made (page_of full) ((same_names_decides full full).1 refl)

  uses_other : (p : ℕ) → (use_of p ≡ Nothing → ⊥) → uses p ≡ use_of p
  uses_other p some = put_use_other use_of made (Object full) p (λ same. some (ap use_of same ∙ can.useless))

  pub uses_made : uses made ≡ Object full
  uses_made = cond-true (made == made) (Object full) (use_of made) (eq-eqb made made refl)

  uses_object : (p : ℕ) (ns : List (List ℕ)) → use_of p ≡ Object ns → uses p ≡ Object ns
  uses_object p ns is = uses_other p (λ none. nothing_object ns (sym none ∙ is)) ∙ is

  grows : (ns : List (List ℕ)) (p : ℕ) → P ns p → Q ns p
  grows ns p e = record { coffers = e.coffers; entries = uses_other p (λ none. nothing_entries ns (sym none ∙ e.entries)) ∙ e.entries }

  pub lasts_names : lasts_now names ≡ Some c
  lasts_names = cond-true (same_names names names) (Some c) (lasts names) ((same_names_decides names names).1 refl)

  pub lasts_other : (ns : List (List ℕ)) → ns ≢ names → lasts_now ns ≡ lasts ns
  lasts_other ns other = cond-false (same_names ns names) (Some c) (lasts ns) (names_unlike ns names other)

  names_full : names ≢ full
  names_full same = longer names name (sym same)

  made_not_dir : made ≢ d
  made_not_dir same = nothing_object names (sym can.useless ∙ ap use_of same ∙ dir_stands.member.object)

  -- the words
  stays : (a : ℕ) → a / 8 ≢ head / 8 → at n a ≡ at m a
  stays a other = ap (λ (w : Word). w.present) (word_aside head entry m a other)

  spared : (a : ℕ) → a / 8 ≢ head / 8 → Spares m n a
  spared a other = store_spares head entry m a other

  clean_stays : (a : ℕ) → a / 8 ≢ head / 8 → IsClean m a → IsClean n a
  clean_stays a other clean = clean_spared m n a (spared a other) clean

  -- what was clean is but for the head
  loosen : (a : ℕ) → IsClean m a → CleanBut n (Some head) a
  loosen a clean = by (cases_eq (a / 8) (head / 8))
    where
      by : (a / 8 ≡ head / 8) ⊎ (a / 8 ≢ head / 8) → CleanBut n (Some head) a
      by (inl same) = inr same
      by (inr other) = inl (clean_stays a other clean)

  words_now : at n ≡ put_at (at m) head entry
  words_now = λ i a. at_put a i
    where
      at_put : (a : ℕ) → at n a ≡ put_at (at m) head entry a
      at_put a = by (a / 8 == head / 8)
        where
          by : (b : Bool) → (if b then stored entry (m.word a) else m.word a).present ≡ (if b then entry else at m a)
          by true = refl
          by false = refl

  value_head : value_at n head (floor n head) ≡ at m head
  value_head =
      let zero_is : floor n head - floor n head ≡ 0 = omega arith in
      ap₂ (λ (w : Word) (k : ℕ). slice_index_or (crash_list w) k 0) (word_stored head entry m head refl) zero_is
      ∙ ap (λ (xs : List ℕ). slice_index_or ((xs ++ at m head ∷ []) ++ entry ∷ []) 0 0) head_clean

  -- without the commit the words are as they were
  back_is : back n c ≡ at m
  back_is = λ i a. back_at a i
    where
      back_at : (a : ℕ) → back n c a ≡ at m a
      back_at a = by (cases_eq (a / 8) (head / 8))
        where
          by : (a / 8 ≡ head / 8) ⊎ (a / 8 ≢ head / 8) → back n c a ≡ at m a
          by (inl same) =
              cond-true (a / 8 == head / 8) (value_at n head (floor n head)) (at n a) (eq-eqb (a / 8) (head / 8) same)
              ∙ value_head ∙ ap (λ (w : Word). w.present) (s.tidy.words head a (sym same))
          by (inr other) = cond-false (a / 8 == head / 8) (value_at n head (floor n head)) (at n a) (ne_eqb (a / 8) (head / 8) other) ∙ stays a other

  floor_is : m.top head + 1 ≡ floor n head + 1
  floor_is =
      let len : length (n.word head).older ≡ 1 = ap (λ (w : Word). length w.older) (word_stored head entry m head refl) ∙ ap (λ (xs : List ℕ). length (xs ++ at m head ∷ [])) head_clean in
      let top = top_stored head entry m head refl in
      omega (arith, len, top)

  -- the directory's chains
  ready : IsLinkReady (at m) (P names) d want name entry (page_at made)
  ready = record {
    not_entries = λ p. object_entries names names (sym dir_stands.member.object ∙ p.entries);
    shows = dir_stands.member.shown.1;
    is_name = can.is_name;
    missing = ap (target_of page_of coffer full) can.missing ∙ cond-false (list_any (same_names full) coffer.below) (Some 1) None can.no_coffer;
    place = can.prepared.place;
    unreached = can.prepared.unreached;
    has = record { leads = can.prepared.leads; aims = can.prepared.aims; named = can.prepared.named };
  }

  shows_named : Shows (at n) (P names) (page_at d) (with_name want name (page_at made))
  unfolding committed
  shows_named = subst (λ (w : ℕ → ℕ). Shows w (P names) (page_at d) (with_name want name (page_at made))) (sym words_now) (shows_linked (at m) (P names) d want name entry (page_at made) ready)

  pub reached_split : (e : ℕ) → IsReached (at n) (page_at d) e → (entry ≡ e) ⊎ IsReached (at m) (page_at d) e
  unfolding committed
  reached_split e now = reached_linked (at m) (P names) d want name entry (page_at made) e ready (subst (λ (w : ℕ → ℕ). IsReached w (page_at d) e) words_now now)

  -- what is wanted
  target_pages : (ns : List (List ℕ)) (o : Option Node) → pages ns ≡ page_of ns → target_of page_of coffer ns o ≡ target_of pages coffer ns o
  target_pages ns (Some x) same = ap (λ (p : ℕ). Some (page_at p)) (sym same)
  target_pages ns None same = refl

  want_same : (path : List (List ℕ)) → path ≢ full → target_of page_of coffer path (node_at tree path) ≡ target_of pages coffer path (node_at larger path)
  want_same path other =
      target_pages path (node_at tree path) (pages_other path other) ∙ ap (target_of pages coffer path) (sym (node_other tree full path node other))

  want_full : Some (page_at made) ≡ target_of pages coffer full (node_at larger full)
  want_full = ap (λ (p : ℕ). Some (page_at p)) (sym pages_full) ∙ ap (target_of pages coffer full) (sym (node_new tree full node can.missing))

  dir_wanted : (x : List ℕ) → with_name want name (page_at made) x ≡ wanted pages coffer larger names x
  dir_wanted x = by (same_text name x) refl
    where
      by : (b : Bool) → same_text name x ≡ b → cond b (Some (page_at made)) (want x) ≡ wanted pages coffer larger names x
      by true is = subst (λ (y : List ℕ). Some (page_at made) ≡ wanted pages coffer larger names y) ((bytes_decides name x).0 is) want_full
      by false is = want_same (names ++ x ∷ []) (λ same. (let yes = (bytes_decides name x).1 (sym (last_same names names x name same).1) in differ (sym yes ∙ is)))

  undone_full : node_before c larger full ≡ None
  undone_full = cond-true (same_names full full) None (node_at larger full) ((same_names_decides full full).1 refl)

  undone_else : (path : List (List ℕ)) → path ≢ full → node_before c larger path ≡ node_at larger path
  undone_else path other = cond-false (same_names full path) None (node_at larger path) (names_unlike full path (λ e. other (sym e)))

  before_target : (path : List (List ℕ)) → target_of page_of coffer path (node_at tree path) ≡ target_of pages coffer path (node_before c larger path)
  before_target path = by (cases_names path full)
    where
      here : target_of page_of coffer full (node_at tree full) ≡ target_of pages coffer full (node_before c larger full)
      here = ap (target_of page_of coffer full) can.missing ∙ ap (target_of pages coffer full) (sym undone_full)

      by : (path ≡ full) ⊎ (path ≢ full) → target_of page_of coffer path (node_at tree path) ≡ target_of pages coffer path (node_before c larger path)
      by (inl same) = subst (λ (p : List (List ℕ)). target_of page_of coffer p (node_at tree p) ≡ target_of pages coffer p (node_before c larger p)) (sym same) here
      by (inr other) = want_same path other ∙ ap (target_of pages coffer path) (sym (undone_else path other))

  -- the unit of the commit
  page_d : page_of names ≡ pages names
  page_d = sym (pages_other names names_full)

  firm_here : IsFirm n (Some head) (at n) (page_at d)
  firm_here = record {
    heads = λ b few. loosen (bucket_head (page_at d) b) (clean_of m (bucket_head (page_at d) b) (firm.heads b few));
    entries = λ e i reached few. elim (reached_split e reached) [
      | inl same ↦ loosen (word_of e i) (subst (λ (x : ℕ). IsClean m (word_of x i)) same (can.prepared.clean i few))
      | inr was ↦ loosen (word_of e i) (clean_of m (word_of e i) (firm.entries e i was few))
    ];
  }

  firm_before : IsFirm n (Some head) (at m) (page_at d)
  firm_before = record {
    heads = λ b few. loosen (bucket_head (page_at d) b) (clean_of m (bucket_head (page_at d) b) (firm.heads b few));
    entries = λ e i reached few. loosen (word_of e i) (clean_of m (word_of e i) (firm.entries e i reached few));
  }

  pending_here : IsPending n coffer larger pages uses names c
  pending_here = record {
    top = top_stored head entry m head refl;
    is = floor_is;
    link = Head (bucket_of name) low (ap (λ (q : ℕ). bucket_head (page_at q) (bucket_of name)) page_d);
    here = λ u has. elim (contains_cases (record { names = full; node = None }) [] u has) [
      | inl same ↦ (name, ap (λ (v : Undo). v.names) (sym same))
      | inr more ↦ absurd (contains_none u more)
    ];
    now = subst (λ (q : ℕ). IsFirm n (Some head) (at n) (page_at q)) page_d firm_here;
    shows =
        subst (λ (q : ℕ). Shows (back n c) (Q names) (page_at q) (wanted_before c pages coffer larger names)) page_d
        (subst (λ (w : ℕ → ℕ). Shows w (Q names) (page_at d) (wanted_before c pages coffer larger names)) (sym back_is)
        (shows_want (at m) (Q names) (page_at d) want (wanted_before c pages coffer larger names) (λ x. before_target (names ++ x ∷ []))
        (shows_more (at m) (P names) (Q names) (page_at d) want (grows names) dir_stands.member.shown.1)));
    was =
        subst (λ (q : ℕ). IsFirm n (Some head) (back n c) (page_at q)) page_d
        (subst (λ (w : ℕ → ℕ). IsFirm n (Some head) w (page_at d)) (sym back_is) firm_before);
  }

  opened_here : IsOpen n c
  opened_here = omega (arith, floor_is)

  unit_here : IsUnit n coffer larger pages uses names (lasts_now names)
  unit_here = record {
    settled = λ still. absurd (still c lasts_names opened_here);
    pending = λ x last opened. subst (λ (y : Commitment). IsPending n coffer larger pages uses names y) (commit_same c x (sym lasts_names ∙ last)) pending_here;
  }

  -- what may stand afterwards is the new member, or might stand before
  opened_was : (x : Commitment) → IsOpen n x → IsOpen m x
  opened_was x opened = let up = rises.floors x.addr in omega (arith, up, opened)

  -- a commit of the directory is the new one
  one_commit : (ns : List (List ℕ)) (x : Commitment) → above ns ≡ names → lasts_now (above ns) ≡ Some x → c ≡ x
  one_commit ns x up last = commit_same c x (sym lasts_names ∙ ap lasts_now (sym up) ∙ last)

  -- without it a path has what stands there, but for the new member's
  before_here : (ns : List (List ℕ)) (nd : Node) (x : Commitment) → above ns ≡ names → lasts_now (above ns) ≡ Some x → node_before x larger ns ≡ Some nd → (ns ≢ full) × (node_at larger ns ≡ Some nd)
  before_here ns nd x up last was = (other, sym (undone_else ns other) ∙ mine)
    where
      mine : node_before c larger ns ≡ Some nd
      mine = subst (λ (y : Commitment). node_before y larger ns ≡ Some nd) (sym (one_commit ns x up last)) was

      other : ns ≢ full
      other e = none-some nd (sym undone_full ∙ ap (node_before c larger) (sym e) ∙ mine)

  not_full : (ns : List (List ℕ)) → above ns ≢ names → ns ≢ full
  not_full ns elsewhere e = elsewhere (ap above e ∙ above_push names name)

  stood_was : (ns : List (List ℕ)) (nd : Node) → above ns ≢ names → Stood n larger lasts_now ns nd → Stood m tree lasts ns nd
  stood_was ns nd elsewhere st = record {
    commit = st.commit;
    last = sym (lasts_other (above ns) elsewhere) ∙ st.last;
    opened = opened_was st.commit st.opened;
    was = ap (λ (o : Option Node). undone st.commit.undo ns o) (sym (node_other tree full ns node (not_full ns elsewhere))) ∙ st.was;
  }

  may_split : (ns : List (List ℕ)) (nd : Node) → MayStand n larger lasts_now ns nd → ((ns ≡ full) × (node ≡ nd)) ⊎ ((ns ≢ full) × MayStand m tree lasts ns nd)
  may_split ns nd (inl is) = elim (node_cases tree full ns node nd can.missing is) [
    | inl old ↦ inr (old.0, inl old.1)
    | inr new ↦ inl new
  ]
  may_split ns nd (inr st) = by (cases_names (above ns) names)
    where
      by : (above ns ≡ names) ⊎ (above ns ≢ names) → ((ns ≡ full) × (node ≡ nd)) ⊎ ((ns ≢ full) × MayStand m tree lasts ns nd)
      by (inl up) = let h = before_here ns nd st.commit up st.last st.was in inr (h.0, inl (sym (node_other tree full ns node h.0) ∙ h.1))
      by (inr elsewhere) = inr (not_full ns elsewhere, inr (stood_was ns nd elsewhere st))

  -- words of other units
  heads_apart : (ns : List (List ℕ)) → MayStand m tree lasts ns Directory → ns ≢ names → (b : ℕ) → b < 256 → bucket_head (page_at (page_of ns)) b / 8 ≢ head / 8
  heads_apart ns may other b few same =
      other (object_same ns names (sym (s.members ns Directory may).member.object ∙ ap use_of (head_page (page_of ns) b d (bucket_of name) few low same) ∙ dir_stands.member.object))

  entries_apart : (ns : List (List ℕ)) (e i : ℕ) → IsPlace (P ns) e → i < 40 → word_of e i / 8 ≢ head / 8
  entries_apart ns e i p few same =
      object_entries names ns (sym dir_stands.member.object ∙ ap use_of (sym (entry_page p.page p.place i e d (bucket_of name) p.is p.twelve few low same)) ∙ p.entries.entries)

  shown_at : (ns : List (List ℕ)) → MayStand m tree lasts ns Directory → Shows (at m) (P ns) (page_at (page_of ns)) (wanted page_of coffer tree ns)
  shown_at ns may = (s.members ns Directory may).member.shown.1

  entry_spared : (ns : List (List ℕ)) (e i : ℕ) → MayStand m tree lasts ns Directory → IsReached (at m) (page_at (page_of ns)) e → i < 40 → Spares m n (word_of e i)
  entry_spared ns e i may reached few =
      spared (word_of e i) (entries_apart ns e i (reached_place (at m) (P ns) (page_at (page_of ns)) (wanted page_of coffer tree ns) e (shown_at ns may) reached) few)

  child_other : (ns : List (List ℕ)) (x : List ℕ) → ns ≢ names → ns ++ x ∷ [] ≢ full
  child_other ns x other same = other (last_same ns names x name same).0

  unit_other : (ns : List (List ℕ)) → ns ≢ names → ns ≢ full → MayStand m tree lasts ns Directory → IsUnit n coffer larger pages uses ns (lasts ns)
  unit_other ns other old may =
      unit_moved m n coffer coffer tree larger page_of pages use_of uses ns (lasts ns) s.tidy tidy_now rises (sym (pages_other ns old)) (wanted page_of coffer tree ns) (shown_at ns may) (grows ns)
      (λ x last opened y.
      target_pages (ns ++ y ∷ []) (node_before x tree (ns ++ y ∷ [])) (pages_other (ns ++ y ∷ []) (child_other ns y other))
      ∙ ap (λ (o : Option Node). target_of pages coffer (ns ++ y ∷ []) (undone x.undo (ns ++ y ∷ []) o)) (sym (node_other tree full (ns ++ y ∷ []) node (child_other ns y other))))
      (λ b few. spared (bucket_head (page_at (page_of ns)) b) (heads_apart ns may other b few))
      (λ e i reached few. entry_spared ns e i may reached few)
      (λ x e i last opened reached few.
      spared (word_of e i) (entries_apart ns e i (reached_place (back m x) (P ns) (page_at (page_of ns)) (wanted_before x page_of coffer tree ns) e ((s.units ns may).pending x last opened).shows reached) few))
      (s.units ns may)

  -- the new member
  made_apart : (b : ℕ) → b < 256 → bucket_head (page_at made) b / 8 ≢ head / 8
  made_apart b few same = made_not_dir (head_page made b d (bucket_of name) few low same)

  made_zero : IsReady m (page_at made) Directory → (b : ℕ) → b < 256 → at n (bucket_head (page_at made) b) ≡ 0
  made_zero is b few = stays (bucket_head (page_at made) b) (made_apart b few) ∙ (is (256 + b) (omega (arith, few))).0

  nothing_below : (x : List ℕ) → node_at tree (full ++ x ∷ []) ≡ None
  nothing_below x = by (node_at tree (full ++ x ∷ [])) refl
    where
      by : (o : Option Node) → node_at tree (full ++ x ∷ []) ≡ o → node_at tree (full ++ x ∷ []) ≡ None
      by (Some nd) is = absurd (none-some Directory (sym can.missing ∙ t.inside full x nd is))
      by None is = is

  no_coffer_below : (x : List ℕ) → list_any (same_names (full ++ x ∷ [])) coffer.below ≡ false
  no_coffer_below x = by (list_any (same_names (full ++ x ∷ [])) coffer.below) refl
    where
      by : (b : Bool) → list_any (same_names (full ++ x ∷ [])) coffer.below ≡ b → list_any (same_names (full ++ x ∷ [])) coffer.below ≡ false
      by true is = absurd (none-some Directory (sym can.missing ∙ (t.below full x is).0))
      by false is = is

  nothing_now : (x : List ℕ) → node_at larger (full ++ x ∷ []) ≡ None
  nothing_now x = node_other tree full (full ++ x ∷ []) node (longer full x) ∙ nothing_below x

  none_below : (x : List ℕ) → wanted pages coffer larger full x ≡ None
  none_below x = ap (target_of pages coffer (full ++ x ∷ [])) (nothing_now x) ∙ ap (λ (b : Bool). cond b (Some 1) None) (no_coffer_below x)

  still_full : IsStill n (lasts full)
  still_full = still_rises m n (lasts full) rises (s.closed full (λ dir. none-some Directory (sym can.missing ∙ dir)))

  unit_full : IsReady m (page_at made) Directory → IsUnit n coffer larger pages uses full (lasts full)
  unit_full is = record {
    settled = λ still. subst (λ (q : ℕ). IsFirm n None (at n) (page_at q)) (sym pages_full) (record {
      heads = λ b few. inl (clean_stays (bucket_head (page_at made) b) (made_apart b few) (is (256 + b) (omega (arith, few))).1);
      entries = λ e i reached few. absurd (reaches_none (at n) (page_at made) e (made_zero is) reached);
    });
    pending = λ x last opened. absurd (still_full x last opened);
  }

  new_node : (nd : Node) → IsReady m (page_at made) nd → IsNode (at n) (Q full) (wanted pages coffer larger full) (page_at made) nd × IsFirmNode n (page_at made) nd
  new_node Directory is =
      let first : word_of (page_at made) 0 ≡ page_kind (page_at made) = omega arith in
      let word = is 0 (omega arith) in (
        (
          stays (page_kind (page_at made)) (kind_apart made d (bucket_of name) low) ∙ ap (at m) (sym first) ∙ word.0,
          shows_none (at n) (Q full) (page_at made) (wanted pages coffer larger full) (made_zero is) none_below,
        ),
        clean_stays (page_kind (page_at made)) (kind_apart made d (bucket_of name) low) (subst (IsClean m) first word.1),
      )
  new_node (FileOf bytes) (kind, kind_clean, map_is, map_clean, empty) = (
    (stays (page_kind (page_at made)) (kind_apart made d (bucket_of name) low) ∙ kind, (stays (file_map (page_at made)) (map_apart made d (bucket_of name) low) ∙ map_is, empty)),
    (clean_stays (page_kind (page_at made)) (kind_apart made d (bucket_of name) low) kind_clean, clean_stays (file_map (page_at made)) (map_apart made d (bucket_of name) low) map_clean),
  )

  stands_full : Stands n coffer larger pages uses full node
  stands_full =
      let new = new_node node can.ready in
      record {
        member = record {
          coffers = subst (Contains coffer.pages) (sym pages_full) can.inside;
          object = ap uses pages_full ∙ uses_made;
          shown = subst (λ (q : ℕ). IsNode (at n) (Q full) (wanted pages coffer larger full) (page_at q) node) (sym pages_full) new.0;
        };
        firm = subst (λ (q : ℕ). IsFirmNode n (page_at q) node) (sym pages_full) new.1;
      }

  -- old members
  shows_here : Shows (at n) (Q names) (page_at d) (wanted pages coffer larger names)
  shows_here =
      shows_want (at n) (Q names) (page_at d) (with_name want name (page_at made)) (wanted pages coffer larger names) dir_wanted
      (shows_more (at n) (P names) (Q names) (page_at d) (with_name want name (page_at made)) (grows names) shows_named)

  shows_old : (ns : List (List ℕ)) → MayStand m tree lasts ns Directory → Shows (at n) (Q ns) (page_at (page_of ns)) (wanted pages coffer larger ns)
  shows_old ns may = by (cases_names ns names)
    where
      by : (ns ≡ names) ⊎ (ns ≢ names) → Shows (at n) (Q ns) (page_at (page_of ns)) (wanted pages coffer larger ns)
      by (inl same) = subst (λ (k : List (List ℕ)). Shows (at n) (Q k) (page_at (page_of k)) (wanted pages coffer larger k)) (sym same) shows_here
      by (inr other) =
          shows_want (at n) (Q ns) (page_at (page_of ns)) (wanted page_of coffer tree ns) (wanted pages coffer larger ns) (λ x. want_same (ns ++ x ∷ []) (child_other ns x other))
          (shows_stay (P ns) (Q ns) (at m) (at n) (page_at (page_of ns)) (wanted page_of coffer tree ns) (shown_at ns may)
          (record { heads = λ b few. stays (bucket_head (page_at (page_of ns)) b) (heads_apart ns may other b few); entries = λ e i reached few. (entry_spared ns e i may reached few).present }) (grows ns))

  node_old : (ns : List (List ℕ)) (nd : Node) → MayStand m tree lasts ns nd → IsNode (at n) (Q ns) (wanted pages coffer larger ns) (page_at (page_of ns)) nd
  node_old ns Directory may = (stays (page_kind (page_at (page_of ns))) (kind_apart (page_of ns) d (bucket_of name) low) ∙ (s.members ns Directory may).member.shown.0, shows_old ns may)
  node_old ns (FileOf bytes) may =
      let shown = (s.members ns (FileOf bytes) may).member.shown in (
        stays (page_kind (page_at (page_of ns))) (kind_apart (page_of ns) d (bucket_of name) low) ∙ shown.0,
        (stays (file_map (page_at (page_of ns))) (map_apart (page_of ns) d (bucket_of name) low) ∙ shown.1.0, shown.1.1),
      )

  stands_old : (ns : List (List ℕ)) (nd : Node) → ns ≢ full → MayStand m tree lasts ns nd → Stands n coffer larger pages uses ns nd
  stands_old ns nd other may =
      let st = s.members ns nd may in
      let page = pages_other ns other in
      record {
        member = record {
          coffers = subst (Contains coffer.pages) (sym page) st.member.coffers;
          object = ap uses page ∙ uses_object (page_of ns) ns st.member.object;
          shown = subst (λ (q : ℕ). IsNode (at n) (Q ns) (wanted pages coffer larger ns) (page_at q) nd) (sym page) (node_old ns nd may);
        };
        firm = subst (λ (q : ℕ). IsFirmNode n (page_at q) nd) (sym page)
            (firm_node_spared m n (page_at (page_of ns)) nd (spared (page_kind (page_at (page_of ns))) (kind_apart (page_of ns) d (bucket_of name) low))
            (λ bytes e. spared (file_map (page_at (page_of ns))) (map_apart (page_of ns) d (bucket_of name) low)) st.firm);
      }

  stands_now : (ns : List (List ℕ)) (nd : Node) → MayStand n larger lasts_now ns nd → Stands n coffer larger pages uses ns nd
  stands_now ns nd may = elim (may_split ns nd may) [
    | inl new ↦ subst (λ (k : List (List ℕ)). Stands n coffer larger pages uses k nd) (sym new.0) (subst (Stands n coffer larger pages uses full) new.1 stands_full)
    | inr old ↦ stands_old ns nd old.0 old.1
  ]

  units_now : (ns : List (List ℕ)) → MayStand n larger lasts_now ns Directory → IsUnit n coffer larger pages uses ns (lasts_now ns)
  units_now ns may = by (may_split ns Directory may)
    where
      old : ns ≢ full → MayStand m tree lasts ns Directory → (ns ≡ names) ⊎ (ns ≢ names) → IsUnit n coffer larger pages uses ns (lasts_now ns)
      old other was (inl same) = subst (λ (k : List (List ℕ)). IsUnit n coffer larger pages uses k (lasts_now k)) (sym same) unit_here
      old other was (inr elsewhere) = subst (IsUnit n coffer larger pages uses ns) (sym (lasts_other ns elsewhere)) (unit_other ns elsewhere other was)

      by : ((ns ≡ full) × (node ≡ Directory)) ⊎ ((ns ≢ full) × MayStand m tree lasts ns Directory) → IsUnit n coffer larger pages uses ns (lasts_now ns)
      by (inl (same, one)) =
          subst (λ (k : List (List ℕ)). IsUnit n coffer larger pages uses k (lasts_now k)) (sym same)
          (subst (IsUnit n coffer larger pages uses full) (sym (lasts_other full (λ e. names_full (sym e)))) (unit_full (subst (IsReady m (page_at made)) one can.ready)))
      by (inr (other, was)) = old other was (cases_names ns names)

  -- the rest of what the words denote
  dir_stays : (ns : List (List ℕ)) → IsDir tree ns → IsDir larger ns
  dir_stays ns is = node_kept tree (one_member full node) ns Directory is

  inside_now : (ns : List (List ℕ)) (x : List ℕ) (nd : Node) → node_at larger (ns ++ x ∷ []) ≡ Some nd → IsDir larger ns
  inside_now ns x nd is = elim (node_cases tree full (ns ++ x ∷ []) node nd can.missing is) [
    | inl old ↦ dir_stays ns (t.inside ns x nd old.1)
    | inr new ↦ subst (IsDir larger) (sym (last_same ns names x name new.0).0) (dir_stays names can.dir)
  ]

  below_now : (ns : List (List ℕ)) (x : List ℕ) → list_any (same_names (ns ++ x ∷ [])) coffer.below ≡ true → IsDir larger ns × (node_at larger (ns ++ x ∷ []) ≡ None)
  below_now ns x is =
      let was = t.below ns x is in (
        dir_stays ns was.0,
        node_other tree full (ns ++ x ∷ []) node (λ same. differ (sym is ∙ ap (λ (k : List (List ℕ)). list_any (same_names k) coffer.below) same ∙ can.no_coffer)) ∙ was.1,
      )

  limits_now : (ns : List (List ℕ)) (x : List ℕ) (target : ℕ) → IsDir larger ns → wanted pages coffer larger ns x ≡ Some target → IsInLimits (coffer.path ++ (ns ++ x ∷ []))
  limits_now ns x target dir is = by (cases_names (ns ++ x ∷ []) full) (cases_names ns full)
    where
      by : (ns ++ x ∷ [] ≡ full) ⊎ (ns ++ x ∷ [] ≢ full) → (ns ≡ full) ⊎ (ns ≢ full) → IsInLimits (coffer.path ++ (ns ++ x ∷ []))
      by (inl same) _ = subst (λ (k : List (List ℕ)). IsInLimits (coffer.path ++ k)) (sym same) can.limits
      by (inr other) (inl same) = absurd (none-some target (sym (none_below x) ∙ ap (λ (k : List (List ℕ)). wanted pages coffer larger k x) (sym same) ∙ is))
      by (inr other) (inr old) = t.limits ns x target (sym (node_other tree full ns node old) ∙ dir) (want_same (ns ++ x ∷ []) other ∙ is)

  intent_apart : control_intent (page_at coffer.control) / 8 ≢ head / 8
  intent_apart same = control_object names (sym t.control ∙ ap use_of (intent_page coffer.control d (bucket_of name) low same) ∙ dir_stands.member.object)

  told_now : IsTold (at n) coffer larger pages uses
  told_now = record {
    control = uses_other coffer.control (λ none. nothing_control (sym none ∙ t.control)) ∙ t.control;
    no_intent = stays (control_intent (page_at coffer.control)) intent_apart ∙ t.no_intent;
    root = t.root;
    root_stands = node_kept tree (one_member full node) [] t.root t.root_stands;
    root_page = pages_other [] (not_root names name) ∙ t.root_page;
    once = once_more tree full node can.missing t.once;
    members = λ ns nd is. (stands_now ns nd (inl is)).member;
    inside = inside_now;
    limits = limits_now;
    below = below_now;
  }

  closed_now : (ns : List (List ℕ)) → (IsDir larger ns → ⊥) → IsStill n (lasts_now ns)
  closed_now ns none = by (cases_names ns names)
    where
      by : (ns ≡ names) ⊎ (ns ≢ names) → IsStill n (lasts_now ns)
      by (inl same) = absurd (none (subst (IsDir larger) (sym same) (dir_stays names can.dir)))
      by (inr other) = subst (IsStill n) (sym (lasts_other ns other)) (still_rises m n (lasts ns) rises (s.closed ns (λ dir. none (dir_stays ns dir))))

  bare_full : IsBare n coffer larger lasts_now full
  bare_full = record { members = nothing_now; coffers = no_coffer_below; still = subst (IsStill n) (sym (lasts_other full (λ e. names_full (sym e)))) still_full }

  bare_now : (ns : List (List ℕ)) → ns ≢ names → IsBare m coffer tree lasts ns → IsBare n coffer larger lasts_now ns
  bare_now ns other b = record {
    members = λ x. node_other tree full (ns ++ x ∷ []) node (child_other ns x other) ∙ b.members x;
    coffers = b.coffers;
    still = subst (IsStill n) (sym (lasts_other ns other)) (still_rises m n (lasts ns) rises b.still);
  }

  fresh_now : (ns : List (List ℕ)) (x : Commitment) → lasts_now (above ns) ≡ Some x → IsOpen n x → IsDir larger ns → (node_before x larger ns ≡ Some Directory) ⊎ IsBare n coffer larger lasts_now ns
  fresh_now ns x last opened dir = by (cases_names (above ns) names) (cases_names ns full)
    where
      by : (above ns ≡ names) ⊎ (above ns ≢ names) → (ns ≡ full) ⊎ (ns ≢ full) → (node_before x larger ns ≡ Some Directory) ⊎ IsBare n coffer larger lasts_now ns
      by _ (inl same) = inr (subst (IsBare n coffer larger lasts_now) (sym same) bare_full)
      by (inl up) (inr other) = inl (subst (λ (y : Commitment). node_before y larger ns ≡ Some Directory) (one_commit ns x up last) (undone_else ns other ∙ dir))
      by (inr elsewhere) (inr other) = elsewhere_fresh (cases_names ns names)
        where
          was_last : lasts (above ns) ≡ Some x
          was_last = sym (lasts_other (above ns) elsewhere) ∙ last

          was_dir : IsDir tree ns
          was_dir = sym (node_other tree full ns node other) ∙ dir

          before_now : node_before x tree ns ≡ Some Directory → node_before x larger ns ≡ Some Directory
          before_now is = ap (λ (o : Option Node). undone x.undo ns o) (node_other tree full ns node other) ∙ is

          elsewhere_fresh : (ns ≡ names) ⊎ (ns ≢ names) → (node_before x larger ns ≡ Some Directory) ⊎ IsBare n coffer larger lasts_now ns
          elsewhere_fresh (inl same) =
              inl (before_now (subst (λ (k : List (List ℕ)). node_before x tree k ≡ Some Directory) (sym same)
              (can.sure x (ap (λ (k : List (List ℕ)). lasts (above k)) (sym same) ∙ was_last) (opened_was x opened))))
          elsewhere_fresh (inr apart) = elim (s.fresh ns x was_last (opened_was x opened) was_dir) [
            | inl before ↦ inl (before_now before)
            | inr bare ↦ inr (bare_now ns apart bare)
          ]

  gone_now : (ns : List (List ℕ)) (nd : Node) → Stood n larger lasts_now ns nd → (node_at larger ns ≡ Some nd) ⊎ MayReturn coffer larger ns
  gone_now ns nd st = by (cases_names (above ns) names)
    where
      by : (above ns ≡ names) ⊎ (above ns ≢ names) → (node_at larger ns ≡ Some nd) ⊎ MayReturn coffer larger ns
      by (inl up) = inl (before_here ns nd st.commit up st.last st.was).1
      by (inr elsewhere) =
          let kept = node_other tree full ns node (not_full ns elsewhere) in
          elim (s.gone ns nd (stood_was ns nd elsewhere st)) [
            | inl now ↦ inl (kept ∙ now)
            | inr again ↦ inr (record { away = kept ∙ again.away; no_coffer = again.no_coffer; limits = again.limits })
          ]

  pub sound_linked : IsSound n coffer larger pages uses lasts_now
  sound_linked = record {
    tidy = tidy_now;
    denotes = denotes_by (at n) coffer larger pages uses told_now;
    intent = clean_stays (control_intent (page_at coffer.control)) intent_apart s.intent;
    members = stands_now;
    units = units_now;
    closed = closed_now;
    fresh = fresh_now;
    gone = gone_now;
  }

pub links : CommitLaw
links m coffer tree page_of use_of lasts names name node entry made thread position s can = sound_linked m coffer tree page_of use_of lasts names name node entry made thread position s can
