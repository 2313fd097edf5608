-- All stays sound that spares the words that tell the tree. Pages may come to the coffer meanwhile, and pages of no use may come to be used.
use Rattle.std.proofs.Common.{◌≡◌, inl, inr, ℕ, List, [], ◌∷◌, ◌++◌, Contains, Option, Some, None, refl, subst, ◌∙◌, arith}
use Rattle.zo_layout.specs.Layout.{page_at, control_intent}
use Rattle.zo_model.specs.Tree.{Member, Node, Directory, FileOf, node_at}
use Rattle.zo_model.specs.Directory.{Shows}
use Rattle.zo_model.specs.CofferWords.{CofferAt, Use, Control, Object, Entries, IsEntryPage, IsNode, target_of, wanted}
use Rattle.zo_laws.specs.Laws.{KeepsNames}
use Rattle.zo_laws.proofs.Directories.{shows_stay}
use Rattle.zo_laws.proofs.PageLemmas.{shows_want}
use Rattle.zo_units.specs.Memory.{Memory, at, IsTidy}
use Rattle.zo_units.specs.MemoryLaws.{Rises, Spares}
use Rattle.zo_units.specs.Units.{Commitment, Lasts, IsOpen, node_before, back, IsUnit, MayStand, IsBare, MayReturn, Stands, IsSound}
use Rattle.zo_units.specs.UnitLaws.{AllTold, SpareLaw}
use Rattle.zo_units.proofs.Places.{still_rises}
use Rattle.zo_units.proofs.UnitFrames.{clean_spared, firm_node_spared, unit_moved}
use Rattle.zo_units.proofs.Nodes.{IsTold, told, denotes_by}

-- the coffer with these pages
abbrev pub paged : CofferAt → List ℕ → CofferAt
paged coffer pages = record { control = coffer.control; root = coffer.root; pages = pages; path = coffer.path; below = coffer.below }

pub target_paged : (page_of : List (List ℕ) → ℕ) (coffer : CofferAt) (pages : List ℕ) (names : List (List ℕ)) (node : Option Node) → target_of page_of coffer names node ≡ target_of page_of (paged coffer pages) names node
target_paged page_of coffer pages names (Some node) = refl
target_paged page_of coffer pages names None = refl

module _ (m n : Memory) (coffer : CofferAt) (pages : List ℕ) (tree : List Member) (page_of : List (List ℕ) → ℕ) (use_of now_of : ℕ → Use) (lasts : Lasts)
    (s : IsSound m coffer tree page_of use_of lasts) (tidy : IsTidy n) (r : Rises m n) (k : AllTold (Spares m n) m coffer tree page_of lasts)
    (more : (page : ℕ) → Contains coffer.pages page → Contains pages page) (control : use_of coffer.control ≡ Control → now_of coffer.control ≡ Control)
    (objects : (page : ℕ) (names : List (List ℕ)) → Contains coffer.pages page → use_of page ≡ Object names → now_of page ≡ Object names)
    (entries : (page : ℕ) (names : List (List ℕ)) → Contains coffer.pages page → use_of page ≡ Entries names → now_of page ≡ Entries names) where
  abbrev pub grown : CofferAt
  grown = paged coffer pages

  t : IsTold (at m) coffer tree page_of use_of
  t = told (at m) coffer tree page_of use_of s.denotes

  opened_was : (c : Commitment) → IsOpen n c → IsOpen m c
  opened_was c opened = let up = r.floors c.addr in omega (arith, up, opened)

  may_was : (names : List (List ℕ)) (node : Node) → MayStand n tree lasts names node → MayStand m tree lasts names node
  may_was names node (inl now) = inl now
  may_was names node (inr st) = inr (record { commit = st.commit; last = st.last; opened = opened_was st.commit st.opened; was = st.was })

  abbrev pub P : List (List ℕ) → ℕ → Type 0
  P names = IsEntryPage coffer use_of names

  abbrev pub Q : List (List ℕ) → ℕ → Type 0
  Q names = IsEntryPage grown now_of names

  grows : (names : List (List ℕ)) (page : ℕ) → P names page → Q names page
  grows names page p = record { coffers = more page p.coffers; entries = entries page names p.coffers p.entries }

  abbrev pub dir_at : List (List ℕ) → ℕ
  dir_at names = page_at (page_of names)

  keeps : (names : List (List ℕ)) → MayStand m tree lasts names Directory → KeepsNames (at m) (at n) (dir_at names)
  keeps names may = record { heads = λ b low. (k.heads names b may low).present; entries = λ entry i reached few. (k.entries names entry i may reached few).present }

  shown : (names : List (List ℕ)) → MayStand m tree lasts names Directory → Shows (at m) (P names) (dir_at names) (wanted page_of coffer tree names)
  shown names may = (s.members names Directory may).member.shown.1

  shows_now : (names : List (List ℕ)) → MayStand m tree lasts names Directory → Shows (at n) (Q names) (dir_at names) (wanted page_of grown tree names)
  shows_now names may =
      shows_want (at n) (Q names) (dir_at names) (wanted page_of coffer tree names) (wanted page_of grown tree names)
      (λ name. target_paged page_of coffer pages (names ++ name ∷ []) (node_at tree (names ++ name ∷ [])))
      (shows_stay (P names) (Q names) (at m) (at n) (dir_at names) (wanted page_of coffer tree names) (shown names may) (keeps names may) (grows names))

  unit_now : (names : List (List ℕ)) → MayStand m tree lasts names Directory → IsUnit n grown tree page_of now_of names (lasts names)
  unit_now names may =
      unit_moved m n coffer grown tree tree page_of page_of use_of now_of names (lasts names) s.tidy tidy r refl (wanted page_of coffer tree names) (shown names may) (grows names)
      (λ c last opened name. target_paged page_of coffer pages (names ++ name ∷ []) (node_before c tree (names ++ name ∷ [])))
      (λ b low. k.heads names b may low) (λ entry i reached few. k.entries names entry i may reached few) (λ c entry i last opened reached few. k.befores names c entry i may last opened reached few)
      (s.units names may)

  node_now : (names : List (List ℕ)) (node : Node) → MayStand m tree lasts names node → IsNode (at n) (Q names) (wanted page_of grown tree names) (dir_at names) node
  node_now names Directory may = ((k.kinds names Directory may).present ∙ (s.members names Directory may).member.shown.0, shows_now names may)
  node_now names (FileOf bytes) may =
      let shown = (s.members names (FileOf bytes) may).member.shown in
      ((k.kinds names (FileOf bytes) may).present ∙ shown.0, ((k.maps names bytes may).present ∙ shown.1.0, shown.1.1))

  stands_now : (names : List (List ℕ)) (node : Node) → MayStand m tree lasts names node → Stands n grown tree page_of now_of names node
  stands_now names node may =
      let st = s.members names node may in
      record {
        member = record { coffers = more (page_of names) st.member.coffers; object = objects (page_of names) names st.member.coffers st.member.object; shown = node_now names node may };
        firm = firm_node_spared m n (dir_at names) node (k.kinds names node may) (λ bytes e. k.maps names bytes (subst (MayStand m tree lasts names) e may)) st.firm;
      }

  bare_now : (names : List (List ℕ)) → IsBare m coffer tree lasts names → IsBare n grown tree lasts names
  bare_now names b = record { members = b.members; coffers = b.coffers; still = still_rises m n (lasts names) r b.still }

  return_now : (names : List (List ℕ)) → MayReturn coffer tree names → MayReturn grown tree names
  return_now names b = record { away = b.away; no_coffer = b.no_coffer; limits = b.limits }

  told_now : IsTold (at n) grown tree page_of now_of
  told_now = record {
    control = control t.control;
    no_intent = k.intent.present ∙ t.no_intent;
    root = t.root;
    root_stands = t.root_stands;
    root_page = t.root_page;
    once = t.once;
    members = λ names node is. (stands_now names node (inl is)).member;
    inside = t.inside;
    limits = λ names name target dir is. t.limits names name target dir (target_paged page_of coffer pages (names ++ name ∷ []) (node_at tree (names ++ name ∷ [])) ∙ is);
    below = t.below;
  }

  pub sound_wider : IsSound n grown tree page_of now_of lasts
  sound_wider = record {
    tidy = tidy;
    denotes = denotes_by (at n) grown tree page_of now_of told_now;
    intent = clean_spared m n (control_intent (page_at coffer.control)) k.intent s.intent;
    members = λ names node may. stands_now names node (may_was names node may);
    units = λ names may. unit_now names (may_was names Directory may);
    closed = λ names none. still_rises m n (lasts names) r (s.closed names none);
    fresh = λ names c last opened dir. elim (s.fresh names c last (opened_was c opened) dir) [
      | inl before ↦ inl before
      | inr bare ↦ inr (bare_now names bare)
    ];
    gone = λ names node st. elim (s.gone names node (record { commit = st.commit; last = st.last; opened = opened_was st.commit st.opened; was = st.was })) [
      | inl now ↦ inl now
      | inr back ↦ inr (return_now names back)
    ];
  }

pub spares : SpareLaw
spares m n coffer tree page_of use_of lasts s tidy r k =
    sound_wider m n coffer coffer.pages tree page_of use_of use_of lasts s tidy r k (λ page has. has) (λ is. is) (λ page names has is. is) (λ page names has is. is)
