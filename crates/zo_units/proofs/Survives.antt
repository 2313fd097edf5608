-- What a crash leaves denotes the tree without the last commits that it loses.
use Rattle.std.proofs.Common.{◌≡◌, ◌≢◌, ◌⊎◌, inl, inr, ℕ, ◌+◌, ◌-◌, ◌/◌, ◌≤◌, ◌<◌, ◌==◌, Bool, true, false, if◌then◌else◌, List, [], ◌∷◌, ◌++◌, length, slice_index_or, Option, Some, None, refl, sym, ap, ap₂, ◌∙◌, arith, eq-eqb, ne_eqb, lt-ltb, le-ltb}
use Rattle.std.proofs.lemmas.Bool.{cases_eq, cases_lt, cond-true, cond-false}
use Rattle.std.proofs.lemmas.Option.{none-some}
use Rattle.std.proofs.Math.Seq.{get_or-append_seam}
use Rattle.std.specs.List.{list_any}
use Rattle.pm_words.specs.Word.{Word, crash_list}
use Rattle.zo_layout.specs.Layout.{page_at, bucket_head, word_of, control_intent, page_kind, file_map}
use Rattle.zo_model.specs.Tree.{Member, Node, Directory, FileOf, node_at, same_names}
use Rattle.zo_model.specs.Directory.{Shows}
use Rattle.zo_model.specs.CofferWords.{CofferAt, Use, IsEntryPage, IsNode, IsMember, IsInLimits, IsDir, target_of, wanted}
use Rattle.zo_laws.specs.Laws.{KeepsNames}
use Rattle.zo_laws.proofs.Directories.{shows_stay}
use Rattle.zo_laws.proofs.PageLemmas.{shows_want}
use Rattle.zo_laws.proofs.MemberLemmas.{not_root}
use Rattle.zo_units.specs.Memory.{Memory, at, floor, value_at, IsClean, IsTidy, IsLeft}
use Rattle.zo_units.specs.Units.{Commitment, Lasts, IsOpen, IsStill, above, undone, node_before, picked, node_left, IsLeftTree, Drops, back, CleanBut, IsFirm, wanted_before, MayStand, IsSound}
use Rattle.zo_units.specs.UnitLaws.{SurviveLaw}
use Rattle.zo_units.proofs.Nodes.{above_push, undone_other, still_none, still_durable, IsTold, told, denotes_by, opened_dir}

-- the value of a word at a place, alike for its bytes
pub value_alike : (m : Memory) (a b place : ℕ) → IsTidy m → a / 8 ≡ b / 8 → value_at m a place ≡ value_at m b place
value_alike m a b place t same =
    ap₂ (λ (w : Word) (top : ℕ). slice_index_or (crash_list w) (place - (top - length w.older)) 0) (t.words a b same) (t.tops a b same)

differ : true ≡ false → ⊥
differ e = cc

module _ (m : Memory) (places image : ℕ → ℕ) (t : IsTidy m) (l : IsLeft m places image) where
  -- a clean word is left as it is
  pub clean_image : (a : ℕ) → IsClean m a → image a ≡ at m a
  clean_image a clean =
      let len : length (m.word a).older ≡ 0 = ap (λ (xs : List ℕ). length xs) clean in
      let low = l.low a in
      let high = l.high a in
      let zero_is : places a - floor m a ≡ 0 = omega (arith, len, low, high) in
      l.is a ∙ ap₂ (λ (xs : List ℕ) (k : ℕ). slice_index_or (xs ++ at m a ∷ []) k 0) clean zero_is

  -- and so is one whose last value is left
  pub top_image : (a : ℕ) → places a ≡ m.top a → image a ≡ at m a
  top_image a last =
      let fits = t.older a in
      let place : places a - floor m a ≡ length (m.word a).older = omega (arith, last, fits) in
      l.is a ∙ ap (λ (k : ℕ). slice_index_or (crash_list (m.word a)) k 0) place ∙ get_or-append_seam (m.word a).older (at m a) [] 0

  pub settled_image : (a : ℕ) → CleanBut m None a → image a ≡ at m a
  settled_image a (inl clean) = clean_image a clean
  settled_image a (inr but) = absurd but

  pub kept_image : (c : Commitment) → m.top c.addr ≡ c.place → c.place ≤ places c.addr → (a : ℕ) → CleanBut m (Some c.addr) a → image a ≡ at m a
  kept_image c top le a (inl clean) = clean_image a clean
  kept_image c top le a (inr same) =
      let alike = l.alike a c.addr same in
      let tops = t.tops a c.addr same in
      let high = l.high a in
      top_image a (omega (arith, alike, tops, high, top, le))

  pub back_image : (c : Commitment) → c.place ≡ floor m c.addr + 1 → places c.addr < c.place → (a : ℕ) → CleanBut m (Some c.addr) a → image a ≡ back m c a
  back_image c is less a but = by (cases_eq (a / 8) (c.addr / 8)) but
    where
      by : (a / 8 ≡ c.addr / 8) ⊎ (a / 8 ≢ c.addr / 8) → CleanBut m (Some c.addr) a → image a ≡ back m c a
      by (inl same) _ =
          let alike = l.alike a c.addr same in
          let low = l.low c.addr in
          let place : places a ≡ floor m c.addr = omega (arith, alike, low, is, less) in
          l.is a ∙ ap (value_at m a) place ∙ value_alike m a c.addr (floor m c.addr) t same
          ∙ sym (cond-true (a / 8 == c.addr / 8) (value_at m c.addr (floor m c.addr)) (at m a) (eq-eqb (a / 8) (c.addr / 8) same))
      by (inr other) (inl clean) = clean_image a clean ∙ sym (cond-false (a / 8 == c.addr / 8) (value_at m c.addr (floor m c.addr)) (at m a) (ne_eqb (a / 8) (c.addr / 8) other))
      by (inr other) (inr same) = absurd (other same)

  pub keeps_firm : (but : Option ℕ) (words : ℕ → ℕ) (dir : ℕ) → IsFirm m but words dir → ((a : ℕ) → CleanBut m but a → image a ≡ words a) → KeepsNames words image dir
  keeps_firm but words dir firm same = record {
    heads = λ bucket low. same (bucket_head dir bucket) (firm.heads bucket low);
    entries = λ entry i reached few. same (word_of entry i) (firm.entries entry i reached few);
  }

module _ (m : Memory) (coffer : CofferAt) (tree other : List Member) (page_of : List (List ℕ) → ℕ) (use_of : ℕ → Use) (lasts : Lasts) (places image : ℕ → ℕ) (drop : ℕ → Bool)
    (s : IsSound m coffer tree page_of use_of lasts) (l : IsLeft m places image) (d : Drops places lasts drop) (o : IsLeftTree drop lasts tree other) where
  abbrev left : List (List ℕ) → Option Node
  left names = node_left drop lasts tree names

  -- what a crash makes of a unit
  data Fate (names : List (List ℕ)) : Type 0 where
    Settled : IsStill m (lasts names) → ((path : List (List ℕ)) → above path ≡ names → left path ≡ node_at tree path) → Fate names
    Kept : (c : Commitment) → lasts names ≡ Some c → IsOpen m c → c.place ≤ places c.addr → ((path : List (List ℕ)) → above path ≡ names → left path ≡ node_at tree path) → Fate names
    Lost : (c : Commitment) → lasts names ≡ Some c → IsOpen m c → places c.addr < c.place → ((path : List (List ℕ)) → above path ≡ names → left path ≡ node_before c tree path) → Fate names

  left_by : (names : List (List ℕ)) (last : Option Commitment) → lasts names ≡ last → (path : List (List ℕ)) → above path ≡ names → left path ≡ picked drop last path (node_at tree path)
  left_by names last is path up = ap (λ (x : Option Commitment). picked drop x path (node_at tree path)) (ap lasts up ∙ is)

  kept_nodes : (names : List (List ℕ)) (c : Commitment) → lasts names ≡ Some c → c.place ≤ places c.addr → (path : List (List ℕ)) → above path ≡ names → left path ≡ node_at tree path
  kept_nodes names c is le path up =
      left_by names (Some c) is path up ∙ cond-false (drop c.position) (undone c.undo path (node_at tree path)) (node_at tree path) (d names c is ∙ le-ltb (places c.addr) c.place le)

  lost_nodes : (names : List (List ℕ)) (c : Commitment) → lasts names ≡ Some c → places c.addr < c.place → (path : List (List ℕ)) → above path ≡ names → left path ≡ node_before c tree path
  lost_nodes names c is less path up =
      left_by names (Some c) is path up ∙ cond-true (drop c.position) (undone c.undo path (node_at tree path)) (node_at tree path) (d names c is ∙ lt-ltb (places c.addr) c.place less)

  fate : (names : List (List ℕ)) → Fate names
  fate names = by (lasts names) refl
    where
      by : (last : Option Commitment) → lasts names ≡ last → Fate names
      by None is = Settled (still_none m (lasts names) is) (left_by names None is)
      by (Some c) is = at_place (cases_lt (floor m c.addr) c.place) (cases_lt (places c.addr) c.place)
        where
          at_place : (floor m c.addr < c.place) ⊎ (c.place ≤ floor m c.addr) → (places c.addr < c.place) ⊎ (c.place ≤ places c.addr) → Fate names
          at_place (inl opened) (inl less) = Lost c is opened less (lost_nodes names c is less)
          at_place (inl opened) (inr le) = Kept c is opened le (kept_nodes names c is le)
          at_place (inr shut) _ =
              let low = l.low c.addr in
              let le : c.place ≤ places c.addr = omega (arith, low, shut) in
              Settled (still_durable m (lasts names) c is shut) (kept_nodes names c is le)

  t : IsTold (at m) coffer tree page_of use_of
  t = told (at m) coffer tree page_of use_of s.denotes

  -- what is left stands now, or stood before
  left_may : (names : List (List ℕ)) (node : Node) → left names ≡ Some node → MayStand m tree lasts names node
  left_may names node is = by (fate (above names))
    where
      by : Fate (above names) → MayStand m tree lasts names node
      by (Settled still nodes) = inl (sym (nodes names refl) ∙ is)
      by (Kept c last opened le nodes) = inl (sym (nodes names refl) ∙ is)
      by (Lost c last opened less nodes) = inr (record { commit = c; last = last; opened = opened; was = sym (nodes names refl) ∙ is })

  want_left : (names : List (List ℕ)) (name : List ℕ) (node : Option Node) → left (names ++ name ∷ []) ≡ node → target_of page_of coffer (names ++ name ∷ []) node ≡ wanted page_of coffer other names name
  want_left names name node is = ap (target_of page_of coffer (names ++ name ∷ [])) (sym (o.nodes (names ++ name ∷ []) ∙ is))

  shows_left : (names : List (List ℕ)) → MayStand m tree lasts names Directory → Shows image (IsEntryPage coffer use_of names) (page_at (page_of names)) (wanted page_of coffer other names)
  shows_left names may = by (fate names)
    where
      P : ℕ → Type 0
      P = IsEntryPage coffer use_of names

      dir : ℕ
      dir = page_at (page_of names)

      shown : Shows (at m) P dir (wanted page_of coffer tree names)
      shown = (s.members names Directory may).member.shown.1

      now : KeepsNames (at m) image dir → ((path : List (List ℕ)) → above path ≡ names → left path ≡ node_at tree path) → Shows image P dir (wanted page_of coffer other names)
      now keeps nodes =
          shows_want image P dir (wanted page_of coffer tree names) (wanted page_of coffer other names)
          (λ name. want_left names name (node_at tree (names ++ name ∷ [])) (nodes (names ++ name ∷ []) (above_push names name)))
          (shows_stay P P (at m) image dir (wanted page_of coffer tree names) shown keeps (λ page p. p))

      by : Fate names → Shows image P dir (wanted page_of coffer other names)
      by (Settled still nodes) = now (keeps_firm m places image s.tidy l None (at m) dir ((s.units names may).settled still) (settled_image m places image s.tidy l)) nodes
      by (Kept c last opened le nodes) =
          let p = (s.units names may).pending c last opened in
          now (keeps_firm m places image s.tidy l (Some c.addr) (at m) dir p.now (kept_image m places image s.tidy l c p.top le)) nodes
      by (Lost c last opened less nodes) =
          let p = (s.units names may).pending c last opened in
          shows_want image P dir (wanted_before c page_of coffer tree names) (wanted page_of coffer other names)
          (λ name. want_left names name (node_before c tree (names ++ name ∷ [])) (nodes (names ++ name ∷ []) (above_push names name)))
          (shows_stay P P (back m c) image dir (wanted_before c page_of coffer tree names) p.shows
          (keeps_firm m places image s.tidy l (Some c.addr) (back m c) dir p.was (back_image m places image s.tidy l c p.is less)) (λ page p. p))

  node_image : (names : List (List ℕ)) (node : Node) → MayStand m tree lasts names node → IsNode image (IsEntryPage coffer use_of names) (wanted page_of coffer other names) (page_at (page_of names)) node
  node_image names Directory may =
      let st = s.members names Directory may in
      (clean_image m places image s.tidy l (page_kind (page_at (page_of names))) st.firm ∙ st.member.shown.0, shows_left names may)
  node_image names (FileOf bytes) may =
      let st = s.members names (FileOf bytes) may in (
        clean_image m places image s.tidy l (page_kind (page_at (page_of names))) st.firm.0 ∙ st.member.shown.0,
        (clean_image m places image s.tidy l (file_map (page_at (page_of names))) st.firm.1 ∙ st.member.shown.1.0, st.member.shown.1.1),
      )

  members_left : (names : List (List ℕ)) (node : Node) → node_at other names ≡ Some node → IsMember image coffer other use_of page_of names node
  members_left names node is =
      let may = left_may names node (sym (o.nodes names) ∙ is) in
      let member = (s.members names node may).member in
      record { coffers = member.coffers; object = member.object; shown = node_image names node may }

  -- a directory that isn't bare stays
  dir_left : (names : List (List ℕ)) → IsDir tree names → ((c : Commitment) → lasts (above names) ≡ Some c → IsOpen m c → node_before c tree names ≡ Some Directory) → IsDir other names
  dir_left names dir sure = o.nodes names ∙ by (fate (above names))
    where
      by : Fate (above names) → left names ≡ Some Directory
      by (Settled still nodes) = nodes names refl ∙ dir
      by (Kept c last opened le nodes) = nodes names refl ∙ dir
      by (Lost c last opened less nodes) = nodes names refl ∙ sure c last opened

  inside_left : (names : List (List ℕ)) (name : List ℕ) (node : Node) → node_at other (names ++ name ∷ []) ≡ Some node → IsDir other names
  inside_left names name node is = by (fate names)
    where
      path : List (List ℕ)
      path = names ++ name ∷ []

      now : left path ≡ node_at tree path → IsDir other names
      now same =
          let stands : node_at tree path ≡ Some node = sym (o.nodes path ∙ same) ∙ is in
          let dir = t.inside names name node stands in
          dir_left names dir (λ c last opened. elim (s.fresh names c last opened dir) [
            | inl before ↦ before
            | inr bare ↦ absurd (none-some node (sym (bare.members name) ∙ stands))
          ])

      by : Fate names → IsDir other names
      by (Settled still nodes) = now (nodes path (above_push names name))
      by (Kept c last opened le nodes) = now (nodes path (above_push names name))
      by (Lost c last opened less nodes) =
          let dir = opened_dir m coffer tree page_of use_of lasts s names c last opened in
          dir_left names dir (λ e up_last up_opened. elim (s.fresh names e up_last up_opened dir) [
            | inl before ↦ before
            | inr bare ↦ absurd (bare.still c last opened)
          ])

  below_left : (names : List (List ℕ)) (name : List ℕ) → list_any (same_names (names ++ name ∷ [])) coffer.below ≡ true → IsDir other names × (node_at other (names ++ name ∷ []) ≡ None)
  below_left names name is = (
    dir_left names was.0 (λ c last opened. elim (s.fresh names c last opened was.0) [
      | inl before ↦ before
      | inr bare ↦ absurd (differ (sym is ∙ bare.coffers name))
    ]),
    o.nodes path ∙ by (fate names),
  )
    where
      path : List (List ℕ)
      path = names ++ name ∷ []

      was : IsDir tree names × (node_at tree path ≡ None)
      was = t.below names name is

      none_before : (c : Commitment) → lasts names ≡ Some c → IsOpen m c → (before : Option Node) → node_before c tree path ≡ before → node_before c tree path ≡ None
      none_before c last opened None e = e
      none_before c last opened (Some node) e =
          elim (s.gone path node (record { commit = c; last = ap lasts (above_push names name) ∙ last; opened = opened; was = e })) [
            | inl now ↦ absurd (none-some node (sym was.1 ∙ now))
            | inr back ↦ absurd (differ (sym is ∙ back.no_coffer))
          ]

      by : Fate names → left path ≡ None
      by (Settled still nodes) = nodes path (above_push names name) ∙ was.1
      by (Kept c last opened le nodes) = nodes path (above_push names name) ∙ was.1
      by (Lost c last opened less nodes) = nodes path (above_push names name) ∙ none_before c last opened (node_before c tree path) refl

  limits_left : (names : List (List ℕ)) (name : List ℕ) (target : ℕ) → IsDir other names → wanted page_of coffer other names name ≡ Some target → IsInLimits (coffer.path ++ (names ++ name ∷ []))
  limits_left names name target dir want = by (node_at other path) refl
    where
      path : List (List ℕ)
      path = names ++ name ∷ []

      now : (node : Node) → node_at tree path ≡ Some node → IsInLimits (coffer.path ++ path)
      now node is = t.limits names name (page_at (page_of path)) (t.inside names name node is) (ap (target_of page_of coffer path) is)

      below : (any : Bool) → list_any (same_names path) coffer.below ≡ any → (if any then Some 1 else None) ≡ Some target → IsInLimits (coffer.path ++ path)
      below true is e =
          let was = t.below names name is in
          t.limits names name 1 was.0 (ap (target_of page_of coffer path) was.1 ∙ ap (λ (b : Bool). if b then Some 1 else None) is)
      below false is e = absurd (none-some target e)

      by : (node : Option Node) → node_at other path ≡ node → IsInLimits (coffer.path ++ path)
      by (Some node) is = elim (left_may path node (sym (o.nodes path) ∙ is)) [
        | inl stands ↦ now node stands
        | inr stood ↦ elim (s.gone path node stood) [
          | inl stands ↦ now node stands
          | inr back ↦ back.limits
        ]
      ]
      by None is = below (list_any (same_names path) coffer.below) refl (sym (ap (target_of page_of coffer path) is) ∙ want)

  root_left : left [] ≡ node_at tree []
  root_left = by (fate [])
    where
      by : Fate [] → left [] ≡ node_at tree []
      by (Settled still nodes) = nodes [] refl
      by (Kept c last opened le nodes) = nodes [] refl
      by (Lost c last opened less nodes) =
          let dir = opened_dir m coffer tree page_of use_of lasts s [] c last opened in
          let p = (s.units [] (inl dir)).pending c last opened in
          nodes [] refl ∙ undone_other c.undo [] (node_at tree []) (λ u has e. let h = p.here u has in not_root [] h.0 (sym e ∙ h.1))

  pub survives_told : IsTold image coffer other page_of use_of
  survives_told = record {
    control = t.control;
    no_intent = clean_image m places image s.tidy l (control_intent (page_at coffer.control)) s.intent ∙ t.no_intent;
    root = t.root;
    root_stands = o.nodes [] ∙ root_left ∙ t.root_stands;
    root_page = t.root_page;
    once = o.once;
    members = members_left;
    inside = inside_left;
    limits = limits_left;
    below = below_left;
  }

pub survives : SurviveLaw
survives m coffer tree other page_of use_of lasts places image drop s l d o =
    denotes_by image coffer other page_of use_of (survives_told m coffer tree other page_of use_of lasts places image drop s l d o)
