-- What users see without dropped changes, after any entry that does what it owes.
use Rattle.std.proofs.Common.{◌≡◌, ◌≢◌, ℕ, ◌+◌, ◌-◌, ◌<◌, ◌==◌, suc, Bool, true, false, cond, ◌&&◌, if◌then◌else◌, List, [], ◌∷◌, ◌++◌, length, filter, take, refl, sym, ap, subst, ◌∙◌, inl, inr, ◌⊎◌, arith, Option, Some, None}
use Rattle.std.specs.Cmp.Lexicographic.{pointwise_decides, bytes_decides}
use Rattle.std.proofs.lemmas.Bool.{cases_eq, eq-eqb, ne_eqb, eqb-true, false≢true, false_from_ne_true}
use Rattle.std.proofs.lemmas.List.{length-take-le}
use Rattle.tr_types.specs.Paths.{names_of}
use Rattle.tr_types.specs.declared.entry.Entry.{Entry}
use Rattle.zo_model.specs.Tree.{Member, Node, FileOf, same_names, node_at, is_child}
use Rattle.zo_model.specs.Coffers.{parent}
use Rattle.tr_replay.specs.Worlds.{World, never, replay_of, stepped}
use Rattle.tr_passing.specs.Units.{Last, Units, Lasts, Allowed, IsAtRisk, IsOpen, units_after, kept_last, members_in, undone, node_by, node_left, count_by, count_left}
use Rattle.tr_passing.specs.Laws.{IsTidy, IsOrdered, Owes, IsAlike, Differs, DiffersMore}
use Rattle.tr_passing.proofs.Growth.{file_of}
use Rattle.tr_passing.proofs.Orders.{new_position}
use Rattle.tr_passing.proofs.Moves.{Rests, Tells, Moves, kind_of, allowed_never, new_last}
use Rattle.tr_passing.proofs.Keeping.{allowed_before}

same_is : (xs ys : List (List ℕ)) → same_names xs ys ≡ true → xs ≡ ys
same_is xs ys = (pointwise_decides bytes_decides xs ys).0

is_same : (xs ys : List (List ℕ)) → xs ≡ ys → same_names xs ys ≡ true
is_same xs ys = (pointwise_decides bytes_decides xs ys).1

not_same : (xs ys : List (List ℕ)) → (xs ≡ ys → ⊥) → same_names xs ys ≡ false
not_same xs ys ne = false_from_ne_true (same_names xs ys) (λ e. ne (same_is xs ys e))

pub cases_names : (xs ys : List (List ℕ)) → (xs ≡ ys) ⊎ (xs ≡ ys → ⊥)
cases_names xs ys = by (same_names xs ys) refl
  where
    by : (b : Bool) → same_names xs ys ≡ b → (xs ≡ ys) ⊎ (xs ≡ ys → ⊥)
    by true e = inl (same_is xs ys e)
    by false e = inr (λ same. false≢true (sym e ∙ is_same xs ys same))

-- A tree with one member more.

abbrev pub node_or : Option Node → Option Node → Option Node
node_or None more = more
node_or (Some node) more = Some node

pub node_more : (tree : List Member) (m : Member) (names : List (List ℕ)) → node_at (tree ++ m ∷ []) names ≡ node_or (node_at tree names) (if same_names m.names names then Some m.node else None)
node_more [] m names = refl
node_more (x ∷ tree) m names = by (same_names x.names names) (node_more tree m names)
  where
    by : (b : Bool) → node_at (tree ++ m ∷ []) names ≡ node_or (node_at tree names) (if same_names m.names names then Some m.node else None)
        → cond b (Some x.node) (node_at (tree ++ m ∷ []) names) ≡ node_or (cond b (Some x.node) (node_at tree names)) (if same_names m.names names then Some m.node else None)
    by true rest = refl
    by false rest = rest

or_none : (o : Option Node) → node_or o None ≡ o
or_none None = refl
or_none (Some node) = refl

pub node_other : (tree : List Member) (m : Member) (names : List (List ℕ)) → (names ≡ m.names → ⊥) → node_at (tree ++ m ∷ []) names ≡ node_at tree names
node_other tree m names ne =
    node_more tree m names ∙ ap (λ (b : Bool). node_or (node_at tree names) (cond b (Some m.node) None)) (not_same m.names names (λ e. ne (sym e))) ∙ or_none (node_at tree names)

-- the member is a child of its parent alone
child_is : (q names : List (List ℕ)) (node : Node) → names ≢ [] → is_child q (record { names = names; node = node }) ≡ same_names (parent names) q
child_is q names node some = by (same_names (parent names) q) refl
  where
    long : 0 < length names
    long = at names refl
      where
        at : (xs : List (List ℕ)) → names ≡ xs → 0 < length xs
        at [] e = absurd (some e)
        at (x ∷ xs) e = omega arith

    size : length (parent names) ≡ length names - 1
    size = length-take-le (length names - 1) names (omega arith)

    and_both : (a b : Bool) → a ≡ true → b ≡ true → (a && b) ≡ true
    and_both a b one two = (λ i. one i && two i)

    parts : (a b : Bool) → (a && b) ≡ true → (a ≡ true) × (b ≡ true)
    parts true b e = (refl, e)
    parts false b e = absurd (false≢true e)

    by : (b : Bool) → same_names (parent names) q ≡ b → is_child q (record { names = names; node = node }) ≡ b
    by true e =
        let is : parent names ≡ q = same_is (parent names) q e in
        let count : length (parent names) ≡ length q = ap (λ (l : List (List ℕ)). length l) is in
        let n : length q ≡ length names - 1 = omega (arith, size, count) in
        and_both (length names == length q + 1) (same_names q (take (length q) names)) (eq-eqb (length names) (length q + 1) (omega (arith, n, long))) (is_same q (take (length q) names) (sym (ap (λ (k : ℕ). take k names) n ∙ is)))
    by false e = false_from_ne_true (is_child q (record { names = names; node = node })) (λ yes'.
        let p = parts (length names == length q + 1) (same_names q (take (length q) names)) yes' in
        let n = eqb-true (length names) (length q + 1) p.0 in
        let k : length names - 1 ≡ length q = omega (arith, n) in
        false≢true (sym e ∙ is_same (parent names) q (ap (λ (j : ℕ). take j names) k ∙ sym (same_is q (take (length q) names) p.1))))

suc_more : (a b c : ℕ) → a ≡ b + c → suc a ≡ suc b + c
suc_more a b c e = omega (arith, e)

members_more : (tree : List Member) (m : Member) (q : List (List ℕ)) → members_in (tree ++ m ∷ []) q ≡ members_in tree q + (if is_child q m then 1 else 0)
members_more [] m q = by (is_child q m)
  where
    by : (b : Bool) → length (cond b (m ∷ []) []) ≡ 0 + cond b 1 0
    by true = refl
    by false = refl
members_more (x ∷ tree) m q = by (is_child q x) (members_more tree m q)
  where
    by : (b : Bool) → members_in (tree ++ m ∷ []) q ≡ members_in tree q + (if is_child q m then 1 else 0)
        → length (cond b (x ∷ filter (is_child q) (tree ++ m ∷ [])) (filter (is_child q) (tree ++ m ∷ []))) ≡ length (cond b (x ∷ filter (is_child q) tree) (filter (is_child q) tree)) + (if is_child q m then 1 else 0)
    by true rest = suc_more (members_in (tree ++ m ∷ []) q) (members_in tree q) (if is_child q m then 1 else 0) rest
    by false rest = rest

pub node_kept : (drops : ℕ → Bool) (o : Option Last) (names : List (List ℕ)) (node : Option Node) → ((last : Last) → o ≡ Some last → drops last.commit.position ≡ false) → node_by drops o names node ≡ node
node_kept drops None names node free = refl
node_kept drops (Some last) names node free = ap (λ (b : Bool). cond b (undone last.undo names node) node) (free last refl)

pub count_kept : (drops : ℕ → Bool) (o : Option Last) (count : ℕ) → ((last : Last) → o ≡ Some last → drops last.commit.position ≡ false) → count_by drops o count ≡ count
count_kept drops None count free = refl
count_kept drops (Some last) count free = ap (λ (b : Bool). cond b last.names count) (free last refl)

some_last : (a b : Last) → Some a ≡ Some b → a ≡ b
some_last a b e = cc

module _ (w : World) (units : Units) (e : Entry) (tidy : IsTidy w.base) (ordered : IsOrdered w units) (differs : Differs w units) (owes : Owes w units e) (drops : ℕ → Bool) (allowed : Allowed drops (stepped w e) (units_after w e units)) where
  before : Allowed drops w units
  before = allowed_before drops w units e tidy ordered owes.comes allowed

  alike : IsAlike drops w units
  alike = differs drops before

  -- a change that is the last of its unit no more is not dropped
  undropped : (b : ℕ) (names : List (List ℕ)) (last : Last) → units.last b names ≡ Some last → ((units_after w e units).last b names ≡ Some last → ⊥) → drops last.commit.position ≡ false
  undropped b names last is gone = false_from_ne_true (drops last.commit.position) (λ drop.
      let judged = ordered.judged b names last is in
      by (before last.commit.position (ordered.passed last.commit.position judged) judged drop))
    where
      by : IsAtRisk w units last.commit.position → ⊥
      by risk =
          let same = tidy.different risk.last.commit last.commit risk.among (ordered.among b names last is) risk.position_is in
          gone (owes.stays b names last is (subst (IsOpen w.base) same risk.is_open))

  rests : Rests w e units → IsAlike drops (stepped w e) (units_after w e units)
  rests r = record {
    nodes = λ b names.
        ap (λ (trees : ℕ → List Member). node_at (trees b) names) (r.trees_are drops) ∙ alike.nodes b names
        ∙ sym (λ i. node_left drops (r.units_are i) b names (node_at (r.trees_are never i b) names));
    counts = λ b names.
        ap (λ (trees : ℕ → List Member). members_in (trees b) names) (r.trees_are drops) ∙ alike.counts b names
        ∙ sym (λ i. count_left drops (r.units_are i) b names (members_in (r.trees_are never i b) names));
  }

  tells : Tells w e units → IsAlike drops (stepped w e) (units_after w e units)
  tells t = record {
    nodes = λ b names.
        ap (λ (trees : ℕ → List Member). node_at (trees b) names) (t.trees_are drops) ∙ alike.nodes b names ∙ told_node b (parent names) names (node_at ((replay_of w).trees b) names) (units.last b (parent names)) refl
        ∙ sym (λ i. node_by drops (t.last_is i b (parent names)) names (node_at (t.trees_are never i b) names));
    counts = λ b names.
        ap (λ (trees : ℕ → List Member). members_in (trees b) names) (t.trees_are drops) ∙ alike.counts b names ∙ told_count b names (members_in ((replay_of w).trees b) names) (units.last b names) refl
        ∙ sym (λ i. count_by drops (t.last_is i b names) (members_in (t.trees_are never i b) names));
  }
    where
      free : (b : ℕ) (q : List (List ℕ)) (last : Last) → units.last b q ≡ Some last → (last.commit.thread == t.thread) ≡ true → drops last.commit.position ≡ false
      free b q last is own = undropped b q last is (λ stays.
          let none : (units_after w e units).last b q ≡ None = ap (λ (l : Lasts). l b q) t.last_is ∙ ap (kept_last t.thread) is ∙ ap (λ (x : Bool). cond x None (Some last)) own in
          let both : None ≡ Some last = sym none ∙ stays in
          let isnt : ⊥ = cc in isnt)

      told_node : (b : ℕ) (q names : List (List ℕ)) (node : Option Node) (o : Option Last) → units.last b q ≡ o → node_by drops o names node ≡ node_by drops (kept_last t.thread o) names node
      told_node b q names node None is = refl
      told_node b q names node (Some last) is = own (last.commit.thread == t.thread) refl
        where
          own : (x : Bool) → (last.commit.thread == t.thread) ≡ x → node_by drops (Some last) names node ≡ node_by drops (cond x None (Some last)) names node
          own false s = refl
          own true s = ap (λ (y : Bool). cond y (undone last.undo names node) node) (free b q last is s)

      told_count : (b : ℕ) (q : List (List ℕ)) (count : ℕ) (o : Option Last) → units.last b q ≡ o → count_by drops o count ≡ count_by drops (kept_last t.thread o) count
      told_count b q count None is = refl
      told_count b q count (Some last) is = own (last.commit.thread == t.thread) refl
        where
          own : (x : Bool) → (last.commit.thread == t.thread) ≡ x → count_by drops (Some last) count ≡ count_by drops (cond x None (Some last)) count
          own false s = refl
          own true s = ap (λ (y : Bool). cond y last.names count) (free b q last is s)

  module _ (m : Moves w e units tidy.alone.standing) where
    abbrev names_is : List (List ℕ)
    names_is = names_of m.path

    abbrev dir : List (List ℕ)
    dir = parent names_is

    abbrev file : Member
    file = file_of m.path

    abbrev new : Last
    new = new_last w m.c tidy.alone.standing m.path

    abbrev T : ℕ → List Member
    T = (replay_of w).trees

    abbrev D : ℕ → List Member
    D = (w.replays drops).trees

    position : m.c.position ≡ w.base.count
    position = new_position w.base e m.c m.new

    last_is : (b : ℕ) (q : List (List ℕ)) → (units_after w e units).last b q ≡ cond ((b == 0) && same_names dir q) (Some new) (units.last b q)
    last_is b q = ap (λ (u : Units). u.last b q) m.units_are

    T_is : (b : ℕ) → ((replay_of (stepped w e)).trees b) ≡ cond (0 == b) (T 0 ++ file ∷ []) (T b)
    T_is b = m.kept never refl (owes.sure never (allowed_never w units)) b

    -- the directory's last change before is not dropped
    free : (q : List (List ℕ)) → same_names dir q ≡ true → (last : Last) → units.last 0 q ≡ Some last → drops last.commit.position ≡ false
    free q same last is = undropped 0 q last is (λ stays.
        let now : Some new ≡ Some last = sym (ap (λ (t : Bool). cond t (Some new) (units.last 0 q)) same) ∙ sym (last_is 0 q) ∙ stays in
        let at : m.c.position ≡ last.commit.position = ap (λ (l : Last). l.commit.position) (some_last new last now) in
        let lt = ordered.passed last.commit.position (ordered.judged 0 q last is) in
        let p = position in
        omega (arith, at, lt, p))

    -- elsewhere nothing changes
    module _ (b : ℕ) (ne : b ≡ 0 → ⊥) (D_is : ((stepped w e).replays drops).trees b ≡ D b) where
      T_same : (replay_of (stepped w e)).trees b ≡ T b
      T_same = T_is b ∙ ap (λ (t : Bool). cond t (T 0 ++ file ∷ []) (T b)) (ne_eqb 0 b (λ s. ne (sym s)))

      last_same : (q : List (List ℕ)) → (units_after w e units).last b q ≡ units.last b q
      last_same q = last_is b q ∙ ap (λ (t : Bool). cond (t && same_names dir q) (Some new) (units.last b q)) (ne_eqb b 0 ne)

      far_nodes : (names : List (List ℕ)) → node_at (((stepped w e).replays drops).trees b) names ≡ node_left drops (units_after w e units) b names (node_at ((replay_of (stepped w e)).trees b) names)
      far_nodes names = ap (λ (t : List Member). node_at t names) D_is ∙ alike.nodes b names ∙ sym (λ i. node_by drops (last_same (parent names) i) names (node_at (T_same i) names))

      far_counts : (names : List (List ℕ)) → members_in (((stepped w e).replays drops).trees b) names ≡ count_left drops (units_after w e units) b names (members_in ((replay_of (stepped w e)).trees b) names)
      far_counts names = ap (λ (t : List Member). members_in t names) D_is ∙ alike.counts b names ∙ sym (λ i. count_by drops (last_same names i) (members_in (T_same i) names))

    -- the root coffer, where the change itself is dropped or not
    module _ (d : Bool) (d_is : drops w.base.count ≡ d) (D_is : ((stepped w e).replays drops).trees 0 ≡ cond d (D 0) (D 0 ++ file ∷ [])) where
      drop_is : drops m.c.position ≡ d
      drop_is = ap drops position ∙ d_is

      last_node : (names : List (List ℕ)) (node : Option Node) → node_left drops (units_after w e units) 0 names node ≡ node_by drops (cond (same_names dir (parent names)) (Some new) (units.last 0 (parent names))) names node
      last_node names node = ap (λ (o : Option Last). node_by drops o names node) (last_is 0 (parent names))

      new_node : (names : List (List ℕ)) (node : Option Node) → node_by drops (Some new) names node ≡ cond d (cond (same_names names_is names) None node) node
      new_node names node = ap (λ (t : Bool). cond t (cond (same_names names_is names) None node) node) drop_is

      D_other : (names : List (List ℕ)) → (names ≡ names_is → ⊥) → node_at (((stepped w e).replays drops).trees 0) names ≡ node_at (D 0) names
      D_other names ne = ap (λ (t : List Member). node_at t names) D_is ∙ by d
        where
          by : (x : Bool) → node_at (cond x (D 0) (D 0 ++ file ∷ [])) names ≡ node_at (D 0) names
          by true = refl
          by false = node_other (D 0) file names ne

      T_other : (names : List (List ℕ)) → (names ≡ names_is → ⊥) → node_at ((replay_of (stepped w e)).trees 0) names ≡ node_at (T 0) names
      T_other names ne = ap (λ (t : List Member). node_at t names) (T_is 0) ∙ node_other (T 0) file names ne

      other_nodes : (names : List (List ℕ)) → (names ≡ names_is → ⊥) → node_at (((stepped w e).replays drops).trees 0) names ≡ node_left drops (units_after w e units) 0 names (node_at ((replay_of (stepped w e)).trees 0) names)
      other_nodes names ne =
          D_other names ne ∙ alike.nodes 0 names ∙ by (same_names dir (parent names)) refl
          ∙ sym (last_node names (node_at (T 0) names)) ∙ ap (λ (o : Option Node). node_left drops (units_after w e units) 0 names o) (sym (T_other names ne))
        where
          both : (x : Bool) → cond x (node_at (T 0) names) (node_at (T 0) names) ≡ node_at (T 0) names
          both true = refl
          both false = refl

          by : (t : Bool) → same_names dir (parent names) ≡ t
              → node_by drops (units.last 0 (parent names)) names (node_at (T 0) names) ≡ node_by drops (cond t (Some new) (units.last 0 (parent names))) names (node_at (T 0) names)
          by false same = refl
          by true same =
              node_kept drops (units.last 0 (parent names)) names (node_at (T 0) names) (free (parent names) same)
              ∙ sym (new_node names (node_at (T 0) names) ∙ ap (λ (t : Bool). cond d (cond t None (node_at (T 0) names)) (node_at (T 0) names)) (not_same names_is names (λ s. ne (sym s))) ∙ both d)

      fresh : node_at (T 0) names_is ≡ None
      fresh = m.makes.1.fresh

      D_fresh : node_at (D 0) names_is ≡ None
      D_fresh = alike.nodes 0 names_is ∙ node_kept drops (units.last 0 dir) names_is (node_at (T 0) names_is) (free dir (is_same dir dir refl)) ∙ fresh

      grown : (tree : List Member) → node_at tree names_is ≡ None → node_at (tree ++ file ∷ []) names_is ≡ Some (FileOf [])
      grown tree none =
          node_more tree file names_is ∙ (λ i. node_or (none i) (if same_names names_is names_is then Some (FileOf []) else None)) ∙ ap (λ (t : Bool). cond t (Some (FileOf [])) None) (is_same names_is names_is refl)

      own_node : node_at (((stepped w e).replays drops).trees 0) names_is ≡ node_left drops (units_after w e units) 0 names_is (node_at ((replay_of (stepped w e)).trees 0) names_is)
      own_node =
          ap (λ (t : List Member). node_at t names_is) D_is ∙ by d
          ∙ sym (
          last_node names_is (node_at ((replay_of (stepped w e)).trees 0) names_is)
          ∙ (λ i. node_by drops (cond (is_same dir dir refl i) (Some new) (units.last 0 dir)) names_is (node_at ((replay_of (stepped w e)).trees 0) names_is))
          ∙ new_node names_is (node_at ((replay_of (stepped w e)).trees 0) names_is)
          ∙ (λ i. cond d (cond (is_same names_is names_is refl i) None (node_at (T_is 0 i) names_is)) (node_at (T_is 0 i) names_is))
          ∙ ap (λ (o : Option Node). cond d None o) (grown (T 0) fresh)
          )
        where
          by : (x : Bool) → node_at (cond x (D 0) (D 0 ++ file ∷ [])) names_is ≡ cond x None (Some (FileOf []))
          by true = D_fresh
          by false = grown (D 0) D_fresh

      near_nodes : (names : List (List ℕ)) → node_at (((stepped w e).replays drops).trees 0) names ≡ node_left drops (units_after w e units) 0 names (node_at ((replay_of (stepped w e)).trees 0) names)
      near_nodes names = by (cases_names names names_is)
        where
          by : (names ≡ names_is) ⊎ (names ≡ names_is → ⊥) → node_at (((stepped w e).replays drops).trees 0) names ≡ node_left drops (units_after w e units) 0 names (node_at ((replay_of (stepped w e)).trees 0) names)
          by (inl same) = subst (λ (n : List (List ℕ)). node_at (((stepped w e).replays drops).trees 0) n ≡ node_left drops (units_after w e units) 0 n (node_at ((replay_of (stepped w e)).trees 0) n)) (sym same) own_node
          by (inr ne) = other_nodes names ne

      members_grow : (tree : List Member) (q : List (List ℕ)) (t : Bool) → same_names dir q ≡ t → members_in (tree ++ file ∷ []) q ≡ members_in tree q + cond t 1 0
      members_grow tree q t is = members_more tree file q ∙ ap (λ (x : Bool). members_in tree q + cond x 1 0) (child_is q names_is (FileOf []) m.makes.1.some ∙ is)

      none_more : (n : ℕ) → n + 0 ≡ n
      none_more n = omega arith

      near_counts : (q : List (List ℕ)) → members_in (((stepped w e).replays drops).trees 0) q ≡ count_left drops (units_after w e units) 0 q (members_in ((replay_of (stepped w e)).trees 0) q)
      near_counts q = ap (λ (t : List Member). members_in t q) D_is ∙ by (same_names dir q) refl ∙ sym ((λ i. count_by drops (last_is 0 q i) (members_in (T_is 0 i) q)))
        where
          still : (x : Bool) → same_names dir q ≡ false → members_in (cond x (D 0) (D 0 ++ file ∷ [])) q ≡ members_in (D 0) q
          still true is = refl
          still false is = members_grow (D 0) q false is ∙ none_more (members_in (D 0) q)

          D_count : same_names dir q ≡ true → members_in (D 0) q ≡ members_in (T 0) q
          D_count is = alike.counts 0 q ∙ count_kept drops (units.last 0 q) (members_in (T 0) q) (free q is)

          own : (x : Bool) → same_names dir q ≡ true → members_in (cond x (D 0) (D 0 ++ file ∷ [])) q ≡ cond x (members_in (T 0) dir) (members_in (T 0 ++ file ∷ []) q)
          own true is = D_count is ∙ ap (members_in (T 0)) (sym (same_is dir q is))
          own false is = members_grow (D 0) q true is ∙ ap (λ (n : ℕ). n + 1) (D_count is) ∙ sym (members_grow (T 0) q true is)

          by : (t : Bool) → same_names dir q ≡ t → members_in (cond d (D 0) (D 0 ++ file ∷ [])) q ≡ count_by drops (cond (same_names dir q) (Some new) (units.last 0 q)) (members_in (T 0 ++ file ∷ []) q)
          by true is =
              own d is
              ∙ sym (
              (λ i. count_by drops (cond (is i) (Some new) (units.last 0 q)) (members_in (T 0 ++ file ∷ []) q))
              ∙ ap (λ (x : Bool). cond x (members_in (T 0) dir) (members_in (T 0 ++ file ∷ []) q)) drop_is
              )
          by false is =
              still d is ∙ alike.counts 0 q
              ∙ sym (
              (λ i. count_by drops (cond (is i) (Some new) (units.last 0 q)) (members_in (T 0 ++ file ∷ []) q))
              ∙ ap (count_by drops (units.last 0 q)) (members_grow (T 0) q false is ∙ none_more (members_in (T 0) q))
              )

    D_after : (d : Bool) → drops w.base.count ≡ d → (b : ℕ) → ((stepped w e).replays drops).trees b ≡ cond d (D b) (cond (0 == b) (D 0 ++ file ∷ []) (D b))
    D_after true is b = ap (λ (trees : ℕ → List Member). trees b) (m.dropped drops is)
    D_after false is b = m.kept drops is (owes.sure drops before) b

    moves : (d : Bool) → drops w.base.count ≡ d → IsAlike drops (stepped w e) (units_after w e units)
    moves d is = record { nodes = λ b names. nodes b names (cases_eq b 0); counts = λ b names. counts b names (cases_eq b 0) }
      where
        both : (x : Bool) (t : List Member) → cond x t t ≡ t
        both true t = refl
        both false t = refl

        far : (b : ℕ) → (b ≡ 0 → ⊥) → ((stepped w e).replays drops).trees b ≡ D b
        far b ne = D_after d is b ∙ ap (λ (t : Bool). cond d (D b) (cond t (D 0 ++ file ∷ []) (D b))) (ne_eqb 0 b (λ s. ne (sym s))) ∙ both d (D b)

        nodes : (b : ℕ) (names : List (List ℕ)) → (b ≡ 0) ⊎ (b ≡ 0 → ⊥) → node_at (((stepped w e).replays drops).trees b) names ≡ node_left drops (units_after w e units) b names (node_at ((replay_of (stepped w e)).trees b) names)
        nodes b names (inl at) = subst (λ (k : ℕ). node_at (((stepped w e).replays drops).trees k) names ≡ node_left drops (units_after w e units) k names (node_at ((replay_of (stepped w e)).trees k) names)) (sym at) (near_nodes d is (D_after d is 0) names)
        nodes b names (inr ne) = far_nodes b ne (far b ne) names

        counts : (b : ℕ) (names : List (List ℕ)) → (b ≡ 0) ⊎ (b ≡ 0 → ⊥) → members_in (((stepped w e).replays drops).trees b) names ≡ count_left drops (units_after w e units) b names (members_in ((replay_of (stepped w e)).trees b) names)
        counts b names (inl at) = subst (λ (k : ℕ). members_in (((stepped w e).replays drops).trees k) names ≡ count_left drops (units_after w e units) k names (members_in ((replay_of (stepped w e)).trees k) names)) (sym at) (near_counts d is (D_after d is 0) names)
        counts b names (inr ne) = far_counts b ne (far b ne) names

  alike_after : Rests w e units ⊎ (Tells w e units ⊎ Moves w e units tidy.alone.standing) → IsAlike drops (stepped w e) (units_after w e units)
  alike_after (inl r) = rests r
  alike_after (inr (inl t)) = tells t
  alike_after (inr (inr m)) = moves m (drops w.base.count) refl

pub differs_more : DiffersMore
differs_more w units e tidy ordered differs owes drops allowed =
    alike_after w units e tidy ordered differs owes drops allowed (kind_of w e units tidy owes.comes (owes.sure never (allowed_never w units)))
