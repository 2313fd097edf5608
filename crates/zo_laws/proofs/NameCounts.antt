-- The names counted in a directory's words are those of its members and of the coffers directly under it.
use Rattle.std.proofs.Common.{◌≡◌, ◌≢◌, ◌⊎◌, ℕ, zero, suc, ◌+◌, ◌-◌, ◌<◌, ◌≤◌, Bool, true, false, cond, if◌then◌else◌, List, [], ◌∷◌, ◌++◌, length, map, filter, take, drop, get_or, Contains, ap, sym, refl, subst, ◌∙◌, inl, inr, arith}
use Rattle.std.specs.Prelude.{Option, Some, None, ◌==◌, nat_eq}
use Rattle.std.specs.Bool.{Decides}
use Rattle.std.specs.List.{IsDistinct, AllByRecursion, list_any, starts_with}
use Rattle.std.specs.Cmp.Lexicographic.{pointwise}
use Rattle.std.proofs.lemmas.Bool.Decides.{Decides-eqb, Decides-and}
use Rattle.std.proofs.lemmas.Cmp.{nat_list_eq_equiv}
use Rattle.std.proofs.lemmas.Slice.Eq.{slice_eq-Decides}
use Rattle.std.proofs.lemmas.List.{length-append, length-drop, length-map, take-append-drop, take_at, get_or_at}
use Rattle.std.proofs.lemmas.List.Elements.{Contains-append_left, Contains-append_right, Contains-append_cases}
use Rattle.std.proofs.lemmas.Map.Made.{is_member-Decides, length-le_from_is_member}
use Rattle.std.proofs.lemmas.Map.Keys.{IsDistinct-head, IsDistinct-tail, IsDistinct-cons}
use Rattle.tr_types.specs.Paths.{same_text}
use Rattle.zo_layout.specs.Layout.{page_at, bucket_head, bucket_of, entry_target}
use Rattle.zo_model.specs.Tree.{Member, Node, Directory, node_at, same_names, is_child}
use Rattle.zo_model.specs.Directory.{IsBucket, name_at, target_in}
use Rattle.zo_model.specs.CofferWords.{CofferAt, IsEntryPage, IsDir, Denotes, target_of, wanted}
use Rattle.zo_hash_dir.specs.Counting.{names_below, HasNames}
use Rattle.zo_laws.specs.NameCounts.{is_under, NamesCounted}
use Rattle.zo_laws.proofs.Members.{contains_here, contains_there, contains_cases, contains_none}
use Rattle.zo_laws.proofs.Chains.{one_chain}

-- tests of equal texts and equal paths
text_decides : (a b : List ℕ) → Decides (same_text a b) (a ≡ b)
text_decides a b = slice_eq-Decides Decides-eqb a b (same_text a b) refl

path_decides : (a b : List (List ℕ)) → Decides (same_names a b) (a ≡ b)
path_decides a b = slice_eq-Decides text_decides a b (same_names a b) refl

-- what holds of each member of a list
all_at : {X : Type 0} (P : X → Type 0) (xs : List X) (x : X) → AllByRecursion P xs → Contains xs x → P x
all_at P [] x a h = absurd (contains_none x h)
all_at {X = X} P (y ∷ xs) x a h = by (λ r. all_at P xs x a.1 r) (contains_cases y xs x h)
  where
    by : (Contains xs x → P x) → (y ≡ x) ⊎ Contains xs x → P x
    by rest (inl is) = subst P is a.0
    by rest (inr r) = rest r

all_from : {X : Type 0} (P : X → Type 0) (xs : List X) → ((x : X) → Contains xs x → P x) → AllByRecursion P xs
all_from P [] h = tt
all_from P (x ∷ xs) h = (h x (contains_here x xs), all_from P xs (λ y c. h y (contains_there x xs y c)))

all_append : {X : Type 0} (P : X → Type 0) (xs ys : List X) → AllByRecursion P xs → AllByRecursion P ys → AllByRecursion P (xs ++ ys)
all_append P [] ys a b = b
all_append P (x ∷ xs) ys a b = (a.0, all_append P xs ys a.1 b)

other_text : (a b : List ℕ) → a ≢ b → same_text a b ≡ false
other_text a b ne = by (same_text a b) refl
  where
    by : (r : Bool) → same_text a b ≡ r → r ≡ false
    by true e = absurd (ne ((text_decides a b).0 e))
    by false e = refl

no_text : IsDistinct same_text []
unfolding IsDistinct
no_text = tt

distinct_append : (xs ys : List (List ℕ)) → IsDistinct same_text xs → IsDistinct same_text ys → ((x : List ℕ) → Contains xs x → Contains ys x → ⊥) → IsDistinct same_text (xs ++ ys)
distinct_append [] ys a b apart = b
distinct_append (x ∷ xs) ys a b apart =
    IsDistinct-cons same_text x (xs ++ ys)
    (all_append (λ y. same_text x y ≡ false) xs ys (IsDistinct-head same_text x xs a)
    (all_from (λ y. same_text x y ≡ false) ys (λ y c. other_text x y (λ e. apart x (contains_here x xs) (subst (Contains ys) (sym e) c)))))
    (distinct_append xs ys (IsDistinct-tail same_text x xs a) b (λ y c d. apart y (contains_there x xs y c) d))

no_longer : (xs ys : List (List ℕ)) → IsDistinct same_text xs → ((x : List ℕ) → Contains xs x → Contains ys x) → length xs ≤ length ys
no_longer xs ys distinct within =
    length-le_from_is_member nat_list_eq_equiv xs ys distinct (λ q h. (is_member-Decides text_decides ys q).1 (within q ((is_member-Decides text_decides xs q).0 h)))

-- paths with one name more than these
under_decides : (names path : List (List ℕ)) → Decides (is_under names path) ((length path ≡ length names + 1) × (names ≡ take (length names) path))
under_decides names path =
    Decides-and (length path == length names + 1) (starts_with (pointwise nat_eq) path names) (Decides-eqb (length path) (length names + 1))
    (slice_eq-Decides text_decides names (take (length names) path) (starts_with (pointwise nat_eq) path names) refl)

one_item : (xs : List (List ℕ)) → length xs ≡ 1 → (x : List ℕ) × (xs ≡ x ∷ [])
one_item [] e = absurd (omega (arith, e))
one_item (x ∷ []) e = (x, refl)
one_item (x ∷ y ∷ xs) e = absurd (omega (arith, e))

under_split : (names path : List (List ℕ)) → is_under names path ≡ true → (name : List ℕ) × (path ≡ names ++ name ∷ [])
under_split names path t =
    let u = (under_decides names path).0 t in
    let n = length names in
    let one = one_item (drop n path) (omega (arith, length-drop n path, u.0)) in
    (one.0, sym (take-append-drop n path) ∙ ap (λ (front : List (List ℕ)). front ++ drop n path) (sym u.1) ∙ ap (λ (back : List (List ℕ)). names ++ back) one.1)

under_push : (names : List (List ℕ)) (name : List ℕ) → is_under names (names ++ name ∷ []) ≡ true
under_push names name =
    let len : length (names ++ name ∷ []) ≡ length names + 1 = omega (arith, length-append names (name ∷ [])) in
    (under_decides names (names ++ name ∷ [])).1 (len, sym (take_at names (name ∷ []) (length names) refl))

-- the last names of the paths that have one name more than these
last_of : List (List ℕ) → List (List ℕ) → List ℕ
last_of names path = get_or path (length names) []

last_is : (names : List (List ℕ)) (name : List ℕ) → last_of names (names ++ name ∷ []) ≡ name
unfolding last_of
last_is names name = get_or_at names name [] [] (length names) refl

lasts : List (List ℕ) → List (List (List ℕ)) → List (List ℕ)
lasts names paths = map (last_of names) (filter (is_under names) paths)

path_of_last : (names path : List (List ℕ)) (name : List ℕ) → is_under names path ≡ true → last_of names path ≡ name → path ≡ names ++ name ∷ []
path_of_last names path name t is =
    let split = under_split names path t in
    let same : split.0 ≡ name = sym (last_is names split.0) ∙ ap (last_of names) (sym split.1) ∙ is in
    split.1 ∙ ap (λ (n : List ℕ). names ++ n ∷ []) same

last_among : (names : List (List ℕ)) (paths : List (List (List ℕ))) (name : List ℕ) → Contains (lasts names paths) name → Contains paths (names ++ name ∷ [])
unfolding lasts
last_among names [] name h = absurd (contains_none name h)
last_among names (path ∷ paths) name h = by (λ r. last_among names paths name r) (is_under names path) refl h
  where
    by : (Contains (map (last_of names) (filter (is_under names) paths)) name → Contains paths (names ++ name ∷ [])) → (b : Bool) → is_under names path ≡ b → Contains (map (last_of names) (cond b (path ∷ filter (is_under names) paths) (filter (is_under names) paths))) name → Contains (path ∷ paths) (names ++ name ∷ [])
    by rest false t h = contains_there path paths (names ++ name ∷ []) (rest h)
    by rest true t h = first (contains_cases (last_of names path) (map (last_of names) (filter (is_under names) paths)) name h)
      where
        first : (last_of names path ≡ name) ⊎ Contains (map (last_of names) (filter (is_under names) paths)) name → Contains (path ∷ paths) (names ++ name ∷ [])
        first (inl is) = subst (Contains (path ∷ paths)) (path_of_last names path name t is) (contains_here path paths)
        first (inr r) = contains_there path paths (names ++ name ∷ []) (rest r)

among_last : (names : List (List ℕ)) (paths : List (List (List ℕ))) (name : List ℕ) → Contains paths (names ++ name ∷ []) → Contains (lasts names paths) name
unfolding lasts
among_last names [] name h = absurd (contains_none (names ++ name ∷ []) h)
among_last names (path ∷ paths) name h = by (λ r. among_last names paths name r) (is_under names path) refl (contains_cases path paths (names ++ name ∷ []) h)
  where
    by : (Contains paths (names ++ name ∷ []) → Contains (map (last_of names) (filter (is_under names) paths)) name) → (b : Bool) → is_under names path ≡ b → (path ≡ names ++ name ∷ []) ⊎ Contains paths (names ++ name ∷ [])
        → Contains (map (last_of names) (cond b (path ∷ filter (is_under names) paths) (filter (is_under names) paths))) name
    by rest true t (inl is) =
        let others = map (last_of names) (filter (is_under names) paths) in
        subst (λ (x : List ℕ). Contains (x ∷ others) name) (sym (ap (last_of names) is ∙ last_is names name)) (contains_here name others)
    by rest true t (inr r) = contains_there (last_of names path) (map (last_of names) (filter (is_under names) paths)) name (rest r)
    by rest false t (inl is) = absurd (let yes = under_push names name in let isnt : is_under names (names ++ name ∷ []) ≡ false = ap (is_under names) (sym is) ∙ t in cc)
    by rest false t (inr r) = rest r

lasts_distinct : (names : List (List ℕ)) (paths : List (List (List ℕ))) → IsDistinct same_names paths → IsDistinct same_text (lasts names paths)
unfolding lasts
lasts_distinct names [] d = no_text
lasts_distinct names (path ∷ paths) d = by (lasts_distinct names paths (IsDistinct-tail same_names path paths d)) (is_under names path) refl
  where
    by : IsDistinct same_text (map (last_of names) (filter (is_under names) paths)) → (b : Bool) → is_under names path ≡ b → IsDistinct same_text (map (last_of names) (cond b (path ∷ filter (is_under names) paths) (filter (is_under names) paths)))
    by rest false t = rest
    by rest true t =
        IsDistinct-cons same_text (last_of names path) (map (last_of names) (filter (is_under names) paths))
        (all_from (λ y. same_text (last_of names path) y ≡ false) (map (last_of names) (filter (is_under names) paths)) (λ y c. other_text (last_of names path) y (λ e.
        let is = path_of_last names path y t e in
        let other : same_names path (names ++ y ∷ []) ≡ false = all_at (λ p. same_names path p ≡ false) paths (names ++ y ∷ []) (IsDistinct-head same_names path paths d) (last_among names paths y c) in
        let same = (path_decides path (names ++ y ∷ [])).1 is in
        cc)))
        rest

-- the members of a tree by their names
paths_of : List Member → List (List (List ℕ))
paths_of tree = map (λ x. x.names) tree

member_among : (tree : List Member) (path : List (List ℕ)) (node : Node) → node_at tree path ≡ Some node → Contains (paths_of tree) path
unfolding paths_of
member_among [] path node e = absurd (cc)
member_among (m ∷ tree) path node e = by (λ r. member_among tree path node r) (same_names m.names path) refl e
  where
    by : (node_at tree path ≡ Some node → Contains (map (λ x. x.names) tree) path) → (b : Bool) → same_names m.names path ≡ b → (if b then Some m.node else node_at tree path) ≡ Some node → Contains (m.names ∷ map (λ x. x.names) tree) path
    by rest true t e = subst (Contains (m.names ∷ map (λ x. x.names) tree)) ((path_decides m.names path).0 t) (contains_here m.names (map (λ x. x.names) tree))
    by rest false t e = contains_there m.names (map (λ x. x.names) tree) path (rest e)

among_member : (tree : List Member) (path : List (List ℕ)) → Contains (paths_of tree) path → (node : Node) × (node_at tree path ≡ Some node)
unfolding paths_of
among_member [] path h = absurd (contains_none path h)
among_member (m ∷ tree) path h = by (λ r. among_member tree path r) (same_names m.names path) refl (contains_cases m.names (map (λ x. x.names) tree) path h)
  where
    by : (Contains (map (λ x. x.names) tree) path → (node : Node) × (node_at tree path ≡ Some node)) → (b : Bool) → same_names m.names path ≡ b → (m.names ≡ path) ⊎ Contains (map (λ x. x.names) tree) path → (node : Node) × ((if b then Some m.node else node_at tree path) ≡ Some node)
    by rest true t c = (m.node, refl)
    by rest false t (inl is) = absurd (let yes = (path_decides m.names path).1 is in cc)
    by rest false t (inr r) = rest r

children_as_paths : (names : List (List ℕ)) (tree : List Member) → length (lasts names (paths_of tree)) ≡ length (filter (is_child names) tree)
unfolding lasts paths_of
children_as_paths names [] = refl
children_as_paths names (m ∷ tree) = by (children_as_paths names tree) (is_under names m.names)
  where
    by : length (map (last_of names) (filter (is_under names) (map (λ x. x.names) tree))) ≡ length (filter (is_child names) tree)
        → (b : Bool) → length (map (last_of names) (cond b (m.names ∷ filter (is_under names) (map (λ x. x.names) tree)) (filter (is_under names) (map (λ x. x.names) tree)))) ≡ length (cond b (m ∷ filter (is_child names) tree) (filter (is_child names) tree))
    by rest true = ap suc rest
    by rest false = rest

-- the names of entries, and which of them have a target
named_target : (at : ℕ → ℕ) (entries : List ℕ) (name : List ℕ) → Contains (map (name_at at) entries) name → (target : ℕ) × (target_in at name entries ≡ Some target)
named_target at [] name h = absurd (contains_none name h)
named_target at (e ∷ entries) name h = by (λ r. named_target at entries name r) (same_text (name_at at e) name) refl (contains_cases (name_at at e) (map (name_at at) entries) name h)
  where
    by : (Contains (map (name_at at) entries) name → (target : ℕ) × (target_in at name entries ≡ Some target)) → (b : Bool) → same_text (name_at at e) name ≡ b → (name_at at e ≡ name) ⊎ Contains (map (name_at at) entries) name
        → (target : ℕ) × ((if b then Some (at (entry_target e)) else target_in at name entries) ≡ Some target)
    by rest true t c = (at (entry_target e), refl)
    by rest false t (inl is) = absurd (let yes = (text_decides (name_at at e) name).1 is in cc)
    by rest false t (inr r) = rest r

target_named : (at : ℕ → ℕ) (entries : List ℕ) (name : List ℕ) (target : ℕ) → target_in at name entries ≡ Some target → Contains (map (name_at at) entries) name
target_named at [] name target e = absurd (cc)
target_named at (e ∷ entries) name target is = by (λ r. target_named at entries name target r) (same_text (name_at at e) name) refl is
  where
    by : (target_in at name entries ≡ Some target → Contains (map (name_at at) entries) name) → (b : Bool) → same_text (name_at at e) name ≡ b → (if b then Some (at (entry_target e)) else target_in at name entries) ≡ Some target → Contains (map (name_at at) (e ∷ entries)) name
    by rest true t is = subst (Contains (name_at at e ∷ map (name_at at) entries)) ((text_decides (name_at at e) name).0 t) (contains_here (name_at at e) (map (name_at at) entries))
    by rest false t is = contains_there (name_at at e) (map (name_at at) entries) name (rest is)

-- the names of the first buckets' entries
names_in : (ℕ → ℕ) → (ℕ → List ℕ) → ℕ → List (List ℕ)
names_in at chains zero = []
names_in at chains (suc bucket) = names_in at chains bucket ++ map (name_at at) (chains bucket)

length-names_in : (at : ℕ → ℕ) (chains : ℕ → List ℕ) (bucket : ℕ) → length (names_in at chains bucket) ≡ names_below chains bucket
unfolding names_in names_below
length-names_in at chains zero = refl
length-names_in at chains (suc bucket) =
    omega (arith, length-append (names_in at chains bucket) (map (name_at at) (chains bucket)), length-names_in at chains bucket, length-map (chains bucket) (name_at at))

name_among : (at : ℕ → ℕ) (chains : ℕ → List ℕ) (bucket : ℕ) (name : List ℕ) → Contains (names_in at chains bucket) name → (b : ℕ) × (b < bucket) × Contains (map (name_at at) (chains b)) name
unfolding names_in
name_among at chains zero name h = absurd (contains_none name h)
name_among at chains (suc bucket) name h = by (λ r. name_among at chains bucket name r) (Contains-append_cases (names_in at chains bucket) (map (name_at at) (chains bucket)) name h)
  where
    by : (Contains (names_in at chains bucket) name → (b : ℕ) × (b < bucket) × Contains (map (name_at at) (chains b)) name)
        → Contains (names_in at chains bucket) name ⊎ Contains (map (name_at at) (chains bucket)) name → (b : ℕ) × (b < suc bucket) × Contains (map (name_at at) (chains b)) name
    by rest (inl before) = let r = rest before in (r.0, omega (arith, r.1), r.2)
    by rest (inr here) = (bucket, omega arith, here)

among_names : (at : ℕ → ℕ) (chains : ℕ → List ℕ) (more b : ℕ) (name : List ℕ) → Contains (map (name_at at) (chains b)) name → Contains (names_in at chains (more + suc b)) name
unfolding names_in
among_names at chains zero b name h =
    subst (λ (n : ℕ). Contains (names_in at chains n) name) (let e : suc b ≡ zero + suc b = omega arith in e)
    (Contains-append_right (names_in at chains b) (map (name_at at) (chains b)) name h)
among_names at chains (suc more) b name h =
    subst (λ (n : ℕ). Contains (names_in at chains n) name) (let e : suc (more + suc b) ≡ suc more + suc b = omega arith in e)
    (Contains-append_left (names_in at chains (more + suc b)) (map (name_at at) (chains (more + suc b))) name (among_names at chains more b name h))

-- names of entries of one bucket lie in it
in_one : (at : ℕ → ℕ) (b : ℕ) (entries : List ℕ) (name : List ℕ) → ((e : ℕ) → Contains entries e → bucket_of (name_at at e) ≡ b) → Contains (map (name_at at) entries) name → bucket_of name ≡ b
in_one at b [] name all c = absurd (contains_none name c)
in_one at b (e ∷ entries) name all c = by (λ r. in_one at b entries name (λ f i. all f (contains_there e entries f i)) r) (contains_cases (name_at at e) (map (name_at at) entries) name c)
  where
    by : (Contains (map (name_at at) entries) name → bucket_of name ≡ b) → (name_at at e ≡ name) ⊎ Contains (map (name_at at) entries) name → bucket_of name ≡ b
    by rest (inl is) = ap bucket_of (sym is) ∙ all e (contains_here e entries)
    by rest (inr r) = rest r

module _ (at : ℕ → ℕ) (coffer : CofferAt) (tree : List Member) (d : Denotes at coffer tree) (names : List (List ℕ)) (count : ℕ) (dir : IsDir tree names)
    (once : IsDistinct same_names coffer.below) (h : HasNames at (page_at (d.page_of names)) count) where
  bucket : (b : ℕ) → b < 256 → IsBucket at (IsEntryPage coffer d.use_of names) (page_at (d.page_of names)) (wanted d.page_of coffer tree names) b
  bucket b low = (d.members names Directory dir).shown.1 b low

  chain_is : (b : ℕ) (low : b < 256) → (bucket b low).entries ≡ h.chains b
  chain_is b low = one_chain at (at (bucket_head (page_at (d.page_of names)) b)) (bucket b low).entries (h.chains b) (bucket b low).leads (h.leads b low)

  -- an entry's name lies in its bucket
  name_in_bucket : (b : ℕ) → b < 256 → (name : List ℕ) → Contains (map (name_at at) (h.chains b)) name → bucket_of name ≡ b
  name_in_bucket b low name c =
      in_one at b (bucket b low).entries name (λ e i. ((bucket b low).each e i).in_bucket) (subst (λ (es : List ℕ). Contains (map (name_at at) es) name) (sym (chain_is b low)) c)

  shown_distinct : (b : ℕ) → b ≤ 256 → IsDistinct same_text (names_in at h.chains b)
  unfolding names_in
  shown_distinct zero low = no_text
  shown_distinct (suc b) low =
      let below : b < 256 = omega arith in
      distinct_append (names_in at h.chains b) (map (name_at at) (h.chains b)) (shown_distinct b (omega arith))
      (subst (λ (es : List ℕ). IsDistinct same_text (map (name_at at) es)) (chain_is b below) (bucket b below).once) (λ name before here.
      let r = name_among at h.chains b name before in
      let mine = name_in_bucket b below name here in
      let others = name_in_bucket r.0 (omega (arith, r.1)) name r.2 in
      omega (arith, mine, others, r.1))

  -- a name that is wanted is shown, and the other way round
  shown_wanted : (name : List ℕ) → Contains (names_in at h.chains 256) name → (target : ℕ) × (wanted d.page_of coffer tree names name ≡ Some target)
  shown_wanted name c =
      let r = name_among at h.chains 256 name c in
      let is = name_in_bucket r.0 r.1 name r.2 in
      let t = named_target at (h.chains r.0) name r.2 in
      (t.0, sym ((bucket r.0 r.1).names name is) ∙ ap (target_in at name) (chain_is r.0 r.1) ∙ t.1)

  wanted_shown : (name : List ℕ) (target : ℕ) → wanted d.page_of coffer tree names name ≡ Some target → Contains (names_in at h.chains 256) name
  wanted_shown name target is =
      let b = bucket_of name in
      let low : b < 256 = omega arith in
      let t = ap (target_in at name) (sym (chain_is b low)) ∙ (bucket b low).names name refl ∙ is in
      let all : 255 - b + suc b ≡ 256 = omega arith in
      subst (λ (n : ℕ). Contains (names_in at h.chains n) name) all (among_names at h.chains (255 - b) b name (target_named at (h.chains b) name target t))

  told : List (List ℕ)
  told = lasts names (paths_of tree) ++ lasts names coffer.below

  below_none : (name : List ℕ) → Contains coffer.below (names ++ name ∷ []) → node_at tree (names ++ name ∷ []) ≡ None
  below_none name c = (d.below names name ((is_member-Decides path_decides coffer.below (names ++ name ∷ [])).1 c)).1

  told_distinct : IsDistinct same_text told
  unfolding told paths_of
  told_distinct =
      distinct_append (lasts names (paths_of tree)) (lasts names coffer.below) (lasts_distinct names (paths_of tree) d.once) (lasts_distinct names coffer.below once) (λ name a b.
      let m = among_member tree (names ++ name ∷ []) (last_among names (paths_of tree) name a) in
      let none = below_none name (last_among names coffer.below name b) in
      let stands = m.1 in
      cc)

  told_wanted : (name : List ℕ) → Contains told name → (target : ℕ) × (wanted d.page_of coffer tree names name ≡ Some target)
  unfolding told
  told_wanted name c = by (Contains-append_cases (lasts names (paths_of tree)) (lasts names coffer.below) name c)
    where
      path : List (List ℕ)
      path = names ++ name ∷ []

      by : Contains (lasts names (paths_of tree)) name ⊎ Contains (lasts names coffer.below) name → (target : ℕ) × (wanted d.page_of coffer tree names name ≡ Some target)
      by (inl a) =
          let m = among_member tree (names ++ name ∷ []) (last_among names (paths_of tree) name a) in
          (page_at (d.page_of (names ++ name ∷ [])), ap (target_of d.page_of coffer (names ++ name ∷ [])) m.1)
      by (inr b) =
          let c = last_among names coffer.below name b in
          let any = (is_member-Decides path_decides coffer.below (names ++ name ∷ [])).1 c in
          (1, ap (target_of d.page_of coffer (names ++ name ∷ [])) (below_none name c) ∙ ap (λ (t : Bool). if t then Some 1 else None) any)

  wanted_told : (name : List ℕ) (target : ℕ) → wanted d.page_of coffer tree names name ≡ Some target → Contains told name
  unfolding told
  wanted_told name target is = by (node_at tree (names ++ name ∷ [])) refl is
    where
      by : (node : Option Node) → node_at tree (names ++ name ∷ []) ≡ node → target_of d.page_of coffer (names ++ name ∷ []) node ≡ Some target → Contains (lasts names (paths_of tree) ++ lasts names coffer.below) name
      by (Some node) e is = Contains-append_left (lasts names (paths_of tree)) (lasts names coffer.below) name (among_last names (paths_of tree) name (member_among tree (names ++ name ∷ []) node e))
      by None e is = any (list_any (same_names (names ++ name ∷ [])) coffer.below) refl is
        where
          any : (b : Bool) → list_any (same_names (names ++ name ∷ [])) coffer.below ≡ b → (if b then Some 1 else None) ≡ Some target → Contains (lasts names (paths_of tree) ++ lasts names coffer.below) name
          any true t is = Contains-append_right (lasts names (paths_of tree)) (lasts names coffer.below) name (among_last names coffer.below name ((is_member-Decides path_decides coffer.below (names ++ name ∷ [])).0 t))
          any false t is = absurd (cc)

  counted : count ≡ length (filter (is_child names) tree) + length (filter (is_under names) coffer.below)
  unfolding told lasts
  counted =
      let few = no_longer (names_in at h.chains 256) told (shown_distinct 256 (omega arith)) (λ name c. let w = shown_wanted name c in wanted_told name w.0 w.1) in
      let many = no_longer told (names_in at h.chains 256) told_distinct (λ name c. let w = told_wanted name c in wanted_shown name w.0 w.1) in
      let all = length-names_in at h.chains 256 in
      let both = length-append (lasts names (paths_of tree)) (lasts names coffer.below) in
      let children = children_as_paths names tree in
      let coffers = length-map (filter (is_under names) coffer.below) (last_of names) in
      omega (arith, h.count, few, many, all, both, children, coffers)

pub names_counted : NamesCounted
names_counted at coffer tree d names count dir once h = counted at coffer tree d names count dir once h

-- trees that have the same members directly under these names have as many there
within_other : (names : List (List ℕ)) (tree other : List Member) → ((name : List ℕ) → node_at other (names ++ name ∷ []) ≡ node_at tree (names ++ name ∷ []))
    → (name : List ℕ) → Contains (lasts names (paths_of tree)) name → Contains (lasts names (paths_of other)) name
within_other names tree other same name has =
    let m = among_member tree (names ++ name ∷ []) (last_among names (paths_of tree) name has) in
    among_last names (paths_of other) name (member_among other (names ++ name ∷ []) m.0 (same name ∙ m.1))

pub children_same : (names : List (List ℕ)) (tree other : List Member) → IsDistinct same_names (map (λ m. m.names) tree) → IsDistinct same_names (map (λ m. m.names) other)
    → ((name : List ℕ) → node_at other (names ++ name ∷ []) ≡ node_at tree (names ++ name ∷ [])) → length (filter (is_child names) other) ≡ length (filter (is_child names) tree)
unfolding paths_of
children_same names tree other once once_too same =
    let few = no_longer (lasts names (paths_of other)) (lasts names (paths_of tree)) (lasts_distinct names (paths_of other) once_too) (within_other names other tree (λ name. sym (same name))) in
    let many = no_longer (lasts names (paths_of tree)) (lasts names (paths_of other)) (lasts_distinct names (paths_of tree) once) (within_other names tree other same) in
    let one = children_as_paths names tree in
    let two = children_as_paths names other in
    omega (arith, few, many, one, two)

-- a member more directly under these names
pub children_more : (names : List (List ℕ)) (name : List ℕ) (node : Node) (tree : List Member)
    → length (filter (is_child names) (tree ++ record { names = names ++ name ∷ []; node = node } ∷ [])) ≡ length (filter (is_child names) tree) + 1
children_more names name node [] =
    let one : Member = record { names = names ++ name ∷ []; node = node } in
    let none : List Member = [] in
    ap (λ (b : Bool). length (cond b (one ∷ none) none)) (under_push names name)
children_more names name node (m ∷ tree) = by (is_child names m) (children_more names name node tree)
  where
    by : (b : Bool) → length (filter (is_child names) (tree ++ record { names = names ++ name ∷ []; node = node } ∷ [])) ≡ length (filter (is_child names) tree) + 1
        → length (cond b (m ∷ filter (is_child names) (tree ++ record { names = names ++ name ∷ []; node = node } ∷ [])) (filter (is_child names) (tree ++ record { names = names ++ name ∷ []; node = node } ∷ []))) ≡ length (cond b (m ∷ filter (is_child names) tree) (filter (is_child names) tree)) + 1
    by true rest = omega (arith, rest)
    by false rest = rest
