-- A tree with one member more, and the pages and uses with it.
use Rattle.std.proofs.Common.{◌≡◌, ◌≢◌, ◌⊎◌, inl, inr, ℕ, ◌==◌, ◌||◌, Bool, true, false, cond, List, [], ◌∷◌, ◌++◌, length, map, Option, Some, None, refl, sym, subst, ap, ◌∙◌, arith, eq-eqb, ne_eqb}
use Rattle.std.specs.Cmp.Lexicographic.{pointwise_decides, bytes_decides, nat_list_eq_equiv}
use Rattle.std.specs.List.{IsDistinct, list_any}
use Rattle.std.proofs.lemmas.Bool.{cond-true, cond-false, cases_eq}
use Rattle.std.proofs.lemmas.Cmp.{lists_equiv}
use Rattle.std.proofs.lemmas.List.{length-append, map-append}
use Rattle.std.proofs.lemmas.Map.Keys.{IsDistinct-push}
use Rattle.std.proofs.lemmas.Option.{none-some}
use Rattle.zo_model.specs.Tree.{Node, Member, same_names, node_at}
use Rattle.zo_model.specs.CofferWords.{Use, Object, Entries}
use Rattle.zo_plan.specs.declared.place.Place.{Place}

pub same_names_decides : (xs ys : List (List ℕ)) → (same_names xs ys ≡ true → xs ≡ ys) × (xs ≡ ys → same_names xs ys ≡ true)
same_names_decides = pointwise_decides bytes_decides

-- paths are one, or not
pub cases_names : (xs ys : List (List ℕ)) → (xs ≡ ys) ⊎ (xs ≢ ys)
cases_names xs ys = by (same_names xs ys) refl
  where
    by : (b : Bool) → same_names xs ys ≡ b → (xs ≡ ys) ⊎ (xs ≢ ys)
    by true is = inl ((same_names_decides xs ys).0 is)
    by false is = inr (λ same. let yes = (same_names_decides xs ys).1 same in cc)

pub names_unlike : (xs ys : List (List ℕ)) → xs ≢ ys → same_names xs ys ≡ false
names_unlike xs ys other = by (same_names xs ys) refl
  where
    by : (b : Bool) → same_names xs ys ≡ b → b ≡ false
    by true is = absurd (other ((same_names_decides xs ys).0 is))
    by false is = refl

-- the last name and those before it
pub last_same : (xs ys : List (List ℕ)) (x y : List ℕ) → xs ++ x ∷ [] ≡ ys ++ y ∷ [] → (xs ≡ ys) × (x ≡ y)
last_same [] [] x y e = (refl, cc)
last_same [] (b ∷ ys) x y e = absurd (omega (arith, ap length e, length-append ys (y ∷ [])))
last_same (a ∷ xs) [] x y e = absurd (omega (arith, ap length e, length-append xs (x ∷ [])))
last_same (a ∷ xs) (b ∷ ys) x y e =
    let head : a ≡ b = cc in
    let tail : xs ++ x ∷ [] ≡ ys ++ y ∷ [] = cc in
    let rest = last_same xs ys x y tail in
    ((λ i. head i ∷ rest.0 i), rest.1)

pub longer : (xs : List (List ℕ)) (x : List ℕ) → xs ++ x ∷ [] ≢ xs
longer xs x same = omega (arith, ap length same, length-append xs (x ∷ []))

pub not_root : (xs : List (List ℕ)) (x : List ℕ) → [] ≢ xs ++ x ∷ []
not_root xs x same = omega (arith, ap length same, length-append xs (x ∷ []))

-- what stood there stands there still
pub node_kept : (tree more : List Member) (names : List (List ℕ)) (node : Node) → node_at tree names ≡ Some node → node_at (tree ++ more) names ≡ Some node
node_kept [] more names node is = absurd (none-some node is)
node_kept (m ∷ tree) more names node is = by (same_names m.names names) is (node_kept tree more names node)
  where
    by : (b : Bool) → cond b (Some m.node) (node_at tree names) ≡ Some node → (node_at tree names ≡ Some node → node_at (tree ++ more) names ≡ Some node)
        → cond b (Some m.node) (node_at (tree ++ more) names) ≡ Some node
    by true e later = e
    by false e later = later e

-- where nothing stood, the new members say what stands
pub node_past : (tree more : List Member) (names : List (List ℕ)) → node_at tree names ≡ None → node_at (tree ++ more) names ≡ node_at more names
node_past [] more names none = refl
node_past (m ∷ tree) more names none = by (same_names m.names names) none (node_past tree more names)
  where
    by : (b : Bool) → cond b (Some m.node) (node_at tree names) ≡ None → (node_at tree names ≡ None → node_at (tree ++ more) names ≡ node_at more names)
        → cond b (Some m.node) (node_at (tree ++ more) names) ≡ node_at more names
    by true e later = absurd (none-some m.node (sym e))
    by false e later = later e

abbrev pub one_member : List (List ℕ) → Node → List Member
one_member new node = record { names = new; node = node } ∷ []

pub node_new : (tree : List Member) (new : List (List ℕ)) (node : Node) → node_at tree new ≡ None → node_at (tree ++ one_member new node) new ≡ Some node
node_new tree new node none = node_past tree (one_member new node) new none ∙ cond-true (same_names new new) (Some node) None ((same_names_decides new new).1 refl)

pub node_other : (tree : List Member) (new names : List (List ℕ)) (node : Node) → names ≢ new → node_at (tree ++ one_member new node) names ≡ node_at tree names
node_other tree new names node other = by (node_at tree names) refl
  where
    by : (o : Option Node) → node_at tree names ≡ o → node_at (tree ++ one_member new node) names ≡ node_at tree names
    by (Some n) is = node_kept tree (one_member new node) names n is ∙ sym is
    by None is = node_past tree (one_member new node) names is ∙ cond-false (same_names new names) (Some node) None (names_unlike new names (λ same. other (sym same))) ∙ sym is

pub some_same : (x y : Node) → Some x ≡ Some y → x ≡ y
some_same x y e = cc

-- what stands there stood there, or is the new member
pub node_cases : (tree : List Member) (new names : List (List ℕ)) (node n : Node) → node_at tree new ≡ None → node_at (tree ++ one_member new node) names ≡ Some n
    → ((names ≢ new) × (node_at tree names ≡ Some n)) ⊎ ((names ≡ new) × (node ≡ n))
node_cases tree new names node n none is = by (cases_names names new)
  where
    by : (names ≡ new) ⊎ (names ≢ new) → ((names ≢ new) × (node_at tree names ≡ Some n)) ⊎ ((names ≡ new) × (node ≡ n))
    by (inl same) = inr (same, some_same node n (sym (node_new tree new node none) ∙ ap (node_at (tree ++ one_member new node)) (sym same) ∙ is))
    by (inr other) = inl (other, sym (node_other tree new names node other) ∙ is)

-- no member has the new names
none_same : (tree : List Member) (new : List (List ℕ)) → node_at tree new ≡ None → list_any (same_names new) (map (λ m. m.names) tree) ≡ false
none_same [] new none = refl
none_same (m ∷ tree) new none = by (same_names m.names new) refl none (none_same tree new)
  where
    by : (b : Bool) → same_names m.names new ≡ b → cond b (Some m.node) (node_at tree new) ≡ None → (node_at tree new ≡ None → list_any (same_names new) (map (λ m. m.names) tree) ≡ false)
        → same_names new m.names || list_any (same_names new) (map (λ m. m.names) tree) ≡ false
    by true is e later = absurd (none-some m.node (sym e))
    by false is e later =
        ap (λ (b : Bool). b || list_any (same_names new) (map (λ m. m.names) tree)) (names_unlike new m.names (λ same. let yes = (same_names_decides m.names new).1 (sym same) in cc))
        ∙ later e

pub once_more : (tree : List Member) (new : List (List ℕ)) (node : Node) → node_at tree new ≡ None → IsDistinct same_names (map (λ m. m.names) tree) → IsDistinct same_names (map (λ m. m.names) (tree ++ one_member new node))
once_more tree new node none once =
    subst (IsDistinct same_names) (sym (map-append (λ (m : Member). m.names) tree (one_member new node)))
    (IsDistinct-push (lists_equiv nat_list_eq_equiv) (map (λ m. m.names) tree) new once (none_same tree new none))

-- The pages of the members, with the new one's.
pub page_after : (List (List ℕ) → ℕ) → List (List ℕ) → ℕ → List (List ℕ) → ℕ
page_after page_of new made names = cond (same_names names new) made (page_of names)

pub page_new : (page_of : List (List ℕ) → ℕ) (new : List (List ℕ)) (made : ℕ) → page_after page_of new made new ≡ made
unfolding page_after
page_new page_of new made = cond-true (same_names new new) made (page_of new) ((same_names_decides new new).1 refl)

pub page_other : (page_of : List (List ℕ) → ℕ) (new : List (List ℕ)) (made : ℕ) (names : List (List ℕ)) → names ≢ new → page_after page_of new made names ≡ page_of names
unfolding page_after
page_other page_of new made names other = cond-false (same_names names new) made (page_of names) (names_unlike names new other)

-- What the pages serve for, with the drawn ones.
pub use_after : (ℕ → Use) → Place → List (List ℕ) → List (List ℕ) → ℕ → ℕ → ℕ → Use
use_after use_of place names new made fresh page =
    cond (page == made) (Object new) (cond (place.free == 0) (cond (page == fresh) (Entries names) (use_of page)) (use_of page))

pub use_made : (use_of : ℕ → Use) (place : Place) (names new : List (List ℕ)) (made fresh : ℕ) → use_after use_of place names new made fresh made ≡ Object new
unfolding use_after
use_made use_of place names new made fresh = cond-true (made == made) _ _ (eq-eqb made made refl)

pub use_fresh : (use_of : ℕ → Use) (place : Place) (names new : List (List ℕ)) (made fresh : ℕ) → place.free ≡ 0 → fresh ≢ made → use_after use_of place names new made fresh fresh ≡ Entries names
unfolding use_after
use_fresh use_of place names new made fresh none other =
    cond-false (fresh == made) _ _ (ne_eqb fresh made other) ∙ cond-true (place.free == 0) _ _ (eq-eqb place.free 0 none) ∙ cond-true (fresh == fresh) _ _ (eq-eqb fresh fresh refl)

pub use_kept : (use_of : ℕ → Use) (place : Place) (names new : List (List ℕ)) (made fresh page : ℕ) → page ≢ made → (place.free ≡ 0 → page ≢ fresh) → use_after use_of place names new made fresh page ≡ use_of page
unfolding use_after
use_kept use_of place names new made fresh page not_made not_fresh = cond-false (page == made) _ _ (ne_eqb page made not_made) ∙ by (cases_eq place.free 0)
  where
    by : (place.free ≡ 0) ⊎ (place.free ≢ 0) → cond (place.free == 0) (cond (page == fresh) (Entries names) (use_of page)) (use_of page) ≡ use_of page
    by (inl none) = cond-true (place.free == 0) _ _ (eq-eqb place.free 0 none) ∙ cond-false (page == fresh) _ _ (ne_eqb page fresh (not_fresh none))
    by (inr some) = cond-false (place.free == 0) _ _ (ne_eqb place.free 0 some)
