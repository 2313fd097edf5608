-- The sets of the owners' pages against the list of owners, as a page is listed or passes.
use Rattle.std.proofs.Common.{◌≡◌, ◌≢◌, ◌⊎◌, inl, inr, ◌∙◌, ℕ, ◌<◌, ◌≤◌, Bool, cond, List, [], ◌∷◌, ◌++◌, length, nat_eq, slice_index, slice_set, refl, sym, ap, subst, arith}
use Rattle.std.specs.Ordering.{nat_cmp}
use Rattle.std.specs.BTreeMap.{is_at}
use Rattle.std.specs.BTreeSet.{insert_key}
use Rattle.std.specs.Set.{remove_key}
use Rattle.std.proofs.lemmas.Bool.{eq-eqb, ne_eqb, cases_eq}
use Rattle.std.proofs.lemmas.List.{append-nil, length-set, length_push, get_or-set_same, get_or-set_other, get_or_append_left, get_or_push}
use Rattle.kern_owner.proofs.AmongLemmas.{filter_agree_in}
use Rattle.kern_owner.proofs.RangeLemmas.{below, below_more}
use Rattle.kern_pages.specs.Owners.{pages_with}
use Rattle.kern_pages.specs.Sets.{set_of, AreEmpty, AreSetsOf}
use Rattle.kern_pages.proofs.OrderLemmas.{insert_back, insert_along, remove_along}

pub none_listed : (sets : List (List ℕ)) → AreEmpty sets → AreSetsOf [] sets
none_listed sets are = record { count = are.count; each = λ owner le. are.empty owner }

-- whether a page of this list is this owner's
abbrev has : List ℕ → ℕ → ℕ → Bool
has owners owner page = nat_eq (slice_index owners page) owner

-- the next page in the list
pages_pushed : (owners : List ℕ) (whose owner : ℕ) → pages_with owner (owners ++ whose ∷ []) ≡ pages_with owner owners ++ cond (nat_eq whose owner) (length owners ∷ []) []
pages_pushed owners whose owner =
    ap (λ (n : ℕ). below (has (owners ++ whose ∷ []) owner) n) (length_push owners whose)
    ∙ below_more (has (owners ++ whose ∷ []) owner) (length owners)
    ∙ ap (λ (xs : List ℕ). xs ++ cond (has (owners ++ whose ∷ []) owner (length owners)) (length owners ∷ []) []) before
    ∙ ap (λ (o : ℕ). pages_with owner owners ++ cond (nat_eq o owner) (length owners ∷ []) []) (get_or_push owners whose 0 (length owners) refl)
  where
    before : below (has (owners ++ whose ∷ []) owner) (length owners) ≡ below (has owners owner) (length owners)
    before = filter_agree_in (has (owners ++ whose ∷ []) owner) (has owners owner) 0 (length owners) (λ page low high. ap (λ (o : ℕ). nat_eq o owner) (get_or_append_left owners (whose ∷ []) 0 page (omega arith)))

pushed_other : (owners : List ℕ) (whose owner : ℕ) → (whose ≡ owner → ⊥) → pages_with owner (owners ++ whose ∷ []) ≡ pages_with owner owners
pushed_other owners whose owner apart =
    pages_pushed owners whose owner
    ∙ ap (λ (b : Bool). pages_with owner owners ++ cond b (length owners ∷ []) []) (ne_eqb whose owner apart)
    ∙ append-nil (pages_with owner owners)

pub kernels_listed : (owners : List ℕ) (sets : List (List ℕ)) (whose : ℕ) → AreSetsOf owners sets → 256 < whose → AreSetsOf (owners ++ whose ∷ []) sets
kernels_listed owners sets whose are gt = record {
  count = are.count;
  each = λ owner le. are.each owner le ∙ sym (pushed_other owners whose owner (λ (same : whose ≡ owner). omega arith));
}

pub others_listed : (owners : List ℕ) (sets new : List (List ℕ)) (whose page : ℕ) → AreSetsOf owners sets → whose ≤ 256 → page ≡ length owners → new ≡ slice_set sets whose (insert_key nat_cmp (set_of sets whose) page) → AreSetsOf (owners ++ whose ∷ []) new
others_listed owners sets new whose page are le next is = record { count = size; each = λ owner most. by owner most (cases_eq owner whose) }
  where
    size : length new ≡ 257
    size = ap (λ (s : List (List ℕ)). length s) is ∙ length-set sets whose (insert_key nat_cmp (set_of sets whose) page) ∙ are.count

    same : set_of new whose ≡ pages_with whose (owners ++ whose ∷ [])
    same =
        let count = are.count in
        ap (λ (s : List (List ℕ)). set_of s whose) is
        ∙ get_or-set_same sets whose (insert_key nat_cmp (set_of sets whose) page) [] (omega arith)
        ∙ ap (λ (ks : List ℕ). insert_key nat_cmp ks page) (are.each whose le)
        ∙ ap (λ (k : ℕ). insert_key nat_cmp (pages_with whose owners) k) next
        ∙ insert_back (has owners whose) (length owners) 0 (length owners) (omega arith)
        ∙ ap (λ (b : Bool). pages_with whose owners ++ cond b (length owners ∷ []) []) (sym (eq-eqb whose whose refl))
        ∙ sym (pages_pushed owners whose whose)

    by : (owner : ℕ) → owner ≤ 256 → (owner ≡ whose) ⊎ (owner ≡ whose → ⊥) → set_of new owner ≡ pages_with owner (owners ++ whose ∷ [])
    by owner most (inl here) = subst (λ (o : ℕ). set_of new o ≡ pages_with o (owners ++ whose ∷ [])) (sym here) same
    by owner most (inr apart) =
        ap (λ (s : List (List ℕ)). set_of s owner) is
        ∙ get_or-set_other sets whose owner (insert_key nat_cmp (set_of sets whose) page) [] apart
        ∙ are.each owner most
        ∙ sym (pushed_other owners whose owner (λ (e : whose ≡ owner). apart (sym e)))

-- A page of the list passes from one owner to another.
module _ (owners : List ℕ) (page from owner : ℕ) (inside : page < length owners) (was : from ≡ slice_index owners page) (apart : from ≢ owner) where
  abbrev after : List ℕ
  after = slice_set owners page owner

  others : (whose i : ℕ) → i ≢ page → has owners whose i ≡ has after whose i
  others whose i ne = ap (λ (o : ℕ). nat_eq o whose) (sym (get_or-set_other owners page i owner 0 ne))

  had : (whose : ℕ) → has owners whose page ≡ nat_eq from whose
  had whose = ap (λ (o : ℕ). nat_eq o whose) (sym was)

  now : (whose : ℕ) → has after whose page ≡ nat_eq owner whose
  now whose = ap (λ (o : ℕ). nat_eq o whose) (get_or-set_same owners page owner 0 inside)

  as_long : (whose : ℕ) → pages_with whose after ≡ below (has after whose) (length owners)
  as_long whose = ap (λ (n : ℕ). below (has after whose) n) (length-set owners page owner)

  comes : insert_key nat_cmp (pages_with owner owners) page ≡ pages_with owner after
  comes =
      insert_along (has owners owner) (has after owner) page (others owner) (had owner ∙ ne_eqb from owner apart) (now owner ∙ eq-eqb owner owner refl) 0 (length owners) (omega arith) (omega arith)
      ∙ sym (as_long owner)

  goes : remove_key (is_at (nat_cmp page)) (pages_with from owners) ≡ pages_with from after
  goes =
      remove_along (has owners from) (has after from) page (others from) (had from ∙ eq-eqb from from refl) (now from ∙ ne_eqb owner from (λ (e : owner ≡ from). apart (sym e))) 0 (length owners) (omega arith) (omega arith)
      ∙ sym (as_long from)

  stays : (whose : ℕ) → (whose ≡ from → ⊥) → (whose ≡ owner → ⊥) → pages_with whose owners ≡ pages_with whose after
  stays whose not_from not_owner =
      filter_agree_in (has owners whose) (has after whose) 0 (length owners) (λ i low high. at i (cases_eq i page))
      ∙ sym (as_long whose)
    where
      at : (i : ℕ) → (i ≡ page) ⊎ (i ≡ page → ⊥) → has owners whose i ≡ has after whose i
      at i (inl here) =
          ap (has owners whose) here
          ∙ had whose
          ∙ ne_eqb from whose (λ (e : from ≡ whose). not_from (sym e))
          ∙ sym (ne_eqb owner whose (λ (e : owner ≡ whose). not_owner (sym e)))
          ∙ sym (now whose)
          ∙ ap (has after whose) (sym here)
      at i (inr ne) = others whose i ne

  pub passed : (sets one two : List (List ℕ)) → AreSetsOf owners sets → from ≤ 256 → owner ≤ 256 → one ≡ slice_set sets owner (insert_key nat_cmp (set_of sets owner) page) → two ≡ slice_set one from (remove_key (is_at (nat_cmp page)) (set_of one from)) → AreSetsOf after two
  passed sets one two are from_le owner_le added gone = record { count = size ∙ size_one; each = λ whose most. by whose most (cases_eq whose from) (cases_eq whose owner) }
    where
      size_one : length one ≡ 257
      size_one = ap (λ (s : List (List ℕ)). length s) added ∙ length-set sets owner (insert_key nat_cmp (set_of sets owner) page) ∙ are.count

      size : length two ≡ length one
      size = ap (λ (s : List (List ℕ)). length s) gone ∙ length-set one from (remove_key (is_at (nat_cmp page)) (set_of one from))

      one_other : (whose : ℕ) → whose ≢ owner → set_of one whose ≡ set_of sets whose
      one_other whose ne = ap (λ (s : List (List ℕ)). set_of s whose) added ∙ get_or-set_other sets owner whose (insert_key nat_cmp (set_of sets owner) page) [] ne

      one_owner : set_of one owner ≡ pages_with owner after
      one_owner =
          let count = are.count in
          ap (λ (s : List (List ℕ)). set_of s owner) added
          ∙ get_or-set_same sets owner (insert_key nat_cmp (set_of sets owner) page) [] (omega arith)
          ∙ ap (λ (ks : List ℕ). insert_key nat_cmp ks page) (are.each owner owner_le)
          ∙ comes

      two_other : (whose : ℕ) → whose ≢ from → set_of two whose ≡ set_of one whose
      two_other whose ne = ap (λ (s : List (List ℕ)). set_of s whose) gone ∙ get_or-set_other one from whose (remove_key (is_at (nat_cmp page)) (set_of one from)) [] ne

      two_from : set_of two from ≡ pages_with from after
      two_from =
          let count = size_one in
          ap (λ (s : List (List ℕ)). set_of s from) gone
          ∙ get_or-set_same one from (remove_key (is_at (nat_cmp page)) (set_of one from)) [] (omega arith)
          ∙ ap (λ (ks : List ℕ). remove_key (is_at (nat_cmp page)) ks) (one_other from apart ∙ are.each from from_le)
          ∙ goes

      by : (whose : ℕ) → whose ≤ 256 → (whose ≡ from) ⊎ (whose ≡ from → ⊥) → (whose ≡ owner) ⊎ (whose ≡ owner → ⊥) → set_of two whose ≡ pages_with whose after
      by whose most (inl here) either = subst (λ (o : ℕ). set_of two o ≡ pages_with o after) (sym here) two_from
      by whose most (inr not_from) (inl here) = two_other whose not_from ∙ subst (λ (o : ℕ). set_of one o ≡ pages_with o after) (sym here) one_owner
      by whose most (inr not_from) (inr not_owner) = two_other whose not_from ∙ one_other whose not_owner ∙ are.each whose most ∙ stays whose not_from not_owner
