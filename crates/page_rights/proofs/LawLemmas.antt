-- Which pages an open key reaches, and when there is no key.
use Rattle.std.proofs.Common.{◌≡◌, ℕ, zero, suc, ◌+◌, ◌<◌, ◌≤◌, List, [], ◌∷◌, Bool, true, false, not, refl, ap, sym, ◌∙◌, ◌⊎◌, inl, inr, cond, eqb, arith, All, Contains, Option, Some, None}
use Rattle.std.specs.Prelude.{filter}
use Rattle.std.specs.List.{range_with_len}
use Rattle.std.proofs.lemmas.Bool.{cases_eq, eq-eqb, eqb-true, and_parts, and_from, and_cases, not-true, not-false, both_ways}
use Rattle.std.proofs.lemmas.List.Elements.{All-nil, All-cons, All-contains, Contains-push, Contains-append_left, Contains-append_right}
use Rattle.tr_types.specs.declared.action.FaultKind.TheVariants.{KeyDenied}
use Rattle.tr_types.specs.declared.kernel_call.Holder.{Holder}
use Rattle.kern_model.specs.Rights.{process_of, is_same, are_together, holds_beside, key_in, is_writable, load_fault_by, store_fault_by, uses_key, is_free_key, free_keys, first_of, or_key, may_read, may_write, closed_pkru, only_pkru}
use Rattle.page_rights.specs.Tables.{View, IsRow, HasSoundMaps}
use Rattle.page_rights.specs.Laws.{OpensItsCofferAlone, ClosedOpensNothing, HasOtherAt, NoKeyMeansFifteenOthers}
use Rattle.page_rights.proofs.RegisterLemmas.{only_one_key, closed_to_all}
use Rattle.page_rights.proofs.RowLemmas.{first_found}

same_from : (a b c : Option ℕ) → is_same a c ≡ true → is_same b c ≡ true → is_same a b ≡ true
same_from (Some a) (Some b) (Some c) e f = eq-eqb a b (eqb-true a c e ∙ sym (eqb-true b c f))
same_from None b c e f = absurd (both_ways false refl e)
same_from (Some a) None c e f = absurd (both_ways false refl f)
same_from (Some a) (Some b) None e f = absurd (both_ways false refl e)

module _ (threads : List (ℕ × ℕ)) (thread coffer : ℕ) where
  -- the row of a key
  beside : (holders : List Holder) (key : ℕ) → key_in threads holders thread coffer ≡ Some key → (h : Holder) × Contains holders h × (holds_beside threads thread coffer h ≡ true) × (h.key ≡ key)
  beside [] key is = cc
  beside (h ∷ holders) key is = by (holds_beside threads thread coffer h) refl (beside holders key)
    where
      later : (g : Holder) × Contains holders g × (holds_beside threads thread coffer g ≡ true) × (g.key ≡ key) → (g : Holder) × Contains (h ∷ holders) g × (holds_beside threads thread coffer g ≡ true) × (g.key ≡ key)
      later (g, has, holds, same) = (g, Contains-append_right (h ∷ []) holders g has, holds, same)

      by : (b : Bool) → holds_beside threads thread coffer h ≡ b
          → (key_in threads holders thread coffer ≡ Some key → (g : Holder) × Contains holders g × (holds_beside threads thread coffer g ≡ true) × (g.key ≡ key))
          → (g : Holder) × Contains (h ∷ holders) g × (holds_beside threads thread coffer g ≡ true) × (g.key ≡ key)
      by true holds rest =
          let here : Some h.key ≡ Some key = sym (ap (λ (b : Bool). cond b (Some h.key) (key_in threads holders thread coffer)) holds) ∙ is in
          (h, Contains-append_left (h ∷ []) holders h (Contains-push [] h), holds, cc)
      by false holds rest = later (rest (sym (ap (λ (b : Bool). cond b (Some h.key) (key_in threads holders thread coffer)) holds) ∙ is))

  not_beside : (holders : List Holder) → key_in threads holders thread coffer ≡ None → All (λ h. holds_beside threads thread coffer h ≡ false) holders
  not_beside [] is = All-nil (λ h. holds_beside threads thread coffer h ≡ false)
  not_beside (h ∷ holders) is = by (holds_beside threads thread coffer h) refl (not_beside holders)
    where
      by : (b : Bool) → holds_beside threads thread coffer h ≡ b → (key_in threads holders thread coffer ≡ None → All (λ h. holds_beside threads thread coffer h ≡ false) holders)
          → All (λ h. holds_beside threads thread coffer h ≡ false) (h ∷ holders)
      by true holds rest =
          let here : Some h.key ≡ None = sym (ap (λ (b : Bool). cond b (Some h.key) (key_in threads holders thread coffer)) holds) ∙ is in
          absurd (cc)
      by false holds rest =
          All-cons (λ h. holds_beside threads thread coffer h ≡ false) h holders holds (rest (sym (ap (λ (b : Bool). cond b (Some h.key) (key_in threads holders thread coffer)) holds) ∙ is))

-- the row of a key that isn't free, and none of one that is
user : (threads : List (ℕ × ℕ)) (thread key : ℕ) (holders : List Holder) → is_free_key threads holders thread key ≡ false → (h : Holder) × Contains holders h × (uses_key threads thread key h ≡ true)
user threads thread key [] taken = absurd (both_ways true taken refl)
user threads thread key (h ∷ holders) taken = by (user threads thread key holders) (and_cases (not (uses_key threads thread key h)) (is_free_key threads holders thread key) taken)
  where
    later : (g : Holder) × Contains holders g × (uses_key threads thread key g ≡ true) → (g : Holder) × Contains (h ∷ holders) g × (uses_key threads thread key g ≡ true)
    later (g, has, uses) = (g, Contains-append_right (h ∷ []) holders g has, uses)

    by : (is_free_key threads holders thread key ≡ false → (g : Holder) × Contains holders g × (uses_key threads thread key g ≡ true)) → (not (uses_key threads thread key h) ≡ false) ⊎ (is_free_key threads holders thread key ≡ false)
        → (g : Holder) × Contains (h ∷ holders) g × (uses_key threads thread key g ≡ true)
    by rest (inl here) = (h, Contains-append_left (h ∷ []) holders h (Contains-push [] h), not-false (uses_key threads thread key h) here)
    by rest (inr more) = later (rest more)

no_user : (threads : List (ℕ × ℕ)) (thread key : ℕ) (holders : List Holder) → is_free_key threads holders thread key ≡ true → All (λ h. uses_key threads thread key h ≡ false) holders
no_user threads thread key [] free = All-nil (λ h. uses_key threads thread key h ≡ false)
no_user threads thread key (h ∷ holders) free =
    let parts = and_parts (not (uses_key threads thread key h)) (is_free_key threads holders thread key) free in
    All-cons (λ h. uses_key threads thread key h ≡ false) h holders (not-true (uses_key threads thread key h) parts.0) (no_user threads thread key holders parts.1)

-- none passes where there is no first
none_passes : (free : ℕ → Bool) (from count : ℕ) → first_of (filter free (range_with_len from count)) ≡ None → (key : ℕ) → from ≤ key → key < from + count → free key ≡ false
none_passes free from zero is key least below = absurd (omega arith)
none_passes free from (suc count) is key least below = by (free from) refl (cases_eq key from) (none_passes free (from + 1) count)
  where
    by : (b : Bool) → free from ≡ b → (key ≡ from) ⊎ (key ≡ from → ⊥) → (first_of (filter free (range_with_len (from + 1) count)) ≡ None → (k : ℕ) → from + 1 ≤ k → k < from + 1 + count → free k ≡ false) → free key ≡ false
    by true passes split rest =
        let here : Some from ≡ None = sym (ap (λ (b : Bool). first_of (cond b (from ∷ filter free (range_with_len (from + 1) count)) (filter free (range_with_len (from + 1) count)))) passes) ∙ is in
        absurd (cc)
    by false fails (inl e) rest = ap free e ∙ fails
    by false fails (inr ne) rest =
        rest (sym (ap (λ (b : Bool). first_of (cond b (from ∷ filter free (range_with_len (from + 1) count)) (filter free (range_with_len (from + 1) count)))) fails) ∙ is) key (omega arith) (omega arith)

-- what permission says of the key
load_key : (found : Option ℕ) (pkru : ℕ) → load_fault_by found pkru ≡ None → (key : ℕ) × (found ≡ Some key) × (may_read pkru key ≡ true)
load_key None pkru may = absurd (cc)
load_key (Some key) pkru may = by (may_read pkru key) refl
  where
    by : (b : Bool) → may_read pkru key ≡ b → (k : ℕ) × (Some key ≡ Some k) × (may_read pkru k ≡ true)
    by true e = (key, refl, e)
    by false e =
        let denied : Some KeyDenied ≡ None = sym (ap (λ (b : Bool). cond b None (Some KeyDenied)) e) ∙ may in
        absurd (cc)

store_key : (found : Option ℕ) (writable : Bool) (pkru : ℕ) → store_fault_by found writable pkru ≡ None → (key : ℕ) × (found ≡ Some key) × (may_read pkru key ≡ true)
store_key None writable pkru may = absurd (cc)
store_key (Some key) false pkru may = absurd (cc)
store_key (Some key) true pkru may = by (may_write pkru key) refl
  where
    by : (b : Bool) → may_write pkru key ≡ b → (k : ℕ) × (Some key ≡ Some k) × (may_read pkru k ≡ true)
    by true e = (key, refl, (and_parts (may_read pkru key) _ e).0)
    by false e =
        let denied : Some KeyDenied ≡ None = sym (ap (λ (b : Bool). cond b None (Some KeyDenied)) e) ∙ may in
        absurd (cc)

module _ (v : View) (thread : ℕ) (sound : HasSoundMaps v) where
  -- a key is one of 1 to 15
  range : (coffer key : ℕ) → key_in v.threads v.holders thread coffer ≡ Some key → (1 ≤ key) × (key ≤ 15)
  range coffer key is = by (beside v.threads thread coffer v.holders key is)
    where
      by : (h : Holder) × Contains v.holders h × (holds_beside v.threads thread coffer h ≡ true) × (h.key ≡ key) → (1 ≤ key) × (key ≤ 15)
      by (h, has, holds, same) =
          let row : IsRow h = All-contains IsRow v.holders h sound.rows has in
          let least : 1 ≤ h.key = row.least_key in
          let most : h.key ≤ 15 = row.greatest_key in
          (omega arith, omega arith)

  -- one key, one coffer
  one_coffer : (coffer other key : ℕ) → key_in v.threads v.holders thread coffer ≡ Some key → key_in v.threads v.holders thread other ≡ Some key → other ≡ coffer
  one_coffer coffer other key is too = by (beside v.threads thread coffer v.holders key is) (beside v.threads thread other v.holders key too)
    where
      by : (h : Holder) × Contains v.holders h × (holds_beside v.threads thread coffer h ≡ true) × (h.key ≡ key) → (h : Holder) × Contains v.holders h × (holds_beside v.threads thread other h ≡ true) × (h.key ≡ key) → other ≡ coffer
      by (h, has_h, holds_h, key_h) (g, has_g, holds_g, key_g) =
          let parts_h = and_parts (eqb h.id coffer) (are_together v.threads h.thread thread) holds_h in
          let parts_g = and_parts (eqb g.id other) (are_together v.threads g.thread thread) holds_g in
          let together = same_from (process_of v.threads h.thread) (process_of v.threads g.thread) (process_of v.threads thread) parts_h.1 parts_g.1 in
          let same = (sound.keys.own h g has_h has_g together).1 (key_h ∙ sym key_g) in
          sym (eqb-true g.id other parts_g.0) ∙ sym same ∙ eqb-true h.id coffer parts_h.0

  reached : (coffer key other : ℕ) (writable : Bool) → key_in v.threads v.holders thread coffer ≡ Some key
      → (k : ℕ) × (key_in v.threads v.holders thread other ≡ Some k) × (may_read (only_pkru key writable) k ≡ true) → other ≡ coffer
  reached coffer key other writable is (k, found, readable) =
      let at = range coffer key is in
      let at_other = range other k found in
      let same : k ≡ key = eqb-true k key (sym (only_one_key key k writable at.0 at.1 at_other.0 at_other.1).0 ∙ readable) in
      one_coffer coffer other key is (found ∙ ap (λ (n : ℕ). Some n) same)

  unreached : (other : ℕ) → (k : ℕ) × (key_in v.threads v.holders thread other ≡ Some k) × (may_read closed_pkru k ≡ true) → ⊥
  unreached other (k, found, readable) =
      let at = range other k found in
      both_ways (may_read closed_pkru k) (closed_to_all k at.0 at.1).0 readable

pub opens_its_coffer_alone : OpensItsCofferAlone
opens_its_coffer_alone v thread coffer key other writable sound is = (
  λ may. reached v thread sound coffer key other writable is (load_key (key_in v.threads v.holders thread other) (only_pkru key writable) may),
  λ may. reached v thread sound coffer key other writable is (store_key (key_in v.threads v.holders thread other) (is_writable v.threads v.holders thread other) (only_pkru key writable) may),
)

pub closed_opens_nothing : ClosedOpensNothing
closed_opens_nothing v thread other sound = (
  λ may. unreached v thread sound other (load_key (key_in v.threads v.holders thread other) closed_pkru may),
  λ may. unreached v thread sound other (store_key (key_in v.threads v.holders thread other) (is_writable v.threads v.holders thread other) closed_pkru may),
)

pub no_key_means_fifteen_others : NoKeyMeansFifteenOthers
no_key_means_fifteen_others v thread coffer sound =
    (λ none key least most. others (key_in v.threads v.holders thread coffer) refl none key least most, λ taken. none_by (key_in v.threads v.holders thread coffer) refl (first_of (free_keys v.threads v.holders thread)) refl taken)
  where
    others : (found : Option ℕ) → key_in v.threads v.holders thread coffer ≡ found → or_key found (first_of (free_keys v.threads v.holders thread)) ≡ None → (key : ℕ) → 1 ≤ key → key ≤ 15 → HasOtherAt v thread coffer key
    others (Some k) found none key least most = absurd (cc)
    others None found none key least most =
        by (user v.threads thread key v.holders (none_passes (is_free_key v.threads v.holders thread) 1 15 none key least (omega arith)))
      where
        by : (h : Holder) × Contains v.holders h × (uses_key v.threads thread key h ≡ true) → HasOtherAt v thread coffer key
        by (h, has, uses) =
            let parts = and_parts (eqb h.key key) (are_together v.threads h.thread thread) uses in
            let apart = All-contains (λ h. holds_beside v.threads thread coffer h ≡ false) v.holders h (not_beside v.threads thread coffer v.holders found) has in (
              h,
              has,
              parts.1,
              eqb-true h.key key parts.0,
              λ e. both_ways (holds_beside v.threads thread coffer h) apart (and_from (eqb h.id coffer) (are_together v.threads h.thread thread) (eq-eqb h.id coffer e) parts.1),
            )

    clash_key : (k : ℕ) → key_in v.threads v.holders thread coffer ≡ Some k → HasOtherAt v thread coffer k → ⊥
    clash_key k found (h, has, together, same, apart) = by (beside v.threads thread coffer v.holders k found)
      where
        by : (g : Holder) × Contains v.holders g × (holds_beside v.threads thread coffer g ≡ true) × (g.key ≡ k) → ⊥
        by (g, has_g, holds, key_g) =
            let parts = and_parts (eqb g.id coffer) (are_together v.threads g.thread thread) holds in
            let both = same_from (process_of v.threads h.thread) (process_of v.threads g.thread) (process_of v.threads thread) together parts.1 in
            apart ((sound.keys.own h g has has_g both).1 (same ∙ sym key_g) ∙ eqb-true g.id coffer parts.0)

    clash_free : (k : ℕ) → is_free_key v.threads v.holders thread k ≡ true → HasOtherAt v thread coffer k → ⊥
    clash_free k free (h, has, together, same, apart) =
        let unused = All-contains (λ h. uses_key v.threads thread k h ≡ false) v.holders h (no_user v.threads thread k v.holders free) has in
        both_ways (uses_key v.threads thread k h) unused (and_from (eqb h.key k) (are_together v.threads h.thread thread) (eq-eqb h.key k same) together)

    none_by : (found : Option ℕ) → key_in v.threads v.holders thread coffer ≡ found → (first : Option ℕ) → first_of (free_keys v.threads v.holders thread) ≡ first → ((key : ℕ) → 1 ≤ key → key ≤ 15 → HasOtherAt v thread coffer key)
        → or_key (key_in v.threads v.holders thread coffer) (first_of (free_keys v.threads v.holders thread)) ≡ None
    none_by (Some k) found first is taken = let at = range v thread sound coffer k found in absurd (clash_key k found (taken k at.0 at.1))
    none_by None found (Some k) is taken =
        let at = first_found (is_free_key v.threads v.holders thread) 1 15 k is in
        let least : 1 ≤ k = at.1 in
        let below : k < 1 + 15 = at.2 in
        let most : k ≤ 15 = omega arith in
        absurd (clash_free k at.0 (taken k least most))
    none_by None found None is taken = (λ i. or_key (found i) (first_of (free_keys v.threads v.holders thread))) ∙ is
