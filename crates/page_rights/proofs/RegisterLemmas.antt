-- What the values of the register allow, by a look at each.
use Rattle.std.proofs.Common.{◌≡◌, ℕ, ◌+◌, ◌*◌, ◌-◌, ◌<◌, ◌≤◌, ◌^◌, ◌&&◌, Bool, true, false, refl, ap, subst, ◌⊎◌, inl, inr, arith, eqb}
use Rattle.std.proofs.lemmas.Bool.{cases_lt, agree_below, agree_below_at}
use Rattle.std.proofs.lemmas.Nat.{pow_below}
use Rattle.kern_model.specs.Rights.{may_read, may_write, closed_pkru, only_pkru}
use Rattle.page_rights.specs.Laws.{OnlyOneKey, ClosedToAll}

-- the bit of a key lies in the value of a thread that starts
pub access_bit_is_low : (key : ℕ) → key ≤ 15 → 2 ^ (2 * key) ≤ 1073741824
access_bit_is_low key le = by (cases_lt (2 * key) 30)
  where
    by : (2 * key < 30) ⊎ (30 ≤ 2 * key) → 2 ^ (2 * key) ≤ 1073741824
    by (inl lt) = let below : 2 ^ (2 * key) < 2 ^ 30 = pow_below (2 * key) 30 lt in omega arith
    by (inr ge) =
        let last : 2 * key ≡ 30 = omega arith in
        let same : 2 ^ (2 * key) ≡ 2 ^ 30 = ap (λ (k : ℕ). 2 ^ k) last in
        omega arith

-- keys are counted from 0 here
abbrev reads_agree : Bool → ℕ → Bool
reads_agree writable i = agree_below (λ j. may_read (only_pkru (i + 1) writable) (j + 1)) (λ j. eqb (j + 1) (i + 1)) 15

abbrev writes_agree : Bool → ℕ → Bool
writes_agree writable i = agree_below (λ j. may_write (only_pkru (i + 1) writable) (j + 1)) (λ j. eqb (j + 1) (i + 1) && writable) 15

reads_each : (writable : Bool) (i : ℕ) → i < 15 → reads_agree writable i ≡ true
reads_each true i lt = agree_below_at (reads_agree true) (λ _. true) 15 i refl lt
reads_each false i lt = agree_below_at (reads_agree false) (λ _. true) 15 i refl lt

writes_each : (writable : Bool) (i : ℕ) → i < 15 → writes_agree writable i ≡ true
writes_each true i lt = agree_below_at (writes_agree true) (λ _. true) 15 i refl lt
writes_each false i lt = agree_below_at (writes_agree false) (λ _. true) 15 i refl lt

one_read : (writable : Bool) (i j : ℕ) → i < 15 → j < 15 → may_read (only_pkru (i + 1) writable) (j + 1) ≡ eqb (j + 1) (i + 1)
one_read writable i j inside other =
    agree_below_at (λ j. may_read (only_pkru (i + 1) writable) (j + 1)) (λ j. eqb (j + 1) (i + 1)) 15 j (reads_each writable i inside) other

one_write : (writable : Bool) (i j : ℕ) → i < 15 → j < 15 → may_write (only_pkru (i + 1) writable) (j + 1) ≡ (eqb (j + 1) (i + 1) && writable)
one_write writable i j inside other =
    agree_below_at (λ j. may_write (only_pkru (i + 1) writable) (j + 1)) (λ j. eqb (j + 1) (i + 1) && writable) 15 j (writes_each writable i inside) other

pub only_one_key : OnlyOneKey
only_one_key key other writable key_least key_most other_least other_most =
    let key_is : key - 1 + 1 ≡ key = omega arith in
    let other_is : other - 1 + 1 ≡ other = omega arith in
    let i_lt : key - 1 < 15 = omega arith in
    let j_lt : other - 1 < 15 = omega arith in
    let reads = subst (λ (k : ℕ). may_read (only_pkru k writable) (other - 1 + 1) ≡ eqb (other - 1 + 1) k) key_is (one_read writable (key - 1) (other - 1) i_lt j_lt) in
    let writes = subst (λ (k : ℕ). may_write (only_pkru k writable) (other - 1 + 1) ≡ (eqb (other - 1 + 1) k && writable)) key_is (one_write writable (key - 1) (other - 1) i_lt j_lt) in (
      subst (λ (o : ℕ). may_read (only_pkru key writable) o ≡ eqb o key) other_is reads,
      subst (λ (o : ℕ). may_write (only_pkru key writable) o ≡ (eqb o key && writable)) other_is writes,
    )

pub closed_to_all : ClosedToAll
closed_to_all key least most =
    let is : key - 1 + 1 ≡ key = omega arith in
    let lt : key - 1 < 15 = omega arith in
    let reads : may_read closed_pkru (key - 1 + 1) ≡ false = agree_below_at (λ j. may_read closed_pkru (j + 1)) (λ _. false) 15 (key - 1) refl lt in
    let writes : may_write closed_pkru (key - 1 + 1) ≡ false = agree_below_at (λ j. may_write closed_pkru (j + 1)) (λ _. false) 15 (key - 1) refl lt in
    (subst (λ (k : ℕ). may_read closed_pkru k ≡ false) is reads, subst (λ (k : ℕ). may_write closed_pkru k ≡ false) is writes)
