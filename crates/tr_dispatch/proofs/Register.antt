-- What the values of the register allow.
use Rattle.std.proofs.Common.{◌≡◌, ℕ, ◌+◌, ◌-◌, Bool, true, false, refl, ap, sym, subst, ◌∙◌, arith, eqb}
use Rattle.std.proofs.lemmas.Bool.{eqb-true, agree_below, agree_below_at}
use Rattle.bus_model.specs.Machine.{Bus, pkru_of}
use Rattle.kern_model.specs.Rights.{may_read, may_write, closed_pkru, only_pkru}
use Rattle.tr_types.specs.declared.entry.Mark.{Mark}
use Rattle.tr_types.specs.declared.entry.Mark.TheVariants.{Plain, Open, Close, Take, Note, Check, Point, Commit}
use Rattle.tr_model.specs.Marks.{pkru_mark}
use Rattle.tr_model.specs.OneWindow.{IsKey, IsOpen}

-- a fact of each key, seen on the table of all, counted from 0
by_table : (f g : ℕ → Bool) → agree_below (λ j. f (j + 1)) (λ j. g (j + 1)) 15 ≡ true → (key : ℕ) → IsKey key → f key ≡ g key
by_table f g table key is =
    let back : key - 1 + 1 ≡ key = omega (arith, is.least) in
    subst (λ (k : ℕ). f k ≡ g k) back (agree_below_at (λ j. f (j + 1)) (λ j. g (j + 1)) 15 (key - 1) table (omega (arith, is.least, is.most)))

-- a thread that starts has no key open
pub closed_reads : (key : ℕ) → IsKey key → may_read closed_pkru key ≡ false
closed_reads = by_table (may_read closed_pkru) (λ _. false) refl

pub closed_writes : (key : ℕ) → IsKey key → may_write closed_pkru key ≡ false
closed_writes = by_table (may_write closed_pkru) (λ _. false) refl

-- a closed register opens no key, and none for stores
pub shut : (bus : Bus) (thread key : ℕ) → pkru_of bus thread ≡ closed_pkru → IsOpen bus thread key → ⊥
shut bus thread key closed opened =
    let clash : false ≡ true = sym (closed_reads key opened.0) ∙ ap (λ (p : ℕ). may_read p key) (sym closed) ∙ opened.1 in
    cc

pub shut_stores : (bus : Bus) (thread key : ℕ) → pkru_of bus thread ≡ closed_pkru → IsKey key → may_write (pkru_of bus thread) key ≡ false
shut_stores bus thread key closed is = ap (λ (p : ℕ). may_write p key) closed ∙ closed_writes key is

-- the window has the first key open alone
only_reads : (writable : Bool) (key : ℕ) → IsKey key → may_read (only_pkru 1 writable) key ≡ eqb key 1
only_reads true = by_table (may_read (only_pkru 1 true)) (λ k. eqb k 1) refl
only_reads false = by_table (may_read (only_pkru 1 false)) (λ k. eqb k 1) refl

pub only_first : (writable : Bool) (key : ℕ) → IsKey key → may_read (only_pkru 1 writable) key ≡ true → key ≡ 1
only_first writable key is reads = eqb-true key 1 (sym (only_reads writable key is) ∙ reads)

pub first_reads : (writable : Bool) → may_read (only_pkru 1 writable) 1 ≡ true
first_reads true = refl
first_reads false = refl

pub first_writes : may_write (only_pkru 1 true) 1 ≡ true
first_writes = refl

-- and for no stores where it is opened for loads
pub only_loads : (key : ℕ) → IsKey key → may_write (only_pkru 1 false) key ≡ false
only_loads = by_table (may_write (only_pkru 1 false)) (λ _. false) refl

-- a register that opens a key has its mark
abbrev is_open : Mark → Bool
is_open Open = true
is_open mark = false

open_is : (mark : Mark) → is_open mark ≡ true → mark ≡ Open
open_is Open e = refl
open_is Plain e = cc
open_is Close e = cc
open_is Take e = cc
open_is Note e = cc
open_is Check e = cc
open_is Point e = cc
open_is Commit e = cc

opens : (writable : Bool) (key : ℕ) → IsKey key → is_open (pkru_mark (only_pkru key writable)) ≡ true
opens true = by_table (λ k. is_open (pkru_mark (only_pkru k true))) (λ _. true) refl
opens false = by_table (λ k. is_open (pkru_mark (only_pkru k false))) (λ _. true) refl

pub open_marked : (writable : Bool) (key : ℕ) → IsKey key → Open ≡ pkru_mark (only_pkru key writable)
open_marked writable key is = sym (open_is (pkru_mark (only_pkru key writable)) (opens writable key is))
