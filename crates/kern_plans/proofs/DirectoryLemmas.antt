-- The directory of a path: a coffer lies above a path exactly where the path's directory lies in it.
use Rattle.std.proofs.Common.{◌≡◌, ◌⊎◌, inl, inr, ◌∙◌, ℕ, ◌+◌, ◌-◌, ◌<◌, ◌≤◌, Bool, true, false, not, cond, List, [], ◌∷◌, ◌++◌, length, take, get_or, Option, Some, None, refl, sym, ap, subst, arith}
use Rattle.std.specs.Prelude.{All, nat_eq, nat_lt, ◌||◌, codes, option_map}
use Rattle.std.specs.Option.{option_eq}
use Rattle.std.specs.List.{suffix_len}
use Rattle.std.proofs.lemmas.Bool.{and_parts, and_from, eq-eqb, ne_eqb, eqb-true, not-true, not_from_false, not_from_true, or_left, or_right, or_from, lt-ltb, le-ltb}
use Rattle.std.proofs.lemmas.List.{take_at, get_or_at, get_or-append_right, length-append, append_assoc, length_push}
use Rattle.std.proofs.lemmas.List.Elements.{All-nil, All-cons, All-head, All-tail, filter_agree}
use Rattle.std.proofs.lemmas.List.Sums.{suffix_len_is}
use Rattle.kern_model.specs.KernelTables.{Coffer}
use Rattle.tr_types.specs.Paths.{same_text, is_path_text, begins_with, lies_under, before_last_slash, directory_path}
use Rattle.kern_model.specs.PathMap.{longest, coffer_of_path, coffer_above, is_coffer}
use Rattle.kern_roots.proofs.ReadingPaths.{same_when, differ_when}
use Rattle.kern_roots.proofs.ReadingTexts.{slash, Begins, Whole, GoesOn, FromRoot, begins_how, begins_so, path_starts, path_size}

IsNoSlash : ℕ → Type 0
IsNoSlash byte = not (nat_eq byte 47) ≡ true

-- a text before its last `/`, and behind it
record Parted (path : List ℕ) : Type 0 where
  before : List ℕ
  behind : List ℕ
  is : path ≡ before ++ 47 ∷ behind
  none : All IsNoSlash behind

part : (path : List ℕ) → Parted path ⊎ All IsNoSlash path
unfolding IsNoSlash
part [] = inr (All-nil IsNoSlash)
part (byte ∷ path) = by (part path)
  where
    here : (b : Bool) → nat_eq byte 47 ≡ b → All IsNoSlash path → Parted (byte ∷ path) ⊎ All IsNoSlash (byte ∷ path)
    here true is none = inl (record { before = []; behind = path; is = ap (λ (x : ℕ). x ∷ path) (eqb-true byte 47 is); none = none })
    here false is none = inr (All-cons IsNoSlash byte path (not_from_false (nat_eq byte 47) is) none)

    by : Parted path ⊎ All IsNoSlash path → Parted (byte ∷ path) ⊎ All IsNoSlash (byte ∷ path)
    by (inl p) = inl (record { before = byte ∷ p.before; behind = p.behind; is = ap (λ (xs : List ℕ). byte ∷ xs) p.is; none = p.none })
    by (inr none) = here (nat_eq byte 47) refl none

-- a path has one
parted : (path : List ℕ) → is_path_text path ≡ true → Parted path
unfolding IsNoSlash
parted path text = by path (path_starts path text) (part path)
  where
    by : (xs : List ℕ) → take 1 xs ≡ slash → Parted xs ⊎ All IsNoSlash xs → Parted xs
    by xs starts (inl p) = p
    by [] starts (inr none) = cc
    by (byte ∷ xs) starts (inr none) =
        let first : byte ≡ 47 = cc in
        let both : true ≡ false = sym (All-head IsNoSlash byte xs none) ∙ ap not (eq-eqb byte 47 first) in
        cc

-- what stands before the last `/`
before_is : (before behind : List ℕ) → All IsNoSlash behind → before_last_slash (before ++ 47 ∷ behind) ≡ before
unfolding IsNoSlash
before_is before behind none = take_at before (47 ∷ behind) _ (let len = length-append before (47 ∷ behind) in let behind_len = suffix in omega arith)
  where
    suffix : suffix_len (λ byte. not (nat_eq byte 47)) (before ++ 47 ∷ behind) ≡ length (before ++ 47 ∷ behind) - (length before + 1)
    suffix =
        suffix_len_is (λ byte. not (nat_eq byte 47)) (before ++ 47 ∷ behind) (length before + 1) 0
        (let len = length-append before (47 ∷ behind) in omega arith)
        (λ k least most.
        ap (λ (xs : List ℕ). not (nat_eq (get_or xs k 0) 47)) (sym (append_assoc before (47 ∷ []) behind))
        ∙ ap (λ (byte : ℕ). not (nat_eq byte 47)) (get_or-append_right (before ++ 47 ∷ []) behind (length before + 1) k 0 (length_push before 47) least)
        ∙ none (k - (length before + 1)) 0 (let len = length-append before (47 ∷ behind) in omega arith))
        (λ some. ap (λ (byte : ℕ). not (nat_eq byte 47)) (get_or_at before 47 behind 0 (length before + 1 - 1) (omega arith)))

-- the directory of what stands before the last `/`
of_before : List ℕ → List ℕ
of_before before = cond (nat_eq (length before) 0) (codes "/") before

of_some : (byte : ℕ) (before : List ℕ) → of_before (byte ∷ before) ≡ byte ∷ before
unfolding of_before
of_some byte before = ap (λ (b : Bool). cond b (codes "/") (byte ∷ before)) (ne_eqb (length (byte ∷ before)) 0 (λ none. omega arith))

directory_is : (path : List ℕ) (p : Parted path) → directory_path path ≡ of_before p.before
unfolding of_before
directory_is path p = ap of_before (ap before_last_slash p.is ∙ before_is p.before p.behind p.none)

-- where a text goes on after a front with a `/`, the front ends before the last one
no_slash : (front rest : List ℕ) → All IsNoSlash (front ++ 47 ∷ rest) → ⊥
unfolding IsNoSlash
no_slash [] rest none = let both : false ≡ true = All-head IsNoSlash 47 rest none in cc
no_slash (byte ∷ front) rest none = no_slash front rest (All-tail IsNoSlash byte (front ++ 47 ∷ rest) none)

data EndsIn (before front : List ℕ) : Type 0 where
  There : front ≡ before → EndsIn before front
  Sooner : (more : List ℕ) → before ≡ front ++ 47 ∷ more → EndsIn before front

ends_in : (before front behind rest : List ℕ) → All IsNoSlash behind → before ++ 47 ∷ behind ≡ front ++ 47 ∷ rest → EndsIn before front
ends_in [] [] behind rest none is = There refl
ends_in [] (byte ∷ front) behind rest none is =
    let same : behind ≡ front ++ 47 ∷ rest = cc in
    absurd (no_slash front rest (subst (λ (xs : List ℕ). All IsNoSlash xs) same none))
ends_in (byte ∷ before) [] behind rest none is =
    let first : byte ≡ 47 = cc in
    Sooner before (ap (λ (x : ℕ). x ∷ before) first)
ends_in (byte ∷ before) (other ∷ front) behind rest none is =
    let first : byte ≡ other = cc in
    let later : before ++ 47 ∷ behind ≡ front ++ 47 ∷ rest = cc in
    by first (ends_in before front behind rest none later)
  where
    by : byte ≡ other → EndsIn before front → EndsIn (byte ∷ before) (other ∷ front)
    by first (There is) = There (ap (λ (x : ℕ). x ∷ front) (sym first) ∙ ap (λ (xs : List ℕ). byte ∷ xs) is)
    by first (Sooner more is) = Sooner more (ap (λ (xs : List ℕ). byte ∷ xs) is ∙ ap (λ (x : ℕ). x ∷ (front ++ 47 ∷ more)) first)

-- how a path lies under another
data Under (path front : List ℕ) : Type 0 where
  Below : (rest : List ℕ) → path ≡ front ++ 47 ∷ rest → Under path front
  OfRoot : front ≡ slash → Under path front

under_how : (path front : List ℕ) → lies_under path front ≡ true → Under path front
under_how path front is =
    let p = and_parts (begins_with path front) (not (same_text path front)) is in
    by (begins_how path front p.0) (not-true (same_text path front) p.1)
  where
    by : Begins path front → same_text path front ≡ false → Under path front
    by (Whole same) apart = let both : true ≡ false = sym (same_when path front same) ∙ apart in cc
    by (GoesOn rest goes) apart = Below rest goes
    by (FromRoot root) apart = OfRoot root

under_so : (path front : List ℕ) → 2 ≤ length path → Under path front → lies_under path front ≡ true
under_so path front two (Below rest is) =
    let len = ap (λ (xs : List ℕ). length xs) is ∙ length-append front (47 ∷ rest) in
    and_from (begins_with path front) (not (same_text path front)) (begins_so path front (GoesOn rest is))
    (not_from_false (same_text path front) (differ_when path front (λ same. let size = ap (λ (xs : List ℕ). length xs) same in omega arith)))
under_so path front two (OfRoot root) =
    let len = ap (λ (xs : List ℕ). length xs) root in
    and_from (begins_with path front) (not (same_text path front)) (begins_so path front (FromRoot root))
    (not_from_false (same_text path front) (differ_when path front (λ same. let size = ap (λ (xs : List ℕ). length xs) same in omega arith)))

-- it does exactly where its directory begins with that
down : (path front : List ℕ) (p : Parted path) → Under path front → Begins (of_before p.before) front
unfolding of_before
down path front p (OfRoot root) = FromRoot root
down path front p (Below rest is) = by p.before (ends_in p.before front p.behind rest p.none (sym p.is ∙ is))
  where
    by : (before : List ℕ) → EndsIn before front → Begins (of_before before) front
    by [] (There here) = GoesOn [] (ap (λ (xs : List ℕ). xs ++ 47 ∷ []) (sym here))
    by (byte ∷ before) (There here) = Whole (of_some byte before ∙ sym here)
    by [] (Sooner more goes) = let len = ap (λ (xs : List ℕ). length xs) goes ∙ length-append front (47 ∷ more) in absurd (omega arith)
    by (byte ∷ before) (Sooner more goes) = GoesOn more (of_some byte before ∙ goes)

up : (path front : List ℕ) (p : Parted path) → Begins (of_before p.before) front → Under path front
unfolding of_before
up path front p begins = by p.before p.is begins
  where
    none_before : (rest : List ℕ) → slash ≡ front ++ 47 ∷ rest → front ≡ []
    none_before rest is = empty front (let len = ap (λ (xs : List ℕ). length xs) is ∙ length-append front (47 ∷ rest) in omega arith)
      where
        empty : (xs : List ℕ) → length xs ≡ 0 → xs ≡ []
        empty [] none = refl
        empty (x ∷ xs) none = absurd (omega arith)

    by : (before : List ℕ) → path ≡ before ++ 47 ∷ p.behind → Begins (of_before before) front → Under path front
    by [] is (Whole root) = OfRoot (sym root)
    by [] is (GoesOn rest goes) = Below p.behind (is ∙ ap (λ (xs : List ℕ). xs ++ 47 ∷ p.behind) (sym (none_before rest goes)))
    by [] is (FromRoot root) = OfRoot root
    by (byte ∷ before) is (Whole whole) = Below p.behind (is ∙ ap (λ (xs : List ℕ). xs ++ 47 ∷ p.behind) (sym (of_some byte before) ∙ whole))
    by (byte ∷ before) is (GoesOn rest goes) =
        Below (rest ++ 47 ∷ p.behind) (is ∙ ap (λ (xs : List ℕ). xs ++ 47 ∷ p.behind) (sym (of_some byte before) ∙ goes) ∙ append_assoc front (47 ∷ rest) (47 ∷ p.behind))
    by (byte ∷ before) is (FromRoot root) = OfRoot root

same_truth : (a b : Bool) → (a ≡ true → b ≡ true) → (b ≡ true → a ≡ true) → a ≡ b
same_truth true b to from = sym (to refl)
same_truth false true to from = from refl
same_truth false false to from = refl

pub lies_in : (path front : List ℕ) → is_path_text path ≡ true → 2 ≤ length path → lies_under path front ≡ begins_with (directory_path path) front
lies_in path front text two =
    let p = parted path text in
    same_truth (lies_under path front) (begins_with (directory_path path) front)
    (λ under. ap (λ (dir : List ℕ). begins_with dir front) (directory_is path p) ∙ begins_so (of_before p.before) front (down path front p (under_how path front under)))
    (λ begins. under_so path front two (up path front p (begins_how (of_before p.before) front (ap (λ (dir : List ℕ). begins_with dir front) (sym (directory_is path p)) ∙ begins))))

-- The coffer above a path is the one that the path's directory lies in.
pub above_is_located : (cs : List Coffer) (path : List ℕ) → is_path_text path ≡ true → 2 ≤ length path → coffer_above cs path ≡ coffer_of_path cs (directory_path path)
above_is_located cs path text two =
    ap longest (filter_agree (λ (c : Coffer). lies_under path c.path) (λ (c : Coffer). begins_with (directory_path path) c.path) (λ c. lies_in path c.path text two) cs)

-- What makes the path of a new coffer bad.

pub bad_by_size : (cs : List Coffer) (path : List ℕ) (parent : ℕ) → is_path_text path ≡ true → length path < 2
    → true ≡ (not (is_path_text path) || same_text path (codes "/") || nat_lt 440 (length path) || not (is_coffer parent (coffer_of_path cs (directory_path path))))
bad_by_size cs path parent text short =
    sym (or_left (not (is_path_text path) || same_text path (codes "/") || nat_lt 440 (length path)) (not (is_coffer parent (coffer_of_path cs (directory_path path))))
    (or_left (not (is_path_text path) || same_text path (codes "/")) (nat_lt 440 (length path)) (or_right (not (is_path_text path)) (same_text path (codes "/")) (same_when path (codes "/") (root (path_size path text))))))
  where
    root : (path ≡ slash) ⊎ (2 ≤ length path) → path ≡ slash
    root (inl is) = is
    root (inr two) = absurd (omega arith)

pub bad_by_length : (cs : List Coffer) (path : List ℕ) (parent : ℕ) → 440 < length path
    → true ≡ (not (is_path_text path) || same_text path (codes "/") || nat_lt 440 (length path) || not (is_coffer parent (coffer_of_path cs (directory_path path))))
bad_by_length cs path parent long =
    sym (or_left (not (is_path_text path) || same_text path (codes "/") || nat_lt 440 (length path)) (not (is_coffer parent (coffer_of_path cs (directory_path path))))
    (or_right (not (is_path_text path) || same_text path (codes "/")) (nat_lt 440 (length path)) (lt-ltb 440 (length path) long)))

told : (parent : ℕ) (found : Option Coffer) → option_eq nat_eq (option_map (λ (c : Coffer). c.id) found) (Some parent) ≡ is_coffer parent found
told parent None = refl
told parent (Some c) = refl

pub bad_by_place : (cs : List Coffer) (path : List ℕ) (parent : ℕ) (above : Option ℕ) → is_path_text path ≡ true → 2 ≤ length path → length path ≤ 440 → above ≡ option_map (λ (c : Coffer). c.id) (coffer_above cs path)
    → not (option_eq nat_eq above (Some parent))
    ≡ (not (is_path_text path) || same_text path (codes "/") || nat_lt 440 (length path) || not (is_coffer parent (coffer_of_path cs (directory_path path))))
bad_by_place cs path parent above text two short is =
    ap (λ (a : Option ℕ). not (option_eq nat_eq a (Some parent))) is
    ∙ ap not (told parent (coffer_above cs path) ∙ ap (is_coffer parent) (above_is_located cs path text two))
    ∙ sym (ap (λ (b : Bool). b || not (is_coffer parent (coffer_of_path cs (directory_path path))))
    (or_from (not (is_path_text path) || same_text path (codes "/")) (nat_lt 440 (length path))
    (or_from (not (is_path_text path)) (same_text path (codes "/")) (not_from_true (is_path_text path) text)
    (differ_when path (codes "/") (λ root. let size = ap (λ (xs : List ℕ). length xs) root in omega arith)))
    (le-ltb 440 (length path) short)))
