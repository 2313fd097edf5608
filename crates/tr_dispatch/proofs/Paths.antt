-- The path that a command looks for, where each path has one name at most.
use Rattle.std.proofs.Common.{◌≡◌, inl, ℕ, zero, suc, ◌-◌, ◌<◌, ◌≤◌, Bool, true, false, not, cond, ◌==◌, ◌||◌, List, [], ◌∷◌, length, take, get_or, refl, ap, subst, sym, ◌∙◌, arith, eq-eqb, ne_eqb}
use Rattle.std.specs.Prelude.{codes, nat_lt}
use Rattle.std.proofs.lemmas.List.Sums.{suffix_len_is}
use Rattle.kern_model.specs.KernelCalls.{IsPathText}
use Rattle.tr_types.specs.Paths.{names_of, is_path_text, before_last_slash}
use Rattle.tr_types.specs.declared.command.Command.{Command}
use Rattle.tr_types.specs.declared.command.Command.TheVariants.{Create, Stat}
use Rattle.zo_model.specs.Commands.{IsName, IsPath, IsCommand, sought_path, consulted_path}
use Rattle.tr_model.proofs.RootLemmas.{good_look}

-- a path of one name lies in the root directory
before_name : (byte : ℕ) (name : List ℕ) → byte ≡ 47 → IsName name → before_last_slash (byte ∷ name) ≡ []
before_name byte name slash is =
    ap (λ (n : ℕ). take (length (byte ∷ name) - n - 1) (byte ∷ name)) (suffix_len_is (λ b. not (b == 47)) (byte ∷ name) 1 0 (omega arith) passes (λ _. ap not (eq-eqb byte 47 slash)))
    ∙ ap (λ (n : ℕ). take n (byte ∷ name)) none
  where
    passes : (k : ℕ) → 1 ≤ k → k < length (byte ∷ name) → not (get_or (byte ∷ name) k 0 == 47) ≡ true
    passes zero some lt = absurd (omega (arith, some))
    passes (suc k) some lt = ap not (ne_eqb (get_or name k 0) 47 (is.bytes k 0 (omega (arith, lt))).2)

    none : length (byte ∷ name) - (length (byte ∷ name) - 1) - 1 ≡ 0
    none = omega arith

-- the path that a command looks for is the one that it consults
pub sought : (command : Command) → IsCommand command → consulted_path command ≡ sought_path command
sought (Create [] mode) valid = absurd valid.0
sought (Create (byte ∷ name) mode) valid = sym (ap (λ (front : List ℕ). cond (length front == 0) (codes "/") front) (before_name byte name valid.0.0 valid.0.1))
sought (Stat path) valid = refl

-- that of a command is a path
pub consults_path : (command : Command) (path : List ℕ) → IsCommand command → path ≡ consulted_path command → IsPath path
consults_path command path valid is = subst IsPath (sym is) (by command valid)
  where
    by : (c : Command) → IsCommand c → IsPath (consulted_path c)
    by (Create name mode) given = inl refl
    by (Stat name) given = given

-- and is one that a script can write
pub path_text : (path : List ℕ) → IsPath path → IsPathText path
path_text path is = by (is_path_text path) (good_look path is)
  where
    by : (b : Bool) → (not b || nat_lt 1024 (length path) || nat_lt 32 (length (names_of path))) ≡ false → b ≡ true
    by true e = refl
    by false e = let clash : true ≡ false = e in cc
