-- What the rule of the coffer table gives of the entry of a coffer that is there.
use Rattle.std.proofs.Common.{◌≡◌, ◌⊎◌, inl, inr, ℕ, ◌<◌, ◌≤◌, Bool, true, false, not, List, refl, sym, ◌∙◌, arith}
use Rattle.std.specs.Prelude.{◌&&◌, ◌||◌, nat_lt, nat_le, nat_eq, bit_and, codes}
use Rattle.std.proofs.lemmas.Bool.{ltb-true, leb-true, eqb-true, eq-eqb, not-false, or_cases, or_parts, or_right, and_parts, cond-true, cond-false}
use Rattle.std.proofs.lemmas.Nat.{and_le_r}
use Rattle.zo_layout.specs.Layout.{coffer_entry, coffer_state, coffer_uid, coffer_gid, coffer_mode, coffer_control, coffer_root, coffer_kind}
use Rattle.tr_types.specs.Paths.{same_text, is_path_text}
use Rattle.kern_model.specs.KernelTables.{coffer_in, coffer_fails, entry_fails, path_in, path_fails, path_length, path_stands_twice, pages_fail, owns, is_id, is_mode, stands_in}
use Rattle.pm_words.specs.Word.{Word}
use Rattle.kern_model.specs.KernelView.{pages_of}
use Rattle.kern_model.specs.Journal.{kernel_word}
use Rattle.kern_model.specs.KernelRules.{IsSoundKernel}
use Rattle.kern_roots.specs.Entries.{has_id, has_coffer}

-- What stands in the entry of a coffer that is there.
pub record IsEntry (pages : ℕ) (at : ℕ → ℕ) (id : ℕ) : Type 0 where
  pub least : 1 ≤ id
  pub most : id ≤ 256
  pub state : at (coffer_state (coffer_entry pages id)) ≤ 2
  pub uid : at (coffer_uid (coffer_entry pages id)) ≤ 4294967295
  pub gid : at (coffer_gid (coffer_entry pages id)) ≤ 4294967295
  pub mode : at (coffer_mode (coffer_entry pages id)) ≤ 438
  pub control : at (coffer_control (coffer_entry pages id)) < pages
  pub root : at (coffer_root (coffer_entry pages id)) < pages
  pub kind : at (coffer_kind (coffer_entry pages id)) ≡ 0
  pub path_length : path_length pages at id ≤ 440
  pub path : is_path_text (path_in pages at id) ≡ true
  pub alone : path_stands_twice pages at id ≡ false
  pub first : id ≡ 1 → same_text (path_in pages at id) (codes "/") ≡ true

state_at_most : (state : ℕ) → ((nat_eq state 1 || nat_eq state 2) ≡ true) → state ≤ 2
state_at_most state is = by (or_cases (nat_eq state 1) (nat_eq state 2) is)
  where
    by : (nat_eq state 1 ≡ true) ⊎ (nat_eq state 2 ≡ true) → state ≤ 2
    by (inl one) = let same = eqb-true state 1 one in omega arith
    by (inr two) = let same = eqb-true state 2 two in omega arith

eight : (a b c d e f g h : Bool) → (a || b || c || d || e || f || g || h) ≡ false
    → (a ≡ false) × (b ≡ false) × (c ≡ false) × (d ≡ false) × (e ≡ false) × (f ≡ false) × (g ≡ false) × (h ≡ false)
eight false false false false false false false false is = (refl, refl, refl, refl, refl, refl, refl, refl)
eight false false false false false false false true is = cc
eight false false false false false false true h is = cc
eight false false false false false true g h is = cc
eight false false false false true f g h is = cc
eight false false false true e f g h is = cc
eight false false true d e f g h is = cc
eight false true c d e f g h is = cc
eight true b c d e f g h is = cc

sound_of : (pages : ℕ) (at : ℕ → ℕ) (id : ℕ) → 1 ≤ id → id ≤ 256 → stands_in pages at id ≡ true → coffer_fails pages at (coffer_in pages at id) ≡ false → IsEntry pages at id
sound_of pages at id least most stands passes =
    let c = coffer_in pages at id in
    let p = eight (not (nat_le c.perm.uid 4294967295)) (not (nat_le c.perm.gid 4294967295)) (not (is_mode c.perm.mode)) (path_fails pages at id) (not (nat_eq c.kind 0))
    (pages_fail pages at c) (path_stands_twice pages at id) (nat_eq id 1 && not (same_text c.path (codes "/"))) passes in
    let path = and_parts (nat_le (path_length pages at id) 440) (is_path_text (path_in pages at id)) (not-false (nat_le (path_length pages at id) 440 && is_path_text (path_in pages at id)) p.3) in
    let own = or_parts (not (owns pages at id c.control && owns pages at id c.root)) (nat_eq c.control c.root) p.5 in
    let both = and_parts (owns pages at id c.control) (owns pages at id c.root) (not-false (owns pages at id c.control && owns pages at id c.root) own.0) in
    record {
      least = least;
      most = most;
      state = state_at_most c.state stands;
      uid = leb-true c.perm.uid 4294967295 (not-false (nat_le c.perm.uid 4294967295) p.0);
      gid = leb-true c.perm.gid 4294967295 (not-false (nat_le c.perm.gid 4294967295) p.1);
      mode = mode_at_most c.perm.mode (eqb-true (bit_and c.perm.mode 438) c.perm.mode (not-false (is_mode c.perm.mode) p.2));
      control = ltb-true c.control pages (and_parts (nat_lt c.control pages) _ both.0).0;
      root = ltb-true c.root pages (and_parts (nat_lt c.root pages) _ both.1).0;
      kind = eqb-true c.kind 0 (not-false (nat_eq c.kind 0) p.4);
      path_length = leb-true (path_length pages at id) 440 path.0;
      path = path.1;
      alone = p.6;
      first = λ one. first_of (nat_eq id 1) (same_text c.path (codes "/")) (eq-eqb id 1 one) p.7;
    }
  where
    mode_at_most : (mode : ℕ) → bit_and mode 438 ≡ mode → mode ≤ 438
    mode_at_most mode is = let le = and_le_r mode 438 in omega arith

    first_of : (a b : Bool) → a ≡ true → (a && not b) ≡ false → b ≡ true
    first_of true true is no_fault = refl
    first_of true false is no_fault = cc
    first_of false b is no_fault = cc

pub entry_is_sound : (pages : ℕ) (at : ℕ → ℕ) (id : ℕ) → entry_fails pages at id ≡ false → has_id pages at id ≡ true → IsEntry pages at id
entry_is_sound pages at id passes there =
    let p = and_parts (is_id id) (stands_in pages at id) there in
    let range = and_parts (nat_le 1 id) (nat_le id 256) p.0 in
    sound_of pages at id (leb-true 1 id range.0) (leb-true id 256 range.1) p.1
    (sym (cond-true (stands_in pages at id) (coffer_fails pages at (coffer_in pages at id)) _ p.1) ∙ passes)

-- the root coffer is there
pub root_is_there : (pages : ℕ) (at : ℕ → ℕ) → entry_fails pages at 1 ≡ false → has_id pages at 1 ≡ true
root_is_there pages at passes = by (stands_in pages at 1) refl
  where
    by : (b : Bool) → stands_in pages at 1 ≡ b → has_id pages at 1 ≡ true
    by true is = is
    by false is =
        let none = sym (cond-false (stands_in pages at 1) (coffer_fails pages at (coffer_in pages at 1)) (not (nat_eq (at (coffer_state (coffer_entry pages 1))) 0) || true) is) ∙ passes in
        let late = or_right (not (nat_eq (at (coffer_state (coffer_entry pages 1))) 0)) true refl in
        cc

pub sound_entry : (words : List Word) (id : ℕ) → IsSoundKernel words → has_coffer words id ≡ true → IsEntry (pages_of words) (kernel_word words) id
sound_entry words id sound there =
    let range = and_parts (nat_le 1 id) (nat_le id 256) (and_parts (is_id id) (stands_in (pages_of words) (kernel_word words) id) there).0 in
    entry_is_sound (pages_of words) (kernel_word words) id (sound.entries id (leb-true 1 id range.0) (leb-true id 256 range.1)) there
