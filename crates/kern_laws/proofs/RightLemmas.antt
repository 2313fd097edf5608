-- A coffer whose entry breaks no rule is right: its permission, its kind, and two pages of its own.
use Rattle.std.proofs.Common.{◌≡◌, ◌≢◌, ◌⊎◌, inl, inr, ℕ, ◌<◌, ◌≤◌, Bool, true, false, cond, not, List, sym, ap, ◌∙◌, arith, nat_eq, nat_lt}
use Rattle.std.specs.Prelude.{All, ◌&&◌, ◌||◌, nat_le, codes}
use Rattle.std.proofs.lemmas.Bool.{cases_Bool, cases_eq, and_parts, and_from, or_parts, leb-true, ltb-true, eqb-true, eqb-false, eq-eqb, not-false, cond-true}
use Rattle.std.proofs.lemmas.List.Elements.{All-weaker}
use Rattle.zo_layout.specs.Layout.{page_at, kernel_pages, coffer_table, owner_word, word_of, coffer_entry, path_bucket}
use Rattle.kern_model.specs.Kernel.{read_after}
use Rattle.tr_types.specs.Paths.{same_text}
use Rattle.kern_model.specs.KernelTables.{Coffer, owner_in, is_id, is_mode, is_there, stands_in, coffer_in, coffer_fails, path_fails, pages_fail, path_stands_twice, owns, entry_fails}
use Rattle.kern_model.proofs.LaidLemmas.{laid_unnamed}
use Rattle.kern_owner.specs.Laws.{SameTables, OwnersPass, TablesPass}
use Rattle.kern_roots.specs.Laws.{PassesRoots, SameRoots, KeepsOwners, IsRight, ChangesOne}
use Rattle.kern_roots.specs.Changes.{is_used}
use Rattle.kern_laws.proofs.TablesLemmas.{id_bounds}
use Rattle.kern_laws.proofs.DueLemmas.{used_there}

eight : (a b c d e f g h : Bool) → (a || b || c || d || e || f || g || h) ≡ false
    → (a ≡ false) × (b ≡ false) × (c ≡ false) × (d ≡ false) × (e ≡ false) × (f ≡ false) × (g ≡ false) × (h ≡ false)
eight a b c d e f g h is =
    let p7 = or_parts (a || b || c || d || e || f || g) h is in
    let p6 = or_parts (a || b || c || d || e || f) g p7.0 in
    let p5 = or_parts (a || b || c || d || e) f p6.0 in
    let p4 = or_parts (a || b || c || d) e p5.0 in
    let p3 = or_parts (a || b || c) d p4.0 in
    let p2 = or_parts (a || b) c p3.0 in
    let p1 = or_parts a b p2.0 in
    (p1.0, p1.1, p2.1, p3.1, p4.1, p5.1, p6.1, p7.1)

pub right_of : (pages : ℕ) (at : ℕ → ℕ) (id : ℕ) → stands_in pages at id ≡ true → entry_fails pages at id ≡ false → IsRight pages at (coffer_in pages at id)
right_of pages at id there passes =
    let c = coffer_in pages at id in
    let p = eight (not (nat_le c.perm.uid 4294967295)) (not (nat_le c.perm.gid 4294967295)) (not (is_mode c.perm.mode)) (path_fails pages at id) (not (nat_eq c.kind 0))
    (pages_fail pages at c) (path_stands_twice pages at id) (nat_eq id 1 && not (same_text c.path (codes "/")))
    (sym (cond-true (stands_in pages at id) (coffer_fails pages at (coffer_in pages at id)) _ there) ∙ passes) in
    let own = or_parts (not (owns pages at id c.control && owns pages at id c.root)) (nat_eq c.control c.root) p.5 in
    let both = and_parts (owns pages at id c.control) (owns pages at id c.root) (not-false (owns pages at id c.control && owns pages at id c.root) own.0) in
    record {
      uid = leb-true c.perm.uid 4294967295 (not-false (nat_le c.perm.uid 4294967295) p.0);
      gid = leb-true c.perm.gid 4294967295 (not-false (nat_le c.perm.gid 4294967295) p.1);
      mode = not-false (is_mode c.perm.mode) p.2;
      kind = eqb-true c.kind 0 (not-false (nat_eq c.kind 0) p.4);
      control = both.0;
      root = both.1;
      apart = eqb-false c.control c.root own.1;
    }

-- what a page that a coffer owns tells
pub owned : (pages : ℕ) (at : ℕ → ℕ) (id page : ℕ) → owns pages at id page ≡ true → (page < pages) × (owner_in pages at page ≡ id)
owned pages at id page is =
    let parts = and_parts (nat_lt page pages) (nat_eq (owner_in pages at page) id) is in
    (ltb-true page pages parts.0, eqb-true (owner_in pages at page) id parts.1)

-- Where the owners of all pages stay.

abbrev pub SameOwners : ℕ → (ℕ → ℕ) → (ℕ → ℕ) → Type 0
SameOwners pages at after = (page : ℕ) → page < pages → owner_in pages after page ≡ owner_in pages at page

owns_still : (pages : ℕ) (at after : ℕ → ℕ) → SameOwners pages at after → (id page : ℕ) → owns pages at id page ≡ true → owns pages after id page ≡ true
owns_still pages at after same id page is =
    let parts = and_parts (nat_lt page pages) (nat_eq (owner_in pages at page) id) is in
    let was = owned pages at id page is in
    and_from (nat_lt page pages) (nat_eq (owner_in pages after page) id) parts.0 (eq-eqb (owner_in pages after page) id (same page was.0 ∙ was.1))

-- a right coffer is right
pub right_still : (pages : ℕ) (at after : ℕ → ℕ) → SameOwners pages at after → (c : Coffer) → IsRight pages at c → IsRight pages after c
right_still pages at after same c right = record {
  uid = right.uid;
  gid = right.gid;
  mode = right.mode;
  kind = right.kind;
  control = owns_still pages at after same c.id c.control right.control;
  root = owns_still pages at after same c.id c.root right.root;
  apart = right.apart;
}

-- the rule of the owner words holds, where the coffers that are there are those that were
pub owners_still : (pages : ℕ) (at after : ℕ → ℕ) → SameOwners pages at after → ((id : ℕ) → is_id id ≡ true → stands_in pages after id ≡ stands_in pages at id) → OwnersPass pages at → OwnersPass pages after
owners_still pages at after same still passes page lt =
    ap (λ (o : ℕ). cond (nat_lt page (kernel_pages pages)) (not (nat_eq o 65535)) (not (nat_eq o 0 || (is_id o && stands_in pages after o)))) (same page lt)
    ∙ ap (λ (b : Bool). cond (nat_lt page (kernel_pages pages)) (not (nat_eq (owner_in pages at page) 65535)) (not (nat_eq (owner_in pages at page) 0 || b))) (there (owner_in pages at page))
    ∙ passes page lt
  where
    there : (id : ℕ) → (is_id id && stands_in pages after id) ≡ (is_id id && stands_in pages at id)
    there id = by (cases_Bool (is_id id))
      where
        by : (is_id id ≡ true) ⊎ (is_id id ≡ false) → (is_id id && stands_in pages after id) ≡ (is_id id && stands_in pages at id)
        by (inl is) = ap (λ (b : Bool). is_id id && b) (still id is)
        by (inr isnt) = ap (λ (b : Bool). b && stands_in pages after id) isnt ∙ sym (ap (λ (b : Bool). b && stands_in pages at id) isnt)

-- Pairs for words of the coffer table or behind it.

abbrev pub AreBehind : ℕ → List (ℕ × ℕ) → Type 0
AreBehind pages pairs = All {X = ℕ × ℕ} (λ p. page_at (coffer_table pages) ≤ p.0) pairs

pub same_owners : (pages : ℕ) (pairs : List (ℕ × ℕ)) (at after : ℕ → ℕ) → SameTables pages (read_after pairs at) after → AreBehind pages pairs → SameOwners pages at after
same_owners pages pairs at after same behind page lt =
    same (owner_word pages page) (omega arith) (omega arith) (omega arith)
    ∙ laid_unnamed pairs (owner_word pages page) (at (owner_word pages page))
    (All-weaker (λ (p : ℕ × ℕ). page_at (coffer_table pages) ≤ p.0) (λ (p : ℕ × ℕ). p.0 ≢ owner_word pages page) (λ p le. other p.0 le) pairs behind)
  where
    other : (addr : ℕ) → page_at (coffer_table pages) ≤ addr → addr ≢ owner_word pages page
    other addr le is = omega arith

pub same_roots : (pages : ℕ) (at after : ℕ → ℕ) → SameTables pages at after → SameRoots pages at after
same_roots pages at after same = record {
  entries = λ id i low high lt. same (word_of (coffer_entry pages id) i) (omega arith) (omega arith) (omega arith);
  buckets = λ bucket lt. same (path_bucket pages bucket) (omega arith) (omega arith) (omega arith);
}

pub passes_roots : (pages : ℕ) (at : ℕ → ℕ) → TablesPass pages at → PassesRoots pages at
passes_roots pages at passes = record { entries = passes.entries; buckets = passes.buckets }

pub keeps_owners : (pages id : ℕ) (at after : ℕ → ℕ) → SameOwners pages at after → TablesPass pages at → KeepsOwners pages id at after
keeps_owners pages id at after same passes = record {
  control = λ other used ne. let right = its other used in same (coffer_in pages at other).control (owned pages at other (coffer_in pages at other).control right.control).0;
  root = λ other used ne. let right = its other used in same (coffer_in pages at other).root (owned pages at other (coffer_in pages at other).root right.root).0;
}
  where
    its : (other : ℕ) → is_used pages at other ≡ true → IsRight pages at (coffer_in pages at other)
    its other used =
        let parts = and_parts (is_id other) (stands_in pages at other) (used_there pages at other used) in
        let bounds = id_bounds other parts.0 in
        right_of pages at other parts.1 (passes.entries other bounds.0 bounds.1)

-- the coffers that are there stay there, where one has changed
pub others_stand : (pages id : ℕ) (at after : ℕ → ℕ) → ChangesOne pages id at after → stands_in pages after id ≡ stands_in pages at id
    → (other : ℕ) → is_id other ≡ true → stands_in pages after other ≡ stands_in pages at other
others_stand pages id at after one own other is = by (cases_eq other id)
  where
    by : (other ≡ id) ⊎ (other ≡ id → ⊥) → stands_in pages after other ≡ stands_in pages at other
    by (inl same) = ap (λ (k : ℕ). stands_in pages after k) same ∙ own ∙ ap (λ (k : ℕ). stands_in pages at k) (sym same)
    by (inr ne) = let bounds = id_bounds other is in ap (λ (c : Coffer). is_there c.state) (one.others other bounds.0 bounds.1 ne)

-- no rule of the tables fails, where one coffer has changed and is right
pub one_changed : (pages id : ℕ) (at after : ℕ → ℕ) → SameOwners pages at after → ChangesOne pages id at after → stands_in pages after id ≡ stands_in pages at id
    → IsRight pages after (coffer_in pages after id) → TablesPass pages at → TablesPass pages after
one_changed pages id at after same one own right passes = record {
  owners = owners_still pages at after same (others_stand pages id at after one own) passes.owners;
  entries = λ other low high. by other low high (cases_eq other id);
  buckets = one.buckets;
}
  where
    by : (other : ℕ) → 1 ≤ other → other ≤ 256 → (other ≡ id) ⊎ (other ≡ id → ⊥) → entry_fails pages after other ≡ false
    by other low high (inl is) = ap (λ (k : ℕ). entry_fails pages after k) is ∙ one.own right
    by other low high (inr ne) = one.entries other low high ne
