-- A coffer comes, with pages for it: no rule of the tables fails then, and every coffer that was there still is.
use Rattle.std.proofs.Common.{◌≡◌, ◌≢◌, ◌⊎◌, inl, inr, ℕ, ◌<◌, ◌≤◌, Bool, true, false, cond, List, ◌++◌, sym, ap, subst, ◌∙◌}
use Rattle.std.specs.Prelude.{All}
use Rattle.std.proofs.lemmas.Bool.{cases_eq, cases_Bool, and_parts}
use Rattle.zo_layout.specs.Layout.{kernel_pages}
use Rattle.kern_model.specs.Kernel.{read_after}
use Rattle.kern_model.specs.KernelTables.{Coffer, owner_in, is_id, is_there, is_mode, stands_in, coffer_in, entry_fails}
use Rattle.kern_model.specs.PathMap.{added_pairs}
use Rattle.kern_owner.specs.Owners.{owner_pairs, is_among}
use Rattle.kern_owner.specs.Laws.{SameTables, TablesPass}
use Rattle.kern_owner.proofs.LawLemmas.{owner_read}
use Rattle.kern_roots.specs.Changes.{is_used}
use Rattle.kern_roots.specs.Laws.{PassesRoots, KeepsOwners, IsRight, ChangesOne, IsNew, AddLaw}
use Rattle.kern_laws.proofs.MoveReads.{IsOuterPlace, AreParts, same_owner, same_roots}
use Rattle.kern_laws.proofs.MoveOwners.{OwnsTwo, owns_two, owns_parts, owns_from, used_has, id_bounds, Fate, Stays, Comes, fate_passes, among_holds, owners_placed}
use Rattle.kern_laws.proofs.MoveEntries.{added_placed}

-- A coffer and the pages that come to it, which are none of the kernel's and no coffer's own two.
pub record IsComing (pages : ℕ) (at : ℕ → ℕ) (c : Coffer) (list : List ℕ) (linking : List (ℕ × ℕ)) : Type 0 where
  pub passes : TablesPass pages at
  pub new : IsNew pages at c
  pub number : is_id c.id ≡ true
  pub uid : c.perm.uid ≤ 4294967295
  pub gid : c.perm.gid ≤ 4294967295
  pub mode : is_mode c.perm.mode ≡ true
  pub kind : c.kind ≡ 0
  pub control : is_among list c.control ≡ true
  pub root : is_among list c.root ≡ true
  pub apart : c.control ≢ c.root
  pub inside : All (λ page. page < pages) list
  pub behind : All (λ page. kernel_pages pages ≤ page) list
  pub spares_control : (id : ℕ) → is_used pages at id ≡ true → is_among list (coffer_in pages at id).control ≡ false
  pub spares_root : (id : ℕ) → is_used pages at id ≡ true → is_among list (coffer_in pages at id).root ≡ false
  pub links : All (λ (p : ℕ × ℕ). IsOuterPlace pages p.0) linking

abbrev pub pairs_of : ℕ → (ℕ → ℕ) → Coffer → List ℕ → List (ℕ × ℕ) → List (ℕ × ℕ)
pairs_of pages at c list linking = owner_pairs pages c.id list ++ (added_pairs pages at c ++ linking)

pub roots_pass : (pages : ℕ) (at : ℕ → ℕ) → TablesPass pages at → PassesRoots pages at
roots_pass pages at passes = record { entries = passes.entries; buckets = passes.buckets }

pub two_of_used : (pages : ℕ) (at : ℕ → ℕ) (id : ℕ) → TablesPass pages at → is_used pages at id ≡ true → OwnsTwo pages at (coffer_in pages at id)
two_of_used pages at id passes used =
    let parts = and_parts (is_id id) (stands_in pages at id) (used_has pages at id used) in
    let bounds = id_bounds id parts.0 in
    owns_two pages at id (passes.entries id bounds.0 bounds.1) parts.1

module _ (add : AddLaw) (pages : ℕ) (at after : ℕ → ℕ) (c : Coffer) (list : List ℕ) (linking : List (ℕ × ℕ)) (comes : IsComing pages at c list linking)
    (same : SameTables pages (read_after (pairs_of pages at c list linking) at) after) where
  bounds : (1 ≤ c.id) × (c.id ≤ 256)
  bounds = id_bounds c.id comes.number

  parts : AreParts pages (owner_pairs pages c.id list) (added_pairs pages at c) linking
  parts = record {
    owners = owners_placed pages c.id list comes.inside;
    entries = added_placed pages at c bounds.0 bounds.1;
    others = comes.links;
  }

  owner_then : (page : ℕ) → page < pages → owner_in pages after page ≡ cond (is_among list page) c.id (owner_in pages at page)
  owner_then page lt =
      same_owner pages (owner_pairs pages c.id list) (added_pairs pages at c) linking at after page parts same lt ∙ owner_read pages c.id list page (owner_in pages at page)

  owner_kept : (page : ℕ) → page < pages → is_among list page ≡ false → owner_in pages after page ≡ owner_in pages at page
  owner_kept page lt isnt = owner_then page lt ∙ ap (λ (b : Bool). cond b c.id (owner_in pages at page)) isnt

  owner_own : (page : ℕ) → is_among list page ≡ true → owner_in pages after page ≡ c.id
  owner_own page is = owner_then page (among_holds (λ p. p < pages) list page comes.inside is) ∙ ap (λ (b : Bool). cond b c.id (owner_in pages at page)) is

  keeps : KeepsOwners pages c.id at after
  keeps = record {
    control = λ other used ne. owner_kept (coffer_in pages at other).control (owns_parts pages at other (coffer_in pages at other).control (two_of_used pages at other comes.passes used).control).0 (comes.spares_control other used);
    root = λ other used ne. owner_kept (coffer_in pages at other).root (owns_parts pages at other (coffer_in pages at other).root (two_of_used pages at other comes.passes used).root).0 (comes.spares_root other used);
  }

  left : (coffer_in pages after c.id ≡ c) × ChangesOne pages c.id at after
  left =
      add pages at after c (roots_pass pages at comes.passes) comes.new
      (same_roots pages (owner_pairs pages c.id list) (added_pairs pages at c) linking at after parts same) keeps

  stands_then : stands_in pages after c.id ≡ true
  stands_then = ap (λ (d : Coffer). is_there d.state) left.0 ∙ comes.new.there

  pub still_stands : (id : ℕ) → is_id id ≡ true → stands_in pages at id ≡ true → stands_in pages after id ≡ true
  still_stands id number stands = by (cases_eq id c.id)
    where
      by : (id ≡ c.id) ⊎ (id ≡ c.id → ⊥) → stands_in pages after id ≡ true
      by (inl own) = ap (stands_in pages after) own ∙ stands_then
      by (inr other) = let range = id_bounds id number in ap (λ (d : Coffer). is_there d.state) (left.1.others id range.0 range.1 other) ∙ stands

  fate : (page : ℕ) → page < pages → Fate pages at after page
  fate page lt = by (cases_Bool (is_among list page))
    where
      by : (is_among list page ≡ true) ⊎ (is_among list page ≡ false) → Fate pages at after page
      by (inl is) = Comes c.id (among_holds (λ p. kernel_pages pages ≤ p) list page comes.behind is) (owner_own page is) comes.number stands_then
      by (inr isnt) = Stays (owner_kept page lt isnt) (still_stands (owner_in pages at page))

  right : IsRight pages after c
  right = record {
    uid = comes.uid;
    gid = comes.gid;
    mode = comes.mode;
    kind = comes.kind;
    control = owns_from pages after c.id c.control (among_holds (λ p. p < pages) list c.control comes.inside comes.control) (owner_own c.control comes.control);
    root = owns_from pages after c.id c.root (among_holds (λ p. p < pages) list c.root comes.inside comes.root) (owner_own c.root comes.root);
    apart = comes.apart;
  }

  pub come_passes : TablesPass pages after
  come_passes = record {
    owners = λ page lt. fate_passes pages at after page (comes.passes.owners page lt) (fate page lt);
    entries = λ id low high. by id low high (cases_eq id c.id);
    buckets = left.1.buckets;
  }
    where
      by : (id : ℕ) → 1 ≤ id → id ≤ 256 → (id ≡ c.id) ⊎ (id ≡ c.id → ⊥) → entry_fails pages after id ≡ false
      by id low high (inl own) = ap (entry_fails pages after) own ∙ left.1.own (subst (IsRight pages after) (sym left.0) right)
      by id low high (inr other) = left.1.entries id low high other
