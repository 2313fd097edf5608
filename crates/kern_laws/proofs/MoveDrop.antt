-- A coffer goes, and its pages are another's or nobody's: no rule of the tables fails then, and every other coffer still is there.
use Rattle.std.proofs.Common.{◌≡◌, ◌≢◌, ◌⊎◌, inl, inr, ℕ, ◌<◌, ◌≤◌, true, false, List, ◌++◌, sym, ap, ◌∙◌}
use Rattle.std.specs.Prelude.{All}
use Rattle.std.proofs.lemmas.Bool.{cases_eq, and_parts}
use Rattle.zo_layout.specs.Layout.{owner_word}
use Rattle.kern_model.specs.Journal.{laid_over}
use Rattle.kern_model.specs.Kernel.{read_after}
use Rattle.kern_model.specs.KernelTables.{Coffer, owner_in, owns, is_id, is_there, stands_in, coffer_in, entry_fails}
use Rattle.kern_model.specs.PathMap.{dropped_pairs}
use Rattle.kern_owner.specs.Laws.{SameTables, TablesPass}
use Rattle.kern_roots.specs.Changes.{is_used}
use Rattle.kern_roots.specs.Laws.{KeepsOwners, ChangesOne, DropLaw}
use Rattle.kern_laws.proofs.MoveReads.{IsOwnerPlace, IsOuterPlace, AreParts, same_owner, same_roots}
use Rattle.kern_laws.proofs.MoveOwners.{owns_parts, used_has, id_bounds, Fate, Stays, Frees, Comes, fate_passes, owned_behind}
use Rattle.kern_laws.proofs.MoveEntries.{dropped_placed}
use Rattle.kern_laws.proofs.MoveAdd.{roots_pass, two_of_used}

-- whose a page is now, where a coffer has gone: its own pages are another's that is there, or nobody's
pub data Leaving (pages : ℕ) (at : ℕ → ℕ) (id page now : ℕ) : Type 0 where
  Elsewhere : owner_in pages at page ≢ id → now ≡ owner_in pages at page → Leaving pages at id page now
  Freed : owner_in pages at page ≡ id → now ≡ 0 → Leaving pages at id page now
  Given : (to : ℕ) → owner_in pages at page ≡ id → now ≡ to → is_id to ≡ true → stands_in pages at to ≡ true → to ≢ id → Leaving pages at id page now

-- A coffer that can go, with pairs for all its pages.
pub record IsGoing (pages : ℕ) (at : ℕ → ℕ) (id : ℕ) (owning linking : List (ℕ × ℕ)) : Type 0 where
  pub passes : TablesPass pages at
  pub used : is_used pages at id ≡ true
  pub later : id ≢ 1
  pub owners : All (λ (p : ℕ × ℕ). IsOwnerPlace pages p.0) owning
  pub leaving : (page : ℕ) → page < pages → Leaving pages at id page (laid_over owning (owner_word pages page) (owner_in pages at page))
  pub links : All (λ (p : ℕ × ℕ). IsOuterPlace pages p.0) linking

module _ (drop : DropLaw) (pages : ℕ) (at after : ℕ → ℕ) (id : ℕ) (owning linking : List (ℕ × ℕ)) (goes : IsGoing pages at id owning linking)
    (same : SameTables pages (read_after (owning ++ (dropped_pairs pages at id ++ linking)) at) after) where
  is_there_now : (is_id id ≡ true) × (stands_in pages at id ≡ true)
  is_there_now = and_parts (is_id id) (stands_in pages at id) (used_has pages at id goes.used)

  bounds : (1 ≤ id) × (id ≤ 256)
  bounds = id_bounds id is_there_now.0

  parts : AreParts pages owning (dropped_pairs pages at id) linking
  parts = record {
    owners = goes.owners;
    entries = dropped_placed pages at id bounds.0 bounds.1 goes.passes.buckets;
    others = goes.links;
  }

  owner_then : (page : ℕ) → page < pages → owner_in pages after page ≡ laid_over owning (owner_word pages page) (owner_in pages at page)
  owner_then page lt = same_owner pages owning (dropped_pairs pages at id) linking at after page parts same lt

  owner_kept : (page : ℕ) → page < pages → owner_in pages at page ≢ id → owner_in pages after page ≡ owner_in pages at page
  owner_kept page lt other = by (goes.leaving page lt)
    where
      by : Leaving pages at id page (laid_over owning (owner_word pages page) (owner_in pages at page)) → owner_in pages after page ≡ owner_in pages at page
      by (Elsewhere isnt is) = owner_then page lt ∙ is
      by (Freed own is) = absurd (other own)
      by (Given to own is number stands apart) = absurd (other own)

  two_kept : (other page : ℕ) → other ≢ id → owns pages at other page ≡ true → owner_in pages after page ≡ owner_in pages at page
  two_kept other page ne own = let its = owns_parts pages at other page own in owner_kept page its.0 (λ e. ne (sym its.1 ∙ e))

  keeps : KeepsOwners pages id at after
  keeps = record {
    control = λ other used ne. two_kept other (coffer_in pages at other).control ne (two_of_used pages at other goes.passes used).control;
    root = λ other used ne. two_kept other (coffer_in pages at other).root ne (two_of_used pages at other goes.passes used).root;
  }

  left : (stands_in pages after id ≡ false) × (entry_fails pages after id ≡ false) × ChangesOne pages id at after
  left =
      drop pages at after id (roots_pass pages at goes.passes) goes.used goes.later
      (same_roots pages owning (dropped_pairs pages at id) linking at after parts same) keeps

  pub others_stand : (other : ℕ) → is_id other ≡ true → other ≢ id → stands_in pages at other ≡ true → stands_in pages after other ≡ true
  others_stand other number ne stands =
      let range = id_bounds other number in ap (λ (d : Coffer). is_there d.state) (left.2.others other range.0 range.1 ne) ∙ stands

  fate : (page : ℕ) → page < pages → Fate pages at after page
  fate page lt = by (goes.leaving page lt)
    where
      by : Leaving pages at id page (laid_over owning (owner_word pages page) (owner_in pages at page)) → Fate pages at after page
      by (Elsewhere isnt is) = Stays (owner_then page lt ∙ is) (λ number stands. others_stand (owner_in pages at page) number isnt stands)
      by (Freed own is) = Frees (owned_behind pages at page id goes.passes.owners lt own bounds.1) (owner_then page lt ∙ is)
      by (Given to own is number stands apart) =
          Comes to (owned_behind pages at page id goes.passes.owners lt own bounds.1) (owner_then page lt ∙ is) number (others_stand to number apart stands)

  pub go_passes : TablesPass pages after
  go_passes = record {
    owners = λ page lt. fate_passes pages at after page (goes.passes.owners page lt) (fate page lt);
    entries = λ other low high. by other low high (cases_eq other id);
    buckets = left.2.buckets;
  }
    where
      by : (other : ℕ) → 1 ≤ other → other ≤ 256 → (other ≡ id) ⊎ (other ≡ id → ⊥) → entry_fails pages after other ≡ false
      by other low high (inl own) = ap (entry_fails pages after) own ∙ left.1
      by other low high (inr ne) = left.2.entries other low high ne
