-- A store beside the names of a directory: what stays of that directory, and that nothing is done in others.
use Rattle.std.proofs.Common.{◌≡◌, ◌≢◌, ◌⊎◌, inl, inr, ℕ, ◌+◌, ◌%◌, ◌^◌, ◌≤◌, ◌<◌, List, Bool, true, Contains, Option, Some, refl, sym, ap, subst, ◌∙◌, arith, le_trans}
use Rattle.std.proofs.lemmas.Option.{none-some}
use Rattle.zo_layout.specs.Layout.{word_of, next_entry}
use Rattle.zo_lease.specs.Words.{holder_of, expiry_of}
use Rattle.zo_laws.specs.Laws.{KeepsNames}
use Rattle.zo_laws.proofs.MemberLemmas.{cases_names}
use Rattle.zo_model.specs.Directory.{IsReached, HasFree}
use Rattle.zo_model.specs.CofferWords.{Use, Entries, IsDir}
use Rattle.zo_units.specs.Memory.{at}
use Rattle.zo_units.specs.MemoryLaws.{Spares}
use Rattle.zo_units.specs.Units.{Commitment, IsOpen}
use Rattle.zo_units.proofs.Places.{still_rises}
use Rattle.zo_shared.specs.Shared.{Shared, dir_of, lease_of, noted_of, counter_of, Still, HasPages, IsKept, IsSound}
use Rattle.zo_shared.specs.Deeds.{Holds}
use Rattle.zo_shared.specs.Rely.{Same, Danger}
use Rattle.zo_shared.proofs.Frames.{EntryPages, Stays, Acts, Done, place_of, keeps_names, reached_was, free_from, pages_from}
use Rattle.zo_shared.proofs.Changes.{changed, changed_stays, store_rises, side, after_side, side_sound, side_elsewhere, side_pools, side_drawn, side_sides, side_heads, side_places, side_links, plain_done}

-- a word that shows a holder isn't 0
pub held_some : (w thread : ℕ) → holder_of w ≡ Some thread → w ≢ 0
held_some w thread held none = none-some thread (ap holder_of (sym none) ∙ held)

pub one_holder : (one two : ℕ) → Some one ≡ Some two → one ≡ two
one_holder one two e = cc

-- who holds a lease is alone, and a danger as soon as it has raised the counter
module _ (g : Shared) (thread now : ℕ) (names : List (List ℕ)) (h : Holds g thread now names) where
  pub holds_alone : (other : ℕ) → other ≢ thread → holder_of (lease_of g names) ≡ Some other → ⊥
  holds_alone other differs is = differs (one_holder other thread (sym is ∙ h.own))

  pub holds_danger : g.now ≤ now → g.raised names ≡ true → Danger g names
  holds_danger later raised = record { live = record { some = held_some (lease_of g names) thread h.own; fresh = le_trans later h.fresh }; raised = raised }

pub danger_was : (g new : Shared) (names : List (List ℕ)) → g.now ≤ new.now → new.raised names ≡ g.raised names → lease_of new names ≡ lease_of g names → Danger new names
    → Danger g names × (lease_of new names ≡ lease_of g names)
danger_was g new names later raised lease d = (
  record {
    live = record { some = λ none. d.live.some (lease ∙ none); fresh = le_trans later (subst (λ (w : ℕ). new.now ≤ expiry_of w) lease d.live.fresh) };
    raised = sym raised ∙ d.raised;
  },
  lease,
)

module _ (g : Shared) (s : IsSound g) (names : List (List ℕ)) (dir : IsDir g.tree names) (i : ℕ) (some : 1 ≤ i) (few : i ≤ 5) (value now : ℕ) (use_of : ℕ → Use) (drawn : ℕ → Option ℕ)
    (frees : List (List ℕ) → List ℕ) (raises : List (List ℕ) → ℕ) (raised : List (List ℕ) → Bool) where
  abbrev pub new : Shared
  new = changed g now (after_side g s names dir i some few value) use_of drawn frees raises raised

  k : IsKept g names
  k = s.kept names dir

  side_stays : (j : ℕ) → 1 ≤ j → j ≤ 5 → j ≢ i → at new.memory (word_of (dir_of g names) j) ≡ at g.memory (word_of (dir_of g names) j)
  side_stays j one five other = (side_sides g s names dir i some few value j one five other).present

  reached_spared : (entry j : ℕ) → IsReached (at g.memory) (dir_of g names) entry → j < 40 → Spares g.memory new.memory (word_of entry j)
  reached_spared entry j reached low = side_places g s names dir i some few value entry j (place_of g s names dir entry reached) low

  pub here_keeps : KeepsNames (at g.memory) (at new.memory) (dir_of g names)
  here_keeps = keeps_names g s names dir new.memory (side_heads g s names dir i some few value) reached_spared

  pub here_opened : (c : Commitment) → IsOpen new.memory c → IsOpen g.memory c
  here_opened c opened = let up = (store_rises g s (side g s names dir i some few value) value).floors c.addr in omega (arith, up, opened)

  pub here_still : Still g names → Still new names
  here_still still = still_rises g.memory new.memory (g.lasts names) (store_rises g s (side g s names dir i some few value) value) still

  pub here_lease : 1 ≢ i → lease_of new names ≡ lease_of g names
  here_lease other = side_stays 1 (omega arith) (omega arith) other

  pub here_free : 1 ≢ i → lease_of new names ≡ 0 → Still new names
  here_free other none = here_still (k.free (sym (here_lease other) ∙ none))

  pub here_noted : 2 ≢ i → (c : Commitment) → new.lasts names ≡ Some c → IsOpen new.memory c → noted_of new names ≡ c.addr
  here_noted other c last opened = side_stays 2 (omega arith) (omega arith) other ∙ k.noted c last (here_opened c opened)

  pub here_counted : 3 ≢ i → counter_of new names ≡ (g.bases names + g.raises names) % 2 ^ 64
  here_counted other = side_stays 3 (omega arith) (omega arith) other ∙ k.counted

  pub here_few : g.raises names ≤ g.count + 1
  here_few = let low = k.few in omega (arith, low)

  pub here_next : (entry : ℕ) → Contains (g.frees names) entry → at new.memory (next_entry entry) ≡ at g.memory (next_entry entry)
  here_next entry c =
      let first : word_of entry 0 ≡ next_entry entry = omega arith in
      subst (λ (a : ℕ). at new.memory a ≡ at g.memory a) first (side_places g s names dir i some few value entry 0 (k.entries.each entry c).place (omega arith)).present

  pub here_reached : (entry : ℕ) → IsReached (at new.memory) (dir_of g names) entry → IsReached (at g.memory) (dir_of g names) entry
  here_reached entry reached = reached_was g s names dir new.memory here_keeps entry reached

  pub here_entries : 5 ≢ i → ((p : ℕ) → EntryPages g names p → EntryPages new names p) → HasFree (at new.memory) (EntryPages new names) (dir_of g names) (g.frees names)
  here_entries other more =
      free_from (EntryPages g names) (EntryPages new names) (at g.memory) (at new.memory) (dir_of g names) (g.frees names) (side_stays 5 (omega arith) (omega arith) other) here_next more
      (λ entry c reached. here_reached entry reached) k.entries

  pub here_pages : 4 ≢ i → ((p : ℕ) → EntryPages g names p → EntryPages new names p) → ((p : ℕ) → EntryPages new names p → EntryPages g names p) → HasPages new names
  here_pages other more only =
      pages_from g new names refl (side_stays 4 (omega arith) (omega arith) other) (λ p e. (side_links g s names dir i some few value p e).present) more only k.pages

  pub here_same : 2 ≢ i → Same g new names
  here_same other = record {
    heads = side_heads g s names dir i some few value;
    entries = reached_spared;
    noted = side_stays 2 (omega arith) (omega arith) other;
    members = λ name. refl;
    pages = λ name node is. refl;
    last = λ c is. is;
  }

  -- nothing is done in the others
  pub elsewhere : ((p : ℕ) (os : List (List ℕ)) → os ≢ names → g.use_of p ≡ Entries os → use_of p ≡ Entries os) → ((p : ℕ) (os : List (List ℕ)) → os ≢ names → use_of p ≡ Entries os → g.use_of p ≡ Entries os)
      → ((os : List (List ℕ)) → os ≢ names → frees os ≡ g.frees os) → ((os : List (List ℕ)) → os ≢ names → raises os ≡ g.raises os) → ((os : List (List ℕ)) → os ≢ names → raised os ≡ g.raised os)
      → (thread : ℕ) → Acts thread g new names → (os : List (List ℕ)) → IsDir g.tree os → Stays g new os ⊎ Acts thread g new os
  elsewhere more only same_frees same_raises same_raised thread acts os is = by (cases_names os names)
    where
      by : (os ≡ names) ⊎ (os ≢ names) → Stays g new os ⊎ Acts thread g new os
      by (inl same) = inr (subst (Acts thread g new) (sym same) acts)
      by (inr other) =
          inl (changed_stays g now new.memory use_of drawn frees raises raised os (side_elsewhere g s names dir i some few value os is other) (λ p e. more p os other e) (λ p e. only p os other e)
          (same_frees os other) (same_raises os other) (same_raised os other))

-- a deed that only stores there
pub side_done : (g : Shared) (s : IsSound g) (names : List (List ℕ)) (dir : IsDir g.tree names) (i : ℕ) (some : 1 ≤ i) (few : i ≤ 5) (value thread now : ℕ) (frees : List (List ℕ) → List ℕ) (raises : List (List ℕ) → ℕ) (raised : List (List ℕ) → Bool)
    → g.now ≤ now → ((os : List (List ℕ)) → os ≢ names → frees os ≡ g.frees os) → ((os : List (List ℕ)) → os ≢ names → raises os ≡ g.raises os) → ((os : List (List ℕ)) → os ≢ names → raised os ≡ g.raised os)
    → Acts thread g (changed g now (after_side g s names dir i some few value) g.use_of g.drawn frees raises raised) names → Done thread g (changed g now (after_side g s names dir i some few value) g.use_of g.drawn frees raises raised)
side_done g s names dir i some few value thread now frees raises raised later same_frees same_raises same_raised acts =
    plain_done g thread now (after_side g s names dir i some few value) frees raises raised s later (store_rises g s (side g s names dir i some few value) value) (side_sound g s names dir i some few value)
    (elsewhere g s names dir i some few value now g.use_of g.drawn frees raises raised (λ p os other e. e) (λ p os other e. e) same_frees same_raises same_raised thread acts)
    (side_pools g s names dir i some few value) (side_drawn g s names dir i some few value thread)
