-- What ties the parts of the tables together, and that changes keep it.
use Rattle.std.proofs.Common.{◌≡◌, ℕ, ◌<◌, ◌≤◌, ◌↔◌, List, true, false, get_or, refl, ap, sym, subst, ◌∙◌, ◌⊎◌, inl, inr, eqb, arith, All, Contains, Option, Some, None}
use Rattle.std.specs.Prelude.{IsSome, IfSome, is_some}
use Rattle.std.proofs.lemmas.Bool.{cases_lt, eq-eqb, eqb-true, ne_eqb, and_left, both_ways}
use Rattle.std.proofs.lemmas.List.Elements.{All-weaker, All-contains}
use Rattle.tr_types.specs.declared.kernel_call.Holder.{Holder}
use Rattle.kern_model.specs.Rights.{process_of, is_same, are_together}
use Rattle.page_rights.specs.declared.mapping.Mapping.{Mapping}
use Rattle.page_rights.specs.Tables.{View, IsRow, HasSoundMaps}
use Rattle.page_rights.specs.Lookup.{process_at, holds_in, key_of, is_writable_in, mapping_by, mapping_of, mapping_at, mapping_for, is_in, TablesAgree}
use Rattle.page_rights.proofs.RowLemmas.{key_found, mapping_of_none, mapping_by_thread}

-- two in one process are in some process
in_some : (a b : Option ℕ) → is_same a b ≡ true → (process : ℕ) × (is_same a (Some process) ≡ true) × (is_same b (Some process) ≡ true)
in_some (Some a) (Some b) e = (a, eq-eqb a a refl, eq-eqb b a (sym (eqb-true a b e)))
in_some (Some a) None e = absurd (both_ways false refl e)
in_some None b e = absurd (both_ways false refl e)

module _ (threads : List (ℕ × ℕ)) (processes : List (Option ℕ)) (holders : List Holder) (mappings : List (Option Mapping)) (tied : TablesAgree threads processes holders mappings) where
  own_keys : (h g : Holder) → Contains holders h → Contains holders g → are_together threads h.thread g.thread ≡ true → (h.id ≡ g.id) ↔ (h.key ≡ g.key)
  own_keys h g has_h has_g together = by (in_some (process_of threads h.thread) (process_of threads g.thread) together)
    where
      by : (process : ℕ) × (is_same (process_of threads h.thread) (Some process) ≡ true) × (is_same (process_of threads g.thread) (Some process) ≡ true) → (h.id ≡ g.id) ↔ (h.key ≡ g.key)
      by (process, a, b) =
          tied.own process h g has_h has_g
          (ap (λ (o : Option ℕ). is_same o (Some process)) (tied.starts h.thread) ∙ a)
          (ap (λ (o : Option ℕ). is_same o (Some process)) (tied.starts g.thread) ∙ b)

  -- a coffer past 256 has no row
  past_rows : (process id : ℕ) → 256 < id → All (λ h. holds_in processes process id h ≡ false) holders
  past_rows process id past =
      All-weaker IsRow (λ h. holds_in processes process id h ≡ false)
      (λ h row. and_left (eqb h.id id) (is_in processes h.thread process) (ne_eqb h.id id (λ e. let most : h.id ≤ 256 = row.greatest_id in omega arith))) holders tied.rows

  -- what is kept, also of a coffer past 256
  found_is : (process id : ℕ) (m : Option Mapping) → process < 64 → (id ≤ 256 → m ≡ mapping_at mappings process id) → (256 < id → m ≡ None) → m ≡ mapping_of processes holders process id
  found_is process id m small inside past = by (cases_lt 256 id)
    where
      by : (256 < id) ⊎ (id ≤ 256) → m ≡ mapping_of processes holders process id
      by (inl lt) = past lt ∙ sym (mapping_of_none processes process id holders (past_rows process id lt))
      by (inr le) = inside le ∙ tied.kept process id small le

  key_small : (process id : ℕ) (found : Option ℕ) → key_of processes holders process id ≡ found → IfSome (mapping_by found (is_writable_in processes holders process id)) (λ m. m.key ≤ 15)
  key_small process id None is = tt
  key_small process id (Some key) is = by (key_found processes process id holders key is)
    where
      by : (h : Holder) × Contains holders h × (holds_in processes process id h ≡ true) × (h.key ≡ key) → key ≤ 15
      by (h, has, holds, same) =
          let row : IsRow h = All-contains IsRow holders h tied.rows has in
          let most : h.key ≤ 15 = row.greatest_key in
          omega arith

  -- the same, of the view v
  module _ (owners : List ℕ) (v : View) (view : (record { threads = threads; holders = holders; owners = owners }) ≡ v) where
    pub is_sound : HasSoundMaps v
    is_sound = subst HasSoundMaps view (record { rows = tied.rows; keys = record { own = own_keys }; one_row = tied.one_row })

    pub is_started : (thread : ℕ) → IsSome (process_of v.threads thread) → IsSome (process_at processes thread)
    is_started thread started =
        ap (λ (o : Option ℕ). is_some o) (tied.starts thread)
        ∙ ap (λ (w : View). is_some (process_of w.threads thread)) view
        ∙ started

    pub mapping_is : (thread process id page : ℕ) (m : Option Mapping) → process_at processes thread ≡ Some process → id ≡ get_or owners page 0 → (id ≤ 256 → m ≡ mapping_at mappings process id) → (256 < id → m ≡ None)
        → (m ≡ mapping_for v.threads v.holders thread (get_or v.owners page 0)) × IfSome m (λ m. m.key ≤ 15)
    mapping_is thread process id page m is owner inside past =
        let kept : m ≡ mapping_of processes holders process id = found_is process id m (tied.small thread process is) inside past in (
          kept
              ∙ mapping_by_thread threads processes tied.starts thread process is holders id
              ∙ ap (λ (o : ℕ). mapping_for threads holders thread o) owner
              ∙ ap (λ (w : View). mapping_for w.threads w.holders thread (get_or w.owners page 0)) view,
          subst (λ (n : Option Mapping). IfSome n (λ m. m.key ≤ 15)) (sym kept) (key_small process id (key_of processes holders process id) refl),
        )
