-- Each change leaves the parts of the tables tied together.
use Rattle.std.proofs.Common.{◌≡◌, ◌≢◌, ℕ, ◌+◌, ◌/◌, ◌%◌, ◌<◌, ◌≤◌, ◌↔◌, List, [], ◌∷◌, ◌++◌, Bool, true, false, not, length, get_or, set, refl, ap, sym, subst, ◌∙◌, ◌⊎◌, inl, inr, cond, eqb, arith, All, Contains, Option, Some, None, get_or-set_same, get_or-set_other}
use Rattle.std.specs.Prelude.{filter}
use Rattle.std.proofs.lemmas.Bool.{cases_eq, eq-eqb, eqb-true, eqb-false, ne_eqb, and_parts, and_from, and_left, and_right, not-true, not-false, false_from_ne_true, both_ways}
use Rattle.std.proofs.lemmas.List.{length-set}
use Rattle.std.proofs.lemmas.List.Elements.{All-nil, All-filter, filter_passes, All-contains, All-contains_itself, All-push, All-weaker, Contains-push_cases}
use Rattle.tr_types.specs.declared.kernel_call.Holder.{Holder}
use Rattle.kern_model.specs.KernelCalls.{without_coffer}
use Rattle.kern_model.specs.Rights.{process_of, is_same, is_row_of, without_row, with_row, first_of, or_key}
use Rattle.page_rights.specs.declared.mapping.Mapping.{Mapping}
use Rattle.page_rights.specs.Tables.{IsRow}
use Rattle.page_rights.specs.Lookup.{process_at, is_in, holds_in, uses_key_in, is_free_in, free_in, key_of, key_for_in, without_process_in, mapping_of, mapping_at, place_of, TablesAgree}
use Rattle.page_rights.proofs.OneRow.{one_filtered, one_with_row}
use Rattle.page_rights.proofs.RowLemmas.{mapping_of_filter, mapping_of_push, mapping_of_none, mapping_of_threads, key_found, no_key, free_key, first_found}

-- Nothing yet.

pub tied_new : (processes : List (Option ℕ)) (mappings : List (Option Mapping)) → length processes ≡ 256 → ((k : ℕ) → get_or processes k None ≡ None) → length mappings ≡ 16448 → ((k : ℕ) → get_or mappings k None ≡ None) → TablesAgree [] processes [] mappings
tied_new processes mappings numbers nobody places nothing = record {
  numbers = numbers;
  starts = nobody;
  small = λ thread process is. nowhere (sym (nobody thread) ∙ is);
  rows = All-nil IsRow;
  row_threads = All-nil (λ h. process_at processes h.thread ≢ None);
  own = λ process h g has_h has_g in_h in_g. no_row has_h;
  one_row = λ thread id. omega arith;
  places = places;
  kept = λ process id small bound. nothing (place_of process id);
}
  where
    nowhere : {p : ℕ} {X : Type 0} → None ≡ Some p → X
    nowhere e = absurd (cc)

    no_row : {h : Holder} {X : Type 0} → Contains [] h → X
    no_row (k, lt, e) = absurd (omega arith)

-- Rows.

row_elsewhere : (processes : List (Option ℕ)) (thread here coffer process id : ℕ) → process_at processes thread ≡ Some here → ((process ≡ here) → (id ≡ coffer) → ⊥) → (h : Holder) → h.thread ≡ thread → h.id ≡ coffer
    → holds_in processes process id h ≡ false
row_elsewhere processes thread here coffer process id is elsewhere h of_thread of_coffer =
    false_from_ne_true (holds_in processes process id h) (λ holds.
    let parts = and_parts (eqb h.id id) (is_in processes h.thread process) holds in
    let same_id : h.id ≡ id = eqb-true h.id id parts.0 in
    let inside : is_same (Some here) (Some process) ≡ true = ap (λ (o : Option ℕ). is_same o (Some process)) (sym (ap (λ (t : ℕ). process_at processes t) of_thread ∙ is)) ∙ parts.1 in
    let same_process : here ≡ process = eqb-true here process inside in
    elsewhere (sym same_process) (sym same_id ∙ of_coffer))

-- the rows that `without_row` drops
dropped_row : (thread coffer : ℕ) (h : Holder) → not (is_row_of thread coffer h) ≡ false → (h.thread ≡ thread) × (h.id ≡ coffer)
dropped_row thread coffer h goes =
    let parts = and_parts (eqb h.thread thread) (eqb h.id coffer) (not-false (is_row_of thread coffer h) goes) in
    (eqb-true h.thread thread parts.0, eqb-true h.id coffer parts.1)

from_filter : (keep : Holder → Bool) (holders : List Holder) (h : Holder) → Contains (filter keep holders) h → Contains holders h
from_filter keep holders h has = All-contains (Contains holders) (filter keep holders) h (All-filter keep (Contains holders) holders (All-contains_itself holders)) has

one_process : (o : Option ℕ) (p q : ℕ) → is_same o (Some p) ≡ true → is_same o (Some q) ≡ true → p ≡ q
one_process None p q a b = absurd (both_ways false refl a)
one_process (Some x) p q a b = sym (eqb-true x p a) ∙ eqb-true x q b

-- what is kept of one process and coffer is looked up again
kept_put : (processes : List (Option ℕ)) (old new : List Holder) (mappings : List (Option Mapping)) (here coffer : ℕ) → here < 64 → coffer ≤ 256 → length mappings ≡ 16448
    → ((process id : ℕ) → process < 64 → id ≤ 256 → mapping_at mappings process id ≡ mapping_of processes old process id)
    → ((process id : ℕ) → ((process ≡ here) → (id ≡ coffer) → ⊥) → mapping_of processes new process id ≡ mapping_of processes old process id)
    → (process id : ℕ) → process < 64 → id ≤ 256 → mapping_at (set mappings (place_of here coffer) (mapping_of processes new here coffer)) process id ≡ mapping_of processes new process id
kept_put processes old new mappings here coffer small bound places kept others process id small_process bound_id = by (cases_eq (place_of process id) (place_of here coffer))
  where
    by : (place_of process id ≡ place_of here coffer) ⊎ (place_of process id ≡ place_of here coffer → ⊥)
        → mapping_at (set mappings (place_of here coffer) (mapping_of processes new here coffer)) process id ≡ mapping_of processes new process id
    by (inl e) =
        let same_process : here ≡ process = omega arith in
        let same_id : coffer ≡ id = omega arith in
        let inside : place_of here coffer < length mappings = omega arith in
        ap (λ (k : ℕ). get_or (set mappings (place_of here coffer) (mapping_of processes new here coffer)) k None) e
        ∙ get_or-set_same mappings (place_of here coffer) (mapping_of processes new here coffer) None inside
        ∙ (λ i. mapping_of processes new (same_process i) (same_id i))
    by (inr ne) =
        let elsewhere : (process ≡ here) → (id ≡ coffer) → ⊥ = λ p c. ne (λ i. place_of (p i) (c i)) in
        get_or-set_other mappings (place_of here coffer) (place_of process id) (mapping_of processes new here coffer) None ne
        ∙ kept process id small_process bound_id
        ∙ sym (others process id elsewhere)

module _ (threads : List (ℕ × ℕ)) (processes : List (Option ℕ)) (holders : List Holder) (mappings : List (Option Mapping)) (tied : TablesAgree threads processes holders mappings) where
  -- No rows.

  pub tied_cleared : (now : List (Option Mapping)) → length now ≡ length mappings → ((k : ℕ) → k < length mappings → get_or now k None ≡ None) → TablesAgree threads processes [] now
  tied_cleared now len gone = record {
    numbers = tied.numbers;
    starts = tied.starts;
    small = tied.small;
    rows = All-nil IsRow;
    row_threads = All-nil (λ h. process_at processes h.thread ≢ None);
    own = λ process h g has_h has_g in_h in_g. no_row has_h;
    one_row = λ thread id. omega arith;
    places = len ∙ tied.places;
    kept = λ process id small bound. gone (place_of process id) (let places = tied.places in omega (arith, small, bound, places));
  }
    where
      no_row : {h : Holder} {X : Type 0} → Contains [] h → X
      no_row (k, lt, e) = absurd (omega arith)

  -- Fewer rows.

  tied_filtered : (keep : Holder → Bool) (now : List (Option Mapping)) → length now ≡ 16448 → ((process id : ℕ) → process < 64 → id ≤ 256 → mapping_at now process id ≡ mapping_of processes (filter keep holders) process id)
      → TablesAgree threads processes (filter keep holders) now
  tied_filtered keep now places kept = record {
    numbers = tied.numbers;
    starts = tied.starts;
    small = tied.small;
    rows = All-filter keep IsRow holders tied.rows;
    row_threads = All-filter keep (λ h. process_at processes h.thread ≢ None) holders tied.row_threads;
    own = λ process h g has_h has_g. tied.own process h g (from_filter keep holders h has_h) (from_filter keep holders g has_g);
    one_row = λ thread id. one_filtered thread id keep holders (tied.one_row thread id);
    places = places;
    kept = kept;
  }

  -- Start.

  module _ (thread process : ℕ) (number : thread < 256) (small : process < 64) (fresh : process_of threads thread ≡ None) where
    abbrev after : List (Option ℕ)
    after = set processes thread (Some process)

    pushed_other : (old : List (ℕ × ℕ)) (t : ℕ) → t ≢ thread → process_of (old ++ (thread, process) ∷ []) t ≡ process_of old t
    pushed_other [] t ne = ap (λ (b : Bool). cond b (Some process) None) (ne_eqb thread t (λ e. ne (sym e)))
    pushed_other ((u, p) ∷ old) t ne = ap (λ (o : Option ℕ). cond (eqb u t) (Some p) o) (pushed_other old t ne)

    pushed_same : (old : List (ℕ × ℕ)) → process_of old thread ≡ None → process_of (old ++ (thread, process) ∷ []) thread ≡ Some process
    pushed_same [] absent = ap (λ (b : Bool). cond b (Some process) None) (eq-eqb thread thread refl)
    pushed_same ((u, p) ∷ old) absent = by (eqb u thread) refl (pushed_same old)
      where
        by : (b : Bool) → eqb u thread ≡ b → (process_of old thread ≡ None → process_of (old ++ (thread, process) ∷ []) thread ≡ Some process)
            → cond (eqb u thread) (Some p) (process_of (old ++ (thread, process) ∷ []) thread) ≡ Some process
        by true e rest =
            let here : Some p ≡ None = sym (ap (λ (b : Bool). cond b (Some p) (process_of old thread)) e) ∙ absent in
            absurd (cc)
        by false e rest =
            ap (λ (b : Bool). cond b (Some p) (process_of (old ++ (thread, process) ∷ []) thread)) e
            ∙ rest (sym (ap (λ (b : Bool). cond b (Some p) (process_of old thread)) e) ∙ absent)

    after_here : process_at after thread ≡ Some process
    after_here =
        let numbers : length processes ≡ 256 = tied.numbers in
        let inside : thread < length processes = omega arith in
        get_or-set_same processes thread (Some process) None inside

    after_there : (t : ℕ) → t ≢ thread → process_at after t ≡ process_at processes t
    after_there t ne = get_or-set_other processes thread t (Some process) None ne

    starts_at : (t : ℕ) → (t ≡ thread) ⊎ (t ≡ thread → ⊥) → process_at after t ≡ process_of (threads ++ (thread, process) ∷ []) t
    starts_at t (inl e) = ap (λ (k : ℕ). process_at after k) e ∙ after_here ∙ sym (ap (λ (k : ℕ). process_of (threads ++ (thread, process) ∷ []) k) e ∙ pushed_same threads fresh)
    starts_at t (inr ne) = after_there t ne ∙ tied.starts t ∙ sym (pushed_other threads t ne)

    small_at : (t p : ℕ) → (t ≡ thread) ⊎ (t ≡ thread → ⊥) → process_at after t ≡ Some p → p < 64
    small_at t p (inl e) is =
        let both : Some process ≡ Some p = sym (ap (λ (k : ℕ). process_at after k) e ∙ after_here) ∙ is in
        let same : process ≡ p = cc in
        omega arith
    small_at t p (inr ne) is = tied.small t p (sym (after_there t ne) ∙ is)

    -- no row is of the new thread
    row_same : (h : Holder) → process_at processes h.thread ≢ None → process_at after h.thread ≡ process_at processes h.thread
    row_same h started = after_there h.thread (λ e. started (ap (λ (t : ℕ). process_at processes t) e ∙ tied.starts thread ∙ fresh))

    rows_same : All (λ h. process_at after h.thread ≡ process_at processes h.thread) holders
    rows_same = All-weaker (λ h. process_at processes h.thread ≢ None) (λ h. process_at after h.thread ≡ process_at processes h.thread) row_same holders tied.row_threads

    in_same : (h : Holder) (p : ℕ) → Contains holders h → is_in after h.thread p ≡ is_in processes h.thread p
    in_same h p has = ap (λ (o : Option ℕ). is_same o (Some p)) (All-contains (λ h. process_at after h.thread ≡ process_at processes h.thread) holders h rows_same has)

    pub tied_started : TablesAgree (threads ++ (thread, process) ∷ []) (set processes thread (Some process)) holders mappings
    tied_started = record {
      numbers = length-set processes thread (Some process) ∙ tied.numbers;
      starts = λ t. starts_at t (cases_eq t thread);
      small = λ t p is. small_at t p (cases_eq t thread) is;
      rows = tied.rows;
      row_threads = All-weaker (λ h. process_at processes h.thread ≢ None) (λ h. process_at after h.thread ≢ None) (λ h started none. started (sym (row_same h started) ∙ none)) holders tied.row_threads;
      own = λ p h g has_h has_g in_h in_g. tied.own p h g has_h has_g (sym (in_same h p has_h) ∙ in_h) (sym (in_same g p has_g) ∙ in_g);
      one_row = tied.one_row;
      places = tied.places;
      kept = λ p id lt le. tied.kept p id lt le ∙ sym (mapping_of_threads after processes p id holders rows_same);
    }

  -- Unmap.

  pub tied_unmapped : (thread coffer here : ℕ) → process_at processes thread ≡ Some here → coffer ≤ 256
      → TablesAgree threads processes (without_row thread coffer holders) (set mappings (place_of here coffer) (mapping_of processes (without_row thread coffer holders) here coffer))
  tied_unmapped thread coffer here is bound =
      tied_filtered (λ h. not (is_row_of thread coffer h)) (set mappings (place_of here coffer) (mapping_of processes (without_row thread coffer holders) here coffer))
      (length-set mappings (place_of here coffer) (mapping_of processes (without_row thread coffer holders) here coffer) ∙ tied.places)
      (kept_put processes holders (without_row thread coffer holders) mappings here coffer (tied.small thread here is) bound tied.places tied.kept others)
    where
      others : (process id : ℕ) → ((process ≡ here) → (id ≡ coffer) → ⊥) → mapping_of processes (without_row thread coffer holders) process id ≡ mapping_of processes holders process id
      others process id elsewhere =
          mapping_of_filter processes process id (λ h. not (is_row_of thread coffer h)) holders (λ h goes. row_elsewhere processes thread here coffer process id is elsewhere h (dropped_row thread coffer h goes).0 (dropped_row thread coffer h goes).1)

  -- Map.

  module _ (row : Holder) (here : ℕ) (is : process_at processes row.thread ≡ Some here) (least_id : 1 ≤ row.id) (greatest_id : row.id ≤ 256) (key : key_for_in processes holders here row.id ≡ Some row.key) where
    abbrev now : List Holder
    now = with_row row holders

    -- the key: one that stands in a row, or a free one
    range_by : (found : Option ℕ) → key_of processes holders here row.id ≡ found → or_key found (first_of (free_in processes holders here)) ≡ Some row.key → (1 ≤ row.key) × (row.key ≤ 15)
    range_by (Some k) found chosen = old (key_found processes here row.id holders k found)
      where
        old : (h : Holder) × Contains holders h × (holds_in processes here row.id h ≡ true) × (h.key ≡ k) → (1 ≤ row.key) × (row.key ≤ 15)
        old (h, has, holds, same) =
            let is_row : IsRow h = All-contains IsRow holders h tied.rows has in
            let least : 1 ≤ h.key = is_row.least_key in
            let most : h.key ≤ 15 = is_row.greatest_key in
            let chosen_is : k ≡ row.key = cc in
            (omega arith, omega arith)
    range_by None found chosen =
        let free = first_found (is_free_in processes holders here) 1 15 row.key chosen in
        let least : 1 ≤ row.key = free.1 in
        let below : row.key < 1 + 15 = free.2 in
        (least, omega arith)

    row_fits_by : (found : Option ℕ) → key_of processes holders here row.id ≡ found → or_key found (first_of (free_in processes holders here)) ≡ Some row.key
        → (h : Holder) → Contains holders h → is_in processes h.thread here ≡ true → (h.id ≡ row.id) ↔ (h.key ≡ row.key)
    row_fits_by (Some k) found chosen h has inside = old (key_found processes here row.id holders k found)
      where
        old : (g : Holder) × Contains holders g × (holds_in processes here row.id g ≡ true) × (g.key ≡ k) → (h.id ≡ row.id) ↔ (h.key ≡ row.key)
        old (g, has_g, holds, same) =
            let chosen_is : k ≡ row.key = cc in
            let parts = and_parts (eqb g.id row.id) (is_in processes g.thread here) holds in
            let same_id : g.id ≡ row.id = eqb-true g.id row.id parts.0 in
            let fit = tied.own here h g has has_g inside parts.1 in
            (λ e. fit.0 (e ∙ sym same_id) ∙ same ∙ chosen_is, λ e. fit.1 (e ∙ sym (same ∙ chosen_is)) ∙ same_id)
    row_fits_by None found chosen h has inside =
        let free = first_found (is_free_in processes holders here) 1 15 row.key chosen in
        let unused = All-contains (λ h. uses_key_in processes here row.key h ≡ false) holders h (free_key processes here row.key holders free.0) has in
        let unmapped = All-contains (λ h. holds_in processes here row.id h ≡ false) holders h (no_key processes here row.id holders found) has in (
          λ e. absurd (both_ways (holds_in processes here row.id h) unmapped (and_from (eqb h.id row.id) (is_in processes h.thread here) (eq-eqb h.id row.id e) inside)),
          λ e. absurd (both_ways (uses_key_in processes here row.key h) unused (and_from (eqb h.key row.key) (is_in processes h.thread here) (eq-eqb h.key row.key e) inside)),
        )

    row_fits : (h : Holder) → Contains holders h → is_in processes h.thread here ≡ true → (h.id ≡ row.id) ↔ (h.key ≡ row.key)
    row_fits = row_fits_by (key_of processes holders here row.id) refl key

    -- the row's process is this one
    process_is : (process : ℕ) → is_in processes row.thread process ≡ true → here ≡ process
    process_is process inside = eqb-true here process (sym (ap (λ (o : Option ℕ). is_same o (Some process)) is) ∙ inside)

    fits : (process : ℕ) (h g : Holder) → Contains (without_row row.thread row.id holders) h ⊎ (row ≡ h) → Contains (without_row row.thread row.id holders) g ⊎ (row ≡ g)
        → is_in processes h.thread process ≡ true → is_in processes g.thread process ≡ true → (h.id ≡ g.id) ↔ (h.key ≡ g.key)
    fits process h g (inl has_h) (inl has_g) in_h in_g =
        tied.own process h g (from_filter (λ h. not (is_row_of row.thread row.id h)) holders h has_h) (from_filter (λ h. not (is_row_of row.thread row.id h)) holders g has_g) in_h in_g
    fits process h g (inl has_h) (inr e) in_h in_g =
        let same = process_is process (subst (λ (x : Holder). is_in processes x.thread process ≡ true) (sym e) in_g) in
        let fit = row_fits h (from_filter (λ h. not (is_row_of row.thread row.id h)) holders h has_h) (subst (λ (p : ℕ). is_in processes h.thread p ≡ true) (sym same) in_h) in
        subst (λ (x : Holder). (h.id ≡ x.id) ↔ (h.key ≡ x.key)) e fit
    fits process h g (inr e) (inl has_g) in_h in_g =
        let same = process_is process (subst (λ (x : Holder). is_in processes x.thread process ≡ true) (sym e) in_h) in
        let fit = row_fits g (from_filter (λ h. not (is_row_of row.thread row.id h)) holders g has_g) (subst (λ (p : ℕ). is_in processes g.thread p ≡ true) (sym same) in_g) in
        subst (λ (x : Holder). (x.id ≡ g.id) ↔ (x.key ≡ g.key)) e (λ i. sym (fit.0 (sym i)), λ k. sym (fit.1 (sym k)))
    fits process h g (inr a) (inr b) in_h in_g =
        let same : h ≡ g = sym a ∙ b in
        (λ i. ap (λ (x : Holder). x.key) same, λ k. ap (λ (x : Holder). x.id) same)

    others_now : (process id : ℕ) → ((process ≡ here) → (id ≡ row.id) → ⊥) → mapping_of processes now process id ≡ mapping_of processes holders process id
    others_now process id elsewhere =
        mapping_of_push processes process id (without_row row.thread row.id holders) row (row_elsewhere processes row.thread here row.id process id is elsewhere row refl refl)
        ∙ mapping_of_filter processes process id (λ h. not (is_row_of row.thread row.id h)) holders
        (λ h goes. row_elsewhere processes row.thread here row.id process id is elsewhere h (dropped_row row.thread row.id h goes).0 (dropped_row row.thread row.id h goes).1)

    pub tied_mapped : TablesAgree threads processes (with_row row holders) (set mappings (place_of here row.id) (mapping_of processes (with_row row holders) here row.id))
    tied_mapped =
        let range = range_by (key_of processes holders here row.id) refl key in
        let is_row : IsRow row = record { least_id = least_id; greatest_id = greatest_id; least_key = range.0; greatest_key = range.1 } in
        record {
          numbers = tied.numbers;
          starts = tied.starts;
          small = tied.small;
          rows = All-push IsRow (without_row row.thread row.id holders) row (All-filter (λ h. not (is_row_of row.thread row.id h)) IsRow holders tied.rows) is_row;
          row_threads = All-push (λ h. process_at processes h.thread ≢ None) (without_row row.thread row.id holders) row
              (All-filter (λ h. not (is_row_of row.thread row.id h)) (λ h. process_at processes h.thread ≢ None) holders tied.row_threads) (λ none. not_both (sym is ∙ none));
          own = λ process h g has_h has_g in_h in_g.
              fits process h g (Contains-push_cases (without_row row.thread row.id holders) row h has_h) (Contains-push_cases (without_row row.thread row.id holders) row g has_g) in_h in_g;
          one_row = λ thread id. one_with_row thread id row holders (tied.one_row thread id);
          places = length-set mappings (place_of here row.id) (mapping_of processes now here row.id) ∙ tied.places;
          kept = kept_put processes holders now mappings here row.id (tied.small row.thread here is) greatest_id tied.places tied.kept others_now;
        }
      where
        not_both : Some here ≡ None → ⊥
        not_both e = cc

  -- Drops.

  module _ (after : List (Option Mapping)) (long : length after ≡ length mappings) where
    pub tied_without_coffer : (coffer : ℕ) → ((k : ℕ) → k % 257 ≡ coffer → get_or after k None ≡ None) → ((k : ℕ) → k % 257 ≢ coffer → get_or after k None ≡ get_or mappings k None)
        → TablesAgree threads processes (without_coffer coffer holders) after
    tied_without_coffer coffer gone stays =
        tied_filtered (λ h. not (eqb h.id coffer)) after
        (long ∙ tied.places)
        (λ process id small bound. at process id small bound (cases_eq id coffer))
      where
        none_left : (process id : ℕ) → id ≡ coffer → (h : Holder) → not (eqb h.id coffer) ≡ true → holds_in processes process id h ≡ false
        none_left process id same h stayed =
            and_left (eqb h.id id) (is_in processes h.thread process) (ne_eqb h.id id (λ e. eqb-false h.id coffer (not-true (eqb h.id coffer) stayed) (e ∙ same)))

        other : (process id : ℕ) → (id ≡ coffer → ⊥) → (h : Holder) → not (eqb h.id coffer) ≡ false → holds_in processes process id h ≡ false
        other process id ne h goes =
            and_left (eqb h.id id) (is_in processes h.thread process) (ne_eqb h.id id (λ e. ne (sym e ∙ eqb-true h.id coffer (not-false (eqb h.id coffer) goes))))

        at : (process id : ℕ) → process < 64 → id ≤ 256 → (id ≡ coffer) ⊎ (id ≡ coffer → ⊥) → mapping_at after process id ≡ mapping_of processes (without_coffer coffer holders) process id
        at process id small bound (inl e) =
            let place : place_of process id % 257 ≡ coffer = omega arith in
            gone (place_of process id) place
            ∙ sym (mapping_of_none processes process id (without_coffer coffer holders)
            (All-weaker (λ h. not (eqb h.id coffer) ≡ true) (λ h. holds_in processes process id h ≡ false) (none_left process id e) (without_coffer coffer holders) (filter_passes (λ h. not (eqb h.id coffer)) holders)))
        at process id small bound (inr ne) =
            let rest : place_of process id % 257 ≡ id = omega arith in
            stays (place_of process id) (λ e. ne (sym rest ∙ e))
            ∙ tied.kept process id small bound
            ∙ sym (mapping_of_filter processes process id (λ h. not (eqb h.id coffer)) holders (other process id ne))

    pub tied_without_process : (gone_process : ℕ) → ((k : ℕ) → k / 257 ≡ gone_process → get_or after k None ≡ None) → ((k : ℕ) → k / 257 ≢ gone_process → get_or after k None ≡ get_or mappings k None)
        → TablesAgree threads processes (without_process_in processes gone_process holders) after
    tied_without_process gone_process gone stays =
        tied_filtered (λ h. not (is_in processes h.thread gone_process)) after
        (long ∙ tied.places)
        (λ process id small bound. at process id small bound (cases_eq process gone_process))
      where
        none_left : (process id : ℕ) → process ≡ gone_process → (h : Holder) → not (is_in processes h.thread gone_process) ≡ true → holds_in processes process id h ≡ false
        none_left process id same h stayed =
            and_right (eqb h.id id) (is_in processes h.thread process) (ap (λ (p : ℕ). is_in processes h.thread p) same ∙ not-true (is_in processes h.thread gone_process) stayed)

        other : (process id : ℕ) → (process ≡ gone_process → ⊥) → (h : Holder) → not (is_in processes h.thread gone_process) ≡ false → holds_in processes process id h ≡ false
        other process id ne h goes =
            and_right (eqb h.id id) (is_in processes h.thread process)
            (false_from_ne_true (is_in processes h.thread process) (λ e. ne (one_process (process_at processes h.thread) process gone_process e (not-false (is_in processes h.thread gone_process) goes))))

        at : (process id : ℕ) → process < 64 → id ≤ 256 → (process ≡ gone_process) ⊎ (process ≡ gone_process → ⊥) → mapping_at after process id ≡ mapping_of processes (without_process_in processes gone_process holders) process id
        at process id small bound (inl e) =
            let place : place_of process id / 257 ≡ gone_process = omega arith in
            gone (place_of process id) place
            ∙ sym (mapping_of_none processes process id (without_process_in processes gone_process holders)
            (All-weaker (λ h. not (is_in processes h.thread gone_process) ≡ true) (λ h. holds_in processes process id h ≡ false) (none_left process id e) (without_process_in processes gone_process holders)
            (filter_passes (λ h. not (is_in processes h.thread gone_process)) holders)))
        at process id small bound (inr ne) =
            let whole : place_of process id / 257 ≡ process = omega arith in
            stays (place_of process id) (λ e. ne (sym whole ∙ e))
            ∙ tied.kept process id small bound
            ∙ sym (mapping_of_filter processes process id (λ h. not (is_in processes h.thread gone_process)) holders (other process id ne))
