-- What ties the parts of a kernel together, as they change.
use Rattle.std.proofs.Common.{◌≡◌, ◌≢◌, ◌⊎◌, inl, inr, ℕ, ◌<◌, ◌≤◌, List, [], ◌∷◌, ◌++◌, ◌+◌, ◌&&◌, Bool, true, false, cond, length, map, set, slice_index, All, Contains, Option, Some, None, refl, ap, sym, subst, ◌∙◌, arith, eqb}
use Rattle.std.proofs.lemmas.Bool.{cases_eq, cases_lt, eq-eqb, ne_eqb}
use Rattle.std.proofs.lemmas.List.{map_push, get_or_past, length-set, get_or-set_same, get_or-set_other}
use Rattle.std.proofs.lemmas.List.Elements.{All-head, All-tail, Contains-append_left}
use Rattle.tr_types.specs.declared.kernel_call.Holder.{Holder}
use Rattle.tr_types.specs.declared.permission.Cred.{Cred}
use Rattle.kern_model.specs.Rights.{process_of, are_together, holds_beside, key_in, is_writable, load_fault_by, store_fault_by, load_fault, store_fault}
use Rattle.std.proofs.lemmas.List.FromFn.{get_or-map-range_with_len, length-map-range_with_len}
use Rattle.pm_words.specs.Word.{Word}
use Rattle.tr_types.specs.declared.action.FaultKind.TheVariants.{NotMapped}
use Rattle.kern_model.specs.KernelView.{pages_of}
use Rattle.kern_model.specs.Kernel.{kernel_owner}
use Rattle.kern_pages.specs.Owners.{owners_of}
use Rattle.page_rights.specs.Tables.{IsRow}
use Rattle.kern_calls.specs.Calls.{KernelView, IsMounted}
use Rattle.kern_calls.specs.Standing.{coffer_or_none, StandInTables}

-- nobody holds what has a number that is no coffer's
pub held_by_nobody : (threads : List (ℕ × ℕ)) (holders : List Holder) (thread coffer : ℕ) → All IsRow holders → (coffer ≡ 0) ⊎ (256 < coffer) → key_in threads holders thread coffer ≡ None
held_by_nobody threads [] thread coffer rows past = refl
held_by_nobody threads (h ∷ holders) thread coffer rows past =
    ap (λ (b : Bool). cond b (Some h.key) (key_in threads holders thread coffer)) (not_beside past)
    ∙ held_by_nobody threads holders thread coffer (All-tail IsRow h holders rows) past
  where
    row : IsRow h
    row = All-head IsRow h holders rows

    differ : (coffer ≡ 0) ⊎ (256 < coffer) → h.id ≢ coffer
    differ (inl e) is = let least = row.least_id in absurd (omega arith)
    differ (inr high) is = let most = row.greatest_id in absurd (omega arith)

    not_beside : (coffer ≡ 0) ⊎ (256 < coffer) → holds_beside threads thread coffer h ≡ false
    not_beside other = ap (λ (b : Bool). b && are_together threads h.thread thread) (ne_eqb h.id coffer (differ other))

module _ (threads : List (ℕ × ℕ)) (holders : List Holder) (thread pkru : ℕ) (rows : All IsRow holders) where
  load_under : (owner : ℕ) → (owner ≡ 65535) ⊎ (owner ≡ 65535 → ⊥) → load_fault threads holders thread pkru (coffer_or_none owner) ≡ load_fault threads holders thread pkru owner
  load_under owner (inl e) =
      ap (λ (b : Bool). load_fault threads holders thread pkru (cond b 0 owner)) (eq-eqb owner 65535 e)
      ∙ ap (λ (k : Option ℕ). load_fault_by k pkru) (held_by_nobody threads holders thread 0 rows (inl refl) ∙ sym (held_by_nobody threads holders thread owner rows (inr (omega arith))))
  load_under owner (inr ne) = ap (λ (b : Bool). load_fault threads holders thread pkru (cond b 0 owner)) (ne_eqb owner 65535 ne)

  store_under : (owner : ℕ) → (owner ≡ 65535) ⊎ (owner ≡ 65535 → ⊥) → store_fault threads holders thread pkru (coffer_or_none owner) ≡ store_fault threads holders thread pkru owner
  store_under owner (inl e) =
      ap (λ (b : Bool). store_fault threads holders thread pkru (cond b 0 owner)) (eq-eqb owner 65535 e)
      ∙ ap (λ (k : Option ℕ). store_fault_by k (is_writable threads holders thread 0) pkru) (held_by_nobody threads holders thread 0 rows (inl refl))
      ∙ sym (ap (λ (k : Option ℕ). store_fault_by k (is_writable threads holders thread owner) pkru) (held_by_nobody threads holders thread owner rows (inr (omega arith))))
  store_under owner (inr ne) = ap (λ (b : Bool). store_fault threads holders thread pkru (cond b 0 owner)) (ne_eqb owner 65535 ne)

  -- a page stands in the tables under its coffer, so it is loaded and stored as that coffer's
  pub same_load : (under owner : ℕ) → under ≡ coffer_or_none owner → load_fault threads holders thread pkru under ≡ load_fault threads holders thread pkru owner
  same_load under owner is = ap (load_fault threads holders thread pkru) is ∙ load_under owner (cases_eq owner 65535)

  pub same_store : (under owner : ℕ) → under ≡ coffer_or_none owner → store_fault threads holders thread pkru under ≡ store_fault threads holders thread pkru owner
  same_store under owner is = ap (store_fault threads holders thread pkru) is ∙ store_under owner (cases_eq owner 65535)

  -- a page that is nobody's is loaded and stored by none
  pub nobodys_load : (owner : ℕ) → owner ≡ 0 → load_fault threads holders thread pkru owner ≡ Some NotMapped
  nobodys_load owner none = ap (λ (k : Option ℕ). load_fault_by k pkru) (held_by_nobody threads holders thread owner rows (inl none))

  pub nobodys_store : (owner : ℕ) → owner ≡ 0 → store_fault threads holders thread pkru owner ≡ Some NotMapped
  nobodys_store owner none = ap (λ (k : Option ℕ). store_fault_by k (is_writable threads holders thread owner) pkru) (held_by_nobody threads holders thread owner rows (inl none))

-- the kernel knows whose a page is, and that one past the image's end is nobody's
pub owner_told : (kernel : KernelView) (words : List Word) (page : ℕ) → IsMounted kernel words → page < pages_of words → slice_index kernel.owners page ≡ kernel_owner words page
owner_told kernel words page mounted lt =
    ap (λ (owners : List ℕ). slice_index owners page) mounted.told
    ∙ get_or-map-range_with_len (kernel_owner words) 0 (pages_of words) page page 0 lt (omega arith)

pub past_told : (kernel : KernelView) (words : List Word) (page : ℕ) → IsMounted kernel words → pages_of words ≤ page → slice_index kernel.owners page ≡ 0
past_told kernel words page mounted past =
    let len = length-map-range_with_len (kernel_owner words) 0 (pages_of words) in
    ap (λ (owners : List ℕ). slice_index owners page) mounted.told
    ∙ get_or_past (owners_of words) page 0 (omega (arith, len, past))

-- a thread of those that were started, and one more
process_among : (threads : List (ℕ × ℕ)) (thread process t p : ℕ) → process_of (threads ++ (thread, process) ∷ []) t ≡ Some p → (process_of threads t ≡ Some p) ⊎ (p ≡ process)
process_among [] thread process t p is = by (eqb thread t) is
  where
    by : (b : Bool) → cond b (Some process) None ≡ Some p → (process_of [] t ≡ Some p) ⊎ (p ≡ process)
    by true is = inr (cc)
    by false is = inl is
process_among ((u, q) ∷ threads) thread process t p is = by (eqb u t) is (process_among threads thread process t p)
  where
    by : (b : Bool) → cond b (Some q) (process_of (threads ++ (thread, process) ∷ []) t) ≡ Some p → (process_of (threads ++ (thread, process) ∷ []) t ≡ Some p → (process_of threads t ≡ Some p) ⊎ (p ≡ process))
        → (cond b (Some q) (process_of threads t) ≡ Some p) ⊎ (p ≡ process)
    by true is rest = inl is
    by false is rest = rest is

pub tied_with_thread : (processes : List (ℕ × Cred)) (threads : List (ℕ × ℕ)) (under owners : List ℕ) (thread process : ℕ) → StandInTables processes threads under owners → Contains (map (λ p. p.0) processes) process
    → StandInTables processes (threads ++ (thread, process) ∷ []) under owners
tied_with_thread processes threads under owners thread process tied has = record {
  started = λ t p is. by t p (process_among threads thread process t p is);
  count = tied.count;
  stands = tied.stands;
}
  where
    by : (t p : ℕ) → (process_of threads t ≡ Some p) ⊎ (p ≡ process) → Contains (map (λ p. p.0) processes) p
    by t p (inl is) = tied.started t p is
    by t p (inr e) = subst (Contains (map (λ p. p.0) processes)) (sym e) has

pub tied_with_process : (processes after : List (ℕ × Cred)) (threads : List (ℕ × ℕ)) (under owners : List ℕ) (process : ℕ) (cred : Cred) → StandInTables processes threads under owners
    → after ≡ processes ++ (process, cred) ∷ [] → StandInTables after threads under owners
tied_with_process processes after threads under owners process cred tied is = record {
  started = λ t p at.
      subst (λ (all : List ℕ). Contains all p) (sym (ap (λ (ps : List (ℕ × Cred)). map (λ p. p.0) ps) is ∙ map_push (λ p. p.0) processes (process, cred)))
      (Contains-append_left (map (λ p. p.0) processes) (process ∷ []) p (tied.started t p at));
  count = tied.count;
  stands = tied.stands;
}

-- With nothing started.
pub tied_at_first : (threads : List (ℕ × ℕ)) (under owners : List ℕ) → threads ≡ [] → length under ≡ length owners → ((page : ℕ) → slice_index under page ≡ coffer_or_none (slice_index owners page))
    → StandInTables [] threads under owners
tied_at_first threads under owners none count stands = record {
  started = λ t p is. let no : None ≡ Some p = sym (ap (λ (ts : List (ℕ × ℕ)). process_of ts t) none) ∙ is in absurd (cc);
  count = count;
  stands = stands;
}

-- Pages are put under their coffers one by one: those before a page stand there, each other under none yet.
pub record StandUpTo (under owners : List ℕ) (page : ℕ) : Type 0 where
  pub count : length under ≡ length owners
  pub before : (q : ℕ) → q < page → slice_index under q ≡ coffer_or_none (slice_index owners q)
  pub behind : (q : ℕ) → page ≤ q → slice_index under q ≡ 0

pub stand_one_more : (under owners : List ℕ) (page coffer : ℕ) → StandUpTo under owners page → page < length owners → coffer ≡ coffer_or_none (slice_index owners page)
    → StandUpTo (set under page coffer) owners (page + 1)
stand_one_more under owners page coffer up inside is = record {
  count = length-set under page coffer ∙ up.count;
  before = λ q lt. by q lt (cases_eq q page);
  behind = λ q le. get_or-set_other under page q coffer 0 (λ e. absurd (omega arith)) ∙ up.behind q (omega arith);
}
  where
    by : (q : ℕ) → q < page + 1 → (q ≡ page) ⊎ (q ≡ page → ⊥) → slice_index (set under page coffer) q ≡ coffer_or_none (slice_index owners q)
    by q lt (inl e) =
        ap (slice_index (set under page coffer)) e ∙ get_or-set_same under page coffer 0 (let c = up.count in omega arith) ∙ is
        ∙ ap (λ (r : ℕ). coffer_or_none (slice_index owners r)) (sym e)
    by q lt (inr ne) = get_or-set_other under page q coffer 0 ne ∙ up.before q (omega arith)

pub stand_all : (under owners : List ℕ) (page : ℕ) → StandUpTo under owners page → page ≡ length owners → (q : ℕ) → slice_index under q ≡ coffer_or_none (slice_index owners q)
stand_all under owners page up last q = by (cases_lt q page)
  where
    by : (q < page) ⊎ (page ≤ q) → slice_index under q ≡ coffer_or_none (slice_index owners q)
    by (inl lt) = up.before q lt
    by (inr past) = up.behind q past ∙ ap coffer_or_none (sym (get_or_past owners q 0 (omega arith)))
