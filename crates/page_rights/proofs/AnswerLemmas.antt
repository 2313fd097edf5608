-- The last steps of the tables' own calls.
use Rattle.std.proofs.Common.{◌≡◌, ℕ, ◌≤◌, List, [], ◌∷◌, Bool, true, false, not, refl, ap, sym, subst, ◌∙◌, cond, arith, Option, Some}
use Rattle.std.specs.Prelude.{OnOk, is_err, Result, Ok, Err}
use Rattle.std.proofs.lemmas.Bool.{or_parts, both_ways}
use Rattle.std.proofs.lemmas.List.Elements.{filter_agree}
use Rattle.tr_types.specs.declared.kernel_call.Holder.{Holder}
use Rattle.kern_model.specs.KernelCalls.{holds_any}
use Rattle.kern_model.specs.Rights.{process_of, is_same, is_row_of, without_row, key_for, IsLeastOf}
use Rattle.page_rights.specs.declared.mapping.Mapping.{Mapping}
use Rattle.page_rights.specs.Tables.{View, without_process, with_holders, unmapped}
use Rattle.page_rights.specs.Lookup.{process_at, without_process_in, key_for_in, TablesAgree}
use Rattle.page_rights.proofs.RowLemmas.{key_for_by_thread}

pub same_tied : (threads : List (ℕ × ℕ)) (processes : List (Option ℕ)) (holders holders_now : List Holder) (mappings mappings_now : List (Option Mapping))
    → holders_now ≡ holders → mappings_now ≡ mappings → TablesAgree threads processes holders mappings → TablesAgree threads processes holders_now mappings_now
same_tied threads processes holders holders_now mappings mappings_now h m tied =
    subst (λ (hs : List Holder). TablesAgree threads processes hs mappings_now) (sym h)
    (subst (λ (ms : List (Option Mapping)). TablesAgree threads processes holders ms) (sym m) tied)

-- there is one least thread
pub least_is_one : (threads : List ℕ) (t u : ℕ) → IsLeastOf threads t → IsLeastOf threads u → t ≡ u
least_is_one threads t u a b =
    let below : t ≤ u = a.least u b.among in
    let above : u ≤ t = b.least t a.among in
    omega arith

-- rows of a process, by the threads
pub same_process_rows : (threads : List (ℕ × ℕ)) (processes : List (Option ℕ)) (process : ℕ) (holders : List Holder) → ((thread : ℕ) → process_at processes thread ≡ process_of threads thread)
    → without_process_in processes process holders ≡ without_process threads process holders
same_process_rows threads processes process holders starts =
    filter_agree (λ h. not (is_same (process_at processes h.thread) (Some process))) (λ h. not (is_same (process_of threads h.thread) (Some process)))
    (λ h. ap (λ (o : Option ℕ). not (is_same o (Some process))) (starts h.thread)) holders

-- without a row of its own nothing goes
same_rows : (thread coffer : ℕ) (holders : List Holder) → holds_any thread coffer holders ≡ false → without_row thread coffer holders ≡ holders
same_rows thread coffer [] absent = refl
same_rows thread coffer (h ∷ holders) absent =
    let parts = or_parts (is_row_of thread coffer h) (holds_any thread coffer holders) absent in
    ap (λ (b : Bool). cond (not b) (h ∷ without_row thread coffer holders) (without_row thread coffer holders)) parts.0
    ∙ ap (λ (hs : List Holder). h ∷ hs) (same_rows thread coffer holders parts.1)

pub nothing_unmapped : (v : View) (holders : List Holder) → holders ≡ v.holders → (thread coffer : ℕ) → holds_any thread coffer holders ≡ false → v ≡ unmapped thread coffer v
nothing_unmapped v holders view thread coffer absent =
    sym (ap (λ (hs : List Holder). with_holders hs v) (same_rows thread coffer v.holders (ap (λ (hs : List Holder). holds_any thread coffer hs) (sym view) ∙ absent)))

-- the key, by the thread
pub key_by_view : (threads : List (ℕ × ℕ)) (processes processes_read : List (Option ℕ)) (holders holders_read : List Holder) (mappings : List (Option Mapping)) (tied : TablesAgree threads processes holders mappings)
    (owners : List ℕ) (v : View) (view : (record { threads = threads; holders = holders; owners = owners }) ≡ v) (thread process id : ℕ) (found : Option ℕ)
    → process_at processes thread ≡ Some process → processes_read ≡ processes → holders_read ≡ holders → found ≡ key_for_in processes_read holders_read process id
    → (key_for_in processes holders process id ≡ found) × (key_for v.threads v.holders thread id ≡ found)
key_by_view threads processes processes_read holders holders_read mappings tied owners v view thread process id found is same_processes same_holders read =
    let inner : key_for_in processes holders process id ≡ found = sym (read ∙ (λ i. key_for_in (same_processes i) (same_holders i) process id)) in
    (inner, sym (key_for_by_thread threads processes tied.starts thread process is holders id ∙ ap (λ (w : View). key_for w.threads w.holders thread id) view) ∙ inner)

pub on_ok : {T E : Type 0} (r : Result T E) (P : Type 0) → is_err r ≡ false → OnOk r P → P
on_ok (Ok x) P e p = p
on_ok (Err x) P e p = absurd (both_ways true e refl)
