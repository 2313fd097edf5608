-- Rows that change a coffer's entry: Mode its permission, Recover its state.
use Rattle.std.proofs.Common.{◌≡◌, ℕ, ◌+◌, ◌*◌, ◌≤◌, Bool, true, false, not, List, [], length, get_or, None, refl, sym, ap, subst, ◌∙◌, arith}
use Rattle.std.specs.Prelude.{All, ◌==◌, if◌then◌else◌}
use Rattle.std.proofs.lemmas.Bool.{and_parts, not-false}
use Rattle.std.proofs.lemmas.List.Elements.{All-nil, All-from_recursion}
use Rattle.zo_layout.specs.Layout.{page_at, coffer_table, coffer_entry}
use Rattle.pm_words.specs.Word.{Word}
use Rattle.kern_model.specs.KernelView.{pages_of}
use Rattle.kern_model.specs.Journal.{kernel_word}
use Rattle.kern_model.specs.Kernel.{read_after}
use Rattle.kern_model.specs.KernelTables.{Coffer, is_id, is_mode, is_there, stands_in, coffer_in}
use Rattle.kern_model.specs.PathMap.{perm_pairs, state_pairs}
use Rattle.kern_model.specs.KernelCalls.{Callers, Row, first_due, in_order, named, is_there_with, mode_row, recover_row, recovery_number, IsCall}
use Rattle.kern_model.specs.Commits.{IsOuter, MayCommit, IsWorking, IsCaller}
use Rattle.tr_types.specs.declared.kernel_call.Kcall.TheVariants as call
use Rattle.tr_types.specs.declared.kernel_call.KernAnswer.TheVariants as answer
use Rattle.tr_types.specs.declared.kernel_call.Holder.{Holder}
use Rattle.tr_types.specs.declared.permission.Perm.{Perm}
use Rattle.kern_owner.specs.Laws.{SameTables, TablesPass}
use Rattle.kern_roots.specs.Entries.{has_id}
use Rattle.kern_roots.specs.Changes.{is_used}
use Rattle.kern_roots.specs.Laws.{PermLaw, StateLaw, IsRight, ChangesOne, with_perm, with_state}
use Rattle.kern_laws.specs.Rows.{KeepsTables}
use Rattle.kern_laws.proofs.TablesLemmas.{id_bounds, tables_of}
use Rattle.kern_laws.proofs.RoomLemmas.{IsTableWord, entry_word, in_order_length, may_commit, table_spares}
use Rattle.kern_laws.proofs.DueLemmas.{test_fails, used_there, named_is}
use Rattle.kern_laws.proofs.RightLemmas.{AreBehind, SameOwners, right_of, right_still, same_owners, same_roots, passes_roots, keeps_owners, others_stand, one_changed}

-- What a change of one entry leaves, wherever the tables read as with its pairs laid over them.
record IsChange (pages id : ℕ) (pairs : List (ℕ × ℕ)) (at : ℕ → ℕ) : Type 0 where
  words : All {X = ℕ × ℕ} (λ p. IsTableWord pages p.0) pairs
  few : length pairs ≤ 64
  behind : AreBehind pages pairs
  one : (after : ℕ → ℕ) → SameTables pages (read_after pairs at) after → ChangesOne pages id at after
  stands : (after : ℕ → ℕ) → SameTables pages (read_after pairs at) after → stands_in pages after id ≡ stands_in pages at id
  right : (after : ℕ → ℕ) → SameTables pages (read_after pairs at) after → IsRight pages after (coffer_in pages after id)

few_fit : (n m pages : ℕ) → n ≤ m → m ≤ 64 → n ≤ pages + 512
few_fit n m pages one two = omega arith

change_keeps : (words : List Word) (holders : List Holder) (id : ℕ) (row : Row) → IsWorking words holders → row.granted ≡ [] → row.holders ≡ holders
    → IsChange (pages_of words) id row.pairs (kernel_word words) → KeepsTables words row
change_keeps words holders id row w nothing same_holders change = record {
  may = subst (λ (pages : List ℕ). MayCommit words pages row.pairs) (sym nothing)
      (may_commit words holders [] row.pairs w (All-nil (IsOuter words)) change.words (few_fit (length (in_order row.pairs)) (length row.pairs) pages (in_order_length row.pairs) change.few));
  spares = table_spares pages row.pairs change.words;
  tables = λ after same. one_changed pages id at after (same_owners pages row.pairs at after same change.behind) (change.one after same) (change.stands after same) (change.right after same) passes;
  ids = subst (λ (hs : List Holder). All (λ (h : Holder). is_id h.id ≡ true) hs) (sym same_holders) w.ids;
  held = λ after same. subst (λ (hs : List Holder). All (λ (h : Holder). stands_in pages after h.id ≡ true) hs) (sym same_holders)
      (λ k d lt. others_stand pages id at after (change.one after same) (change.stands after same) (get_or holders k d).id (w.ids k d lt) ∙ w.held k d lt);
}
  where
    pages : ℕ
    pages = pages_of words

    at : ℕ → ℕ
    at = kernel_word words

    passes : TablesPass pages at
    passes = tables_of words w.sound

-- The two changes, where the coffer is there.

behind_words : (pages id addr k : ℕ) → addr ≡ coffer_entry pages id + 8 * k → page_at (coffer_table pages) ≤ addr
behind_words pages id addr k is = omega arith

perm_changes : PermLaw → (pages : ℕ) (at : ℕ → ℕ) (id : ℕ) (perm : Perm) → TablesPass pages at → is_used pages at id ≡ true → perm.uid ≤ 4294967295 → perm.gid ≤ 4294967295 → is_mode perm.mode ≡ true
    → IsChange pages id (perm_pairs pages id perm) at
perm_changes law pages at id perm passes used uid gid mode = record {
  words = All-from_recursion (λ (p : ℕ × ℕ). IsTableWord pages p.0) pairs
      (entry_word pages id _ 1 low high (omega arith) (omega arith), (entry_word pages id _ 2 low high (omega arith) (omega arith), (entry_word pages id _ 3 low high (omega arith) (omega arith), tt)));
  few = omega arith;
  behind = behind;
  one = λ after same. (changes after same).1;
  stands = λ after same. ap (λ (c : Coffer). is_there c.state) (changes after same).0;
  right = λ after same. subst (IsRight pages after) (sym (changes after same).0) (right_still pages at after (owners after same) (with_perm perm (coffer_in pages at id)) right);
}
  where
    pairs : List (ℕ × ℕ)
    pairs = perm_pairs pages id perm

    there : (is_id id ≡ true) × (stands_in pages at id ≡ true)
    there = and_parts (is_id id) (stands_in pages at id) (used_there pages at id used)

    low : 1 ≤ id
    low = (id_bounds id there.0).0

    high : id ≤ 256
    high = (id_bounds id there.0).1

    behind : AreBehind pages pairs
    behind = All-from_recursion (λ (p : ℕ × ℕ). page_at (coffer_table pages) ≤ p.0) pairs
        (behind_words pages id _ 1 (omega arith), (behind_words pages id _ 2 (omega arith), (behind_words pages id _ 3 (omega arith), tt)))

    owners : (after : ℕ → ℕ) → SameTables pages (read_after pairs at) after → SameOwners pages at after
    owners after same = same_owners pages pairs at after same behind

    changes : (after : ℕ → ℕ) → SameTables pages (read_after pairs at) after → (coffer_in pages after id ≡ with_perm perm (coffer_in pages at id)) × ChangesOne pages id at after
    changes after same =
        law pages at after id perm (passes_roots pages at passes) used (same_roots pages (read_after pairs at) after same) (keeps_owners pages id at after (owners after same) passes)

    was : IsRight pages at (coffer_in pages at id)
    was = right_of pages at id there.1 (passes.entries id low high)

    right : IsRight pages at (with_perm perm (coffer_in pages at id))
    right = record { uid = uid; gid = gid; mode = mode; kind = was.kind; control = was.control; root = was.root; apart = was.apart }

state_changes : StateLaw → (pages : ℕ) (at : ℕ → ℕ) (id state : ℕ) → TablesPass pages at → is_used pages at id ≡ true → is_there state ≡ true → IsChange pages id (state_pairs pages id state) at
state_changes law pages at id state passes used valid = record {
  words = All-from_recursion (λ (p : ℕ × ℕ). IsTableWord pages p.0) pairs (entry_word pages id _ 0 low high (omega arith) (omega arith), tt);
  few = omega arith;
  behind = behind;
  one = λ after same. (changes after same).1;
  stands = λ after same. ap (λ (c : Coffer). is_there c.state) (changes after same).0 ∙ valid ∙ sym there.1;
  right = λ after same. subst (IsRight pages after) (sym (changes after same).0) (right_still pages at after (owners after same) (with_state state (coffer_in pages at id)) right);
}
  where
    pairs : List (ℕ × ℕ)
    pairs = state_pairs pages id state

    there : (is_id id ≡ true) × (stands_in pages at id ≡ true)
    there = and_parts (is_id id) (stands_in pages at id) (used_there pages at id used)

    low : 1 ≤ id
    low = (id_bounds id there.0).0

    high : id ≤ 256
    high = (id_bounds id there.0).1

    behind : AreBehind pages pairs
    behind = All-from_recursion (λ (p : ℕ × ℕ). page_at (coffer_table pages) ≤ p.0) pairs (behind_words pages id _ 0 (omega arith), tt)

    owners : (after : ℕ → ℕ) → SameTables pages (read_after pairs at) after → SameOwners pages at after
    owners after same = same_owners pages pairs at after same behind

    changes : (after : ℕ → ℕ) → SameTables pages (read_after pairs at) after → (coffer_in pages after id ≡ with_state state (coffer_in pages at id)) × ChangesOne pages id at after
    changes after same =
        law pages at after id state (passes_roots pages at passes) used valid (same_roots pages (read_after pairs at) after same) (keeps_owners pages id at after (owners after same) passes)

    was : IsRight pages at (coffer_in pages at id)
    was = right_of pages at id there.1 (passes.entries id low high)

    right : IsRight pages at (with_state state (coffer_in pages at id))
    right = record { uid = was.uid; gid = was.gid; mode = was.mode; kind = was.kind; control = was.control; root = was.root; apart = was.apart }

-- The rows.

pub mode_keeps : PermLaw → (callers : Callers) (words : List Word) (holders : List Holder) (thread now id mode : ℕ) → IsWorking words holders → IsCaller callers thread (call.Mode id mode) → IsCall (call.Mode id mode)
    → first_due (mode_row callers words holders thread id mode).refusals ≡ None → KeepsTables words (mode_row callers words holders thread id mode)
mode_keeps law callers words holders thread now id mode w caller is due =
    change_keeps words holders id (mode_row callers words holders thread id mode) w refl refl
    (perm_changes law pages at id (record { uid = (named words id).perm.uid; gid = (named words id).perm.gid; mode = mode }) passes used
    (subst (λ (c : Coffer). c.perm.uid ≤ 4294967295) (sym (named_is words id there)) right.uid)
    (subst (λ (c : Coffer). c.perm.gid ≤ 4294967295) (sym (named_is words id there)) right.gid) is)
  where
    pages : ℕ
    pages = pages_of words

    at : ℕ → ℕ
    at = kernel_word words

    passes : TablesPass pages at
    passes = tables_of words w.sound

    used : is_used pages at id ≡ true
    used = not-false (is_there_with words id) (test_fails (not (is_there_with words id)) answer.NoCoffer _ due).0

    there : has_id pages at id ≡ true
    there = used_there pages at id used

    right : IsRight pages at (coffer_in pages at id)
    right =
        let parts = and_parts (is_id id) (stands_in pages at id) there in
        let bounds = id_bounds id parts.0 in
        right_of pages at id parts.1 (passes.entries id bounds.0 bounds.1)

pub recover_keeps : StateLaw → (callers : Callers) (words : List Word) (holders : List Holder) (thread now id : ℕ) (ready : Bool) → IsWorking words holders → IsCaller callers thread (call.Recover id ready)
    → IsCall (call.Recover id ready) → first_due (recover_row words holders thread id ready).refusals ≡ None → KeepsTables words (recover_row words holders thread id ready)
recover_keeps law callers words holders thread now id ready w caller is due =
    change_keeps words holders id (recover_row words holders thread id ready) w refl refl
    (state_changes law (pages_of words) (kernel_word words) id (if ready then 1 else 2) (tables_of words w.sound) used (valid ready))
  where
    used : is_used (pages_of words) (kernel_word words) id ≡ true
    used =
        let first = test_fails (not (thread == recovery_number)) answer.NotHeld _ due in
        not-false (is_there_with words id) (test_fails (not (is_there_with words id)) answer.NoCoffer _ first.1).0

    valid : (b : Bool) → is_there (if b then 1 else 2) ≡ true
    valid true = refl
    valid false = refl
