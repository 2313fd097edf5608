-- Rows that change no word: Find, Map, Unmap.
use Rattle.std.proofs.Common.{◌≡◌, ◌≢◌, ℕ, true, not, List, [], Option, arith}
use Rattle.std.specs.Prelude.{All, Bool}
use Rattle.std.proofs.lemmas.Bool.{and_parts}
use Rattle.std.proofs.lemmas.List.Elements.{All-nil, All-push, All-filter}
use Rattle.zo_layout.specs.Layout.{signature_word, version_word, count_word}
use Rattle.pm_words.specs.Word.{Word}
use Rattle.kern_model.specs.KernelView.{pages_of}
use Rattle.kern_model.specs.Journal.{kernel_word}
use Rattle.kern_model.specs.KernelTables.{is_id, stands_in}
use Rattle.kern_model.specs.Rights.{key_for, is_row_of, without_row}
use Rattle.kern_model.specs.KernelCalls.{Callers, row_of_maps, located, key_or_none, find_row, map_row, unmap_row}
use Rattle.kern_model.specs.Commits.{IsOuter, IsWorking}
use Rattle.tr_types.specs.declared.kernel_call.KernAnswer.{KernAnswer}
use Rattle.tr_types.specs.declared.kernel_call.Holder.{Holder}
use Rattle.tr_types.specs.declared.permission.Right.{Right}
use Rattle.kern_laws.specs.Rows.{KeepsTables}
use Rattle.kern_laws.proofs.TablesLemmas.{same_coffers, held_still, tables_same, tables_of}
use Rattle.kern_laws.proofs.RoomLemmas.{IsTableWord, may_commit}
use Rattle.kern_laws.proofs.LocatedLemmas.{located_there}

-- a row of no words keeps the tables, where each coffer that it says is held is there
maps_keep : (words : List Word) (old holders : List Holder) (refusals : List (Option KernAnswer)) (answer : KernAnswer) → IsWorking words old → All (λ h. is_id h.id ≡ true) holders
    → All (λ h. stands_in (pages_of words) (kernel_word words) h.id ≡ true) holders → KeepsTables words (row_of_maps refusals answer holders)
maps_keep words old holders refusals answer w ids held = record {
  may = may_commit words old [] [] w (All-nil (IsOuter words)) (All-nil (λ (p : ℕ × ℕ). IsTableWord (pages_of words) p.0)) (omega arith);
  spares = All-nil (λ (p : ℕ × ℕ). (p.0 ≢ signature_word) × (p.0 ≢ version_word) × (p.0 ≢ count_word));
  tables = λ after same. tables_same (pages_of words) (kernel_word words) after same (tables_of words w.sound);
  ids = ids;
  held = λ after same. held_still (pages_of words) (kernel_word words) after holders (same_coffers (pages_of words) (kernel_word words) after same) ids held;
}

pub find_keeps : (words : List Word) (holders : List Holder) (path : List ℕ) (also : Option (List ℕ)) → IsWorking words holders → KeepsTables words (find_row words holders path also)
find_keeps words holders path also w = maps_keep words holders holders _ _ w w.ids w.held

pub map_keeps : (callers : Callers) (words : List Word) (holders : List Holder) (thread : ℕ) (path : List ℕ) (right : Right) (exclusive : Bool) → IsWorking words holders
    → KeepsTables words (map_row callers words holders thread path right exclusive)
map_keeps callers words holders thread path right exclusive w =
    maps_keep words holders _ _ _ w
    (All-push (λ (h : Holder). is_id h.id ≡ true) (without_row thread id holders) mine (All-filter (λ h. not (is_row_of thread id h)) (λ (h : Holder). is_id h.id ≡ true) holders w.ids) there.0)
    (All-push (λ (h : Holder). stands_in pages at h.id ≡ true) (without_row thread id holders) mine (All-filter (λ h. not (is_row_of thread id h)) (λ (h : Holder). stands_in pages at h.id ≡ true) holders w.held) there.1)
  where
    pages : ℕ
    pages = pages_of words

    at : ℕ → ℕ
    at = kernel_word words

    id : ℕ
    id = (located words path).id

    mine : Holder
    mine = record { thread = thread; id = id; key = key_or_none (key_for callers.threads holders thread id); right = right; exclusive = exclusive }

    there : (is_id id ≡ true) × (stands_in pages at id ≡ true)
    there = and_parts (is_id id) (stands_in pages at id) (located_there words path (tables_of words w.sound))

pub unmap_keeps : (words : List Word) (holders : List Holder) (thread id : ℕ) → IsWorking words holders → KeepsTables words (unmap_row holders thread id)
unmap_keeps words holders thread id w =
    maps_keep words holders (without_row thread id holders) _ _ w (All-filter (λ h. not (is_row_of thread id h)) (λ (h : Holder). is_id h.id ≡ true) holders w.ids)
    (All-filter (λ h. not (is_row_of thread id h)) (λ (h : Holder). stands_in (pages_of words) (kernel_word words) h.id ≡ true) holders w.held)
