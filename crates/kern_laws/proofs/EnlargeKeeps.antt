-- Enlarge: the least free pages come to a coffer that somebody holds.
use Rattle.std.proofs.Common.{◌≡◌, ℕ, ◌<◌, true, not, List, take, None, arith}
use Rattle.std.specs.Prelude.{All}
use Rattle.std.proofs.lemmas.Bool.{not-false}
use Rattle.std.proofs.lemmas.List.Elements.{All-take}
use Rattle.pm_words.specs.Word.{Word}
use Rattle.kern_model.specs.KernelView.{pages_of}
use Rattle.kern_model.specs.Journal.{kernel_word}
use Rattle.kern_model.specs.Kernel.{spare_pages}
use Rattle.kern_model.specs.KernelTables.{is_id, stands_in}
use Rattle.tr_types.specs.Permission.{has_bit}
use Rattle.kern_model.specs.KernelCalls.{Callers, first_due, holds_for_writing, enlarge_row, IsCall}
use Rattle.kern_model.specs.Commits.{IsOuter, IsWorking, IsCaller}
use Rattle.tr_types.specs.declared.kernel_call.Kcall.TheVariants as call
use Rattle.tr_types.specs.declared.kernel_call.KernAnswer.TheVariants as answer
use Rattle.tr_types.specs.declared.kernel_call.Holder.{Holder}
use Rattle.kern_owner.specs.Owners.{owner_pairs}
use Rattle.kern_owner.specs.Laws.{OwnersPass}
use Rattle.kern_owner.proofs.LawLemmas.{passed, grant_keeps}
use Rattle.kern_owner.proofs.OwnedLemmas.{owned_inside, owned_behind}
use Rattle.kern_laws.specs.Rows.{KeepsTables}
use Rattle.kern_laws.proofs.TablesLemmas.{held_still, tables_of}
use Rattle.kern_laws.proofs.RoomLemmas.{owner_may, owner_words, table_spares}
use Rattle.kern_laws.proofs.DueLemmas.{test_fails, held_is}

-- Free pages aren't the kernel's.

pub spare_inside : (words : List Word) → All (λ page. page < pages_of words) (spare_pages words)
spare_inside words = owned_inside (pages_of words) (kernel_word words) 0

pub spare_outer : (words : List Word) → OwnersPass (pages_of words) (kernel_word words) → All (IsOuter words) (spare_pages words)
spare_outer words passes k d lt = record {
  past = owned_behind (pages_of words) (kernel_word words) 0 passes (λ same. omega arith) k d lt;
  inside = spare_inside words k d lt;
}

-- a coffer that a thread holds for writing is there
pub writer_there : (words : List Word) (holders : List Holder) (thread id : ℕ) → IsWorking words holders → holds_for_writing thread id holders ≡ true
    → (is_id id ≡ true) × (stands_in (pages_of words) (kernel_word words) id ≡ true)
writer_there words holders thread id w holds =
    (held_is (λ id. is_id id ≡ true) (λ h. has_bit h.right.0 1) thread id holders w.ids holds, held_is (λ id. stands_in (pages_of words) (kernel_word words) id ≡ true) (λ h. has_bit h.right.0 1) thread id holders w.held holds)

pub enlarge_keeps : (callers : Callers) (words : List Word) (holders : List Holder) (thread now id count : ℕ) → IsWorking words holders → IsCaller callers thread (call.Enlarge id count) → IsCall (call.Enlarge id count)
    → first_due (enlarge_row words holders thread id count).refusals ≡ None → KeepsTables words (enlarge_row words holders thread id count)
enlarge_keeps callers words holders thread now id count w caller is due = record {
  may = owner_may words holders list id list w (All-take (IsOuter words) count (spare_pages words) (spare_outer words (tables_of words w.sound).owners)) inside;
  spares = table_spares pages (owner_pairs pages id list) (owner_words pages id list inside);
  tables = λ after same. grant_keeps pages id count at after same there.0 there.1 (tables_of words w.sound);
  ids = w.ids;
  held = λ after same. held_still pages at after holders (passed pages id list at after same inside).coffers w.ids w.held;
}
  where
    pages : ℕ
    pages = pages_of words

    at : ℕ → ℕ
    at = kernel_word words

    list : List ℕ
    list = take count (spare_pages words)

    inside : All (λ page. page < pages) list
    inside = All-take (λ page. page < pages) count (spare_pages words) (spare_inside words)

    there : (is_id id ≡ true) × (stands_in pages at id ≡ true)
    there = writer_there words holders thread id w (not-false (holds_for_writing thread id holders) (test_fails (not (holds_for_writing thread id holders)) answer.NotHeld _ due).0)
