-- A Delete keeps the rules: all pages of the coffer are nobody's, and it isn't there any more.
use Rattle.std.proofs.Common.{◌≡◌, ◌≢◌, ◌⊎◌, inl, inr, ℕ, ◌+◌, ◌<◌, ◌≤◌, Bool, true, false, cond, not, List, [], ◌∷◌, length, Option, None, ap, ◌∙◌, arith, nat_eq}
use Rattle.std.specs.Prelude.{All}
use Rattle.std.specs.List.{AllByRecursion}
use Rattle.std.proofs.lemmas.Bool.{cases_eq, eq-eqb, ne_eqb, not-false}
use Rattle.std.proofs.lemmas.List.{length-map}
use Rattle.std.proofs.lemmas.List.Elements.{All-nil, All-cons}
use Rattle.zo_layout.specs.Layout.{owner_word}
use Rattle.pm_words.specs.Word.{Word}
use Rattle.kern_model.specs.KernelView.{pages_of}
use Rattle.kern_model.specs.Journal.{kernel_word, laid_over}
use Rattle.kern_model.specs.Kernel.{coffer_pages}
use Rattle.kern_model.specs.KernelTables.{is_id, owner_in, pages_owned}
use Rattle.kern_model.specs.KernelCalls.{Callers, first_due, is_there_with, holds_both, link_addr, link_pair, delete_row, IsCall}
use Rattle.kern_model.specs.Commits.{IsWorking, IsCaller}
use Rattle.tr_types.specs.declared.kernel_call.Kcall.TheVariants as call
use Rattle.tr_types.specs.declared.kernel_call.KernAnswer.{KernAnswer}
use Rattle.tr_types.specs.declared.kernel_call.KernAnswer.TheVariants as answer
use Rattle.tr_types.specs.declared.kernel_call.Holder.{Holder}
use Rattle.kern_owner.specs.Owners.{owner_pairs}
use Rattle.kern_owner.specs.Laws.{TablesPass}
use Rattle.kern_owner.proofs.RangeLemmas.{within, below_length}
use Rattle.kern_owner.proofs.AmongLemmas.{among_kept}
use Rattle.kern_owner.proofs.LawLemmas.{owner_read}
use Rattle.kern_roots.specs.Changes.{is_used}
use Rattle.kern_roots.specs.Laws.{DropLaw}
use Rattle.kern_laws.specs.Rows.{KeepsTables}
use Rattle.kern_laws.proofs.MoveReads.{IsOuterPlace}
use Rattle.kern_laws.proofs.MoveOwners.{owners_placed}
use Rattle.kern_laws.proofs.MoveDrop.{Leaving, Elsewhere, Freed, IsGoing}
use Rattle.kern_laws.proofs.MoveRefusals.{none_due, not_refused, pages_taken, address_placed, writer_is}
use Rattle.kern_laws.proofs.MoveParents.{IsUnder, is_under}
use Rattle.kern_laws.proofs.MoveKeeps.{tables_pass, going_keeps}

-- all pages of the coffer, over plain tables
all_freed : (pages : ℕ) (at : ℕ → ℕ) (id : ℕ) (linking : List (ℕ × ℕ)) → TablesPass pages at → is_used pages at id ≡ true → id ≢ 1 → All (λ (p : ℕ × ℕ). IsOuterPlace pages p.0) linking
    → IsGoing pages at id (owner_pairs pages 0 (pages_owned pages at id)) linking
all_freed pages at id linking passes used later links = record {
  passes = passes;
  used = used;
  later = later;
  owners = owners_placed pages 0 (pages_owned pages at id) (within (λ page. nat_eq (owner_in pages at page) id) pages);
  leaving = λ page lt. by page lt (cases_eq (owner_in pages at page) id);
  links = links;
}
  where
    now : (page : ℕ) → page < pages → (b : Bool) → nat_eq (owner_in pages at page) id ≡ b
        → laid_over (owner_pairs pages 0 (pages_owned pages at id)) (owner_word pages page) (owner_in pages at page) ≡ cond b 0 (owner_in pages at page)
    now page lt b is =
        owner_read pages 0 (pages_owned pages at id) page (owner_in pages at page)
        ∙ ap (λ (t : Bool). cond t 0 (owner_in pages at page)) (among_kept (λ p. nat_eq (owner_in pages at p) id) pages page lt ∙ is)

    by : (page : ℕ) → page < pages → (owner_in pages at page ≡ id) ⊎ (owner_in pages at page ≡ id → ⊥)
        → Leaving pages at id page (laid_over (owner_pairs pages 0 (pages_owned pages at id)) (owner_word pages page) (owner_in pages at page))
    by page lt (inl own) = Freed own (now page lt true (eq-eqb (owner_in pages at page) id own))
    by page lt (inr other) = Elsewhere other (now page lt false (ne_eqb (owner_in pages at page) id other))

pub delete_keeps : DropLaw → (callers : Callers) (words : List Word) (holders : List Holder) (thread now id parent : ℕ) (link : ℕ × ℕ × ℕ) (guard : ℕ × ℕ)
    → IsWorking words holders → IsCaller callers thread (call.Delete id parent link guard) → IsCall (call.Delete id parent link guard)
    → first_due (delete_row callers words holders thread now id parent link guard).refusals ≡ None
    → KeepsTables words (delete_row callers words holders thread now id parent link guard)
delete_keeps drop callers words holders thread now id parent link guard works caller is_call none =
    going_keeps drop words holders works id (owner_pairs (pages_of words) 0 (coffer_pages words id)) (link_pair link ∷ [])
    (all_freed (pages_of words) (kernel_word words) id (link_pair link ∷ []) passes there under.later links) few
    (delete_row callers words holders thread now id parent link guard).refusals answer.Done
  where
    passes : TablesPass (pages_of words) (kernel_word words)
    passes = tables_pass words works.sound

    due : AllByRecursion (λ (r : Option KernAnswer). r ≡ None) (delete_row callers words holders thread now id parent link guard).refusals
    due = none_due (delete_row callers words holders thread now id parent link guard).refusals none

    there : is_there_with words id ≡ true
    there = not-false (is_there_with words id) (not_refused (not (is_there_with words id)) answer.NoCoffer due.0)

    under : IsUnder words holders thread id parent
    under =
        is_under words holders thread id parent works there
        (not-false (holds_both words holders thread id parent) (not_refused (not (holds_both words holders thread id parent)) answer.NotHeld due.1.1.0))

    links : All (λ (p : ℕ × ℕ). IsOuterPlace (pages_of words) p.0) (link_pair link ∷ [])
    links =
        All-cons (λ (p : ℕ × ℕ). IsOuterPlace (pages_of words) p.0) (link_pair link) []
        (address_placed words parent (link_addr link) (guard.0 ∷ []) passes.owners (writer_is (λ n. is_id n ≡ true) thread parent holders under.writes works.ids)
        (pages_taken words parent (link_addr link ∷ guard.0 ∷ []) parent [] [] due.1.1.1.1.0).0)
        (All-nil (λ (p : ℕ × ℕ). IsOuterPlace (pages_of words) p.0))

    few : length (owner_pairs (pages_of words) 0 (coffer_pages words id)) + 1 ≤ pages_of words + 400
    few =
        let long : length (owner_pairs (pages_of words) 0 (coffer_pages words id)) ≡ length (coffer_pages words id) = length-map (coffer_pages words id) (λ (page : ℕ). (owner_word (pages_of words) page, 0)) in
        let most : length (coffer_pages words id) ≤ pages_of words = below_length (λ page. nat_eq (owner_in (pages_of words) (kernel_word words) page) id) (pages_of words) in
        omega arith
