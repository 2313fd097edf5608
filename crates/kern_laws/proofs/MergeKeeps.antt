-- A Merge keeps the rules: listed pages of the coffer are its parent's, the others are nobody's, and it isn't there any more.
use Rattle.std.proofs.Common.{◌≡◌, ◌≢◌, ◌⊎◌, inl, inr, ℕ, ◌+◌, ◌<◌, ◌≤◌, Bool, true, false, cond, not, List, [], ◌∷◌, ◌++◌, length, Option, None, ap, subst, ◌∙◌, arith, nat_eq}
use Rattle.std.specs.Prelude.{All, ◌&&◌}
use Rattle.std.specs.List.{AllByRecursion}
use Rattle.std.proofs.lemmas.Bool.{cases_eq, cases_Bool, eq-eqb, ne_eqb, not-false}
use Rattle.std.proofs.lemmas.List.{length-append, length-map, append_assoc}
use Rattle.std.proofs.lemmas.List.Elements.{All-nil, All-cons, All-append}
use Rattle.zo_layout.specs.Layout.{owner_word}
use Rattle.pm_words.specs.Word.{Word}
use Rattle.kern_model.specs.KernelView.{pages_of}
use Rattle.kern_model.specs.Journal.{kernel_word, laid_over}
use Rattle.kern_model.specs.Kernel.{coffer_pages}
use Rattle.kern_model.specs.KernelTables.{is_id, owner_in, stands_in, pages_owned}
use Rattle.kern_model.specs.PathMap.{dropped_pairs}
use Rattle.kern_model.specs.KernelCalls.{Callers, first_due, named, is_there_with, holds_both, link_addr, link_pair, unlisted, without_coffer, merge_row, IsCall}
use Rattle.kern_model.specs.Commits.{IsWorking, IsCaller}
use Rattle.tr_types.specs.declared.kernel_call.Kcall.TheVariants as call
use Rattle.tr_types.specs.declared.kernel_call.KernAnswer.{KernAnswer}
use Rattle.tr_types.specs.declared.kernel_call.KernAnswer.TheVariants as answer
use Rattle.tr_types.specs.declared.kernel_call.Holder.{Holder}
use Rattle.kern_owner.specs.Owners.{owner_pairs, is_among}
use Rattle.kern_owner.specs.Laws.{TablesPass}
use Rattle.kern_owner.proofs.LawLemmas.{owner_read}
use Rattle.kern_roots.specs.Changes.{is_used}
use Rattle.kern_roots.specs.Laws.{DropLaw}
use Rattle.kern_laws.specs.Rows.{KeepsTables}
use Rattle.kern_laws.proofs.MoveReads.{IsOwnerPlace, IsOuterPlace, laid_append}
use Rattle.kern_laws.proofs.MoveOwners.{owns_parts, owners_placed}
use Rattle.kern_laws.proofs.MoveDrop.{Leaving, Elsewhere, Freed, Given, IsGoing}
use Rattle.kern_laws.proofs.MoveRefusals.{none_due, not_refused, pages_taken, address_placed, writer_is}
use Rattle.kern_laws.proofs.MoveParents.{IsUnder, is_under}
use Rattle.kern_laws.proofs.MoveListed.{AreListed, are_listed, listed_inside, unlisted_inside, unlisted_is, all_few}
use Rattle.kern_laws.proofs.MoveKeeps.{tables_pass, row_with, going_keeps}

abbrev pub merged_pairs : ℕ → (ℕ → ℕ) → ℕ → ℕ → List ℕ → List (ℕ × ℕ)
merged_pairs pages at child parent list = owner_pairs pages parent list ++ owner_pairs pages 0 (unlisted list (pages_owned pages at child))

-- the coffer's pages, over plain tables
merged : (pages : ℕ) (at : ℕ → ℕ) (child parent : ℕ) (kept list : List ℕ) (linking : List (ℕ × ℕ)) → TablesPass pages at → is_used pages at child ≡ true → child ≢ 1 → parent ≢ child
    → is_id parent ≡ true → stands_in pages at parent ≡ true → AreListed pages at child kept list → All (λ (p : ℕ × ℕ). IsOuterPlace pages p.0) linking
    → IsGoing pages at child (merged_pairs pages at child parent list) linking
merged pages at child parent kept list linking passes used later apart number stands listed links = record {
  passes = passes;
  used = used;
  later = later;
  owners = All-append (λ (p : ℕ × ℕ). IsOwnerPlace pages p.0) (owner_pairs pages parent list) (owner_pairs pages 0 (unlisted list (pages_owned pages at child)))
      (owners_placed pages parent list (listed_inside pages at child kept list listed)) (owners_placed pages 0 (unlisted list (pages_owned pages at child)) (unlisted_inside pages at child list));
  leaving = λ page lt. by page lt (cases_eq (owner_in pages at page) child) (cases_Bool (is_among list page));
  links = links;
}
  where
    rest : List ℕ
    rest = unlisted list (pages_owned pages at child)

    now : (page : ℕ) → page < pages → (own in_list : Bool) → nat_eq (owner_in pages at page) child ≡ own → is_among list page ≡ in_list
        → laid_over (merged_pairs pages at child parent list) (owner_word pages page) (owner_in pages at page) ≡ cond (own && not in_list) 0 (cond in_list parent (owner_in pages at page))
    now page lt own in_list is among =
        laid_append (owner_pairs pages parent list) (owner_pairs pages 0 rest) (owner_word pages page) (owner_in pages at page)
        ∙ owner_read pages 0 rest page (laid_over (owner_pairs pages parent list) (owner_word pages page) (owner_in pages at page))
        ∙ ap (λ (n : ℕ). cond (is_among rest page) 0 n) (owner_read pages parent list page (owner_in pages at page))
        ∙ ap (λ (b : Bool). cond b 0 (cond (is_among list page) parent (owner_in pages at page))) (unlisted_is pages at child list page lt)
        ∙ ap (λ (b : Bool). cond (b && not (is_among list page)) 0 (cond (is_among list page) parent (owner_in pages at page))) is
        ∙ ap (λ (b : Bool). cond (own && not b) 0 (cond b parent (owner_in pages at page))) among

    by : (page : ℕ) → page < pages → (owner_in pages at page ≡ child) ⊎ (owner_in pages at page ≡ child → ⊥) → (is_among list page ≡ true) ⊎ (is_among list page ≡ false)
        → Leaving pages at child page (laid_over (merged_pairs pages at child parent list) (owner_word pages page) (owner_in pages at page))
    by page lt (inl own) (inl is) = Given parent own (now page lt true true (eq-eqb (owner_in pages at page) child own) is) number stands apart
    by page lt (inl own) (inr isnt) = Freed own (now page lt true false (eq-eqb (owner_in pages at page) child own) isnt)
    by page lt (inr other) (inl is) = absurd (other (owns_parts pages at child page (listed.owned page is)).1)
    by page lt (inr other) (inr isnt) = Elsewhere other (now page lt false false (ne_eqb (owner_in pages at page) child other) isnt)

merged_length : (pages : ℕ) (at : ℕ → ℕ) (child parent : ℕ) (kept list : List ℕ) → AreListed pages at child kept list → length (merged_pairs pages at child parent list) ≤ pages
merged_length pages at child parent kept list listed =
    let rest = unlisted list (pages_owned pages at child) in
    let given : length (owner_pairs pages parent list) ≡ length list = length-map list (λ (page : ℕ). (owner_word pages page, parent)) in
    let freed : length (owner_pairs pages 0 rest) ≡ length rest = length-map rest (λ (page : ℕ). (owner_word pages page, 0)) in
    let whole = length-append (owner_pairs pages parent list) (owner_pairs pages 0 rest) in
    let both = length-append list rest in
    let most = all_few pages at child kept list listed in
    omega arith

pub merge_keeps : DropLaw → (callers : Callers) (words : List Word) (holders : List Holder) (thread now child parent : ℕ) (pages : List ℕ) (link : ℕ × ℕ × ℕ) (guard : ℕ × ℕ)
    → IsWorking words holders → IsCaller callers thread (call.Merge child parent pages link guard) → IsCall (call.Merge child parent pages link guard)
    → first_due (merge_row callers words holders thread now child parent pages link guard).refusals ≡ None
    → KeepsTables words (merge_row callers words holders thread now child parent pages link guard)
merge_keeps drop callers words holders thread now child parent pages link guard works caller is_call none =
    subst (λ (pairs : List (ℕ × ℕ)). KeepsTables words (row_with refusals answer.Done [] pairs (without_coffer child holders)))
    (append_assoc (owner_pairs (pages_of words) parent pages) (owner_pairs (pages_of words) 0 (unlisted pages (coffer_pages words child)))
    (dropped_pairs (pages_of words) (kernel_word words) child ++ link_pair link ∷ []))
    (going_keeps drop words holders works child (merged_pairs (pages_of words) (kernel_word words) child parent pages) (link_pair link ∷ []) going few refusals answer.Done)
  where
    refusals : List (Option KernAnswer)
    refusals = (merge_row callers words holders thread now child parent pages link guard).refusals

    passes : TablesPass (pages_of words) (kernel_word words)
    passes = tables_pass words works.sound

    due : AllByRecursion (λ (r : Option KernAnswer). r ≡ None) (merge_row callers words holders thread now child parent pages link guard).refusals
    due = none_due (merge_row callers words holders thread now child parent pages link guard).refusals none

    kept : List ℕ
    kept = (named words child).control ∷ []

    there : is_there_with words child ≡ true
    there = not-false (is_there_with words child) (not_refused (not (is_there_with words child)) answer.NoCoffer due.0)

    under : IsUnder words holders thread child parent
    under =
        is_under words holders thread child parent works there
        (not-false (holds_both words holders thread child parent) (not_refused (not (holds_both words holders thread child parent)) answer.NotHeld due.1.1.0))

    number : is_id parent ≡ true
    number = writer_is (λ n. is_id n ≡ true) thread parent holders under.writes works.ids

    listed : AreListed (pages_of words) (kernel_word words) child kept pages
    listed = are_listed words child kept pages (pages_taken words parent (link_addr link ∷ guard.0 ∷ []) child kept pages due.1.1.1.1.0).1

    links : All (λ (p : ℕ × ℕ). IsOuterPlace (pages_of words) p.0) (link_pair link ∷ [])
    links =
        All-cons (λ (p : ℕ × ℕ). IsOuterPlace (pages_of words) p.0) (link_pair link) []
        (address_placed words parent (link_addr link) (guard.0 ∷ []) passes.owners number (pages_taken words parent (link_addr link ∷ guard.0 ∷ []) child kept pages due.1.1.1.1.0).0)
        (All-nil (λ (p : ℕ × ℕ). IsOuterPlace (pages_of words) p.0))

    going : IsGoing (pages_of words) (kernel_word words) child (merged_pairs (pages_of words) (kernel_word words) child parent pages) (link_pair link ∷ [])
    going =
        merged (pages_of words) (kernel_word words) child parent kept pages (link_pair link ∷ []) passes there under.later under.apart number
        (writer_is (λ n. stands_in (pages_of words) (kernel_word words) n ≡ true) thread parent holders under.writes works.held) listed links

    few : length (merged_pairs (pages_of words) (kernel_word words) child parent pages) + 1 ≤ pages_of words + 400
    few = let most = merged_length (pages_of words) (kernel_word words) child parent kept pages listed in omega arith
