-- Shrink: listed pages of a coffer that somebody holds go back.
use Rattle.std.proofs.Common.{◌≡◌, ◌≢◌, ◌⊎◌, inl, inr, ℕ, ◌-◌, ◌/◌, ◌<◌, ◌≤◌, Bool, true, false, cond, not, List, [], ◌∷◌, None, sym, ap, subst, ◌∙◌, arith, nat_eq}
use Rattle.std.specs.Prelude.{All, ◌||◌, find}
use Rattle.std.proofs.lemmas.Bool.{not-false, and_from, or_parts, eqb-false}
use Rattle.std.proofs.lemmas.List.Elements.{All-nil, All-weaker}
use Rattle.zo_layout.specs.Layout.{page_at, kernel_pages, owner_table, owner_word, coffer_entry, coffer_control, coffer_root}
use Rattle.pm_words.specs.Word.{Word}
use Rattle.kern_model.specs.KernelView.{pages_of}
use Rattle.kern_model.specs.Journal.{kernel_word}
use Rattle.kern_model.specs.Kernel.{read_after}
use Rattle.kern_model.specs.KernelTables.{Coffer, owner_in, is_id, stands_in, coffer_in}
use Rattle.kern_model.specs.KernelCalls.{Callers, first_due, holds_for_writing, is_bad_page, bad_address_page, pages_refused, control_and_root, named, shrink_row, IsCall}
use Rattle.kern_model.specs.Commits.{IsOuter, IsWorking, IsCaller}
use Rattle.tr_types.specs.declared.kernel_call.Kcall.TheVariants as call
use Rattle.tr_types.specs.declared.kernel_call.KernAnswer.TheVariants as answer
use Rattle.tr_types.specs.declared.kernel_call.Holder.{Holder}
use Rattle.kern_owner.specs.Owners.{owner_pairs, is_among, in_order}
use Rattle.kern_owner.specs.Laws.{SameTables, HasReturn, TakesRoot, TablesPass}
use Rattle.kern_owner.proofs.SoundLemmas.{OwnerCase, Kernels, Nobodys, Coffers, owner_case}
use Rattle.kern_owner.proofs.AmongLemmas.{among_in_order}
use Rattle.kern_owner.proofs.LawLemmas.{owner_read, passed, return_keeps_owners, return_keeps_entries, return_keeps_buckets}
use Rattle.kern_laws.specs.Rows.{KeepsTables}
use Rattle.kern_laws.proofs.TablesLemmas.{id_bounds, held_still, tables_of}
use Rattle.kern_laws.proofs.RoomLemmas.{owner_may, owner_words, table_spares}
use Rattle.kern_laws.proofs.DueLemmas.{test_fails, none_due, all_yours, IsGood, good_pages, among_all, named_is}
use Rattle.kern_laws.proofs.RightLemmas.{right_of, owned}
use Rattle.kern_laws.proofs.EnlargeKeeps.{writer_there}

-- the tables read the same, in whatever order pages that go back are listed
pub return_of : (pages : ℕ) (list : List ℕ) (at after : ℕ → ℕ) → SameTables pages (read_after (owner_pairs pages 0 list) at) after → All (λ page. page < pages) list → HasReturn pages list at after
return_of pages list at after same inside addr whole low high =
    same addr whole low high
    ∙ subst (λ (a : ℕ). read_after (owner_pairs pages 0 list) at a ≡ read_after (owner_pairs pages 0 (in_order pages list)) at a) (sym is) (reads page)
  where
    page : ℕ
    page = (addr - page_at (owner_table pages)) / 8

    is : addr ≡ owner_word pages page
    is = omega arith

    reads : (p : ℕ) → read_after (owner_pairs pages 0 list) at (owner_word pages p) ≡ read_after (owner_pairs pages 0 (in_order pages list)) at (owner_word pages p)
    reads p =
        owner_read pages 0 list p (at (owner_word pages p))
        ∙ ap (λ (b : Bool). cond b 0 (at (owner_word pages p))) (sym (among_in_order pages list p inside))
        ∙ sym (owner_read pages 0 (in_order pages list) p (at (owner_word pages p)))

-- a coffer's pages aren't the kernel's
pub coffers_page : (pages : ℕ) (at : ℕ → ℕ) (id page : ℕ) → TablesPass pages at → is_id id ≡ true → page < pages → owner_in pages at page ≡ id → kernel_pages pages ≤ page
coffers_page pages at id page passes is lt mine = by (owner_case pages at page (passes.owners page lt))
  where
    by : OwnerCase pages at page → kernel_pages pages ≤ page
    by (Kernels below kernels) = let most = (id_bounds id is).1 in absurd (omega arith)
    by (Nobodys le none) = le
    by (Coffers le coffer there) = le

-- pages of a coffer that are neither its control page nor its root page are no coffer's own two
spares_roots : (pages : ℕ) (at : ℕ → ℕ) (id : ℕ) (list : List ℕ) → TablesPass pages at
    → All (λ page. (owner_in pages at page ≡ id) × ((coffer_in pages at id).control ≢ page) × ((coffer_in pages at id).root ≢ page)) list
    → (other : ℕ) → 1 ≤ other → other ≤ 256 → TakesRoot pages list at other → ⊥
spares_roots pages at id list passes all other low high takes = by takes.taken
  where
    IsSpared : ℕ → Type 0
    IsSpared page = (owner_in pages at page ≡ id) × ((coffer_in pages at id).control ≢ page) × ((coffer_in pages at id).root ≢ page)

    coffer : Coffer
    coffer = coffer_in pages at other

    by : (is_among list (at (coffer_control (coffer_entry pages other))) ≡ true) ⊎ (is_among list (at (coffer_root (coffer_entry pages other))) ≡ true) → ⊥
    by (inl control) =
        let spared = among_all IsSpared list coffer.control all control in
        let mine = (owned pages at other coffer.control (right_of pages at other takes.there (passes.entries other low high)).control).1 in
        spared.1 (ap (λ (k : ℕ). at (coffer_control (coffer_entry pages k))) (sym spared.0 ∙ mine))
    by (inr root) =
        let spared = among_all IsSpared list coffer.root all root in
        let mine = (owned pages at other coffer.root (right_of pages at other takes.there (passes.entries other low high)).root).1 in
        spared.2 (ap (λ (k : ℕ). at (coffer_root (coffer_entry pages k))) (sym spared.0 ∙ mine))

pub shrink_keeps : (callers : Callers) (words : List Word) (holders : List Holder) (thread now id : ℕ) (list : List ℕ) (guard : ℕ × ℕ) → IsWorking words holders
    → IsCaller callers thread (call.Shrink id list guard) → IsCall (call.Shrink id list guard) → first_due (shrink_row words holders thread now id list guard).refusals ≡ None
    → KeepsTables words (shrink_row words holders thread now id list guard)
shrink_keeps callers words holders thread now id list guard w caller is due = record {
  may = owner_may words holders [] 0 list w (All-nil (IsOuter words)) inside;
  spares = table_spares pages (owner_pairs pages 0 list) (owner_words pages 0 list inside);
  tables = λ after same. let back = return_of pages list at after same inside in record {
    owners = return_keeps_owners pages list at after back inside behind passes.owners;
    entries = λ other low high. return_keeps_entries pages list at after back inside other low high (spares_roots pages at id list passes spared other low high) (passes.entries other low high);
    buckets = λ bucket lt. return_keeps_buckets pages list at after back inside bucket lt (passes.buckets bucket lt);
  };
  ids = w.ids;
  held = λ after same. held_still pages at after holders (passed pages 0 list at after same inside).coffers w.ids w.held;
}
  where
    pages : ℕ
    pages = pages_of words

    at : ℕ → ℕ
    at = kernel_word words

    kept : List ℕ
    kept = control_and_root words id

    passes : TablesPass pages at
    passes = tables_of words w.sound

    holds : holds_for_writing thread id holders ≡ true
    holds = not-false (holds_for_writing thread id holders) (test_fails (not (holds_for_writing thread id holders)) answer.NotHeld _ due).0

    there : (is_id id ≡ true) × (stands_in pages at id ≡ true)
    there = writer_there words holders thread id w holds

    good : All (IsGood words id kept list) list
    good =
        let listed = none_due (pages_refused words id (guard.0 ∷ []) id kept list) _ (test_fails (not (holds_for_writing thread id holders)) answer.NotHeld _ due).1 in
        good_pages words id kept list (all_yours (bad_address_page words id (guard.0 ∷ [])) (find (is_bad_page words id kept list) list) listed.0).1

    inside : All (λ page. page < pages) list
    inside = All-weaker (IsGood words id kept list) (λ page. page < pages) (λ page g. g.inside) list good

    behind : All (λ page. kernel_pages pages ≤ page) list
    behind = All-weaker (IsGood words id kept list) (λ page. kernel_pages pages ≤ page) (λ page g. coffers_page pages at id page passes there.0 g.inside g.owner) list good

    spared : All (λ page. (owner_in pages at page ≡ id) × ((coffer_in pages at id).control ≢ page) × ((coffer_in pages at id).root ≢ page)) list
    spared =
        All-weaker (IsGood words id kept list) (λ page. (owner_in pages at page ≡ id) × ((coffer_in pages at id).control ≢ page) × ((coffer_in pages at id).root ≢ page))
        (λ page g.
        let coffer = named_is words id (and_from (is_id id) (stands_in pages at id) there.0 there.1) in
        let first = or_parts (nat_eq (named words id).control page) (nat_eq (named words id).root page || false) g.spares in
        let second = or_parts (nat_eq (named words id).root page) false first.1 in
        (g.owner, λ e. eqb-false (named words id).control page first.0 (ap (λ (c : Coffer). c.control) coffer ∙ e), λ e. eqb-false (named words id).root page second.0 (ap (λ (c : Coffer). c.root) coffer ∙ e)))
        list good
