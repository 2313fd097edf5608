-- A coffer that is split off another.
use Rattle.std.proofs.Common.{◌≡◌, ℕ, ◌≤◌, List, [], ◌∷◌, ◌++◌, length, take, get_or, Option, Some, None, refl, ap, ◌∙◌, arith}
use Rattle.std.specs.Prelude.{nat_lt}
use Rattle.std.proofs.lemmas.Bool.{lt-ltb, le-ltb}
use Rattle.std.proofs.lemmas.List.{get_or-take}
use Rattle.pm_words.specs.Word.{Word}
use Rattle.kern_model.specs.KernelView.{pages_of}
use Rattle.kern_model.specs.Journal.{kernel_word}
use Rattle.kern_model.specs.Kernel.{spare_pages}
use Rattle.kern_model.specs.PathMap.{added_pairs}
use Rattle.kern_model.specs.KernelCalls.{first_due, first_page, next_id, pages_short}
use Rattle.tr_types.specs.declared.permission.Perm.{Perm}
use Rattle.tr_types.specs.declared.kernel_call.KernAnswer.{KernAnswer}
use Rattle.tr_types.specs.declared.kernel_call.KernAnswer.TheVariants.{NoPages, Made}
use Rattle.kern_roots.specs.declared.types.Root.{Root}
use Rattle.kern_roots.specs.declared.types.RootState.TheVariants.{Standing}
use Rattle.kern_roots.specs.Changes.{new_coffer}
use Rattle.kern_plans.specs.Plans.{Plan}
use Rattle.kern_plans.specs.Refusals.{entry_refusals}
use Rattle.kern_plans.specs.Stored.{entry_pairs, piece_pairs, piece_plan}
use Rattle.kern_plans.proofs.CheckLemmas.{passed_on}
use Rattle.kern_plans.proofs.RowLemmas.{lets_pass, refuses_so, skips}

none_at_all : (xs : List ℕ) → length (take 1 xs) ≡ 0 → length xs ≡ 0
none_at_all [] none = refl
none_at_all (x ∷ xs) none = absurd (omega arith)

some_of_all : (xs : List ℕ) → (length (take 1 xs) ≡ 0 → ⊥) → 1 ≤ length xs
some_of_all [] some = absurd (some refl)
some_of_all (x ∷ xs) some = omega arith

pub none_free : (words : List Word) (path : List ℕ) → first_due (entry_refusals words path) ≡ None → length (take 1 (spare_pages words)) ≡ 0
    → first_due (entry_refusals words path ++ pages_short words 1 ∷ []) ≡ Some (NoPages 1 0)
none_free words path passes none =
    let free = none_at_all (spare_pages words) none in
    passed_on (entry_refusals words path) (pages_short words 1 ∷ []) passes
    ∙ ap (λ (o : Option KernAnswer). first_due (o ∷ [])) (refuses_so (nat_lt (length (spare_pages words)) 1) (NoPages 1 (length (spare_pages words))) (lt-ltb (length (spare_pages words)) 1 (omega arith)))
    ∙ ap (λ (n : ℕ). Some (NoPages 1 n)) free

pub some_free : (words : List Word) (path : List ℕ) → first_due (entry_refusals words path) ≡ None → (length (take 1 (spare_pages words)) ≡ 0 → ⊥)
    → first_due (entry_refusals words path ++ pages_short words 1 ∷ []) ≡ None
some_free words path passes some =
    passed_on (entry_refusals words path) (pages_short words 1 ∷ []) passes
    ∙ skips (pages_short words 1) [] (lets_pass (nat_lt (length (spare_pages words)) 1) (NoPages 1 (length (spare_pages words))) (le-ltb (length (spare_pages words)) 1 (some_of_all (spare_pages words) some)))

-- what is stored, and the plan
pub piece_is : (ws words : List Word) (id control root : ℕ) (path pages granted : List ℕ) (perm : Perm) (added slice pairs : List (ℕ × ℕ)) (link : ℕ × ℕ × ℕ)
    → ws ≡ words → id ≡ next_id ws
    → (let given : Root = record { perm = perm; state = Standing; kind = 0; control = control; root = root } in
    added ≡ added_pairs (pages_of ws) (kernel_word ws) (new_coffer (next_id ws) path given))
    → slice ≡ added → granted ≡ take 1 (spare_pages words) → control ≡ get_or granted 0 0 → root ≡ get_or pages 0 0 → pairs ≡ piece_pairs ws id pages granted slice link
    → (let plan : Plan = record { answer = Made id; granted = granted; pairs = pairs } in plan ≡ piece_plan words path perm pages link)
piece_is ws words id control root path pages granted perm added slice pairs link at id_is added_is slice_is granted_is control_is root_is pairs_is =
    λ i. record { answer = Made (number i); granted = granted_is i; pairs = stored i }
  where
    number : id ≡ next_id words
    number = id_is ∙ ap next_id at

    first : control ≡ get_or (spare_pages words) 0 0
    first = control_is ∙ ap (λ (xs : List ℕ). get_or xs 0 0) granted_is ∙ get_or-take 1 (spare_pages words) 0 0 (omega arith)

    entry : slice ≡ entry_pairs words path perm (first_page (spare_pages words)) (first_page pages)
    entry =
        slice_is ∙ added_is
        ∙ ap (λ (w : List Word). entry_pairs w path perm control root) at
        ∙ ap (λ (c : ℕ). entry_pairs words path perm c root) first
        ∙ ap (λ (r : ℕ). entry_pairs words path perm (first_page (spare_pages words)) r) root_is

    stored : pairs ≡ piece_pairs words (next_id words) pages (take 1 (spare_pages words)) (entry_pairs words path perm (first_page (spare_pages words)) (first_page pages)) link
    stored =
        pairs_is
        ∙ ap (λ (w : List Word). piece_pairs w id pages granted slice link) at
        ∙ ap (λ (k : ℕ). piece_pairs words k pages granted slice link) number
        ∙ ap (λ (xs : List ℕ). piece_pairs words (next_id words) pages xs slice link) granted_is
        ∙ ap (λ (ps : List (ℕ × ℕ)). piece_pairs words (next_id words) pages (take 1 (spare_pages words)) ps link) entry
