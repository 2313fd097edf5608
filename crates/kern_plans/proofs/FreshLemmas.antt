-- A coffer that is new.
use Rattle.std.proofs.Common.{◌≡◌, ℕ, ◌<◌, ◌≤◌, List, [], ◌∷◌, ◌++◌, length, take, get_or, Option, Some, None, Result, Ok, Err, ap, ◌∙◌, arith}
use Rattle.std.specs.Prelude.{nat_lt, IfOk}
use Rattle.std.proofs.lemmas.Bool.{lt-ltb, le-ltb}
use Rattle.std.proofs.lemmas.List.{get_or-take, length-take}
use Rattle.pm_words.specs.Word.{Word}
use Rattle.kern_model.specs.KernelView.{pages_of}
use Rattle.kern_model.specs.Journal.{kernel_word}
use Rattle.kern_model.specs.Kernel.{spare_pages}
use Rattle.kern_model.specs.PathMap.{added_pairs}
use Rattle.kern_model.specs.KernelCalls.{Row, first_due, first_page, next_id, pages_short, owner_pairs, link_pair}
use Rattle.kern_model.specs.KernelCalls as calls
use Rattle.tr_types.specs.declared.permission.Cred.{Cred}
use Rattle.zo_layout.specs.Layout.{page_at, page_kind}
use Rattle.tr_types.specs.declared.permission.Perm.{Perm}
use Rattle.tr_types.specs.declared.kernel_call.KernAnswer.{KernAnswer}
use Rattle.tr_types.specs.declared.kernel_call.KernAnswer.TheVariants.{NoPages, Made}
use Rattle.kern_roots.specs.declared.types.Root.{Root}
use Rattle.kern_roots.specs.declared.types.RootState.TheVariants.{Standing}
use Rattle.kern_roots.specs.Changes.{new_coffer}
use Rattle.kern_plans.specs.Plans.{Plan, Plans}
use Rattle.kern_plans.specs.Refusals.{TellsFirstDue, entry_refusals}
use Rattle.kern_plans.specs.Stored.{entry_pairs, plan_of, fresh_pairs, fresh_plan}
use Rattle.kern_plans.proofs.CheckLemmas.{passed_on, refused_plan}
use Rattle.kern_plans.proofs.RowLemmas.{lets_pass, refuses_so, skips}

-- fewer pages were given than asked for: there are no more
pub too_few : (words : List Word) (path : List ℕ) (free : ℕ) → first_due (entry_refusals words path) ≡ None → free ≡ length (take 2 (spare_pages words)) → free < 2
    → first_due (entry_refusals words path ++ pages_short words 2 ∷ []) ≡ Some (NoPages 2 free)
too_few words path free passes is few =
    let size = length-take 2 (spare_pages words) in
    let same : length (spare_pages words) ≡ free = omega arith in
    passed_on (entry_refusals words path) (pages_short words 2 ∷ []) passes
    ∙ ap (λ (o : Option KernAnswer). first_due (o ∷ [])) (refuses_so (nat_lt (length (spare_pages words)) 2) (NoPages 2 (length (spare_pages words))) (lt-ltb (length (spare_pages words)) 2 (omega arith)))
    ∙ ap (λ (n : ℕ). Some (NoPages 2 n)) same

pub enough : (words : List Word) (path : List ℕ) (free : ℕ) → first_due (entry_refusals words path) ≡ None → free ≡ length (take 2 (spare_pages words)) → 2 ≤ free
    → first_due (entry_refusals words path ++ pages_short words 2 ∷ []) ≡ None
enough words path free passes is many =
    let size = length-take 2 (spare_pages words) in
    passed_on (entry_refusals words path) (pages_short words 2 ∷ []) passes
    ∙ skips (pages_short words 2) [] (lets_pass (nat_lt (length (spare_pages words)) 2) (NoPages 2 (length (spare_pages words))) (le-ltb (length (spare_pages words)) 2 (omega arith)))

-- what is stored, and the plan
pub fresh_is : (ws words : List Word) (id control root kind : ℕ) (path granted : List ℕ) (perm : Perm) (added slice pairs : List (ℕ × ℕ)) (link : ℕ × ℕ × ℕ)
    → ws ≡ words → id ≡ next_id ws
    → (let given : Root = record { perm = perm; state = Standing; kind = 0; control = control; root = root } in
    added ≡ added_pairs (pages_of ws) (kernel_word ws) (new_coffer (next_id ws) path given))
    → slice ≡ added → granted ≡ take 2 (spare_pages words) → control ≡ get_or granted 0 0 → root ≡ get_or granted 1 0 → pairs ≡ fresh_pairs ws id granted slice kind link
    → (let plan : Plan = record { answer = Made id; granted = granted; pairs = pairs } in plan ≡ fresh_plan words path perm kind link)
fresh_is ws words id control root kind path granted perm added slice pairs link at id_is added_is slice_is granted_is control_is root_is pairs_is =
    λ i. record { answer = Made (number i); granted = granted_is i; pairs = stored i }
  where
    number : id ≡ next_id words
    number = id_is ∙ ap next_id at

    first : control ≡ get_or (spare_pages words) 0 0
    first = control_is ∙ ap (λ (xs : List ℕ). get_or xs 0 0) granted_is ∙ get_or-take 2 (spare_pages words) 0 0 (omega arith)

    second : root ≡ get_or (spare_pages words) 1 0
    second = root_is ∙ ap (λ (xs : List ℕ). get_or xs 1 0) granted_is ∙ get_or-take 2 (spare_pages words) 1 0 (omega arith)

    entry : slice ≡ entry_pairs words path perm (first_page (spare_pages words)) (get_or (spare_pages words) 1 0)
    entry =
        slice_is ∙ added_is
        ∙ ap (λ (w : List Word). entry_pairs w path perm control root) at
        ∙ ap (λ (c : ℕ). entry_pairs words path perm c root) first
        ∙ ap (λ (r : ℕ). entry_pairs words path perm (first_page (spare_pages words)) r) second

    stored : pairs ≡ fresh_pairs words (next_id words) (take 2 (spare_pages words)) (entry_pairs words path perm (first_page (spare_pages words)) (get_or (spare_pages words) 1 0)) kind link
    stored =
        pairs_is
        ∙ ap (λ (w : List Word). fresh_pairs w id granted slice kind link) at
        ∙ ap (λ (k : ℕ). fresh_pairs words k granted slice kind link) number
        ∙ ap (λ (xs : List ℕ). fresh_pairs words (next_id words) xs slice kind link) granted_is
        ∙ ap (λ (ps : List (ℕ × ℕ)). fresh_pairs words (next_id words) (take 2 (spare_pages words)) ps kind link) entry

-- a plan that passes all refusals of its row is the row's
pub plans_so : (row : Row) (result : Result Plan KernAnswer) → TellsFirstDue row.refusals result → IfOk result (λ plan. plan ≡ plan_of row) → length row.granted ≤ 1024 → Plans row result
plans_so row (Ok plan) passes is few = record {
  due = passes;
  answer = λ i. (is i).answer;
  granted = λ i. (is i).granted;
  pairs = λ i. (is i).pairs;
  few = let same = ap (λ (p : Plan). length p.granted) is in omega arith;
}
plans_so row (Err refusal) passes is few = refused_plan Plan row refusal passes

pub at_most_two : (words : List Word) → length (take 2 (spare_pages words)) ≤ 1024
at_most_two words = let size = length-take 2 (spare_pages words) in omega arith

-- the plan of a New, by the credentials of its caller
abbrev pub new_plan : List Word → Cred → List ℕ → ℕ → ℕ → (ℕ × ℕ × ℕ) → Plan
new_plan words cred path kind mode link = record {
  answer = Made (next_id words);
  granted = take 2 (spare_pages words);
  pairs =
      owner_pairs words (next_id words) (take 2 (spare_pages words))
      ++ (added_pairs (pages_of words) (kernel_word words) (calls.new_coffer words cred path mode) ++ ((page_kind (page_at (get_or (spare_pages words) 1 0)), kind) ∷ link_pair link ∷ []));
}

pub new_plan_is : (words : List Word) (cred : Cred) (path : List ℕ) (kind mode : ℕ) (link : ℕ × ℕ × ℕ)
    → (let perm : Perm = record { uid = cred.uid; gid = cred.gid; mode = mode } in fresh_plan words path perm kind link ≡ new_plan words cred path kind mode link)
new_plan_is words cred path kind mode link = λ i. record {
  answer = Made (next_id words);
  granted = take 2 (spare_pages words);
  pairs = ap pairs_by (get_or-take 2 (spare_pages words) 1 0 (omega arith)) i;
}
  where
    pairs_by : ℕ → List (ℕ × ℕ)
    pairs_by root =
        owner_pairs words (next_id words) (take 2 (spare_pages words))
        ++ (added_pairs (pages_of words) (kernel_word words) (calls.new_coffer words cred path mode) ++ ((page_kind (page_at root), kind) ∷ link_pair link ∷ []))
