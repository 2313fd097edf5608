-- The row of a Split.
use Rattle.std.proofs.Common.{◌≡◌, ℕ, true, false, List, [], ◌∷◌, ◌++◌, take, None, Result, Ok, Err, IfOk, refl, sym, ap, ◌∙◌, arith, length}
use Rattle.std.proofs.lemmas.Bool.{eq-eqb, eqb-true}
use Rattle.pm_words.specs.Word.{Word}
use Rattle.kern_model.specs.KernelView.{pages_of}
use Rattle.kern_model.specs.Journal.{kernel_word}
use Rattle.kern_model.specs.Kernel.{spare_pages}
use Rattle.kern_model.specs.PathMap.{added_pairs}
use Rattle.kern_model.specs.KernelCalls.{Callers, Row, row_of_maps, first_due, named, next_id, pages_short, control_and_root, is_same_mode, split_coffer, split_refused, split_row}
use Rattle.tr_types.specs.declared.permission.Perm.{Perm}
use Rattle.tr_types.specs.declared.kernel_call.Holder.{Holder}
use Rattle.tr_types.specs.declared.kernel_call.KernAnswer.{KernAnswer}
use Rattle.tr_types.specs.declared.kernel_call.KernAnswer.TheVariants.{Same, Made}
use Rattle.kern_plans.specs.Plans.{Plan, Plans}
use Rattle.kern_plans.specs.Links.{linking_of}
use Rattle.kern_plans.specs.Refusals.{TellsFirstDue, entry_refusals, piece_refusals}
use Rattle.kern_plans.specs.Stored.{piece_pairs, piece_plan}
use Rattle.kern_plans.proofs.CheckLemmas.{passed_on}
use Rattle.kern_plans.proofs.MoveLemmas.{plan_stopped, plan_from, plan_of_two, few_first}

-- the row where the mode is the coffer's, and where it is another
abbrev same_row : Callers → List Word → List Holder → ℕ → ℕ → Row
same_row callers words holders thread id = row_of_maps (split_refused callers words holders thread id) Same holders

abbrev other_row : Callers → List Word → List Holder → ℕ → ℕ → ℕ → List ℕ → List ℕ → ℕ → (ℕ × ℕ × ℕ) → (ℕ × ℕ) → Row
other_row callers words holders thread now id path pages mode link guard = record {
  refusals =
      split_refused callers words holders thread id
      ++ (piece_refusals words now id path (control_and_root words id) pages (linking_of link guard) ++ (entry_refusals words path ++ pages_short words 1 ∷ []));
  answer = Made (next_id words);
  granted = take 1 (spare_pages words);
  pairs = piece_pairs words (next_id words) pages (take 1 (spare_pages words)) (added_pairs (pages_of words) (kernel_word words) (split_coffer words id path pages mode)) link;
  holders = holders;
}

-- it is refused before the mode counts
pub split_stopped : (callers : Callers) (words : List Word) (holders : List Holder) (thread now id : ℕ) (path pages : List ℕ) (mode : ℕ) (link : ℕ × ℕ × ℕ) (guard : ℕ × ℕ)
    (refusal given : KernAnswer) (result : Result Plan KernAnswer) → result ≡ Err given → given ≡ refusal
    → TellsFirstDue {X = Unit {0}} (split_refused callers words holders thread id) (Err refusal) → Plans (split_row callers words holders thread now id path pages mode link guard) result
split_stopped callers words holders thread now id path pages mode link guard refusal given result err same refused =
    plan_of_two (is_same_mode words id mode) (same_row callers words holders thread id) (other_row callers words holders thread now id path pages mode link guard) result
    (λ is. plan_stopped (Unit {0}) (same_row callers words holders thread id) [] (split_refused callers words holders thread id) [] refusal given result refl err same refl refused)
    (λ isnt. plan_stopped (Unit {0}) (other_row callers words holders thread now id path pages mode link guard) [] (split_refused callers words holders thread id)
    (piece_refusals words now id path (control_and_root words id) pages (linking_of link guard) ++ (entry_refusals words path ++ pages_short words 1 ∷ [])) refusal given result refl err same refl refused)

-- the coffer has the mode
pub split_same : (callers : Callers) (words : List Word) (holders : List Holder) (thread now id : ℕ) (path pages : List ℕ) (mode : ℕ) (link : ℕ × ℕ × ℕ) (guard : ℕ × ℕ)
    (plan : Plan) → first_due (split_refused callers words holders thread id) ≡ None → (named words id).perm.mode ≡ mode
    → (let same : Plan = record { answer = Same; granted = []; pairs = [] } in plan ≡ same) → Plans (split_row callers words holders thread now id path pages mode link guard) (Ok plan)
split_same callers words holders thread now id path pages mode link guard plan passes same plan_is =
    plan_of_two (is_same_mode words id mode) (same_row callers words holders thread id) (other_row callers words holders thread now id path pages mode link guard) (Ok plan)
    (λ is. record {
      due = passes;
      answer = ap (λ (p : Plan). p.answer) plan_is;
      granted = ap (λ (p : Plan). p.granted) plan_is;
      pairs = ap (λ (p : Plan). p.pairs) plan_is;
      few = let size = ap (λ (p : Plan). length p.granted) plan_is in omega arith;
    })
    (λ isnt. let both : true ≡ false = sym (eq-eqb (named words id).perm.mode mode same) ∙ isnt in cc)

-- it has another: what refuses the split
pub split_refused_later : (callers : Callers) (words : List Word) (holders : List Holder) (thread now id : ℕ) (path pages : List ℕ) (mode : ℕ) (link : ℕ × ℕ × ℕ) (guard : ℕ × ℕ)
    (refusal given : KernAnswer) (result : Result Plan KernAnswer) → first_due (split_refused callers words holders thread id) ≡ None → ((named words id).perm.mode ≡ mode → ⊥)
    → result ≡ Err given → given ≡ refusal
    → TellsFirstDue {X = Unit {0}} (piece_refusals words now id path (control_and_root words id) pages (linking_of link guard)) (Err refusal)
    → Plans (split_row callers words holders thread now id path pages mode link guard) result
split_refused_later callers words holders thread now id path pages mode link guard refusal given result passes other err same refused =
    plan_of_two (is_same_mode words id mode) (same_row callers words holders thread id) (other_row callers words holders thread now id path pages mode link guard) result
    (λ is. absurd (other (eqb-true (named words id).perm.mode mode is)))
    (λ isnt. plan_stopped (Unit {0}) (other_row callers words holders thread now id path pages mode link guard) (split_refused callers words holders thread id)
    (piece_refusals words now id path (control_and_root words id) pages (linking_of link guard)) (entry_refusals words path ++ pages_short words 1 ∷ []) refusal given result refl err same passes refused)

-- and where nothing does until then
pub split_planned : (callers : Callers) (words : List Word) (holders : List Holder) (thread now id : ℕ) (path pages : List ℕ) (mode : ℕ) (link : ℕ × ℕ × ℕ) (guard : ℕ × ℕ)
    (perm : Perm) (result : Result Plan KernAnswer) → first_due (split_refused callers words holders thread id) ≡ None → ((named words id).perm.mode ≡ mode → ⊥)
    → first_due (piece_refusals words now id path (control_and_root words id) pages (linking_of link guard)) ≡ None
    → (let new : Perm = record { uid = (named words id).perm.uid; gid = (named words id).perm.gid; mode = mode } in perm ≡ new)
    → TellsFirstDue (entry_refusals words path ++ pages_short words 1 ∷ []) result → IfOk result (λ plan. plan ≡ piece_plan words path perm pages link)
    → Plans (split_row callers words holders thread now id path pages mode link guard) result
split_planned callers words holders thread now id path pages mode link guard perm result passes other checked perm_is room plan_is =
    plan_of_two (is_same_mode words id mode) (same_row callers words holders thread id) (other_row callers words holders thread now id path pages mode link guard) result
    (λ is. absurd (other (eqb-true (named words id).perm.mode mode is)))
    (λ isnt. plan_from (other_row callers words holders thread now id path pages mode link guard)
    (split_refused callers words holders thread id ++ piece_refusals words now id path (control_and_root words id) pages (linking_of link guard)) (entry_refusals words path ++ pages_short words 1 ∷ [])
    (piece_plan words path perm pages link) result refl
    (passed_on (split_refused callers words holders thread id) (piece_refusals words now id path (control_and_root words id) pages (linking_of link guard)) passes ∙ checked) room plan_is
    (ap (λ (p : Perm). piece_plan words path p pages link) perm_is) (few_first (spare_pages words)))
