use Rattle.std.proofs.Common.{◌∙◌, ℕ, ◌≤◌, List, length, ap, arith}
use Rattle.std.specs.Prelude.{option_map}
use Rattle.pm_words.specs.Word.{Word}
use Rattle.kern_model.specs.Kernel.{coffers}
use Rattle.kern_model.specs.KernelTables.{Coffer}
use Rattle.kern_model.specs.PathMap.{coffer_above}
use Rattle.kern_plans.proofs.DirectoryLemmas.{bad_by_size, bad_by_length, bad_by_place}
use Rattle.kern_plans.proofs.checks.is_bad_new_path.Goals as goal
use Rattle.kern_plans.proofs.checks.is_bad_new_path.Goals.{then-len-lt2-via-then-len-lt2, then-len-lt2-via-else-len-lt2+then-len-gt-MOST_PATH_BYTES}

pub returns-then-len-lt2 : goal.returns-then-len-lt2
returns-then-len-lt2 c =
    let size = ap (λ (xs : List ℕ). length xs) c.as_bytes-len.ensures in
    elim c.then-len-lt2.branch [
      | then-len-lt2-via-then-len-lt2 w ↦
          let short = w.if-len-lt2.true in
          bad_by_size (coffers c.args.asked.now.words) c.args.path.now c.args.parent c.requires (omega arith)
      | then-len-lt2-via-else-len-lt2+then-len-gt-MOST_PATH_BYTES w ↦
          let long = w.if-len-gt-MOST_PATH_BYTES.true in
          bad_by_length (coffers c.args.asked.now.words) c.args.path.now c.args.parent (omega arith)
    ]

pub returns : goal.returns
returns c =
    let size = ap (λ (xs : List ℕ). length xs) c.as_bytes-len.ensures in
    let two = c.if-len-lt2.false in
    let most : length c.as_bytes-len.result.now ≤ 440 = c.if-len-gt-MOST_PATH_BYTES.false in
    c.ne.ensures
    ∙ bad_by_place (coffers c.args.asked.now.words) c.args.path.now c.args.parent c.above.result c.requires (omega arith) (omega arith)
    (c.above.ensures ∙ ap (λ (words : List Word). option_map (λ (c : Coffer). c.id) (coffer_above (coffers words) c.args.path.now)) c.words.ensures.words)
