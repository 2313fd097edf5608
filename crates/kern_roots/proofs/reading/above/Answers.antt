use Rattle.std.proofs.Common.{◌≡◌, ◌⊎◌, inl, inr, ℕ, ◌<◌, ◌≤◌, ◌-◌, List, length, Option, Some, None, sym, ap, ◌∙◌, arith, refl, true}
use Rattle.std.specs.Prelude.{option_map}
use Rattle.pm_words.specs.Word.{Word}
use Rattle.kern_model.specs.Kernel.{coffers}
use Rattle.kern_model.specs.KernelRules.{IsSoundKernel}
use Rattle.kern_model.specs.KernelTables.{Coffer}
use Rattle.tr_types.specs.Paths.{is_path_text}
use Rattle.kern_model.specs.PathMap.{coffer_above}
use Rattle.kern_roots.specs.Entries.{coffer_of}
use Rattle.kern_roots.specs.Fronts.{coffer_within}
use Rattle.kern_roots.proofs.ReadingTexts.{slash, path_size}
use Rattle.kern_roots.proofs.ReadingFronts.{root_path, within_above}
use Rattle.kern_roots.proofs.ReadingChildren.{root_is_highest}
use Rattle.kern_roots.proofs.reading.above.Goals as goal

none_above_root : (words : List Word) (path : List ℕ) → IsSoundKernel words → is_path_text path ≡ true → length path < 2 → coffer_above (coffers words) path ≡ None
none_above_root words path sound is_path short = by (path_size path is_path)
  where
    by : (path ≡ slash) ⊎ (2 ≤ length path) → coffer_above (coffers words) path ≡ None
    by (inl root) = ap (λ (text : List ℕ). coffer_above (coffers words) text) (root ∙ sym (root_path words sound)) ∙ root_is_highest words sound
    by (inr two) = absurd (omega arith)

above_is : (words : List Word) (path : List ℕ) (id most : ℕ) → 2 ≤ length path → most ≡ length path - 1 → coffer_within (coffers words) path most ≡ Some (coffer_of words id)
    → Some id ≡ option_map (λ (c : Coffer). c.id) (coffer_above (coffers words) path)
above_is words path id most two is longest =
    sym (ap (λ (found : Option Coffer). option_map (λ (c : Coffer). c.id) found) (within_above (coffers words) path two ∙ ap (λ (n : ℕ). coffer_within (coffers words) path n) (sym is) ∙ longest))

pub returns-then-bytes-lt2 : goal.returns-then-bytes-lt2
returns-then-bytes-lt2 c =
    let size = ap (λ (xs : List ℕ). length xs) c.as_bytes-bytes.ensures in
    let short = c.if-bytes-lt2.true in
    sym (ap (λ (found : Option Coffer). option_map (λ (c : Coffer). c.id) found) (none_above_root c.args.words.now c.args.path.now c.requires.sound c.requires.path (omega arith)))

pub returns : goal.returns
returns c =
    let bytes = c.as_bytes-bytes.result.now in
    let long = c.if-bytes-lt2.false in
    above_is c.args.words.now bytes c.longest_front.result.id (length bytes - 1) (omega arith) refl c.longest_front.ensures.coffer
    ∙ ap (λ (text : List ℕ). option_map (λ (c : Coffer). c.id) (coffer_above (coffers c.args.words.now) text)) c.as_bytes-bytes.ensures
