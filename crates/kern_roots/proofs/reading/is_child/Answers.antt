use Rattle.std.proofs.Common.{◌≡◌, ℕ, ◌-◌, List, length, sym, ap, ◌∙◌, arith}
use Rattle.kern_model.specs.Kernel.{coffers}
use Rattle.tr_types.specs.Paths.{is_path_text}
use Rattle.kern_roots.specs.Fronts.{coffer_within, is_child_of}
use Rattle.kern_roots.proofs.ReadingSound.{sound_entry}
use Rattle.kern_roots.proofs.ReadingChildren.{other_path, root_is_no_child, missing_is_no_child, child_is}
use Rattle.kern_roots.proofs.reading.is_child.Goals as goal
use Rattle.kern_roots.proofs.reading.is_child.Goals.{then-other-eq-ROOT_COFFER-via-then-other-eq-ROOT_COFFER, then-other-eq-ROOT_COFFER-via-else-other-eq-ROOT_COFFER+then-not-is_there}

pub returns-then-other-eq-ROOT_COFFER : goal.returns-then-other-eq-ROOT_COFFER
returns-then-other-eq-ROOT_COFFER c = elim c.then-other-eq-ROOT_COFFER.branch [
  | then-other-eq-ROOT_COFFER-via-then-other-eq-ROOT_COFFER w ↦
      sym (ap (λ (other : ℕ). is_child_of c.args.words.now other c.args.id) w.if-other-eq-ROOT_COFFER.true ∙ root_is_no_child c.args.words.now c.args.id c.requires.sound)
  | then-other-eq-ROOT_COFFER-via-else-other-eq-ROOT_COFFER+then-not-is_there w ↦
      sym (missing_is_no_child c.args.words.now c.args.other c.args.id (sym w.is_there.ensures ∙ w.if-not-is_there.true))
]

pub overflow_sub-len : goal.overflow_sub-len
overflow_sub-len c =
    let there = sym c.is_there.ensures ∙ c.if-not-is_there.false in
    let long = other_path c.args.words.now c.args.other c.requires.sound there c.if-other-eq-ROOT_COFFER.false in
    let size = ap (λ (xs : List ℕ). length xs) c.in_ok-path.ensures in
    let len = c.len.ensures in
    omega arith

pub longest_front-requires-clause-path : goal.longest_front-requires-clause-path
longest_front-requires-clause-path c =
    let there = sym c.is_there.ensures ∙ c.if-not-is_there.false in
    ap is_path_text (c.deref.ensures.value ∙ c.in_ok-path.ensures) ∙ (sound_entry c.args.words.now c.args.other c.requires.sound there).path

pub longest_front-requires-clause-least : goal.longest_front-requires-clause-least
longest_front-requires-clause-least c =
    let there = sym c.is_there.ensures ∙ c.if-not-is_there.false in
    let long = other_path c.args.words.now c.args.other c.requires.sound there c.if-other-eq-ROOT_COFFER.false in
    let size = ap (λ (xs : List ℕ). length xs) c.in_ok-path.ensures in
    let len = c.len.ensures in
    omega arith

pub returns : goal.returns
returns c =
    let there = sym c.is_there.ensures ∙ c.if-not-is_there.false in
    let long = other_path c.args.words.now c.args.other c.requires.sound there c.if-other-eq-ROOT_COFFER.false in
    let most : c.len.result ≡ length c.deref.result.now = let l = c.len.ensures in let d = c.deref.ensures.len in omega arith in
    child_is c.args.words.now c.deref.result.now c.args.other c.args.id c.longest_front.result.id (c.deref.ensures.value ∙ c.in_ok-path.ensures) there long
    (ap (λ (n : ℕ). coffer_within (coffers c.args.words.now) c.deref.result.now (n - 1)) (sym most) ∙ c.longest_front.ensures.coffer)
