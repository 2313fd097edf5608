use Rattle.std.proofs.Common.{◌≡◌, ℕ, ◌-◌, List, length, take, drop, min, ap, ◌∙◌}
use Rattle.std.proofs.lemmas.List.{take_rest}
use Rattle.tr_outside.specs.Memory.{SourceState}
use Rattle.tr_outside.proofs.Known.{read_front}
use Rattle.tr_outside.proofs.memory.MemSourceSource.read.Goals as goal

pub returns-clause-bytes : goal.returns-clause-bytes
returns-clause-bytes c =
    let held = c.deref-2.result.now in
    let at = c.self.inside.at in
    let count = c.min-count.result in
    let is_left : drop at c.self.inside.bytes.items ≡ c.args.self.now.left = ap (λ (s : SourceState). s.left) c.self.view_is in
    let window : take (length held - at) (drop at held) ≡ c.args.self.now.left = take_rest held at ∙ ap (drop at) c.deref-2.ensures.value ∙ is_left in
    read_front c.self.inside.bytes.items c.args.into.now c.copy_from_slice.new.self c.args.self.now.left at count is_left
    (c.copy_from_slice.ensures.after ∙ ap (take count) window)
    (c.min-count.ensures ∙ ap (λ (l : List ℕ). min (length c.args.into.now) (length l)) window)
