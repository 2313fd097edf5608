use Rattle.std.proofs.Common.{◌≡◌, ℕ, List, length, replicate, sym, ap, ◌∙◌, arith}
use Rattle.std.specs.Vec.{vec_len}
use Rattle.pm_words.specs.Crash.{after_crash}
use Rattle.pm_words.specs.declared.choice.Choice.{Choice}
use Rattle.bus_model.proofs.Registers.{closed_pkrus_are, length_closed_pkrus}
use Rattle.bus_machine.specs.Calls.{with_crash}
use Rattle.bus_machine.proofs.Stores.{whole}
use Rattle.bus_machine.proofs.Viewed.{view_crashed}
use Rattle.bus_machine.proofs.bus.Bus.crash.Goals as goal

pub returns : goal.returns
returns c =
    let self = c.self.inside in
    let count = c.self.invariant.count in
    let full : vec_len self.pkrus ≡ 256 = omega (arith, count) in
    let closed = c.fill.ensures.items (λ y e. e) ∙ ap (λ (n : ℕ). replicate n c.closed.result.0) full ∙ ap (λ (x : ℕ). replicate 256 x) c.closed.ensures ∙ sym closed_pkrus_are in
    view_crashed self.words self.kernel c.end_all.new.self self.pkrus.items c.fill.new.self.items self.down self.failed c.args.pick c.crash.new.self
    (c.crash.ensures.words ∙ ap (λ (choice : Choice). after_crash choice self.words) c.choice_of.ensures) c.end_all.ensures closed
    ∙ ap (with_crash c.args.pick) c.self.view_is

pub invariant_of-self : goal.invariant_of-self
invariant_of-self c =
    let count = c.self.invariant.count in
    let full : vec_len c.self.inside.pkrus ≡ 256 = omega (arith, count) in
    let len = c.fill.ensures.len in
    whole (omega (arith, full, len)) (λ up. let no = up.1 in absurd (cc))
