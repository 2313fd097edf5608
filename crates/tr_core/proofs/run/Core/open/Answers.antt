use Rattle.std.proofs.Common.{◌≡◌, List, ℕ, Err, refl, sym, ap, subst, ◌∙◌}
use Rattle.pm_words.specs.Memory.{all_durable}
use Rattle.kern_calls.specs.declared.mount.MountFault.{MountFault}
use Rattle.tr_types.specs.declared.entry.Entry.{Entry}
use Rattle.tr_model.specs.Worlds.{world_of}
use Rattle.tr_core.specs.Places.{place_in}
use Rattle.tr_core.specs.Standing.{Stands, due_of}
use Rattle.tr_core.specs.Traces.{IsTraceOf, world_after}
use Rattle.tr_core.proofs.Keeps.{due_is}
use Rattle.tr_core.proofs.Opening.{no_fault, opens_bus, opens_image, opens_standing, opens_trace}
use Rattle.tr_core.proofs.run.Core.open.Goals as goal

pub unreachable-requires : goal.unreachable-requires
unreachable-requires c =
    let first = c.in-Err-BadKernel.ensures.bad c.in-Err-BadKernel.field-0-0 (ap (λ (f : MountFault). Err f) c.in-Err-BadKernel.field-0-is) in
    no_fault c.args.words c.requires.pages c.in-Err-BadKernel.field-0-0 c.requires.image c.requires.least c.requires.most first

pub invariant_of-result : goal.invariant_of-result
invariant_of-result c =
    let image = opens_image c.args.words c.opening.inside.words.items c.requires.pages c.requires.image (c.opening.view_is ∙ c.in_ok-opening.ensures.ok) in
    let bus = opens_bus _ c.args.words c.requires.pages c.open_law.ensures c.requires.image c.requires.least c.requires.most c.in-Ok.ensures.bus in (
      subst (λ (t : List Entry). IsTraceOf c.opening.inside.words.items t) (sym c.new-2.ensures) (opens_trace c.opening.inside.words.items),
      λ works.
          subst (λ (t : List Entry). Stands (world_after c.opening.inside.words.items t) c.in-Ok.machine (place_in c.in_ok-new.field-0)) (sym c.new-2.ensures)
          (subst (λ (i : List ℕ). Stands (world_of i) c.in-Ok.machine (place_in c.in_ok-new.field-0)) (sym image)
          (opens_standing c.requires.pages c.requires.least c.requires.most c.in-Ok.machine c.in-Ok.ensures.works bus c.in-Ok.ensures.up.1 c.in-Ok.ensures.up.0 (place_in c.in_ok-new.field-0) c.in_ok-new.ensures)),
    )

pub returns-clause-opening : goal.returns-clause-opening
returns-clause-opening c = c.requires.image ∙ ap all_durable (sym (opens_image c.args.words c.opening.inside.words.items c.requires.pages c.requires.image (c.opening.view_is ∙ c.in_ok-opening.ensures.ok)))

pub returns-clause-quiet : goal.returns-clause-quiet
returns-clause-quiet c = λ t. due_is c.in_ok-new.field-0 t ∙ ap due_of (c.in_ok-new.ensures t)
