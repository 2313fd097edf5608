use Rattle.std.proofs.Common.{◌<◌, length, Option, sym, subst}
use Rattle.std.specs.Option.{IfSome}
use Rattle.pm_words.specs.View.{Held, look}
use Rattle.pm_words.proofs.PlaceLemmas.{line_fenced}
use Rattle.pm_words.proofs.LineLemmas.{pending_set, others_set}
use Rattle.pm_words.proofs.fences.forget_line.Goals as goal

pub returns-in-Some-clause-pending : goal.returns-in-Some-clause-pending
returns-in-Some-clause-pending c = λ count pending.
    let was = c.in-Some.words.now in
    let now = c.fence.new.self in
    let is = (c.get_mut.follows.holds now).0 in
    let found = sym c.in-Some.ensures.value in
    let less = subst (λ (o : Option Held). IfSome o (λ h. look h.marks c.args.thread < length h.older)) found c.requires in
    pending_set count c.args.pending.now.entries _ c.args.line was now found is (others_set c.args.pending.now.entries _ c.args.line now is)
    (λ held. line_fenced count c.args.line c.args.thread was now held less c.fence.ensures.fenced) pending
