use Rattle.std.proofs.Common.{[], ◌∷◌, not, find}
use Rattle.kern_model.specs.KernelCalls as calls
use Rattle.tr_types.specs.declared.kernel_call.KernAnswer.TheVariants.{NotHeld}
use Rattle.kern_plans.specs.Links.{guard_of}
use Rattle.kern_plans.proofs.CheckLemmas.{first_none, none_bad, listed_inside}
use Rattle.kern_plans.proofs.calls.shrink.shrink.Goals as goal

pub freed-requires : goal.freed-requires
freed-requires c =
    let words = c.args.asked.now.words in
    let id = c.args.id in
    let pages = c.as_slice-pages.result.now in
    let guard = c.new-guard.result in
    let kept = calls.control_and_root words id in
    let later = first_none (calls.refused_where (not (calls.holds_for_writing c.args.asked.now.thread id c.args.asked.now.holders)) NotHeld)
    (calls.pages_refused words id (guard.addr ∷ []) id kept pages ∷ calls.guard_refused words c.args.asked.now.tick (guard_of guard) ∷ []) c.in_ok-check_shrink.ensures in
    let listed = first_none (calls.pages_refused words id (guard.addr ∷ []) id kept pages) (calls.guard_refused words c.args.asked.now.tick (guard_of guard) ∷ []) later.1 in
    let none = none_bad (calls.bad_address_page words id (guard.addr ∷ [])) (find (calls.is_bad_page words id kept pages) pages) listed.0 in
    listed_inside words id kept pages pages none
