use Rattle.std.proofs.Common.{◌≡◌, drop}
use Rattle.std.specs.Prelude.{find}
use Rattle.kern_model.specs.KernelCalls as calls
use Rattle.kern_plans.proofs.checks.first_bad_page.Given as goal

abbrev pub invariant-loop-page : goal.invariant-loop-page
invariant-loop-page l = find (calls.is_bad_page l.asked.words l.id l.kept l.pages) (drop l.page-index l.pages) ≡ find (calls.is_bad_page l.asked.words l.id l.kept l.pages) l.pages
