use Rattle.std.proofs.Common.{◌≡◌, take, length}
use Rattle.page_rights.specs.Tables.{with_pages}
use Rattle.page_rights.proofs.mapping.put_pages.Given as goal

abbrev pub invariant-loop-page : goal.invariant-loop-page
invariant-loop-page l = (l.owners ≡ with_pages l.id (take l.page-index l.pages) l.initial.owners) × (length l.owners ≡ length l.initial.owners)
