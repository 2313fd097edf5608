use Rattle.page_rights.proofs.PageLemmas.{puts_these_pages}
use Rattle.page_rights.proofs.laws.pages_law.Goals as goal

pub returns : goal.returns
returns c = puts_these_pages
