use Rattle.page_rights.proofs.RegisterLemmas.{only_one_key, closed_to_all}
use Rattle.page_rights.proofs.laws.register_law.Goals as goal

pub returns-clause-one : goal.returns-clause-one
returns-clause-one c = only_one_key

pub returns-clause-none : goal.returns-clause-none
returns-clause-none c = closed_to_all
