use Rattle.page_rights.proofs.LawLemmas.{opens_its_coffer_alone, closed_opens_nothing, no_key_means_fifteen_others}
use Rattle.page_rights.proofs.laws.keys_law.Goals as goal

pub returns-clause-alone : goal.returns-clause-alone
returns-clause-alone c = opens_its_coffer_alone

pub returns-clause-nothing : goal.returns-clause-nothing
returns-clause-nothing c = closed_opens_nothing

pub returns-clause-fifteen : goal.returns-clause-fifteen
returns-clause-fifteen c = no_key_means_fifteen_others
