use Rattle.tr_script.proofs.PlaceLemmas.{first_bad_is_no_script, one_first_bad}
use Rattle.tr_script.proofs.reader.place_law.Goals as goal

pub returns-clause-refused : goal.returns-clause-refused
returns-clause-refused c = first_bad_is_no_script

pub returns-clause-one : goal.returns-clause-one
returns-clause-one c = one_first_bad
