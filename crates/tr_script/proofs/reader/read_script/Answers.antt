use Rattle.tr_script.specs.Places.{IsFirstBad}
use Rattle.tr_script.specs.declared.reader.place.Place.{Place}
use Rattle.tr_script.proofs.PlaceLemmas.{first_bad_is_no_script, on_fault_at}
use Rattle.tr_script.proofs.reader.read_script.Goals as goal

pub returns-in-Err-Bad-clause-refused : goal.returns-in-Err-Bad-clause-refused
returns-in-Err-Bad-clause-refused c = λ lines script.
    let bad = on_fault_at (λ (place : Place). IsFirstBad c.args.text.now place.line place.column) c.in-Err-Bad.field-0 c.in-Err-Bad.field-0-0 c.in-Err-Bad.field-0-is c.in-Err-Bad.ensures.place in
    first_bad_is_no_script c.args.text.now _ _ lines bad script

pub returns-in-Err-Bad-clause-place : goal.returns-in-Err-Bad-clause-place
returns-in-Err-Bad-clause-place c = on_fault_at (λ (place : Place). IsFirstBad c.args.text.now place.line place.column) c.in-Err-Bad.field-0 c.in-Err-Bad.field-0-0 c.in-Err-Bad.field-0-is c.in-Err-Bad.ensures.place
