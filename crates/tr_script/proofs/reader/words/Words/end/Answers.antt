use Rattle.std.proofs.Common.{ap}
use Rattle.std.specs.Option.{option_copied}
use Rattle.tr_script.proofs.WordLemmas.{not_at_end}
use Rattle.tr_script.proofs.reader.words.Words.end.Goals as goal

pub returns-in-Some-clause-bad : goal.returns-in-Some-clause-bad
returns-in-Some-clause-bad c = λ d.
    not_at_end d c.args.self.now c.self.inside.place (option_copied c.self.inside.rest) c.in-Some.field-0.now (ap option_copied c.in-Some.is) c.self.view_is
