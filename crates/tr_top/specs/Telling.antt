-- What a run prints, in the detail that is asked for.
use Rattle.std.specs.Prelude.{ℕ, List}
use Rattle.tr_types.specs.declared.entry.Entry.{Entry}
use Rattle.tr_text.specs.Text.{brief_text, brief_texts, full_text, full_texts}
use Rattle.tr_top.specs.declared.teller.Detail.{Detail}
use Rattle.tr_top.specs.declared.teller.Detail.TheVariants.{Brief, Full}

-- the text of one entry
abbrev pub text : Detail → Entry → List ℕ
text Brief e = brief_text e
text Full e = full_text e

-- that of a whole trace
abbrev pub texts : Detail → List Entry → List ℕ
texts Brief trace = brief_texts trace
texts Full trace = full_texts trace
