use Rattle.std.proofs.Common.{inr, ◌∙◌, ap}
use Rattle.tr_script.specs.Grammar.{lines_of, nothing_declared}
use Rattle.tr_script.specs.Places.{IsBadIn, line_behind, column_behind}
use Rattle.tr_script.specs.declared.reader.place.Place.{Place}
use Rattle.tr_script.proofs.PlaceLemmas.{read_is_not_bad, first_of_two, on_fault_at}
use Rattle.tr_script.proofs.reader.fault_over_limit.Goals.{in-Ok, in-Err-Bad, in-Err-NoMemory}
use Rattle.tr_script.proofs.reader.fault_over_limit.Goals as goal

pub returns : goal.returns
returns c =
    let text = c.args.text.now in
    let line = c.place_after-limit.ensures.line ∙ ap (line_behind 1) c.split_at.ensures.front in
    let column = c.place_after-limit.ensures.column ∙ ap (column_behind 1) c.split_at.ensures.front in
    elim c.match-read_lines.branch [
      | in-Ok w ↦ rw w.result-is (inr (line, column, λ l at bad. read_is_not_bad text l at w.in-Ok.field-0.items w.in-Ok.ensures.some w.in-Ok.ensures.ok bad.0))
      | in-Err-Bad w ↦
          let bad = on_fault_at (λ (place : Place). IsBadIn nothing_declared (lines_of text) 1 place.line place.column) w.in-Err-Bad.field-0 w.in-Err-Bad.place w.in-Err-Bad.field-0-is w.in-Err-Bad.ensures.place in
          rw w.result-is (first_of_two text w.in-Err-Bad.place c.place_after-limit.result w.earlier.result _ _ line column bad w.earlier.ensures.before w.earlier.ensures.behind)
      | in-Err-NoMemory w ↦ rw w.result-is tt
    ]
