use Rattle.std.proofs.Common.{[], refl, inl, inr, subst}
use Rattle.tr_script.specs.Places.{CommandWord}
use Rattle.tr_script.specs.Reading.{Takes, name_text}
use Rattle.tr_script.specs.declared.reader.slots.Name.{Name}
use Rattle.tr_script.proofs.ReadingLemmas.{passed}
use Rattle.tr_script.proofs.WordLemmas.{behind, on_bad_map}
use Rattle.tr_script.proofs.reader.line.command.Goals as goal

pub returns-in_err-command_name-clause-bad : goal.returns-in_err-command_name-clause-bad
returns-in_err-command_name-clause-bad c =
    passed c.from_residual.result c.in_err-command_name.field-0.0 c.from_residual.ensures.1 (λ place bad d. bad d []) c.in_err-command_name.ensures.bad

pub returns-in-Create-clause-bad : goal.returns-in-Create-clause-bad
returns-in-Create-clause-bad c =
    let taken = subst (λ (name : Name). Takes c.args.words.now (name_text name) c.command_name.new.words) c.in-Create.is c.in_ok-command_name.ensures.ok in
    on_bad_map c.create_command.result (λ place bad d. behind place d CommandWord [] c.args.words.now c.command_name.new.words taken (inl refl) (bad d)) c.create_command.ensures.bad

pub returns-in-Stat-clause-bad : goal.returns-in-Stat-clause-bad
returns-in-Stat-clause-bad c =
    let taken = subst (λ (name : Name). Takes c.args.words.now (name_text name) c.command_name.new.words) c.in-Stat.is c.in_ok-command_name.ensures.ok in
    on_bad_map c.stat_command.result (λ place bad d. behind place d CommandWord [] c.args.words.now c.command_name.new.words taken (inr (inl refl)) (bad d)) c.stat_command.ensures.bad
