use Rattle.std.proofs.Common.{rules, tests, ◌&&◌, not, Bool, ap, sym, ◌∙◌}
use Rattle.std.proofs.lemmas.Iterator.{YieldsList-from_slice}
use Rattle.std.proofs.lemmas.Iterator.Search.{all_from_yields_List}
use Rattle.std.specs.List.{list_all}
use Rattle.tr_types.specs.Paths as spec
use Rattle.kern_view.proofs.paths.has_name_bytes.Goals as goal

pub returns-then-not-is_empty : goal.returns-then-not-is_empty
returns-then-not-is_empty c =
    all_from_yields_List spec.is_name_byte _ _ c.all.result c.all.ensures.ran (YieldsList-from_slice c.args.name.now cc) (λ x b q k. search (rules, tests))
    ∙ ap (λ (empty : Bool). not empty && list_all spec.is_name_byte c.args.name.now) (sym c.if-not-is_empty.true ∙ c.is_empty.ensures)
