use Rattle.std.proofs.Common.{rules, tests, ap, ◌∙◌, nat_eq}
use Rattle.std.proofs.lemmas.Iterator.Search.{all_from_yields_List}
use Rattle.std.proofs.lemmas.Iterator.Splits.{YieldsList-from_slice_split}
use Rattle.std.specs.List.{list_all}
use Rattle.tr_types.specs.Paths as spec
use Rattle.kern_view.proofs.PathLemmas.{split_is_parts}
use Rattle.kern_view.proofs.paths.are_names.Goals as goal

pub returns : goal.returns
returns c =
    all_from_yields_List spec.is_name_text _ _ c.all.result c.all.ensures.ran
    (YieldsList-from_slice_split _ (λ byte. nat_eq byte 47) c.args.names.now c.split.ensures.rest c.split.ensures.done c.split.ensures.closure (λ x b q k. search (rules, tests)))
    (λ x b q k. search (rules, tests))
    ∙ ap (list_all spec.is_name_text) (split_is_parts c.args.names.now)
