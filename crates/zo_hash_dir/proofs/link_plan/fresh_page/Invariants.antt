use Rattle.std.proofs.Common.{◌≡◌, ◌-◌, ◌∷◌, map}
use Rattle.std.specs.List.{range_with_len}
use Rattle.zo_plan.specs.declared.plan.Operand.TheVariants.{Known}
use Rattle.zo_hash_dir.specs.Links.{put, fresh_page as page, chain_put}
use Rattle.zo_hash_dir.proofs.link_plan.fresh_page.Given as goal

abbrev pub invariant-loop-i : goal.invariant-loop-i
invariant-loop-i l = l.prepares.items ≡ put page (Known l.first) ∷ map chain_put (range_with_len 1 (l.i - 2))
