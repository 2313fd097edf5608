use Rattle.std.proofs.Common.{◌≡◌, ◌+◌, ◌-◌, ◌∷◌, ◌++◌, [], ℕ, map, ap, ap₂, ◌∙◌, arith}
use Rattle.std.specs.List.{range_with_len}
use Rattle.zo_plan.specs.declared.plan.Operand.{Operand}
use Rattle.zo_plan.specs.declared.plan.Operand.TheVariants.{Known}
use Rattle.zo_plan.specs.declared.plan.Put.{Put}
use Rattle.zo_hash_dir.specs.Links.{put, fresh_page as page, fresh_entry as entry_at, chain_put}
use Rattle.zo_hash_dir.proofs.Growing.{one_more}
use Rattle.zo_hash_dir.proofs.link_plan.fresh_page.Goals as goal

pub loop-i-preserved : goal.loop-i-preserved
loop-i-preserved c =
    let here : c.loop-i.i ≡ c.loop-i.i - 1 + 1 = omega (arith, c.loop-i.auto.i) in
    let to : c.fresh_entry-in-loop-i.result ≡ entry_at (c.loop-i.i - 1 + 1) = c.fresh_entry-in-loop-i.ensures.place ∙ ap entry_at here in
    let made = c.put-in-loop-i.ensures ∙ ap₂ (λ (from : Operand) (to : Operand). put from to) c.fresh_entry.ensures.place to in
    let pushed : c.push.new.self.items ≡ c.loop-i.prepares.items ++ chain_put (c.loop-i.i - 1) ∷ [] = c.in_ok-push.ensures.items ∙ ap (λ (p : Put). c.loop-i.prepares.items ++ p ∷ []) made in
    one_more chain_put (put page (Known c.args.first) ∷ []) c.loop-i.prepares.items _ 1 (c.loop-i.i - 2) _ (c.loop-i.i - 1) (omega (arith, c.loop-i.auto.i)) (omega (arith, c.loop-i.auto.i)) c.loop-i.invariant pushed

pub returns : goal.returns
returns c =
    let twelve : c.loop-i.i - 2 ≡ 10 = omega arith in
    c.loop-i.invariant ∙ ap (λ (n : ℕ). put page (Known c.args.first) ∷ map chain_put (range_with_len 1 n)) twelve
