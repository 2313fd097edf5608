use Rattle.std.proofs.Common.{◌≡◌, ◌*◌, ◌∷◌, ◌++◌, [], ℕ, take, drop, ap, ap₂, refl, ◌∙◌, arith}
use Rattle.zo_plan.specs.declared.plan.Operand.{Operand}
use Rattle.zo_plan.specs.declared.plan.Operand.TheVariants.{Known}
use Rattle.zo_plan.specs.declared.plan.Put.{Put}
use Rattle.zo_hash_dir.specs.Letters.{letters_word}
use Rattle.zo_hash_dir.specs.Links.{put, letters_put}
use Rattle.zo_hash_dir.proofs.Growing.{one_more}
use Rattle.zo_hash_dir.proofs.link_plan.prepare_entry.Goals as goal

pub loop-i-preserved : goal.loop-i-preserved
loop-i-preserved c =
    let store : ℕ → Put = letters_put c.args.entry c.args.name.now in
    let word : c.word_of_letters.result ≡ letters_word (take 8 (drop (8 * c.loop-i.i) c.args.name.now)) = c.word_of_letters.ensures ∙ ap letters_word c.in-Some.ensures.letters in
    let made : c.put-in-loop-i.result ≡ store c.loop-i.i = c.put-in-loop-i.ensures ∙ ap₂ (λ (at : Operand) (w : ℕ). put at (Known w)) c.word_behind-in-loop-i.ensures word in
    let pushed = c.in_ok-push-4.ensures.items ∙ ap (λ (p : Put). c.loop-i.prepares.items ++ p ∷ []) made in
    record {
      words = one_more store c.push-3.new.self.items c.loop-i.prepares.items _ 0 c.loop-i.i _ c.loop-i.i refl (omega arith) c.loop-i.invariant.words pushed;
      begun = omega (arith, c.in-Some.ensures.some);
    }
