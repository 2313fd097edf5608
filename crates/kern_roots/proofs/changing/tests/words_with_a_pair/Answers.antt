use Rattle.std.proofs.Common.{◌≡◌, List, sym, ap, subst, ◌∙◌}
use Rattle.pm_words.specs.Word.{Word}
use Rattle.pm_words.specs.Memory.{all_durable, store_at}
use Rattle.kern_model.specs.NewImage.{new_image}
use Rattle.kern_model.specs.KernelRules.{IsSoundKernel}
use Rattle.kern_roots.proofs.ChangingCommitted.{pending, pending_is_sound}
use Rattle.kern_roots.proofs.changing.tests.words_with_a_pair.Goals as goal

pub returns : goal.returns
returns c =
    let is : c.store-4.new.self ≡ pending (all_durable (new_image 64)) =
    c.in_ok-store-4.ensures.ok
    ∙ ap (λ (ws : List Word). store_at 4096 1 ws) c.in_ok-store-3.ensures.ok
    ∙ ap (λ (ws : List Word). store_at 4096 1 (store_at 4168 1 ws)) c.in_ok-store-2.ensures.ok
    ∙ ap (λ (ws : List Word). store_at 4096 1 (store_at 4168 1 (store_at 4160 153584 ws))) c.in_ok-store.ensures.ok
    ∙ ap pending c.in_ok-words.ensures.words in
    subst (λ (ws : List Word). IsSoundKernel ws) (sym is) pending_is_sound
