use Rattle.std.proofs.Common.{◌≡◌, List, sym, ap, refl, subst, ◌∙◌, arith}
use Rattle.pm_words.specs.Word.{Word}
use Rattle.pm_words.specs.Memory.{all_durable, store_at}
use Rattle.kern_model.specs.NewImage.{new_image}
use Rattle.kern_model.specs.Journal.{kernel_word}
use Rattle.kern_model.specs.KernelRules.{IsSoundKernel}
use Rattle.kern_model.proofs.FreePages.{size_opened}
use Rattle.kern_model.proofs.NewKernel.{new_is_sound, new_committed, new_tables, root_stands}
use Rattle.kern_owner.proofs.PendingLemmas.{with_pair, pending_is_sound}
use Rattle.kern_owner.proofs.tests.words_with_a_pair.Goals as goal

pub returns-clause-sound : goal.returns-clause-sound
returns-clause-sound c =
    let is : c.store-3.new.self ≡ with_pair 16784 1 (all_durable (new_image 64)) =
    c.in_ok-store-3.ensures.ok
    ∙ ap (λ (ws : List Word). store_at 4096 1 ws) c.in_ok-store-2.ensures.ok
    ∙ ap (λ (ws : List Word). store_at 4096 1 (store_at 4168 1 ws)) c.in_ok-store.ensures.ok
    ∙ ap (λ (ws : List Word). with_pair 16784 1 ws) c.in_ok-words.ensures.words
    in
    subst (λ (ws : List Word). IsSoundKernel ws) (sym is)
    (pending_is_sound 64 50 1 (all_durable (new_image 64)) (size_opened 64 (omega arith) (omega arith)) (new_is_sound 64 (omega arith) (omega arith)) (new_committed 64 (omega arith) (omega arith))
    (omega arith) (omega arith) ((new_tables 64 (omega arith) (omega arith)).owners 50 (omega arith)) refl (root_stands 64 (kernel_word (all_durable (new_image 64))) (new_tables 64 (omega arith) (omega arith)).entries))
