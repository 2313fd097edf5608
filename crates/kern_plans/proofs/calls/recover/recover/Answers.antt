use Rattle.std.proofs.Common.{◌≡◌, ◌∙◌, List, Bool, not, cond, refl, sym, ap}
use Rattle.std.proofs.lemmas.Bool.{eq-eqb}
use Rattle.pm_words.specs.Word.{Word}
use Rattle.kern_model.specs.KernelView.{pages_of}
use Rattle.kern_model.specs.PathMap.{state_pairs}
use Rattle.kern_model.specs.KernelCalls.{is_there_with}
use Rattle.tr_types.specs.declared.kernel_call.KernAnswer.TheVariants.{NotHeld, NoCoffer}
use Rattle.kern_roots.specs.Reading.{state_word}
use Rattle.kern_plans.proofs.RowLemmas.{skips, lets_pass}
use Rattle.kern_plans.proofs.calls.recover.recover.Goals as goal
use Rattle.kern_plans.proofs.calls.recover.recover.Goals.{then-ready, else-ready}

pub returns-in-Ok : goal.returns-in-Ok
returns-in-Ok c =
    let words = c.args.asked.now.words in
    let is_recovery = eq-eqb c.args.asked.now.thread 256 (sym c.thread.ensures ∙ c.if-thread-ne-RECOVERY.false) in
    let there = sym (ap (λ (ws : List Word). is_there_with ws c.args.id) c.words.ensures.words) ∙ c.in-Ok.ensures.0 in
    let state : state_word c.if-ready.state ≡ cond c.args.ready 1 2 =
    elim c.if-ready.branch [
      | then-ready w ↦ ap state_word w.state-is ∙ sym (ap (λ (b : Bool). cond b 1 2) w.if-ready.true)
      | else-ready w ↦ ap state_word w.state-is ∙ sym (ap (λ (b : Bool). cond b 1 2) w.if-ready.false)
    ] in
    c.stores.ensures _ (record {
      due = skips _ _ (lets_pass _ NotHeld (ap not is_recovery)) ∙ skips _ _ (lets_pass _ NoCoffer (ap not there));
      answer = refl;
      granted = refl;
      pairs =
          sym (c.as_slice.ensures ∙ c.in-Ok.ensures.1
          ∙ ap (λ (ws : List Word). state_pairs (pages_of ws) c.args.id (state_word c.if-ready.state)) c.words.ensures.words
          ∙ ap (state_pairs (pages_of words) c.args.id) state);
    })
