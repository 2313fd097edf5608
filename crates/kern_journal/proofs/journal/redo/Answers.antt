use Rattle.std.proofs.Common.{◌≡◌, ℕ, List, length, ap, subst, ◌∙◌}
use Rattle.std.proofs.lemmas.Result.{on_ok_weaker, on_err_weaker}
use Rattle.std.proofs.lemmas.List.Elements.{All-weaker, All-same}
use Rattle.pm_words.specs.Memory.{IsAddress}
use Rattle.kern_model.specs.declared.inner.Inner.{Inner}
use Rattle.kern_model.specs.Inner.{HasAddress, made_all, IsCut}
use Rattle.kern_model.specs.Inner.{IsHome, committed, finish_any, redo_events}
use Rattle.kern_model.proofs.EventLemmas.{finish_any_has}
use Rattle.kern_journal.proofs.journal.redo.Goals as goal

pub make_all-requires : goal.make_all-requires
make_all-requires c =
    let count = length c.args.words.now in
    let pairs = committed c.args.words.now in
    let events : c.deref-2.result.now ≡ redo_events c.args.words.now =
    c.deref-2.ensures.value ∙ c.in_ok-events.ensures ∙ ap finish_any (c.deref.ensures.value ∙ c.in_ok-pairs.ensures.pairs) in
    let homes = All-weaker (λ (p : ℕ × ℕ). IsHome count p.0) (λ (p : ℕ × ℕ). IsAddress count p.0) (λ p home. home.inside) pairs c.requires.homes in
    All-same (HasAddress count) c.deref-2.result.now (redo_events c.args.words.now) events (finish_any_has count pairs c.committed.ensures.size homes)

pub returns-clause-ok : goal.returns-clause-ok
returns-clause-ok c =
    let events : c.deref-2.result.now ≡ redo_events c.args.words.now =
    c.deref-2.ensures.value ∙ c.in_ok-events.ensures ∙ ap finish_any (c.deref.ensures.value ∙ c.in_ok-pairs.ensures.pairs) in
    on_ok_weaker c.make_all.result (λ e. e ∙ ap (λ (es : List Inner). made_all es c.args.words.now) events) c.make_all.ensures.ok

pub returns-clause-err : goal.returns-clause-err
returns-clause-err c =
    let events : c.deref-2.result.now ≡ redo_events c.args.words.now =
    c.deref-2.ensures.value ∙ c.in_ok-events.ensures ∙ ap finish_any (c.deref.ensures.value ∙ c.in_ok-pairs.ensures.pairs) in
    on_err_weaker c.make_all.result (λ cut. subst (λ (es : List Inner). IsCut es c.args.words.now c.make_all.new.words) events cut) c.make_all.ensures.err
