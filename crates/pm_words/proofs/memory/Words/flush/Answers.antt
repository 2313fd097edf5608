use Rattle.std.proofs.Common.{ℕ, ◌/◌, List, sym, subst, ap, ◌∙◌}
use Rattle.pm_words.specs.View.{Held, held_at, words_of, IsFlushed}
use Rattle.pm_words.proofs.DurableLemmas.{durable_unheld}
use Rattle.pm_words.proofs.LineLemmas.{flush_sound}
use Rattle.pm_words.proofs.PlaceLemmas.{on_ok, same_at, flushed_at}
use Rattle.pm_words.proofs.ViewLemmas.{flush_is}
use Rattle.pm_words.proofs.memory.Words.flush.Goals as goal

pub invariant_of-self : goal.invariant_of-self
invariant_of-self c =
    let done = c.flush_line.ensures in
    flush_sound c.flush_line.result _ _ _ _ _ c.args.thread c.line_index.result c.self.invariant (done.pending _ c.self.invariant.pending)
    done.kept done.rest done.noted done.ok done.err done.others

pub returns-clause-ok : goal.returns-clause-ok
returns-clause-ok c =
    let old = c.self.inside.pending.entries in
    let new = c.flush_line.new.pending.entries in
    let place = c.line_index.ensures.place in
    on_ok c.flush_line.result (λ flushed. flush_is old new _ _ c.args.thread c.args.addr c.self.view_is
    (λ k at. flushed_at c.args.thread old new k (subst (λ (l : ℕ). IsFlushed c.args.thread (held_at old l) (held_at new l)) (place ∙ sym at) flushed))
    (λ k ne. same_at old new k (c.flush_line.ensures.others (k / 8) (λ e. ne (e ∙ place))))) c.flush_line.ensures.ok

pub returns-clause-durable : goal.returns-clause-durable
returns-clause-durable c = λ durable.
    let none = durable_unheld _ _ _ c.args.addr c.line_index.result c.self.view_is c.self.invariant.pending c.line_index.ensures.place durable in
    let (done, same) = c.flush_line.ensures.idle none in
    (done, ap (λ (es : List (ℕ × Held)). words_of es c.self.inside.present.items) same ∙ c.self.view_is)
