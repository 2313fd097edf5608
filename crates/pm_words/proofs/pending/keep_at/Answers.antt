use Rattle.std.proofs.Common.{ℕ, ◌/◌, ◌≤◌, length, Option, unwrap_or, refl, sym, ap, subst, ◌∙◌}
use Rattle.indexmap.specs.IndexMap.{set_value_at}
use Rattle.pm_words.specs.View.{Held, no_held, held_at, look, IsKept, IsLine}
use Rattle.pm_words.proofs.PlaceLemmas.{on_ok, on_err_map, on_each, line_kept}
use Rattle.pm_words.proofs.LineLemmas.{pending_written}
use Rattle.pm_words.proofs.LastLemmas.{found, written, apart, held_before, held_after}
use Rattle.pm_words.proofs.pending.keep_at.Goals as goal

pub returns-clause-ok : goal.returns-clause-ok
returns-clause-ok c =
    let (h, at) = c.requires in
    let m = c.args.pending.now in
    let i = c.args.index in
    let line = c.args.place / 8 in
    let was = c.in-Some.words.now in
    let now = c.push.new.self in
    on_ok c.push.result (λ kept. subst (λ (a : Held). IsKept c.args.place c.args.value a (held_at (set_value_at m.entries i now) line))
    (sym (held_before m i line h was now c.get_index_mut.ensures.unique at c.in-Some.ensures.value))
    (subst (λ (b : Held). IsKept c.args.place c.args.value was b) (sym (held_after m i line h was now c.get_index_mut.ensures.unique at c.in-Some.ensures.value)) kept)) c.push.ensures.ok

pub returns-clause-err : goal.returns-clause-err
returns-clause-err c =
    let (h, at) = c.requires in
    let m = c.args.pending.now in
    let i = c.args.index in
    let line = c.args.place / 8 in
    let was = c.in-Some.words.now in
    let now = c.push.new.self in
    on_err_map c.push.result (λ same. held_after m i line h was now c.get_index_mut.ensures.unique at c.in-Some.ensures.value ∙ same
    ∙ sym (held_before m i line h was now c.get_index_mut.ensures.unique at c.in-Some.ensures.value)) c.push.ensures.err

pub returns-clause-others : goal.returns-clause-others
returns-clause-others c = λ l ne.
    let (h, at) = c.requires in
    let m = c.args.pending.now in
    ap (λ (o : Option Held). unwrap_or o no_held)
    (apart m c.args.index (c.args.place / 8) h c.in-Some.words.now c.push.new.self c.get_index_mut.ensures.unique at c.in-Some.ensures.value l ne)

pub returns-clause-bound : goal.returns-clause-bound
returns-clause-bound c =
    let (h, at) = c.requires in
    let m = c.args.pending.now in
    subst (λ (a : Held). (t : ℕ) → look a.marks t ≤ length a.older)
    (sym (held_before m c.args.index (c.args.place / 8) h c.in-Some.words.now c.push.new.self c.get_index_mut.ensures.unique at c.in-Some.ensures.value)) c.push.ensures.bound

pub returns-clause-pending : goal.returns-clause-pending
returns-clause-pending c = λ count inside pending.
    let (h, at) = c.requires in
    let m = c.args.pending.now in
    let i = c.args.index in
    let line = c.args.place / 8 in
    let was = c.in-Some.words.now in
    let now = c.push.new.self in
    let unique = c.get_index_mut.ensures.unique in
    let value = c.in-Some.ensures.value in
    pending_written count m.entries (set_value_at m.entries i now) line was now (found m i line h was now unique at value) (written m i line h was now unique at value)
    (apart m i line h was now unique at value)
    (λ held. on_each c.push.result (λ kept. line_kept count line c.args.place c.args.value was now held refl kept) (λ same. subst (λ (a : Held). IsLine count line a) (sym same) held)
    c.push.ensures.ok c.push.ensures.err) pending
