use Rattle.std.proofs.Common.{ℕ, ◌-◌, ◌/◌, ◌≤◌, length, Option, unwrap_or, refl, sym, ap, subst, ◌∙◌}
use Rattle.indexmap.specs.IndexMap.{set_value_at, index_map_len}
use Rattle.pm_words.specs.View.{Held, no_held, held_at, look, IsKept}
use Rattle.pm_words.proofs.PlaceLemmas.{held_same, line_kept_or_same}
use Rattle.pm_words.proofs.LineLemmas.{pending_written}
use Rattle.pm_words.proofs.LastLemmas.{found, written, apart, held_before, held_after}
use Rattle.pm_words.proofs.pending.keep_in_last.Goals as goal

pub returns-in-Some-clause-kept : goal.returns-in-Some-clause-kept
returns-in-Some-clause-kept c = λ done.
    let (h, at) = c.is_last.ensures c.if-not-is_last.false in
    let m = c.args.pending.now in
    let i = index_map_len m - 1 in
    let line = c.args.place / 8 in
    let was = c.in-Some.words.now in
    let now = c.push_in_room.new.self in
    subst (λ (a : Held). IsKept c.args.place c.args.value a (held_at (set_value_at m.entries i now) line))
    (sym (held_before m i line h was now c.last_mut.ensures.unique at c.in-Some.ensures.value))
    (subst (λ (b : Held). IsKept c.args.place c.args.value was b) (sym (held_after m i line h was now c.last_mut.ensures.unique at c.in-Some.ensures.value))
    (c.push_in_room.ensures.pushed done))

pub returns-in-Some-clause-same : goal.returns-in-Some-clause-same
returns-in-Some-clause-same c = λ full.
    let (h, at) = c.is_last.ensures c.if-not-is_last.false in
    let m = c.args.pending.now in
    let i = index_map_len m - 1 in
    let line = c.args.place / 8 in
    let was = c.in-Some.words.now in
    let now = c.push_in_room.new.self in
    let unique = c.last_mut.ensures.unique in
    let value = c.in-Some.ensures.value in
    held_same m.entries (set_value_at m.entries i now) line
    (held_after m i line h was now unique at value ∙ c.push_in_room.ensures.full full ∙ sym (held_before m i line h was now unique at value))
    (λ l ne. ap (λ (o : Option Held). unwrap_or o no_held) (apart m i line h was now unique at value l ne))

pub returns-in-Some-clause-others : goal.returns-in-Some-clause-others
returns-in-Some-clause-others c = λ l ne.
    let (h, at) = c.is_last.ensures c.if-not-is_last.false in
    let m = c.args.pending.now in
    ap (λ (o : Option Held). unwrap_or o no_held)
    (apart m (index_map_len m - 1) (c.args.place / 8) h c.in-Some.words.now c.push_in_room.new.self c.last_mut.ensures.unique at c.in-Some.ensures.value l ne)

pub returns-in-Some-clause-bound : goal.returns-in-Some-clause-bound
returns-in-Some-clause-bound c = λ done.
    let (h, at) = c.is_last.ensures c.if-not-is_last.false in
    let m = c.args.pending.now in
    subst (λ (a : Held). (t : ℕ) → look a.marks t ≤ length a.older)
    (sym (held_before m (index_map_len m - 1) (c.args.place / 8) h c.in-Some.words.now c.push_in_room.new.self c.last_mut.ensures.unique at c.in-Some.ensures.value))
    c.push_in_room.ensures.bound

pub returns-in-Some-clause-pending : goal.returns-in-Some-clause-pending
returns-in-Some-clause-pending c = λ count pending.
    let (h, at) = c.is_last.ensures c.if-not-is_last.false in
    let m = c.args.pending.now in
    let i = index_map_len m - 1 in
    let line = c.args.place / 8 in
    let was = c.in-Some.words.now in
    let now = c.push_in_room.new.self in
    let unique = c.last_mut.ensures.unique in
    let value = c.in-Some.ensures.value in
    pending_written count m.entries (set_value_at m.entries i now) line was now (found m i line h was now unique at value) (written m i line h was now unique at value)
    (apart m i line h was now unique at value)
    (λ held. line_kept_or_same c.push_in_room.result count line c.args.place c.args.value was now held refl c.push_in_room.ensures.pushed c.push_in_room.ensures.full) pending
