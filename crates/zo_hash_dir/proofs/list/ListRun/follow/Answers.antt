use Rattle.std.proofs.Common.{◌≢◌, ℕ, ◌+◌, sym, subst, ◌∙◌, arith}
use Rattle.zo_layout.specs.Layout.{next_entry}
use Rattle.zo_hash_dir.specs.declared.list.Asked.TheVariants as list
use Rattle.zo_hash_dir.specs.Scene.{IsRead}
use Rattle.zo_hash_dir.specs.Counting.{At, at_of, asked_word, Counts}
use Rattle.zo_hash_dir.proofs.Allowed.{entry_some}
use Rattle.zo_hash_dir.proofs.Counting.{counts_on, counts_end, gives_load}
use Rattle.zo_hash_dir.proofs.list.ListRun.follow.Goals as goal

pub returns-in-End-clause-gives : goal.returns-in-End-clause-gives
returns-in-End-clause-gives c s counts is =
    let a = at_of c.args.self.now in
    let before = asked_word a c.args.self.now.asked in
    c.next_bucket.ensures.gives s (counts_end s a.dir a.most a.bucket a.names before counts (sym is ∙ c.in-End.ensures))

pub returns-in-To-clause-gives : goal.returns-in-To-clause-gives
returns-in-To-clause-gives c s counts is =
    let old = at_of c.args.self.now in
    let before = asked_word old c.args.self.now.asked in
    let entry = c.in-To.entry in
    let some : c.args.word ≢ 0 = omega (arith, entry_some c.args.word c.in-To.ensures.1) in
    let one = counts_on s old.dir old.most old.bucket old.names before c.args.word counts is some in
    let a : At = record { dir = old.dir; bucket = old.bucket; names = old.names + 1; most = old.most } in
    let same = sym c.in-To.ensures.0 in
    gives_load c.ask.new.self a s (list.Next c.asked_word-before.result entry) c.ask.result c.ask.ensures.at c.ask.ensures.asked c.ask.ensures.load (λ e. cc)
    (subst (λ (w : ℕ). IsRead s old.dir (next_entry w)) same one.read)
    (subst (λ (w : ℕ). Counts s old.dir old.most old.bucket (old.names + 1) (next_entry w)) same one.next)

pub returns-in_default-clause-gives : goal.returns-in_default-clause-gives
returns-in_default-clause-gives c s counts is =
    let a = at_of c.args.self.now in
    let some : c.args.word ≢ 0 = omega (arith, entry_some c.args.word c.in-To.ensures.1) in
    let one = counts_on s a.dir a.most a.bucket a.names (asked_word a c.args.self.now.asked) c.args.word counts is some in
    let more = one.some in
    omega arith

pub returns-in_default-2-clause-gives : goal.returns-in_default-2-clause-gives
returns-in_default-2-clause-gives c s counts is =
    let a = at_of c.args.self.now in
    c.in_default.ensures.1 (counts_on s a.dir a.most a.bucket a.names (asked_word a c.args.self.now.asked) c.args.word counts is c.in_default.ensures.0).allowed
