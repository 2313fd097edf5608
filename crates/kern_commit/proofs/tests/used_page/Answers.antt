use Rattle.std.proofs.Common.{arith}
use Rattle.kern_commit.proofs.NewLemmas.{idle_stored}
use Rattle.kern_commit.proofs.tests.used_page.Goals as goal

pub returns-clause-idle : goal.returns-clause-idle
returns-clause-idle c =
    let size = c.in_ok-words.ensures.len in
    let first = idle_stored c.in_ok-words.words c.store.new.self 163840 5 (omega (arith, size)) (omega arith) c.in_ok-store.ensures.ok c.in_ok-words.ensures.idle in
    let more = c.in_ok-store.ensures.len in
    idle_stored c.store.new.self c.store-2.new.self 167928 6 (omega (arith, size, more)) (omega arith) c.in_ok-store-2.ensures.ok first
