use Rattle.std.proofs.Common.{◌≡◌, Option, unwrap_or, sym, subst}
use Rattle.pm_words.specs.View.{Held, no_held, look}
use Rattle.pm_words.proofs.PlaceLemmas.{on_all}
use Rattle.pm_words.proofs.LineLemmas.{noted_once}
use Rattle.pm_words.proofs.pending.flush_line.Goals as goal

pub returns-in_ok-note_once-in-Some-clause-noted : goal.returns-in_ok-note_once-in-Some-clause-noted
returns-in_ok-note_once-in-Some-clause-noted c = on_all c.mark.result (λ some none.
    let was = subst (λ (o : Option Held). look (unwrap_or o no_held).marks c.args.thread ≡ 0) (sym c.in-Some.ensures.value) none in
    noted_once c.is_marked.result (look c.in-Some.words.now.marks c.args.thread) c.is_marked.ensures.marked c.in_ok-note_once-in-Some.ensures.ok was)
