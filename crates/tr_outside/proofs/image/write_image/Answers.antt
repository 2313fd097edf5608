use Rattle.std.proofs.Common.{◌≤◌, ◌-◌, ◌+◌, ℕ, List, take, drop, ap, sym, ◌∙◌, subst, arith}
use Rattle.std.specs.Io.KnownBytes.{Appends}
use Rattle.tr_outside.specs.ImageBytes.{image_bytes}
use Rattle.tr_outside.proofs.Known.{appends_more}
use Rattle.tr_outside.proofs.Pages.{image_bytes_further, image_bytes_parts}
use Rattle.tr_outside.proofs.Stops.{stops}
use Rattle.tr_outside.proofs.image.write_image.Goals as goal

pub returns-in_err-write_page : goal.returns-in_err-write_page
returns-in_err-write_page g c =
    let words = c.words-words.result.now in
    let at = c.loop-at.at in
    let count = at + c.min.result - at in
    record {
      written =
          stops _ (g.D.Sink.written c.loop-at.sink) _ _ (g.D.Sink.faults c.loop-at.sink) _ _ (image_bytes (take at words))
          (image_bytes (take count (drop at words))) (image_bytes (drop count (drop at words))) c.from_residual.result
          (ap image_bytes (sym c.words-words.ensures.words) ∙ image_bytes_parts words at count)
          c.loop-at.invariant.taken c.in_err-write_page.ensures.written.taken c.loop-at.invariant.later
          c.in_err-write_page.ensures.written.cause.later c.in_err-write_page.ensures.written.cause.failed c.from_residual.ensures.0;
    }

pub loop-at-preserved : goal.loop-at-preserved
loop-at-preserved g c =
    let words = c.words-words.result.now in
    let at = c.loop-at.at in
    let end = at + c.min.result in
    let le : at ≤ end = omega arith in
    record {
      within = omega arith;
      taken = subst (λ (l : List ℕ). Appends (g.D.Sink.written c.args.sink.now) (g.D.Sink.written c.write_page.new.sink) l)
          (image_bytes_further words at end le)
          (appends_more _ (g.D.Sink.written c.loop-at.sink) _ (image_bytes (take at words)) _ c.loop-at.invariant.taken c.in_ok-write_page.ensures.written.taken);
      later = omega (arith, c.in_ok-write_page.ensures.written.cause.later);
    }
