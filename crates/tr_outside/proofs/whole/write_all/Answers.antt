use Rattle.std.proofs.Common.{◌≡◌, ◌<◌, ◌-◌, ◌+◌, ℕ, List, [], ◌++◌, length, take, drop, ap, sym, ◌∙◌, subst, arith, length-drop, take-append-drop}
use Rattle.std.proofs.lemmas.List.{append-nil, take_rest}
use Rattle.std.specs.Io.KnownBytes.{Appends}
use Rattle.tr_outside.proofs.Known.{appends_more, take_further}
use Rattle.tr_outside.proofs.Stops.{kept_front, stops}
use Rattle.tr_outside.proofs.whole.write_all.Goals as goal

pub returns-in_err-at-clause-written : goal.returns-in_err-at-clause-written
returns-in_err-at-clause-written g c =
    let bytes = c.args.bytes.now in
    let rest = drop c.loop-at.at bytes in
    stops _ (g.D.Sink.written c.loop-at.sink) _ _ (g.D.Sink.faults c.loop-at.sink) _ bytes (take c.loop-at.at bytes) rest [] c.from_residual.result
    (sym (take-append-drop c.loop-at.at bytes) ∙ ap (λ (l : List ℕ). take c.loop-at.at bytes ++ l) (sym (append-nil rest)))
    c.loop-at.invariant.taken (kept_front _ _ rest c.in_err-at.ensures.bytes) c.loop-at.invariant.later
    c.in_err-at.ensures.cause.later c.in_err-at.ensures.cause.failed c.from_residual.ensures.0

pub loop-at-preserved : goal.loop-at-preserved
loop-at-preserved g c =
    let bytes = c.args.bytes.now in
    let at = c.loop-at.at in
    let count = c.in_ok-at.field-0 in
    let window : take (length bytes - at) (drop at bytes) ≡ drop at bytes = take_rest bytes at in
    let size : length (take (length bytes - at) (drop at bytes)) ≡ length bytes - at = ap length window ∙ length-drop at bytes in
    let above : 0 < count = c.in_ok-at.ensures.some (omega arith) in
    let further : take at bytes ++ take count (take (length bytes - at) (drop at bytes)) ≡ take (at + count) bytes =
    ap (λ (l : List ℕ). take at bytes ++ take count l) window ∙ take_further at count bytes in
    record {
      within = omega (arith, c.in_ok-at.ensures.bound);
      taken = subst (λ (l : List ℕ). Appends (g.D.Sink.written c.args.sink.now) (g.D.Sink.written c.write.new.self) l) further
          (appends_more _ (g.D.Sink.written c.loop-at.sink) _ (take at bytes) _ c.loop-at.invariant.taken c.in_ok-at.ensures.bytes);
      later = omega (arith, c.in_ok-at.ensures.cause.later);
      same = λ none. absurd (omega arith);
    }
