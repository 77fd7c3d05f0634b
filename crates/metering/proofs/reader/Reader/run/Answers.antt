use Rattle.std.proofs.Common.{◌+◌, drop, Err, sym, ap, ◌∙◌}
use Rattle.std.proofs.lemmas.List.{at_drop_more}
use Rattle.std.proofs.lemmas.Result.{err_from_is_err_and}
use Rattle.metering.specs.Machine.{machine_of, runs, outcome}
use Rattle.metering.proofs.Turns.{passes, stops}
use Rattle.metering.proofs.reader.Reader.run.Goals as goal

pub returns-in_err-step : goal.returns-in_err-step
returns-in_err-step c =
    let p = err_from_is_err_and c.from_residual.result c.from_residual.ensures.1 in
    let e = at_drop_more (runs (machine_of c.loop-byte.self c.loop-byte.curve.readings)) c.args.text.now c.loop-byte.byte-index 0 c.loop-byte-test.true in
    let s = stops (λ n. runs n (drop (c.loop-byte.byte-index + 1) c.args.text.now)) _ _ _ c.step.ensures.result c.in_err-step.was in
    ap outcome p.1 ∙ ap Err p.2 ∙ sym (c.loop-byte.invariant ∙ e ∙ s)

pub loop-byte-preserved : goal.loop-byte-preserved
loop-byte-preserved c =
    let e = at_drop_more (runs (machine_of c.loop-byte.self c.loop-byte.curve.readings)) c.args.text.now c.loop-byte.byte-index 0 c.loop-byte-test.true in
    let s = passes (λ n. runs n (drop (c.loop-byte.byte-index + 1) c.args.text.now)) _ _ _ _ _ c.step.ensures.result c.step.ensures.state c.in_ok-step.was in
    c.loop-byte.invariant ∙ e ∙ s
