use Rattle.std.proofs.Common.{◌+◌, sym, subst}
use Rattle.metering.specs.Summary.{Furthest}
use Rattle.metering.proofs.Peaks.{peak_more}
use Rattle.metering.proofs.curve.Curve.furthest.Goals as goal

pub loop-q-preserved : goal.loop-q-preserved
loop-q-preserved c =
    let rs = c.readings-reading-items.result.now in
    subst (Furthest c.args.upward rs (c.loop-q.q + 1)) (sym c.peak_with-best.ensures) (peak_more c.args.upward rs c.loop-q.q c.loop-q.best c.loop-q.invariant)
