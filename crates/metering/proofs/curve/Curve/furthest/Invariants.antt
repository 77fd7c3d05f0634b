use Rattle.metering.specs.Summary.{Furthest}
use Rattle.metering.proofs.curve.Curve.furthest.Given as goal

abbrev pub invariant-loop-q : goal.invariant-loop-q
invariant-loop-q l = Furthest l.upward l.reading-items l.q l.best
