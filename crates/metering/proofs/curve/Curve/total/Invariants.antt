use Rattle.std.proofs.Common.{◌≡◌, ◌*◌, drop, pos, ◌+ℤ◌, neg_ℤ, ◌≤ℤ◌}
use Rattle.metering.specs.Summary.{total_of}
use Rattle.metering.proofs.curve.Curve.total.Given as goal

abbrev pub invariant-loop-reading : goal.invariant-loop-reading
invariant-loop-reading l =
    (l.total +ℤ total_of (drop l.reading-index l.reading-items) ≡ total_of l.reading-items)
    × (l.total ≤ℤ pos (1000000 * l.reading-index)) × (neg_ℤ (pos (1000000 * l.reading-index)) ≤ℤ l.total)
