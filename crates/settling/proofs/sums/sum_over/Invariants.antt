use Rattle.std.proofs.Common.{◌≡◌, ◌*◌, drop, ◌+ℤ◌}
use Rattle.settling.specs.History.{Near, summed_in}
use Rattle.settling.proofs.sums.sum_over.Given as goal

abbrev pub invariant-loop-day : goal.invariant-loop-day
invariant-loop-day l = record {
  value : summed_in l.initial.day-items l.quarter ≡ l.sum +ℤ summed_in (drop l.day-index l.day-items) l.quarter;
  within : Near (1000000 * l.day-index) l.sum;
}
