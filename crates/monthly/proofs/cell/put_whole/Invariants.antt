use Rattle.std.proofs.Common.{◌≡◌, ◌≤◌, ◌++◌, length, drop, decimal}
use Rattle.monthly.proofs.cell.put_whole.Given as goal

abbrev pub invariant-loop-rest : goal.invariant-loop-rest
invariant-loop-rest l = record {
  text : decimal l.rest ++ drop l.start l.bytes ≡ decimal l.n ++ drop l.from l.initial.bytes;
  room : length (decimal l.rest) ≤ l.start;
  start : l.start ≤ l.from;
  less : l.rest ≤ l.n;
}

abbrev pub decreases-loop-rest : goal.decreases-loop-rest
decreases-loop-rest l = l.rest
