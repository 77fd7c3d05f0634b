use Rattle.std.proofs.Common.{◌≡◌, ◌+◌, ◌/◌, ◌^◌, ◌++◌, drop}
use Rattle.ledger.specs.LineText.{last_digits}
use Rattle.monthly.proofs.cell.put_digits.Given as goal

abbrev pub invariant-loop-k : goal.invariant-loop-k
invariant-loop-k l = record {
  text : drop l.start l.bytes ≡ last_digits l._k l.n ++ drop l.from l.initial.bytes;
  start : l.start + l._k ≡ l.from;
  whole : l.whole ≡ l.n / 10 ^ l._k;
}
