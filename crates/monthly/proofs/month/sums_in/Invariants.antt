use Rattle.std.proofs.Common.{◌≡◌, drop}
use Rattle.ledger.specs.Book.{outcomes_in}
use Rattle.monthly.specs.Monthly.{sums_in, sums_with, Within}
use Rattle.monthly.proofs.month.sums_in.Given as goal

abbrev pub invariant-loop-i : goal.invariant-loop-i
invariant-loop-i l =
    (sums_with l.sums (outcomes_in l.days.first l.days.last l.i (drop l.i l.orders)) ≡ sums_in l.days.first l.days.last l.orders) × Within l.i l.sums
