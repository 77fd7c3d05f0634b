use Rattle.std.proofs.Common.{◌≡◌, ◌+◌, ◌-◌, ◌≤◌, true}
use Rattle.calendar.specs.Gregorian.{month_length, first_day, is_month}
use Rattle.calendar.proofs.dates.date_of.Given as goal

abbrev pub invariant-loop-after : goal.invariant-loop-after
invariant-loop-after l = record {
  known : is_month l.month.year l.month.month ≡ true;
  first : l.first ≡ first_day l.month.year l.month.month;
  after : l.after ≡ l.first + month_length l.month.year l.month.month;
  begun : l.first ≤ l.day;
}

abbrev pub decreases-loop-after : goal.decreases-loop-after
decreases-loop-after l = l.day - l.first
