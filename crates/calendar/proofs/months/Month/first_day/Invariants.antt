use Rattle.std.proofs.Common.{◌≡◌, ◌+◌, ◌*◌, ◌<◌}
use Rattle.calendar.specs.Gregorian.{first_day}
use Rattle.calendar.proofs.months.Month.first_day.Given as goal

abbrev pub invariant-loop-earlier : goal.invariant-loop-earlier
invariant-loop-earlier l = (l.day ≡ first_day l.self.year l.earlier) × (l.day < 50_000 + 31 * l.earlier)
