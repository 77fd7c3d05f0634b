-- The days of a month.
use Rattle.std.specs.Prelude.{◌≡◌, ℕ, false, true, None, Some, Option}
use Rattle.calendar.specs.Gregorian.{is_month, first_day, last_day}
use Rattle.monthly.specs.declared.days.MonthDays.{MonthDays}

-- those of the month, nothing where there is no such month
abbrev pub AreDaysOf : ℕ → ℕ → Option MonthDays → Type 0
AreDaysOf year month None = is_month year month ≡ false
AreDaysOf year month (Some days) = (is_month year month ≡ true) × (days.first ≡ first_day year month) × (days.last ≡ last_day year month)
