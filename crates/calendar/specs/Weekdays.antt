-- The kind that a day has by its weekday. Kinds are numbers that can be added: 1 a working day, 2 a Saturday, 4 a Sunday.
use Rattle.std.specs.Prelude.{◌≡◌, ℕ, ◌+◌, ◌%◌, ◌≤◌, cond, Some, ◌==◌}
use Rattle.calendar.specs.declared.weekdays.DayKind.{DayKind}
use Rattle.calendar.specs.declared.weekdays.DayKind.TheVariants.{Working, Saturday, Sunday}
use Rattle.calendar.specs.Gregorian.{day_of}

abbrev pub working : ℕ
working = 1

abbrev pub saturday : ℕ
saturday = 2

abbrev pub sunday : ℕ
sunday = 4

abbrev pub number_of : DayKind → ℕ
number_of Working = working
number_of Saturday = saturday
number_of Sunday = sunday

-- day 0 is a Saturday and day 1 a Sunday
abbrev pub weekday_kind : ℕ → ℕ
weekday_kind d = cond (d % 7 == 0) saturday (cond (d % 7 == 1) sunday working)

-- 1 January 2000 is a Saturday, a Sunday and five working days follow it, and so it goes on every seven days
pub record Week : Type 0 where
  pub first : (day_of (record { year = 2000; month = 1; day = 1 }) ≡ Some 0) × (weekday_kind 0 ≡ saturday)
  pub second : weekday_kind 1 ≡ sunday
  pub others : (d : ℕ) → 2 ≤ d → d ≤ 6 → weekday_kind d ≡ working
  pub again : (d : ℕ) → weekday_kind (d + 7) ≡ weekday_kind d
