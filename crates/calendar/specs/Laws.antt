-- What holds of every day, date and month of the years 2000 to 2099.
use Rattle.std.specs.Prelude.{◌≡◌, ℕ, ◌+◌, ◌-◌, ◌<◌, ◌≤◌, true, Some, None}
use Rattle.calendar.specs.declared.dates.Date.{Date}
use Rattle.calendar.specs.Gregorian.{first_day, last_day, next_date, is_month, is_date, day_of, date_of}

-- day 0 is 1 January 2000, the day after a day has the next date, and past the last day there is none
pub record DayByDay : Type 0 where
  pub first : date_of 0 ≡ Some (record { year = 2000; month = 1; day = 1 })
  pub after : (d : ℕ) (x : Date) → d < 36524 → date_of d ≡ Some x → date_of (d + 1) ≡ Some (next_date x)
  pub past : (d : ℕ) → 36524 < d → date_of d ≡ None

-- the two conversions undo each other
abbrev pub Undo : Type 0
Undo = (d : ℕ) (x : Date) → (date_of d ≡ Some x → day_of x ≡ Some d) × (day_of x ≡ Some d → date_of d ≡ Some x)

-- every day has a date, and every date that exists a day
abbrev pub EveryDay : Type 0
EveryDay = (d : ℕ) → d ≤ 36524 → (x : Date) × (is_date x ≡ true) × (date_of d ≡ Some x)

abbrev pub EveryDate : Type 0
EveryDate = (x : Date) → is_date x ≡ true → (d : ℕ) × (d ≤ 36524) × (day_of x ≡ Some d)

-- the days from the first to the last of a month are its dates, in order
abbrev pub MonthDays : Type 0
MonthDays = (y m d : ℕ) → is_month y m ≡ true → first_day y m ≤ d → d ≤ last_day y m → date_of d ≡ Some (record { year = y; month = m; day = d - first_day y m + 1 })

-- the months follow one another without a gap, from day 0 to the last day, each of 28 to 31 days
pub record MonthsInARow : Type 0 where
  pub start : first_day 2000 1 ≡ 0
  pub end : last_day 2099 12 ≡ 36524
  pub in_year : (y m : ℕ) → is_month y m ≡ true → m < 12 → first_day y (m + 1) ≡ last_day y m + 1
  pub new_year : (y : ℕ) → is_month y 12 ≡ true → first_day (y + 1) 1 ≡ last_day y 12 + 1
  pub least : (y m : ℕ) → is_month y m ≡ true → first_day y m + 27 ≤ last_day y m
  pub most : (y m : ℕ) → is_month y m ≡ true → (last_day y m ≤ first_day y m + 30) × (last_day y m ≤ 36524)
