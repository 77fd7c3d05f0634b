-- The Gregorian calendar of the years 2000 to 2099, by its rule. Day 0 is 1 January 2000.
use Rattle.std.specs.Prelude.{ℕ, zero, suc, ◌+◌, ◌-◌, ◌%◌, Bool, cond, not, ◌&&◌, ◌||◌, Some, None, Option, ◌==◌, nat_le, nat_lt}
use Rattle.calendar.specs.declared.dates.Date.{Date}

-- every fourth year, but no century that 400 does not divide
abbrev pub is_leap : ℕ → Bool
is_leap y = y % 4 == 0 && (not (y % 100 == 0) || y % 400 == 0)

-- April, June, September and November
abbrev pub has_thirty : ℕ → Bool
has_thirty m = m == 4 || (m == 6 || (m == 9 || m == 11))

abbrev pub month_length : ℕ → ℕ → ℕ
month_length y m = cond (m == 2) (cond (is_leap y) 29 28) (cond (has_thirty m) 30 31)

-- the days of the first m months of the year y
unfoldable pub months_days : ℕ → ℕ → ℕ
months_days y zero = 0
months_days y (suc m) = months_days y m + month_length y (suc m)

-- the days of the first n years from 2000 on
unfoldable pub years_days : ℕ → ℕ
years_days zero = 0
years_days (suc n) = years_days n + months_days (2000 + n) 12

unfoldable pub first_day : ℕ → ℕ → ℕ
first_day y m = years_days (y - 2000) + months_days y (m - 1)

unfoldable pub last_day : ℕ → ℕ → ℕ
last_day y m = first_day y m + month_length y m - 1

-- the number of a date
unfoldable pub day_number : Date → ℕ
day_number x = first_day x.year x.month + (x.day - 1)

-- the date after a date: the next day, or the first of the next month, or 1 January of the next year
unfoldable pub next_date : Date → Date
next_date x =
    cond (nat_lt x.day (month_length x.year x.month))
    (record { year = x.year; month = x.month; day = x.day + 1 })
    (cond (nat_lt x.month 12)
    (record { year = x.year; month = x.month + 1; day = 1 })
    (record { year = x.year + 1; month = 1; day = 1 }))

-- the date that many days after 1 January 2000
unfoldable pub date_after : ℕ → Date
date_after zero = record { year = 2000; month = 1; day = 1 }
date_after (suc d) = next_date (date_after d)

-- what lies in the years 2000 to 2099: a month, a date, a day
abbrev pub is_month : ℕ → ℕ → Bool
is_month y m = nat_le 2000 y && (nat_le y 2099 && (nat_le 1 m && nat_le m 12))

abbrev pub is_date : Date → Bool
is_date x = is_month x.year x.month && (nat_le 1 x.day && nat_le x.day (month_length x.year x.month))

abbrev pub is_day : ℕ → Bool
is_day d = nat_le d 36524

-- the day of a date, and the date of a day
abbrev pub day_of : Date → Option ℕ
day_of x = cond (is_date x) (Some (day_number x)) None

abbrev pub date_of : ℕ → Option Date
date_of d = cond (is_day d) (Some (date_after d)) None
