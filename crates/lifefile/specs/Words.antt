-- What the words of a line mean, by their bytes.
use Rattle.std.specs.Prelude.{◌≡◌, ℕ, ◌+◌, ◌-◌, ◌*◌, ◌/◌, ◌%◌, Bool, cond, ◌&&◌, ◌⊎◌, List, [], ◌∷◌, length, Some, None, Ok, Err, codes, Option, Result, ◌==◌, ◌≢◌, nat_le, nat_lt, slice_index}
use Rattle.lifefile.specs.declared.flaw.Flaw.{Flaw}
use Rattle.lifefile.specs.declared.flaw.Flaw.TheVariants.{Direction}
use Rattle.std.specs.Option.{option_or}
use Rattle.std.specs.Str.{all_ascii_digits}
use Rattle.calendar.specs.declared.dates.Date.{Date}
use Rattle.calendar.specs.DateText.{is_digit, two_digits, date_from}
use Rattle.calendar.specs.Gregorian.{day_of}

-- the number that digits write after those of v
abbrev pub value_from : ℕ → List ℕ → ℕ
value_from v [] = v
value_from v (b ∷ bs) = value_from (v * 10 + (b - 48)) bs

abbrev pub number_from : ℕ → List ℕ → Option ℕ
number_from v bs = cond (all_ascii_digits bs && nat_lt (value_from v bs) 4294967296) (Some (value_from v bs)) None

-- one digit or more, and at most 4294967295
abbrev pub number_in : List ℕ → Option ℕ
number_in bs = cond (length bs == 0) None (number_from 0 bs)

-- a number of two digits
abbrev pub two_digits_in : List ℕ → Option ℕ
two_digits_in t = cond (length t == 2) (number_in t) None

-- a date's day, or a number
abbrev pub day_by : Option Date → Option ℕ → Option ℕ
day_by None n = n
day_by (Some d) n = day_of d

abbrev pub day_in : List ℕ → Option ℕ
day_in t = day_by (date_from t) (number_in t)

-- two digits, a colon and two digits
abbrev pub is_time : List ℕ → Bool
is_time t =
    (length t == 5) && (is_digit (slice_index t 0) && (is_digit (slice_index t 1) && (slice_index t 2 == 58 && (is_digit (slice_index t 3) && is_digit (slice_index t 4)))))

-- where a quarter begins, or 24:00
abbrev pub in_day : ℕ → ℕ → Bool
in_day hour minute = minute % 15 == 0 && (nat_le minute 45 && nat_le (hour * 60 + minute) 1440)

abbrev pub time_in : List ℕ → Option ℕ
time_in t = cond (is_time t && in_day (two_digits t 0) (two_digits t 3)) (Some (two_digits t 0 * 4 + two_digits t 3 / 15)) None

abbrev pub quarter_in : List ℕ → Option ℕ
quarter_in t = option_or (time_in t) (number_in t)

-- 0 upward, 1 downward, and no other word is read
abbrev pub Directs : List ℕ → Result ℕ Flaw → Type 0
Directs t (Ok way) = ((way ≡ 0) × (t ≡ codes "up")) ⊎ ((way ≡ 1) × (t ≡ codes "down"))
Directs t (Err flaw) = (flaw ≡ Direction) × (t ≢ codes "up") × (t ≢ codes "down")
