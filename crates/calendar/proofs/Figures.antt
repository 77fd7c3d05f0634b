-- Known days, computed from the definitions.
use Rattle.std.proofs.Common.{◌≡◌, true, false, Some, None, codes, refl}
use Rattle.std.specs.Fmt.{digits}
use Rattle.calendar.specs.Gregorian.{is_leap, months_days, years_days, first_day, last_day, day_number, next_date, date_after, is_month, is_day, day_of, date_of}
use Rattle.calendar.specs.Weekdays.{weekday_kind, sunday, working}
use Rattle.calendar.specs.DateText.{date_text, written_date, date_from}
use Rattle.calendar.proofs.Numbering.{at}

-- Sunday 28 June 2026 and Tuesday 2 June 2026
sunday_in_june : (day_of (at 2026 6 28) ≡ Some 9675) × (weekday_kind 9675 ≡ sunday)
unfolding day_number first_day years_days months_days
sunday_in_june = (refl, refl)

second_of_june : (day_of (at 2026 6 2) ≡ Some 9649) × (weekday_kind 9649 ≡ working)
unfolding day_number first_day years_days months_days
second_of_june = (refl, refl)

june : (first_day 2026 6 ≡ 9648) × (last_day 2026 6 ≡ 9677)
unfolding last_day first_day years_days months_days
june = (refl, refl)

-- the last day there is, and 29 February
last_of_all : (day_of (at 2099 12 31) ≡ Some 36524) × (day_of (at 2100 1 1) ≡ None)
unfolding day_number first_day years_days months_days
last_of_all = (refl, refl)

leap_days : (day_of (at 2000 2 29) ≡ Some 59) × (day_of (at 2099 2 29) ≡ None) × (date_of 60 ≡ Some (at 2000 3 1))
unfolding day_number first_day years_days months_days date_after next_date
leap_days = (refl, refl, refl)

leap_years : (is_leap 1900 ≡ false) × (is_leap 2000 ≡ true) × (is_leap 2024 ≡ true) × (is_leap 2026 ≡ false) × (is_leap 2100 ≡ false)
leap_years = (refl, refl, refl, refl, refl)

no_such : (is_month 2026 0 ≡ false) × (is_month 2026 13 ≡ false) × (is_month 2100 1 ≡ false) × (is_day 36525 ≡ false)
no_such = (refl, refl, refl, refl)

as_text : (date_text (at 2026 6 28) ≡ codes "2026-06-28") × (date_from (codes "2026-06-28") ≡ Some (at 2026 6 28)) × (date_from (codes "2026-02-30") ≡ None)
unfolding date_text written_date digits
as_text = (refl, refl, refl)
