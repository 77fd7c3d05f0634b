-- A date as text: four, two and two digits with hyphens between, as 2026-06-28.
use Rattle.std.specs.Prelude.{◌≡◌, ℕ, ◌+◌, ◌-◌, ◌*◌, ◌/◌, ◌%◌, Bool, true, cond, ◌&&◌, List, ◌++◌, length, Some, None, codes, decimal, Option, ◌==◌, nat_le, slice_index}
use Rattle.calendar.specs.declared.dates.Date.{Date}
use Rattle.calendar.specs.Gregorian.{is_date}

-- what is written of a date
unfoldable pub date_text : Date → List ℕ
date_text x =
    decimal (x.year / 1000) ++ (decimal (x.year / 100 % 10) ++ (decimal (x.year / 10 % 10) ++ (decimal (x.year % 10)
    ++ (codes "-" ++ (decimal (x.month / 10) ++ (decimal (x.month % 10)
    ++ (codes "-" ++ (decimal (x.day / 10) ++ decimal (x.day % 10)))))))))

-- what is read of a text: ten bytes, digits and two hyphens, of a date that exists
abbrev pub is_digit : ℕ → Bool
is_digit b = nat_le 48 b && nat_le b 57

abbrev pub is_hyphen : ℕ → Bool
is_hyphen b = b == 45

abbrev pub is_shaped : List ℕ → Bool
is_shaped t =
    (length t == 10) && (is_digit (slice_index t 0) && (is_digit (slice_index t 1) && (is_digit (slice_index t 2) && (is_digit (slice_index t 3)
    && (is_hyphen (slice_index t 4) && (is_digit (slice_index t 5) && (is_digit (slice_index t 6)
    && (is_hyphen (slice_index t 7) && (is_digit (slice_index t 8) && is_digit (slice_index t 9))))))))))

-- the number that two digits write, from place i on
abbrev pub two_digits : List ℕ → ℕ → ℕ
two_digits t i = (slice_index t i - 48) * 10 + (slice_index t (i + 1) - 48)

unfoldable pub written_date : List ℕ → Date
written_date t = record { year = two_digits t 0 * 100 + two_digits t 2; month = two_digits t 5; day = two_digits t 8 }

abbrev pub date_from : List ℕ → Option Date
date_from t = cond (is_shaped t && is_date (written_date t)) (Some (written_date t)) None

-- just what is written of a date that exists is read, as that date
abbrev pub ReadBack : Type 0
ReadBack = (x : Date) → is_date x ≡ true → date_from (date_text x) ≡ Some x

abbrev pub ReadOnly : Type 0
ReadOnly = (t : List ℕ) (x : Date) → date_from t ≡ Some x → (is_date x ≡ true) × (t ≡ date_text x)
