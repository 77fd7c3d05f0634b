-- What a curve amounts to: its total, and its furthest reading either way.
use Rattle.std.specs.Prelude.{◌≡◌, ℕ, ◌<◌, Bool, true, false, cond, List, [], ◌∷◌, ℤ, pos, ◌+ℤ◌, Some, None, Option, int_lt}
use Rattle.metering.specs.declared.reading.Reading.{Reading}
use Rattle.metering.specs.declared.reading.Reading.TheVariants.{Measured, Estimated}
use Rattle.metering.specs.declared.summary.Peak.{Peak}
use Rattle.metering.specs.Readings.{reading_in}

-- an estimated reading counts for no number
abbrev pub measured_part : Reading → ℤ
measured_part (Measured z) = z
measured_part Estimated = pos 0

abbrev pub total_of : List Reading → ℤ
total_of [] = pos 0
total_of (r ∷ rs) = measured_part r +ℤ total_of rs

-- further upward is larger, further downward smaller
abbrev pub further_by : Bool → ℤ → ℤ → Bool
further_by upward a b = cond upward (int_lt b a) (int_lt a b)

abbrev pub peaked_by : Option Peak → Bool → ℕ → ℤ → Option Peak
peaked_by None upward q z = Some (record { quarter = q; wh = z })
peaked_by (Some p) upward q z = cond (further_by upward z p.wh) (Some (record { quarter = q; wh = z })) (Some p)

abbrev pub peaked : Option Peak → Bool → ℕ → Reading → Option Peak
peaked best upward q (Measured z) = peaked_by best upward q z
peaked best upward q Estimated = best

-- the peak stands among the first n quarters, none of these is further, and none before it is as far
abbrev pub Furthest : Bool → List Reading → ℕ → Option Peak → Type 0
Furthest upward rs n None = (k : ℕ) → k < n → reading_in rs k ≡ Estimated
Furthest upward rs n (Some p) =
    (p.quarter < n) × (reading_in rs p.quarter ≡ Measured p.wh)
    × ((k : ℕ) (z : ℤ) → k < n → reading_in rs k ≡ Measured z → further_by upward z p.wh ≡ false)
    × ((k : ℕ) (z : ℤ) → k < p.quarter → reading_in rs k ≡ Measured z → further_by upward p.wh z ≡ true)
