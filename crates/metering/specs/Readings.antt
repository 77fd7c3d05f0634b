-- A reading: what a meter injected minus what it drew in a quarter, in Wh, each from 0 to 1,000,000; or estimated.
use Rattle.std.specs.Prelude.{ℕ, Bool, true, cond, List, pos, negsuc, ◌-ℤ◌, Some, None, Option, nat_le, nat_lt, slice_index_or, slice_set}
use Rattle.metering.specs.declared.reading.Reading.{Reading}
use Rattle.metering.specs.declared.reading.Reading.TheVariants.{Measured, Estimated}

abbrev pub reading_of : ℕ → ℕ → Bool → Option Reading
reading_of injected drawn estimated =
    cond (nat_lt 1000000 injected) None
    (cond (nat_lt 1000000 drawn) None
    (Some (cond estimated Estimated (Measured (pos injected -ℤ pos drawn)))))

-- the reading at a place of a list that is long enough; what stands beyond its end is never asked for
abbrev pub reading_in : List Reading → ℕ → Reading
reading_in rs q = slice_index_or rs q (Measured (pos 0))

-- at most a million Wh either way
abbrev pub within : Reading → Bool
within (Measured (pos n)) = nat_le n 1000000
within (Measured (negsuc n)) = nat_lt n 1000000
within Estimated = true

-- the readings with one put at a quarter, where the day has that quarter and the reading keeps its limits
abbrev pub placed : List Reading → ℕ → Reading → List Reading
placed rs q r = cond (nat_lt q 96) (cond (within r) (slice_set rs q r) rs) rs

-- the reading of a quarter, where the day has it
abbrev pub reading_at : List Reading → ℕ → Option Reading
reading_at rs q = cond (nat_lt q 96) (Some (reading_in rs q)) None
