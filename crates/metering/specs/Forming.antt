-- Forming a curve from 96 injected energies, 96 drawn ones and 96 marks (0 measured, 1 estimated).
use Rattle.std.specs.Prelude.{◌≡◌, ℕ, ◌<◌, Bool, true, false, cond, List, length, Some, None, Ok, Err, Option, Result, ◌==◌, slice_index}
use Rattle.metering.specs.declared.reading.Reading.{Reading}
use Rattle.metering.specs.declared.curve.Curve.{Curve}
use Rattle.metering.specs.declared.fault.Fault.{Fault}
use Rattle.metering.specs.declared.fault.Fault.TheVariants.{Lists}
use Rattle.metering.specs.Readings.{reading_of, reading_in}

abbrev pub marked : ℕ → Option Bool
marked m = cond (m == 0) (Some false) (cond (m == 1) (Some true) None)

abbrev pub formed_by : ℕ → ℕ → Option Bool → Option Reading
formed_by injected drawn None = None
formed_by injected drawn (Some estimated) = reading_of injected drawn estimated

-- what the three lists give at quarter q: a reading, or none
abbrev pub formed_at : List ℕ → List ℕ → List ℕ → ℕ → Option Reading
formed_at injected drawn marks q = formed_by (slice_index injected q) (slice_index drawn q) (marked (slice_index marks q))

-- the lists give a curve where each has 96 elements and each quarter a reading, and then just those readings
abbrev pub Forms : List ℕ → List ℕ → List ℕ → Result Curve Fault → Type 0
Forms injected drawn marks (Ok c) =
    (length injected ≡ 96) × (length drawn ≡ 96) × (length marks ≡ 96)
    × ((q : ℕ) → q < 96 → formed_at injected drawn marks q ≡ Some (reading_in c.readings q))
Forms injected drawn marks (Err e) =
    (e ≡ Lists)
    × ((length injected ≡ 96 → length drawn ≡ 96 → length marks ≡ 96 → (q : ℕ) × (q < 96) × (formed_at injected drawn marks q ≡ None)))
