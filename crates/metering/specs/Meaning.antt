-- What a text means: its fields judged one by one, in reading order.
use Rattle.std.specs.Prelude.{◌≡◌, ℕ, ◌<◌, ◌≤◌, cond, List, [], ◌∷◌, length, Some, None, Ok, Err, Option, Result, ◌==◌}
use Rattle.metering.specs.declared.reading.Reading.{Reading}
use Rattle.metering.specs.declared.place.Value.{Value}
use Rattle.metering.specs.declared.columns.Columns.{Columns}
use Rattle.metering.specs.declared.fault.Fault.{Fault}
use Rattle.metering.specs.declared.place.Place.{Place}
use Rattle.metering.specs.declared.place.Place.TheVariants.{Header as AtHeader, Row as AtRow}
use Rattle.metering.specs.declared.fault.Fault.TheVariants.{Header}
use Rattle.metering.specs.Text.{Text, field, rest, cut}
use Rattle.metering.specs.Places.{row_fault, fault_at, kind_at}
use Rattle.metering.specs.Cells.{Read}
use Rattle.metering.specs.Progress.{Progress, begun, taken}

-- what an export gives: 96 readings, the columns of the four names, and how many columns there are
pub record Taken : Type 0 where
  pub readings : List Reading
  pub columns : Columns
  pub width : ℕ

-- a field that says nothing where it stands is refused there
abbrev pub judged : Progress → ℕ → Option Value → Result Progress Fault
judged h s None = Err (fault_at h.place)
judged h s (Some v) = taken h v s

-- a text that ends too early, in the first line or in a row
abbrev pub early : Place → Fault
early (AtHeader p) = Header 0
early (AtRow p) = row_fault p

-- after the last row
abbrev pub ended_at : Place → List Reading → Result Taken Fault
ended_at (AtHeader p) rs = Err (Header 0)
ended_at (AtRow p) rs = cond (p.quarter == 96) (Ok (record { readings = rs; columns = p.columns; width = p.width })) (Err (row_fault p))

-- the text ends, with these bytes after its last separator: it should end after the row of quarter 95
abbrev pub ended : Progress → List ℕ → Result Taken Fault
ended h [] = ended_at h.place h.readings
ended h (b ∷ bs) = Err (early h.place)

abbrev pub Goes : Result Progress Fault → (Progress → Type 0) → (Fault → Type 0) → Type 0
Goes (Ok h) P Q = P h
Goes (Err e) P Q = Q e

abbrev pub Means : Progress → Text → Result Taken Fault → Type 0
Means h (rest f) r = r ≡ ended h f
Means h (field f s t) r = (o : Option Value) × Read (kind_at h.place) f o × Goes (judged h s o) (λ n. Means n t r) (λ e. r ≡ Err e)

-- a text that is too long is refused before it is read
abbrev pub Imports : List ℕ → Result Taken Fault → Type 0
Imports t r = (65535 < length t → r ≡ Err (Header 0)) × (length t ≤ 65535 → Means begun (cut t) r)
