-- The machine that reads a text byte by byte.
use Rattle.std.specs.Prelude.{ℕ, cond, List, [], ◌∷◌, Some, None, Ok, Err, Option, Result}
use Rattle.metering.specs.declared.reading.Reading.{Reading}
use Rattle.metering.specs.declared.place.Kind.TheVariants.{Name}
use Rattle.metering.specs.declared.cell.Cell.{Cell}
use Rattle.metering.specs.declared.reader.Reader.{Reader}
use Rattle.metering.specs.declared.reader.Imported.{Imported}
use Rattle.metering.specs.declared.fault.Fault.{Fault}
use Rattle.metering.specs.Text.{separator}
use Rattle.metering.specs.Places.{fault_at, kind_at}
use Rattle.metering.specs.Cells.{start, stepped, finished}
use Rattle.metering.specs.Progress.{Progress, begun}
use Rattle.metering.specs.Meaning.{Taken, judged, ended}

pub record Machine : Type 0 where
  pub progress : Progress
  pub cell : Cell

-- a reader, and the readings of the rows before
abbrev pub machine_of : Reader → List Reading → Machine
machine_of r rs = record { progress = record { place = r.place; row = r.row; readings = rs }; cell = r.cell }

abbrev pub begin : Machine
begin = record { progress = begun; cell = start Name }

abbrev pub fresh : Result Progress Fault → Result Machine Fault
fresh (Ok h) = Ok (record { progress = h; cell = start (kind_at h.place) })
fresh (Err e) = Err e

abbrev pub within : Machine → Option Cell → Result Machine Fault
within m (Some c) = Ok (record { progress = m.progress; cell = c })
within m None = Err (fault_at m.progress.place)

-- a separator ends the field
abbrev pub ends : Machine → ℕ → Result Machine Fault
ends m s = fresh (judged m.progress s (finished (kind_at m.progress.place) m.cell))

abbrev pub next : Machine → ℕ → Result Machine Fault
next m b = cond (separator b) (ends m b) (within m (stepped m.cell b))

abbrev pub verdict : Result Machine Fault → Result (Unit {0}) Fault
verdict (Ok m) = Ok tt
verdict (Err e) = Err e

abbrev pub after : Machine → Result Machine Fault → Machine
after m (Ok n) = n
after m (Err e) = m

abbrev pub proceed : {X Y : Type 0} → Result X Fault → (X → Result Y Fault) → Result Y Fault
proceed (Ok x) k = k x
proceed (Err e) k = Err e

abbrev pub runs : Machine → List ℕ → Result Taken Fault
runs m [] = ended m.progress []
runs m (b ∷ bs) = proceed (next m b) (λ n. runs n bs)

-- what the code answers, with a curve as its readings
abbrev pub outcome : Result Imported Fault → Result Taken Fault
outcome (Ok i) = Ok (record { readings = i.curve.readings; columns = i.columns; width = i.width })
outcome (Err e) = Err e
