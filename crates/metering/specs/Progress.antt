-- How far a text has been read, field by field: the place, the row so far, the readings of the rows before.
use Rattle.std.specs.Prelude.{ℕ, false, cond, List, replicate, Some, None, Ok, Err, Option, Result, ◌==◌}
use Rattle.metering.specs.declared.reading.Reading.{Reading}
use Rattle.metering.specs.declared.reading.Reading.TheVariants.{Estimated}
use Rattle.metering.specs.declared.place.Value.{Value}
use Rattle.metering.specs.declared.place.Value.TheVariants.{Amount, Mark}
use Rattle.metering.specs.declared.columns.Columns.{Columns}
use Rattle.metering.specs.declared.place.Place.{Place}
use Rattle.metering.specs.declared.place.Place.TheVariants.{Header as AtHeader, Row as AtRow}
use Rattle.metering.specs.declared.reader.Row.{Row}
use Rattle.metering.specs.declared.fault.Fault.{Fault}
use Rattle.metering.specs.Readings.{reading_of, placed}
use Rattle.metering.specs.Places.{after}

pub record Progress : Type 0 where
  pub place : Place
  pub row : Row
  pub readings : List Reading

abbrev pub top : Place
top = AtHeader (record { column = 1; sought = record { quarter = None; a1 = None; a2 = None; state = None } })

abbrev pub begun : Progress
begun = record { place = top; row = record { drawn = 0; injected = 0; estimated = false }; readings = replicate 96 Estimated }

-- the row with the field at a place: drawn energy from column A1, injected energy from column A2
abbrev pub filled_in : ℕ → Columns → Value → Row → Row
filled_in j c (Amount n) r =
    cond (j == c.a1) (record { drawn = n; injected = r.injected; estimated = r.estimated })
    (record { drawn = r.drawn; injected = n; estimated = r.estimated })
filled_in j c (Mark e) r = record { drawn = r.drawn; injected = r.injected; estimated = e }
filled_in j c v r = r

abbrev pub filled : Place → Value → Row → Row
filled (AtHeader p) v r = r
filled (AtRow p) v r = filled_in p.column p.columns v r

abbrev pub noted_by : List Reading → ℕ → Option Reading → List Reading
noted_by rs q None = rs
noted_by rs q (Some r) = placed rs q r

-- at the end of its line, a row gives the reading of its quarter
abbrev pub noted_row : List Reading → ℕ → Row → List Reading
noted_row rs q r = noted_by rs q (reading_of r.injected r.drawn r.estimated)

abbrev pub noted : List Reading → Place → Row → List Reading
noted rs (AtHeader p) r = rs
noted rs (AtRow p) r = noted_row rs p.quarter r

abbrev pub going : Progress → ℕ → Row → Result Place Fault → Result Progress Fault
going h s r (Err e) = Err e
going h s r (Ok p) = Ok (record { place = p; row = r; readings = cond (s == 10) (noted h.readings h.place r) h.readings })

-- a field that says v is taken, and the separator s after it
abbrev pub taken : Progress → Value → ℕ → Result Progress Fault
taken h v s = going h s (filled h.place v h.row) (after h.place v s)
