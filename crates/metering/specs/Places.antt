-- The place of a field: in the first line with the names so far, or in the row of a quarter; its column, from 1.
use Rattle.std.specs.Prelude.{ℕ, ◌+◌, cond, Some, None, Ok, Err, Option, Result, ◌==◌, nat_le, is_none}
use Rattle.metering.specs.declared.columns.Column.{Column}
use Rattle.metering.specs.declared.columns.Column.TheVariants.{Quarter, A1, A2, State, Other}
use Rattle.metering.specs.declared.place.Kind.{Kind}
use Rattle.metering.specs.declared.place.Kind.TheVariants.{Name, Count, Energy, Letter, Skipped, Beyond}
use Rattle.metering.specs.declared.place.Value.{Value}
use Rattle.metering.specs.declared.place.Value.TheVariants.{Named}
use Rattle.metering.specs.declared.columns.Columns.{Columns}
use Rattle.metering.specs.declared.columns.Sought.{Sought}
use Rattle.metering.specs.declared.place.InHeader.{InHeader}
use Rattle.metering.specs.declared.place.InRow.{InRow}
use Rattle.metering.specs.declared.place.Place.{Place}
use Rattle.metering.specs.declared.place.Place.TheVariants.{Header as AtHeader, Row as AtRow}
use Rattle.metering.specs.declared.fault.Fault.{Fault}
use Rattle.metering.specs.declared.fault.Fault.TheVariants.{Header, Row}

abbrev pub header_fault : InHeader → Fault
header_fault p = Header p.column

-- the row of quarter q is line q + 2
abbrev pub row_fault : InRow → Fault
row_fault p = Row (p.quarter + 2) p.column

-- the refusal of a field: 8 in the first line, 9 after it
abbrev pub fault_at : Place → Fault
fault_at (AtHeader p) = header_fault p
fault_at (AtRow p) = row_fault p

abbrev pub row_kind : InRow → Kind
row_kind p =
    cond (nat_le 96 p.quarter) Beyond
    (cond (p.column == p.columns.quarter) (Count p.quarter)
    (cond (p.column == p.columns.a1) Energy
    (cond (p.column == p.columns.a2) Energy
    (cond (p.column == p.columns.state) Letter Skipped))))

-- the first line has names; then come 96 rows, of quarters 0 to 95
abbrev pub kind_at : Place → Kind
kind_at (AtHeader p) = Name
kind_at (AtRow p) = row_kind p

-- a name stands in a column; each of the four only once
abbrev pub named : Sought → Column → ℕ → Option Sought
named c Quarter k = cond (is_none c.quarter) (Some (record { quarter = Some k; a1 = c.a1; a2 = c.a2; state = c.state })) None
named c A1 k = cond (is_none c.a1) (Some (record { quarter = c.quarter; a1 = Some k; a2 = c.a2; state = c.state })) None
named c A2 k = cond (is_none c.a2) (Some (record { quarter = c.quarter; a1 = c.a1; a2 = Some k; state = c.state })) None
named c State k = cond (is_none c.state) (Some (record { quarter = c.quarter; a1 = c.a1; a2 = c.a2; state = Some k })) None
named c Other k = Some c

abbrev pub all_four : Option ℕ → Option ℕ → Option ℕ → Option ℕ → Option Columns
all_four (Some q) (Some a) (Some b) (Some s) = Some (record { quarter = q; a1 = a; a2 = b; state = s })
all_four q a b s = None

-- the columns of the four names, where none is lacking
abbrev pub found : Sought → Option Columns
found c = all_four c.quarter c.a1 c.a2 c.state

abbrev pub rows_from : ℕ → Option Columns → Result Place Fault
rows_from w None = Err (Header 0)
rows_from w (Some c) = Ok (AtRow (record { quarter = 0; column = 1; width = w; columns = c }))

-- the next field of the first line: at most 16 columns, and none of the four names lacking at its end
abbrev pub headed : ℕ → ℕ → Option Sought → Result Place Fault
headed j s None = Err (Header j)
headed j s (Some c) =
    cond (s == 59) (cond (nat_le 16 j) (Err (Header 17)) (Ok (AtHeader (record { column = j + 1; sought = c })))) (rows_from j (found c))

abbrev pub after_name : InHeader → Column → ℕ → Result Place Fault
after_name p n s = headed p.column s (named p.sought n p.column)

-- the next field of a row: as many columns as the first line has
abbrev pub after_field : InRow → ℕ → Result Place Fault
after_field p s =
    cond (s == 59)
    (cond (nat_le p.width p.column) (Err (Row (p.quarter + 2) (p.column + 1)))
    (Ok (AtRow (record { quarter = p.quarter; column = p.column + 1; width = p.width; columns = p.columns }))))
    (cond (p.column == p.width)
    (cond (nat_le 96 p.quarter) (Err (row_fault p))
    (Ok (AtRow (record { quarter = p.quarter + 1; column = 1; width = p.width; columns = p.columns }))))
    (Err (row_fault p)))

-- a field that is no name says nothing of its column
abbrev pub name_in : Value → Column
name_in (Named n) = n
name_in v = Other

abbrev pub after : Place → Value → ℕ → Result Place Fault
after (AtHeader p) v s = after_name p (name_in v) s
after (AtRow p) v s = after_field p s
