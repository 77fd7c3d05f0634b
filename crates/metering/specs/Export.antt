-- A well-formed export: what it is, however its columns are ordered and whatever columns it has beside the four.
use Rattle.std.specs.Prelude.{◌≡◌, ℕ, ◌-◌, ◌<◌, ◌≤◌, false, ◌⊎◌, List, [], ◌∷◌, ◌++◌, length, pos, ◌-ℤ◌, Ok, codes, decimal, Result, slice_index_or}
use Rattle.metering.specs.declared.reading.Reading.{Reading}
use Rattle.metering.specs.declared.reading.Reading.TheVariants.{Measured, Estimated}
use Rattle.metering.specs.declared.columns.Columns.{Columns}
use Rattle.metering.specs.declared.fault.Fault.{Fault}
use Rattle.metering.specs.Readings.{reading_in}
use Rattle.metering.specs.Text.{separator}
use Rattle.metering.specs.Cells.{energy}
use Rattle.metering.specs.Meaning.{Taken}

-- a field holds any bytes but a semicolon and a line feed
abbrev pub Plain : List ℕ → Type 0
Plain [] = Unit {0}
Plain (b ∷ bs) = (separator b ≡ false) × Plain bs

abbrev pub PlainAll : List (List ℕ) → Type 0
PlainAll [] = Unit {0}
PlainAll (f ∷ fs) = Plain f × PlainAll fs

abbrev pub PlainLines : List (List (List ℕ)) → Type 0
PlainLines [] = Unit {0}
PlainLines (l ∷ ls) = PlainAll l × PlainLines ls

-- a line: its fields with semicolons between them and a line feed at the end
abbrev pub line : List ℕ → List (List ℕ) → List ℕ
line f [] = f ++ (10 ∷ [])
line f (g ∷ gs) = f ++ (59 ∷ line g gs)

-- a line of no field is none that can be written
abbrev pub line_of : List (List ℕ) → List ℕ
line_of [] = []
line_of (f ∷ fs) = line f fs

abbrev pub written : List (List (List ℕ)) → List ℕ
written [] = []
written (l ∷ ls) = line_of l ++ written ls

-- the field in a column, counted from 1
abbrev pub field_of : ℕ → List (List ℕ) → List ℕ
field_of k fs = slice_index_or fs (k - 1) []

-- a name stands in column k of the first line, and in no other
pub record Stands (names : List (List ℕ)) (name : List ℕ) (k : ℕ) : Type 0 where
  pub from : 1 ≤ k
  pub to : k ≤ length names
  pub here : field_of k names ≡ name
  pub only : (j : ℕ) → 1 ≤ j → j ≤ length names → field_of j names ≡ name → j ≡ k

-- the first line: at most 16 names, and each of the four stands once
pub record Heading (names : List (List ℕ)) (c : Columns) : Type 0 where
  pub some : 1 ≤ length names
  pub few : length names ≤ 16
  pub quarter : Stands names (codes "QUARTER") c.quarter
  pub a1 : Stands names (codes "A1") c.a1
  pub a2 : Stands names (codes "A2") c.a2
  pub state : Stands names (codes "STATE") c.state

-- what the letter in the state column makes of two energies
abbrev pub Marked : List ℕ → ℕ → ℕ → Reading → Type 0
Marked f injected drawn r = ((f ≡ codes "M") × (r ≡ Measured (pos injected -ℤ pos drawn))) ⊎ ((f ≡ codes "E") × (r ≡ Estimated))

-- the row of quarter q: as many fields as names, its number, drawn energy in A1, injected energy in A2, its letter
pub record RowOf (width : ℕ) (c : Columns) (q : ℕ) (fields : List (List ℕ)) (r : Reading) : Type 0 where
  pub wide : length fields ≡ width
  pub number : field_of c.quarter fields ≡ decimal q
  pub drawn : ℕ
  pub drawn_to : drawn ≤ 1000000
  pub drawn_in : field_of c.a1 fields ≡ energy drawn
  pub injected : ℕ
  pub injected_to : injected ≤ 1000000
  pub injected_in : field_of c.a2 fields ≡ energy injected
  pub mark : Marked (field_of c.state fields) injected drawn r

-- a text is a well-formed export of these readings
pub record Export (text : List ℕ) (t : Taken) : Type 0 where
  pub names : List (List ℕ)
  pub rows : List (List (List ℕ))
  pub short : length text ≤ 65535
  pub plain : PlainLines (names ∷ rows)
  pub text_is : text ≡ written (names ∷ rows)
  pub heading : Heading names t.columns
  pub width : t.width ≡ length names
  pub tall : length rows ≡ 96
  pub full : length t.readings ≡ 96
  pub each : (q : ℕ) → q < 96 → RowOf t.width t.columns q (slice_index_or rows q []) (reading_in t.readings q)

-- a text gives a curve just where it is a well-formed export of it
abbrev pub Exactly : List ℕ → Result Taken Fault → Type 0
Exactly text r = (t : Taken) → (r ≡ Ok t → Export text t) × (Export text t → r ≡ Ok t)
