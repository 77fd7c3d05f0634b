-- What a field says, by the kind of field that stands at its place; and the reader's state inside a field.
use Rattle.std.specs.Prelude.{◌≡◌, ℕ, ◌+◌, ◌-◌, ◌*◌, ◌/◌, ◌%◌, ◌≤◌, Bool, true, false, cond, ◌⊎◌, List, [], ◌∷◌, ◌++◌, take, Some, None, codes, decimal, Option, ◌==◌, nat_le, nat_lt, slice_set}
use Rattle.std.specs.Str.{bytes_eq}
use Rattle.metering.specs.declared.columns.Column.{Column}
use Rattle.metering.specs.declared.columns.Column.TheVariants.{Quarter, A1, A2, State, Other}
use Rattle.metering.specs.declared.place.Kind.{Kind}
use Rattle.metering.specs.declared.place.Kind.TheVariants.{Name, Count, Energy, Letter, Skipped, Beyond}
use Rattle.metering.specs.declared.place.Value.{Value}
use Rattle.metering.specs.declared.place.Value.TheVariants.{Named, Passed, Amount, Mark}
use Rattle.metering.specs.declared.cell.Name.{Name as Spelling}
use Rattle.metering.specs.declared.cell.Cell.{Cell}
use Rattle.metering.specs.declared.cell.Cell.TheVariants.{Spelled, Long, Number, Whole, Fraction, Letter as AtLetter, Measured, Estimated, Skipped as Skipping, Beyond as Shut}

-- WHAT A FIELD SAYS

abbrev pub column_of : List ℕ → Column
column_of n =
    cond (bytes_eq n (codes "QUARTER")) Quarter
    (cond (bytes_eq n (codes "A1")) A1
    (cond (bytes_eq n (codes "A2")) A2
    (cond (bytes_eq n (codes "STATE")) State Other)))

-- an energy of n Wh in kWh: the whole kWh without needless zeros, a comma, three digits
abbrev pub energy : ℕ → List ℕ
energy n = decimal (n / 1000) ++ (44 ∷ (48 + n / 100 % 10) ∷ (48 + n / 10 % 10) ∷ (48 + n % 10) ∷ [])

-- the bytes f, where a field of kind k stands, say v
abbrev pub Shows : Kind → List ℕ → Value → Type 0
Shows Name f v = v ≡ Named (column_of f)
Shows (Count q) f v = (f ≡ decimal q) × (v ≡ Passed)
Shows Energy f v = (n : ℕ) × (n ≤ 1000000) × (f ≡ energy n) × (v ≡ Amount n)
Shows Letter f v = ((f ≡ codes "M") × (v ≡ Mark false)) ⊎ ((f ≡ codes "E") × (v ≡ Mark true))
Shows Skipped f v = v ≡ Passed
Shows Beyond f v = ⊥

-- what a field says, or nothing where its bytes say nothing there
abbrev pub Read : Kind → List ℕ → Option Value → Type 0
Read k f (Some v) = Shows k f v
Read k f None = (v : Value) → Shows k f v → ⊥

-- THE STATE INSIDE A FIELD

abbrev pub pushed : Spelling → ℕ → Spelling
pushed n b = record { bytes = slice_set n.bytes n.len b; len = n.len + 1 }

abbrev pub start : Kind → Cell
start Name = Spelled (record { bytes = 0 ∷ 0 ∷ 0 ∷ 0 ∷ 0 ∷ 0 ∷ 0 ∷ 0 ∷ []; len = 0 })
start (Count q) = Number
start Energy = Number
start Letter = AtLetter
start Skipped = Skipping
start Beyond = Shut

abbrev pub digit : ℕ → Bool
digit b = cond (nat_le 48 b) (nat_le b 57) false

abbrev pub stepped : Cell → ℕ → Option Cell
stepped (Spelled n) b = cond (nat_lt n.len 8) (Some (Spelled (pushed n b))) (Some Long)
stepped Long b = Some Long
stepped Number b = cond (digit b) (Some (Whole (b - 48))) None
stepped (Whole v) b =
    cond (digit b) (cond (nat_lt 0 v) (cond (nat_le v 100) (Some (Whole (v * 10 + (b - 48)))) None) None)
    (cond (b == 44) (Some (Fraction v 0)) None)
stepped (Fraction v k) b = cond (digit b) (cond (nat_lt k 3) (cond (nat_le v 100000) (Some (Fraction (v * 10 + (b - 48)) (k + 1))) None) None) None
stepped AtLetter b = cond (b == 77) (Some Measured) (cond (b == 69) (Some Estimated) None)
stepped Skipping b = Some Skipping
stepped c b = None

abbrev pub as_name : Cell → Option Value
as_name (Spelled n) = cond (nat_le n.len 8) (Some (Named (column_of (take n.len n.bytes)))) None
as_name Long = Some (Named Other)
as_name c = None

abbrev pub as_count : ℕ → Cell → Option Value
as_count q (Whole v) = cond (v == q) (Some Passed) None
as_count q c = None

abbrev pub as_energy : Cell → Option Value
as_energy (Fraction v k) = cond (k == 3) (cond (nat_le v 1000000) (Some (Amount v)) None) None
as_energy c = None

abbrev pub as_letter : Cell → Option Value
as_letter Measured = Some (Mark false)
as_letter Estimated = Some (Mark true)
as_letter c = None

abbrev pub as_skipped : Cell → Option Value
as_skipped Skipping = Some Passed
as_skipped c = None

abbrev pub finished : Kind → Cell → Option Value
finished Name c = as_name c
finished (Count q) c = as_count q c
finished Energy c = as_energy c
finished Letter c = as_letter c
finished Skipped c = as_skipped c
finished Beyond c = None
