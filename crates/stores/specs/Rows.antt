-- A journal's rows: a resource, a day and the readings of a curve, as bytes and back.
use Rattle.std.specs.Prelude.{◌≡◌, ℕ, ◌+◌, ◌-◌, ◌*◌, ◌/◌, ◌%◌, Bool, true, cond, not, ◌&&◌, List, [], ◌∷◌, ◌++◌, length, replicate, pos, negsuc, Some, None, Option, ◌==◌, nat_le, nat_lt, slice_index, refl}
use Rattle.std.proofs.Common.{of_z, to_z}
use Rattle.std.specs.Int.{w32}
use Rattle.std.specs.List.{flat_map, list_all}
use Rattle.metering.specs.declared.reading.Reading.{Reading}
use Rattle.metering.specs.declared.reading.Reading.TheVariants.{Measured, Estimated}
use Rattle.metering.specs.declared.curve.Curve.{Curve}
use Rattle.metering.specs.Readings.{within}
use Rattle.metering.specs.Curves.{curve_of}
use Rattle.stores.specs.Words.{word_of, reading_from as word_reading, upto}

pub record Row : Type 0 where
  pub resource : ℕ
  pub day : ℕ
  pub readings : List Reading

-- writing: the most significant byte first

abbrev pub two : ℕ → List ℕ
two n = (n / 256 % 256) ∷ (n % 256) ∷ []

abbrev pub four : ℕ → List ℕ
four n = (n / 16777216 % 256) ∷ (n / 65536 % 256) ∷ (n / 256 % 256) ∷ (n % 256) ∷ []

-- the word of a reading in 32 bits, two's complement
abbrev pub bits_of : Reading → ℕ
bits_of r = of_z w32 (word_of r)

abbrev pub reading_bytes : Reading → List ℕ
reading_bytes r = four (bits_of r)

-- 1 + 2 + 96 * 4 = 387 bytes
abbrev pub row_bytes : Row → List ℕ
row_bytes e = (e.resource ∷ two e.day) ++ flat_map reading_bytes e.readings

-- a thousand kWh, -1 Wh, estimated; day 9675
thousand : reading_bytes (Measured (pos 1000000)) ≡ 0 ∷ 15 ∷ 66 ∷ 64 ∷ []
thousand = refl

minus_one : reading_bytes (Measured (negsuc 0)) ≡ 255 ∷ 255 ∷ 255 ∷ 255 ∷ []
minus_one = refl

estimated : reading_bytes Estimated ≡ 128 ∷ 0 ∷ 0 ∷ 0 ∷ []
estimated = refl

day_9675 : two 9675 ≡ 37 ∷ 203 ∷ []
day_9675 = refl

-- rows one after another
abbrev pub written : List Row → List ℕ
written rs = flat_map row_bytes rs

-- a memory of n bytes: the rows one after another, then zeros
abbrev pub layout : List Row → ℕ → List ℕ
layout rs n = written rs ++ replicate (n - 387 * length rs) 0

-- reading back

abbrev pub word_at : List ℕ → ℕ → ℕ
word_at bs a = slice_index bs a * 16777216 + slice_index bs (a + 1) * 65536 + slice_index bs (a + 2) * 256 + slice_index bs (a + 3)

abbrev pub reading_from : ℕ → Reading
reading_from n = word_reading (to_z w32 n)

abbrev pub day_from : List ℕ → ℕ → ℕ
day_from bs a = slice_index bs (a + 1) * 256 + slice_index bs (a + 2)

-- the row of the 387 bytes from a on
abbrev pub row_at : List ℕ → ℕ → Row
row_at bs a = record { resource = slice_index bs a; day = day_from bs a; readings = upto (λ q. reading_from (word_at bs (a + 3 + 4 * q))) 96 }

-- the first n rows of a memory
abbrev pub rows_in : List ℕ → ℕ → List Row
rows_in bs n = upto (λ i. row_at bs (387 * i)) n

-- what rows hold

abbrev pub is_of : ℕ → ℕ → Row → Bool
is_of r d e = e.resource == r && e.day == d

-- the curve of a resource and a day among rows, or nothing
abbrev pub held_in : List Row → ℕ → ℕ → Option Curve
held_in [] r d = None
held_in (e ∷ es) r d = cond (is_of r d e) (Some (curve_of e.readings)) (held_in es r d)

abbrev pub since : ℕ → Row → Bool
since d e = nat_le d e.day

-- no two rows of one resource and day
abbrev pub apart : List Row → Bool
apart [] = true
apart (e ∷ es) = list_all (λ x. not (is_of e.resource e.day x)) es && apart es

-- a row that a journal of this width and floor holds
abbrev pub fine : ℕ → ℕ → Row → Bool
fine width floor e =
    nat_lt e.resource width && (nat_le floor e.day && (nat_le e.day 36524 && (length e.readings == 96 && list_all within e.readings)))
