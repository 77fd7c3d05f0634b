-- A reading as one 32-bit word: its Wh, or the least such number where it is estimated.
use Rattle.std.specs.Prelude.{ℕ, cond, List, map, ℤ, pos, negsuc, ◌==◌}
use Rattle.std.specs.List.{range_with_len}
use Rattle.metering.specs.declared.reading.Reading.{Reading}
use Rattle.metering.specs.declared.reading.Reading.TheVariants.{Measured, Estimated}
use Rattle.metering.specs.declared.curve.Curve.{Curve}
use Rattle.metering.specs.Curves.{curve_of}

abbrev pub word_of : Reading → ℤ
word_of (Measured wh) = wh
word_of Estimated = negsuc 2147483647

abbrev pub reading_from : ℤ → Reading
reading_from (pos n) = Measured (pos n)
reading_from (negsuc n) = cond (n == 2147483647) Estimated (Measured (negsuc n))

-- f 0, f 1, .. f (n - 1)
unfoldable pub upto : {X : Type 0} → (ℕ → X) → ℕ → List X
upto f n = map f (range_with_len 0 n)

-- the curve whose reading of quarter q is the word f q
unfoldable pub curve_from : (ℕ → ℤ) → Curve
curve_from f = curve_of (upto (λ q. reading_from (f q)) 96)
