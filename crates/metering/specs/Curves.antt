-- The curve of any list of readings: the first 96, estimated where one is missing or beyond the limits.
use Rattle.std.specs.Prelude.{◌≡◌, ℕ, zero, suc, ◌<◌, Bool, true, false, cond, List, [], ◌∷◌, length, refl}
use Rattle.std.proofs.Common.{ap, arith}
use Rattle.metering.specs.declared.reading.Reading.{Reading}
use Rattle.metering.specs.declared.reading.Reading.TheVariants.{Estimated}
use Rattle.metering.specs.declared.curve.Curve.{Curve}
use Rattle.metering.specs.Readings.{within, reading_in}

abbrev pub limited : Reading → Reading
limited r = cond (within r) r Estimated

abbrev pub fitted : ℕ → List Reading → List Reading
fitted zero rs = []
fitted (suc n) [] = Estimated ∷ fitted n []
fitted (suc n) (r ∷ rs) = limited r ∷ fitted n rs

pub length_fitted : (n : ℕ) (rs : List Reading) → length (fitted n rs) ≡ n
length_fitted zero rs = refl
length_fitted (suc n) [] = ap suc (length_fitted n [])
length_fitted (suc n) (r ∷ rs) = ap suc (length_fitted n rs)

limited_by : (b : Bool) (r : Reading) → within r ≡ b → within (cond b r Estimated) ≡ true
limited_by true r e = e
limited_by false r e = refl

pub fitted_within : (n : ℕ) (rs : List Reading) (k : ℕ) → k < n → within (reading_in (fitted n rs) k) ≡ true
fitted_within zero rs k h = absurd (omega arith)
fitted_within (suc n) [] zero h = refl
fitted_within (suc n) [] (suc k) h = fitted_within n [] k (omega arith)
fitted_within (suc n) (r ∷ rs) zero h = limited_by (within r) r refl
fitted_within (suc n) (r ∷ rs) (suc k) h = fitted_within n rs k (omega arith)

unfoldable pub curve_of : List Reading → Curve
curve_of rs = record { readings = fitted 96 rs; whole = length_fitted 96 rs; limited = fitted_within 96 rs }

pub curve_of_readings : (rs : List Reading) → (curve_of rs).readings ≡ fitted 96 rs
unfolding curve_of
curve_of_readings rs = refl
