-- A curve is its readings: what its type says of them has one proof.
use Rattle.std.proofs.Common.{◌≡◌, ℕ, zero, suc, ◌<◌, true, List, [], ◌∷◌, length, refl, ap, ◌∙◌, arith}
use mathlib.Core.HLevel.{Π_prop, is_prop→PathP}
use mathlib.Core.Bool.{Bool-set}
use native.Mathlib.Nat.{ℕ_set}
use Rattle.metering.specs.declared.curve.Curve.{Curve}
use Rattle.std.proofs.lemmas.Bool.{cond-true}
use Rattle.metering.specs.declared.reading.Reading.{Reading}
use Rattle.metering.specs.declared.reading.Reading.TheVariants.{Estimated}
use Rattle.metering.specs.Readings.{within, reading_in}
use Rattle.metering.specs.Curves.{fitted, curve_of, curve_of_readings}

pub same_curve : (a b : Curve) → a.readings ≡ b.readings → a ≡ b
same_curve a b e = λ i. record {
  readings = e i;
  whole = is_prop→PathP (λ j. length (e j) ≡ 96) (λ j. ℕ_set (length (e j)) 96) a.whole b.whole i;
  limited = is_prop→PathP (λ j. (k : ℕ) → k < 96 → within (reading_in (e j) k) ≡ true)
      (λ j. Π_prop (λ k. Π_prop (λ h. Bool-set (within (reading_in (e j) k)) true))) a.limited b.limited i;
}

fitted_same : (n : ℕ) (rs : List Reading) → length rs ≡ n → ((k : ℕ) → k < n → within (reading_in rs k) ≡ true) → fitted n rs ≡ rs
fitted_same zero [] l h = refl
fitted_same zero (r ∷ rs) l h = absurd (omega arith)
fitted_same (suc n) [] l h = absurd (omega arith)
fitted_same (suc n) (r ∷ rs) l h =
    let a = cond-true (within r) r Estimated (h 0 (omega arith)) in
    let b = fitted_same n rs (omega arith) (λ k p. h (suc k) (omega arith)) in
    ap (λ x. x ∷ fitted n rs) a ∙ ap (λ xs. r ∷ xs) b

-- the curve of a curve's readings is that curve
pub curve_of_same : (c : Curve) → curve_of c.readings ≡ c
curve_of_same c = same_curve (curve_of c.readings) c (curve_of_readings c.readings ∙ fitted_same 96 c.readings c.whole c.limited)
