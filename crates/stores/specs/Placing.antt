-- A curve whose readings are those of a list, within the limits, is the curve of the list.
use Rattle.std.specs.Prelude.{◌≡◌, ℕ, zero, suc, ◌<◌, List, [], ◌∷◌, length, pos, refl, cond, ◌≢◌, nat_lt, slice_set}
use Rattle.std.proofs.Common.{sym, ◌∙◌, arith, ap, inl, inr, get_or-set_same, get_or-set_other}
use Rattle.std.proofs.lemmas.List.{ext_get_or}
use Rattle.metering.specs.declared.reading.Reading.{Reading}
use Rattle.metering.specs.declared.reading.Reading.TheVariants.{Measured, Estimated}
use Rattle.metering.specs.declared.curve.Curve.{Curve}
use Rattle.metering.specs.Readings.{reading_in, within, placed}
use Rattle.metering.specs.Curves.{limited, fitted, length_fitted, curve_of, curve_of_readings}
use Rattle.metering.proofs.Same.{same_curve}
use Rattle.std.proofs.lemmas.Bool.{cond-true, cond-false, cases_Bool, lt-ltb}

pub fitted_at : (n : ℕ) (rs : List Reading) (k : ℕ) → k < n → k < length rs → reading_in (fitted n rs) k ≡ limited (reading_in rs k)
fitted_at zero rs k h l = absurd (omega arith)
fitted_at (suc n) [] k h l = absurd (omega arith)
fitted_at (suc n) (r ∷ rs) zero h l = refl
fitted_at (suc n) (r ∷ rs) (suc k) h l = fitted_at n rs k (omega arith) (omega arith)

pub curve_is : (c : Curve) (rs : List Reading) → length rs ≡ 96 → ((k : ℕ) → k < 96 → reading_in c.readings k ≡ limited (reading_in rs k)) → c ≡ curve_of rs
curve_is c rs l h =
    let lc : length c.readings ≡ 96 = c.whole in
    let lf = length_fitted 96 rs in
    same_curve c (curve_of rs)
    (ext_get_or (Measured (pos 0)) c.readings (fitted 96 rs) (lc ∙ sym lf)
    (λ k p. let b : k < 96 = omega arith in h k b ∙ sym (fitted_at 96 rs k b (omega arith)))
    ∙ sym (curve_of_readings rs))

pub placed_there : (rs : List Reading) (q : ℕ) (r : Reading) → length rs ≡ 96 → q < 96 → reading_in rs q ≡ Estimated → reading_in (placed rs q r) q ≡ limited r
placed_there rs q r l h e =
    let t : placed rs q r ≡ cond (within r) (slice_set rs q r) rs = cond-true (nat_lt q 96) _ _ (lt-ltb q 96 h) in
    elim (cases_Bool (within r)) [
      | inl w ↦ (let p : q < length rs = omega arith in
          ap (λ x. reading_in x q) (t ∙ cond-true (within r) (slice_set rs q r) rs w) ∙ get_or-set_same rs q r (Measured (pos 0)) p ∙ sym (cond-true (within r) r Estimated w))
      | inr w ↦ ap (λ x. reading_in x q) (t ∙ cond-false (within r) (slice_set rs q r) rs w) ∙ e ∙ sym (cond-false (within r) r Estimated w)
    ]

pub placed_elsewhere : (rs : List Reading) (q k : ℕ) (r : Reading) → k ≢ q → reading_in (placed rs q r) k ≡ reading_in rs k
placed_elsewhere rs q k r n =
    elim (cases_Bool (nat_lt q 96)) [
      | inl t ↦ elim (cases_Bool (within r)) [
        | inl w ↦ ap (λ x. reading_in x k) (cond-true (nat_lt q 96) _ _ t ∙ cond-true (within r) (slice_set rs q r) rs w) ∙ get_or-set_other rs q k r (Measured (pos 0)) n
        | inr w ↦ ap (λ x. reading_in x k) (cond-true (nat_lt q 96) _ _ t ∙ cond-false (within r) (slice_set rs q r) rs w)
      ]
      | inr t ↦ ap (λ x. reading_in x k) (cond-false (nat_lt q 96) _ _ t)
    ]
