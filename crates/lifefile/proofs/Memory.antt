-- A ring without memory is the ring of any memory that does not fit.
use Rattle.std.proofs.Common.{◌≡◌, ℕ, ◌*◌, ◌≤◌, Bool, true, false, cond, is_ok, ap, ◌∙◌, refl, mul-le-mul, arith}
use Rattle.std.proofs.lemmas.Grind.{common_steps}
use Rattle.stores.specs.Making.{fit_answer, fresh}
use Rattle.stores.specs.Ring.{ring_fits, ring_made}

unfit_empty : (w d : ℕ) → ring_fits 0 w d ≡ false
unfit_empty w d =
    let p : 1 ≤ w → 1 ≤ d → 1 * 1 ≤ w * d = λ a b. mul-le-mul a b in
    grind (arith, common_steps, p)

fits_as : (w d size n : ℕ) (b : Bool) → ring_fits size w d ≡ b → n ≡ cond (is_ok (fit_answer b)) size 0 → ring_fits n w d ≡ b
fits_as w d size n true r e = ap (λ k. ring_fits k w d) e ∙ r
fits_as w d size n false r e = ap (λ k. ring_fits k w d) e ∙ unfit_empty w d

pub made_as : (w d size asked n : ℕ) → ring_fits size w d ≡ ring_fits asked w d → n ≡ cond (is_ok (fit_answer (ring_fits size w d))) size 0 → ring_made n w d ≡ ring_made asked w d
made_as w d size asked n r e = ap (λ t. cond t (fresh w (w * d) d) (fresh 1 0 1)) (fits_as w d size n (ring_fits size w d) refl e ∙ r)
