-- The days before a year, by a formula: a test that antt computes for each of the hundred years.
use Rattle.std.proofs.Common.{◌≡◌, ℕ, zero, suc, ◌+◌, ◌-◌, ◌*◌, ◌/◌, ◌<◌, ◌≤◌, Bool, true, false, cond, T, eqb, sym, subst, ⊎_elim, arith, eqb→eq}
use Rattle.std.proofs.lemmas.Bool.{cases_eq}
use Rattle.calendar.specs.Gregorian.{years_days, months_days, first_day}

unfoldable all : (ℕ → Bool) → ℕ → Bool
all f zero = true
all f (suc n) = cond (f n) (all f n) false

here : (b c : Bool) → T (cond b c false) → T b
here true c t = tt
here false c t = t

there : (b c : Bool) → T (cond b c false) → T c
there true c t = t
there false c t = absurd t

below : (f : ℕ → Bool) (n : ℕ) → T (all f n) → (k : ℕ) → k < n → T (f k)
unfolding all
below f zero t k h = absurd (omega arith)
below f (suc n) t k h = ⊎_elim (λ e. subst (λ (m : ℕ). T (f m)) (sym e) (here (f n) (all f n) t)) (λ e. below f n (there (f n) (all f n) t) k (omega arith)) (cases_eq k n)

years_test : T (all (λ n. eqb (n * 365 + (n + 3) / 4) (years_days n)) 100)
unfolding all years_days months_days
years_test = tt

pub year_form : (y : ℕ) → 2000 ≤ y → y ≤ 2099 → (y - 2000) * 365 + (y - 2000 + 3) / 4 ≡ first_day y 1
unfolding first_day months_days
year_form y a b =
    let t = eqb→eq _ _ (below (λ n. eqb (n * 365 + (n + 3) / 4) (years_days n)) 100 years_test (y - 2000) (omega arith)) in
    omega (arith, t)
