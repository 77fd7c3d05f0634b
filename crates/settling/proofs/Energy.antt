-- Energies fit.
use Rattle.std.proofs.Common.{◌≡◌, ℕ, ◌-◌, ◌*◌, ◌^◌, ◌<◌, ◌≤◌, min, Bool, true, cond, ltb, leb, ℤ, pos, negsuc, ◌*ℤ◌, ◌≤ℤ◌, w64, to_z, of_z, Some, None, ap, ◌∙◌, mul-le-mul, arith}
use Rattle.std.proofs.lemmas.Int.{ints}
use Rattle.std.proofs.lemmas.Bool.{le-ltb, le-leb, and_from, cond_both}
use Rattle.rulebooks.specs.Rounding.{rounded, divided}
use Rattle.ledger.specs.declared.terms.Terms.{Terms}
use Rattle.ledger.specs.declared.records.Order.{Order}
use Rattle.ledger.specs.declared.records.Outcome.{Outcome}
use Rattle.ledger.specs.Settling.{positive, ordered_energy}
use Rattle.settling.specs.Placed.{Placed}
use Rattle.settling.specs.History.{Near}
use Rattle.ledger.specs.Standing.{is_modest}
use Rattle.settling.specs.Outcomes.{remunerated_by, outcome_by}

pub power_bound : (p n : ℕ) → p ≤ 4000 → n ≤ 96 → p * n * 250 ≤ 96000000
power_bound p n h k = let m : p * n ≤ 4000 * 96 = mul-le-mul h k in omega (arith, m)

pub energy_bound : (p n : ℕ) → p ≤ 128000 → n ≤ 96 → p * n * 250 ≤ 3072000000
energy_bound p n h k = let m : p * n ≤ 128000 * 96 = mul-le-mul h k in omega (arith, m)

price_bound : (e u : ℕ) → e < 2 ^ 32 → u ≤ 100000 → e * u ≤ 429496729600000
price_bound e u h k = let g : e ≤ 4294967296 = omega arith in let m : e * u ≤ 4294967296 * 100000 = mul-le-mul g k in omega (arith, m)

-- pay is never out of reach of the rounding
pay_rounds : (n : ℕ) → n ≤ 429496729600000 → divided (pos n) (pos 100000) ≡ Some (rounded (pos n) (pos 100000))
pay_rounds n h = ap (λ (b : Bool). cond b None (Some (rounded (pos n) (pos 100000)))) (le-ltb 1000000000000000000 n (omega arith))

-- nor out of the range of its words
pub pay_words : (e u : ℕ) (x y : ℤ) → x ≡ pos e → y ≡ pos u → e < 2 ^ 32 → u ≤ 100000
    → divided (to_z w64 (of_z w64 (to_z w64 (of_z w64 x) *ℤ to_z w64 (of_z w64 y)))) (pos 100000) ≡ Some (rounded (pos (e * u)) (pos 100000))
pay_words e u x y ex ey h k =
    let m = price_bound e u h k in
    let a : to_z w64 (of_z w64 x) ≡ pos e = omega (arith, ints) in
    let b : to_z w64 (of_z w64 y) ≡ pos u = omega (arith, ints) in
    let w : to_z w64 (of_z w64 (pos (e * u))) ≡ pos (e * u) = omega (arith, ints, m) in
    ap (λ (z : ℤ). divided (to_z w64 (of_z w64 (z *ℤ to_z w64 (of_z w64 y)))) (pos 100000)) a
    ∙ (ap (λ (z : ℤ). divided (to_z w64 (of_z w64 (pos e *ℤ z))) (pos 100000)) b
    ∙ (ap (λ (z : ℤ). divided z (pos 100000)) w ∙ pay_rounds (e * u) m))

positive_bound : (z : ℤ) (n : ℕ) → z ≤ℤ pos n → positive z ≤ n
positive_bound (pos m) n h = omega (arith, ints)
positive_bound (negsuc m) n h = omega arith

-- what an order settles at is no more than the sum of its contributions and the ordered energy
modest_all : (t : Terms) (o : Order) (sum : ℤ) (estimated : Bool) → Placed o → Near 33792000000 sum → is_modest (Some (outcome_by t o sum estimated)) ≡ true
modest_all t o sum estimated p h =
    let ends = p.ends in
    let full = energy_bound o.qr (o.q1 - o.q0) p.power_to (omega arith) in
    let most = positive_bound sum 33792000000 h.high in
    let x = outcome_by t o sum estimated in
    let pta : x.pta ≤ 33792000000 = cond_both estimated (min (positive sum) (ordered_energy o)) (positive sum) (λ (n : ℕ). n ≤ 33792000000) (λ _. omega arith) (λ _. most) in
    let seta : x.seta ≤ 3072000000 = omega arith in
    let paid : x.paid ≤ 3072000000 = cond_both (ltb (5 * remunerated_by o sum estimated) (3 * ordered_energy o)) 0 (remunerated_by o sum estimated) (λ (n : ℕ). n ≤ 3072000000) (λ _. omega arith) (λ _. seta) in
    and_from (leb x.eda 70_000_000_000) _ (le-leb x.eda 70_000_000_000 (omega (arith, full)))
    (and_from (leb x.pta 70_000_000_000) _ (le-leb x.pta 70_000_000_000 (omega (arith, pta)))
    (and_from (leb x.seta 70_000_000_000) _ (le-leb x.seta 70_000_000_000 (omega (arith, seta))) (le-leb x.paid 70_000_000_000 (omega (arith, paid)))))

pub outcome_modest : (t : Terms) (o : Order) (sum : ℤ) (estimated : Bool) (x : Outcome) → Placed o → x ≡ outcome_by t o sum estimated → Near 33792000000 sum → is_modest (Some x) ≡ true
outcome_modest t o sum estimated x p e h = ap (λ (y : Outcome). is_modest (Some y)) e ∙ modest_all t o sum estimated p h
