-- A number that another is at least, and near.
use Rattle.std.proofs.Common.{ℕ, ◌+◌, ◌*◌, ◌≤◌, List, [], ◌∷◌, map, ℤ, pos, negsuc, ◌+ℤ◌, ◌-ℤ◌, ◌≤ℤ◌, Ok, mul-le-mul_right, arith}
use Rattle.std.specs.List.{AllByRecursion}
use Rattle.std.proofs.lemmas.Int.{ints}
use Rattle.std.proofs.lemmas.Bool.Decides.{nat_tests}
use Rattle.rulebooks.specs.Rounding.{rounded}
use Rattle.rulebooks.specs.RoundedLaws.{rounded_monotone}
use Rattle.ledger.specs.declared.records.Direction.{Direction}
use Rattle.ledger.specs.declared.records.Direction.TheVariants.{Up, Down}
use Rattle.ledger.specs.Words.{Granted, ◌>>=◌, toward, Further, distance, apart, total_of}
use Rattle.ledger.specs.Settling.{positive, paid_energy, cents}
use Rattle.ledger.specs.Lives.{Both, both}
use Rattle.ledger.proofs.Rel.{bind_both}

pub record Near (a b : ℤ) (n : ℕ) : Type 0 where
  pub low : a ≤ℤ b
  pub high : b ≤ℤ (a +ℤ pos n)

pub near_none : Near (pos 0) (pos 0) 0
near_none = record { low = omega (arith, ints); high = omega (arith, ints) }

pub near_add : {a b a' b' : ℤ} {m n : ℕ} → Near a b m → Near a' b' n → Near (a +ℤ a') (b +ℤ b') (m + n)
near_add h k = record { low = omega (arith, ints); high = omega (arith, ints) }

pub near_same : (a : ℤ) (n : ℕ) → Near a a n
near_same a n = record { low = omega (arith, ints); high = omega (arith, ints) }

pub near_toward : (w : Direction) (a a' b : ℤ) → Further w a a' → Near (toward w (a -ℤ b)) (toward w (a' -ℤ b)) (distance a a')
near_toward Up a a' b h = record { low = omega (arith, ints); high = omega (arith, ints) }
near_toward Down a a' b h = record { low = omega (arith, ints); high = omega (arith, ints) }

pub positive_near : (a b : ℤ) (n : ℕ) → Near a b n → (positive a ≤ positive b) × (positive b ≤ positive a + n)
positive_near (pos a) (pos b) n h = (omega (arith, ints), omega (arith, ints))
positive_near (pos a) (negsuc b) n h = (omega (arith, ints), omega (arith, ints))
positive_near (negsuc a) (pos b) n h = (omega (arith, ints), omega (arith, ints))
positive_near (negsuc a) (negsuc b) n h = (omega (arith, ints), omega (arith, ints))

pub positive_more : (a b : ℤ) → a ≤ℤ b → positive a ≤ positive b
positive_more (pos a) (pos b) h = omega (arith, ints)
positive_more (pos a) (negsuc b) h = omega (arith, ints)
positive_more (negsuc a) (pos b) h = omega (arith, ints)
positive_more (negsuc a) (negsuc b) h = omega (arith, ints)

pub paid_more : (full s t : ℕ) → s ≤ t → paid_energy full s ≤ paid_energy full t
paid_more full s t h = grind (arith, nat_tests)

pub cents_more : (uf s t : ℕ) → s ≤ t → cents s uf ≤ cents t uf
cents_more uf s t h =
    let m : s * uf ≤ t * uf = mul-le-mul_right uf h in
    positive_more (rounded (pos (s * uf)) (pos 100000)) (rounded (pos (t * uf)) (pos 100000))
    (rounded_monotone (pos (s * uf)) (pos (t * uf)) (pos 100000) (omega (arith, ints)) (omega (arith, ints)))

pub total_of_near : (f f' : ℕ → Granted ℤ) (v v' : ℕ → ℤ) (qs : List ℕ) → AllByRecursion (λ q. Both (λ x y. Near x y (distance (v q) (v' q))) (f q) (f' q)) qs → Both (λ x y. Near x y (apart (map v qs) (map v' qs))) (total_of f qs) (total_of f' qs)
total_of_near f f' v v' [] h = both near_none
total_of_near f f' v v' (q ∷ qs) h =
    bind_both (λ a. total_of f qs >>= (λ b. Ok (a +ℤ b))) (λ a. total_of f' qs >>= (λ b. Ok (a +ℤ b))) h.0 (λ a a' r.
    bind_both (λ b. Ok (a +ℤ b)) (λ b. Ok (a' +ℤ b)) (total_of_near f f' v v' qs h.1) (λ b b' s. both (near_add r s)))
