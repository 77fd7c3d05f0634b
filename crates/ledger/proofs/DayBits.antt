-- A kind of day as a bit of a sum of kinds.
use Rattle.std.proofs.Common.{◌≡◌, ℕ, zero, suc, ◌*◌, ◌/◌, ◌%◌, ◌^◌, ◌<◌, ◌==◌, not, nat_eq, bit_and, ap, ◌∙◌, arith}
use Rattle.std.specs.Int.{bit_at}
use Rattle.std.proofs.lemmas.Bool.Decides.{nat_tests}
use Rattle.std.proofs.lemmas.Nat.{pow_pos}
use Rattle.std.proofs.lemmas.Nat.Bits.{and_pow, bit_at-lt}
use Rattle.calendar.specs.declared.weekdays.DayKind.{DayKind}
use Rattle.calendar.specs.declared.weekdays.DayKind.TheVariants.{Working, Saturday, Sunday}
use Rattle.calendar.specs.Weekdays.{number_of}
use Rattle.ledger.specs.Days.{has_kind}

scaled : (r p : ℕ) → r < 2 → 0 < p → not (nat_eq (r * p) 0) ≡ (r == 1)
scaled zero p h k = grind (arith, nat_tests)
scaled (suc zero) p h k = grind (arith, nat_tests)
scaled (suc (suc r)) p h k = absurd (omega arith)

bit_set : (n k : ℕ) → not (nat_eq (bit_and n (2 ^ k)) 0) ≡ (n / 2 ^ k % 2 == 1)
bit_set n k = ap (λ m. not (nat_eq m 0)) (and_pow n k) ∙ scaled (bit_at n k) (2 ^ k) (bit_at-lt n k) (pow_pos k)

pub kind_bit : (n : ℕ) (k : DayKind) → not (nat_eq (bit_and n (number_of k)) 0) ≡ has_kind n (number_of k)
kind_bit n Working = bit_set n 0
kind_bit n Saturday = bit_set n 1
kind_bit n Sunday = bit_set n 2
