-- A time by its two parts.
use Rattle.std.proofs.Common.{◌≡◌, ℕ, ◌+◌, ◌-◌, ◌*◌, ◌/◌, cond, ◌&&◌, List, [], ◌∷◌, ◌++◌, Some, None, ◌∙◌, arith}
use Rattle.std.proofs.lemmas.Grind.{common_steps}
use Rattle.std.specs.Bool.{then_some}
use Rattle.calendar.specs.DateText.{is_digit}
use Rattle.lifefile.specs.Words.{two_digits_in, in_day, time_in}
use Rattle.lifefile.proofs.Numbers.{two_digits_read}

pub time_read : (h m : List ℕ) (p q : ℕ) → Some p ≡ two_digits_in h → Some q ≡ two_digits_in m → then_some (in_day p q) (p * 4 + q / 15) ≡ time_in (h ++ 58 ∷ m)
time_read [] m p q hp hq = grind (arith, common_steps, hp)
time_read (a ∷ []) m p q hp hq = grind (arith, common_steps, hp)
time_read (a ∷ b ∷ []) [] p q hp hq = grind (arith, common_steps, hq)
time_read (a ∷ b ∷ []) (d ∷ []) p q hp hq = grind (arith, common_steps, hq)
time_read (a ∷ b ∷ []) (d ∷ e ∷ []) p q hp hq =
    let hour : Some p ≡ cond (is_digit a && is_digit b) (Some ((a - 48) * 10 + (b - 48))) None = hp ∙ two_digits_read a b in
    let minute : Some q ≡ cond (is_digit d && is_digit e) (Some ((d - 48) * 10 + (e - 48))) None = hq ∙ two_digits_read d e in
    grind (arith, common_steps, hour, minute)
time_read (a ∷ b ∷ []) (d ∷ e ∷ f ∷ m) p q hp hq = grind (arith, common_steps, hq)
time_read (a ∷ b ∷ x ∷ h) m p q hp hq = grind (arith, common_steps, hp)
