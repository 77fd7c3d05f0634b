-- A number as std reads it, in the words of specs/Words.
use Rattle.std.proofs.Common.{◌≡◌, ◌≢◌, ℕ, ◌+◌, ◌-◌, ◌*◌, ◌<◌, ◌^◌, true, false, cond, ◌&&◌, eqb, List, [], ◌∷◌, length, get_or, Some, None, Ok, Err, Result, IfSome, refl, arith}
use Rattle.std.proofs.lemmas.Grind.{common_steps}
use Rattle.std.proofs.lemmas.Str.Parse.{IsNumeralModel, numerals_by_fold, tells_all_ascii_digits, parse_plain}
use Rattle.std.specs.Result.{result_ok, OkIff}
use Rattle.std.specs.Str.{all_ascii_digits}
use Rattle.std.specs.Str.Parse.{ParsesUnsigned}
use Rattle.calendar.specs.DateText.{is_digit}
use Rattle.lifefile.specs.Words.{value_from, number_in}

own : IsNumeralModel (λ bs. all_ascii_digits bs ≡ true) (value_from 0)
own = numerals_by_fold (λ bs. all_ascii_digits bs ≡ true) tells_all_ascii_digits value_from (record { empty = λ n. refl; more = λ n c cs h. refl })

read : {E : Type 0} → (bs : List ℕ) (r : Result ℕ E) → OkIff r ((all_ascii_digits bs ≡ true) × (0 < length bs) × (value_from 0 bs < 2 ^ 32)) (value_from 0 bs) → result_ok r ≡ number_in bs
read bs (Ok n) h = grind (arith, common_steps, h)
read bs (Err e) h = grind (arith, common_steps, h)

pub number_read : {E : Type 0} → (bs : List ℕ) (r : Result ℕ E) → ParsesUnsigned 32 10 bs r → get_or bs 0 0 ≢ 43 → result_ok r ≡ number_in bs
number_read bs r h plus = read bs r (parse_plain own 32 bs r h plus)

pub other_first : (c : ℕ) (bs : List ℕ) → eqb (get_or bs 0 0) c ≡ false → get_or bs 0 0 ≢ c
other_first c bs h e = grind (arith, common_steps, h, e)

-- two digits make a number below 100
pub two_digits_read : (a b : ℕ) → number_in (a ∷ b ∷ []) ≡ cond (is_digit a && is_digit b) (Some ((a - 48) * 10 + (b - 48))) None
two_digits_read a b = grind (arith, common_steps)

pub two_digits_small : (t : List ℕ) → length t ≡ 2 → IfSome (number_in t) (λ n. n < 100)
two_digits_small [] e = absurd (omega (arith, e))
two_digits_small (a ∷ []) e = absurd (omega (arith, e))
two_digits_small (a ∷ b ∷ []) e = grind (arith, common_steps)
two_digits_small (a ∷ b ∷ c ∷ t) e = absurd (omega (arith, e))
