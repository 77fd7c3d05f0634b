-- What follows of every rulebook from its meaning and its laws.
use Rattle.std.specs.Prelude.{◌≡◌, ℕ, ◌≤◌, Bool, true, false, ℤ, is_some, Some, None, Ok, Err, Option, unsigned_abs, refl}
use Rattle.std.proofs.Common.{arith, ap, ◌∙◌}
use Rattle.std.specs.Option.{ok_or}
use Rattle.std.proofs.lemmas.Bool.Decides.{nat_tests}
use Rattle.rulebooks.specs.declared.rule.RuleFault.{RuleFault}
use Rattle.rulebooks.specs.declared.rule.RuleFault.TheVariants.{NoBaseline}
use Rattle.rulebooks.specs.Rules.{Rules, Known, baseline_limit, out_of_range, InRange, ruled, answered, Lawful}

pub in_range_from : (d : ℕ) (s l c : ℤ) → out_of_range d s l c ≡ false → InRange d s l c
in_range_from d s l c h = grind (arith, nat_tests)

pub in_range_test : (d : ℕ) (s l c : ℤ) → InRange d s l c → out_of_range d s l c ≡ false
in_range_test d s l c r = grind (arith, nat_tests)

-- past the first two tests only the rule decides
pub let_on : (b : Bool) (days : Option ℕ) → b ≡ false → is_some days ≡ true → (x : Option ℤ) → ok_or x NoBaseline ≡ ruled b days x
let_on true days e k x = cc
let_on false None e k x = cc
let_on false (Some n) e k x = refl

-- a baseline that is answered comes from the rule, of numbers in range and a known choice
pub record Granted (R : Rules) (k d : ℕ) (s l c z : ℤ) : Type 0 where
  pub in_range : InRange d s l c
  pub known : Known R k
  pub given : R.rule k d s l c ≡ Some z

pub granted : (R : Rules) (k d : ℕ) (s l c z : ℤ) → answered R k d s l c ≡ Ok z → Granted R k d s l c z
unfolding answered
granted R k d s l c z e = grind (arith, in_range_from d s l c)

-- in range and known, the rule alone decides
pub answered_is : (R : Rules) (k d : ℕ) (s l c : ℤ) → InRange d s l c → Known R k → answered R k d s l c ≡ ok_or (R.rule k d s l c) NoBaseline
unfolding answered
answered_is R k d s l c r h = grind (arith, in_range_test d s l c r)

-- every answer lies within 10,000,000
pub answer_within : (R : Rules) → Lawful R → (k d : ℕ) (s l c z : ℤ) → answered R k d s l c ≡ Ok z → unsigned_abs z ≤ baseline_limit
answer_within R law k d s l c z e =
    let g = granted R k d s l c z e in
    law.within k d s l c z g.in_range g.known g.given

-- numbers in range and a known choice are refused by no other number than 24
pub refused_by_rule : (R : Rules) (k d : ℕ) (s l c : ℤ) (f : RuleFault) → InRange d s l c → Known R k → answered R k d s l c ≡ Err f → f ≡ NoBaseline
refused_by_rule R k d s l c f r h e = grind (arith, answered_is R k d s l c r h)

-- for a rulebook that asks its own days and then its rule
pub refused_so : (R : Rules) (k d : ℕ) (s l c : ℤ) (days : Option ℕ) (f : RuleFault) → days ≡ R.days k
    → ((x : Option ℤ) → Err f ≡ ruled (out_of_range d s l c) days x) → Err f ≡ answered R k d s l c
unfolding answered
refused_so R k d s l c days f e h = h (R.rule k d s l c) ∙ ap (λ o. ruled (out_of_range d s l c) o (R.rule k d s l c)) e

pub ruled_so : (R : Rules) (k d : ℕ) (s l c : ℤ) (days : Option ℕ) (x : Option ℤ) → days ≡ R.days k → x ≡ R.rule k d s l c
    → ((x : Option ℤ) → ok_or x NoBaseline ≡ ruled (out_of_range d s l c) days x) → ok_or x NoBaseline ≡ answered R k d s l c
unfolding answered
ruled_so R k d s l c days x e f h = h x ∙ ap (λ y. ruled (out_of_range d s l c) days y) f ∙ ap (λ o. ruled (out_of_range d s l c) o (R.rule k d s l c)) e
