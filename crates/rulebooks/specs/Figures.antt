-- Worked figures of the supplied rulebook: a quarter of -2,000 Wh on each of fifteen days, lead quarters of
-- -2,000 Wh on them and of -2,200 Wh on the order's day; and halves of either sign.
use Rattle.std.specs.Prelude.{◌≡◌, ℕ, ℤ, pos, neg_ℤ, Ok, Result}
use Rattle.rulebooks.specs.declared.rule.RuleFault.{RuleFault}
use Rattle.rulebooks.specs.Rules.{answered}
use Rattle.rulebooks.specs.Supplied.{supplied_rules}

abbrev pub worked : ℕ → ℕ → Result ℤ RuleFault
worked choice direction = answered supplied_rules choice direction (neg_ℤ (pos 30_000)) (neg_ℤ (pos 240_000)) (neg_ℤ (pos 17_600))

pub record Figures : Type 0 where
  pub additive_upward : worked 1 0 ≡ Ok (neg_ℤ (pos 2_200))
  pub ratio_upward : worked 2 0 ≡ Ok (neg_ℤ (pos 2_200))
  pub lead_mean_upward : worked 3 0 ≡ Ok (neg_ℤ (pos 2_200))
  pub additive_downward : worked 1 1 ≡ Ok (neg_ℤ (pos 2_000))
  pub half : answered supplied_rules 3 0 (pos 0) (pos 0) (pos 4) ≡ Ok (pos 1)
  pub minus_half : answered supplied_rules 3 0 (pos 0) (pos 0) (neg_ℤ (pos 4)) ≡ Ok (pos 0)
