-- The supplied rulebook, and what holds of its answers.
use Rattle.std.specs.Prelude.{◌≡◌, ℕ, ◌≤◌, ℤ, ◌≤ℤ◌, Some, Ok}
use Rattle.std.specs.Option.{ok_or}
use Rattle.rulebooks.specs.declared.rule.RuleFault.TheVariants.{NoBaseline}
use Rattle.rulebooks.specs.Rules.{Rules, Known, InRange, answered}
use Rattle.rulebooks.specs.Options.{unadjusted_mean, additive, ratio, lead_mean, additive_rules, ratio_rules, lead_mean_rules}
use Rattle.rulebooks.specs.Banks.{joined}

-- the three rules under choices 1, 2 and 3
abbrev pub supplied_rules : Rules
supplied_rules = joined additive_rules (joined ratio_rules lead_mean_rules)

pub record SuppliedChoices : Type 0 where
  pub additive_days : supplied_rules.days 1 ≡ Some 15
  pub ratio_days : supplied_rules.days 2 ≡ Some 15
  pub lead_mean_days : supplied_rules.days 3 ≡ Some 0
  pub no_others : (choice : ℕ) → Known supplied_rules choice → (1 ≤ choice) × (choice ≤ 3)
  pub additive_answer : (direction : ℕ) (s l c : ℤ) → InRange direction s l c → answered supplied_rules 1 direction s l c ≡ Ok (additive direction s l c)
  pub ratio_answer : (direction : ℕ) (s l c : ℤ) → InRange direction s l c → answered supplied_rules 2 direction s l c ≡ ok_or (ratio s l c) NoBaseline
  pub lead_mean_answer : (direction : ℕ) (s l c : ℤ) → InRange direction s l c → answered supplied_rules 3 direction s l c ≡ Ok (lead_mean c)

-- option 1 never lifts a baseline over the unadjusted mean upward, nor lowers one under it downward
pub record MeanGuarantee : Type 0 where
  pub upward : (s l c z : ℤ) → answered supplied_rules 1 0 s l c ≡ Ok z → z ≤ℤ unadjusted_mean s
  pub downward : (s l c z : ℤ) → answered supplied_rules 1 1 s l c ≡ Ok z → unadjusted_mean s ≤ℤ z

-- option 1 follows the history quarter and the lead quarters of the day, and goes against those of the history days;
-- option 3 follows the lead quarters of the day
pub record FollowsSums : Type 0 where
  pub additive_follows : (direction : ℕ) (s s' l l' c c' y z : ℤ) → s ≤ℤ s' → l' ≤ℤ l → c ≤ℤ c'
      → answered supplied_rules 1 direction s l c ≡ Ok y → answered supplied_rules 1 direction s' l' c' ≡ Ok z → y ≤ℤ z
  pub lead_mean_follows : (direction direction' : ℕ) (s s' l l' c c' y z : ℤ) → c ≤ℤ c'
      → answered supplied_rules 3 direction s l c ≡ Ok y → answered supplied_rules 3 direction' s' l' c' ≡ Ok z → y ≤ℤ z
