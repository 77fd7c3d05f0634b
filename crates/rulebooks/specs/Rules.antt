-- What a rulebook means, and what one is asked and answers.
use Rattle.std.specs.Prelude.{◌≡◌, ℕ, ◌≤◌, Bool, true, false, ◌||◌, ℤ, is_some, Some, None, Ok, Err, Option, Result, nat_lt, unsigned_abs}
use Rattle.std.specs.Option.{ok_or}
use Rattle.rulebooks.specs.declared.rule.RuleFault.{RuleFault}
use Rattle.rulebooks.specs.declared.rule.RuleFault.TheVariants.{OutOfRange, UnknownChoice, NoBaseline}

-- The days that a choice needs, nothing where the choice is unknown; and the baseline of a choice, a direction
-- (0 upward, 1 downward) and three sums, nothing where the rule gives none:
-- s, a quarter's readings over the history days; l, those of the eight lead quarters over the same days;
-- c, the lead readings of the order's day.
pub record Rules : Type 0 where
  pub days : ℕ → Option ℕ
  pub rule : ℕ → ℕ → ℤ → ℤ → ℤ → Option ℤ

abbrev pub Known : Rules → ℕ → Type 0
Known R choice = is_some (R.days choice) ≡ true

-- the greatest sizes of the three sums, and of a baseline
abbrev pub s_limit : ℕ
s_limit = 15_000_000

abbrev pub l_limit : ℕ
l_limit = 120_000_000

abbrev pub c_limit : ℕ
c_limit = 8_000_000

abbrev pub baseline_limit : ℕ
baseline_limit = 10_000_000

-- a direction or a sum that no rulebook takes
abbrev pub out_of_range : ℕ → ℤ → ℤ → ℤ → Bool
out_of_range direction s l c =
    nat_lt 1 direction || (nat_lt s_limit (unsigned_abs s) || (nat_lt l_limit (unsigned_abs l) || nat_lt c_limit (unsigned_abs c)))

pub record InRange (direction : ℕ) (s l c : ℤ) : Type 0 where
  pub direction_is : direction ≤ 1
  pub s_size : unsigned_abs s ≤ s_limit
  pub l_size : unsigned_abs l ≤ l_limit
  pub c_size : unsigned_abs c ≤ c_limit

-- the refusals in turn: the numbers, the choice, the rule
abbrev pub ruled : Bool → Option ℕ → Option ℤ → Result ℤ RuleFault
ruled true days baseline = Err OutOfRange
ruled false None baseline = Err UnknownChoice
ruled false (Some n) baseline = ok_or baseline NoBaseline

-- what a rulebook of meaning R answers
unfoldable pub answered : Rules → ℕ → ℕ → ℤ → ℤ → ℤ → Result ℤ RuleFault
answered R choice direction s l c = ruled (out_of_range direction s l c) (R.days choice) (R.rule choice direction s l c)

-- What holds of every rulebook: at most fifteen days, choices from 1 on, a baseline within 10,000,000.
pub record Lawful (R : Rules) : Type 0 where
  pub few_days : (choice n : ℕ) → R.days choice ≡ Some n → n ≤ 15
  pub from_one : R.days 0 ≡ None
  pub within : (choice direction : ℕ) (s l c z : ℤ) → InRange direction s l c → Known R choice → R.rule choice direction s l c ≡ Some z → unsigned_abs z ≤ baseline_limit

-- r lets a question on to the rule, or is the refusal whatever the rule says
abbrev pub Admits : ℕ → ℤ → ℤ → ℤ → Option ℕ → Result (Unit {0}) RuleFault → Type 0
Admits direction s l c days (Ok u) = InRange direction s l c × ((baseline : Option ℤ) → ok_or baseline NoBaseline ≡ ruled (out_of_range direction s l c) days baseline)
Admits direction s l c days (Err e) = (baseline : Option ℤ) → Err e ≡ ruled (out_of_range direction s l c) days baseline
