-- The three rules, each under a choice of its own, and the mean that none has adjusted.
use Rattle.std.specs.Prelude.{ℕ, cond, ℤ, pos, ◌+ℤ◌, ◌-ℤ◌, ◌*ℤ◌, neg_ℤ, Some, None, Ok, Err, Option, Result, ◌==◌, int_lt, nat_lt, unsigned_abs}
use Rattle.std.specs.Int.{int_min, int_max}
use Rattle.rulebooks.specs.declared.rule.RuleFault.{RuleFault}
use Rattle.rulebooks.specs.declared.rule.RuleFault.TheVariants.{OutOfRange}
use Rattle.rulebooks.specs.Rounding.{rounded}
use Rattle.rulebooks.specs.Rules.{Rules, s_limit, baseline_limit}

-- a quarter's mean over fifteen history days
abbrev pub unadjusted_mean : ℤ → ℤ
unadjusted_mean s = rounded s (pos 15)

-- what is answered of it
abbrev pub mean_answered : ℤ → Result ℤ RuleFault
mean_answered s = cond (nat_lt s_limit (unsigned_abs s)) (Err OutOfRange) (Ok (unadjusted_mean s))

-- Option 1: by how much the lead quarters of the order's day, taken fifteen times, exceed those of the history days;
-- upward only what lowers the baseline counts, downward only what raises it.
abbrev pub adjustment : ℕ → ℤ → ℤ → ℤ
adjustment direction l c =
    cond (direction == 0) (int_min ((pos 15 *ℤ c) -ℤ l) (pos 0)) (int_max ((pos 15 *ℤ c) -ℤ l) (pos 0))

abbrev pub additive : ℕ → ℤ → ℤ → ℤ → ℤ
additive direction s l c = rounded ((pos 8 *ℤ s) +ℤ adjustment direction l c) (pos 120)

-- Option 2: s × c / l, nothing where l is 0 or the size exceeds 10,000,000.
abbrev pub bounded : ℤ → Option ℤ
bounded z = cond (nat_lt baseline_limit (unsigned_abs z)) None (Some z)

abbrev pub ratio : ℤ → ℤ → ℤ → Option ℤ
ratio s l c =
    cond (int_lt (pos 0) l) (bounded (rounded (s *ℤ c) l))
    (cond (int_lt l (pos 0)) (bounded (rounded (neg_ℤ (s *ℤ c)) (neg_ℤ l))) None)

-- Option 3: the mean of the eight lead quarters of the order's day.
abbrev pub lead_mean : ℤ → ℤ
lead_mean c = rounded c (pos 8)

-- a rulebook of one choice
abbrev pub single : ℕ → ℕ → (ℕ → ℤ → ℤ → ℤ → Option ℤ) → Rules
single choice n rule = record {
  days = λ k. cond (k == choice) (Some n) None;
  rule = λ k. rule;
}

abbrev pub additive_rules : Rules
additive_rules = single 1 15 (λ direction s l c. Some (additive direction s l c))

abbrev pub ratio_rules : Rules
ratio_rules = single 2 15 (λ direction s l c. ratio s l c)

abbrev pub lead_mean_rules : Rules
lead_mean_rules = single 3 0 (λ direction s l c. Some (lead_mean c))
