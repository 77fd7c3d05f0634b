-- The sizes of the three rules' numbers, so that each is a lawful rulebook.
use Rattle.std.specs.Prelude.{◌≡◌, ℕ, ◌≤◌, ℤ, pos, negsuc, ◌+ℤ◌, ◌-ℤ◌, ◌*ℤ◌, ◌<ℤ◌, Some, None, Option, ◌==◌, unsigned_abs, refl}
use Rattle.std.proofs.Common.{mul-le-mul, arith}
use Rattle.std.specs.Int.{int_min, int_max}
use Rattle.std.proofs.lemmas.Int.{ints, clamps}
use Rattle.std.proofs.lemmas.Bool.{cond_both}
use Rattle.std.proofs.lemmas.Bool.Decides.{nat_tests}
use Rattle.rulebooks.specs.Rules.{s_limit, l_limit, c_limit, baseline_limit, InRange, Lawful}
use Rattle.rulebooks.specs.Options.{unadjusted_mean, adjustment, additive, ratio, lead_mean, single, additive_rules, ratio_rules, lead_mean_rules}
use Rattle.rulebooks.specs.RoundedLaws.{rounds}

pub adjustment_size : (d : ℕ) (l c : ℤ) → unsigned_abs l ≤ l_limit → unsigned_abs c ≤ c_limit → unsigned_abs (adjustment d l c) ≤ 240_000_000
adjustment_size d l c p q =
    cond_both (d == 0) (int_min ((pos 15 *ℤ c) -ℤ l) (pos 0)) (int_max ((pos 15 *ℤ c) -ℤ l) (pos 0)) (λ z. unsigned_abs z ≤ 240_000_000)
    (λ _. omega (arith, ints, clamps))
    (λ _. omega (arith, ints, clamps))

pub product_size : (s c : ℤ) → unsigned_abs s ≤ s_limit → unsigned_abs c ≤ c_limit → unsigned_abs (s *ℤ c) ≤ 120_000_000_000_000
product_size (pos s) (pos c) p q = omega (arith, ints, mul-le-mul p q)
product_size (pos s) (negsuc c) p q = omega (arith, ints, mul-le-mul p q)
product_size (negsuc s) (pos c) p q = omega (arith, ints, mul-le-mul p q)
product_size (negsuc s) (negsuc c) p q = omega (arith, ints, mul-le-mul p q)

pub additive_size : (d : ℕ) (s l c : ℤ) → InRange d s l c → unsigned_abs (additive d s l c) ≤ baseline_limit
additive_size d s l c r =
    let p : pos 0 <ℤ pos 120 = omega (arith, ints) in
    let n = (rounds ((pos 8 *ℤ s) +ℤ adjustment d l c) (pos 120) p).nearest in
    let a = adjustment_size d l c r.l_size r.c_size in
    omega (arith, ints)

pub lead_mean_size : (c : ℤ) → unsigned_abs c ≤ c_limit → unsigned_abs (lead_mean c) ≤ 1_000_000
lead_mean_size c h =
    let p : pos 0 <ℤ pos 8 = omega (arith, ints) in
    let n = (rounds c (pos 8) p).nearest in
    omega (arith, ints)

pub mean_size : (s : ℤ) → unsigned_abs s ≤ s_limit → unsigned_abs (unadjusted_mean s) ≤ 1_000_000
mean_size s h =
    let p : pos 0 <ℤ pos 15 = omega (arith, ints) in
    let n = (rounds s (pos 15) p).nearest in
    omega (arith, ints)

pub ratio_size : (s l c z : ℤ) → ratio s l c ≡ Some z → unsigned_abs z ≤ baseline_limit
ratio_size s l c z e = grind (arith, nat_tests)

-- a rule within the limit, under a choice from 1 on and for at most fifteen days, is a lawful rulebook
pub lawful_single : (choice n : ℕ) (rule : ℕ → ℤ → ℤ → ℤ → Option ℤ) → n ≤ 15 → (single choice n rule).days 0 ≡ None
    → ((d : ℕ) (s l c z : ℤ) → InRange d s l c → rule d s l c ≡ Some z → unsigned_abs z ≤ baseline_limit) → Lawful (single choice n rule)
lawful_single choice n rule h o w = record {
  few_days = λ k m e. grind arith;
  from_one = o;
  within = λ k d s l c z r known e. w d s l c z r e;
}

pub additive_lawful : Lawful additive_rules
additive_lawful = lawful_single 1 15 (λ d s l c. Some (additive d s l c)) (omega arith) refl
    (λ d s l c z r e. grind (arith, additive_size d s l c r))

pub ratio_lawful : Lawful ratio_rules
ratio_lawful = lawful_single 2 15 (λ d s l c. ratio s l c) (omega arith) refl (λ d s l c z r e. ratio_size s l c z e)

pub lead_mean_lawful : Lawful lead_mean_rules
lead_mean_lawful = lawful_single 3 0 (λ d s l c. Some (lead_mean c)) (omega arith) refl
    (λ d s l c z r e. grind (arith, lead_mean_size c r.c_size))
