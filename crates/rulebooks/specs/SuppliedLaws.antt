-- What holds of the supplied rulebook's answers.
use Rattle.std.specs.Prelude.{◌≡◌, ℕ, ◌≤◌, Bool, true, false, cond, ℤ, pos, negsuc, ◌+ℤ◌, ◌-ℤ◌, ◌*ℤ◌, ◌≤ℤ◌, ◌<ℤ◌, is_some, Some, None, Ok, Result, ◌==◌, refl}
use Rattle.std.proofs.Common.{arith, sym, ap}
use Rattle.std.specs.Int.{int_min, int_max}
use Rattle.std.specs.Option.{ok_or}
use Rattle.std.proofs.lemmas.Int.{ints, clamps}
use Rattle.std.proofs.lemmas.Bool.{eqb-true}
use Rattle.rulebooks.specs.declared.rule.RuleFault.{RuleFault}
use Rattle.rulebooks.specs.declared.rule.RuleFault.TheVariants.{NoBaseline}
use Rattle.rulebooks.specs.Rounding.{rounded}
use Rattle.rulebooks.specs.Rules.{answered, Lawful}
use Rattle.rulebooks.specs.Options.{unadjusted_mean, adjustment, additive, bounded, lead_mean, additive_rules, ratio_rules, lead_mean_rules}
use Rattle.rulebooks.specs.Banks.{if_known, joined}
use Rattle.rulebooks.specs.Supplied.{supplied_rules, SuppliedChoices, MeanGuarantee, FollowsSums}
use Rattle.rulebooks.specs.Figures.{Figures}
use Rattle.rulebooks.specs.RoundedLaws.{rounded_monotone, eightfold, rounds_to}
use Rattle.rulebooks.specs.RuleLaws.{granted, answered_is}
use Rattle.rulebooks.specs.OptionLaws.{additive_lawful, ratio_lawful, lead_mean_lawful}
use Rattle.rulebooks.specs.JoinedLaws.{joined_lawful}

pub supplied_lawful : Lawful supplied_rules
supplied_lawful = joined_lawful additive_rules (joined ratio_rules lead_mean_rules) additive_lawful (joined_lawful ratio_rules lead_mean_rules ratio_lawful lead_mean_lawful)

-- a choice that is none of the three is unknown
one_of_three : (a b c : Bool) → is_some {T = ℕ} (if_known (cond a (Some 15) None) (cond a (Some 15) None) (if_known (cond b (Some 15) None) (cond b (Some 15) None) (cond c (Some 0) None))) ≡ true
    → (P : Type 0) → (a ≡ true → P) → (b ≡ true → P) → (c ≡ true → P) → P
one_of_three a b c h P p q r = grind arith

pub supplied_choices : SuppliedChoices
supplied_choices = record {
  additive_days = refl;
  ratio_days = refl;
  lead_mean_days = refl;
  no_others = λ k h. one_of_three (k == 1) (k == 2) (k == 3) h ((1 ≤ k) × (k ≤ 3))
      (λ e. let f = eqb-true k 1 e in (omega arith, omega arith))
      (λ e. let f = eqb-true k 2 e in (omega arith, omega arith))
      (λ e. let f = eqb-true k 3 e in (omega arith, omega arith));
  additive_answer = λ d s l c r. answered_is supplied_rules 1 d s l c r refl;
  ratio_answer = λ d s l c r. answered_is supplied_rules 2 d s l c r refl;
  lead_mean_answer = λ d s l c r. answered_is supplied_rules 3 d s l c r refl;
}

pos_120 : pos 0 <ℤ pos 120
pos_120 = omega (arith, ints)

pos_8 : pos 0 <ℤ pos 8
pos_8 = omega (arith, ints)

pub additive_upward : (s l c : ℤ) → additive 0 s l c ≤ℤ unadjusted_mean s
additive_upward s l c =
    let h : ((pos 8 *ℤ s) +ℤ adjustment 0 l c) ≤ℤ (pos 8 *ℤ s) = omega (arith, ints, clamps) in
    let m = rounded_monotone ((pos 8 *ℤ s) +ℤ adjustment 0 l c) (pos 8 *ℤ s) (pos 120) pos_120 h in
    rw (sym (eightfold s)) m

pub additive_downward : (s l c : ℤ) → unadjusted_mean s ≤ℤ additive 1 s l c
additive_downward s l c =
    let h : (pos 8 *ℤ s) ≤ℤ ((pos 8 *ℤ s) +ℤ adjustment 1 l c) = omega (arith, ints, clamps) in
    let m = rounded_monotone (pos 8 *ℤ s) ((pos 8 *ℤ s) +ℤ adjustment 1 l c) (pos 120) pos_120 h in
    rw (sym (eightfold s)) m

pub mean_guarantee : MeanGuarantee
mean_guarantee = record {
  upward = λ s l c z e. grind (arith, (granted supplied_rules 1 0 s l c z e).given, additive_upward s l c);
  downward = λ s l c z e. grind (arith, (granted supplied_rules 1 1 s l c z e).given, additive_downward s l c);
}

adjustment_follows : (b : Bool) (g h : ℤ) → g ≤ℤ h → cond b (int_min g (pos 0)) (int_max g (pos 0)) ≤ℤ cond b (int_min h (pos 0)) (int_max h (pos 0))
adjustment_follows true g h e = omega (arith, ints, clamps)
adjustment_follows false g h e = omega (arith, ints, clamps)

pub additive_follows : (d : ℕ) (s s' l l' c c' : ℤ) → s ≤ℤ s' → l' ≤ℤ l → c ≤ℤ c' → additive d s l c ≤ℤ additive d s' l' c'
additive_follows d s s' l l' c c' p q r =
    let g : ((pos 15 *ℤ c) -ℤ l) ≤ℤ ((pos 15 *ℤ c') -ℤ l') = omega (arith, ints) in
    let a = adjustment_follows (d == 0) ((pos 15 *ℤ c) -ℤ l) ((pos 15 *ℤ c') -ℤ l') g in
    let h : ((pos 8 *ℤ s) +ℤ adjustment d l c) ≤ℤ ((pos 8 *ℤ s') +ℤ adjustment d l' c') = omega (arith, ints) in
    rounded_monotone ((pos 8 *ℤ s) +ℤ adjustment d l c) ((pos 8 *ℤ s') +ℤ adjustment d l' c') (pos 120) pos_120 h

pub lead_mean_follows : (c c' : ℤ) → c ≤ℤ c' → lead_mean c ≤ℤ lead_mean c'
lead_mean_follows c c' h = rounded_monotone c c' (pos 8) pos_8 h

pub follows_sums : FollowsSums
follows_sums = record {
  additive_follows = λ d s s' l l' c c' y z p q r e f.
      grind (arith, (granted supplied_rules 1 d s l c y e).given, (granted supplied_rules 1 d s' l' c' z f).given, additive_follows d s s' l l' c c' p q r);
  lead_mean_follows = λ d d' s s' l l' c c' y z p e f.
      grind (arith, (granted supplied_rules 3 d s l c y e).given, (granted supplied_rules 3 d' s' l' c' z f).given, lead_mean_follows c c' p);
}

-- a figure, once the numbers before its rounding are computed
figure : (num den z : ℤ) → pos 0 <ℤ den → (pos 2 *ℤ (z *ℤ den)) ≤ℤ ((pos 2 *ℤ num) +ℤ den) → (pos 2 *ℤ num) <ℤ ((pos 2 *ℤ (z *ℤ den)) +ℤ den) → ◌≡◌ {A = Result ℤ RuleFault} (Ok (rounded num den)) (Ok z)
figure num den z d p q = ap (λ x. Ok x) (rounds_to num den z d p q)

pub figures : Figures
unfolding answered
figures = record {
  additive_upward = figure (negsuc 263_999) (pos 120) (negsuc 2_199) pos_120 (omega (arith, ints)) (omega (arith, ints));
  ratio_upward = ap (λ z. ok_or (bounded z) NoBaseline) (rounds_to (negsuc 527_999_999) (pos 240_000) (negsuc 2_199) (omega (arith, ints)) (omega (arith, ints)) (omega (arith, ints)));
  lead_mean_upward = figure (negsuc 17_599) (pos 8) (negsuc 2_199) pos_8 (omega (arith, ints)) (omega (arith, ints));
  additive_downward = figure (negsuc 239_999) (pos 120) (negsuc 1_999) pos_120 (omega (arith, ints)) (omega (arith, ints));
  half = figure (pos 4) (pos 8) (pos 1) pos_8 (omega (arith, ints)) (omega (arith, ints));
  minus_half = figure (negsuc 3) (pos 8) (pos 0) pos_8 (omega (arith, ints)) (omega (arith, ints));
}
