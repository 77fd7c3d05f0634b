-- Two rulebooks joined: the first where it knows the choice, else the second.
use Rattle.std.specs.Prelude.{◌≡◌, ℕ, ◌⊎◌, ℤ, Some, None, Option}
use Rattle.rulebooks.specs.Rules.{Rules, Known, answered}

-- x where days are given, else y
abbrev pub if_known : {X : Type 0} → Option ℕ → X → X → X
if_known (Some n) x y = x
if_known None x y = y

abbrev pub joined : Rules → Rules → Rules
joined first second = record {
  days = λ k. if_known (first.days k) (first.days k) (second.days k);
  rule = λ k d s l c. if_known (first.days k) (first.rule k d s l c) (second.rule k d s l c);
}

-- a bank knows a choice exactly if one of the two does
pub record KnowsBoth (first second : Rules) : Type 0 where
  pub either : (k : ℕ) → Known (joined first second) k → Known first k ⊎ Known second k
  pub first_known : (k : ℕ) → Known first k → Known (joined first second) k
  pub second_known : (k : ℕ) → Known second k → Known (joined first second) k

-- and is the one rulebook or the other, by the choice
pub record SpeaksFor (first second : Rules) : Type 0 where
  pub first_days : (k : ℕ) → Known first k → (joined first second).days k ≡ first.days k
  pub second_days : (k : ℕ) → first.days k ≡ None → (joined first second).days k ≡ second.days k
  pub first_answer : (k d : ℕ) (s l c : ℤ) → Known first k → answered (joined first second) k d s l c ≡ answered first k d s l c
  pub second_answer : (k d : ℕ) (s l c : ℤ) → first.days k ≡ None → answered (joined first second) k d s l c ≡ answered second k d s l c

abbrev pub BankLaws : Type 0
BankLaws = (first second : Rules) → KnowsBoth first second × SpeaksFor first second
