-- The days that one resource holds, from a day on.
use Rattle.std.specs.Prelude.{◌≡◌, ℕ, ◌+◌, ◌≤◌, cond, Some, None, Option, nat_le}
use Rattle.std.proofs.Common.{◌∙◌, ap, arith}
use Rattle.std.proofs.lemmas.Bool.{le-leb, lt-leb, cond-true, cond-false}
use Rattle.metering.specs.declared.curve.Curve.{Curve}
use Rattle.stores.specs.Model.{sum_below, one}
use Rattle.stores.specs.Counts.{sum_more, sum_zero}

-- 1 where a curve is held from a day on
abbrev pub held_at : ℕ → (ℕ → Option Curve) → ℕ → ℕ
held_at first look k = cond (nat_le first k) (one (look k)) 0

pub none_before : (first : ℕ) (look : ℕ → Option Curve) (n : ℕ) → n ≤ first → sum_below (held_at first look) n ≡ 0
none_before first look n h = sum_zero (held_at first look) n (λ k l. cond-false (nat_le first k) _ _ (lt-leb first k (omega arith)))

pub one_here : (first : ℕ) (look : ℕ → Option Curve) (k : ℕ) (c : Curve) → first ≤ k → look k ≡ Some c → sum_below (held_at first look) (k + 1) ≡ sum_below (held_at first look) k + 1
one_here first look k c h e =
    let x : held_at first look k ≡ 1 = cond-true (nat_le first k) _ _ (le-leb first k h) ∙ ap one e in
    let s = sum_more (held_at first look) k in
    omega arith

pub none_here : (first : ℕ) (look : ℕ → Option Curve) (k : ℕ) → first ≤ k → look k ≡ None → sum_below (held_at first look) (k + 1) ≡ sum_below (held_at first look) k
none_here first look k h e =
    let x : held_at first look k ≡ 0 = cond-true (nat_le first k) _ _ (le-leb first k h) ∙ ap one e in
    let s = sum_more (held_at first look) k in
    omega arith
