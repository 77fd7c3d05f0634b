-- The laws of rounding. Besides the proof of the code that computes it, only this file opens the rounding function.
use Rattle.std.specs.Prelude.{◌≡◌, ℕ, ◌*◌, ◌<◌, ◌≤◌, false, ◌||◌, ℤ, pos, negsuc, ◌+ℤ◌, ◌*ℤ◌, ◌≤ℤ◌, ◌<ℤ◌, Some, int_lt, nat_lt, unsigned_abs}
use Rattle.std.proofs.Common.{div-mul-le_self, mul-le-mul_right, arith, sym, ap, ◌∙◌}
use Rattle.std.proofs.Math.Nat.{lt-div-mul-add}
use Rattle.std.proofs.Math.IntN.{+ℤ_one, suc_ℤ-*ℤ}
use Rattle.std.specs.Int.{int_div_euclid}
use Rattle.std.proofs.lemmas.Int.{ints, by_lt_z}
use Rattle.std.proofs.lemmas.Bool.{or_parts, ltb-false, le-ltb}
use Rattle.rulebooks.specs.Rounding.{Rounded, HalfOver, rounded, Rounds, OneRounding, NoneNearer, TiesToGreater, Monotone, WholeStays, RoundingLaws, unroundable, Roundable, divided}

-- products with a natural number keep the order
times_le : (a b : ℤ) (k : ℕ) → a ≤ℤ b → (a *ℤ pos k) ≤ℤ (b *ℤ pos k)
times_le (pos a) (pos b) k h = let g : a ≤ b = omega (arith, ints) in omega (arith, ints, mul-le-mul_right k g)
times_le (pos a) (negsuc b) k h = absurd (omega (arith, ints))
times_le (negsuc a) (pos b) k h = omega (arith, ints)
times_le (negsuc a) (negsuc b) k h = let g : b ≤ a = omega (arith, ints) in omega (arith, ints, mul-le-mul_right k g)

times_suc : (s : ℤ) (k : ℕ) → ((s +ℤ pos 1) *ℤ pos k) ≡ ((s *ℤ pos k) +ℤ pos k)
times_suc s k = ap (λ (z : ℤ). z *ℤ pos k) (+ℤ_one s) ∙ suc_ℤ-*ℤ s (pos k)

times_two : (q : ℤ) (k : ℕ) → (q *ℤ pos (2 * k)) ≡ (pos 2 *ℤ (q *ℤ pos k))
times_two (pos q) k = omega (arith, ints)
times_two (negsuc q) k = omega (arith, ints)

-- of two numbers the lesser lies a whole den lower
step : (a b : ℤ) (k : ℕ) → a <ℤ b → ((a *ℤ pos k) +ℤ pos k) ≤ℤ (b *ℤ pos k)
step a b k h =
    let g : (a +ℤ pos 1) ≤ℤ b = omega (arith, ints) in
    omega (arith, ints, times_le (a +ℤ pos 1) b k g, times_suc a k)

-- the floor of a / b
record Floor (a b q : ℤ) : Type 0 where
  low : (q *ℤ b) ≤ℤ a
  high : a <ℤ ((q *ℤ b) +ℤ b)

floor_is : (a : ℤ) (b : ℕ) → 0 < b → Floor a (pos b) (int_div_euclid a (pos b))
floor_is (pos a) b h = record {
  low = omega (arith, ints, div-mul-le_self a b);
  high = omega (arith, ints, lt-div-mul-add {a = a} h);
}
floor_is (negsuc a) b h = record {
  low = omega (arith, ints, lt-div-mul-add {a = a} h);
  high = omega (arith, ints, div-mul-le_self a b);
}

-- under the next number by less than a half
pub strictly : (num den z : ℤ) → Rounded num den z → (pos 2 *ℤ num) <ℤ ((pos 2 *ℤ (z *ℤ den)) +ℤ den)
strictly num den z r = by_lt_z (pos 2 *ℤ num) ((pos 2 *ℤ (z *ℤ den)) +ℤ den) (λ lt. lt)
    (λ le. let n = r.nearest in let e : HalfOver num den z = omega (arith, ints) in absurd (r.tie e))

from_bounds : (num den z : ℤ) → (pos 2 *ℤ (z *ℤ den)) ≤ℤ ((pos 2 *ℤ num) +ℤ den) → (pos 2 *ℤ num) <ℤ ((pos 2 *ℤ (z *ℤ den)) +ℤ den) → Rounded num den z
from_bounds num den z p q = record {
  nearest = record { not_over = p; not_under = omega (arith, ints) };
  tie = λ e. omega (arith, ints);
}

pub rounds : Rounds
unfolding rounded
rounds num (negsuc k) h = absurd (omega (arith, ints))
rounds num (pos k) h =
    let g : 0 < 2 * k = omega (arith, ints) in
    let f = floor_is ((pos 2 *ℤ num) +ℤ pos k) (2 * k) g in
    let q = int_div_euclid ((pos 2 *ℤ num) +ℤ pos k) (pos (2 * k)) in
    let t = times_two q k in
    from_bounds num (pos k) q (omega (arith, ints, f.low, t)) (omega (arith, ints, f.high, t))

pub monotone : Monotone
monotone n m (negsuc k) y z d h p q = absurd (omega (arith, ints))
monotone n m (pos k) y z d h p q = by_lt_z z y
    (λ lt. let b = p.nearest in absurd (omega (arith, ints, step z y k lt, b.not_over, strictly m (pos k) z q)))
    (λ le. le)

pub one_rounding : OneRounding
one_rounding num den z d r =
    let o = rounds num den d in
    let e : num ≤ℤ num = omega (arith, ints) in
    let a = monotone num num den (rounded num den) z d e o r in
    let b = monotone num num den z (rounded num den) d e r o in
    omega (arith, ints)

pub none_nearer : NoneNearer
none_nearer num (negsuc k) z w d r = absurd (omega (arith, ints))
none_nearer num (pos k) z w d r =
    let n = r.nearest in
    by_lt_z w z
    (λ lt. omega (arith, ints, step w z k lt))
    (λ le. by_lt_z z w
    (λ lt. omega (arith, ints, step z w k lt))
    (λ ge. let e : w ≡ z = omega (arith, ints) in rw e (omega arith)))

pub ties_to_greater : TiesToGreater
ties_to_greater num (negsuc k) z w d r e = absurd (omega (arith, ints))
ties_to_greater num (pos k) z w d r e = by_lt_z z w
    (λ lt. let n = strictly num (pos k) z r in absurd (omega (arith, ints, step z w k lt)))
    (λ le. le)

pub whole_stays : WholeStays
whole_stays den z d = from_bounds (z *ℤ den) den z (omega (arith, ints)) (omega (arith, ints))

-- the rounding is known by its two bounds
pub rounds_to : (num den z : ℤ) → pos 0 <ℤ den → (pos 2 *ℤ (z *ℤ den)) ≤ℤ ((pos 2 *ℤ num) +ℤ den) → (pos 2 *ℤ num) <ℤ ((pos 2 *ℤ (z *ℤ den)) +ℤ den) → rounded num den ≡ z
rounds_to num den z d p q = one_rounding num den z d (from_bounds num den z p q)

pub rounding_laws : RoundingLaws
rounding_laws = record {
  rounds = rounds;
  one_rounding = one_rounding;
  none_nearer = none_nearer;
  ties_to_greater = ties_to_greater;
  monotone = monotone;
  whole_stays = whole_stays;
}

-- the roundings of two fractions with one den keep their order
pub rounded_monotone : (num more den : ℤ) → pos 0 <ℤ den → num ≤ℤ more → rounded num den ≤ℤ rounded more den
rounded_monotone num more den d h = monotone num more den (rounded num den) (rounded more den) d h (rounds num den d) (rounds more den d)

-- a fraction is rounded as a fraction: s / 15 is 8s / 120
pub eightfold : (s : ℤ) → rounded (pos 8 *ℤ s) (pos 120) ≡ rounded s (pos 15)
eightfold s =
    let d : pos 0 <ℤ pos 15 = omega (arith, ints) in
    let e : pos 0 <ℤ pos 120 = omega (arith, ints) in
    let r = rounds s (pos 15) d in
    let n = r.nearest in
    one_rounding (pos 8 *ℤ s) (pos 120) (rounded s (pos 15)) e
    (from_bounds (pos 8 *ℤ s) (pos 120) (rounded s (pos 15)) (omega (arith, ints)) (omega (arith, ints, strictly s (pos 15) (rounded s (pos 15)) r)))

pub roundable_from : (num den : ℤ) → unroundable num den ≡ false → Roundable num den
roundable_from num den h =
    let p = or_parts (int_lt den (pos 1)) (int_lt (pos 1_000_000_000_000_000_000) den || nat_lt 1_000_000_000_000_000_000 (unsigned_abs num)) h in
    let q = or_parts (int_lt (pos 1_000_000_000_000_000_000) den) (nat_lt 1_000_000_000_000_000_000 (unsigned_abs num)) p.1 in
    let a = p.0 in
    let b = q.0 in
    record { positive = omega (arith, ints); den_size = omega (arith, ints); num_size = ltb-false 1_000_000_000_000_000_000 (unsigned_abs num) q.1 }

-- within reach the public call answers the rounding
pub divided_is : (num den : ℤ) → Roundable num den → divided num den ≡ Some (rounded num den)
divided_is num den r =
    let a : int_lt den (pos 1) ≡ false = sym (omega (arith, ints)) in
    let b : int_lt (pos 1_000_000_000_000_000_000) den ≡ false = sym (omega (arith, ints)) in
    let c = le-ltb 1_000_000_000_000_000_000 (unsigned_abs num) r.num_size in
    simp (a, b, c)
