-- Numbers of a range that pass a test, and sums over a range.
use Rattle.std.proofs.Common.{◌≡◌, ℕ, zero, suc, ◌+◌, ◌-◌, ◌≤◌, Bool, true, false, cond, List, [], ◌∷◌, length, map, filter, leb, Option, sym, refl, ap, ◌∙◌, inl, inr, add-one, add-zero, arith}
use Rattle.std.specs.List.{range_with_len, sum}
use Rattle.std.proofs.lemmas.List.FromFn.{length-range_with_len, sum_by-map-range_with_len_more}
use Rattle.std.proofs.lemmas.List.Sums.{length-filter, sum-map, count_by-le-length}
use Rattle.std.proofs.lemmas.Bool.{cases_lt, le-leb, cond-true}
use Rattle.metering.specs.declared.curve.Curve.{Curve}
use Rattle.stores.specs.Model.{sum_below, one}
use Rattle.stores.specs.Counts.{sum_none, sum_more, sum_suc}
use Rattle.stores.specs.Days.{held_at, none_before}

pub length_filter_map : {X : Type 0} (p : X → Bool) (f : ℕ → X) (ks : List ℕ) → length (filter p (map f ks)) ≡ length (filter (λ k. p (f k)) ks)
length_filter_map p f [] = refl
length_filter_map p f (k ∷ ks) =
    let e = length_filter_map p f ks in
    elim (p (f k)) as (λ b. length (cond b (f k ∷ filter p (map f ks)) (filter p (map f ks))) ≡ length (cond b (k ∷ filter (λ j. p (f j)) ks) (filter (λ j. p (f j)) ks)))
    [ true ↦ ap suc e | false ↦ e ]

-- a range's numbers that pass, counted as a sum of ones
pub ones_of : (test : ℕ → Bool) (a n : ℕ) → sum (map (λ k. cond (test k) 1 0) (range_with_len a n)) ≡ length (filter test (range_with_len a n))
ones_of test a n = sum-map (λ k. cond (test k) 1 0) (range_with_len a n) ∙ sym (length-filter test (range_with_len a n))

pub few_ones : (test : ℕ → Bool) (a n : ℕ) → sum (map (λ k. cond (test k) 1 0) (range_with_len a n)) ≤ n
few_ones test a n =
    let s = sum-map (λ k. cond (test k) 1 0) (range_with_len a n) in
    let c = count_by-le-length test (range_with_len a n) in
    let l = length-range_with_len a n in
    omega (arith, s, c, l)

-- the days of a range that are held are those that a sum counts
held_days : (first : ℕ) (look : ℕ → Option Curve) (test : ℕ → Bool) → ((k : ℕ) → one (look k) ≡ cond (test k) 1 0)
    → (a n : ℕ) → first ≤ a → length (filter test (range_with_len a n)) + sum_below (held_at first look) a ≡ sum_below (held_at first look) (a + n)
held_days first look test h a zero le = let e = ap (sum_below (held_at first look)) (add-zero a) in omega arith
held_days first look test h a (suc n) le =
    let e = held_days first look test h (a + 1) n (omega arith) in
    let s = sum_more (held_at first look) a in
    let x : held_at first look a ≡ cond (test a) 1 0 = cond-true (leb first a) _ _ (le-leb first a le) ∙ h a in
    let l : length (cond (test a) (a ∷ filter test (range_with_len (a + 1) n)) (filter test (range_with_len (a + 1) n))) ≡ cond (test a) 1 0 + length (filter test (range_with_len (a + 1) n)) =
    elim (test a) as (λ b. length (cond b (a ∷ filter test (range_with_len (a + 1) n)) (filter test (range_with_len (a + 1) n))) ≡ cond b 1 0 + length (filter test (range_with_len (a + 1) n))) [ true ↦ omega arith | false ↦ omega arith ] in
    let z : sum_below (held_at first look) (a + 1 + n) ≡ sum_below (held_at first look) (a + suc n) = ap (sum_below (held_at first look)) (omega arith) in
    omega arith

pub days_held : (first : ℕ) (look : ℕ → Option Curve) (test : ℕ → Bool) (end : ℕ) → ((k : ℕ) → one (look k) ≡ cond (test k) 1 0)
    → length (filter test (range_with_len first (end - first))) ≡ sum_below (held_at first look) end
days_held first look test end h =
    let e = held_days first look test h first (end - first) (omega arith) in
    let z = none_before first look first (omega arith) in
    elim (cases_lt end first) [
      | inl l ↦ (let n : end - first ≡ 0 = omega arith in ap (λ m. length (filter test (range_with_len first m))) n ∙ sym (none_before first look end (omega arith)))
      | inr l ↦ (let q : sum_below (held_at first look) (first + (end - first)) ≡ sum_below (held_at first look) end = ap (sum_below (held_at first look)) (omega arith) in omega arith)
    ]

pub sum_over : (h : ℕ → ℕ) (n : ℕ) → sum (map h (range_with_len 0 n)) ≡ sum_below h n
sum_over h zero = sym (sum_none h)
sum_over h (suc n) =
    ap (λ m. sum (map h (range_with_len 0 m))) (sym (add-one n)) ∙ (sum_by-map-range_with_len_more (λ x. x) h 0 n n (omega arith) ∙ (ap (λ m. m + h n) (sum_over h n) ∙ sym (sum_suc h n)))
