-- What forming writes keeps the limits of a reading.
use Rattle.std.proofs.Common.{◌≡◌, ℕ, ◌<◌, ◌≤◌, Bool, true, false, cond, ltb, ◌≢◌, List, length, set, replicate, ℤ, pos, negsuc, ◌-ℤ◌, Some, None, Option, sym, refl, ap, ◌∙◌, subst, ⊎_elim, arith, get_or-set_other, get_or-set_same}
use Rattle.std.proofs.lemmas.Int.{ints}
use Rattle.std.proofs.lemmas.List.{get_or-replicate}
use Rattle.std.proofs.lemmas.Bool.{cases_eq, cases_Bool, cond-true, cond-false, le-leb, lt-ltb, ltb-false}
use Rattle.metering.specs.declared.reading.Reading.{Reading}
use Rattle.metering.specs.declared.reading.Reading.TheVariants.{Measured, Estimated}
use Rattle.metering.specs.Readings.{reading_of, within, reading_in}

within_difference : (a b : ℕ) (z : ℤ) → a ≤ 1000000 → b ≤ 1000000 → z ≡ pos a -ℤ pos b → within (Measured z) ≡ true
within_difference a b (pos n) ha hb e = le-leb n 1000000 (omega (arith, ints))
within_difference a b (negsuc n) ha hb e = lt-ltb n 1000000 (omega (arith, ints))

within_mark : (a b : ℕ) (e : Bool) → a ≤ 1000000 → b ≤ 1000000 → within (cond e Estimated (Measured (pos a -ℤ pos b))) ≡ true
within_mark a b true ha hb = refl
within_mark a b false ha hb = within_difference a b (pos a -ℤ pos b) ha hb refl

abbrev Kept : Option Reading → Type 0
Kept None = Unit {0}
Kept (Some r) = within r ≡ true

pub kept_reading : (a b : ℕ) (e : Bool) → Kept (reading_of a b e)
kept_reading a b e =
    ⊎_elim (λ t. subst Kept (sym (cond-true (ltb 1000000 a) _ _ t)) tt)
    (λ t. subst Kept (sym (cond-false (ltb 1000000 a) _ _ t))
    (⊎_elim (λ u. subst Kept (sym (cond-true (ltb 1000000 b) _ _ u)) tt)
    (λ u. subst Kept (sym (cond-false (ltb 1000000 b) _ _ u)) (within_mark a b e (ltb-false 1000000 a t) (ltb-false 1000000 b u)))
    (cases_Bool (ltb 1000000 b)))) (cases_Bool (ltb 1000000 a))

pub reading_within : (a b : ℕ) (e : Bool) (r : Reading) → Some r ≡ reading_of a b e → within r ≡ true
reading_within a b e r h = subst Kept (sym h) (kept_reading a b e)

pub blank_within : (k : ℕ) → k < 96 → within (reading_in (replicate 96 Estimated) k) ≡ true
blank_within k h = ap within (get_or-replicate 96 k Estimated (Measured (pos 0)) h)

pub set_within : (rs : List Reading) (q : ℕ) (r : Reading) → length rs ≡ 96 → q < 96 → within r ≡ true
    → ((k : ℕ) → k < 96 → within (reading_in rs k) ≡ true) → (k : ℕ) → k < 96 → within (reading_in (set rs q r) k) ≡ true
set_within rs q r l hq w all k h =
    ⊎_elim
    (λ e. let p : q < length rs = omega arith in ap (λ j. within (reading_in (set rs q r) j)) e ∙ ap within (get_or-set_same rs q r (Measured (pos 0)) p) ∙ w)
    (λ (n : k ≢ q). ap within (get_or-set_other rs q k r (Measured (pos 0)) n) ∙ all k h)
    (cases_eq k q)
