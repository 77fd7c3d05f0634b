-- The words of a ring are those of its meaning, and an empty ring's are all 0.
use Rattle.std.proofs.Common.{◌≡◌, ℕ, zero, suc, ◌+◌, ◌*◌, ◌%◌, ◌<◌, max, true, false, List, length, get_or, replicate, ℤ, pos, negsuc, is_some, Some, None, Option, sym, refl, ap, ◌∙◌, subst, inl, inr, add-zero, add-one, arith}
use lib.ListN.{length-replicate}
use Rattle.std.proofs.lemmas.Nat.{mod_below}
use Rattle.std.proofs.lemmas.List.{get_or-replicate, get_or_past}
use Rattle.std.proofs.lemmas.Bool.{cases_lt, eqb-true, eq-eqb, ne_eqb, both_ways}
use Rattle.metering.specs.declared.curve.Curve.{Curve}
use Rattle.metering.specs.Readings.{within, reading_in}
use Rattle.stores.specs.Words.{word_of, reading_from, curve_from}
use Rattle.stores.specs.Slots.{slot_at, head_at, word_at, is_day, is_zero, head_fits, word_fits, ring_look, HeadsFit, WordsFit}
use Rattle.stores.specs.Making.{fresh}
use Rattle.stores.specs.Ring.{ring_model, LaidOut}
use Rattle.stores.specs.Encoding.{word_reading, curve_reads}
use Rattle.stores.specs.Turning.{day_word, told, look_here, look_held, look_other, look_no_row}
use Rattle.stores.specs.Holding.{same_model}

zero_word : (z : ℤ) → is_zero z ≡ true → z ≡ pos 0
zero_word (pos n) h = ap pos (eqb-true n 0 h)
zero_word (negsuc n) h = absurd (both_ways false refl h)

-- the first word of a slot into which no held day falls is 0
head_zero : (span lo hi s : ℕ) (z : ℤ) → head_fits span lo hi s z ≡ true → ((d : ℕ) → d % span ≡ s → is_day z d ≡ true → ⊥) → z ≡ pos 0
head_zero span lo hi s (pos zero) h n = refl
head_zero span lo hi s (pos (suc d)) h n = absurd (n d (told span lo hi s d h).rest (eq-eqb (suc d) (d + 1) (omega arith)))
head_zero span lo hi s (negsuc k) h n = absurd (both_ways false refl h)

some_none : (c : Curve) (o : Option Curve) → o ≡ Some c → o ≡ None → ⊥
some_none c o a b = let z : ◌≡◌ {A = ℕ} 0 1 = cc in omega arith

same_curve_of : (a b : Curve) (o : Option Curve) → o ≡ Some a → o ≡ Some b → a ≡ b
same_curve_of a b o p q = cc

module _ (rows span floor : ℕ) (ws : List ℤ) (hs : 0 < span) (hr : 0 < rows) (long : length ws ≡ 97 * (rows * span))
    (heads : HeadsFit rows span floor (floor + span) ws) (words : WordsFit rows span ws) where
  is_held : (r d : ℕ) (c : Curve) → ring_look rows span ws r d ≡ Some c → (r < rows) × (is_day (head_at ws (slot_at span r (d % span))) d ≡ true)
  is_held r d c e = look_held rows span ws r d (ap is_some e)

  limits : (r d q : ℕ) → r < rows → is_day (head_at ws (slot_at span r (d % span))) d ≡ true → q < 96 → within (reading_from (word_at ws (slot_at span r (d % span)) q)) ≡ true
  limits r d q h i l = sym (ap (λ z. word_fits z (word_at ws (slot_at span r (d % span)) q)) (day_word (head_at ws (slot_at span r (d % span))) d i)) ∙ words r (d % span) q h (mod_below d span hs) l

  empty_head : (r s : ℕ) → r < rows → s < span → ((d : ℕ) → d % span ≡ s → ring_look rows span ws r d ≡ None) → head_at ws (slot_at span r s) ≡ pos 0
  empty_head r s h l n = head_zero span floor (floor + span) s (head_at ws (slot_at span r s)) (heads r s h l)
      (λ d e i. some_none _ (ring_look rows span ws r d)
      (look_here rows span ws r d h (subst (λ (t : ℕ). is_day (head_at ws (slot_at span r t)) d ≡ true) (sym e) i)) (n d e))

  empty_word : (r s k : ℕ) → r < rows → s < span → ((d : ℕ) → d % span ≡ s → ring_look rows span ws r d ≡ None) → k < 97 → get_or ws (slot_at span r s + k) (pos 0) ≡ pos 0
  empty_word r s zero h l n p = ap (head_at ws) (add-zero (slot_at span r s)) ∙ empty_head r s h l n
  empty_word r s (suc q) h l n p =
      let e : slot_at span r s + suc q ≡ slot_at span r s + 1 + q = omega arith in
      ap (head_at ws) e ∙ zero_word (word_at ws (slot_at span r s) q)
      (sym (ap (λ z. word_fits z (word_at ws (slot_at span r s) q)) (empty_head r s h l n)) ∙ words r s q h l (omega arith))

  pub laid_out : LaidOut (ring_model rows span floor ws) ws
  laid_out = record {
    long = long ∙ ap (λ x. 97 * (x * span)) (let e : rows ≡ max 1 rows = omega arith in e);
    day = λ r d c e. day_word (head_at ws (slot_at span r (d % span))) d (is_held r d c e).1 ∙ ap pos (sym (add-one d));
    readings = λ r d q c e h. (let i = is_held r d c e in
        let s : curve_from (word_at ws (slot_at span r (d % span))) ≡ c = same_curve_of _ c (ring_look rows span ws r d) (look_here rows span ws r d i.0 i.1) e in
        sym (ap (λ (x : Curve). word_of (reading_in x.readings q)) (sym s)
        ∙ (ap word_of (curve_reads (word_at ws (slot_at span r (d % span))) q (λ k l. limits r d k i.0 i.1 l) h)
        ∙ word_reading (word_at ws (slot_at span r (d % span)) q))));
    empty = λ r s k h l n p. empty_word r s k (let x : r < rows = omega arith in x) l n p;
  }

-- zeroed words

pub blank_word : (n k : ℕ) → get_or (replicate n (pos 0)) k (pos 0) ≡ pos 0
blank_word n k = elim (cases_lt k n) [
  | inl l ↦ get_or-replicate n k (pos 0) (pos 0) l
  | inr l ↦ get_or_past (replicate n (pos 0)) k (pos 0) (let e = length-replicate n (pos 0) in omega arith)
]

pub blank_heads : (rows span lo hi n : ℕ) → HeadsFit rows span lo hi (replicate n (pos 0))
blank_heads rows span lo hi n r s h l = ap (head_fits span lo hi s) (blank_word n (slot_at span r s))

pub blank_words : (rows span n : ℕ) → WordsFit rows span (replicate n (pos 0))
blank_words rows span n r s q h l k =
    ap (λ z. word_fits z (word_at (replicate n (pos 0)) (slot_at span r s) q)) (blank_word n (slot_at span r s)) ∙ ap is_zero (blank_word n (slot_at span r s + 1 + q))

blank_look : (rows span n r d : ℕ) → ring_look rows span (replicate n (pos 0)) r d ≡ None
blank_look rows span n r d =
    look_other rows span (replicate n (pos 0)) r d (ap (λ z. is_day z d) (blank_word n (slot_at span r (d % span))) ∙ ne_eqb 0 (d + 1) (λ y. omega arith))

pub blank_model : (rows span n : ℕ) → 0 < rows → ring_model rows span 0 (replicate n (pos 0)) ≡ fresh rows (rows * span) span
blank_model rows span n h = same_model (ring_model rows span 0 (replicate n (pos 0))) (fresh rows (rows * span) span) (let e : max 1 rows ≡ rows = omega arith in e) refl refl refl (blank_look rows span n)

-- a ring without rows
pub idle_model : (ws : List ℤ) → ring_model 0 1 0 ws ≡ fresh 1 0 1
idle_model ws = same_model (ring_model 0 1 0 ws) (fresh 1 0 1) refl refl refl refl (λ r k. look_no_row 0 1 ws r k (omega arith))
