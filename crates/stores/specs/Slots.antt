-- The slots of a ring: 97 words for each resource r and each remainder s of a day by the span.
use Rattle.std.specs.Prelude.{◌≡◌, ℕ, zero, suc, ◌+◌, ◌*◌, ◌%◌, ◌<◌, ◌≤◌, Bool, true, false, cond, ◌&&◌, List, length, ℤ, pos, negsuc, Some, None, Option, ◌==◌, ◌≢◌, nat_le, nat_lt, slice_index_or}
use Rattle.metering.specs.declared.curve.Curve.{Curve}
use Rattle.metering.specs.Readings.{within, reading_in}
use Rattle.stores.specs.Words.{word_of, reading_from, curve_from}

-- where a slot starts
abbrev pub slot_at : ℕ → ℕ → ℕ → ℕ
slot_at span r s = 97 * (r * span + s)

abbrev pub head_at : List ℤ → ℕ → ℤ
head_at ws base = slice_index_or ws base (pos 0)

-- the word of quarter q
abbrev pub word_at : List ℤ → ℕ → ℕ → ℤ
word_at ws base q = slice_index_or ws (base + 1 + q) (pos 0)

-- a slot's first word says day d
abbrev pub is_day : ℤ → ℕ → Bool
is_day (pos n) d = n == d + 1
is_day (negsuc n) d = false

-- what a ring of this many rows, one for each resource, holds for a resource and a day
unfoldable pub ring_look : ℕ → ℕ → List ℤ → ℕ → ℕ → Option Curve
ring_look rows span ws r d =
    cond (nat_lt r rows && is_day (head_at ws (slot_at span r (d % span))) d)
    (Some (curve_from (word_at ws (slot_at span r (d % span))))) None

-- a first word is 0, or says a day from lo on and before hi whose remainder is s
abbrev pub head_fits : ℕ → ℕ → ℕ → ℕ → ℤ → Bool
head_fits span lo hi s (pos zero) = true
head_fits span lo hi s (pos (suc d)) = nat_le lo d && (nat_lt d hi && (nat_le d 36524 && d % span == s))
head_fits span lo hi s (negsuc n) = false

abbrev pub is_zero : ℤ → Bool
is_zero (pos n) = n == 0
is_zero (negsuc n) = false

-- a word of a quarter is 0 under a first word that is 0, and else a reading within its limits
abbrev pub word_fits : ℤ → ℤ → Bool
word_fits (pos zero) z = is_zero z
word_fits (pos (suc d)) z = within (reading_from z)
word_fits (negsuc n) z = false

abbrev pub HeadsFit : ℕ → ℕ → ℕ → ℕ → List ℤ → Type 0
HeadsFit rows span lo hi ws = (r s : ℕ) → r < rows → s < span → head_fits span lo hi s (head_at ws (slot_at span r s)) ≡ true

abbrev pub WordsFit : ℕ → ℕ → List ℤ → Type 0
WordsFit rows span ws =
    (r s q : ℕ) → r < rows → s < span → q < 96
    → word_fits (head_at ws (slot_at span r s)) (word_at ws (slot_at span r s) q) ≡ true

-- the same as tests, since a struct keeps these
unfoldable pub all_below : (ℕ → Bool) → ℕ → Bool
all_below p zero = true
all_below p (suc n) = p n && all_below p n

abbrev pub heads_fit : ℕ → ℕ → ℕ → ℕ → List ℤ → Bool
heads_fit rows span lo hi ws = all_below (λ r. all_below (λ s. head_fits span lo hi s (head_at ws (slot_at span r s))) span) rows

abbrev pub words_fit : ℕ → ℕ → List ℤ → Bool
words_fit rows span ws =
    all_below (λ r. all_below (λ s. all_below (λ q. word_fits (head_at ws (slot_at span r s)) (word_at ws (slot_at span r s) q)) 96) span) rows

-- 97 words from base on changed, the others not
pub record Around (ws vs : List ℤ) (base : ℕ) : Type 0 where
  pub low : (k : ℕ) → k < base → slice_index_or vs k (pos 0) ≡ slice_index_or ws k (pos 0)
  pub high : (k : ℕ) → base + 97 ≤ k → slice_index_or vs k (pos 0) ≡ slice_index_or ws k (pos 0)
  pub len : length vs ≡ length ws

pub record SlotWritten (ws vs : List ℤ) (base d : ℕ) (c : Curve) : Type 0 where
  pub first : head_at vs base ≡ pos (d + 1)
  pub rest : (q : ℕ) → q < 96 → word_at vs base q ≡ word_of (reading_in c.readings q)
  pub around : Around ws vs base

pub record SlotCleared (ws vs : List ℤ) (base : ℕ) : Type 0 where
  pub blank : (k : ℕ) → k < 97 → slice_index_or vs (base + k) (pos 0) ≡ pos 0
  pub around : Around ws vs base

-- the slots of day d, below row n, are empty, and those of other remainders as they were
pub record DayCleared (n rows span d : ℕ) (ws vs : List ℤ) : Type 0 where
  pub gone : (r k : ℕ) → r < n → k < 97 → slice_index_or vs (slot_at span r (d % span) + k) (pos 0) ≡ pos 0
  pub kept : (r s k : ℕ) → r < rows → s < span → (s ≢ d % span) → k < 97
      → slice_index_or vs (slot_at span r s + k) (pos 0) ≡ slice_index_or ws (slot_at span r s + k) (pos 0)
  pub len : length vs ≡ length ws

-- the words are those of a ring whose days lie from lo on and before hi, and it holds what `look` says
pub record Means (rows span lo hi : ℕ) (vs : List ℤ) (look : ℕ → ℕ → Option Curve) : Type 0 where
  pub heads : HeadsFit rows span lo hi vs
  pub words : WordsFit rows span vs
  pub looks : (r k : ℕ) → ring_look rows span vs r k ≡ look r k

-- a slot that holds the curve of a resource and a day
pub record Found (rows span : ℕ) (ws : List ℤ) (r d base : ℕ) : Type 0 where
  pub room : base + 97 ≤ length ws
  pub limited : (q : ℕ) → q < 96 → within (reading_from (word_at ws base q)) ≡ true
  pub look : ring_look rows span ws r d ≡ Some (curve_from (word_at ws base))
