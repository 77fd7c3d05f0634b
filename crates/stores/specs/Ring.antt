-- A ring of curves in 32-bit words: what it means, when it can be made, and where each word lies.
use Rattle.std.specs.Prelude.{◌≡◌, ℕ, ◌+◌, ◌*◌, ◌%◌, ◌<◌, max, Bool, cond, ◌&&◌, List, length, replicate, ℤ, pos, Some, None, vec_items, ◌==◌, nat_le, slice_index_or}
use Rattle.metering.specs.declared.curve.Curve.{Curve}
use Rattle.metering.specs.Readings.{reading_in}
use Rattle.stores.specs.declared.ring.Ring.{Ring}
use Rattle.stores.specs.Model.{StoreModel, Bounded}
use Rattle.stores.specs.Making.{fresh}
use Rattle.stores.specs.Words.{word_of}
use Rattle.stores.specs.Slots.{ring_look}

-- 1 to 32 resources, 1 to 400 days, and exactly 97 words for each resource and day
abbrev pub ring_fits : ℕ → ℕ → ℕ → Bool
ring_fits words width span =
    nat_le 1 width && (nat_le width 32 && (nat_le 1 span && (nat_le span 400 && words == 97 * (width * span))))

-- an empty ring where one can be made, else a store that holds nothing
abbrev pub ring_made : ℕ → ℕ → ℕ → StoreModel
ring_made words width span = cond (ring_fits words width span) (fresh width (width * span) span) (fresh 1 0 1)

-- its words: zeroed, or as they were handed over
abbrev pub ring_words : List ℤ → ℕ → ℕ → List ℤ
ring_words words width span = cond (ring_fits (length words) width span) (replicate (length words) (pos 0)) words

-- the meaning of a ring with this many rows, one for each resource; 0 where its making was refused
abbrev pub ring_model : ℕ → ℕ → ℕ → List ℤ → StoreModel
ring_model rows span floor words = record {
  width = max 1 rows;
  capacity = rows * span;
  span = span;
  floor = floor;
  look = ring_look rows span words;
}

abbrev pub words_of : Ring → List ℤ
words_of s = vec_items s.grid.words

abbrev pub model_of : Ring → StoreModel
model_of s = ring_model s.grid.rows s.grid.span s.floor (words_of s)

-- the words are those of the meaning: a held curve lies in the 97 words of its slot, as day + 1 and then its readings,
-- and a slot into which no held day falls is all 0
pub record LaidOut (m : StoreModel) (words : List ℤ) : Type 0 where
  pub long : length words ≡ 97 * (m.width * m.span)
  pub day : (r d : ℕ) (c : Curve) → m.look r d ≡ Some c → slice_index_or words (97 * (r * m.span + d % m.span)) (pos 0) ≡ pos (d + 1)
  pub readings : (r d q : ℕ) (c : Curve) → m.look r d ≡ Some c → q < 96
      → slice_index_or words (97 * (r * m.span + d % m.span) + 1 + q) (pos 0) ≡ word_of (reading_in c.readings q)
  pub empty : (r s k : ℕ) → r < m.width → s < m.span → ((d : ℕ) → d % m.span ≡ s → m.look r d ≡ None) → k < 97
      → slice_index_or words (97 * (r * m.span + s) + k) (pos 0) ≡ pos 0

-- the memory of a ring that holds anything is laid out by its meaning; that of a refused one is never written
abbrev pub Pinned : StoreModel → List ℤ → Type 0
Pinned m words = 0 < m.capacity → LaidOut m words

-- a meaning has one memory only
abbrev pub LayoutOne : Type 0
LayoutOne = (m : StoreModel) (words words' : List ℤ) → Bounded m → LaidOut m words → LaidOut m words' → words ≡ words'
