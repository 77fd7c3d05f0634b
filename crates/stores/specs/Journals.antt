-- What a journal means, and what its memory is.
use Rattle.std.specs.Prelude.{◌≡◌, ℕ, ◌/◌, ◌<◌, min, Bool, true, cond, ◌&&◌, List, length, replicate, vec_items, ◌==◌, nat_le, nat_lt}
use Rattle.metering.specs.declared.curve.Curve.{Curve}
use Rattle.stores.specs.declared.journal.Journal.{Journal}
use Rattle.stores.specs.Model.{StoreModel, held_from}
use Rattle.stores.specs.Making.{fresh}
use Rattle.stores.specs.Rows.{Row, rows_in, held_in, apart, layout}

abbrev pub memory_of : Journal → List ℕ
memory_of j = vec_items j.bytes

-- the rows of a journal, in the order of their putting
abbrev pub rows_of : Journal → List Row
rows_of j = rows_in (memory_of j) j.rows

abbrev pub row_of : ℕ → ℕ → Curve → Row
row_of r d c = record { resource = r; day = d; readings = c.readings }

-- what rows mean to a journal of this width, capacity and floor: its span is a hundred years, unless it can hold nothing
abbrev pub meaning : ℕ → ℕ → ℕ → List Row → StoreModel
meaning width capacity floor rs = record {
  width = width;
  capacity = capacity;
  span = cond (capacity == 0) 1 36525;
  floor = floor;
  look = held_in rs;
}

abbrev pub model_of : Journal → StoreModel
model_of j = meaning j.width j.capacity j.floor (rows_of j)

-- making

-- a journal can be made of this many bytes, for this width
abbrev pub fitting : ℕ → ℕ → Bool
fitting bytes width = nat_le 387 bytes && (nat_le 1 width && nat_le width 32)

-- a row for each 387 bytes, at most 12,800; nothing where none can be made
abbrev pub made_of : ℕ → ℕ → StoreModel
made_of bytes width = cond (fitting bytes width) (fresh width (min 12800 (bytes / 387)) 36525) (fresh 1 0 1)

-- zeros where a journal can be made, else the memory as it was handed over
abbrev pub cleared : List ℕ → ℕ → List ℕ
cleared memory width = cond (fitting (length memory) width) (replicate (length memory) 0) memory

-- the memory

-- Rows are the layout of a meaning: each curve held stands in one row, each row is held, and no two rows are of one resource and
-- day. The memory is just these rows one after another, then zeros; only a journal that can hold nothing leaves it alone.
pub record LaidOut (memory : List ℕ) (rs : List Row) (m : StoreModel) : Type 0 where
  pub bytes : 0 < m.capacity → memory ≡ layout rs (length memory)
  pub held : (r d : ℕ) → m.look r d ≡ held_in rs r d
  pub single : apart rs ≡ true
  pub number : length rs ≡ held_from m 0

-- the memory of a journal that now has these rows
abbrev pub rewritten : ℕ → List ℕ → List Row → List ℕ
rewritten capacity memory rs = cond (nat_lt 0 capacity) (layout rs (length memory)) memory
