-- What a store of curves means, and what putting and dropping do to it.
use Rattle.std.specs.Prelude.{◌≡◌, ℕ, zero, suc, ◌+◌, ◌-◌, ◌<◌, ◌≤◌, max, true, cond, ◌&&◌, is_some, Some, None, Ok, Err, Option, Result, ◌==◌, nat_le, nat_lt}
use Rattle.metering.specs.declared.reading.Reading.{Reading}
use Rattle.metering.specs.declared.curve.Curve.{Curve}
use Rattle.metering.specs.Readings.{reading_at}
use Rattle.stores.specs.declared.fault.StoreFault.{StoreFault}
use Rattle.stores.specs.declared.fault.StoreFault.TheVariants.{Day, Resource, UnderFloor, Held, Full}

-- width: resources are numbered 0 to width - 1; capacity: the most curves held; span: the days held, up to the latest;
-- floor: no curve of an earlier day is held or taken; look: the curve held for a resource and a day, or nothing
pub record StoreModel : Type 0 where
  pub width : ℕ
  pub capacity : ℕ
  pub span : ℕ
  pub floor : ℕ
  pub look : ℕ → ℕ → Option Curve

-- the sum of f 0, f 1, .. f (n - 1)
unfoldable pub sum_below : (ℕ → ℕ) → ℕ → ℕ
sum_below f zero = 0
sum_below f (suc n) = sum_below f n + f n

abbrev pub one : Option Curve → ℕ
one None = 0
one (Some c) = 1

-- how many curves are held for day d and later ones: one for each resource and each such day that has a curve
unfoldable pub held_from : StoreModel → ℕ → ℕ
held_from m d = sum_below (λ r. sum_below (λ k. cond (nat_le d k) (one (m.look r k)) 0) 36525) m.width

-- the reading of a quarter of a curve that may be held
abbrev pub reading_held : Option Curve → ℕ → Option Reading
reading_held None q = None
reading_held (Some c) q = reading_at c.readings q

-- what every store keeps to
pub record Bounded (m : StoreModel) : Type 0 where
  pub width_from : 1 ≤ m.width
  pub width_to : m.width ≤ 32
  pub capacity_to : m.capacity ≤ 12800
  pub span_from : 1 ≤ m.span
  pub span_to : m.span ≤ 36525
  pub floor_to : m.floor ≤ 36524
  pub held : (r d : ℕ) → is_some (m.look r d) ≡ true → (r < m.width) × (m.floor ≤ d) × (d ≤ 36524)
  pub room : held_from m 0 ≤ m.capacity

-- the floor after a put for day d
abbrev pub new_floor : StoreModel → ℕ → ℕ
new_floor m d = max m.floor (d + 1 - m.span)

-- a put is refused for the first of these that is so
abbrev pub put_answer : StoreModel → ℕ → ℕ → Result (Unit {0}) StoreFault
put_answer m r d =
    cond (nat_lt 36524 d) (Err Day)
    (cond (nat_le m.width r) (Err (Resource r d))
    (cond (nat_lt d m.floor) (Err (UnderFloor r d))
    (cond (is_some (m.look r d)) (Err (Held r d))
    (cond (nat_le m.capacity (held_from m (new_floor m d))) (Err (Full r d)) (Ok tt)))))

-- curves under a day go
abbrev pub cut_under : ℕ → (ℕ → ℕ → Option Curve) → ℕ → ℕ → Option Curve
cut_under f look r d = cond (nat_lt d f) None (look r d)

-- one curve more
abbrev pub gained : ℕ → ℕ → Curve → (ℕ → ℕ → Option Curve) → ℕ → ℕ → Option Curve
gained r d c look r' d' = cond (r' == r && d' == d) (Some c) (look r' d')

abbrev pub put_into : StoreModel → ℕ → ℕ → Curve → StoreModel
put_into m r d c = record {
  width = m.width;
  capacity = m.capacity;
  span = m.span;
  floor = new_floor m d;
  look = cut_under (new_floor m d) (gained r d c m.look);
}

-- a refused call leaves the store as it was
abbrev pub unless : Result (Unit {0}) StoreFault → StoreModel → StoreModel → StoreModel
unless (Ok u) old new = new
unless (Err e) old new = old

abbrev pub after_put : StoreModel → ℕ → ℕ → Curve → StoreModel
after_put m r d c = unless (put_answer m r d) m (put_into m r d c)

abbrev pub drop_answer : ℕ → Result (Unit {0}) StoreFault
drop_answer d = cond (nat_lt 36524 d) (Err Day) (Ok tt)

abbrev pub raised_to : StoreModel → ℕ → StoreModel
raised_to m d = record {
  width = m.width;
  capacity = m.capacity;
  span = m.span;
  floor = max m.floor d;
  look = cut_under d m.look;
}

abbrev pub after_drop : StoreModel → ℕ → StoreModel
after_drop m d = unless (drop_answer d) m (raised_to m d)
