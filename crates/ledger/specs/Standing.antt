-- What every booked order, every resource and every outcome of a book keeps to, as tests.
use Rattle.std.specs.Prelude.{Bool, true, ◌&&◌, List, [], ◌∷◌, Some, None, Option, nat_le, nat_lt}
use Rattle.ledger.specs.declared.records.Order.{Order}
use Rattle.ledger.specs.declared.records.Outcome.{Outcome}
use Rattle.ledger.specs.declared.records.Booked.{Booked}
use Rattle.ledger.specs.declared.records.Resource.{Resource}

-- eight lead quarters before it on its own day, quarters of the day, a day in range, at most 128,000 kW
abbrev pub is_placed : Order → Bool
is_placed o = nat_le 8 o.q0 && (nat_lt o.q0 o.q1 && (nat_le o.q1 96 && (nat_le o.day 36524 && nat_le o.qr 128000)))

-- no energy is more than 70,000,000,000 Wh
abbrev pub is_modest : Option Outcome → Bool
is_modest None = true
is_modest (Some x) = nat_le x.eda 70_000_000_000 && (nat_le x.pta 70_000_000_000 && (nat_le x.seta 70_000_000_000 && nat_le x.paid 70_000_000_000))

abbrev pub are_modest : List Booked → Bool
are_modest [] = true
are_modest (b ∷ bs) = is_modest b.result && are_modest bs

abbrev pub are_standing : List Booked → Bool
are_standing [] = true
are_standing (b ∷ bs) = (is_placed b.order && is_modest b.result) && are_standing bs

-- at most 4,000 kW each
abbrev pub are_powered : List Resource → Bool
are_powered [] = true
are_powered (x ∷ xs) = nat_le x.power 4000 && are_powered xs
