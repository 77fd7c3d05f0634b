-- A keeper: the meaning of the store below, with the lower of two spans.
use Rattle.std.specs.Prelude.{ℕ, min, Bool, ◌&&◌, nat_le}
use Rattle.stores.specs.Model.{StoreModel}

abbrev pub keeper_fits : ℕ → Bool
keeper_fits span = nat_le 1 span && nat_le span 36525

abbrev pub kept : ℕ → StoreModel → StoreModel
kept span m = record {
  width = m.width;
  capacity = m.capacity;
  span = min span m.span;
  floor = m.floor;
  look = m.look;
}
