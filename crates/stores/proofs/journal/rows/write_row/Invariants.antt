use Rattle.std.proofs.Common.{◌≡◌, ◌+◌, ◌*◌, ◌∷◌, ◌++◌, take}
use Rattle.std.specs.List.{flat_map}
use Rattle.stores.specs.Rows.{two, reading_bytes}
use Rattle.stores.proofs.journal.rows.write_row.Given as goal

abbrev pub invariant-loop-i : goal.invariant-loop-i
invariant-loop-i l = take (3 + 4 * l.i) l.row ≡ (l.resource ∷ two l.day) ++ flat_map reading_bytes (take l.i l.curve.readings)
