use Rattle.std.proofs.Common.{◌≡◌, ◌*◌, ◌≤◌, length, take}
use Rattle.monthly.specs.Cells.{cells}
use Rattle.monthly.proofs.line.line_of.Given as goal

abbrev pub invariant-loop-figure : goal.invariant-loop-figure
invariant-loop-figure l = record { text : l.line.items ≡ cells (take l.figure-index l.figures); within : length l.line.items ≤ 33 * l.figure-index }
