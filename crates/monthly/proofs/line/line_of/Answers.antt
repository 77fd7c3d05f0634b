use Rattle.std.proofs.Common.{◌≡◌, ℕ, ◌+◌, ◌<◌, ◌++◌, [], List, length, get_or, take, sym, ap, ◌∙◌, arith}
use Rattle.std.specs.List.{flat_map}
use Rattle.std.proofs.lemmas.List.{take_more, take_all, flat_map_more}
use Rattle.monthly.specs.declared.cell.Cell.{Cell}
use Rattle.monthly.specs.declared.cell.Places.TheVariants.{Zero}
use Rattle.monthly.specs.Cells.{cell, cells}
use Rattle.monthly.proofs.line.line_of.Goals as goal

abbrev blank : Cell
blank = record { value = 0; places = Zero; end = 0 }

cells_more : (cs : List Cell) (i : ℕ) → i < length cs → cells (take (i + 1) cs) ≡ cells (take i cs) ++ cell (get_or cs i blank)
unfolding cells
cells_more cs i h = ap (flat_map cell) (take_more cs i blank h) ∙ sym (flat_map_more cell [] (take i cs) (get_or cs i blank))

pub loop-figure-init : goal.loop-figure-init
unfolding cells
loop-figure-init c = record { text = c.new-line.ensures; within = omega (arith, ap length c.new-line.ensures) }

pub loop-figure-preserved : goal.loop-figure-preserved
loop-figure-preserved c =
    let i = c.loop-figure.figure-index in
    let cs = c.args.figures.now in
    let v = c.loop-figure.invariant in
    record {
      text = c.push_to.ensures.text ∙ ap (λ z. z ++ cell (get_or cs i blank)) v.text ∙ sym (cells_more cs i (omega (arith, c.loop-figure-test.true, c.told-figures)));
      within = omega (arith, v.within, c.push_to.ensures.within);
    }

pub returns : goal.returns
returns c = c.loop-figure.invariant.text ∙ ap cells (take_all c.loop-figure.figure-index c.args.figures.now (omega (arith, c.loop-figure-test.false, c.told-figures)))
