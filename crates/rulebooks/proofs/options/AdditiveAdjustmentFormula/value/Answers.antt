use Rattle.std.proofs.Common.{pos, ◌+ℤ◌, ◌*ℤ◌, arith, w64, SFits}
use Rattle.std.proofs.lemmas.Int.{ints, to_z-of_z}
use Rattle.rulebooks.specs.OptionLaws.{adjustment_size}
use Rattle.rulebooks.proofs.options.AdditiveAdjustmentFormula.value.Goals as goal

pub nearest-requires : goal.nearest-requires
nearest-requires c =
    let a = adjustment_size c.args.asked.direction c.args.asked.l c.args.asked.c c.requires.l_size c.requires.c_size in
    let e = c.adjusted_by.ensures in
    record { positive = omega (arith, ints); den_size = omega (arith, ints); num_size = omega (arith, ints) }

pub returns : goal.returns
returns c =
    let a = adjustment_size c.args.asked.direction c.args.asked.l c.args.asked.c c.requires.l_size c.requires.c_size in
    let e = c.adjusted_by.ensures in
    let f : SFits w64 (pos 8 *ℤ c.args.asked.s) = omega (arith, ints) in
    let g : SFits w64 ((pos 8 *ℤ c.args.asked.s) +ℤ c.adjusted_by.result) = omega (arith, ints) in
    grind (arith, to_z-of_z)
