use Rattle.std.proofs.Common.{pos, ◌-ℤ◌, ◌*ℤ◌, arith, w64, SFits}
use Rattle.std.proofs.lemmas.Int.{ints, to_z-of_z}
use Rattle.rulebooks.proofs.options.adjusted_by.Goals as goal

pub returns-then-asked-eq0 : goal.returns-then-asked-eq0
returns-then-asked-eq0 c =
    let a : SFits w64 (pos 15 *ℤ c.args.asked.c) = omega (arith, ints) in
    let b : SFits w64 ((pos 15 *ℤ c.args.asked.c) -ℤ c.args.asked.l) = omega (arith, ints) in
    grind (arith, to_z-of_z)

pub returns-else-asked-eq0 : goal.returns-else-asked-eq0
returns-else-asked-eq0 c =
    let a : SFits w64 (pos 15 *ℤ c.args.asked.c) = omega (arith, ints) in
    let b : SFits w64 ((pos 15 *ℤ c.args.asked.c) -ℤ c.args.asked.l) = omega (arith, ints) in
    grind (arith, to_z-of_z)
