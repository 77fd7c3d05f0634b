use Rattle.std.proofs.Common.{◌-ℤ◌, sym, arith, w64, SFits}
use Rattle.std.proofs.lemmas.Int.{ints, to_z-of_z}
use Rattle.rulebooks.specs.RuleLaws.{answer_within}
use Rattle.rulebooks_tests.proofs.above_baseline.Goals as goal

pub overflow_sub-result : goal.overflow_sub-result
overflow_sub-result g c =
    let q = c.args.asked in
    let w = answer_within (g.R.Rulebook.rules c.args.rules.now) (g.met.R.Rulebook.lawful c.args.rules.now) q.choice q.direction q.s q.l q.c c.in_ok-baseline.baseline (sym c.in_ok-baseline.ensures) in
    omega (arith, ints)

pub returns : goal.returns
returns g c =
    let q = c.args.asked in
    let w = answer_within (g.R.Rulebook.rules c.args.rules.now) (g.met.R.Rulebook.lawful c.args.rules.now) q.choice q.direction q.s q.l q.c c.in_ok-baseline.baseline (sym c.in_ok-baseline.ensures) in
    let d : SFits w64 (c.args.reading -ℤ c.in_ok-baseline.baseline) = omega (arith, ints) in
    grind (arith, to_z-of_z, c.in_ok-baseline.ensures)
