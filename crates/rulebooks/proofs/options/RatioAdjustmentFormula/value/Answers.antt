use Rattle.std.proofs.Common.{◌≡◌, ℤ, pos, ◌-ℤ◌, ◌*ℤ◌, neg_ℤ, arith, w64, SFits}
use Rattle.std.proofs.lemmas.Int.{ints, to_z-of_z}
use Rattle.rulebooks.specs.OptionLaws.{product_size}
use Rattle.rulebooks.proofs.options.RatioAdjustmentFormula.value.Goals as goal

-- the code negates by 0 - x
minus : (x : ℤ) → (pos 0 -ℤ x) ≡ neg_ℤ x
minus x = omega (arith, ints)

pub returns-then-asked-gt0 : goal.returns-then-asked-gt0
returns-then-asked-gt0 c =
    let p = product_size c.args.asked.s c.args.asked.c c.requires.s_size c.requires.c_size in
    let f : SFits w64 (c.args.asked.s *ℤ c.args.asked.c) = omega (arith, ints) in
    grind (arith, to_z-of_z)

pub returns-then-asked-lt0 : goal.returns-then-asked-lt0
returns-then-asked-lt0 c =
    let p = product_size c.args.asked.s c.args.asked.c c.requires.s_size c.requires.c_size in
    let f : SFits w64 (c.args.asked.s *ℤ c.args.asked.c) = omega (arith, ints) in
    let a : SFits w64 (pos 0 -ℤ (c.args.asked.s *ℤ c.args.asked.c)) = omega (arith, ints) in
    let b : SFits w64 (pos 0 -ℤ c.args.asked.l) = omega (arith, ints) in
    grind (arith, to_z-of_z, minus (c.args.asked.s *ℤ c.args.asked.c), minus c.args.asked.l)
