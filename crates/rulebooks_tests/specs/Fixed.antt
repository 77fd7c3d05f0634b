use Rattle.std.specs.Prelude.{cond, pos, Some, None, ◌==◌}
use Rattle.rulebooks.specs.Rules.{Rules}
use Rattle.rulebooks.specs.Options.{single}

abbrev pub fixed_rules : Rules
fixed_rules = single 255 7 (λ direction s l c. cond (direction == 0) (Some (pos 10_000_000)) None)
