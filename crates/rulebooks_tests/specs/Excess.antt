use Rattle.std.specs.Prelude.{ℤ, ◌-ℤ◌, Ok, Err, Result}
use Rattle.rulebooks.specs.declared.rule.RuleFault.{RuleFault}

-- a reading less its baseline, or the refusal
abbrev pub excess : ℤ → Result ℤ RuleFault → Result ℤ RuleFault
excess reading (Ok baseline) = Ok (reading -ℤ baseline)
excess reading (Err fault) = Err fault
