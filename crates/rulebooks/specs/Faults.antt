-- What a refusal of a rulebook tells. A rulebook knows no place: whoever asks it adds one.
use Rattle.refusals.specs.declared.Layer.TheVariants.{Rulebook}
use Rattle.refusals.specs.declared.Refusal.{Refusal}
use Rattle.rulebooks.specs.declared.rule.RuleFault.{RuleFault}
use Rattle.rulebooks.specs.declared.rule.RuleFault.TheVariants.{OutOfRange, UnknownChoice, NoBaseline}

abbrev pub refusal_of : RuleFault → Refusal
refusal_of OutOfRange = record { number = 14; layer = Rulebook; first = 0; second = 0 }
refusal_of UnknownChoice = record { number = 5; layer = Rulebook; first = 0; second = 0 }
refusal_of NoBaseline = record { number = 24; layer = Rulebook; first = 0; second = 0 }
