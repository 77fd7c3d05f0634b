-- What each refusal of forming and importing tells: number, layer, two places.
use Rattle.refusals.specs.declared.Refusal.{Refusal}
use Rattle.refusals.specs.declared.Layer.TheVariants.{Import}
use Rattle.metering.specs.declared.fault.Fault.{Fault}
use Rattle.metering.specs.declared.fault.Fault.TheVariants.{Lists, Header, Row}

abbrev pub refusal_of : Fault → Refusal
refusal_of Lists = record { number = 7; layer = Import; first = 0; second = 0 }
refusal_of (Header column) = record { number = 8; layer = Import; first = 1; second = column }
refusal_of (Row line column) = record { number = 9; layer = Import; first = line; second = column }
