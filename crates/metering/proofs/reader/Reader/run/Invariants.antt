use Rattle.std.proofs.Common.{◌≡◌, drop, replicate}
use Rattle.metering.specs.declared.reading.Reading.TheVariants.{Estimated}
use Rattle.metering.specs.Machine.{machine_of, runs}
use Rattle.metering.proofs.reader.Reader.run.Given as goal

abbrev pub invariant-loop-byte : goal.invariant-loop-byte
invariant-loop-byte l = runs (machine_of l.initial.self (replicate 96 Estimated)) l.text ≡ runs (machine_of l.self l.curve.readings) (drop l.byte-index l.text)
