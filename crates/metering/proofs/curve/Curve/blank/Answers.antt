use Rattle.std.proofs.Common.{refl}
use Rattle.metering.proofs.Limits.{blank_within}
use Rattle.metering.proofs.curve.Curve.blank.Goals as goal

pub invariant_of-result : goal.invariant_of-result
invariant_of-result c = record { whole = refl; limited = blank_within }
