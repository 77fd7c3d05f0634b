use Rattle.std.proofs.Common.{◌≡◌, Bool, true, false, cond, refl, ap, ◌∙◌, length-set}
use Rattle.metering.specs.declared.reading.Reading.{Reading}
use Rattle.metering.specs.Readings.{within, reading_in}
use Rattle.metering.proofs.Limits.{set_within}
use Rattle.metering.proofs.curve.Curve.place.Goals as goal

within_either : (b : Bool) (r other : Reading) → within r ≡ b → within other ≡ true → within (cond b r other) ≡ true
within_either true r other e h = e
within_either false r other e h = h

pub invariant_of-self : goal.invariant_of-self
invariant_of-self c =
    let rs = c.args.self.now.readings in
    let l = c.args.self.now.whole in
    let h = c.if-quarter-lt96.true in
    let v = c.within_or-reading.result in
    let w : within v ≡ true = ap within c.within_or-reading.ensures ∙ within_either (within c.args.reading) c.args.reading (reading_in rs c.args.quarter) refl (c.args.self.now.limited c.args.quarter h) in
    record {
      whole = length-set rs c.args.quarter v ∙ l;
      limited = set_within rs c.args.quarter v l h w c.args.self.now.limited;
    }
