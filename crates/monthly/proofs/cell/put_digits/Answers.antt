use Rattle.std.proofs.Common.{◌/◌, ap, ◌∙◌, arith}
use Rattle.monthly.proofs.Digits.{place_more, place_step}
use Rattle.monthly.proofs.cell.put_digits.Goals as goal

pub loop-k-preserved : goal.loop-k-preserved
loop-k-preserved c =
    let i = c.loop-k.invariant in
    record {
      text = place_step c.loop-k._k c.args.n c.loop-k.whole _ _ _ i.whole i.text c.put-start.ensures.text;
      start = omega (arith, i.start, c.put-start.ensures.from);
      whole = ap (λ x. x / 10) i.whole ∙ place_more c.loop-k._k c.args.n;
    }
