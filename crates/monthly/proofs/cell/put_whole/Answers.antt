use Rattle.std.proofs.Common.{◌^◌, ◌<◌, refl, arith}
use Rattle.std.proofs.lemmas.Fmt.{length-decimal-le, decimal_nonempty}
use Rattle.monthly.proofs.Digits.{digit_more, digit_less, first_digit}
use Rattle.monthly.proofs.cell.put_whole.Goals as goal

pub loop-rest-init : goal.loop-rest-init
loop-rest-init c = record {
  text = refl;
  room = omega (arith, length-decimal-le 20 c.args.n (omega arith) (omega arith) (omega arith), c.requires.0);
  start = omega arith;
  less = omega arith;
}

pub put-start-requires : goal.put-start-requires
put-start-requires c =
    let i = c.loop-rest.invariant in
    (omega (arith, decimal_nonempty c.loop-rest.rest (omega (arith, i.less)), i.room), omega (arith, i.start, c.requires.1, c.loop-rest.auto.bytes))

pub loop-rest-preserved : goal.loop-rest-preserved
loop-rest-preserved c =
    let i = c.loop-rest.invariant in
    let f : c.loop-rest.rest < 2 ^ 64 = omega (arith, i.less) in
    record {
      text = digit_more c.loop-rest.rest _ _ _ c.loop-rest-test.true f c.put-start.ensures.text i.text;
      room = omega (arith, i.room, digit_less c.loop-rest.rest c.loop-rest-test.true f, c.put-start.ensures.from);
      start = omega (arith, i.start, c.put-start.ensures.from);
      less = omega (arith, i.less);
    }

pub put-requires : goal.put-requires
put-requires c =
    let i = c.loop-rest.invariant in
    (omega (arith, decimal_nonempty c.loop-rest.rest (omega (arith, i.less)), i.room), omega (arith, i.start, c.requires.1, c.loop-rest.auto.bytes))

pub returns-clause-text : goal.returns-clause-text
returns-clause-text c = first_digit c.loop-rest.rest _ _ _ (omega arith) c.put.ensures.text c.loop-rest.invariant.text
