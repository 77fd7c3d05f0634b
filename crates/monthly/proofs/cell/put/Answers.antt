use Rattle.std.proofs.Common.{arith}
use Rattle.monthly.proofs.Digits.{one_before}
use Rattle.monthly.proofs.cell.put.Goals as goal

pub returns-clause-text : goal.returns-clause-text
returns-clause-text c = one_before c.args.bytes.now c.args.from c.args.byte c.requires.0 (omega (arith, c.requires.1))
