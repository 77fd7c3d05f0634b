use Rattle.std.proofs.Common.{rules, arith}
use Rattle.calendar.proofs.Padded.{two, date_text_lem}
use Rattle.calendar.proofs.text.DateDisplay.fmt.Goals as goal

-- whether the day is written as a whole or digit by digit
pub returns-clause-writes : goal.returns-clause-writes
returns-clause-writes g c =
    let e = date_text_lem c.args.self.now (omega arith) (omega arith) (omega arith) in
    let d = two c.args.self.now.day (omega arith) in
    search rules
