use Rattle.std.proofs.Common.{arith}
use Rattle.calendar.proofs.Numbering.{first_month, length_to}
use Rattle.calendar.proofs.YearForm.{year_form}
use Rattle.calendar.proofs.Promises.{known}
use Rattle.calendar.proofs.months.Month.first_day.Goals as goal

pub loop-earlier-init : goal.loop-earlier-init
loop-earlier-init c =
    let k = known c.args.self.year c.args.self.month c.args.self.known in
    let f = year_form c.args.self.year k.from k.to in
    (omega arith, omega arith)

pub loop-earlier-preserved : goal.loop-earlier-preserved
loop-earlier-preserved c =
    let f = first_month c.args.self.year c.loop-earlier.earlier c.loop-earlier.auto.earlier in
    let t = length_to c.args.self.year c.loop-earlier.earlier in
    let i = c.loop-earlier.invariant in
    let m = c.month_length-day.ensures in
    (omega arith, omega arith)
