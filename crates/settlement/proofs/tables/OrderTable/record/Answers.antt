use Rattle.std.proofs.Common.{◌≤◌, length, refl, arith, rules}
use Rattle.settlement.proofs.Held.{recorded_there, recorded_past}
use Rattle.settlement.proofs.tables.OrderTable.record.Goals as goal

pub returns-in-Some : goal.returns-in-Some
returns-in-Some c =
    let v = c.in-Some.ensures.variant.0 refl in
    let e = c.in-Some.ensures.value in
    search (rules, recorded_there _ _ c.args.outcome c.in-Some.booked.now v e)

pub returns-in_default : goal.returns-in_default
returns-in_default c =
    let h : length c.args.self.now.orders.items ≤ c.args.number = grind (arith, c.in_default.ensures.variant) in
    recorded_past c.args.self.now.orders.items c.args.number c.args.outcome h
