use Rattle.std.proofs.Common.{◌≡◌, ◌≤◌, true, List, sym, subst, rules}
use Rattle.ledger.specs.declared.records.Resource.{Resource}
use Rattle.ledger.specs.Standing.{are_powered}
use Rattle.settlement.proofs.Standing.{powered_more}
use Rattle.settlement.proofs.book.Book.register.Goals as goal

pub invariant_of-self-clause-powered : goal.invariant_of-self-clause-powered
invariant_of-self-clause-powered g c =
    let h : c.args.power ≤ 4000 = search rules in
    subst (λ (l : List Resource). are_powered l ≡ true) (sym c.push.ensures.items) (powered_more c.args.self.now.resources.items _ c.args.self.now.powered h)
