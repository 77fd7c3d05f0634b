use Rattle.std.proofs.Common.{◌&&◌, eqb, ltb, ◌∙◌, rules}
use Rattle.std.proofs.lemmas.Iterator.{YieldsList-from_slice}
use Rattle.std.proofs.lemmas.Iterator.Search.{any_from_yields_List}
use Rattle.ledger.specs.declared.records.Declaration.{Declaration}
use Rattle.settlement.proofs.Walks.{shares_lem}
use Rattle.settlement.proofs.book.booking.Span.shares_quarter.Goals as goal

pub returns : goal.returns
returns c =
    let s = c.args.self in
    let xs = c.args.declarations.now in
    any_from_yields_List (λ (x : Declaration). eqb x.day s.day && (ltb x.q0 s.q1 && ltb s.q0 x.q1)) _ _ _ c.any.ensures.ran (YieldsList-from_slice xs (search rules)) (λ x b f e. search rules)
    ∙ shares_lem xs s.day s.q0 s.q1
