use Rattle.std.proofs.Common.{◌≡◌, leb, length, true, ◌&&◌, ap, ◌∙◌, rules}
use Rattle.std.proofs.lemmas.Bool.{and_from, le-leb}
use Rattle.ledger.specs.Standing.{are_standing, are_modest}
use Rattle.settlement.proofs.Standing.{all_modest}
use Rattle.settlement.proofs.book.Book.month.Goals as goal

pub returns : goal.returns
returns g c =
    let os = c.as_slice.result.now in
    let fit : (leb (length os) 128 && are_modest os) ≡ true = and_from (leb (length os) 128) _ (le-leb (length os) 128 c.as_slice.ensures.room) (all_modest os (ap are_standing c.as_slice.ensures.held ∙ c.args.self.now.standing)) in
    search (rules, fit)
