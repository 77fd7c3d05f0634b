use Rattle.std.proofs.Common.{rules, ◌-◌, cond, length, sym, ◌∙◌}
use Rattle.std.proofs.lemmas.Bool.{le-leb}
use Rattle.ledger.specs.Words.{tally}
use Rattle.ledger.specs.Days.{is_declared}
use Rattle.ledger.specs.Book.{window_of}
use Rattle.monthly.proofs.Modest.{all_kept}
use Rattle.monthly.proofs.Monthed.{days_there, from_parts}
use Rattle.monthly.proofs.month.month_in.Goals as goal

pub sums_in-requires : goal.sums_in-requires
sums_in-requires c = all_kept c.args.orders.now (sym c.are_modest.ensures ∙ c.if-not-are_modest.false) c.if-orders-gt128.false

pub returns : goal.returns
returns c =
    let t = c.args.terms.now in
    let xs = c.args.declarations.now in
    let days = c.in_ok-days.days in
    let few = le-leb (length c.args.orders.now) 128 c.if-orders-gt128.false in
    let modest = sym c.are_modest.ensures ∙ c.if-not-are_modest.false in
    simp (few, modest)
    (from_parts t c.args.orders.now xs c.args.year c.args.month days _ _ _ _ (days_there c.args.year c.args.month _ days c.of.ensures (sym c.ok_or.ensures.value ∙ c.in_ok-days.was))
    c.in_ok-sums.ensures.value
    (c.quarters_in-av.ensures.count (λ _. t.w1 - t.w0) (λ day n p. search rules))
    (c.quarters_in-di.ensures.count (λ day. tally (λ q. cond (is_declared xs day q) 0 1) (window_of t)) (λ day n p. search rules))
    c.figures.ensures)
