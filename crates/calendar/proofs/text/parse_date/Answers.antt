use Rattle.std.proofs.Common.{◌≡◌, ◌+◌, ◌*◌, true, sym, ap, ◌∙◌, rules, arith}
use Rattle.std.specs.Bool.{then_some}
use Rattle.calendar.specs.DateText.{date_from, is_shaped, written_date}
use Rattle.calendar.proofs.Numbering.{at}
use Rattle.calendar.proofs.Reading.{unhyphened_4, unhyphened_7, read_as, shaped_by, same_date}
use Rattle.calendar.proofs.text.parse_date.Goals as goal

pub returns-in_default-2-clause-value : goal.returns-in_default-2-clause-value
unfolding written_date
returns-in_default-2-clause-value c = search (rules, unhyphened_7)

pub returns-in_default-3-clause-value : goal.returns-in_default-3-clause-value
unfolding written_date
returns-in_default-3-clause-value c = search (rules, unhyphened_4)

pub returns-clause-value : goal.returns-clause-value
unfolding written_date
returns-clause-value c =
    let t = c.as_bytes.result.now in
    let s : is_shaped t ≡ true = shaped_by t (omega arith) (omega arith) (omega arith) (sym c.in_ok-two_digits.ensures.digits) (sym c.in_ok-two_digits-2.ensures.digits) (sym c.in_ok-two_digits-3.ensures.digits) (sym c.in_ok-two_digits-4.ensures.digits) in
    let a = c.in_ok-two_digits.ensures.value in
    let b = c.in_ok-two_digits-2.ensures.value in
    let m = c.in_ok-two_digits-3.ensures.value in
    let d = c.in_ok-two_digits-4.ensures.value in
    let e : written_date t ≡ at (c.in_ok-two_digits.field-0 * 100 + c.in_ok-two_digits-2.field-0) c.in_ok-two_digits-3.field-0 c.in_ok-two_digits-4.field-0 = same_date _ _ _ _ _ _ (omega arith) (sym m) (sym d) in
    c.then_some.ensures ∙ ap (λ b. then_some b (at (c.in_ok-two_digits.field-0 * 100 + c.in_ok-two_digits-2.field-0) c.in_ok-two_digits-3.field-0 c.in_ok-two_digits-4.field-0)) c.is_date.ensures ∙ read_as t _ s e ∙ ap date_from c.as_bytes.ensures.value
