use Rattle.std.proofs.Common.{ℕ, ℤ, get_or, pos, sym, refl, ◌∙◌, arith, rules}
use Rattle.std.proofs.lemmas.List.FromFn.{fill_by_all}
use Rattle.settling.specs.Evidence.{history_row}
use Rattle.settling.specs.History.{days_of}
use Rattle.settling.proofs.Arrays.{from_fn_at}
use Rattle.settling.proofs.Rows.{length_row}
use Rattle.settling.proofs.evidence.history_row.Goals as goal

pub returns : goal.returns
returns c =
    let row = history_row (days_of c.args.history.now.items) c.args.lead_now c.args.lead_then in
    let f : ℕ → ℤ = λ k. get_or row k (pos 0) in
    let made = c.from_fn.ensures.items in
    fill_by_all f c.from_fn.result 19 (pos 0) made.long (λ k h. from_fn_at _ _ c.from_fn.result f (pos 0) (λ k y q e. search rules) 0 19 made.each k (omega arith) (omega arith))
    ∙ sym (fill_by_all f row 19 (pos 0) (length_row (days_of c.args.history.now.items) c.args.lead_now c.args.lead_then) (λ k h. refl))
