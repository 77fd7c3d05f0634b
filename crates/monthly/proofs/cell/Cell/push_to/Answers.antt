use Rattle.std.proofs.Common.{rules, ◌≡◌, List, ℕ, ◌-◌, ◌++◌, length, take, drop, refl, ap, ◌∙◌, arith, length-drop}
use Rattle.std.proofs.lemmas.List.{take_all}
use Rattle.ledger.specs.LineText.{fraction}
use Rattle.monthly.proofs.Digits.{comma, no_comma, cell_is}
use Rattle.monthly.proofs.cell.Cell.push_to.Goals as goal
use Rattle.monthly.proofs.cell.Cell.push_to.Goals.{then-count-gt0, else-count-gt0}

pub returns-clause-text : goal.returns-clause-text
returns-clause-text c =
    let k = c.count-count.result in
    let v = c.args.self.value in
    let d = c.put_digits-from.ensures.text in
    let f : drop c.if-count-gt0.from c.if-count-gt0.bytes ≡ fraction k v ++ drop c.put-end.result c.put-end.new.bytes = elim c.if-count-gt0.branch [
      | then-count-gt0 w ↦ rw (w.bytes-is, w.from-is) (comma k v _ _ _ w.if-count-gt0.true d w.put-from.ensures.text)
      | else-count-gt0 w ↦ rw (w.bytes-is, w.from-is) (no_comma k v _ _ w.if-count-gt0.false d)
    ] in
    let xs = c.put_whole-start.new.bytes in
    let from = c.put_whole-start.result in
    let n = length xs - from in
    let w : c.try_extend_from_slice.new.self.items ≡ c.args.line.now.items ++ take n (drop from xs) = search rules in
    let a = take_all n (drop from xs) (simp length-drop (omega arith)) in
    let e = c.put-end.ensures.from in
    let i = cell_is c.args.self k (c.put_digits-from.result).1 _ _ _ _ c.count-count.ensures refl c.put-end.ensures.text f c.put_digits-from.ensures.whole c.put_whole-start.ensures.text in
    w ∙ ap (λ (z : List ℕ). c.args.line.now.items ++ z) (a ∙ i)
