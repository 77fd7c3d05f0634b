use Rattle.std.proofs.Common.{◌≡◌, length, Ok, ap, ◌∙◌, append_assoc, arith}
use Rattle.std.proofs.lemmas.Bool.{le-leb, lt-leb}
use Rattle.ledger.specs.declared.terms.Terms.{Terms}
use Rattle.ledger.specs.declared.records.Month.{Month}
use Rattle.ledger.specs.LineText.{line_text}
use Rattle.monthly.specs.Cells.{cell, cells, figures_of}
use Rattle.monthly.proofs.line.write_line.Goals as goal

line_is : (t : Terms) (m : Month) → cells (figures_of t m) ≡ line_text t m
unfolding cells cell line_text
line_is t m = simp append_assoc

pub returns-then-n-out : goal.returns-then-n-out
returns-then-n-out c =
    let t = c.args.terms.now in
    let m = c.args.figures.now in
    let e = c.line_of-line.ensures ∙ ap cells c.cells_of.ensures ∙ line_is t m in
    let l = lt-leb (length (line_text t m)) (length c.args.out.now) (omega (arith, ap length e, c.len-n.ensures.value, c.if-n-out.true)) in
    record { value = simp l; bytes = simp l }

pub returns : goal.returns
returns c =
    let t = c.args.terms.now in
    let m = c.args.figures.now in
    let e = c.line_of-line.ensures ∙ ap cells c.cells_of.ensures ∙ line_is t m in
    let l = le-leb (length (line_text t m)) (length c.args.out.now) (omega (arith, ap length e, c.len-n.ensures.value, c.if-n-out.false)) in
    let n = c.len-n.ensures.value ∙ ap length e in
    let a = c.copy_from_slice.ensures.after ∙ c.as_slice.ensures.value ∙ e in
    record { value = simp l (ap Ok n); bytes = simp l (cc) }
