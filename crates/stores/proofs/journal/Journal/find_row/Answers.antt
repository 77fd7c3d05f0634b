use Rattle.std.proofs.Common.{◌≡◌, ℕ, ◌-◌, ◌*◌, ◌<◌, ◌==◌, Bool, true, List, None, Some, sym, ap, ◌∙◌, arith}
use Rattle.std.proofs.lemmas.Bool.{and_left, or_parts}
use Rattle.std.proofs.lemmas.Grind.{div_ceil_times}
use Rattle.metering.specs.Curves.{curve_of}
use Rattle.stores.specs.declared.journal.Journal.{Journal}
use Rattle.stores.specs.Rows.{row_at, is_of, held_in}
use Rattle.stores.specs.Journals.{memory_of, rows_of}
use Rattle.stores.proofs.Alone.{held_found}
use Rattle.stores.proofs.Ends.{ends_none, ends_more, ends_met}
use Rattle.stores.proofs.journal.Journal.find_row.Goals as goal
use Rattle.stores.proofs.journal.Journal.find_row.Goals.{then-either+else-is_of+else-is_of-2, else-either}

-- the row that answers is the only one
found : (j : Journal) (r d i : ℕ) (bs : List ℕ) → bs ≡ j.bytes.items → i < j.rows → is_of r d (row_at bs (387 * i)) ≡ true
    → (i < j.rows) × (held_in (rows_of j) r d ≡ Some (curve_of (row_at (memory_of j) (387 * i)).readings))
found j r d i bs e l t =
    held_found r d j.rows (λ k. row_at j.bytes.items (387 * k)) (Some i) j.single (l, ap (λ xs. is_of r d (row_at xs (387 * i))) (sym e) ∙ t)

pub loop-first-init : goal.loop-first-init
loop-first-init c = ends_none _ c.args.self.now.rows

pub returns-then-is_of : goal.returns-then-is_of
returns-then-is_of c =
    let s = c.args.self.now in
    let n = div_ceil_times s.rows 2 (omega arith) in
    found s c.args.resource c.args.day (s.rows - 1 - c.loop-first.first) c.as_slice-bytes.result.now c.as_slice-bytes.ensures.value (omega arith)
    (sym c.is_of.ensures ∙ c.if-is_of.true)

pub returns-then-is_of-2 : goal.returns-then-is_of-2
returns-then-is_of-2 c =
    let s = c.args.self.now in
    found s c.args.resource c.args.day c.loop-first.first c.as_slice-bytes.result.now c.as_slice-bytes.ensures.value (omega arith)
    (sym c.is_of-then-either.ensures ∙ c.if-is_of-2.true)

pub loop-first-preserved : goal.loop-first-preserved
loop-first-preserved c =
    let s = c.args.self.now in
    let r = c.args.resource in
    let first = c.loop-first.first in
    let test : ℕ → Bool = λ i. is_of r c.args.day (row_at c.as_slice-bytes.result.now (387 * i)) in
    elim c.if-either.branch [
      | then-either+else-is_of+else-is_of-2 w ↦ ends_more test s.rows first c.loop-first.invariant
          (sym w.is_of.ensures ∙ w.if-is_of.false) (sym w.is_of-then-either.ensures ∙ w.if-is_of-2.false)
      | else-either w ↦ (let p = or_parts _ _ w.if-either.false in
          ends_more test s.rows first c.loop-first.invariant
          (and_left _ _ (ap (λ (x : ℕ). x == r) (sym c.resource_at.ensures) ∙ p.0))
          (and_left _ _ (ap (λ (x : ℕ). x == r) (sym c.resource_at-in-loop-first.ensures) ∙ p.1)))
    ]

pub returns : goal.returns
returns c =
    let s = c.args.self.now in
    let r = c.args.resource in
    let d = c.args.day in
    let m = div_ceil_times s.rows 2 (omega arith) in
    let all = ends_met (λ i. is_of r d (row_at c.as_slice-bytes.result.now (387 * i))) s.rows c.loop-first.first c.loop-first.invariant (omega arith) in
    held_found r d s.rows (λ i. row_at s.bytes.items (387 * i)) None s.single
    (λ k l. ap (λ xs. is_of r d (row_at xs (387 * k))) (sym c.as_slice-bytes.ensures.value) ∙ all k l)
