use Rattle.std.proofs.Common.{◌≡◌, ℕ, ◌+◌, ◌-◌, ◌*◌, ◌++◌, length, take, drop, replicate, filter, ap, ◌∙◌, subst, arith}
use lib.Seq.{paste}
use Rattle.std.proofs.lemmas.List.{length-take, length-drop}
use Rattle.stores.specs.Rows.{rows_in, since, written}
use Rattle.stores.specs.Closing.{Closing, closing_none, closing_yes, closing_no}
use Rattle.stores.proofs.Writing.{mid}
use Rattle.stores.proofs.journal.rows.drop_rows.Goals as goal
use Rattle.stores.proofs.journal.rows.drop_rows.Goals.{then-day_at-day, else-day_at-day}

pub loop-i-init : goal.loop-i-init
loop-i-init c = closing_none c.args.bytes.now c.args.day

pub loop-i-preserved : goal.loop-i-preserved
loop-i-preserved c =
    let row : 387 * c.loop-i.i + 387 - 387 * c.loop-i.i ≡ 387 = omega arith in
    elim c.if-day_at-day.branch [
      | then-day_at-day w ↦ rw (w.bytes-is, w.left-is) (closing_yes _ _ _ c.loop-i.left c.loop-i.i c.args.day c.args.rows c.loop-i.invariant (omega arith) c.loop-i-test.true c.requires.room c.loop-i.auto.bytes c.requires.laid
          (w.copy_within.ensures.after ∙ ap (paste c.loop-i.bytes (387 * c.loop-i.left) (drop (387 * c.loop-i.i) c.loop-i.bytes)) row))
      | else-day_at-day w ↦ rw (w.bytes-is, w.left-is) (closing_no _ _ c.loop-i.left c.loop-i.i c.args.day c.loop-i.invariant (omega arith))
    ]

pub returns : goal.returns
returns c =
    let bs = c.args.bytes.now in
    let cs = c.loop-i.bytes in
    let k = c.loop-i.left in
    let n = c.args.rows in
    let P : ℕ → Type 0 = λ i. Closing bs cs k i c.args.day in
    let e : c.loop-i.i ≡ n = omega arith in
    let C : Closing bs cs k n c.args.day = subst P e c.loop-i.invariant in
    let b = C.behind in
    let le : length cs ≡ length bs = c.loop-i.auto.bytes in
    let m : length (take (387 * n - 387 * k) (drop (387 * k) cs)) ≡ 387 * n - 387 * k = simp (length-take, length-drop) (omega (arith, c.requires.room)) in
    let f : c.fill.new.self ≡ replicate (387 * n - 387 * k) 0 = c.fill.ensures.after (λ y e. e) ∙ ap (λ (j : ℕ). replicate j 0) m in
    let ks = written (filter (since c.args.day) (rows_in bs n)) in
    record {
      count = C.count;
      few = C.behind;
      memory = mid (387 * k) (387 * n) cs _ (replicate (387 * n - 387 * k) 0) f (omega arith) ∙ ap (λ xs. xs ++ (replicate (387 * n - 387 * k) 0 ++ drop (387 * n) cs)) C.front ∙ ap (λ xs. ks ++ (replicate (387 * n - 387 * k) 0 ++ xs)) C.rest;
    }
