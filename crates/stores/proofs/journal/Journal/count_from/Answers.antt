use Rattle.std.proofs.Common.{ℕ, ◌*◌, Bool, cond, List, length, filter, sym, refl, ap, ◌∙◌, rules, arith}
use borrow.Author.Tests.{tests}
use Rattle.std.specs.List.{range_with_len}
use Rattle.std.proofs.lemmas.Iterator.{YieldsList-from_range, YieldsList-from_map}
use Rattle.std.proofs.lemmas.Iterator.Consumers.{YieldsList-at, sum_from_yields_List, fits_from_yields_list}
use Rattle.stores.specs.Words.{upto}
use Rattle.stores.specs.Rows.{row_at, rows_in, since}
use Rattle.stores.proofs.Counting.{length_filter_map, ones_of, few_ones}
use Rattle.stores.proofs.journal.Journal.count_from.Goals as goal

pub sum-requires-clause-fits : goal.sum-requires-clause-fits
sum-requires-clause-fits c =
    let n = c.args.self.now.rows in
    let bs = c.as_slice-bytes.result.now in
    let test : ℕ → Bool = λ i. since c.args.day (row_at bs (387 * i)) in
    let few = few_ones test 0 n in
    fits_from_yields_list c.map.result _
    (YieldsList-from_map _ (λ i. cond (test i) 1 0) (YieldsList-at c.map.ensures.source (YieldsList-from_range 0 n n refl (omega arith))) c.map.ensures.closure (λ x r q k. search (rules, tests))) (omega arith)

pub returns : goal.returns
unfolding upto
returns c =
    let n = c.args.self.now.rows in
    let bs = c.as_slice-bytes.result.now in
    let test : ℕ → Bool = λ i. since c.args.day (row_at bs (387 * i)) in
    sum_from_yields_List c.map.result _ c.sum.ensures.ran
    (YieldsList-from_map _ (λ i. cond (test i) 1 0) (YieldsList-at c.map.ensures.source (YieldsList-from_range 0 n n refl (omega arith))) c.map.ensures.closure (λ x r q k. search (rules, tests)))
    ∙ (ones_of test 0 n
    ∙ (sym (length_filter_map (since c.args.day) (λ i. row_at bs (387 * i)) (range_with_len 0 n))
    ∙ ap (λ (xs : List ℕ). length (filter (since c.args.day) (rows_in xs n))) c.as_slice-bytes.ensures.value))
