use Rattle.std.proofs.Common.{◌≡◌, ℕ, ◌+◌, ◌*◌, List, Some, sym, ap, ◌∙◌}
use Rattle.stores.specs.Model.{reading_held}
use Rattle.stores.specs.Rows.{reading_from, word_at}
use Rattle.stores.specs.Meant.{standing, row_reading}
use Rattle.stores.proofs.journal.holding.JournalStore.reading.Goals as goal

pub returns : goal.returns
returns c =
    let s = c.args.self.now in
    let bs = s.bytes.items in
    let i = c.in_ok-i.i in
    let q = c.args.quarter in
    let f = c.in_ok-i.ensures in
    let w : c.reading_at.result ≡ reading_from (word_at bs (387 * i + 3 + 4 * q)) = c.reading_at.ensures ∙ ap (λ (xs : List ℕ). reading_from (word_at xs (387 * i + 3 + 4 * q))) c.as_slice.ensures.value in
    ap Some w ∙ sym (ap (λ o. reading_held o q) f.1 ∙ row_reading bs s.width s.capacity s.floor s.rows i q (standing s) f.0 c.if-quarter-ge96.false)
