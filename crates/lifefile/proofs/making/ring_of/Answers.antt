use Rattle.std.proofs.Common.{cond, length, is_ok, vec_items, sym, ap, ◌∙◌}
use Rattle.stores.specs.Making.{fit_answer}
use Rattle.lifefile.specs.Making.{asked_words}
use Rattle.lifefile.proofs.Memory.{made_as}
use Rattle.lifefile.proofs.making.ring_of.Goals as goal

pub returns : goal.returns
returns c =
    let w = c.args.width in
    let d = c.args.days in
    let size = c.ring_words-size.result in
    let memory = c.in_ok-memory.memory in
    let n = sym memory.ok.0 ∙ c.in_ok-memory.ensures.len ∙ c.memory_for.ensures ∙ ap (λ f. cond (is_ok f) size 0) c.ring_fits-fits.ensures in
    record {
      store = c.new.ensures.meaning ∙ made_as w d size (asked_words w d c.args.words) (length (vec_items memory)) c.ring_words-size.ensures n;
      fits = c.ring_fits-fits.ensures ∙ ap fit_answer c.ring_words-size.ensures;
    }
