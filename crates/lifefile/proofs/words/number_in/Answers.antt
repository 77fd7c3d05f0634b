use Rattle.std.proofs.Common.{◌≡◌, eqb, get_or, lit<, sym, ◌∙◌}
use Rattle.lifefile.proofs.Numbers.{number_read, other_first}
use Rattle.lifefile.proofs.words.number_in.Goals as goal

pub returns : goal.returns
returns c =
    let first : c.starts_with.result ≡ eqb (get_or c.args.word.now 0 0) 43 = c.starts_with.ensures.byte (lit< tt) (lit< tt) (λ w o p. p) in
    c.ok.ensures.value ∙ number_read c.args.word.now c.parse.result c.parse.ensures.value.0 (other_first 43 c.args.word.now (sym first ∙ c.if-starts_with.false))
