use Rattle.std.proofs.Common.{◌<◌, IfSome, Option, ℕ, sym, subst}
use Rattle.lifefile.proofs.Numbers.{two_digits_small}
use Rattle.lifefile.proofs.words.two_digits.Goals as goal

pub returns-then-word-eq2-clause-small : goal.returns-then-word-eq2-clause-small
returns-then-word-eq2-clause-small c =
    let small : Option ℕ → Type 0 = λ r. IfSome r (λ n. n < 100) in
    subst small (sym c.number_in.ensures) (two_digits_small c.args.word.now c.if-word-eq2.true)
