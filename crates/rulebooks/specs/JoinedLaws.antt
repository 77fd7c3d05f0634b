-- What holds of two rulebooks joined.
use Rattle.std.proofs.Common.{arith}
use Rattle.rulebooks.specs.Rules.{Rules, answered, Lawful}
use Rattle.rulebooks.specs.Banks.{joined, BankLaws}

pub bank_laws : BankLaws
unfolding answered
bank_laws A B = (
  record { either = λ k h. grind arith; first_known = λ k h. grind arith; second_known = λ k h. grind arith },
  record {
    first_days = λ k h. grind arith;
    second_days = λ k h. grind arith;
    first_answer = λ k d s l c h. grind arith;
    second_answer = λ k d s l c h. grind arith;
  },
)

pub joined_lawful : (A B : Rules) → Lawful A → Lawful B → Lawful (joined A B)
joined_lawful A B p q = record {
  few_days = λ k n e. grind (arith, p.few_days k n, q.few_days k n);
  from_one = grind (arith, p.from_one, q.from_one);
  within = λ k d s l c z r h e. grind (arith, p.within k d s l c z r, q.within k d s l c z r);
}
