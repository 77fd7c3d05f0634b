-- The worked figures, by computing.
use Rattle.std.proofs.Common.{refl, arith}
use Rattle.std.proofs.lemmas.Bool.Decides.{nat_tests}
use Rattle.metering.specs.Curves.{curve_of}
use Rattle.rulebooks.specs.Rounding.{rounded}
use Rattle.rulebooks.specs.Rules.{answered}
use Rattle.rulebooks.specs.SuppliedLaws.{figures}
use Rattle.ledger.specs.Figures.{BookFigures}

pub book_figures : BookFigures
unfolding answered rounded curve_of
book_figures = record {
  baselines = figures;
  most = refl;
  enough = refl;
  too_little = refl;
  rested = refl;
  too_soon = refl;
  always_rested = λ a o e f g. grind (arith, nat_tests);
  never_rested = λ a o e f g. grind (arith, nat_tests);
  short_history = refl;
}
