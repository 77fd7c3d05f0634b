-- The figures and the line of June 2026, by computing.
use Rattle.std.proofs.Common.{refl}
use Rattle.std.specs.Fmt.{digits}
use Rattle.calendar.specs.Gregorian.{years_days, months_days, first_day, last_day}
use Rattle.rulebooks.specs.Rounding.{rounded}
use Rattle.ledger.specs.LineText.{line_text}
use Rattle.ledger.specs.June.{JuneFigures}

pub june_figures_lem : JuneFigures
unfolding years_days months_days first_day last_day rounded line_text digits
june_figures_lem = record { month = refl; line = refl }
