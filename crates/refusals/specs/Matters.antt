-- Whose matter a refusal is: 1 to 5 our office's, 6 the installer's, 7 to 13 the meter operator's,
-- 14 to 19 the grid operator's, the others the settler's.
use Rattle.std.specs.Prelude.{ℕ, cond, nat_le}
use Rattle.refusals.specs.declared.Matter.{Matter}
use Rattle.refusals.specs.declared.Matter.TheVariants.{Office, Installer, MeterOperator, GridOperator, Settler}

abbrev pub matter_of : ℕ → Matter
matter_of n =
    cond (nat_le n 5) Office
    (cond (nat_le n 6) Installer
    (cond (nat_le n 13) MeterOperator
    (cond (nat_le n 19) GridOperator Settler)))
