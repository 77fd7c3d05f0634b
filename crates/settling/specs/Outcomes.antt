-- What an order settles at, from the sum of the contributions and whether one of them is estimated.
use Rattle.std.specs.Prelude.{ℕ, min, Bool, cond, ℤ}
use Rattle.ledger.specs.declared.terms.Terms.{Terms}
use Rattle.ledger.specs.declared.records.Order.{Order}
use Rattle.ledger.specs.declared.records.Outcome.{Outcome}
use Rattle.ledger.specs.Settling.{positive, ordered_energy, paid_energy, cents}

abbrev pub delivered_by : ℤ → Bool → ℕ → ℕ
delivered_by sum estimated full = cond estimated (min (positive sum) full) (positive sum)

abbrev pub remunerated_by : Order → ℤ → Bool → ℕ
remunerated_by o sum estimated = min (delivered_by sum estimated (ordered_energy o)) (ordered_energy o)

abbrev pub outcome_by : Terms → Order → ℤ → Bool → Outcome
outcome_by t o sum estimated = record {
  sum = sum;
  pta = delivered_by sum estimated (ordered_energy o);
  eda = ordered_energy o;
  seta = remunerated_by o sum estimated;
  paid = paid_energy (ordered_energy o) (remunerated_by o sum estimated);
  pay = cents (paid_energy (ordered_energy o) (remunerated_by o sum estimated)) t.uf;
}
