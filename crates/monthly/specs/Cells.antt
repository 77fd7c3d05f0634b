-- The line as cells, the way it is written.
use Rattle.std.specs.Prelude.{ℕ, ◌-◌, ◌*◌, List, [], ◌∷◌, ◌++◌}
use Rattle.std.specs.List.{flat_map}
use Rattle.monthly.specs.declared.cell.Cell.{Cell}
use Rattle.monthly.specs.declared.cell.Places.{Places}
use Rattle.monthly.specs.declared.cell.Places.TheVariants.{Zero, Two, Three, Four}
use Rattle.ledger.specs.declared.terms.Terms.{Terms}
use Rattle.ledger.specs.declared.records.Month.{Month}
use Rattle.ledger.specs.Book.{percent}
use Rattle.ledger.specs.LineText.{decimals}

abbrev pub places_of : Places → ℕ
places_of Zero = 0
places_of Two = 2
places_of Three = 3
places_of Four = 4

-- a figure, and the byte that ends it
unfoldable pub cell : Cell → List ℕ
cell c = decimals (places_of c.places) c.value ++ (c.end ∷ [])

unfoldable pub cells : List Cell → List ℕ
cells cs = flat_map cell cs

abbrev pub inner : ℕ → Places → Cell
inner n k = record { value = n; places = k; end = 59 }

abbrev pub figures_of : Terms → Month → List Cell
figures_of t m =
    inner (25 * m.av) Two ∷ inner (25 * (m.av - m.di)) Two ∷ inner (25 * m.di) Two ∷ inner (percent m.di m.av) Two
    ∷ inner t.qc Zero ∷ inner m.edm Three ∷ inner m.ptm Three ∷ inner m.setm Three ∷ inner m.dpm Two
    ∷ inner t.uf Four ∷ inner t.af Four ∷ inner m.apm Two ∷ inner m.upm Two
    ∷ (record { value = m.pay; places = Two; end = 10 }) ∷ []
