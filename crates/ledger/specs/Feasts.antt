-- The days that are feasts.
use Rattle.std.specs.Prelude.{ℕ, Bool, false, ◌||◌, List, [], ◌∷◌, take, ◌==◌}
use Rattle.ledger.specs.declared.feasts.Feasts.{Feasts}

abbrev pub is_among : List ℕ → ℕ → Bool
is_among [] d = false
is_among (x ∷ xs) d = x == d || is_among xs d

abbrev pub days_of : Feasts → List ℕ
days_of f = take f.count f.days
