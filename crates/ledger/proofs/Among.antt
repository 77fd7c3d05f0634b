-- Searching a list for a day.
use Rattle.std.proofs.Common.{◌≡◌, ℕ, ◌==◌, ◌||◌, List, [], ◌∷◌, refl, ap}
use Rattle.std.specs.List.{list_any}
use Rattle.ledger.specs.declared.records.Booked.{Booked}
use Rattle.ledger.specs.Feasts.{is_among}
use Rattle.ledger.specs.Book.{orders_in, busy_on}

pub among_any : (xs : List ℕ) (d : ℕ) → list_any (λ x. x == d) xs ≡ is_among xs d
among_any [] d = refl
among_any (x ∷ xs) d = ap (λ b. (x == d) || b) (among_any xs d)

pub busy_any : (bs : List Booked) (d : ℕ) → list_any (λ (b : Booked). b.order.day == d) bs ≡ busy_on (orders_in bs) d
busy_any [] d = refl
busy_any (b ∷ bs) d = ap (λ t. (b.order.day == d) || t) (busy_any bs d)
