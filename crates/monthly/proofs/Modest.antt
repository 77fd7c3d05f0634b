-- What the test of a book's orders tells.
use Rattle.std.proofs.Common.{◌≡◌, ℕ, zero, suc, ◌<◌, ◌≤◌, Bool, true, ◌&&◌, List, [], ◌∷◌, length, get_or, Some, None, Option, refl, ap, arith}
use Rattle.std.specs.List.{list_all}
use Rattle.std.proofs.lemmas.Bool.{and_parts}
use Rattle.std.proofs.lemmas.Bool.Decides.{nat_tests}
use Rattle.ledger.specs.declared.records.Outcome.{Outcome}
use Rattle.ledger.specs.declared.records.Booked.{Booked}
use Rattle.ledger.specs.Standing.{is_modest, are_modest}
use Rattle.monthly.specs.Monthly.{WithinIf, no_order, Kept}

modest : (r : Option Outcome) → is_modest r ≡ true → WithinIf r
modest None e = tt
modest (Some x) e = grind (arith, nat_tests)

modest_at : (bs : List Booked) (k : ℕ) (d : Booked) → are_modest bs ≡ true → k < length bs → is_modest (get_or bs k d).result ≡ true
modest_at [] k d e h = absurd (omega (arith, h))
modest_at (a ∷ bs) zero d e h = (and_parts (is_modest a.result) (are_modest bs) e).0
modest_at (a ∷ bs) (suc k) d e h = modest_at bs k d (and_parts (is_modest a.result) (are_modest bs) e).1 (omega arith)

pub all_kept : (bs : List Booked) → are_modest bs ≡ true → length bs ≤ 128 → Kept bs
all_kept bs e h = record { few = h; energies = λ k l. modest (get_or bs k no_order).result (modest_at bs k no_order e l) }

pub all_modest : (bs : List Booked) → list_all (λ b. is_modest b.result) bs ≡ are_modest bs
all_modest [] = refl
all_modest (b ∷ bs) = ap (λ (t : Bool). is_modest b.result && t) (all_modest bs)
