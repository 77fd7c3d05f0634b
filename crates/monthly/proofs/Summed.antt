-- The sums of a month, order by order.
use Rattle.std.proofs.Common.{◌≡◌, ℕ, suc, ◌+◌, ◌<◌, ◌≤◌, true, false, List, ◌∷◌, length, get_or, drop, Some, None, Ok, Err, Option, refl, add_assoc, add-one, arith}
use Rattle.std.specs.Option.{ok_or}
use Rattle.std.proofs.lemmas.List.{drop_more}
use Rattle.ledger.specs.declared.records.Booked.{Booked}
use Rattle.ledger.specs.declared.records.Outcome.{Outcome}
use Rattle.monthly.specs.declared.month.Sums.{Sums}
use Rattle.ledger.specs.Words.{Granted, ◌>>=◌}
use Rattle.ledger.specs.Book.{in_month, outcomes_in}
use Rattle.monthly.specs.Monthly.{plus, of_one, sums_with, Within}

pub some_from_ok : {X E : Type 0} (o : Option X) (e : E) (x : X) → ok_or o e ≡ Ok x → o ≡ Some x
some_from_ok None e x h = cc
some_from_ok (Some y) e x h = cc

module _ (first last : ℕ) (os : List Booked) (i : ℕ) (b : Booked) (h : i < length os) where
  pub outside : in_month first last (get_or os i b).order.day ≡ false → outcomes_in first last i (drop i os) ≡ outcomes_in first last (i + 1) (drop (i + 1) os)
  outside e = rw (drop_more os i b h, add-one i) (grind arith)

  -- an order of these days, and the rest
  pub settled_one : (a : Sums) (x : Outcome) → in_month first last (get_or os i b).order.day ≡ true → (get_or os i b).result ≡ Some x
      → sums_with a (outcomes_in first last i (drop i os)) ≡ sums_with (plus a (of_one x)) (outcomes_in first last (i + 1) (drop (i + 1) os))
  settled_one a x e g = rw (drop_more os i b h, add-one i, e, g) (rest (outcomes_in first last (suc i) (drop (suc i) os)))
    where
      rest : (r : Granted (List Outcome)) → sums_with a (r >>= (λ xs. Ok (x ∷ xs))) ≡ sums_with (plus a (of_one x)) r
      rest (Err e) = refl
      rest (Ok xs) = simp add_assoc

pub within_more : (n : ℕ) (a b : Sums) → Within n a → Within 1 b → Within (n + 1) (plus a b)
within_more n a b p q = grind arith

pub within_most : (m n : ℕ) (a : Sums) → m ≤ n → Within m a → Within n a
within_most m n a h p = grind arith
