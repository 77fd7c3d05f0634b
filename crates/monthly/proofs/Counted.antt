-- Sums over a row of numbers, and a declaration looked for.
use Rattle.std.proofs.Common.{◌≡◌, ℕ, zero, suc, ◌+◌, ◌-◌, ◌≤◌, Bool, true, false, cond, not, ◌||◌, List, [], ◌∷◌, length, refl, ap, ◌∙◌, add-zero, add-one, arith}
use Rattle.std.specs.List.{list_any, filter, range_with_len}
use Rattle.ledger.specs.declared.records.Declaration.{Declaration}
use Rattle.ledger.specs.Words.{counting, tally}
use Rattle.ledger.specs.Days.{declares, is_declared}

tally_suc : (f : ℕ → ℕ) (a n : ℕ) → tally f (counting a (suc n)) ≡ tally f (counting a n) + f (a + n)
tally_suc f a zero = let g = ap f (add-zero a) in omega (arith, g)
tally_suc f a (suc n) =
    let i = tally_suc f (suc a) n in
    let e : suc a + n ≡ a + suc n = omega arith in
    let g = ap f e in
    omega (arith, i, g)

-- a sum from a on to i, and one more
pub tally_more : (f : ℕ → ℕ) (a i : ℕ) → a ≤ i → tally f (counting a (i + 1 - a)) ≡ tally f (counting a (i - a)) + f i
tally_more f a i h =
    let e : i + 1 - a ≡ suc (i - a) = omega arith in
    let g : a + (i - a) ≡ i = omega arith in
    ap (λ n. tally f (counting a n)) e ∙ tally_suc f a (i - a) ∙ ap (λ z. tally f (counting a (i - a)) + f z) g

pub any_declared : (xs : List Declaration) (d q : ℕ) → list_any (λ x. declares x d q) xs ≡ is_declared xs d q
any_declared [] d q = refl
any_declared (x ∷ xs) d q = ap (λ (t : Bool). declares x d q || t) (any_declared xs d q)

pub tally_step : (f : ℕ → ℕ) (a i before after v : ℕ) → a ≤ i → before ≡ tally f (counting a (i - a)) → f i ≡ v → after ≡ before + v → after ≡ tally f (counting a (i + 1 - a))
tally_step f a i before after v h e g k = let m = tally_more f a i h in omega (arith, e, g, k, m)

-- those of a row that do not pass, counted
pub length_left : (p : ℕ → Bool) (a n : ℕ) → length (filter (λ q. not (p q)) (range_with_len a n)) ≡ tally (λ q. cond (p q) 0 1) (counting a n)
length_left p a zero = refl
length_left p a (suc n) = one (p a) (ap (λ z. length (filter (λ q. not (p q)) (range_with_len z n))) (add-one a) ∙ length_left p (suc a) n)
  where
    rest : List ℕ
    rest = filter (λ q. not (p q)) (range_with_len (a + 1) n)

    one : (b : Bool) {k : ℕ} → length rest ≡ k → length (cond (not b) (a ∷ rest) rest) ≡ cond b 0 1 + k
    one true e = omega (arith, e)
    one false e = omega (arith, e)
