-- What a line pay and a month's figures cannot depend on.
use Rattle.std.proofs.Common.{◌≡◌, ℕ, zero, suc, ◌+◌, ◌-◌, ◌*◌, ◌<◌, ◌≤◌, Bool, false, cond, not, ◌||◌, ltb, leb, ◌⊎◌, List, [], ◌∷◌, ◌++◌, Some, None, Ok, sym, refl, ap, ◌∙◌, inl, inr, arith}
use mathlib.Core.Path.{fun_ext}
use Rattle.std.proofs.lemmas.Bool.{cond_both, cond-false, and_cases, leb-false, cases_lt}
use Rattle.std.proofs.lemmas.Bool.Decides.{nat_tests}
use Rattle.calendar.specs.Gregorian.{is_month, first_day, last_day}
use Rattle.ledger.specs.declared.fault.BookFault.TheVariants.{NoMonth}
use Rattle.ledger.specs.declared.terms.Terms.{Terms}
use Rattle.ledger.specs.declared.records.Order.{Order}
use Rattle.ledger.specs.declared.records.Booked.{Booked}
use Rattle.ledger.specs.declared.records.Outcome.{Outcome}
use Rattle.ledger.specs.declared.records.Declaration.{Declaration}
use Rattle.ledger.specs.Words.{Granted, ◌>>=◌, unless, counting, tally}
use Rattle.ledger.specs.Days.{in_kinds, declares, is_declared}
use Rattle.ledger.specs.Settling.{ordered_energy, remunerated, paid_energy}
use Rattle.ledger.specs.Book.{Book, numbered, recorded, settled, in_month, booked, declared, outcome_at, outcomes_in, window_of, available, offered, days_of, month_figures, month_of}
use Rattle.ledger.specs.Evident.{PayBounded, MonthApart}
use Rattle.ledger.proofs.Numbers.{cents_more}

paid_within : (full s : ℕ) → s ≤ full → paid_energy full s ≤ full
paid_within full s h = cond_both (ltb (5 * s) (3 * full)) 0 s (λ (n : ℕ). n ≤ full) (λ _. omega arith) (λ _. h)

pub pay_bounded : PayBounded
pay_bounded t o ps =
    let s : remunerated o ps ≤ ordered_energy o = omega arith in
    cents_more t.uf (paid_energy (ordered_energy o) (remunerated o ps)) (ordered_energy o) (paid_within (ordered_energy o) (remunerated o ps) s)

-- an order outside the month, booked last
outside_last : (first last k : ℕ) (bs : List Booked) (b : Booked) → in_month first last b.order.day ≡ false → outcomes_in first last k (bs ++ (b ∷ [])) ≡ outcomes_in first last k bs
outside_last first last k [] b e = cond-false (in_month first last b.order.day) (outcome_at k b.result >>= (λ x. Ok (x ∷ []))) (Ok []) e
outside_last first last k (a ∷ bs) b e =
    ap (λ (m : Granted (List Outcome)). cond (in_month first last a.order.day) (outcome_at k a.result >>= (λ x. m >>= (λ xs. Ok (x ∷ xs)))) m) (outside_last first last (suc k) bs b e)

order_apart : (b : Book) (o : Order) (y m : ℕ) → in_month (first_day y m) (last_day y m) o.day ≡ false → month_of (booked b o) y m ≡ month_of b y m
order_apart b o y m e =
    ap (λ (os : Granted (List Outcome)). unless (not (is_month y m)) NoMonth >>= (λ _. os >>= (λ xs. Ok (month_figures b.terms (available b.terms (days_of (first_day y m) (last_day y m))) (offered b.terms b.declarations (days_of (first_day y m) (last_day y m))) xs))))
    (outside_last (first_day y m) (last_day y m) 0 b.orders (record { order = o; result = None }) e)

-- an order outside the month, settled
outside_settled : (first last j k : ℕ) (bs : List Booked) (a : Booked) (x : Outcome) → numbered bs k ≡ Ok a → in_month first last a.order.day ≡ false → outcomes_in first last j (recorded k x bs) ≡ outcomes_in first last j bs
outside_settled first last j k [] a x n e = refl
outside_settled first last j zero (b ∷ bs) a x n e =
    let same : b ≡ a = cc in
    let f : in_month first last b.order.day ≡ false = ap (λ (c : Booked). in_month first last c.order.day) same ∙ e in
    let rest : Granted (List Outcome) = outcomes_in first last (suc j) bs in
    cond-false (in_month first last b.order.day) (outcome_at j (Some x) >>= (λ y. rest >>= (λ xs. Ok (y ∷ xs)))) rest f
    ∙ sym (cond-false (in_month first last b.order.day) (outcome_at j b.result >>= (λ y. rest >>= (λ xs. Ok (y ∷ xs)))) rest f)
outside_settled first last j (suc k) (b ∷ bs) a x n e =
    ap (λ (m : Granted (List Outcome)). cond (in_month first last b.order.day) (outcome_at j b.result >>= (λ y. m >>= (λ xs. Ok (y ∷ xs)))) m) (outside_settled first last (suc j) k bs a x n e)

settling_apart : (b : Book) (k : ℕ) (a : Booked) (x : Outcome) (y m : ℕ) → numbered b.orders k ≡ Ok a → in_month (first_day y m) (last_day y m) a.order.day ≡ false → month_of (settled b k x) y m ≡ month_of b y m
settling_apart b k a x y m n e =
    ap (λ (os : Granted (List Outcome)). unless (not (is_month y m)) NoMonth >>= (λ _. os >>= (λ xs. Ok (month_figures b.terms (available b.terms (days_of (first_day y m) (last_day y m))) (offered b.terms b.declarations (days_of (first_day y m) (last_day y m))) xs))))
    (outside_settled (first_day y m) (last_day y m) 0 k b.orders a x n e)

-- a declaration of another day
declared_last : (xs : List Declaration) (x : Declaration) (d q : ℕ) → (x.day ≡ d → ⊥) → is_declared (xs ++ (x ∷ [])) d q ≡ is_declared xs d q
declared_last [] x d q n = grind (arith, nat_tests)
declared_last (y ∷ xs) x d q n = ap (λ (b : Bool). declares y d q || b) (declared_last xs x d q n)

abbrev left : Terms → List Declaration → ℕ → ℕ
left t xs d = cond (in_kinds t d) (tally (λ q. cond (is_declared xs d q) 0 1) (window_of t)) 0

left_same : (t : Terms) (xs : List Declaration) (x : Declaration) (d : ℕ) → (x.day ≡ d → ⊥) → left t (xs ++ (x ∷ [])) d ≡ left t xs d
left_same t xs x d n =
    ap (λ (f : ℕ → Bool). cond (in_kinds t d) (tally (λ q. cond (f q) 0 1) (window_of t)) 0) (fun_ext (λ q. declared_last xs x d q n))

offered_same : (t : Terms) (xs : List Declaration) (x : Declaration) (first n : ℕ) → (x.day < first) → tally (left t (xs ++ (x ∷ []))) (counting first n) ≡ tally (left t xs) (counting first n)
offered_same t xs x first zero h = refl
offered_same t xs x first (suc n) h =
    ap (λ (k : ℕ). k + tally (left t (xs ++ (x ∷ []))) (counting (suc first) n)) (left_same t xs x first (λ e. omega (arith, e)))
    ∙ ap (λ (k : ℕ). left t xs first + k) (offered_same t xs x (suc first) n (omega arith))

offered_early : (t : Terms) (xs : List Declaration) (x : Declaration) (first n : ℕ) → first + n ≤ x.day → tally (left t (xs ++ (x ∷ []))) (counting first n) ≡ tally (left t xs) (counting first n)
offered_early t xs x first zero h = refl
offered_early t xs x first (suc n) h =
    ap (λ (k : ℕ). k + tally (left t (xs ++ (x ∷ []))) (counting (suc first) n)) (left_same t xs x first (λ e. omega (arith, e)))
    ∙ ap (λ (k : ℕ). left t xs first + k) (offered_early t xs x (suc first) n (omega arith))

either_side : (first last d : ℕ) → in_month first last d ≡ false → (d < first) ⊎ (last < d)
either_side first last d e = go (and_cases (leb first d) (leb d last) e)
  where
    go : (leb first d ≡ false) ⊎ (leb d last ≡ false) → (d < first) ⊎ (last < d)
    go (inl f) = inl (leb-false first d f)
    go (inr f) = inr (leb-false d last f)

offered_apart : (t : Terms) (xs : List Declaration) (x : Declaration) (first last : ℕ) → (x.day < first) ⊎ (last < x.day) → offered t (xs ++ (x ∷ [])) (days_of first last) ≡ offered t xs (days_of first last)
offered_apart t xs x first last (inl h) = offered_same t xs x first (last + 1 - first) h
offered_apart t xs x first last (inr h) = go (cases_lt last first)
  where
    go : (last < first) ⊎ (first ≤ last) → offered t (xs ++ (x ∷ [])) (days_of first last) ≡ offered t xs (days_of first last)
    go (inl k) = let e : last + 1 - first ≡ 0 = omega arith in ap (λ (n : ℕ). tally (left t (xs ++ (x ∷ []))) (counting first n)) e ∙ sym (ap (λ (n : ℕ). tally (left t xs) (counting first n)) e)
    go (inr k) = offered_early t xs x first (last + 1 - first) (omega arith)

declaration_apart : (b : Book) (d q0 q1 y m : ℕ) → in_month (first_day y m) (last_day y m) d ≡ false → month_of (declared b d q0 q1) y m ≡ month_of b y m
declaration_apart b d q0 q1 y m e =
    ap (λ (di : ℕ). unless (not (is_month y m)) NoMonth >>= (λ _. outcomes_in (first_day y m) (last_day y m) 0 b.orders >>= (λ xs. Ok (month_figures b.terms (available b.terms (days_of (first_day y m) (last_day y m))) di xs))))
    (offered_apart b.terms b.declarations (record { day = d; q0 = q0; q1 = q1 }) (first_day y m) (last_day y m) (either_side (first_day y m) (last_day y m) d e))

pub month_apart : MonthApart
month_apart = record { store = λ b s y m. refl; settling = settling_apart; order = order_apart; declaration = declaration_apart }
