-- Rows that are apart: a row that answers to a resource and a day is the only one, from whichever end it is found.
use Rattle.std.proofs.Common.{◌≡◌, ℕ, zero, suc, ◌+◌, ◌<◌, Bool, true, false, not, ◌==◌, List, [], ◌∷◌, length, get_or, Some, None, Option, MatchOption, ap, subst, inl, inr, arith}
use Rattle.std.proofs.lemmas.Bool.{and_parts, cases_Bool, eqb-true, not-true}
use Rattle.metering.specs.Curves.{curve_of}
use Rattle.std.specs.List.{list_all}
use Rattle.stores.specs.Words.{upto}
use Rattle.stores.specs.Rows.{Row, is_of, held_in, apart}
use Rattle.stores.specs.Upto.{upto_none, length_upto, get_or_upto, held_more, held_here}
use Rattle.stores.specs.Looked.{all_by_get_or}

held_none : (r d : ℕ) (f : ℕ → Row) (n : ℕ) → ((k : ℕ) → k < n → is_of r d (f k) ≡ false) → held_in (upto f n) r d ≡ None
held_none r d f zero h = ap (λ xs. held_in xs r d) (upto_none f)
held_none r d f (suc n) h =
    let e : n + 1 ≡ suc n = omega arith in
    subst (λ (k : ℕ). held_in (upto f k) r d ≡ None) e (held_more r d f n (held_none r d f n (λ k l. h k (omega arith))) (h n (omega arith)))

-- two places of rows that are apart
apart_at : (xs : List Row) (z : Row) (k i : ℕ) → apart xs ≡ true → k < i → i < length xs → is_of (get_or xs k z).resource (get_or xs k z).day (get_or xs i z) ≡ false
apart_at [] z k i a h l = absurd (omega arith)
apart_at (x ∷ xs) z k zero a h l = absurd (omega arith)
apart_at (x ∷ xs) z zero (suc i) a h l =
    let p : Row → Bool = λ y. not (is_of x.resource x.day y) in
    not-true _ (all_by_get_or p xs i z (omega arith) (and_parts (list_all p xs) (apart xs) a).0)
apart_at (x ∷ xs) z (suc k) (suc i) a h l =
    let p : Row → Bool = λ y. not (is_of x.resource x.day y) in
    apart_at xs z k i (and_parts (list_all p xs) (apart xs) a).1 (omega arith) (omega arith)

apart_by : (f : ℕ → Row) (n k i : ℕ) → apart (upto f n) ≡ true → k < i → i < n → is_of (f k).resource (f k).day (f i) ≡ false
apart_by f n k i a h l =
    let len = length_upto f n in
    let z = f i in
    let there = apart_at (upto f n) z k i a h (omega arith) in
    let K : Row → Type 0 = λ x. is_of x.resource x.day (f i) ≡ false in
    let I : Row → Type 0 = λ y. is_of (get_or (upto f n) k z).resource (get_or (upto f n) k z).day y ≡ false in
    subst K (get_or_upto f n k z (omega arith)) (subst I (get_or_upto f n i z l) there)

-- a row before the one that answers does not answer
alone : (r d : ℕ) (f : ℕ → Row) (n k i : ℕ) → apart (upto f n) ≡ true → k < i → i < n → is_of r d (f i) ≡ true → is_of r d (f k) ≡ false
alone r d f n k i a h l t =
    elim (cases_Bool (is_of r d (f k))) [
      | inl y ↦ (let p = and_parts ((f k).resource == r) ((f k).day == d) y in
          let er = eqb-true (f k).resource r p.0 in
          let ed = eqb-true (f k).day d p.1 in
          let no : is_of r d (f i) ≡ false = subst (λ (u : ℕ). is_of r u (f i) ≡ false) ed (subst (λ (u : ℕ). is_of u (f k).day (f i) ≡ false) er (apart_by f n k i a h l)) in
          cc)
      | inr y ↦ y
    ]

held_alone : (r d : ℕ) (f : ℕ → Row) (i n : ℕ) → apart (upto f n) ≡ true → is_of r d (f i) ≡ true → i < n → held_in (upto f n) r d ≡ Some (curve_of (f i).readings)
held_alone r d f i n a t l = held_here r d f i n (held_none r d f i (λ k h. alone r d f n k i a h l t)) t l

-- what is found is held, and what is not found is not
pub held_found : (r d n : ℕ) (f : ℕ → Row) (o : Option ℕ) → apart (upto f n) ≡ true
    → MatchOption o ((k : ℕ) → k < n → is_of r d (f k) ≡ false) (λ i. (i < n) × (is_of r d (f i) ≡ true))
    → MatchOption o (held_in (upto f n) r d ≡ None) (λ i. (i < n) × (held_in (upto f n) r d ≡ Some (curve_of (f i).readings)))
held_found r d n f None a h = held_none r d f n h
held_found r d n f (Some i) a h = (h.0, held_alone r d f i n a h.1 h.0)
