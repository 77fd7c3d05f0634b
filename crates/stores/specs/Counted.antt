-- How many curves are held from a day on: just the rows from that day on, since no two rows are of one resource and day.
use Rattle.std.specs.Prelude.{◌≡◌, ℕ, zero, suc, ◌+◌, ◌<◌, Bool, true, false, cond, not, List, [], ◌∷◌, length, Some, None, filter, Option, ◌==◌, ◌≢◌, nat_le, refl}
use Rattle.std.proofs.Common.{sym, ap, subst, ◌∙◌, inl, inr, arith}
use Rattle.std.proofs.lemmas.Bool.{and_parts, cases_Bool, cases_eq, eq-eqb, ne_eqb, eqb-true, not-true, cond-true, cond-false, and_left, and_right, and_from}
use Rattle.metering.specs.declared.curve.Curve.{Curve}
use Rattle.metering.specs.Curves.{curve_of}
use Rattle.std.specs.List.{list_all}
use Rattle.stores.specs.Model.{StoreModel, sum_below, one, held_from}
use Rattle.stores.specs.Rows.{Row, is_of, held_in, since, apart, fine}
use Rattle.stores.specs.Counts.{sum_none, sum_suc as sum_more, sum_same, sum_zero}
use Rattle.stores.specs.Reread.{fine_parts}

pub sum_add : (f g : ℕ → ℕ) (n : ℕ) → sum_below (λ k. f k + g k) n ≡ sum_below f n + sum_below g n
sum_add f g zero = let a = sum_none f in let b = sum_none g in let c = sum_none (λ k. f k + g k) in omega arith
sum_add f g (suc n) =
    let e = sum_add f g n in
    let a = sum_more f n in
    let b = sum_more g n in
    let c = sum_more (λ k. f k + g k) n in
    omega arith

-- one place alone
pub sum_point : (f : ℕ → ℕ) (a n : ℕ) → a < n → ((k : ℕ) → k < n → (k ≢ a) → f k ≡ 0) → sum_below f n ≡ f a
sum_point f a zero lt h = absurd (omega arith)
sum_point f a (suc n) lt h =
    let m = sum_more f n in
    elim (cases_eq a n) [
      | inl e ↦ (let z = sum_zero f n (λ k l. h k (omega arith) (λ q. omega arith)) in let v : f n ≡ f a = ap f (sym e) in omega arith)
      | inr e ↦ (let z = sum_point f a n (omega arith) (λ k l q. h k (omega arith) q) in let v = h n (omega arith) (λ q. e (sym q)) in omega arith)
    ]

-- what one row adds
here : (d : ℕ) (e : Row) → ℕ → ℕ → ℕ
here d e r k = cond (is_of r k e) (cond (since d e) 1 0) 0

there : (d : ℕ) (es : List Row) → ℕ → ℕ → ℕ
there d es r k = cond (nat_le d k) (one (held_in es r k)) 0

none_held : (r d : ℕ) (es : List Row) → list_all (λ x. not (is_of r d x)) es ≡ true → held_in es r d ≡ None
none_held r d [] h = refl
none_held r d (e ∷ es) h =
    let p = and_parts (not (is_of r d e)) _ h in
    cond-false (is_of r d e) _ _ (not-true (is_of r d e) p.0) ∙ none_held r d es p.1

is_of_lem : (r k : ℕ) (e : Row) → is_of r k e ≡ true → (e.resource ≡ r) × (e.day ≡ k)
is_of_lem r k e h = let p = and_parts (e.resource == r) (e.day == k) h in (eqb-true _ _ p.0, eqb-true _ _ p.1)

both : (b : Bool) → ◌≡◌ {A = ℕ} (cond b 0 0) 0
both true = refl
both false = refl

row_more : (d : ℕ) (e : Row) (es : List Row) (r k : ℕ) → held_in es e.resource e.day ≡ None → there d (e ∷ es) r k ≡ here d e r k + there d es r k
unfolding here there
row_more d e es r k h =
    elim (cases_Bool (is_of r k e)) [
      | inl t ↦ (let q = is_of_lem r k e t in
          let n : held_in es r k ≡ None = subst (λ x. held_in es x k ≡ None) q.0 (subst (λ x. held_in es e.resource x ≡ None) q.1 h) in
          let a : cond (nat_le d k) (one (held_in es r k)) 0 ≡ 0 = ap (λ o. cond (nat_le d k) (one o) 0) n ∙ both (nat_le d k) in
          let b : cond (is_of r k e) (Some (curve_of e.readings)) (held_in es r k) ≡ Some (curve_of e.readings) = cond-true (is_of r k e) _ _ t in
          let c : cond (nat_le d k) (one (held_in (e ∷ es) r k)) 0 ≡ cond (nat_le d k) 1 0 = ap (λ o. cond (nat_le d k) (one o) 0) b in
          let f : ◌≡◌ {A = ℕ} (cond (is_of r k e) (cond (since d e) 1 0) 0) (cond (since d e) 1 0) = cond-true (is_of r k e) _ _ t in
          let g : ◌≡◌ {A = ℕ} (cond (since d e) 1 0) (cond (nat_le d k) 1 0) = ap (λ x. cond (nat_le d x) 1 0) q.1 in
          omega (arith, a, c, f, g))
      | inr t ↦ (let b : held_in (e ∷ es) r k ≡ held_in es r k = cond-false (is_of r k e) _ _ t in
          let c : cond (nat_le d k) (one (held_in (e ∷ es) r k)) 0 ≡ cond (nat_le d k) (one (held_in es r k)) 0 = ap (λ o. cond (nat_le d k) (one o) 0) b in
          let f : ◌≡◌ {A = ℕ} (cond (is_of r k e) (cond (since d e) 1 0) 0) 0 = cond-false (is_of r k e) _ _ t in
          omega (arith, c, f))
    ]

-- the sum over a grid of w resources and n days
one_row : (d : ℕ) (e : Row) (w n : ℕ) → e.resource < w → e.day < n → sum_below (λ r. sum_below (λ k. here d e r k) n) w ≡ cond (since d e) 1 0
unfolding here
one_row d e w n a b =
    let v = cond (since d e) 1 0 in
    sum_point (λ r. sum_below (λ k. cond (is_of r k e) v 0) n) e.resource w a
    (λ r l q. sum_zero (λ k. cond (is_of r k e) v 0) n (λ k m. cond-false (is_of r k e) v 0 (and_left _ _ (ne_eqb _ _ (λ p. q (sym p))))))
    ∙ sum_point (λ k. cond (is_of e.resource k e) v 0) e.day n b
    (λ k l q. cond-false (is_of e.resource k e) v 0 (and_right _ _ (ne_eqb _ _ (λ p. q (sym p)))))
    ∙ cond-true (is_of e.resource e.day e) v 0 (and_from _ _ (eq-eqb e.resource e.resource refl) (eq-eqb e.day e.day refl))

grid : (d w f n : ℕ) (rs : List Row) → 36524 < n → apart rs ≡ true → list_all (fine w f) rs ≡ true → sum_below (λ r. sum_below (λ k. there d rs r k) n) w ≡ length (filter (since d) rs)
unfolding there
grid d w f n [] hn a g = sum_zero _ w (λ r l. sum_zero _ n (λ k m. both (nat_le d k)))
grid d w f n (e ∷ es) hn a g =
    let p = and_parts (list_all (λ x. not (is_of e.resource e.day x)) es) (apart es) a in
    let q = and_parts (fine w f e) (list_all (fine w f) es) g in
    let F = fine_parts w f e q.0 in
    let t = F.to in
    let no = none_held e.resource e.day es p.0 in
    let inner : (r : ℕ) → sum_below (λ k. there d (e ∷ es) r k) n ≡ sum_below (λ k. here d e r k) n + sum_below (λ k. there d es r k) n =
    λ r. sum_same (λ k. there d (e ∷ es) r k) (λ k. here d e r k + there d es r k) n (λ k l. row_more d e es r k no) ∙ sum_add (λ k. here d e r k) (λ k. there d es r k) n in
    let outer = sum_same (λ r. sum_below (λ k. there d (e ∷ es) r k) n) (λ r. sum_below (λ k. here d e r k) n + sum_below (λ k. there d es r k) n) w (λ r l. inner r)
    ∙ sum_add (λ r. sum_below (λ k. here d e r k) n) (λ r. sum_below (λ k. there d es r k) n) w in
    let x = one_row d e w n F.below (omega arith) in
    let y = grid d w f n es hn p.1 q.1 in
    outer ∙ ap (λ m. m + sum_below (λ r. sum_below (λ k. there d es r k) n) w) x ∙ ap (λ m. cond (since d e) 1 0 + m) y ∙ last (since d e)
  where
    last : (b : Bool) → cond b 1 0 + length (filter (since d) es) ≡ length (cond b (e ∷ filter (since d) es) (filter (since d) es))
    last true = omega arith
    last false = omega arith

pub counted : (m : StoreModel) (rs : List Row) (f d : ℕ) → m.look ≡ held_in rs → apart rs ≡ true → list_all (fine m.width f) rs ≡ true → held_from m d ≡ length (filter (since d) rs)
unfolding held_from there
counted m rs f d e a g =
    ap (λ (look : ℕ → ℕ → Option Curve). sum_below (λ r. sum_below (λ k. cond (nat_le d k) (one (look r k)) 0) 36525) m.width) e
    ∙ grid d m.width f 36525 rs (omega arith) a g
