-- One quarter more: of a total, and of a peak.
use Rattle.std.proofs.Common.{◌≡◌, ℕ, ◌+◌, ◌<◌, Bool, true, false, List, length, drop, ℤ, pos, negsuc, ◌+ℤ◌, neg_ℤ, ◌≤ℤ◌, Some, None, Option, sym, refl, ap, ◌∙◌, subst, ⊎_elim, arith}
use Rattle.std.proofs.lemmas.Int.{ints}
use Rattle.std.proofs.lemmas.List.{at_drop_more}
use Rattle.std.proofs.lemmas.Bool.{cases_eq, cond_both, leb-true, ltb-true}
use Rattle.metering.specs.declared.reading.Reading.{Reading}
use Rattle.metering.specs.declared.reading.Reading.TheVariants.{Measured, Estimated}
use Rattle.metering.specs.declared.summary.Peak.{Peak}
use Rattle.metering.specs.Readings.{within, reading_in}
use Rattle.metering.specs.Summary.{measured_part, total_of, further_by, peaked_by, peaked, Furthest}

pub part_to : (r : Reading) → within r ≡ true → measured_part r ≤ℤ pos 1000000
part_to (Measured (pos n)) h = let l = leb-true n 1000000 h in omega (arith, ints)
part_to (Measured (negsuc n)) h = omega (arith, ints)
part_to Estimated h = omega (arith, ints)

pub part_from : (r : Reading) → within r ≡ true → neg_ℤ (pos 1000000) ≤ℤ measured_part r
part_from (Measured (pos n)) h = omega (arith, ints)
part_from (Measured (negsuc n)) h = let l = ltb-true n 1000000 h in omega (arith, ints)
part_from Estimated h = omega (arith, ints)

pub total_more : (rs : List Reading) (q : ℕ) (t : ℤ) → q < length rs → t +ℤ total_of (drop q rs) ≡ total_of rs
    → (t +ℤ measured_part (reading_in rs q)) +ℤ total_of (drop (q + 1) rs) ≡ total_of rs
total_more rs q t h e =
    let d = at_drop_more total_of rs q (Measured (pos 0)) h in
    omega (arith, ints)

not_further_itself : (u : Bool) (z : ℤ) → further_by u z z ≡ false
not_further_itself true z = grind (arith, ints)
not_further_itself false z = grind (arith, ints)

past : (u : Bool) (w p z : ℤ) → further_by u w p ≡ false → further_by u z p ≡ true → further_by u w z ≡ false
past true w p z a b = grind (arith, ints)
past false w p z a b = grind (arith, ints)

before : (u : Bool) (w p z : ℤ) → further_by u w p ≡ false → further_by u z p ≡ true → further_by u z w ≡ true
before true w p z a b = grind (arith, ints)
before false w p z a b = grind (arith, ints)

-- of the quarters below n + 1, those below n and n itself
split : {P : Type 0} (k n : ℕ) → k < n + 1 → (k < n → P) → (k ≡ n → P) → P
split k n h f g = ⊎_elim g (λ e. f (omega arith)) (cases_eq k n)

module _ (u : Bool) (rs : List Reading) (n : ℕ) where
  at_n : (k : ℕ) (r x : Reading) → reading_in rs n ≡ r → k ≡ n → reading_in rs k ≡ x → r ≡ x
  at_n k r x e i f = sym e ∙ ap (reading_in rs) (sym i) ∙ f

  no_reading : {P : Type 0} (z : ℤ) (x : Reading) → x ≡ Estimated → x ≡ Measured z → P
  no_reading z x a b = cc

  same_reading : (w z : ℤ) → Measured z ≡ Measured w → z ≡ w
  same_reading w z e = cc

  more_by : (p : Peak) (z : ℤ) → reading_in rs n ≡ Measured z → Furthest u rs n (Some p) → Furthest u rs (n + 1) (peaked_by (Some p) u n z)
  more_by p z e h =
      cond_both (further_by u z p.wh) _ _ (Furthest u rs (n + 1))
      (λ t. (
        omega arith,
        e,
        (λ k w l x. split k n l (λ b. past u w p.wh z (h.2 k w b x) t)
            (λ i. subst (λ y. further_by u y z ≡ false) (same_reading w z (at_n k (Measured z) (Measured w) e i x)) (not_further_itself u z))),
        (λ k w l x. before u w p.wh z (h.2 k w l x) t),
      ))
      (λ t. (
        omega (arith, h.0),
        h.1,
        (λ k w l x. split k n l (λ b. h.2 k w b x)
            (λ i. subst (λ y. further_by u y p.wh ≡ false) (same_reading w z (at_n k (Measured z) (Measured w) e i x)) t)),
        h.3,
      ))

  more : (o : Option Peak) (r : Reading) → reading_in rs n ≡ r → Furthest u rs n o → Furthest u rs (n + 1) (peaked o u n r)
  more None Estimated e h = λ k l. split k n l (h k) (λ i. ap (reading_in rs) i ∙ e)
  more None (Measured z) e h = (
    omega arith,
    e,
    (λ k w l x. split k n l (λ b. no_reading w (reading_in rs k) (h k b) x)
        (λ i. subst (λ y. further_by u y z ≡ false) (same_reading w z (at_n k (Measured z) (Measured w) e i x)) (not_further_itself u z))),
    (λ k w l x. no_reading w (reading_in rs k) (h k l) x),
  )
  more (Some p) Estimated e h = (
    omega (arith, h.0),
    h.1,
    (λ k w l x. split k n l (λ b. h.2 k w b x) (λ i. no_reading w (reading_in rs n) e (ap (reading_in rs) (sym i) ∙ x))),
    h.3,
  )
  more (Some p) (Measured z) e h = more_by p z e h

  pub peak_more : (o : Option Peak) → Furthest u rs n o → Furthest u rs (n + 1) (peaked o u n (reading_in rs n))
  peak_more o h = more o (reading_in rs n) refl h
