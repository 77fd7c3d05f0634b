-- A curve that a closure fills.
use Rattle.std.proofs.Common.{◌≡◌, ℕ, zero, suc, ◌+◌, ◌<◌, true, false, cond, List, [], ◌∷◌, ◌++◌, length, get_or, set, pos, sym, refl, ap, ◌∙◌, subst, arith, append_assoc, length-append}
use Rattle.std.proofs.Math.Seq.{get_or_at}
use denote.Param.Members.{Mut, Called}
use Rattle.std.specs.Array.{FillsFrom, IsFromFnResultFrom, IsFromFnResult}
use Rattle.metering.specs.declared.reading.Reading.{Reading}
use Rattle.metering.specs.declared.reading.Reading.TheVariants.{Measured, Estimated}
use Rattle.metering.specs.Readings.{within, reading_in}
use Rattle.metering.specs.Curves.{limited, fitted, curve_of, curve_of_readings}

-- the next reading goes to its quarter, or leaves it estimated
pub fitted_next : (n : ℕ) (rs : List Reading) (r : Reading) → length rs < n → cond (within r) (set (fitted n rs) (length rs) r) (fitted n rs) ≡ fitted n (rs ++ r ∷ [])
fitted_next zero rs r h = absurd (omega arith)
fitted_next (suc n) [] r h =
    elim (within r) as (λ b. cond b (r ∷ fitted n []) (Estimated ∷ fitted n []) ≡ cond b r Estimated ∷ fitted n []) [ true ↦ refl | false ↦ refl ]
fitted_next (suc n) (x ∷ rs) r h =
    elim (within r) as (λ b. cond b (limited x ∷ set (fitted n rs) (length rs) r) (limited x ∷ fitted n rs) ≡ limited x ∷ cond b (set (fitted n rs) (length rs) r) (fitted n rs)) [ true ↦ refl | false ↦ refl ]
    ∙ ap (λ xs. limited x ∷ xs) (fitted_next n rs r (omega arith))

fitted_at : (n : ℕ) (rs : List Reading) (k : ℕ) → k < n → k < length rs → reading_in (fitted n rs) k ≡ limited (reading_in rs k)
fitted_at zero rs k h l = absurd (omega arith)
fitted_at (suc n) [] k h l = absurd (omega arith)
fitted_at (suc n) (r ∷ rs) zero h l = refl
fitted_at (suc n) (r ∷ rs) (suc k) h l = fitted_at n rs k (omega arith) (omega arith)

module _ {F : Type 0} (g : Mut F (ℕ × Unit {0}) Reading) where
  abbrev pub Fills : F → ℕ → List Reading → F → Type 0
  Fills = FillsFrom (λ p i y q. Called g p (i, tt) y q)

  pub fills_next : (rs : List Reading) (p q t : F) (i : ℕ) (y : Reading) → Fills p i rs q → Called g q (i + length rs, tt) y t → Fills p i (rs ++ y ∷ []) t
  fills_next [] p q t i y e h = let z : i + 0 ≡ i = omega arith in (t, subst (λ s. Called g s (i, tt) y t) (sym e) (subst (λ n. Called g q (n, tt) y t) z h), refl)
  fills_next (x ∷ rs) p q t i y f h =
      let z : i + suc (length rs) ≡ i + 1 + length rs = omega arith in
      (f.0, f.1, fills_next rs f.0 q t (i + 1) y f.2 (subst (λ n. Called g q (n, tt) y t) z h))

  each : (before rs whole : List Reading) (p q : F) (i : ℕ) → length before ≡ i → whole ≡ before ++ rs → Fills p i rs q → IsFromFnResultFrom g p whole i (length rs)
  each before [] whole p q i l e f = tt
  each before (x ∷ rs) whole p q i l e f =
      let there : (d : Reading) → get_or whole i d ≡ x = λ d. ap (λ xs. get_or xs i d) e ∙ get_or_at before x rs d i l in
      (f.0, x, (there x, there), f.1, each (before ++ x ∷ []) rs whole f.0 q (i + 1) (omega (arith, length-append before (x ∷ []))) (e ∙ sym (append_assoc before (x ∷ []) rs)) f.2)

  at : (rs : List Reading) (p q : F) (i k : ℕ) (d : Reading) → Fills p i rs q → k < length rs → (s : F) × (t : F) × Called g s (i + k, tt) (get_or rs k d) t
  at [] p q i k d f h = absurd (omega arith)
  at (x ∷ rs) p q i zero d f h = let z : i ≡ i + 0 = omega arith in (p, f.0, subst (λ n. Called g p (n, tt) x f.0) z f.1)
  at (x ∷ rs) p q i (suc k) d f h =
      let o = at rs f.0 q (i + 1) k d f.2 (omega arith) in
      let z : i + 1 + k ≡ i + suc k = omega arith in
      (o.0, o.1, subst (λ n. Called g o.0 (n, tt) (get_or rs k d) o.1) z o.2)

  pub filled : (rs : List Reading) (p q : F) (n : ℕ) → length rs ≡ n → Fills p 0 rs q → IsFromFnResult g p rs n
  filled rs p q n l f = record {
    long = l;
    each = subst (IsFromFnResultFrom g p rs 0) l (each [] rs rs p q 0 refl refl f);
    at = λ k d h. let z : 0 + k ≡ k = omega arith in subst (λ n. (s : F) × (t : F) × Called g s (n, tt) (get_or rs k d) t) z (at rs p q 0 k d f (omega arith));
  }

  -- a closure that its calls leave as it is, and that answers h
  answered : (h : ℕ → Reading) (p : F) (rs : List Reading) (i n : ℕ) → ((x : ℕ) (r : Reading) (q : F) → x < i + n → Called g p (x, tt) r q → (q ≡ p) × (r ≡ h x))
      → IsFromFnResultFrom g p rs i n → (k : ℕ) (d : Reading) → k < n → get_or rs (i + k) d ≡ h (i + k)
  answered h p rs i zero a f k d l = absurd (omega arith)
  answered h p rs i (suc n) a f zero d l =
      let z : i ≡ i + 0 = omega arith in
      subst (λ m. get_or rs m d ≡ h m) z (f.2.1 d ∙ (a i f.1 f.0 (omega arith) f.3).1)
  answered h p rs i (suc n) a f (suc k) d l =
      let z : i + 1 + k ≡ i + suc k = omega arith in
      let same = (a i f.1 f.0 (omega arith) f.3).0 in
      subst (λ m. get_or rs m d ≡ h m) z
      (answered h p rs (i + 1) n (λ x r q o. a x r q (omega arith)) (subst (λ q. IsFromFnResultFrom g q rs (i + 1) n) same f.4) k d (omega arith))

  pub filled_at : (h : ℕ → Reading) (f : F) (rs : List Reading) → IsFromFnResult g f rs 96 → ((x : ℕ) (r : Reading) (q : F) → x < 96 → Called g f (x, tt) r q → (q ≡ f) × (r ≡ h x))
      → (k : ℕ) → k < 96 → reading_in (curve_of rs).readings k ≡ limited (h k)
  filled_at h f rs m a k l =
      let z : 0 + k ≡ k = omega arith in
      ap (λ xs. reading_in xs k) (curve_of_readings rs) ∙ fitted_at 96 rs k l (omega (arith, m.long))
      ∙ ap limited (subst (λ n. reading_in rs n ≡ h n) z (answered h f rs 0 96 a m.each k (Measured (pos 0)) l))
