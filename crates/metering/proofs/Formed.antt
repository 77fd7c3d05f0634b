-- One quarter more is formed.
use Rattle.std.proofs.Common.{◌≡◌, ℕ, ◌+◌, ◌<◌, Bool, true, ltb, ◌≢◌, List, length, get_or, set, pos, Some, None, Option, sym, ap, ◌∙◌, arith, get_or-set_other, get_or-set_same, below_more}
use Rattle.std.proofs.lemmas.Bool.{cond-true, lt-ltb}
use Rattle.metering.specs.declared.reading.Reading.{Reading}
use Rattle.metering.specs.declared.reading.Reading.TheVariants.{Measured}
use Rattle.metering.specs.Readings.{reading_in, within, placed}
use Rattle.metering.proofs.Limits.{reading_within}
use Rattle.metering.specs.Forming.{marked, formed_by, formed_at}

-- a reading that keeps its limits goes to its quarter
pub placed_is : (rs : List Reading) (q : ℕ) (r : Reading) → q < 96 → within r ≡ true → placed rs q r ≡ set rs q r
placed_is rs q r h w = cond-true (ltb q 96) _ _ (lt-ltb q 96 h) ∙ cond-true (within r) _ _ w

formed_within : (a b : ℕ) (m : Option Bool) (r : Reading) → Some r ≡ formed_by a b m → within r ≡ true
formed_within a b None r f = cc
formed_within a b (Some e) r f = reading_within a b e r f

pub placed_more : (injected drawn marks : List ℕ) (rs : List Reading) (q : ℕ) (r : Reading)
    → length rs ≡ 96 → q < 96 → Some r ≡ formed_at injected drawn marks q
    → ((k : ℕ) → k < q → formed_at injected drawn marks k ≡ Some (reading_in rs k))
    → (k : ℕ) → k < q + 1 → formed_at injected drawn marks k ≡ Some (reading_in (placed rs q r) k)
placed_more injected drawn marks rs q r l h f all =
    let w = placed_is rs q r h (formed_within (get_or injected q 0) (get_or drawn q 0) (marked (get_or marks q 0)) r f) in
    below_more (λ k. formed_at injected drawn marks k ≡ Some (reading_in (placed rs q r) k)) q
    (λ k p. let n : k ≢ q = omega arith in all k p ∙ ap Some (sym (get_or-set_other rs q k r (Measured (pos 0)) n) ∙ ap (λ x. reading_in x k) (sym w)))
    (let p : q < length rs = omega arith in sym f ∙ ap Some (sym (get_or-set_same rs q r (Measured (pos 0)) p) ∙ ap (λ x. reading_in x q) (sym w)))
