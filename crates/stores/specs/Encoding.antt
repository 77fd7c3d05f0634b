-- A reading and its word, a curve and its words.
use Rattle.std.specs.Prelude.{◌≡◌, ℕ, ◌<◌, Bool, true, false, cond, ℤ, pos, negsuc, ◌==◌, refl}
use Rattle.std.proofs.Common.{ap, sym, ◌∙◌, arith}
use Rattle.std.proofs.lemmas.Bool.{eqb-true, ne_eqb, ltb-true, cond-false}
use Rattle.metering.specs.declared.reading.Reading.{Reading}
use Rattle.metering.specs.declared.reading.Reading.TheVariants.{Measured, Estimated}
use Rattle.metering.specs.declared.curve.Curve.{Curve}
use Rattle.metering.specs.Readings.{within, reading_in}
use Rattle.metering.specs.Curves.{curve_of}
use Rattle.metering.proofs.Same.{curve_of_same}
use Rattle.stores.specs.Words.{word_of, reading_from, upto, curve_from}
use Rattle.stores.specs.Upto.{length_upto, get_or_upto, upto_is}

marked : (n : ℕ) (b : Bool) → (n == 2147483647) ≡ b → word_of (cond b Estimated (Measured (negsuc n))) ≡ negsuc n
marked n true e = ap negsuc (sym (eqb-true n 2147483647 e))
marked n false e = refl

-- no word is lost
pub word_reading : (z : ℤ) → word_of (reading_from z) ≡ z
word_reading (pos n) = refl
word_reading (negsuc n) = marked n (n == 2147483647) refl

-- nor a reading within its limits
pub reading_word : (r : Reading) → within r ≡ true → reading_from (word_of r) ≡ r
reading_word Estimated w = refl
reading_word (Measured (pos n)) w = refl
reading_word (Measured (negsuc n)) w = cond-false (n == 2147483647) Estimated (Measured (negsuc n)) (ne_eqb n 2147483647 (λ e. let l = ltb-true n 1000000 w in omega arith))

-- the curve of words that are those of a curve
pub curve_is : (f : ℕ → ℤ) (c : Curve) → ((q : ℕ) → q < 96 → reading_from (f q) ≡ reading_in c.readings q) → curve_from f ≡ c
unfolding curve_from
curve_is f c h = ap curve_of (upto_is (λ q. reading_from (f q)) 96 c.readings (Measured (pos 0)) c.whole h) ∙ curve_of_same c

-- words within the limits are the readings of their curve
pub curve_reads : (f : ℕ → ℤ) (q : ℕ) → ((k : ℕ) → k < 96 → within (reading_from (f k)) ≡ true) → q < 96 → reading_in (curve_from f).readings q ≡ reading_from (f q)
unfolding curve_from
curve_reads f q w h =
    let g : ℕ → Reading = λ k. reading_from (f k) in
    let c : Curve = record {
      readings = upto g 96;
      whole = length_upto g 96;
      limited = λ k p. ap within (get_or_upto g 96 k (Measured (pos 0)) p) ∙ w k p;
    } in
    ap (λ (x : Curve). reading_in x.readings q) (curve_of_same c) ∙ get_or_upto g 96 q (Measured (pos 0)) h

-- equal words, equal curves
pub curve_same : (f g : ℕ → ℤ) → ((q : ℕ) → q < 96 → f q ≡ g q) → curve_from f ≡ curve_from g
unfolding curve_from
curve_same f g h =
    let F : ℕ → Reading = λ q. reading_from (f q) in
    let G : ℕ → Reading = λ q. reading_from (g q) in
    ap curve_of (upto_is F 96 (upto G 96) (Measured (pos 0)) (length_upto G 96)
    (λ k p. ap reading_from (h k p) ∙ sym (get_or_upto G 96 k (Measured (pos 0)) p)))
