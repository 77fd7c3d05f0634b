-- What is written is read back: rows that a journal holds come out of their bytes as they went in.
use Rattle.std.specs.Prelude.{◌≡◌, ℕ, zero, suc, ◌+◌, ◌-◌, ◌*◌, ◌/◌, ◌%◌, ◌<◌, ◌≤◌, true, List, [], ◌∷◌, ◌++◌, length, get_or, pos, negsuc, FitsSigned, ◌==◌, nat_le, nat_lt, slice_index, slice_index_or, refl}
use Rattle.std.proofs.Common.{ap, ◌∙◌, arith, length-append}
use Rattle.std.proofs.Math.Nat.{div-div-eq-div-mul}
use Rattle.std.specs.Int.{w32}
use Rattle.std.specs.List.{flat_map, list_all}
use Rattle.std.proofs.lemmas.List.{append_assoc, get_or-append_right}
use Rattle.std.proofs.lemmas.Int.{to_z-of_z}
use Rattle.std.proofs.lemmas.Bool.{and_parts, leb-true, ltb-true, eqb-true}
use Rattle.metering.specs.declared.reading.Reading.{Reading}
use Rattle.metering.specs.declared.reading.Reading.TheVariants.{Measured, Estimated}
use Rattle.metering.specs.Readings.{within}
use Rattle.stores.specs.Words.{word_of, reading_from as word_reading, upto}
use Rattle.stores.specs.Encoding.{reading_word}
use Rattle.stores.specs.Rows.{Row, four, bits_of, reading_bytes, row_bytes, written, word_at, reading_from, day_from, row_at, rows_in, fine}
use Rattle.stores.specs.Upto.{upto_same, upto_is}
use Rattle.stores.specs.Closing.{length_row}

-- what a row that a journal holds keeps to
pub record Fine (width floor : ℕ) (e : Row) : Type 0 where
  pub below : e.resource < width
  pub from : floor ≤ e.day
  pub to : e.day ≤ 36524
  pub full : length e.readings ≡ 96
  pub limits : list_all within e.readings ≡ true

pub fine_parts : (width floor : ℕ) (e : Row) → fine width floor e ≡ true → Fine width floor e
fine_parts width floor e h =
    let a = and_parts (nat_lt e.resource width) _ h in
    let b = and_parts (nat_le floor e.day) _ a.1 in
    let c = and_parts (nat_le e.day 36524) _ b.1 in
    let d = and_parts (length e.readings == 96) (list_all within e.readings) c.1 in
    record { below = ltb-true _ _ a.0; from = leb-true _ _ b.0; to = leb-true _ _ c.0; full = eqb-true _ _ d.0; limits = d.1 }

word_fits_lem : (r : Reading) → within r ≡ true → bits_of r < 4294967296
word_fits_lem (Measured (pos n)) h = let l = leb-true n 1000000 h in omega arith
word_fits_lem (Measured (negsuc n)) h = let l = ltb-true n 1000000 h in omega arith
word_fits_lem Estimated h = omega arith

fits_word : (r : Reading) → within r ≡ true → FitsSigned w32 (word_of r)
fits_word (Measured (pos n)) h = let l = leb-true n 1000000 h in record { sfits = omega arith }
fits_word (Measured (negsuc n)) h = let l = ltb-true n 1000000 h in record { sfits = omega arith }
fits_word Estimated h = record { sfits = omega arith }

word_back : (r : Reading) → within r ≡ true → reading_from (bits_of r) ≡ r
word_back r h = ap word_reading (to_z-of_z w32 (word_of r) (fits_word r h)) ∙ reading_word r h

bytes_back : (n a b c : ℕ) → n < 4294967296 → n / 256 ≡ a → a / 256 ≡ b → b / 256 ≡ c → c % 256 * 16777216 + b % 256 * 65536 + a % 256 * 256 + n % 256 ≡ n
bytes_back n a b c h ea eb ec =
    let lc : c < 256 = omega arith in
    let xc : c % 256 ≡ c = omega arith in
    let xb : b ≡ 256 * c + b % 256 = omega arith in
    let xa : a ≡ 256 * b + a % 256 = omega arith in
    let xn : n ≡ 256 * a + n % 256 = omega arith in
    omega arith

four_back : (n : ℕ) (ys : List ℕ) → n < 4294967296 → word_at (four n ++ ys) 0 ≡ n
four_back n ys h = bytes_back n (n / 256) (n / 65536) (n / 16777216) h refl (div-div-eq-div-mul n 256 256) (div-div-eq-div-mul n 65536 256)

-- behind n bytes
at_shift : (xs ys : List ℕ) (n a : ℕ) → length xs ≡ n → slice_index (xs ++ ys) (n + a) ≡ slice_index ys a
at_shift xs ys n a l =
    let e : n + a - n ≡ a = omega arith in
    get_or-append_right xs ys n (n + a) 0 l (omega arith) ∙ ap (λ i. slice_index ys i) e

word_shift : (xs ys : List ℕ) (n a b : ℕ) → length xs ≡ n → b ≡ n + a → word_at (xs ++ ys) b ≡ word_at ys a
word_shift xs ys n a b l e =
    let g : (j : ℕ) → slice_index (xs ++ ys) (b + j) ≡ get_or ys (a + j) 0 = λ j. (let q : b + j ≡ n + (a + j) = omega arith in ap (λ i. slice_index (xs ++ ys) i) q ∙ at_shift xs ys n (a + j) l) in
    let g0 : get_or (xs ++ ys) b 0 ≡ get_or ys a 0 = ap (λ i. slice_index (xs ++ ys) i) e ∙ at_shift xs ys n a l in
    let g1 = g 1 in
    let g2 = g 2 in
    let g3 = g 3 in
    omega arith

row_shift : (xs ys : List ℕ) (n a b : ℕ) → length xs ≡ n → b ≡ n + a → row_at (xs ++ ys) b ≡ row_at ys a
row_shift xs ys n a b l e =
    let g : (j : ℕ) → slice_index (xs ++ ys) (b + j) ≡ get_or ys (a + j) 0 = λ j. (let q : b + j ≡ n + (a + j) = omega arith in ap (λ i. slice_index (xs ++ ys) i) q ∙ at_shift xs ys n (a + j) l) in
    let g0 : get_or (xs ++ ys) b 0 ≡ get_or ys a 0 = ap (λ i. slice_index (xs ++ ys) i) e ∙ at_shift xs ys n a l in
    let g1 = g 1 in
    let g2 = g 2 in
    let d : day_from (xs ++ ys) b ≡ day_from ys a = omega arith in
    let w : upto (λ q. reading_from (word_at (xs ++ ys) (b + 3 + 4 * q))) 96 ≡ upto (λ q. reading_from (word_at ys (a + 3 + 4 * q))) 96 =
    upto_same (λ q. reading_from (word_at (xs ++ ys) (b + 3 + 4 * q))) (λ q. reading_from (word_at ys (a + 3 + 4 * q))) 96
    (λ q h. ap reading_from (word_shift xs ys n (a + 3 + 4 * q) (b + 3 + 4 * q) l (omega arith))) in
    cc

readings_back : (rs : List Reading) (ys : List ℕ) (k : ℕ) (d : Reading) → k < length rs → list_all within rs ≡ true → reading_from (word_at (flat_map reading_bytes rs ++ ys) (4 * k)) ≡ slice_index_or rs k d
readings_back [] ys k d h w = absurd (omega arith)
readings_back (r ∷ rs) ys zero d h w =
    let p = and_parts (within r) (list_all within rs) w in
    ap reading_from (four_back (bits_of r) (flat_map reading_bytes rs ++ ys) (word_fits_lem r p.0)) ∙ word_back r p.0
readings_back (r ∷ rs) ys (suc k) d h w =
    let p = and_parts (within r) (list_all within rs) w in
    ap reading_from (word_shift (reading_bytes r) (flat_map reading_bytes rs ++ ys) 4 (4 * k) (4 * suc k) refl (omega arith)) ∙ readings_back rs ys k d (omega arith) p.1

row_back : (width floor : ℕ) (e : Row) (ys : List ℕ) → Fine width floor e → row_at (row_bytes e ++ ys) 0 ≡ e
row_back width floor e ys f =
    let h = f.to in
    let d : day_from (row_bytes e ++ ys) 0 ≡ e.day = omega arith in
    let w : upto (λ q. reading_from (word_at (row_bytes e ++ ys) (0 + 3 + 4 * q))) 96 ≡ e.readings =
    upto_is (λ q. reading_from (word_at (row_bytes e ++ ys) (0 + 3 + 4 * q))) 96 e.readings Estimated f.full
    (λ k l. ap reading_from (word_shift (e.resource ∷ (e.day / 256 % 256) ∷ (e.day % 256) ∷ []) (flat_map reading_bytes e.readings ++ ys) 3 (4 * k) (0 + 3 + 4 * k) refl (omega arith))
    ∙ readings_back e.readings ys k Estimated (let q = f.full in omega arith) f.limits) in
    λ i. record { resource = e.resource; day = d i; readings = w i }

rows_back : (width floor : ℕ) (rs : List Row) (ys : List ℕ) (k : ℕ) (d : Row) → list_all (fine width floor) rs ≡ true → k < length rs → row_at (written rs ++ ys) (387 * k) ≡ slice_index_or rs k d
rows_back width floor [] ys k d a h = absurd (omega arith)
rows_back width floor (e ∷ es) ys zero d a h =
    let p = and_parts (fine width floor e) (list_all (fine width floor) es) a in
    ap (λ xs. row_at xs 0) (append_assoc (row_bytes e) (written es) ys) ∙ row_back width floor e (written es ++ ys) (fine_parts width floor e p.0)
rows_back width floor (e ∷ es) ys (suc k) d a h =
    let p = and_parts (fine width floor e) (list_all (fine width floor) es) a in
    let l = length_row e (fine_parts width floor e p.0).full in
    ap (λ xs. row_at xs (387 * suc k)) (append_assoc (row_bytes e) (written es) ys)
    ∙ row_shift (row_bytes e) (written es ++ ys) 387 (387 * k) (387 * suc k) l (omega arith)
    ∙ rows_back width floor es ys k d p.1 (omega arith)

-- rows written at the start of a memory are its rows
pub reread : (width floor : ℕ) (rs : List Row) (ys : List ℕ) (n : ℕ) → list_all (fine width floor) rs ≡ true → length rs ≡ n → rows_in (written rs ++ ys) n ≡ rs
reread width floor rs ys n a e =
    upto_is (λ i. row_at (written rs ++ ys) (387 * i)) n rs (row_at [] 0) e (λ k h. rows_back width floor rs ys k (row_at [] 0) a (omega arith))

-- rows that a journal holds take 387 bytes each
pub length_fine : (width floor : ℕ) (rs : List Row) → list_all (fine width floor) rs ≡ true → length (written rs) ≡ 387 * length rs
length_fine width floor [] a = refl
length_fine width floor (e ∷ es) a =
    let p = and_parts (fine width floor e) (list_all (fine width floor) es) a in
    let l = length_row e (fine_parts width floor e p.0).full in
    let r = length_fine width floor es p.1 in
    simp length-append (omega arith)
