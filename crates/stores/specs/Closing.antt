-- Rows that move together: where a row stands, and the gaps closed so far.
use Rattle.std.specs.Prelude.{◌≡◌, ℕ, zero, suc, ◌+◌, ◌-◌, ◌*◌, ◌<◌, ◌≤◌, List, [], ◌∷◌, ◌++◌, length, take, drop, filter, slice_index, slice_index_or, refl}
use Rattle.std.proofs.Common.{sym, ap, subst, ◌∙◌, inl, inr, add-one, arith, length-append}
use Rattle.std.proofs.Math.Seq.{paste}
use Rattle.std.specs.List.{flat_map}
use Rattle.std.proofs.lemmas.List.{append-nil, take_at, drop_at, take-take, drop-take, drop-drop, get_or-drop, length_push, length-drop}
use Rattle.std.proofs.lemmas.Grind.{flat_map-append}
use Rattle.std.proofs.lemmas.List.Edits.{take-paste, drop-paste}
use Rattle.std.proofs.lemmas.Bool.{le-leb, lt-leb, cases_lt}
use Rattle.metering.specs.declared.reading.Reading.{Reading}
use Rattle.stores.specs.Words.{upto}
use Rattle.stores.specs.Rows.{Row, reading_bytes, row_bytes, written, day_from, row_at, rows_in, reading_from, word_at, since}
use Rattle.stores.specs.Upto.{upto_none, upto_more, length_upto, kept_yes, kept_no}

length_readings : (rs : List Reading) → length (flat_map reading_bytes rs) ≡ 4 * length rs
length_readings [] = refl
length_readings (r ∷ rs) = let e = length_readings rs in simp length-append (omega arith)

-- a row of 96 readings has 387 bytes
pub length_row : (e : Row) → length e.readings ≡ 96 → length (row_bytes e) ≡ 387
length_row e h = let l = length_readings e.readings in simp length-append (omega arith)

pub length_row_at : (bs : List ℕ) (a : ℕ) → length (row_bytes (row_at bs a)) ≡ 387
length_row_at bs a = length_row (row_at bs a) (length_upto (λ q. reading_from (word_at bs (a + 3 + 4 * q))) 96)

pub written_append : (xs ys : List Row) → written (xs ++ ys) ≡ written xs ++ written ys
written_append xs ys = flat_map-append row_bytes xs ys

pub written_push : (xs : List Row) (x : Row) → written (xs ++ (x ∷ [])) ≡ written xs ++ row_bytes x
written_push xs x = written_append xs (x ∷ []) ∙ ap (λ zs. written xs ++ zs) (append-nil (row_bytes x))

length_written : (f : ℕ → Row) → ((k : ℕ) → length (row_bytes (f k)) ≡ 387) → (n : ℕ) → length (written (upto f n)) ≡ 387 * n
length_written f h zero = ap (λ xs. length (written xs)) (upto_none f)
length_written f h (suc n) =
    let e : length (written (upto f n)) ≡ 387 * n = length_written f h n in
    let l = h n in
    let s : length (written (upto f n) ++ row_bytes (f n)) ≡ 387 * (n + 1) = simp length-append (omega arith) in
    rw (← add-one n) (ap (λ xs. length (written xs)) (upto_more f n) ∙ (ap length (written_push (upto f n) (f n)) ∙ s))

-- where rows stand one after another, row i stands in its place
row_in : (bs : List ℕ) (f : ℕ → Row) → ((k : ℕ) → length (row_bytes (f k)) ≡ 387) → (n : ℕ) → 387 * n ≤ length bs → take (387 * n) bs ≡ written (upto f n)
    → (i : ℕ) → i < n → take 387 (drop (387 * i) bs) ≡ row_bytes (f i)
row_in bs f h zero le laid i lt = absurd (omega arith)
row_in bs f h (suc n) le laid i lt =
    let ln = length_written f h n in
    let e : take (387 * n + 387) bs ≡ written (upto f n) ++ row_bytes (f n) =
    subst (λ m. take m bs ≡ written (upto f n) ++ row_bytes (f n)) (omega arith) (laid ∙ (subst (λ m. written (upto f m) ≡ written (upto f n) ++ row_bytes (f n)) (add-one n) (ap written (upto_more f n) ∙ written_push (upto f n) (f n)))) in
    elim (cases_lt i n) [
      | inl l ↦ row_in bs f h n (omega arith)
          (sym (take-take (387 * n) (387 * n + 387) bs (omega arith)) ∙ (ap (take (387 * n)) e ∙ take_at (written (upto f n)) (row_bytes (f n)) (387 * n) ln)) i l
      | inr l ↦ (let q : i ≡ n = omega arith in
          subst (λ m. take 387 (drop (387 * m) bs) ≡ row_bytes (f m)) (sym q)
          (sym (drop-take (387 * n) 387 bs) ∙ (ap (drop (387 * n)) e ∙ drop_at (written (upto f n)) (row_bytes (f n)) (387 * n) ln)))
    ]

pub row_stands : (bs : List ℕ) (n : ℕ) → 387 * n ≤ length bs → take (387 * n) bs ≡ written (rows_in bs n) → (i : ℕ) → i < n → take 387 (drop (387 * i) bs) ≡ row_bytes (row_at bs (387 * i))
row_stands bs n le laid i lt = row_in bs (λ k. row_at bs (387 * k)) (λ k. length_row_at bs (387 * k)) n le laid i lt

-- the rows of bs below i that are from day f on stand first in cs, k of them; from row i on cs is as bs
pub record Closing (bs cs : List ℕ) (k i f : ℕ) : Type 0 where
  pub front : take (387 * k) cs ≡ written (filter (since f) (rows_in bs i))
  pub count : k ≡ length (filter (since f) (rows_in bs i))
  pub rest : drop (387 * i) cs ≡ drop (387 * i) bs
  pub behind : k ≤ i

pub closing_none : (bs : List ℕ) (f : ℕ) → Closing bs bs 0 0 f
closing_none bs f =
    let e : filter (since f) (rows_in bs 0) ≡ [] = ap (filter (since f)) (upto_none (λ i. row_at bs (387 * i))) in
    record { front = sym (ap written e); count = sym (ap length e); rest = refl; behind = omega arith }

same_day : (bs cs : List ℕ) (i : ℕ) → drop (387 * i) cs ≡ drop (387 * i) bs → day_from cs (387 * i) ≡ day_from bs (387 * i)
same_day bs cs i h =
    let g : (j : ℕ) → slice_index cs (387 * i + j) ≡ slice_index_or bs (387 * i + j) 0 = λ j. sym (get_or-drop (387 * i) cs j 0) ∙ (ap (λ (xs : List ℕ). slice_index xs j) h ∙ get_or-drop (387 * i) bs j 0) in
    let a = g 1 in
    let b = g 2 in
    omega arith

further : {X : Type 0} (xs ys : List X) (m n : ℕ) → m ≤ n → drop m xs ≡ drop m ys → drop n xs ≡ drop n ys
further {X} xs ys m n le h =
    let e : m + (n - m) ≡ n = omega arith in
    subst (λ j. drop j xs ≡ drop j ys) e (sym (drop-drop (n - m) m xs) ∙ (ap (drop (n - m)) h ∙ drop-drop (n - m) m ys))

pub closing_no : (bs cs : List ℕ) (k i f : ℕ) → Closing bs cs k i f → day_from cs (387 * i) < f → Closing bs cs k (i + 1) f
closing_no bs cs k i f c h =
    let s = same_day bs cs i c.rest in
    let e = kept_no (since f) (λ i. row_at bs (387 * i)) i (lt-leb f (day_from bs (387 * i)) (omega arith)) in
    record {
      front = c.front ∙ sym (ap written e);
      count = c.count ∙ sym (ap length e);
      rest = further cs bs (387 * i) (387 * (i + 1)) (omega arith) c.rest;
      behind = (let b = c.behind in omega arith);
    }

pub closing_yes : (bs cs ds : List ℕ) (k i f n : ℕ) → Closing bs cs k i f → f ≤ day_from cs (387 * i) → i < n → 387 * n ≤ length bs → length cs ≡ length bs
    → take (387 * n) bs ≡ written (rows_in bs n) → ds ≡ paste cs (387 * k) (drop (387 * i) cs) 387 → Closing bs ds (k + 1) (i + 1) f
closing_yes bs cs ds k i f n c h lt le len laid e =
    let b = c.behind in
    let s = same_day bs cs i c.rest in
    let y = kept_yes (since f) (λ i. row_at bs (387 * i)) i (le-leb f (day_from bs (387 * i)) (omega arith)) in
    let p = length_push (filter (since f) (rows_in bs i)) (row_at bs (387 * i)) in
    let ld : 387 ≤ length (drop (387 * i) cs) = simp length-drop (omega arith) in
    let t = take-paste cs (387 * k) (drop (387 * i) cs) 387 (omega arith) ld in
    let u = drop-paste cs (387 * k) (drop (387 * i) cs) 387 (omega arith) ld in
    let m : 387 * k + 387 ≡ 387 * (k + 1) = omega arith in
    let r : take 387 (drop (387 * i) cs) ≡ row_bytes (row_at bs (387 * i)) = ap (take 387) c.rest ∙ row_stands bs n le laid i lt in
    let w = written_push (filter (since f) (rows_in bs i)) (row_at bs (387 * i)) in
    let v : drop (387 * k + 387) ds ≡ drop (387 * k + 387) cs = ap (drop (387 * k + 387)) e ∙ u in
    record {
      front = subst (λ j. take j ds ≡ written (filter (since f) (rows_in bs (i + 1)))) m
          (ap (take (387 * k + 387)) e ∙ t ∙ ap (λ xs. xs ++ take 387 (drop (387 * i) cs)) c.front ∙ ap (λ xs. written (filter (since f) (rows_in bs i)) ++ xs) r ∙ sym w ∙ sym (ap written y));
      count = (let q = c.count in let z = ap length y in omega arith);
      rest = further ds cs (387 * k + 387) (387 * (i + 1)) (omega arith) v ∙ further cs bs (387 * i) (387 * (i + 1)) (omega arith) c.rest;
      behind = omega arith;
    }
