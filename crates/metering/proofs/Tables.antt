-- The rows of an export, up to the last.
use Rattle.std.proofs.Common.{◌≡◌, ℕ, zero, suc, ◌+◌, ◌<◌, eqb, ◌≢◌, List, [], ◌∷◌, length, get_or, set, pos, Some, None, Ok, Err, Option, Result, sym, refl, ap, ◌∙◌, subst, arith, length-set, get_or-set_other, get_or-set_same, below_more}
use Rattle.std.proofs.lemmas.List.{ext_get_or}
use Rattle.std.proofs.lemmas.Bool.{cond-true, eq-eqb}
use Rattle.metering.specs.declared.reading.Reading.{Reading}
use Rattle.metering.specs.declared.reading.Reading.TheVariants.{Measured}
use Rattle.metering.specs.declared.place.Value.{Value}
use Rattle.metering.specs.declared.columns.Columns.{Columns}
use Rattle.metering.specs.declared.reader.Row.{Row}
use Rattle.metering.specs.declared.fault.Fault.{Fault}
use Rattle.metering.specs.Readings.{reading_in}
use Rattle.metering.specs.Text.{Text, field, rest}
use Rattle.metering.specs.Places.{kind_at}
use Rattle.metering.specs.Cells.{Read}
use Rattle.metering.specs.Meaning.{Taken, judged, Goes, Means}
use Rattle.metering.specs.Export.{PlainLines, RowOf}
use Rattle.metering.proofs.Runs.{kind_96, stage}
use Rattle.metering.proofs.Cutting.{Clean, laid, lines}
use Rattle.metering.proofs.Judged.{not_both}
use Rattle.metering.proofs.Lines.{row_at, at, line_forth, line_back}
use Rattle.metering.proofs.Rows.{Fits, reading_by, row_forth, row_back}

-- each of n rows from quarter q on says the reading of its quarter
abbrev pub Each : ℕ → Columns → ℕ → ℕ → List (List (List ℕ)) → List Reading → Type 0
Each w c q n rows ts = (k : ℕ) → k < n → RowOf w c (q + k) (get_or rows k []) (reading_in ts (q + k))

each_more : (w : ℕ) (c : Columns) (q n : ℕ) (r : List (List ℕ)) (rows : List (List (List ℕ))) (ts : List Reading)
    → RowOf w c q r (reading_in ts q) → Each w c (q + 1) n rows ts → Each w c q (suc n) (r ∷ rows) ts
each_more w c q n r rows ts x f zero h = let z : q ≡ q + 0 = omega arith in subst (λ m. RowOf w c m r (reading_in ts m)) z x
each_more w c q n r rows ts x f (suc k) h = let z : q + 1 + k ≡ q + suc k = omega arith in subst (λ m. RowOf w c m (get_or rows k []) (reading_in ts m)) z (f k (omega arith))

each_first : (w : ℕ) (c : Columns) (q n : ℕ) (r : List (List ℕ)) (rows : List (List (List ℕ))) (ts : List Reading)
    → Each w c q (suc n) (r ∷ rows) ts → RowOf w c q r (reading_in ts q)
each_first w c q n r rows ts f = let z : q + 0 ≡ q = omega arith in subst (λ m. RowOf w c m r (reading_in ts m)) z (f 0 (omega arith))

each_rest : (w : ℕ) (c : Columns) (q n : ℕ) (r : List (List ℕ)) (rows : List (List (List ℕ))) (ts : List Reading)
    → Each w c q (suc n) (r ∷ rows) ts → Each w c (q + 1) n rows ts
each_rest w c q n r rows ts f k h = let z : q + suc k ≡ q + 1 + k = omega arith in subst (λ m. RowOf w c m (get_or rows k []) (reading_in ts m)) z (f (suc k) (omega arith))

-- the same readings below quarter q
abbrev pub Same : ℕ → List Reading → List Reading → Type 0
Same q ts rs = (k : ℕ) → k < q → reading_in ts k ≡ reading_in rs k

same_set : (q k : ℕ) (rs : List Reading) (r : Reading) → k < q → reading_in (set rs q r) k ≡ reading_in rs k
same_set q k rs r h = let n : k ≢ q = omega arith in get_or-set_other rs q k r (Measured (pos 0)) n

-- FROM A TEXT TO ITS ROWS

pub record Rowed (w : ℕ) (c : Columns) (q n : ℕ) (rs : List Reading) (x : Text) (t : Taken) : Type 0 where
  pub rows : List (List (List ℕ))
  pub tall : length rows ≡ n
  pub plain : PlainLines rows
  pub is : x ≡ lines rows
  pub columns : t.columns ≡ c
  pub width : t.width ≡ w
  pub full : length t.readings ≡ 96
  pub each : Each w c q n rows t.readings
  pub before : Same q t.readings rs

no_field : (w : ℕ) (c : Columns) (q : ℕ) (a : Row) (rs : List Reading) (t : Taken) (s : ℕ) (f : List ℕ) (y : Text) → q ≡ 96 → (o : Option Value) → Read (kind_at (at w c q 1)) f o
    → Goes (judged (stage (at w c q 1) a rs) s o) (λ n. Means n y (Ok t)) (λ e. ◌≡◌ {A = Result Taken Fault} (Ok t) (Err e)) → ⊥
no_field w c q a rs t s f y e None g b = not_both t _ b
no_field w c q a rs t s f y e (Some v) g b = subst (λ k. Read k f (Some v)) (kind_96 (row_at w c q 1) e) g

last : (w : ℕ) (c : Columns) (q : ℕ) (a : Row) (rs : List Reading) (x : Text) (t : Taken) → q ≡ 96 → length rs ≡ 96
    → Means (stage (at w c q 1) a rs) x (Ok t) → Rowed w c q 0 rs x t
last w c q a rs (rest []) t e full m =
    let g : ◌≡◌ {A = Result Taken Fault} (Ok t) (Ok (record { readings = rs; columns = c; width = w })) = m ∙ cond-true (eqb q 96) _ _ (eq-eqb q 96 e) in
    let u : t ≡ record { readings = rs; columns = c; width = w } = cc in
    record {
      rows = [];
      tall = refl;
      plain = tt;
      is = refl;
      columns = ap (λ (x : Taken). x.columns) u;
      width = ap (λ (x : Taken). x.width) u;
      full = ap (λ (x : Taken). length x.readings) u ∙ full;
      each = λ k h. absurd (omega arith);
      before = λ k h. ap (λ (x : Taken). reading_in x.readings k) u;
    }
last w c q a rs (rest (b ∷ bs)) t e full m = absurd (not_both t _ m)
last w c q a rs (field f s y) t e full m = absurd (no_field w c q a rs t s f y e m.0 m.1 m.2)

pub table_forth : (n : ℕ) (w : ℕ) (c : Columns) (q : ℕ) (a : Row) (rs : List Reading) (x : Text) (t : Taken) → q + n ≡ 96 → Fits w c → length rs ≡ 96 → Clean x
    → Means (stage (at w c q 1) a rs) x (Ok t) → Rowed w c q n rs x t
table_forth zero w c q a rs x t g fits full cl m = last w c q a rs x t (omega arith) full m
table_forth (suc n) w c q a rs x t g fits full cl m =
    let h : q < 96 = omega arith in
    let b = line_forth w c q 1 a rs x t h cl m in
    let r = row_forth w c q (b.first ∷ b.others) a b.row rs h fits (omega (arith, b.wide)) b.fills in
    let v : Reading = reading_by b.row in
    let m2 = subst (λ z. Means (stage (at w c (q + 1) 1) b.row z) b.beyond (Ok t)) r.1 b.means in
    let i = table_forth n w c (q + 1) b.row (set rs q v) b.beyond t (omega arith) fits (length-set rs q v ∙ full) b.clean m2 in
    let p : q < length rs = omega arith in
    let u : reading_in t.readings q ≡ v = i.before q (omega arith) ∙ get_or-set_same rs q v (Measured (pos 0)) p in
    record {
      rows = (b.first ∷ b.others) ∷ i.rows;
      tall = ap suc i.tall;
      plain = (b.plain, i.plain);
      is = b.is ∙ ap (laid b.first b.others) i.is;
      columns = i.columns;
      width = i.width;
      full = i.full;
      each = each_more w c q n (b.first ∷ b.others) i.rows t.readings (subst (RowOf w c q (b.first ∷ b.others)) (sym u) r.0) i.each;
      before = λ k o. i.before k (omega arith) ∙ same_set q k rs v o;
    }

-- AND BACK

same_more : (q : ℕ) (ts rs : List Reading) → q < length rs → Same q ts rs → Same (q + 1) ts (set rs q (reading_in ts q))
same_more q ts rs h f =
    below_more (λ k. reading_in ts k ≡ reading_in (set rs q (reading_in ts q)) k) q
    (λ k o. f k o ∙ sym (same_set q k rs (reading_in ts q) o))
    (sym (get_or-set_same rs q (reading_in ts q) (Measured (pos 0)) h))

pub table_back : (rows : List (List (List ℕ))) (q : ℕ) (a : Row) (rs : List Reading) (t : Taken) → q + length rows ≡ 96 → Fits t.width t.columns
    → length rs ≡ 96 → length t.readings ≡ 96 → Each t.width t.columns q (length rows) rows t.readings → Same q t.readings rs
    → Means (stage (at t.width t.columns q 1) a rs) (lines rows) (Ok t)
table_back [] q a rs t g fits full whole each before =
    let u : t.readings ≡ rs = ext_get_or (Measured (pos 0)) t.readings rs (whole ∙ sym full) (λ k h. before k (omega arith)) in
    ap (λ x. Ok (record { readings = x; columns = t.columns; width = t.width })) u
    ∙ sym (cond-true (eqb q 96) (Ok (record { readings = rs; columns = t.columns; width = t.width })) _ (eq-eqb q 96 (omega arith)))
table_back ([] ∷ rows) q a rs t g fits full whole each before =
    let x = each_first t.width t.columns q (length rows) [] rows t.readings each in
    let y = x.wide in
    absurd (omega arith)
table_back ((f ∷ fs) ∷ rows) q a rs t g fits full whole each before =
    let x = each_first t.width t.columns q (length rows) (f ∷ fs) rows t.readings each in
    let h : q < 96 = omega arith in
    let v : Reading = reading_in t.readings q in
    let b = row_back t.width t.columns q (f ∷ fs) a rs v h fits x in
    let i = table_back rows (q + 1) b.0 (set rs q v) t (omega arith) fits (length-set rs q v ∙ full) whole
    (each_rest t.width t.columns q (length rows) (f ∷ fs) rows t.readings each) (same_more q t.readings rs (omega arith) before) in
    line_back t.width t.columns q 1 f fs a b.0 rs (lines rows) (Ok t) h (omega (arith, x.wide)) b.1
    (subst (λ z. Means (stage (at t.width t.columns (q + 1) 1) b.0 z) (lines rows) (Ok t)) (sym b.2) i)
