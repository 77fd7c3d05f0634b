-- What a row says, column by column.
use Rattle.std.proofs.Common.{◌≡◌, ℕ, suc, ◌+◌, ◌-◌, ◌<◌, ◌≤◌, Bool, true, false, cond, eqb, ltb, ◌⊎◌, List, [], ◌∷◌, length, get_or, set, pos, ◌-ℤ◌, Some, codes, decimal, sym, refl, ap, ◌∙◌, subst, inl, inr, ⊎_elim, arith}
use Rattle.std.proofs.lemmas.Bool.{cases_eq, cond-true, cond-false, eq-eqb, ne_eqb, le-ltb}
use Rattle.metering.specs.declared.reading.Reading.{Reading}
use Rattle.metering.specs.declared.reading.Reading.TheVariants.{Measured, Estimated}
use Rattle.metering.specs.declared.place.Value.{Value}
use Rattle.metering.specs.declared.place.Value.TheVariants.{Passed, Amount, Mark}
use Rattle.metering.specs.declared.columns.Columns.{Columns}
use Rattle.metering.specs.declared.place.Place.{Place}
use Rattle.metering.specs.declared.reader.Row.{Row}
use Rattle.metering.specs.Readings.{reading_of}
use Rattle.metering.specs.Places.{kind_at}
use Rattle.metering.specs.Cells.{energy, Shows}
use Rattle.metering.specs.Progress.{filled_in, noted_by, noted_row}
use Rattle.metering.specs.Export.{field_of, Marked, RowOf}
use Rattle.metering.proofs.Limits.{reading_within}
use Rattle.metering.proofs.Formed.{placed_is}
use Rattle.metering.proofs.Fields.{says_one}
use Rattle.metering.proofs.Lines.{at, Fills, by_column}

-- the four columns are different ones, among those of the table
pub record Fits (w : ℕ) (c : Columns) : Type 0 where
  pub quarter_from : 1 ≤ c.quarter
  pub quarter_to : c.quarter ≤ w
  pub a1_from : 1 ≤ c.a1
  pub a1_to : c.a1 ≤ w
  pub a2_from : 1 ≤ c.a2
  pub a2_to : c.a2 ≤ w
  pub state_from : 1 ≤ c.state
  pub state_to : c.state ≤ w
  pub quarter_a1 : c.quarter ≡ c.a1 → ⊥
  pub quarter_a2 : c.quarter ≡ c.a2 → ⊥
  pub quarter_state : c.quarter ≡ c.state → ⊥
  pub a1_a2 : c.a1 ≡ c.a2 → ⊥
  pub a1_state : c.a1 ≡ c.state → ⊥
  pub a2_state : c.a2 ≡ c.state → ⊥

-- ONE COLUMN OF A ROW: a part of the row that the field of column k makes and the other fields keep

abbrev Kept : ℕ → Columns → ℕ → {X : Type 0} → (Row → X) → ℕ → Type 0
Kept w c q part k = (j : ℕ) (f : List ℕ) (v : Value) (r : Row) → (j ≡ k → ⊥) → Shows (kind_at (at w c q j)) f v → part (filled_in j c v r) ≡ part r

abbrev Made : ℕ → Columns → ℕ → {X : Type 0} → (Row → X) → (List ℕ → X → Type 0) → ℕ → Type 0
Made w c q part P k = (j : ℕ) (f : List ℕ) (v : Value) (r : Row) → j ≡ k → Shows (kind_at (at w c q j)) f v → P f (part (filled_in j c v r))

kept_on : {X : Type 0} (w : ℕ) (c : Columns) (q : ℕ) (part : Row → X) (k : ℕ) → Kept w c q part k
    → (j : ℕ) (fs : List (List ℕ)) (a b : Row) → k < j → Fills w c q j fs a b → part b ≡ part a
kept_on w c q part k kept j [] a b h s = ap part s
kept_on w c q part k kept j (f ∷ fs) a b h s =
    kept_on w c q part k kept (j + 1) fs (filled_in j c s.0 a) b (omega arith) s.2 ∙ kept j f s.0 a (λ e. omega arith) s.1

column_says : {X : Type 0} (w : ℕ) (c : Columns) (q : ℕ) (part : Row → X) (P : List ℕ → X → Type 0) (k : ℕ) → Kept w c q part k → Made w c q part P k
    → (j : ℕ) (fs : List (List ℕ)) (a b : Row) → j ≤ k → k < j + length fs → Fills w c q j fs a b → P (get_or fs (k - j) []) (part b)
column_says w c q part P k kept made j [] a b lo hi s = absurd (omega arith)
column_says w c q part P k kept made j (f ∷ fs) a b lo hi s =
    ⊎_elim
    (λ e.
    let z : k - j ≡ 0 = omega arith in
    let o = kept_on w c q part k kept (j + 1) fs (filled_in j c s.0 a) b (omega arith) s.2 in
    subst (λ n. P (get_or (f ∷ fs) n []) (part b)) (sym z) (subst (P f) (sym o) (made j f s.0 a e s.1)))
    (λ n.
    let z : k - j ≡ suc (k - (j + 1)) = omega arith in
    subst (λ n. P (get_or (f ∷ fs) n []) (part b)) (sym z) (column_says w c q part P k kept made (j + 1) fs (filled_in j c s.0 a) b (omega arith) (omega arith) s.2))
    (cases_eq j k)

-- THE FOUR COLUMNS

abbrev Numbers : ℕ → List ℕ → Unit {0} → Type 0
Numbers q f u = f ≡ decimal q

abbrev Weighs : List ℕ → ℕ → Type 0
Weighs f n = (n ≤ 1000000) × (f ≡ energy n)

abbrev Marks : List ℕ → Bool → Type 0
Marks f e = ((f ≡ codes "M") × (e ≡ false)) ⊎ ((f ≡ codes "E") × (e ≡ true))

abbrev nothing : Row → Unit {0}
nothing r = tt

abbrev drawn_of : Row → ℕ
drawn_of r = r.drawn

abbrev injected_of : Row → ℕ
injected_of r = r.injected

abbrev estimated_in : Row → Bool
estimated_in r = r.estimated

made_number : (w : ℕ) (c : Columns) (q : ℕ) → q < 96 → Fits w c → Made w c q nothing (Numbers q) c.quarter
made_number w c q lt t j f v r e =
    by_column (λ k. Shows k f v → f ≡ decimal q) w c q j lt
    (λ _ s. s.0)
    (λ g _. absurd (t.quarter_a1 (sym e ∙ g)))
    (λ _ g _. absurd (t.quarter_a2 (sym e ∙ g)))
    (λ g _. absurd (t.quarter_state (sym e ∙ g)))
    (λ n _ _ _ _. absurd (n e))

filled_a1 : (c : Columns) (j n : ℕ) (r : Row) → j ≡ c.a1 → filled_in j c (Amount n) r ≡ record { drawn = n; injected = r.injected; estimated = r.estimated }
filled_a1 c j n r e = cond-true (eqb j c.a1) _ _ (eq-eqb j c.a1 e)

filled_a2 : (c : Columns) (j n : ℕ) (r : Row) → (j ≡ c.a1 → ⊥) → filled_in j c (Amount n) r ≡ record { drawn = r.drawn; injected = n; estimated = r.estimated }
filled_a2 c j n r e = cond-false (eqb j c.a1) _ _ (ne_eqb j c.a1 e)

made_drawn : (w : ℕ) (c : Columns) (q : ℕ) → q < 96 → Fits w c → Made w c q drawn_of Weighs c.a1
made_drawn w c q lt t j f v r e =
    by_column (λ k. Shows k f v → Weighs f (drawn_of (filled_in j c v r))) w c q j lt
    (λ g _. absurd (t.quarter_a1 (sym g ∙ e)))
    (λ g s. subst (Weighs f) (sym (ap (λ x. drawn_of (filled_in j c x r)) s.3 ∙ ap drawn_of (filled_a1 c j s.0 r e))) (s.1, s.2))
    (λ n _ _. absurd (n e))
    (λ g _. absurd (t.a1_state (sym e ∙ g)))
    (λ _ n _ _ _. absurd (n e))

made_injected : (w : ℕ) (c : Columns) (q : ℕ) → q < 96 → Fits w c → Made w c q injected_of Weighs c.a2
made_injected w c q lt t j f v r e =
    by_column (λ k. Shows k f v → Weighs f (injected_of (filled_in j c v r))) w c q j lt
    (λ g _. absurd (t.quarter_a2 (sym g ∙ e)))
    (λ g _. absurd (t.a1_a2 (sym g ∙ e)))
    (λ n g s. subst (Weighs f) (sym (ap (λ x. injected_of (filled_in j c x r)) s.3 ∙ ap injected_of (filled_a2 c j s.0 r n))) (s.1, s.2))
    (λ g _. absurd (t.a2_state (sym e ∙ g)))
    (λ _ _ n _ _. absurd (n e))

made_estimated : (w : ℕ) (c : Columns) (q : ℕ) → q < 96 → Fits w c → Made w c q estimated_in Marks c.state
made_estimated w c q lt t j f v r e =
    by_column (λ k. Shows k f v → Marks f (estimated_in (filled_in j c v r))) w c q j lt
    (λ g _. absurd (t.quarter_state (sym g ∙ e)))
    (λ g _. absurd (t.a1_state (sym g ∙ e)))
    (λ _ g _. absurd (t.a2_state (sym g ∙ e)))
    (λ g s. ⊎_elim (λ m. inl (m.0, ap (λ x. estimated_in (filled_in j c x r)) m.1)) (λ m. inr (m.0, ap (λ x. estimated_in (filled_in j c x r)) m.1)) s)
    (λ _ _ _ n _. absurd (n e))

-- a part of the row that only the field of column k writes
kept_by : {X : Type 0} (w : ℕ) (c : Columns) (q : ℕ) (part : Row → X) (k : ℕ) → q < 96
    → ((c.a1 ≡ k → ⊥) → (n : ℕ) (r : Row) → part (record { drawn = n; injected = r.injected; estimated = r.estimated }) ≡ part r)
    → ((c.a2 ≡ k → ⊥) → (n : ℕ) (r : Row) → part (record { drawn = r.drawn; injected = n; estimated = r.estimated }) ≡ part r)
    → ((c.state ≡ k → ⊥) → (e : Bool) (r : Row) → part (record { drawn = r.drawn; injected = r.injected; estimated = e }) ≡ part r)
    → Kept w c q part k
kept_by w c q part k lt a b m j f v r n =
    by_column (λ x. Shows x f v → part (filled_in j c v r) ≡ part r) w c q j lt
    (λ _ s. ap (λ x. part (filled_in j c x r)) s.1)
    (λ g s. ap (λ x. part (filled_in j c x r)) s.3 ∙ ap part (filled_a1 c j s.0 r g) ∙ a (λ e. n (g ∙ e)) s.0 r)
    (λ o g s. ap (λ x. part (filled_in j c x r)) s.3 ∙ ap part (filled_a2 c j s.0 r o) ∙ b (λ e. n (g ∙ e)) s.0 r)
    (λ g. ⊎_elim (λ s. ap (λ x. part (filled_in j c x r)) s.1 ∙ m (λ e. n (g ∙ e)) false r) (λ s. ap (λ x. part (filled_in j c x r)) s.1 ∙ m (λ e. n (g ∙ e)) true r))
    (λ _ _ _ _ s. ap (λ x. part (filled_in j c x r)) s)

kept_drawn : (w : ℕ) (c : Columns) (q : ℕ) → q < 96 → Kept w c q drawn_of c.a1
kept_drawn w c q lt = kept_by w c q drawn_of c.a1 lt (λ n. absurd (n refl)) (λ _ _ _. refl) (λ _ _ _. refl)

kept_injected : (w : ℕ) (c : Columns) (q : ℕ) → q < 96 → Kept w c q injected_of c.a2
kept_injected w c q lt = kept_by w c q injected_of c.a2 lt (λ _ _ _. refl) (λ n. absurd (n refl)) (λ _ _ _. refl)

kept_estimated : (w : ℕ) (c : Columns) (q : ℕ) → q < 96 → Kept w c q estimated_in c.state
kept_estimated w c q lt = kept_by w c q estimated_in c.state lt (λ _ _ _. refl) (λ _ _ _. refl) (λ n. absurd (n refl))

-- THE READING OF A ROW

abbrev pub reading_by : Row → Reading
reading_by r = cond r.estimated Estimated (Measured (pos r.injected -ℤ pos r.drawn))

marked_by : (f : List ℕ) (r : Row) → Marks f r.estimated → Marked f r.injected r.drawn (reading_by r)
marked_by f r = ⊎_elim (λ m. inl (m.0, cond-false r.estimated _ _ m.1)) (λ m. inr (m.0, cond-true r.estimated _ _ m.1))

noted_is : (rs : List Reading) (q : ℕ) (r : Row) → q < 96 → r.drawn ≤ 1000000 → r.injected ≤ 1000000 → noted_row rs q r ≡ set rs q (reading_by r)
noted_is rs q r h d i =
    let s : reading_of r.injected r.drawn r.estimated ≡ Some (reading_by r)
    = cond-false (ltb 1000000 r.injected) _ _ (le-ltb 1000000 r.injected i) ∙ cond-false (ltb 1000000 r.drawn) _ _ (le-ltb 1000000 r.drawn d) in
    ap (noted_by rs q) s ∙ placed_is rs q (reading_by r) h (reading_within r.injected r.drawn r.estimated (reading_by r) (sym s))

-- a row whose fields are taken is one as it should be, and its reading goes to its quarter
pub row_forth : (w : ℕ) (c : Columns) (q : ℕ) (fs : List (List ℕ)) (a b : Row) (rs : List Reading) → q < 96 → Fits w c → length fs ≡ w → Fills w c q 1 fs a b
    → RowOf w c q fs (reading_by b) × (noted_row rs q b ≡ set rs q (reading_by b))
row_forth w c q fs a b rs lt t wide s =
    let n = column_says w c q nothing (Numbers q) c.quarter (λ _ _ _ _ _ _. refl) (made_number w c q lt t) 1 fs a b t.quarter_from (omega (arith, t.quarter_to)) s in
    let d = column_says w c q drawn_of Weighs c.a1 (kept_drawn w c q lt) (made_drawn w c q lt t) 1 fs a b t.a1_from (omega (arith, t.a1_to)) s in
    let i = column_says w c q injected_of Weighs c.a2 (kept_injected w c q lt) (made_injected w c q lt t) 1 fs a b t.a2_from (omega (arith, t.a2_to)) s in
    let m = column_says w c q estimated_in Marks c.state (kept_estimated w c q lt) (made_estimated w c q lt t) 1 fs a b t.state_from (omega (arith, t.state_to)) s in (
      record {
        wide = wide;
        number = n;
        drawn = b.drawn;
        drawn_to = d.0;
        drawn_in = d.1;
        injected = b.injected;
        injected_to = i.0;
        injected_in = i.1;
        mark = marked_by (field_of c.state fs) b m;
      },
      noted_is rs q b lt d.0 i.0,
    )

-- AND BACK: a row as it should be is taken

energy_one : (n m : ℕ) → n ≤ 1000000 → m ≤ 1000000 → energy n ≡ energy m → n ≡ m
energy_one n m a b e =
    let p : Place = at 1 (record { quarter = 0; a1 = 1; a2 = 0; state = 0 }) 0 1 in
    let s : Amount n ≡ Amount m = says_one p (energy n) (Amount n) (Amount m) (n, a, refl, refl) (m, b, e, refl) in
    cc

mark_one : (f : List ℕ) (i d : ℕ) (r s : Reading) → Marked f i d r → Marked f i d s → r ≡ s
mark_one f i d r s (inl g) (inl h) = g.1 ∙ sym h.1
mark_one f i d r s (inl g) (inr h) = let x = g.0 in let y = h.0 in let z : ◌≡◌ {A = ℕ} 77 69 = cc in absurd (omega arith)
mark_one f i d r s (inr g) (inl h) = let x = g.0 in let y = h.0 in let z : ◌≡◌ {A = ℕ} 77 69 = cc in absurd (omega arith)
mark_one f i d r s (inr g) (inr h) = g.1 ∙ sym h.1

row_one : (w : ℕ) (c : Columns) (q : ℕ) (fs : List (List ℕ)) (r s : Reading) → RowOf w c q fs r → RowOf w c q fs s → r ≡ s
row_one w c q fs r s x y =
    let d = energy_one x.drawn y.drawn x.drawn_to y.drawn_to (sym x.drawn_in ∙ y.drawn_in) in
    let i = energy_one x.injected y.injected x.injected_to y.injected_to (sym x.injected_in ∙ y.injected_in) in
    mark_one (field_of c.state fs) x.injected x.drawn r s x.mark
    (subst (λ n. Marked (field_of c.state fs) x.injected n s) (sym d) (subst (λ n. Marked (field_of c.state fs) n y.drawn s) (sym i) y.mark))

abbrev Speaks : ℕ → Columns → ℕ → ℕ → List (List ℕ) → Type 0
Speaks w c q j fs = (i : ℕ) → j ≤ i → i < j + length fs → (v : Value) × Shows (kind_at (at w c q i)) (get_or fs (i - j) []) v

fills_any : (w : ℕ) (c : Columns) (q j : ℕ) (fs : List (List ℕ)) (a : Row) → Speaks w c q j fs → (b : Row) × Fills w c q j fs a b
fills_any w c q j [] a h = (a, refl)
fills_any w c q j (f ∷ fs) a h =
    let o = h j (omega arith) (omega arith) in
    let z : j - j ≡ 0 = omega arith in
    let s : Shows (kind_at (at w c q j)) f o.0 = subst (λ n. Shows (kind_at (at w c q j)) (get_or (f ∷ fs) n []) o.0) z o.1 in
    let i = fills_any w c q (j + 1) fs (filled_in j c o.0 a) (λ i lo hi.
    let g = h i (omega arith) (omega arith) in
    let y : i - j ≡ suc (i - (j + 1)) = omega arith in
    (g.0, subst (λ n. Shows (kind_at (at w c q i)) (get_or (f ∷ fs) n []) g.0) y g.1)) in
    (i.0, (o.0, s, i.1))

speaks : (w : ℕ) (c : Columns) (q : ℕ) (fs : List (List ℕ)) (r : Reading) → q < 96 → RowOf w c q fs r → Speaks w c q 1 fs
speaks w c q fs r lt x j lo hi =
    by_column (λ k. (v : Value) × Shows k (field_of j fs) v) w c q j lt
    (λ g. (Passed, (ap (λ n. field_of n fs) g ∙ x.number, refl)))
    (λ g. (Amount x.drawn, (x.drawn, x.drawn_to, ap (λ n. field_of n fs) g ∙ x.drawn_in, refl)))
    (λ _ g. (Amount x.injected, (x.injected, x.injected_to, ap (λ n. field_of n fs) g ∙ x.injected_in, refl)))
    (λ g. ⊎_elim (λ m. (Mark false, inl (ap (λ n. field_of n fs) g ∙ m.0, refl))) (λ m. (Mark true, inr (ap (λ n. field_of n fs) g ∙ m.0, refl))) x.mark)
    (λ _ _ _ _. (Passed, refl))

pub row_back : (w : ℕ) (c : Columns) (q : ℕ) (fs : List (List ℕ)) (a : Row) (rs : List Reading) (r : Reading) → q < 96 → Fits w c → RowOf w c q fs r
    → (b : Row) × Fills w c q 1 fs a b × (noted_row rs q b ≡ set rs q r)
row_back w c q fs a rs r lt t x =
    let o = fills_any w c q 1 fs a (speaks w c q fs r lt x) in
    let f = row_forth w c q fs a o.0 rs lt t x.wide o.1 in
    (o.0, o.1, f.1 ∙ ap (set rs q) (row_one w c q fs (reading_by o.0) r f.0 x))
