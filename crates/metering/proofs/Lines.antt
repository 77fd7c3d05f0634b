-- One line of a row: its fields in their order, and the row that they fill.
use Rattle.std.proofs.Common.{◌≡◌, ℕ, ◌+◌, ◌<◌, true, eqb, leb, ◌⊎◌, List, [], ◌∷◌, length, Some, None, Ok, Err, Result, sym, refl, ap, ◌∙◌, subst, inl, inr, ⊎_elim, arith}
use Rattle.std.proofs.lemmas.Bool.Decides.{nat_tests}
use Rattle.std.proofs.lemmas.Bool.{cond_both, cond-true, cond-false, lt-leb, leb-true, eq-eqb, ne_eqb, eqb-true, eqb-false}
use Rattle.metering.specs.declared.reading.Reading.{Reading}
use Rattle.metering.specs.declared.place.Kind.{Kind}
use Rattle.metering.specs.declared.place.Kind.TheVariants.{Count, Energy, Letter, Skipped}
use Rattle.metering.specs.declared.place.Value.{Value}
use Rattle.metering.specs.declared.columns.Columns.{Columns}
use Rattle.metering.specs.declared.place.InRow.{InRow}
use Rattle.metering.specs.declared.place.Place.{Place}
use Rattle.metering.specs.declared.place.Place.TheVariants.{Row as AtRow}
use Rattle.metering.specs.declared.reader.Row.{Row}
use Rattle.metering.specs.declared.fault.Fault.{Fault}
use Rattle.metering.specs.declared.fault.Fault.TheVariants.{Row as Late}
use Rattle.metering.specs.Text.{Text, field, rest, separator}
use Rattle.metering.specs.Places.{kind_at, after_field}
use Rattle.metering.specs.Cells.{Shows, Read}
use Rattle.metering.specs.Progress.{filled_in, noted_row, going}
use Rattle.metering.specs.Meaning.{Taken, judged, ended, Goes, Means}
use Rattle.metering.specs.Export.{PlainAll}
use Rattle.metering.proofs.Cutting.{Clean, laid}
use Rattle.metering.proofs.Judged.{not_both}
use Rattle.metering.proofs.Runs.{stage}

-- a field of the row of quarter q
abbrev pub row_at : ℕ → Columns → ℕ → ℕ → InRow
row_at w c q j = record { quarter = q; column = j; width = w; columns = c }

abbrev pub at : ℕ → Columns → ℕ → ℕ → Place
at w c q j = AtRow (row_at w c q j)

-- the fields of the row of quarter q from column j on say values, which make row b of row a
abbrev pub Fills : ℕ → Columns → ℕ → ℕ → List (List ℕ) → Row → Row → Type 0
Fills w c q j [] a b = b ≡ a
Fills w c q j (f ∷ fs) a b = (v : Value) × Shows (kind_at (at w c q j)) f v × Fills w c q (j + 1) fs (filled_in j c v a) b

-- what holds of the kind that each column of a row has
pub by_column : (P : Kind → Type 0) (w : ℕ) (c : Columns) (q j : ℕ) → q < 96
    → (j ≡ c.quarter → P (Count q))
    → (j ≡ c.a1 → P Energy)
    → ((j ≡ c.a1 → ⊥) → j ≡ c.a2 → P Energy)
    → (j ≡ c.state → P Letter)
    → ((j ≡ c.quarter → ⊥) → (j ≡ c.a1 → ⊥) → (j ≡ c.a2 → ⊥) → (j ≡ c.state → ⊥) → P Skipped)
    → P (kind_at (at w c q j))
by_column P w c q j lt n a b s o =
    cond_both (leb 96 q) _ _ P (λ e. let x = leb-true 96 q e in absurd (omega arith)) (λ _.
    cond_both (eqb j c.quarter) _ _ P (λ e. n (eqb-true j c.quarter e)) (λ nq.
    cond_both (eqb j c.a1) _ _ P (λ e. a (eqb-true j c.a1 e)) (λ na.
    cond_both (eqb j c.a2) _ _ P (λ e. b (eqb-false j c.a1 na) (eqb-true j c.a2 e)) (λ nb.
    cond_both (eqb j c.state) _ _ P (λ e. s (eqb-true j c.state e))
    (λ ns. o (eqb-false j c.quarter nq) (eqb-false j c.a1 na) (eqb-false j c.a2 nb) (eqb-false j c.state ns))))))

-- A LINE THAT IS TAKEN

on_turn : (w : ℕ) (c : Columns) (q j : ℕ) → j < w → after_field (row_at w c q j) 59 ≡ Ok (at w c q (j + 1))
on_turn w c q j h = cond-false (leb w j) _ _ (lt-leb w j h)

end_turn : (w : ℕ) (c : Columns) (q j : ℕ) → q < 96 → j ≡ w → after_field (row_at w c q j) 10 ≡ Ok (at w c (q + 1) 1)
end_turn w c q j h e = cond-true (eqb j w) _ _ (eq-eqb j w e) ∙ cond-false (leb 96 q) _ _ (lt-leb 96 q h)

pub line_back : (w : ℕ) (c : Columns) (q j : ℕ) (f : List ℕ) (fs : List (List ℕ)) (a b : Row) (rs : List Reading) (t : Text) (r : Result Taken Fault)
    → q < 96 → j + length fs ≡ w → Fills w c q j (f ∷ fs) a b
    → Means (stage (at w c (q + 1) 1) b (noted_row rs q b)) t r → Means (stage (at w c q j) a rs) (laid f fs t) r
line_back w c q j f [] a b rs t r lt e s m =
    let n : Means (stage (at w c (q + 1) 1) (filled_in j c s.0 a) (noted_row rs q (filled_in j c s.0 a))) t r
    = subst (λ x. Means (stage (at w c (q + 1) 1) x (noted_row rs q x)) t r) s.2 m in (
      Some s.0,
      s.1,
      subst (λ y. Goes (going (stage (at w c q j) a rs) 10 (filled_in j c s.0 a) y) (λ n. Means n t r) (λ e. r ≡ Err e))
          (sym (end_turn w c q j lt (omega arith))) n,
    )
line_back w c q j f (g ∷ gs) a b rs t r lt e s m = (
  Some s.0,
  s.1,
  subst (λ y. Goes (going (stage (at w c q j) a rs) 59 (filled_in j c s.0 a) y) (λ n. Means n (laid g gs t) r) (λ e. r ≡ Err e))
      (sym (on_turn w c q j (omega arith)))
      (line_back w c q (j + 1) g gs (filled_in j c s.0 a) b rs t r lt (omega arith) s.2 m),
)

-- AND SO IT STANDS IN EACH TEXT THAT IS TAKEN

pub record Began (w : ℕ) (c : Columns) (q j : ℕ) (a : Row) (rs : List Reading) (x : Text) (t : Taken) : Type 0 where
  pub first : List ℕ
  pub others : List (List ℕ)
  pub row : Row
  pub beyond : Text
  pub is : x ≡ laid first others beyond
  pub wide : j + length others ≡ w
  pub plain : PlainAll (first ∷ others)
  pub fills : Fills w c q j (first ∷ others) a row
  pub clean : Clean beyond
  pub means : Means (stage (at w c (q + 1) 1) row (noted_row rs q row)) beyond (Ok t)

abbrev Way : ℕ → Columns → ℕ → ℕ → ℕ → Result Place Fault → Type 0
Way w c q j s o =
    ((e : Fault) × (o ≡ Err e))
    ⊎ (((s ≡ 59) × (o ≡ Ok (at w c q (j + 1)))) ⊎ ((s ≡ 59 → ⊥) × (j ≡ w) × (o ≡ Ok (at w c (q + 1) 1))))

ways : (w : ℕ) (c : Columns) (q j s : ℕ) → Way w c q j s (after_field (row_at w c q j) s)
ways w c q j s =
    cond_both (eqb s 59) _ _ (Way w c q j s)
    (λ e. cond_both (leb w j) _ _ (Way w c q j s) (λ _. inl (_, refl)) (λ g. inr (inl (eqb-true s 59 e, refl))))
    (λ e. cond_both (eqb j w) _ _ (Way w c q j s)
    (λ g. cond_both (leb 96 q) _ _ (Way w c q j s) (λ _. inl (_, refl)) (λ _. inr (inr (eqb-false s 59 e, eqb-true j w g, refl)))) (λ _. inl (_, refl)))

pub ten : (s : ℕ) → separator s ≡ true → (s ≡ 59 → ⊥) → s ≡ 10
ten s h n = grind (arith, nat_tests)

no_rest : (w : ℕ) (c : Columns) (q j : ℕ) (a : Row) (rs : List Reading) (t : Taken) (f : List ℕ) → q < 96 → ◌≡◌ {A = Result Taken Fault} (Ok t) (ended (stage (at w c q j) a rs) f) → ⊥
no_rest w c q j a rs t [] lt e = not_both t (Late (q + 2) j) (e ∙ cond-false (eqb q 96) _ _ (ne_eqb q 96 (λ z. omega arith)))
no_rest w c q j a rs t (b ∷ bs) lt e = not_both t (Late (q + 2) j) e

pub line_forth : (w : ℕ) (c : Columns) (q j : ℕ) (a : Row) (rs : List Reading) (x : Text) (t : Taken)
    → q < 96 → Clean x → Means (stage (at w c q j) a rs) x (Ok t) → Began w c q j a rs x t
line_forth w c q j a rs (rest f) t lt cl m = absurd (no_rest w c q j a rs t f lt m)
line_forth w c q j a rs (field f s y) t lt cl m =
    elim m.0 as (λ o. Read (kind_at (at w c q j)) f o → Goes (judged (stage (at w c q j) a rs) s o) (λ n. Means n y (Ok t)) (λ e. ◌≡◌ {A = Result Taken Fault} (Ok t) (Err e)) → Began w c q j a rs (field f s y) t) [
      | None ↦ λ _ g. absurd (not_both t _ g)
      | Some v ↦ λ sh g.
          let B : Result Place Fault → Type 0 = λ o. Goes (going (stage (at w c q j) a rs) s (filled_in j c v a) o) (λ n. Means n y (Ok t)) (λ e. ◌≡◌ {A = Result Taken Fault} (Ok t) (Err e)) in
          ⊎_elim (λ e. absurd (not_both t e.0 (subst B e.1 g)))
          (⊎_elim
          (λ e.
          let g3 = subst (λ z. Means (stage (at w c q (j + 1)) (filled_in j c v a) z) y (Ok t)) (cond-false (eqb s 10) _ _ (ne_eqb s 10 (λ z. let k = e.0 in omega arith))) (subst B e.1 g) in
          let i = line_forth w c q (j + 1) (filled_in j c v a) rs y t lt cl.2 g3 in
          record {
            first = f;
            others = i.first ∷ i.others;
            row = i.row;
            beyond = i.beyond;
            is = ap (λ n. field f n y) e.0 ∙ ap (field f 59) i.is;
            wide = omega (arith, i.wide);
            plain = (cl.0, i.plain);
            fills = (v, sh, i.fills);
            clean = i.clean;
            means = i.means;
          })
          (λ e.
          let k = ten s cl.1 e.0 in
          let g3 = subst (λ z. Means (stage (at w c (q + 1) 1) (filled_in j c v a) z) y (Ok t)) (cond-true (eqb s 10) _ _ (eq-eqb s 10 k)) (subst B e.2 g) in
          record {
            first = f;
            others = [];
            row = filled_in j c v a;
            beyond = y;
            is = ap (λ n. field f n y) k;
            wide = omega (arith, e.1);
            plain = (cl.0, tt);
            fills = (v, sh, refl);
            clean = cl.2;
            means = g3;
          }))
          (ways w c q j s)
    ] m.1 m.2
