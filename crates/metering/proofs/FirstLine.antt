-- The first line, name by name.
use Rattle.std.proofs.Common.{◌≡◌, ℕ, ◌+◌, ◌<◌, ◌≤◌, eqb, leb, ◌⊎◌, List, [], ◌∷◌, length, Some, None, Ok, Err, Option, Result, sym, refl, ap, ◌∙◌, subst, inl, inr, ⊎_elim, arith}
use Rattle.std.proofs.lemmas.Bool.{cond_both, cond-true, cond-false, eq-eqb, ne_eqb, eqb-true, eqb-false, lt-leb, leb-false}
use Rattle.metering.specs.declared.reading.Reading.{Reading}
use Rattle.metering.specs.declared.place.Kind.TheVariants.{Name}
use Rattle.metering.specs.declared.place.Value.TheVariants.{Named}
use Rattle.metering.specs.declared.columns.Columns.{Columns}
use Rattle.metering.specs.declared.columns.Sought.{Sought}
use Rattle.metering.specs.declared.place.Place.{Place}
use Rattle.metering.specs.declared.place.Place.TheVariants.{Header as AtHeader}
use Rattle.metering.specs.declared.reader.Row.{Row}
use Rattle.metering.specs.declared.fault.Fault.{Fault}
use Rattle.metering.specs.Text.{Text, field, rest}
use Rattle.metering.specs.Places.{named, found, rows_from, headed}
use Rattle.metering.specs.Cells.{column_of, Read}
use Rattle.metering.specs.Progress.{going}
use Rattle.metering.specs.Meaning.{Taken, judged, ended, Goes, Means}
use Rattle.metering.specs.Export.{PlainAll}
use Rattle.metering.proofs.Cutting.{Clean, laid}
use Rattle.metering.proofs.Judged.{not_both}
use Rattle.metering.proofs.Runs.{stage}
use Rattle.metering.proofs.Lines.{at, ten}
use Rattle.metering.proofs.Headings.{Names}

-- a field of the first line
abbrev pub head : ℕ → Sought → Place
head j c = AtHeader (record { column = j; sought = c })

on_name : (m : Sought) (j : ℕ) → j < 16 → headed j 59 (Some m) ≡ Ok (head (j + 1) m)
on_name m j h = cond-false (leb 16 j) _ _ (lt-leb 16 j h)

pub names_back : (c d : Sought) (e : Columns) (j : ℕ) (f : List ℕ) (fs : List (List ℕ)) (a : Row) (rs : List Reading) (t : Text) (r : Result Taken Fault)
    → j + length fs ≤ 16 → Names c j (f ∷ fs) d → found d ≡ Some e
    → Means (stage (at (j + length fs) e 0 1) a rs) t r → Means (stage (head j c) a rs) (laid f fs t) r
names_back c d e j f [] a rs t r few s h m =
    let z : j + length {A = List ℕ} [] ≡ j = omega arith in
    let m2 = subst (λ k. Means (stage (at k e 0 1) a rs) t r) z m in
    let n : named c (column_of f) j ≡ Some d = s.1 ∙ ap Some (sym s.2) in (
      Some (Named (column_of f)),
      refl,
      subst (λ y. Goes (going (stage (head j c) a rs) 10 a y) (λ n. Means n t r) (λ e. r ≡ Err e))
          (sym (ap (headed j 10) n ∙ ap (rows_from j) h)) m2,
    )
names_back c d e j f (g ∷ gs) a rs t r few s h m =
    let z : j + length (g ∷ gs) ≡ j + 1 + length gs = omega arith in
    let m2 = subst (λ k. Means (stage (at k e 0 1) a rs) t r) z m in (
      Some (Named (column_of f)),
      refl,
      subst (λ y. Goes (going (stage (head j c) a rs) 59 a y) (λ n. Means n (laid g gs t) r) (λ e. r ≡ Err e))
          (sym (ap (headed j 59) s.1 ∙ on_name s.0 j (omega arith)))
          (names_back s.0 d e (j + 1) g gs a rs t r (omega arith) s.2 h m2),
    )

pub record Headed (c : Sought) (j : ℕ) (a : Row) (rs : List Reading) (x : Text) (t : Taken) : Type 0 where
  pub first : List ℕ
  pub others : List (List ℕ)
  pub sought : Sought
  pub columns : Columns
  pub beyond : Text
  pub is : x ≡ laid first others beyond
  pub few : j + length others ≤ 16
  pub plain : PlainAll (first ∷ others)
  pub names : Names c j (first ∷ others) sought
  pub whole : found sought ≡ Some columns
  pub clean : Clean beyond
  pub means : Means (stage (at (j + length others) columns 0 1) a rs) beyond (Ok t)

abbrev Way : ℕ → ℕ → Option Sought → Result Place Fault → Type 0
Way j s q o =
    ((e : Fault) × (o ≡ Err e))
    ⊎ (((m : Sought) × (q ≡ Some m) × (s ≡ 59) × (j < 16) × (o ≡ Ok (head (j + 1) m)))
    ⊎ ((m : Sought) × (c : Columns) × (q ≡ Some m) × (s ≡ 59 → ⊥) × (found m ≡ Some c) × (o ≡ Ok (at j c 0 1))))

rows_way : (j s : ℕ) (m : Sought) (o : Option Columns) → (s ≡ 59 → ⊥) → found m ≡ o → Way j s (Some m) (rows_from j o)
rows_way j s m None n e = inl (_, refl)
rows_way j s m (Some c) n e = inr (inr (m, c, refl, n, e, refl))

ways : (j s : ℕ) (q : Option Sought) → Way j s q (headed j s q)
ways j s None = inl (_, refl)
ways j s (Some m) =
    cond_both (eqb s 59) _ _ (Way j s (Some m))
    (λ e. cond_both (leb 16 j) _ _ (Way j s (Some m)) (λ _. inl (_, refl)) (λ g. inr (inl (m, refl, eqb-true s 59 e, leb-false 16 j g, refl))))
    (λ e. rows_way j s m (found m) (eqb-false s 59 e) refl)

no_rest : (j : ℕ) (c : Sought) (a : Row) (rs : List Reading) (t : Taken) (f : List ℕ) → ◌≡◌ {A = Result Taken Fault} (Ok t) (ended (stage (head j c) a rs) f) → ⊥
no_rest j c a rs t [] e = not_both t _ e
no_rest j c a rs t (b ∷ bs) e = not_both t _ e

pub names_forth : (c : Sought) (j : ℕ) (a : Row) (rs : List Reading) (x : Text) (t : Taken)
    → j ≤ 16 → Clean x → Means (stage (head j c) a rs) x (Ok t) → Headed c j a rs x t
names_forth c j a rs (rest f) t few cl m = absurd (no_rest j c a rs t f m)
names_forth c j a rs (field f s y) t few cl m =
    elim m.0 as (λ o. Read Name f o → Goes (judged (stage (head j c) a rs) s o) (λ n. Means n y (Ok t)) (λ e. ◌≡◌ {A = Result Taken Fault} (Ok t) (Err e)) → Headed c j a rs (field f s y) t) [
      | None ↦ λ _ g. absurd (not_both t _ g)
      | Some v ↦ λ sh g.
          let B : Result Place Fault → Type 0 = λ o. Goes (going (stage (head j c) a rs) s a o) (λ n. Means n y (Ok t)) (λ e. ◌≡◌ {A = Result Taken Fault} (Ok t) (Err e)) in
          let g2 : B (headed j s (named c (column_of f) j))
          = subst (λ v. Goes (judged (stage (head j c) a rs) s (Some v)) (λ n. Means n y (Ok t)) (λ e. ◌≡◌ {A = Result Taken Fault} (Ok t) (Err e))) sh g in
          ⊎_elim (λ e. absurd (not_both t e.0 (subst B e.1 g2)))
          (⊎_elim
          (λ e.
          let g3 = subst (λ z. Means (stage (head (j + 1) e.0) a z) y (Ok t)) (cond-false (eqb s 10) _ _ (ne_eqb s 10 (λ z. let k = e.2 in omega arith))) (subst B e.4 g2) in
          let i = names_forth e.0 (j + 1) a rs y t (omega (arith, e.3)) cl.2 g3 in
          let z : j + 1 + length i.others ≡ j + length (i.first ∷ i.others) = omega arith in
          record {
            first = f;
            others = i.first ∷ i.others;
            sought = i.sought;
            columns = i.columns;
            beyond = i.beyond;
            is = ap (λ n. field f n y) e.2 ∙ ap (field f 59) i.is;
            few = omega (arith, i.few);
            plain = (cl.0, i.plain);
            names = (e.0, e.1, i.names);
            whole = i.whole;
            clean = i.clean;
            means = subst (λ k. Means (stage (at k i.columns 0 1) a rs) i.beyond (Ok t)) z i.means;
          })
          (λ e.
          let k = ten s cl.1 e.3 in
          let g3 = subst (λ z. Means (stage (at j e.1 0 1) a z) y (Ok t)) (cond-true (eqb s 10) _ _ (eq-eqb s 10 k)) (subst B e.5 g2) in
          let z : j ≡ j + length {A = List ℕ} [] = omega arith in
          record {
            first = f;
            others = [];
            sought = e.0;
            columns = e.1;
            beyond = y;
            is = ap (λ n. field f n y) k;
            few = omega arith;
            plain = (cl.0, tt);
            names = (e.0, e.2, refl);
            whole = e.4;
            clean = cl.2;
            means = subst (λ k. Means (stage (at k e.1 0 1) a rs) y (Ok t)) z g3;
          }))
          (ways j s (named c (column_of f) j))
    ] m.1 m.2
