-- The machine gives what the text means.
use Rattle.std.proofs.Common.{◌≡◌, ℕ, true, false, cond, eqb, List, [], ◌∷◌, Some, None, Ok, Err, Option, Result, sym, refl, ap, ◌∙◌, subst, ⊎_elim}
use Rattle.std.proofs.lemmas.Bool.{cases_Bool, cond-false, eqb-true}
use Rattle.metering.specs.declared.place.Kind.TheVariants.{Name, Beyond}
use Rattle.metering.specs.declared.place.InRow.{InRow}
use Rattle.metering.specs.declared.place.Place.{Place}
use Rattle.metering.specs.declared.place.Place.TheVariants.{Header as AtHeader, Row as AtRow}
use Rattle.metering.specs.declared.reader.Row.{Row as RowSoFar}
use Rattle.metering.specs.declared.reading.Reading.{Reading}
use Rattle.metering.specs.declared.cell.Cell.{Cell}
use Rattle.metering.specs.declared.fault.Fault.{Fault}
use Rattle.metering.specs.Text.{Text, field, rest, separator, grow, cut}
use Rattle.metering.specs.Cells.{start, stepped, finished}
use Rattle.metering.specs.Places.{row_fault, fault_at, row_kind, kind_at}
use Rattle.metering.specs.Progress.{Progress, begun}
use Rattle.metering.specs.Meaning.{Taken, judged, early, ended, Goes, Means}
use Rattle.metering.specs.Machine.{fresh, within, ends, proceed, runs, begin}
use Rattle.metering.proofs.Fields.{onward, ran, read_from, name_ran, reads_at}

abbrev pub stage : Place → RowSoFar → List Reading → Progress
stage p r rs = record { place = p; row = r; readings = rs }

pub kind_96 : (p : InRow) → p.quarter ≡ 96 → row_kind p ≡ Beyond
kind_96 p e = rw e

-- the text ends inside a field: its state may have refused a byte before
abbrev ends_in : Progress → Option Cell → Result Taken Fault
ends_in h None = Err (fault_at h.place)
ends_in h (Some c) = ended h []

-- the text from inside a field on, of which the state knows what was read
abbrev means_from : Progress → Cell → Text → Result Taken Fault
means_from h c (field f s t) = proceed (judged h s (read_from (kind_at h.place) c f)) (λ n. means_from n (start (kind_at n.place)) t)
means_from h c (rest r) = ends_in h (ran c r)

abbrev stepped_on : Progress → Option Cell → Text → Result Taken Fault
stepped_on h None t = Err (fault_at h.place)
stepped_on h (Some d) t = means_from h d t

grown : (h : Progress) (c : Cell) (b : ℕ) (t : Text) → stepped_on h (stepped c b) t ≡ means_from h c (grow b t)
grown h c b (field f s t) =
    elim (stepped c b) as (λ o. stepped_on h o (field f s t) ≡ proceed (judged h s (onward (onward o (λ d. ran d f)) (finished (kind_at h.place)))) (λ n. means_from n (start (kind_at n.place)) t))
    [ None ↦ refl | Some d ↦ refl ]
grown h c b (rest r) =
    elim (stepped c b) as (λ o. stepped_on h o (rest r) ≡ ends_in h (onward o (λ d. ran d r)))
    [ None ↦ refl | Some d ↦ refl ]

runs_from : (h : Progress) (c : Cell) (t : List ℕ) → runs (record { progress = h; cell = c }) t ≡ means_from h c (cut t)
runs_from h c [] = refl
runs_from h c (b ∷ bs) =
    elim (separator b) as (λ z. proceed (cond z (ends (record { progress = h; cell = c }) b) (within (record { progress = h; cell = c }) (stepped c b))) (λ n. runs n bs)
    ≡ means_from h c (cond z (field [] b (cut bs)) (grow b (cut bs)))) [
      | true ↦ elim (judged h b (finished (kind_at h.place) c)) as (λ o. proceed (fresh o) (λ n. runs n bs) ≡ proceed o (λ n. means_from n (start (kind_at n.place)) (cut bs)))
          [ Ok n ↦ runs_from n (start (kind_at n.place)) bs | Err e ↦ refl ]
      | false ↦ elim (stepped c b) as (λ o. proceed (within (record { progress = h; cell = c }) o) (λ n. runs n bs) ≡ stepped_on h o (cut bs))
          [ None ↦ refl | Some d ↦ runs_from h d bs ] ∙ grown h c b (cut bs)
    ]

after_last : (p : Option Cell) (h : Progress) (z : Result Taken Fault) → ended h [] ≡ z → Err (fault_at h.place) ≡ z → ends_in h p ≡ z
after_last None h z a b = b
after_last (Some c) h z a b = a

-- a field that the end of the text cuts off, after its first byte
cut_off : (p : Place) (a : RowSoFar) (rs : List Reading) (b : ℕ) (bs : List ℕ) → means_from (stage p a rs) (start (kind_at p)) (rest (b ∷ bs)) ≡ Err (early p)
cut_off (AtHeader p) a rs b bs = ap (ends_in (stage (AtHeader p) a rs)) (name_ran (b ∷ bs)).1
cut_off (AtRow p) a rs b bs =
    ⊎_elim
    (λ e. ap (λ k. ends_in (stage (AtRow p) a rs) (ran (start k) (b ∷ bs))) (kind_96 p (eqb-true p.quarter 96 e)))
    (λ e. after_last (ran (start (row_kind p)) (b ∷ bs)) (stage (AtRow p) a rs) (Err (row_fault p)) (cond-false _ _ _ e) refl)
    (cases_Bool (eqb p.quarter 96))

at_end : (h : Progress) (r : List ℕ) → means_from h (start (kind_at h.place)) (rest r) ≡ ended h r
at_end h [] = refl
at_end h (b ∷ bs) = cut_off h.place h.row h.readings b bs

means_of : (h : Progress) (t : Text) → Means h t (means_from h (start (kind_at h.place)) t)
means_of h (rest r) = at_end h r
means_of h (field f s t) = (
  read_from (kind_at h.place) (start (kind_at h.place)) f,
  reads_at h.place f,
  elim (judged h s (read_from (kind_at h.place) (start (kind_at h.place)) f)) as (λ o.
      Goes o (λ n. Means n t (proceed o (λ n. means_from n (start (kind_at n.place)) t))) (λ e. proceed o (λ n. means_from n (start (kind_at n.place)) t) ≡ Err e))
      [ Ok n ↦ means_of n t | Err e ↦ refl ],
)

pub runs_mean : (t : List ℕ) → Means begun (cut t) (runs begin t)
runs_mean t = subst (Means begun (cut t)) (sym (runs_from begun (start Name) t)) (means_of begun (cut t))
