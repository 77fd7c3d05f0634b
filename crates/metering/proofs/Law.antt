-- A text gives a curve just where it is a well-formed export of it.
use Rattle.std.proofs.Common.{◌≡◌, ℕ, ◌+◌, ◌<◌, ◌≤◌, List, [], ◌∷◌, length, get_or, Ok, Result, sym, refl, ap, ◌∙◌, subst, ⊎_elim, arith}
use lib.ListN.{length-replicate}
use Rattle.std.proofs.lemmas.Bool.{cases_lt}
use Rattle.metering.specs.declared.columns.Columns.{Columns}
use Rattle.metering.specs.declared.fault.Fault.{Fault}
use Rattle.metering.specs.declared.fault.Fault.TheVariants.{Header}
use Rattle.metering.specs.declared.reading.Reading.TheVariants.{Estimated}
use Rattle.metering.specs.Readings.{reading_in}
use Rattle.metering.specs.Text.{Text, cut}
use Rattle.metering.specs.Progress.{begun}
use Rattle.metering.specs.Meaning.{Taken, Means, Imports}
use Rattle.metering.specs.Export.{PlainAll, Heading, RowOf, Export, Exactly}
use Rattle.metering.proofs.Cutting.{spelled, Clean, laid_of, lines, cut_good, cut_written, spelled_lines}
use Rattle.metering.proofs.Judged.{not_both, means_one}
use Rattle.metering.proofs.Lines.{at}
use Rattle.metering.proofs.Rows.{Fits}
use Rattle.metering.proofs.Runs.{stage}
use Rattle.metering.proofs.Tables.{table_forth, table_back}
use Rattle.metering.proofs.Headings.{none, all_of, heading_of, names_of, heading_fits}
use Rattle.metering.proofs.FirstLine.{names_forth, names_back}

blank : length begun.readings ≡ 96
blank = length-replicate 96 Estimated

-- EACH TEXT THAT IS TAKEN IS AN EXPORT

rows_sound : (text : List ℕ) (t : Taken) (names : List (List ℕ)) (c : Columns) (y : Text) → length text ≤ 65535 → PlainAll names → text ≡ spelled (laid_of names y) → Clean y
    → Heading names c → Means (stage (at (length names) c 0 1) begun.row begun.readings) y (Ok t) → Export text t
rows_sound text t names c y short plain is cl head m =
    let b = table_forth 96 (length names) c 0 begun.row begun.readings y t refl (heading_fits names c head) blank cl m in
    record {
      names = names;
      rows = b.rows;
      short = short;
      plain = (plain, b.plain);
      text_is = is ∙ ap (λ x. spelled (laid_of names x)) b.is ∙ spelled_lines (names ∷ b.rows);
      heading = subst (Heading names) (sym b.columns) head;
      width = b.width;
      tall = b.tall;
      full = b.full;
      each = λ q h.
          let z : 0 + q ≡ q = omega arith in
          subst (λ k. RowOf t.width t.columns k (get_or b.rows q []) (reading_in t.readings k)) z
          (subst (λ k. RowOf t.width k (0 + q) (get_or b.rows q []) (reading_in t.readings (0 + q))) (sym b.columns)
          (subst (λ k. RowOf k c (0 + q) (get_or b.rows q []) (reading_in t.readings (0 + q))) (sym b.width) (b.each q h)));
    }

sound : (text : List ℕ) (t : Taken) → length text ≤ 65535 → Means begun (cut text) (Ok t) → Export text t
sound text t short m =
    let g = cut_good text in
    let h = names_forth none 1 begun.row begun.readings (cut text) t (omega arith) g.1 m in
    let w : 1 + length h.others ≡ length (h.first ∷ h.others) = omega arith in
    rows_sound text t (h.first ∷ h.others) h.columns h.beyond short h.plain (sym g.0 ∙ ap spelled h.is) h.clean
    (heading_of (h.first ∷ h.others) h.sought h.columns (omega arith) (omega (arith, h.few)) h.names h.whole)
    (subst (λ k. Means (stage (at k h.columns 0 1) begun.row begun.readings) h.beyond (Ok t)) w h.means)

-- AND EACH EXPORT IS TAKEN

lines_complete : (t : Taken) (names : List (List ℕ)) (rows : List (List (List ℕ))) → Heading names t.columns → t.width ≡ length names → length rows ≡ 96 → length t.readings ≡ 96
    → ((q : ℕ) → q < 96 → RowOf t.width t.columns q (get_or rows q []) (reading_in t.readings q)) → Means begun (lines (names ∷ rows)) (Ok t)
lines_complete t [] rows head width tall full each = let x = head.some in absurd (omega arith)
lines_complete t (f ∷ fs) rows head width tall full each =
    let w : t.width ≡ 1 + length fs = omega arith in
    let fits = subst (λ k. Fits k t.columns) (sym width) (heading_fits (f ∷ fs) t.columns head) in
    let b = table_back rows 0 begun.row begun.readings t (omega arith) fits blank full
    (λ k h. let z : k ≡ 0 + k = omega arith in subst (λ n. RowOf t.width t.columns n (get_or rows k []) (reading_in t.readings n)) z (each k (omega arith)))
    (λ k h. absurd (omega arith)) in
    names_back none (all_of t.columns) t.columns 1 f fs begun.row begun.readings (lines rows) (Ok t) (omega (arith, head.few)) (names_of (f ∷ fs) t.columns head) refl
    (subst (λ k. Means (stage (at k t.columns 0 1) begun.row begun.readings) (lines rows) (Ok t)) w b)

complete : (text : List ℕ) (t : Taken) → Export text t → Means begun (cut text) (Ok t)
complete text t x =
    subst (λ y. Means begun y (Ok t)) (sym (ap cut x.text_is ∙ cut_written (x.names ∷ x.rows) x.plain))
    (lines_complete t x.names x.rows x.heading x.width x.tall x.full x.each)

pub exactly : (text : List ℕ) (r : Result Taken Fault) → Imports text r → Exactly text r
exactly text r i t = (
  λ e. ⊎_elim (λ h. absurd (not_both t (Header 0) (sym e ∙ i.0 h))) (λ h. sound text t h (subst (Means begun (cut text)) e (i.1 h))) (cases_lt 65535 (length text)),
  λ x. means_one begun (cut text) r (Ok t) (i.1 x.short) (complete text t x),
)
