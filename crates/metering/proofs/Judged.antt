-- A text means one thing.
use Rattle.std.proofs.Common.{◌≡◌, ℕ, List, Some, None, Ok, Err, Option, Result, sym, refl, ap, ◌∙◌, subst}
use Rattle.metering.specs.declared.place.Value.{Value}
use Rattle.metering.specs.declared.place.Place.{Place}
use Rattle.metering.specs.declared.fault.Fault.{Fault}
use Rattle.metering.specs.Text.{Text, field, rest}
use Rattle.metering.specs.Places.{kind_at}
use Rattle.metering.specs.Cells.{Read}
use Rattle.metering.specs.Progress.{Progress}
use Rattle.metering.specs.Meaning.{Taken, judged, Goes, Means}
use Rattle.metering.proofs.Fields.{says_one}

pub not_both : (t : Taken) (e : Fault) → ◌≡◌ {A = Result Taken Fault} (Ok t) (Err e) → ⊥
not_both t e h = cc

read_one : (p : Place) (f : List ℕ) (x y : Option Value) → Read (kind_at p) f x → Read (kind_at p) f y → x ≡ y
read_one p f None None g h = refl
read_one p f None (Some w) g h = absurd (g w h)
read_one p f (Some v) None g h = absurd (h v g)
read_one p f (Some v) (Some w) g h = ap Some (says_one p f v w g h)

pub means_one : (h : Progress) (x : Text) (a b : Result Taken Fault) → Means h x a → Means h x b → a ≡ b
means_one h (rest f) a b m n = m ∙ sym n
means_one h (field f s t) a b m n =
    let e = read_one h.place f m.0 n.0 m.1 n.1 in
    let n2 : Goes (judged h s m.0) (λ k. Means k t b) (λ e. b ≡ Err e) = subst (λ o. Goes (judged h s o) (λ k. Means k t b) (λ e. b ≡ Err e)) (sym e) n.2 in
    elim (judged h s m.0) as (λ o. Goes o (λ k. Means k t a) (λ e. a ≡ Err e) → Goes o (λ k. Means k t b) (λ e. b ≡ Err e) → a ≡ b)
    [ Ok k ↦ λ x y. means_one k t a b x y | Err e ↦ λ x y. x ∙ sym y ] m.2 n2
