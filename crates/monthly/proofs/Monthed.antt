-- The month from its days, its sums and its figures.
use Rattle.std.proofs.Common.{◌≡◌, ℕ, List, Some, None, Ok, Err, Option, refl, sym, ap, subst, ◌∙◌, zero-add, arith}
use Rattle.ledger.specs.declared.fault.BookFault.TheVariants.{NoMonth}
use Rattle.ledger.specs.declared.terms.Terms.{Terms}
use Rattle.ledger.specs.declared.records.Booked.{Booked}
use Rattle.ledger.specs.declared.records.Outcome.{Outcome}
use Rattle.ledger.specs.declared.records.Declaration.{Declaration}
use Rattle.ledger.specs.declared.records.Month.{Month}
use Rattle.monthly.specs.declared.month.Sums.{Sums}
use Rattle.std.specs.Option.{ok_or}
use Rattle.monthly.specs.declared.days.MonthDays.{MonthDays}
use Rattle.monthly.specs.Days.{AreDaysOf}
use Rattle.ledger.specs.Words.{Granted, ◌>>=◌}
use Rattle.ledger.specs.Book.{Book, outcomes_in, available, offered, days_of, month_figures, month_of}
use Rattle.monthly.specs.Monthly.{month_from, sums_of, plus, sums_with, no_sums, sums_in, figures_from}

-- the month of a book is that of its parts
pub month_of_parts : (b : Book) (y m : ℕ) → month_of b y m ≡ month_from b.terms b.orders b.declarations y m
month_of_parts b y m = refl

from_nothing : (xs : List Outcome) → plus no_sums (sums_of xs) ≡ sums_of xs
from_nothing xs = simp zero-add

from_sums : (t : Terms) (av di : ℕ) (a : Sums) (r : Granted (List Outcome)) → Ok a ≡ sums_with no_sums r → Ok (figures_from t av di a) ≡ (r >>= (λ xs. Ok (month_figures t av di xs)))
from_sums t av di a (Err e) h = absurd (grind arith)
from_sums t av di a (Ok xs) h = let e : a ≡ plus no_sums (sums_of xs) = grind arith in ap (λ (z : Sums). Ok (figures_from t av di z)) (e ∙ from_nothing xs)

-- the days that were asked for, where they are there
pub days_there : (y m : ℕ) (o : Option MonthDays) (d : MonthDays) → AreDaysOf y m o → ok_or o NoMonth ≡ Ok d → AreDaysOf y m (Some d)
days_there y m None d h e = cc
days_there y m (Some x) d h e = let f : x ≡ d = cc in subst (λ (z : MonthDays). AreDaysOf y m (Some z)) f h

pub from_parts : (t : Terms) (os : List Booked) (xs : List Declaration) (y m : ℕ) (d : MonthDays) (av di : ℕ) (a : Sums) (r : Month)
    → AreDaysOf y m (Some d) → Ok a ≡ sums_in d.first d.last os
    → av ≡ available t (days_of d.first d.last) → di ≡ offered t xs (days_of d.first d.last) → r ≡ figures_from t av di a
    → Ok r ≡ month_from t os xs y m
from_parts t os xs y m d av di a r ed es ea eo er =
    let k : Ok r ≡ Ok (figures_from t (available t (days_of d.first d.last)) (offered t xs (days_of d.first d.last)) a)
    = ap (λ (z : Month). Ok z) er ∙ ap (λ z. Ok (figures_from t z di a)) ea ∙ ap (λ z. Ok (figures_from t (available t (days_of d.first d.last)) z a)) eo in
    simp (ed.0, sym ed.1, sym ed.2) (k ∙ from_sums t _ _ a (outcomes_in d.first d.last 0 os) es)
