-- The month of June 2026 and its line, from the definitions.
use Rattle.std.specs.Prelude.{◌≡◌, ℕ, zero, suc, ◌<◌, ◌≤◌, [], ◌∷◌, ◌++◌, replicate, pos, Some, Ok, codes, slice_index, refl}
use Rattle.std.proofs.Common.{arith}
use Rattle.rulebooks.specs.Supplied.{supplied_rules}
use Rattle.ledger.specs.declared.feasts.Feasts.{Feasts}
use Rattle.ledger.specs.declared.terms.Terms.{Terms}
use Rattle.ledger.specs.declared.records.Direction.TheVariants.{Up}
use Rattle.ledger.specs.declared.records.Booked.{Booked}
use Rattle.ledger.specs.declared.records.Month.{Month}
use Rattle.ledger.specs.Book.{Book, month_of}
use Rattle.ledger.specs.Figures.{empty_keeper}
use Rattle.ledger.specs.LineText.{line_text}

pub one_feast : (k : ℕ) → k < 1 → slice_index (9649 ∷ replicate 31 0) k ≤ 36524
one_feast zero h = omega arith
one_feast (suc k) h = absurd (omega arith)

abbrev pub second_of_june : Feasts
second_of_june = record {
  days = 9649 ∷ replicate 31 0;
  count = 1;
  table = refl;
  room = omega arith;
  in_range = one_feast;
  rising = λ k h. absurd (omega arith);
}

-- working days, quarters 40 to 72, the feast of 2 June 2026
abbrev pub summer : Terms
summer = record {
  kinds = 1;
  w0 = 40;
  w1 = 72;
  qc = 20;
  uf = 2000;
  af = 50;
  feasts = second_of_june;
  some_kind = omega arith;
  known_kinds = omega arith;
  leads = omega arith;
  window = omega arith;
  day = omega arith;
  power_from = omega arith;
  power_to = omega arith;
  energy_price = omega arith;
  power_price = omega arith;
}

abbrev pub in_june : Booked
in_june = record {
  order = record { day = 9655; q0 = 44; q1 = 48; direction = Up; qr = 8 };
  result = Some (record { sum = pos 7200; pta = 7200; eda = 8000; seta = 7200; paid = 7200; pay = 144 });
}

-- twelve quarters declared on Wednesday 10 June
abbrev pub june : Book
june = record {
  terms = summer;
  store = empty_keeper;
  rules = supplied_rules;
  resources = [];
  orders = in_june ∷ [];
  declarations = record { day = 9657; q0 = 44; q1 = 56 } ∷ [];
}

abbrev pub june_figures : Month
june_figures = record { av = 672; di = 660; edm = 8000; ptm = 7200; setm = 7200; dpm = 9000; apm = 1650; upm = 144; pay = 1794 }

-- the month's figures, with the feast and the declaration, and the line that shows them
pub record JuneFigures : Type 0 where
  pub month : month_of june 2026 6 ≡ Ok june_figures
  pub line : line_text summer june_figures ≡ codes "168,00;3,00;165,00;98,21;20;8,000;7,200;7,200;90,00;0,2000;0,0050;16,50;1,44;17,94" ++ 10 ∷ []
