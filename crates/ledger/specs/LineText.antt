-- The line of a month's fourteen figures as text, in bytes.
use Rattle.std.specs.Prelude.{ℕ, zero, suc, ◌+◌, ◌-◌, ◌*◌, ◌/◌, ◌%◌, ◌^◌, cond, List, [], ◌∷◌, ◌++◌, length, drop, Ok, Err, decimal, nat_le}
use Rattle.ledger.specs.declared.fault.BookFault.TheVariants.{ShortMemory}
use Rattle.ledger.specs.declared.terms.Terms.{Terms}
use Rattle.ledger.specs.declared.records.Month.{Month}
use Rattle.ledger.specs.Words.{Granted}
use Rattle.ledger.specs.Book.{percent}

-- the last k digits of n, with leading zeros
abbrev pub last_digits : ℕ → ℕ → List ℕ
last_digits zero n = []
last_digits (suc k) n = (48 + n / 10 ^ k % 10) ∷ last_digits k n

-- a comma and k digits; neither where k is 0
abbrev pub fraction : ℕ → ℕ → List ℕ
fraction zero n = []
fraction (suc k) n = 44 ∷ last_digits (suc k) n

-- n / 10^k, with k decimals
abbrev pub decimals : ℕ → ℕ → List ℕ
decimals k n = decimal (n / 10 ^ k) ++ fraction k n

-- hours of quarters, of 25 hundredths each
abbrev pub hours : ℕ → List ℕ
hours quarters = decimals 2 (25 * quarters)

-- AV, what of it is declared, DI, its percentage, QC, EDm, pTm, SETm, DPm, UF, AF, APm, UPm and the pay,
-- with semicolons between them and a line feed at the end
unfoldable pub line_text : Terms → Month → List ℕ
line_text t m =
    hours m.av ++ 59 ∷ hours (m.av - m.di) ++ 59 ∷ hours m.di ++ 59 ∷ decimals 2 (percent m.di m.av)
    ++ 59 ∷ decimals 0 t.qc
    ++ 59 ∷ decimals 3 m.edm ++ 59 ∷ decimals 3 m.ptm ++ 59 ∷ decimals 3 m.setm ++ 59 ∷ decimals 2 m.dpm
    ++ 59 ∷ decimals 4 t.uf ++ 59 ∷ decimals 4 t.af
    ++ 59 ∷ decimals 2 m.apm ++ 59 ∷ decimals 2 m.upm ++ 59 ∷ decimals 2 m.pay ++ 10 ∷ []

-- a text written to the start of a memory: its length, and the memory afterwards; refused where the memory is too short for it
abbrev pub length_in : List ℕ → List ℕ → Granted ℕ
length_in out text = cond (nat_le (length text) (length out)) (Ok (length text)) (Err ShortMemory)

abbrev pub written_to : List ℕ → List ℕ → List ℕ
written_to out text = cond (nat_le (length text) (length out)) (text ++ drop (length text) out) out
