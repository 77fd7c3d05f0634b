-- What terms may be filled with, and what they then hold.
use Rattle.std.specs.Prelude.{ℕ, ◌+◌, Bool, true, cond, not, ◌&&◌, List, [], ◌∷◌, length, nat_le, nat_lt}
use Rattle.ledger.specs.declared.fault.BookFault.TheVariants.{Terms as TermsFault}
use Rattle.ledger.specs.declared.terms.Terms.{Terms}
use Rattle.ledger.specs.declared.terms.filling.Asked.{Asked}
use Rattle.ledger.specs.Words.{Granted, unless}
use Rattle.ledger.specs.Days.{feasts_of}

-- days from a first one on, each later than the one before
abbrev pub rise_from : ℕ → List ℕ → Bool
rise_from first [] = true
rise_from first (d ∷ ds) = (nat_le first d && nat_le d 36524) && rise_from (d + 1) ds

abbrev pub are_feasts : List ℕ → Bool
are_feasts ds = nat_le (length ds) 32 && rise_from 0 ds

abbrev pub terms_fit : ℕ → ℕ → ℕ → ℕ → ℕ → ℕ → List ℕ → Bool
terms_fit kinds w0 w1 qc uf af feasts =
    (nat_le 1 kinds && nat_le kinds 7)
    && ((nat_le 8 w0 && (nat_lt w0 w1 && nat_le w1 96))
    && ((nat_le 1 qc && nat_le qc 128000)
    && ((nat_le uf 100000 && nat_le af 100000)
    && are_feasts feasts)))

-- what terms hold
pub record Content : Type 0 where
  pub kinds : ℕ
  pub w0 : ℕ
  pub w1 : ℕ
  pub qc : ℕ
  pub uf : ℕ
  pub af : ℕ
  pub feasts : List ℕ

abbrev pub content : ℕ → ℕ → ℕ → ℕ → ℕ → ℕ → List ℕ → Content
content kinds w0 w1 qc uf af feasts = record { kinds = kinds; w0 = w0; w1 = w1; qc = qc; uf = uf; af = af; feasts = feasts }

abbrev pub content_of : Terms → Content
content_of t = content t.kinds t.w0 t.w1 t.qc t.uf t.af (feasts_of t)

-- what is asked: whether it keeps every limit, and what terms then hold
abbrev pub fits : Asked → Bool
fits a = terms_fit a.kinds a.w0 a.w1 a.qc a.uf a.af a.feasts.now

abbrev pub wanted : Asked → Content
wanted a = content a.kinds a.w0 a.w1 a.qc a.uf a.af a.feasts.now

-- the least terms: working days, the whole window, 1 kW, no prices and no feasts
abbrev pub least_terms : Content
least_terms = content 1 8 96 1 0 0 []

abbrev pub fill_answer : Bool → Granted (Unit {0})
fill_answer fit = unless (not fit) TermsFault

-- terms that do not fit change nothing
abbrev pub filled : Bool → Content → Content → Content
filled fit old new = cond fit new old
