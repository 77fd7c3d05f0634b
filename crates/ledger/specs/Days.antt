-- Which days and quarters the terms speak of.
use Rattle.std.specs.Prelude.{ℕ, ◌+◌, ◌*◌, ◌/◌, ◌%◌, Bool, false, cond, ◌&&◌, ◌||◌, List, [], ◌∷◌, ◌==◌, nat_le, nat_lt}
use Rattle.calendar.specs.Weekdays.{weekday_kind, sunday}
use Rattle.ledger.specs.Feasts.{is_among, days_of}
use Rattle.ledger.specs.declared.terms.Terms.{Terms}
use Rattle.ledger.specs.declared.records.Order.{Order}
use Rattle.ledger.specs.declared.records.Declaration.{Declaration}

abbrev pub feasts_of : Terms → List ℕ
feasts_of t = days_of t.feasts

-- a feast has the kind of a Sunday alone
abbrev pub kind_of : Terms → ℕ → ℕ
kind_of t d = cond (is_among (feasts_of t) d) sunday (weekday_kind d)

-- the kinds of the terms are a sum of 1, 2 and 4
abbrev pub has_kind : ℕ → ℕ → Bool
has_kind kinds k = kinds / k % 2 == 1

abbrev pub in_kinds : Terms → ℕ → Bool
in_kinds t d = has_kind t.kinds (kind_of t d)

-- quarters q0 to q1 of a day, q1 excluded
abbrev pub are_quarters : ℕ → ℕ → Bool
are_quarters q0 q1 = nat_lt q0 q1 && nat_le q1 96

abbrev pub in_window : Terms → ℕ → ℕ → Bool
in_window t q0 q1 = nat_le t.w0 q0 && nat_le q1 t.w1

-- quarters counted through the days
abbrev pub moment : ℕ → ℕ → ℕ
moment d q = 96 * d + q

abbrev pub starts : Order → ℕ
starts o = moment o.day o.q0

abbrev pub ends : Order → ℕ
ends o = moment o.day o.q1

-- between the end of one order and the start of the next lie at least eight quarters
abbrev pub rests_before : Order → Order → Bool
rests_before a b = nat_le (ends a + 8) (starts b)

-- a declaration has quarter q of day d
abbrev pub declares : Declaration → ℕ → ℕ → Bool
declares x d q = x.day == d && (nat_le x.q0 q && nat_lt q x.q1)

abbrev pub is_declared : List Declaration → ℕ → ℕ → Bool
is_declared [] d q = false
is_declared (x ∷ xs) d q = declares x d q || is_declared xs d q

-- quarters q0 to q1 of day d share one with a declaration
abbrev pub shares : List Declaration → ℕ → ℕ → ℕ → Bool
shares [] d q0 q1 = false
shares (x ∷ xs) d q0 q1 = (x.day == d && (nat_lt x.q0 q1 && nat_lt q0 x.q1)) || shares xs d q0 q1
