-- The parts of all resources, as the code gathers them.
use Rattle.std.specs.Prelude.{ℕ, ◌*◌, Bool, not, ◌&&◌, List, ◌++◌, length, drop, ℤ, Ok, Err, nat_le, nat_lt}
use Rattle.rulebooks.specs.Rules.{Rules}
use Rattle.ledger.specs.declared.fault.BookFault.TheVariants.{Number, ShortMemory}
use Rattle.ledger.specs.declared.terms.Terms.{Terms}
use Rattle.ledger.specs.declared.records.Order.{Order}
use Rattle.ledger.specs.declared.records.Booked.{Booked}
use Rattle.ledger.specs.declared.records.Outcome.{Outcome}
use Rattle.ledger.specs.declared.records.Resource.{Resource}
use Rattle.ledger.specs.Words.{Granted, ◌>>=◌, unless}
use Rattle.ledger.specs.Settling.{Held, parts, Part, outcome_of, evidence}
use Rattle.ledger.specs.Book.{orders_in, busy_on}
use Rattle.ledger.specs.Standing.{is_placed, are_powered}

abbrev pub settled_at : Terms → Order → Granted (List Part) → Granted Outcome
settled_at t o m = m >>= (λ ps. Ok (outcome_of t o ps))

-- the rows of the resources, then what stood beyond; a refusal leaves the sheet alone
abbrev pub sheet_of : Granted (List Part) → List ℤ → List ℤ
sheet_of (Ok ps) ws = evidence ps ++ drop (length (evidence ps)) ws
sheet_of (Err e) ws = ws

-- no book has more resources, or others, than these; nor another order
abbrev pub can_settle : List Resource → Order → Bool
can_settle xs o = nat_le (length xs) 32 && (is_placed o && are_powered xs)

-- the parts of an order of these resources, with a sheet of so many words
abbrev pub order_parts : Terms → Rules → (ℕ → Held) → List Booked → List Resource → Order → ℕ → Granted (List Part)
order_parts t R look os xs o words =
    unless (not (can_settle xs o)) Number >>= (λ _.
    unless (nat_lt words (19 * length xs)) ShortMemory >>= (λ _.
    parts t R look (busy_on (orders_in os)) xs o))
