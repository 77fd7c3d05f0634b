-- What each refusal of the book tells: number, layer, two places. What is passed on keeps its number and layer.
use Rattle.std.specs.Prelude.{ℕ}
use Rattle.refusals.specs.declared.Refusal.{Refusal}
use Rattle.refusals.specs.declared.Layer.TheVariants.{Book}
use Rattle.stores.specs.Refusals.{refusal_of as store_refusal}
use Rattle.rulebooks.specs.declared.rule.RuleFault.{RuleFault}
use Rattle.rulebooks.specs.declared.rule.RuleFault.TheVariants.{OutOfRange, UnknownChoice, NoBaseline}
use Rattle.rulebooks.specs.Faults.{refusal_of as rule_refusal}
use Rattle.ledger.specs.declared.fault.BookFault.{BookFault}
use Rattle.ledger.specs.declared.fault.BookFault.TheVariants.{Terms, Fields, OrdersBooked, NoRoom, UnknownChoice, NotRegistered, Number, Outside, TooSoon, ManyOrders, Declared, ManyDeclarations, NoOrder, Settled, NoCurve, ShortHistory, NoMonth, Unsettled, ShortMemory, Store, Rule}

abbrev pub own : ℕ → ℕ → ℕ → Refusal
own n a b = record { number = n; layer = Book; first = a; second = b }

-- where a rule gives no baseline the book adds the resource and the quarter of the day
abbrev pub ruled : ℕ → ℕ → RuleFault → Refusal
ruled r q OutOfRange = rule_refusal OutOfRange
ruled r q UnknownChoice = rule_refusal UnknownChoice
ruled r q NoBaseline = record { number = (rule_refusal NoBaseline).number; layer = (rule_refusal NoBaseline).layer; first = r; second = q }

abbrev pub refusal_of : BookFault → Refusal
refusal_of Terms = own 1 0 0
refusal_of Fields = own 2 0 0
refusal_of OrdersBooked = own 3 0 0
refusal_of NoRoom = own 4 0 0
refusal_of UnknownChoice = own 5 0 0
refusal_of (NotRegistered r d) = own 10 r d
refusal_of Number = own 14 0 0
refusal_of Outside = own 15 0 0
refusal_of TooSoon = own 16 0 0
refusal_of ManyOrders = own 17 0 0
refusal_of Declared = own 18 0 0
refusal_of ManyDeclarations = own 19 0 0
refusal_of NoOrder = own 20 0 0
refusal_of Settled = own 21 0 0
refusal_of (NoCurve r d) = own 22 r d
refusal_of (ShortHistory r n) = own 23 r n
refusal_of NoMonth = own 25 0 0
refusal_of (Unsettled k) = own 26 k 0
refusal_of ShortMemory = own 27 0 0
refusal_of (Store f) = store_refusal f
refusal_of (Rule r q f) = ruled r q f
