-- One evidence row, word by word, and what settling one resource gives.
use Rattle.std.specs.Prelude.{ℕ, ◌-◌, ◌*◌, cond, List, [], ◌∷◌, ◌++◌, map, length, ℤ, pos, Some, None, Ok, Err}
use Rattle.ledger.specs.declared.records.Order.{Order}
use Rattle.ledger.specs.declared.records.Resource.{Resource}
use Rattle.settling.specs.declared.settled.Settled.{Settled}
use Rattle.ledger.specs.Words.{Granted, ◌>>=◌}
use Rattle.ledger.specs.Settling.{Part, filled_to, evidence_row}
use Rattle.settling.specs.History.{Near}

-- the row of a resource that is settled by its history
abbrev pub history_row : List ℕ → ℤ → ℤ → List ℤ
history_row days lead_now lead_then =
    pos 1 ∷ (pos (length days) ∷ (filled_to 15 (map (λ d. pos d) days) ++ (lead_now ∷ (lead_then ∷ []))))

-- what the code keeps of a part
abbrev pub settled_of : Part → Settled
settled_of p = record { amount = p.amount; evidence = cond p.estimated None (Some (evidence_row p)) }

abbrev pub power_settled : Resource → Order → Settled
power_settled x o = record { amount = pos (x.power * (o.q1 - o.q0) * 250); evidence = None }

abbrev pub given : Granted Part → Granted Settled
given m = m >>= (λ p. Ok (settled_of p))

abbrev pub NearSettled : ℕ → Granted Settled → Type 0
NearSettled n (Ok x) = Near n x.amount
NearSettled n (Err e) = Unit {0}
