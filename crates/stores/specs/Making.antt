-- What making a store checks and gives.
use Rattle.std.specs.Prelude.{ℕ, Bool, cond, None, Ok, Err, Result}
use Rattle.stores.specs.declared.fault.StoreFault.{StoreFault}
use Rattle.stores.specs.declared.fault.StoreFault.TheVariants.{Unfit}
use Rattle.stores.specs.Model.{StoreModel}

abbrev pub fit_answer : Bool → Result (Unit {0}) StoreFault
fit_answer fits = cond fits (Ok tt) (Err Unfit)

-- an empty store
abbrev pub fresh : ℕ → ℕ → ℕ → StoreModel
fresh width capacity span = record { width = width; capacity = capacity; span = span; floor = 0; look = λ r d. None }
