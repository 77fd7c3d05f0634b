-- What each refusal of a store tells: number, layer, two places.
use Rattle.refusals.specs.declared.Refusal.{Refusal}
use Rattle.refusals.specs.declared.Layer.TheVariants.{Store}
use Rattle.stores.specs.declared.fault.StoreFault.{StoreFault}
use Rattle.stores.specs.declared.fault.StoreFault.TheVariants.{Unfit, Day, Resource, UnderFloor, Held, Full}

abbrev pub refusal_of : StoreFault → Refusal
refusal_of Unfit = record { number = 6; layer = Store; first = 0; second = 0 }
refusal_of Day = record { number = 14; layer = Store; first = 0; second = 0 }
refusal_of (Resource r d) = record { number = 10; layer = Store; first = r; second = d }
refusal_of (UnderFloor r d) = record { number = 11; layer = Store; first = r; second = d }
refusal_of (Held r d) = record { number = 12; layer = Store; first = r; second = d }
refusal_of (Full r d) = record { number = 13; layer = Store; first = r; second = d }
