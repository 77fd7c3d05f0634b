-- One byte of the run: the machine goes on, or stops with its refusal.
use Rattle.std.proofs.Common.{◌≡◌, Ok, Err, Result, sym, ap}
use Rattle.metering.specs.declared.fault.Fault.{Fault}
use Rattle.metering.specs.Machine.{Machine, verdict, after, proceed}

pub passes : {Y : Type 0} (k : Machine → Result Y Fault) (m n : Machine) (r : Result Machine Fault) (v : Result (Unit {0}) Fault) (u : Unit {0})
    → v ≡ verdict r → n ≡ after m r → v ≡ Ok u → proceed r k ≡ k n
passes k m n (Ok x) v u e s w = ap k (sym s)
passes k m n (Err f) v u e s w = cc

pub stops : {Y : Type 0} (k : Machine → Result Y Fault) (r : Result Machine Fault) (v : Result (Unit {0}) Fault) (f : Fault)
    → v ≡ verdict r → v ≡ Err f → proceed r k ≡ Err f
stops k (Ok x) v f e w = cc
stops k (Err g) v f e w = let x : g ≡ f = cc in ap Err x
