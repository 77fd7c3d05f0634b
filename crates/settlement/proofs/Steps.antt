-- One call of a life, from the answer of the call itself.
use Rattle.std.proofs.Common.{◌≡◌, ℕ, List, ◌++◌, length, replicate, ℤ, pos, Ok, Err, ap, ◌∙◌, arith}
use Rattle.std.proofs.lemmas.List.{drop-replicate}
use Rattle.ledger.specs.declared.records.Outcome.{Outcome}
use Rattle.ledger.specs.declared.life.Answer.TheVariants.{Settled}
use Rattle.ledger.specs.Words.{Granted}
use Rattle.ledger.specs.Settling.{evidence}
use Rattle.ledger.specs.Book.{Book, Settlement, settled}
use Rattle.ledger.specs.Run.{grant, sheet_of}
use Rattle.settlement.specs.Meant.{outcome_in, sheet_after}

pub settle_answer : (b : Book) (k : ℕ) (x : Outcome) (ws : List ℤ) (m : Granted Settlement) → Ok x ≡ outcome_in m → ws ≡ sheet_after m (replicate 608 (pos 0))
    → Settled x ws ≡ (grant b m (λ y. record { answer = Settled y.outcome (sheet_of y.parts); book = settled b k y.outcome })).answer
settle_answer b k x ws (Ok s) e w =
    let h : x ≡ s.outcome = cc in
    let d = drop-replicate (length (evidence s.parts)) 608 (pos 0) in
    ap (λ (y : Outcome). Settled y ws) h ∙ ap (λ (vs : List ℤ). Settled s.outcome vs) (w ∙ ap (λ (vs : List ℤ). evidence s.parts ++ vs) d)
settle_answer b k x ws (Err f) e w = let z : ◌≡◌ {A = ℕ} 0 1 = cc in let no_way : ⊥ = omega arith in elim no_way [ ]
