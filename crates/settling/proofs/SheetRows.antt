-- The parts of all resources, one further.
use Rattle.std.proofs.Common.{◌≡◌, ℕ, ◌+◌, ◌<◌, ◌≤◌, Bool, true, false, cond, not, ◌||◌, List, [], ◌∷◌, ◌++◌, length, get_or, drop, replicate, ℤ, pos, ◌+ℤ◌, is_some, is_none, unwrap_or, Option, Some, None, Ok, Err, sym, refl, ap, ◌∙◌, add-one, arith}
use Rattle.std.proofs.lemmas.List.{drop_more, drop_all, append_assoc, append-nil}
use Rattle.ledger.specs.declared.fault.BookFault.{BookFault}
use Rattle.ledger.specs.declared.records.Resource.{Resource}
use Rattle.settling.specs.declared.settled.Settled.{Settled}
use Rattle.ledger.specs.Words.{Granted, ◌>>=◌, each}
use Rattle.ledger.specs.Settling.{Part, numbered_from, sum_of, any_estimated, evidence, evidence_row}
use Rattle.settling.specs.Evidence.{given}
use Rattle.settling.proofs.Totals.{total_push}

evidence_push : (ps : List Part) (p : Part) → evidence (ps ++ (p ∷ [])) ≡ evidence ps ++ evidence_row p
evidence_push [] p = append-nil (evidence_row p)
evidence_push (q ∷ ps) p = ap (λ (ws : List ℤ). evidence_row q ++ ws) (evidence_push ps p) ∙ sym (append_assoc (evidence_row q) (evidence ps) (evidence_row p))

or_assoc : (a b c : Bool) → (a || (b || c)) ≡ ((a || b) || c)
or_assoc true b c = refl
or_assoc false b c = refl

or_false : (b : Bool) → (b || false) ≡ b
or_false true = refl
or_false false = refl

any_push : (ps : List Part) (p : Part) → any_estimated (ps ++ (p ∷ [])) ≡ (any_estimated ps || p.estimated)
any_push [] p = or_false p.estimated
any_push (q ∷ ps) p = ap (λ (b : Bool). q.estimated || b) (any_push ps p) ∙ or_assoc q.estimated (any_estimated ps) p.estimated

-- the row of a resource, all 0 where it counts with its power
abbrev pub row_of : Settled → List ℤ
row_of y = unwrap_or y.evidence (replicate 19 (pos 0))

pub is_none_from : {A : Type 0} (o : Option A) (b : Bool) → is_some o ≡ not b → b ≡ is_none o
is_none_from None true e = refl
is_none_from None false e = e
is_none_from (Some x) true e = e
is_none_from (Some x) false e = refl

row_either : (b : Bool) (zeros ws : List ℤ) → cond b zeros ws ≡ unwrap_or (cond b None (Some (cond b zeros ws))) zeros
row_either true zeros ws = refl
row_either false zeros ws = refl

mark_either : (b : Bool) (ws : List ℤ) → b ≡ is_none (cond b None (Some ws))
mark_either true ws = refl
mark_either false ws = refl

record Given (m : Granted Part) (y : Settled) : Type 0 where
  one : Part
  is : m ≡ Ok one
  row : evidence_row one ≡ row_of y
  amount_is : one.amount ≡ y.amount
  mark : one.estimated ≡ is_none y.evidence

abbrev row_in : Granted Settled → List ℤ
row_in (Ok y) = row_of y
row_in (Err e) = []

abbrev amount_in : Granted Settled → ℤ
amount_in (Ok y) = y.amount
amount_in (Err e) = pos 0

abbrev mark_in : Granted Settled → Bool
mark_in (Ok y) = is_none y.evidence
mark_in (Err e) = false

given_ok : (m : Granted Part) (y : Settled) → given m ≡ Ok y → Given m y
given_ok (Ok p) y e = record { one = p; is = refl; row = row_either p.estimated (replicate 19 (pos 0)) _ ∙ ap row_in e; amount_is = ap amount_in e; mark = mark_either p.estimated (evidence_row p) ∙ ap mark_in e }
given_ok (Err f) y e = let n : ◌≡◌ {A = ℕ} 0 1 = cc in let no_way : ⊥ = omega arith in elim no_way [ ]

abbrev fault_in : Granted Part → Granted Settled → Granted Part
fault_in m (Ok y) = m
fault_in m (Err h) = Err h

given_err : (m : Granted Part) (f : BookFault) → given m ≡ Err f → m ≡ Err f
given_err (Ok p) f e = let n : ◌≡◌ {A = ℕ} 0 1 = cc in let no_way : ⊥ = omega arith in elim no_way [ ]
given_err (Err g) f e = ap (fault_in (Err g)) e

-- the parts of the resources before the i-th, with their rows, sum and mark; those of the rest come after them
pub record Along (f : ℕ × Resource → Granted Part) (all : Granted (List Part)) (i : ℕ) (rest : List Resource) (ws : List ℤ) (sum : ℤ) (est : Bool) : Type 0 where
  pub list : List Part
  pub rows : evidence list ≡ ws
  pub total_is : sum_of list ≡ sum
  pub mark : any_estimated list ≡ est
  pub goes_on : all ≡ (each f (numbered_from i rest) >>= (λ qs. Ok (list ++ qs)))

same : (m : Granted (List Part)) → m ≡ (m >>= (λ qs. Ok qs))
same (Ok qs) = refl
same (Err e) = refl

pub along_start : (f : ℕ × Resource → Granted Part) (xs : List Resource) (ws : List ℤ) → ws ≡ [] → Along f (each f (numbered_from 0 xs)) 0 xs ws (pos 0) false
along_start f xs ws e = record { list = []; rows = sym e; total_is = refl; mark = refl; goes_on = same (each f (numbered_from 0 xs)) }

-- the first of the rest taken off
unrolled : (f : ℕ × Resource → Granted Part) (all : Granted (List Part)) (xs : List Resource) (i : ℕ) (d : Resource) (ps : List Part) (v : Granted Part) → i < length xs
    → all ≡ (each f (numbered_from i (drop i xs)) >>= (λ qs. Ok (ps ++ qs))) → f (i, get_or xs i d) ≡ v
    → all ≡ ((v >>= (λ a. each f (numbered_from (i + 1) (drop (i + 1) xs)) >>= (λ b. Ok (a ∷ b)))) >>= (λ qs. Ok (ps ++ qs)))
unrolled f all xs i d ps v h p e =
    p ∙ (ap (λ (ys : List Resource). each f (numbered_from i ys) >>= (λ qs. Ok (ps ++ qs))) (drop_more xs i d h)
    ∙ (rw add-one refl ∙ ap (λ (u : Granted Part). (u >>= (λ a. each f (numbered_from (i + 1) (drop (i + 1) xs)) >>= (λ b. Ok (a ∷ b)))) >>= (λ qs. Ok (ps ++ qs))) e))

join : (m : Granted (List Part)) (ps : List Part) (p : Part) → ((m >>= (λ b. Ok (p ∷ b))) >>= (λ qs. Ok (ps ++ qs))) ≡ (m >>= (λ qs. Ok ((ps ++ (p ∷ [])) ++ qs)))
join (Ok b) ps p = ap (λ (qs : List Part). Ok qs) (sym (append_assoc ps (p ∷ []) b))
join (Err e) ps p = refl

pub along_more : (f : ℕ × Resource → Granted Part) (all : Granted (List Part)) (xs : List Resource) (i : ℕ) (d : Resource) (ws ws' : List ℤ) (sum sum' : ℤ) (est est' : Bool) (y : Settled) → i < length xs
    → Along f all i (drop i xs) ws sum est → given (f (i, get_or xs i d)) ≡ Ok y
    → ws' ≡ ws ++ row_of y → sum' ≡ sum +ℤ y.amount → est' ≡ (est || is_none y.evidence)
    → Along f all (i + 1) (drop (i + 1) xs) ws' sum' est'
along_more f all xs i d ws ws' sum sum' est est' y h A q ew es ee =
    let G = given_ok (f (i, get_or xs i d)) y q in
    record {
      list = A.list ++ (G.one ∷ []);
      rows = evidence_push A.list G.one ∙ (ap (λ (us : List ℤ). us ++ evidence_row G.one) A.rows ∙ (ap (λ (us : List ℤ). ws ++ us) G.row ∙ sym ew));
      total_is = total_push (λ p. p.amount) A.list G.one ∙ (ap (λ (z : ℤ). z +ℤ G.one.amount) A.total_is ∙ (ap (λ (z : ℤ). sum +ℤ z) G.amount_is ∙ sym es));
      mark = any_push A.list G.one ∙ (ap (λ (b : Bool). b || G.one.estimated) A.mark ∙ (ap (λ (b : Bool). est || b) G.mark ∙ sym ee));
      goes_on = unrolled f all xs i d A.list (Ok G.one) h A.goes_on G.is ∙ join (each f (numbered_from (i + 1) (drop (i + 1) xs))) A.list G.one;
    }

pub along_break : (f : ℕ × Resource → Granted Part) (all : Granted (List Part)) (xs : List Resource) (i : ℕ) (d : Resource) (ws : List ℤ) (sum : ℤ) (est : Bool) (e : BookFault) → i < length xs
    → Along f all i (drop i xs) ws sum est → given (f (i, get_or xs i d)) ≡ Err e → all ≡ Err e
along_break f all xs i d ws sum est e h A q = unrolled f all xs i d A.list (Err e) h A.goes_on (given_err (f (i, get_or xs i d)) e q)

pub along_end : (f : ℕ × Resource → Granted Part) (all : Granted (List Part)) (xs : List Resource) (i : ℕ) (ps : List Part) → length xs ≤ i
    → all ≡ (each f (numbered_from i (drop i xs)) >>= (λ qs. Ok (ps ++ qs))) → all ≡ Ok ps
along_end f all xs i ps h p =
    p ∙ (ap (λ (ys : List Resource). each f (numbered_from i ys) >>= (λ qs. Ok (ps ++ qs))) (drop_all i xs h) ∙ ap (λ (qs : List Part). Ok qs) (append-nil ps))
