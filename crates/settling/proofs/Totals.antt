-- Sums one term further, and what bounds them.
use Rattle.std.proofs.Common.{◌≡◌, ℕ, suc, ◌+◌, ◌-◌, ◌<◌, ◌≤◌, List, [], ◌∷◌, ◌++◌, length, get_or, drop, ℤ, pos, negsuc, ◌+ℤ◌, nat_abs, Ok, Err, Result, sym, refl, ap, ◌∙◌, add-one, arith, w64, to_z, of_z}
use Rattle.std.proofs.lemmas.List.{drop_more, drop_all}
use Rattle.std.proofs.lemmas.Int.{ints}
use Rattle.ledger.specs.declared.fault.BookFault.{BookFault}
use Rattle.ledger.specs.Words.{Granted, ◌>>=◌, counting, total, total_of}
use Rattle.rulebooks.specs.declared.rule.RuleFault.{RuleFault}
use Rattle.rulebooks.specs.Rules.{Rules, Lawful, answered}
use Rattle.rulebooks.specs.RuleLaws.{answer_within}
use Rattle.ledger.specs.Settling.{ruled_at}
use Rattle.settling.specs.History.{Near, NearOf}

-- a size is a bound either way
pub near_size : (n : ℕ) (z : ℤ) → nat_abs z ≤ n → Near n z
near_size n (pos m) h = record { low = omega (arith, ints, h); high = omega (arith, ints, h) }
near_size n (negsuc m) h = record { low = omega (arith, ints, h); high = omega (arith, ints, h) }

near_ruled : (r q : ℕ) (v : Result ℤ RuleFault) → ((z : ℤ) → v ≡ Ok z → Near 10000000 z) → NearOf 10000000 (ruled_at r q v)
near_ruled r q (Ok z) h = h z refl
near_ruled r q (Err f) h = tt

-- no rulebook's baseline is beyond a limit
pub near_answer : (R : Rules) → Lawful R → (r q choice direction : ℕ) (s l c : ℤ) → NearOf 10000000 (ruled_at r q (answered R choice direction s l c))
near_answer R law r q choice direction s l c = near_ruled r q _ (λ z e. near_size 10000000 z (answer_within R law choice direction s l c z e))

pub kept : (z : ℤ) → Near 1056000000 z → to_z w64 (of_z w64 z) ≡ z
kept z h = omega (arith, ints)

pub nearer : (z : ℤ) → Near 11000000 z → Near 1056000000 z
nearer z h = record { low = omega (arith, ints); high = omega (arith, ints) }

pub total_push : {A : Type 0} (f : A → ℤ) (xs : List A) (y : A) → total f (xs ++ (y ∷ [])) ≡ total f xs +ℤ f y
total_push f [] y = omega (arith, ints)
total_push f (x ∷ xs) y = let e = total_push f xs y in omega (arith, ints)

-- the first of the numbers from q up to b
pub counting_next : (q b : ℕ) → q < b → counting q (b - q) ≡ q ∷ counting (q + 1) (b - (q + 1))
counting_next q b h = let e : b - q ≡ suc (b - (q + 1)) = omega arith in rw (e, add-one) refl

-- a sum, from what is summed and what is still to come
pub count_next : (f : ℕ → ℤ) (q b : ℕ) (all t x u : ℤ) → q < b → all ≡ t +ℤ total f (counting q (b - q)) → x ≡ f q → u ≡ t +ℤ x → all ≡ u +ℤ total f (counting (q + 1) (b - (q + 1)))
count_next f q b all t x u h p e d = let m = ap (total f) (counting_next q b h) in omega (arith, ints)

pub sum_next : {A : Type 0} (f : A → ℤ) (xs : List A) (i : ℕ) (y : A) (all t x u : ℤ) → i < length xs → all ≡ t +ℤ total f (drop i xs) → x ≡ f (get_or xs i y) → u ≡ t +ℤ x → all ≡ u +ℤ total f (drop (i + 1) xs)
sum_next f xs i y all t x u h p e d = let m = ap (total f) (drop_more xs i y h) in omega (arith, ints)

pub sum_end : {A : Type 0} (f : A → ℤ) (xs : List A) (i : ℕ) (all t : ℤ) → length xs ≤ i → all ≡ t +ℤ total f (drop i xs) → t ≡ all
sum_end f xs i all t h p = let m = ap (total f) (drop_all i xs h) in omega (arith, ints)

pub count_start : (f : ℕ → ℤ) (a b n : ℕ) → b - a ≡ n → total f (counting a n) ≡ pos 0 +ℤ total f (counting a (b - a))
count_start f a b n e = let m = ap (λ (k : ℕ). total f (counting a k)) e in omega (arith, ints)

pub count_end : (f : ℕ → ℤ) (q b : ℕ) (all t : ℤ) → b ≤ q → all ≡ t +ℤ total f (counting q (b - q)) → t ≡ all
count_end f q b all t h p =
    let e : b - q ≡ 0 = omega arith in
    let m = ap (λ (k : ℕ). total f (counting q k)) e in
    omega (arith, ints)

-- the same, where a term may be refused
pub grant_none : (m : Granted ℤ) → m ≡ (m >>= (λ b. Ok (pos 0 +ℤ b)))
grant_none (Ok z) = ap (λ (t : ℤ). Ok t) (omega (arith, ints))
grant_none (Err e) = refl

join : (m : Granted ℤ) (t x u : ℤ) → u ≡ t +ℤ x → ((m >>= (λ b. Ok (x +ℤ b))) >>= (λ b. Ok (t +ℤ b))) ≡ (m >>= (λ b. Ok (u +ℤ b)))
join (Ok z) t x u e = ap (λ (w : ℤ). Ok w) (omega (arith, ints))
join (Err f) t x u e = refl

pub grant_next : (f : ℕ → Granted ℤ) (q b : ℕ) (all : Granted ℤ) (t x u : ℤ) → q < b → all ≡ (total_of f (counting q (b - q)) >>= (λ z. Ok (t +ℤ z))) → f q ≡ Ok x → u ≡ t +ℤ x → all ≡ (total_of f (counting (q + 1) (b - (q + 1))) >>= (λ z. Ok (u +ℤ z)))
grant_next f q b all t x u h p e d =
    let rest = total_of f (counting (q + 1) (b - (q + 1))) in
    p ∙ (ap (λ (qs : List ℕ). total_of f qs >>= (λ z. Ok (t +ℤ z))) (counting_next q b h)
    ∙ (ap (λ (v : Granted ℤ). (v >>= (λ a. rest >>= (λ z. Ok (a +ℤ z)))) >>= (λ z. Ok (t +ℤ z))) e ∙ join rest t x u d))

pub grant_break : (f : ℕ → Granted ℤ) (q b : ℕ) (all : Granted ℤ) (t : ℤ) (e : BookFault) → q < b → all ≡ (total_of f (counting q (b - q)) >>= (λ z. Ok (t +ℤ z))) → f q ≡ Err e → all ≡ Err e
grant_break f q b all t e h p x =
    p ∙ (ap (λ (qs : List ℕ). total_of f qs >>= (λ z. Ok (t +ℤ z))) (counting_next q b h)
    ∙ ap (λ (v : Granted ℤ). (v >>= (λ a. total_of f (counting (q + 1) (b - (q + 1))) >>= (λ z. Ok (a +ℤ z)))) >>= (λ z. Ok (t +ℤ z))) x)

pub grant_end : (f : ℕ → Granted ℤ) (q b : ℕ) (all : Granted ℤ) (t : ℤ) → b ≤ q → all ≡ (total_of f (counting q (b - q)) >>= (λ z. Ok (t +ℤ z))) → Ok t ≡ all
grant_end f q b all t h p =
    let e : b - q ≡ 0 = omega arith in
    sym (p ∙ (ap (λ (k : ℕ). total_of f (counting q k) >>= (λ z. Ok (t +ℤ z))) e ∙ ap (λ (w : ℤ). Ok w) (omega (arith, ints))))

pub held_low : (z : ℤ) → Near 120000000 z → to_z w64 (of_z w64 z) ≡ z
held_low z h = omega (arith, ints)
