-- The calls of a life one by one: each answer at its place, and the book so far.
use Rattle.std.proofs.Common.{◌≡◌, ℕ, suc, ◌+◌, ◌<◌, ◌≤◌, List, [], ◌∷◌, ◌++◌, length, get_or, take, drop, set, sym, refl, ap, ◌∙◌, arith}
use Rattle.std.proofs.Math.Seq.{set-append_seam}
use Rattle.std.proofs.lemmas.List.{take_more, take_all, drop_more, append_assoc, length-take-le, take-append-le}
use Rattle.ledger.specs.declared.life.Call.{Call}
use Rattle.ledger.specs.declared.life.Answer.{Answer}
use Rattle.ledger.specs.Book.{Book}
use Rattle.ledger.specs.Run.{step, run, final}

run_snoc : (b : Book) (xs : List Call) (x : Call) → run b (xs ++ (x ∷ [])) ≡ run b xs ++ ((step (final b xs) x).answer ∷ [])
run_snoc b [] x = refl
run_snoc b (y ∷ xs) x = ap (λ (l : List Answer). (step b y).answer ∷ l) (run_snoc (step b y).book xs x)

final_snoc : (b : Book) (xs : List Call) (x : Call) → final b (xs ++ (x ∷ [])) ≡ (step (final b xs) x).book
final_snoc b [] x = refl
final_snoc b (y ∷ xs) x = final_snoc (step b y).book xs x

run_length : (b : Book) (xs : List Call) → length (run b xs) ≡ length xs
run_length b [] = refl
run_length b (x ∷ xs) = ap suc (run_length (step b x).book xs)

-- one more call
pub turn : (b u w : Book) (xs : List Call) (es vs : List Answer) (i : ℕ) (x : Call) (a : Answer)
    → i < length xs → length xs ≤ length es → x ≡ get_or xs i x
    → vs ≡ run b (take i xs) ++ drop i es → u ≡ final b (take i xs) → a ≡ (step u x).answer → w ≡ (step u x).book
    → (set vs i a ≡ run b (take (i + 1) xs) ++ drop (i + 1) es) × (w ≡ final b (take (i + 1) xs))
turn b u w xs es vs i x a h k e p r q s =
    let m : take (i + 1) xs ≡ take i xs ++ (x ∷ []) = take_more xs i x h ∙ ap (λ (y : Call). take i xs ++ (y ∷ [])) (sym e) in
    let n : length (run b (take i xs)) ≡ i = run_length b (take i xs) ∙ length-take-le i xs (omega arith) in
    let d : drop i es ≡ get_or es i a ∷ drop (i + 1) es = drop_more es i a (omega arith) in
    let l : set (run b (take i xs) ++ (get_or es i a ∷ drop (i + 1) es)) i a ≡ run b (take i xs) ++ (a ∷ drop (i + 1) es)
    = ap (λ (j : ℕ). set (run b (take i xs) ++ (get_or es i a ∷ drop (i + 1) es)) j a) (sym n) ∙ set-append_seam (run b (take i xs)) (get_or es i a) (drop (i + 1) es) a in
    let z : a ≡ (step (final b (take i xs)) x).answer = q ∙ ap (λ (y : Book). (step y x).answer) r in (
      ap (λ (us : List Answer). set us i a) (p ∙ ap (λ (us : List Answer). run b (take i xs) ++ us) d)
          ∙ (l
          ∙ (ap (λ (y : Answer). run b (take i xs) ++ (y ∷ drop (i + 1) es)) z
          ∙ (sym (append_assoc (run b (take i xs)) ((step (final b (take i xs)) x).answer ∷ []) (drop (i + 1) es))
          ∙ (ap (λ (us : List Answer). us ++ drop (i + 1) es) (sym (run_snoc b (take i xs) x))
          ∙ ap (λ (ys : List Call). run b ys ++ drop (i + 1) es) (sym m))))),
      s ∙ (ap (λ (y : Book). (step y x).book) r ∙ (sym (final_snoc b (take i xs) x) ∙ ap (final b) (sym m))),
    )

-- the answers of the calls stand in front
pub in_front : (b : Book) (xs : List Call) (es vs : List Answer) → vs ≡ run b xs ++ drop (length xs) es → take (length xs) vs ≡ run b xs
in_front b xs es vs e =
    let n = run_length b xs in
    ap (take (length xs)) e ∙ (take-append-le (length xs) (run b xs) (drop (length xs) es) (omega arith) ∙ take_all (length xs) (run b xs) (omega arith))
