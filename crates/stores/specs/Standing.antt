-- What a journal's bytes keep to, and that putting and dropping keep it.
use Rattle.std.specs.Prelude.{◌≡◌, ℕ, zero, suc, ◌+◌, ◌-◌, ◌*◌, ◌<◌, ◌≤◌, max, true, List, [], ◌∷◌, ◌++◌, length, take, drop, replicate, None, filter, nat_lt, refl}
use Rattle.std.proofs.Common.{sym, ap, ◌∙◌, inl, inr, arith}
use Rattle.std.proofs.lemmas.List.{append_assoc, take_at, drop_at, take-append-drop, drop-drop, drop-replicate, replicate-append-replicate, length_push}
use Rattle.std.proofs.lemmas.Bool.{cases_lt, cond-true, cond-false, lt-ltb, le-ltb}
use Rattle.std.specs.List.{list_all}
use Rattle.stores.specs.Model.{held_from}
use Rattle.stores.specs.Rows.{Row, row_bytes, written, layout, row_at, rows_in, held_in, since, apart, fine}
use Rattle.stores.specs.Journals.{meaning, LaidOut, rewritten}
use Rattle.stores.specs.Upto.{upto_none, length_upto}
use Rattle.stores.specs.Closing.{written_push}
use Rattle.stores.specs.Reread.{reread, length_fine}
use Rattle.stores.specs.Counted.{counted}
use Rattle.stores.specs.Looked.{all_by_push, apart_push, apart_kept, fine_raised, kept_all}

pub record Standing (bs : List ℕ) (width capacity floor n : ℕ) : Type 0 where
  pub few : n ≤ capacity
  pub room : 387 * capacity ≤ length bs
  pub laid : take (387 * n) bs ≡ written (rows_in bs n)
  pub blank : 0 < capacity → drop (387 * n) bs ≡ replicate (length bs - 387 * n) 0
  pub single : apart (rows_in bs n) ≡ true
  pub good : list_all (fine width floor) (rows_in bs n) ≡ true

pub length_rows : (bs : List ℕ) (n : ℕ) → length (rows_in bs n) ≡ n
length_rows bs n = length_upto (λ i. row_at bs (387 * i)) n

pub no_rows : (bs : List ℕ) → rows_in bs 0 ≡ []
no_rows bs = upto_none (λ i. row_at bs (387 * i))

pub fresh : (bs : List ℕ) (width capacity : ℕ) → 387 * capacity ≤ length bs → (0 < capacity → bs ≡ replicate (length bs) 0) → Standing bs width capacity 0 0
fresh bs width capacity le b =
    let e = no_rows bs in
    record {
      few = omega arith;
      room = le;
      laid = sym (ap written e);
      blank = λ h. (let z : length bs ≡ length bs - 0 = omega arith in b h ∙ ap (λ (m : ℕ). replicate m 0) z);
      single = ap apart e;
      good = ap (list_all (fine width 0)) e;
    }

-- a memory that begins with the bytes of rows
record Begins (cs : List ℕ) (rs : List Row) (ds : List ℕ) (n : ℕ) : Type 0 where
  rows : rows_in cs n ≡ rs
  laid : take (387 * n) cs ≡ written (rows_in cs n)
  rest : drop (387 * n) cs ≡ ds

begins : (cs : List ℕ) (rs : List Row) (ds : List ℕ) (n width floor : ℕ) → cs ≡ written rs ++ ds → list_all (fine width floor) rs ≡ true → length rs ≡ n → Begins cs rs ds n
begins cs rs ds n width floor e g l =
    let r : rows_in cs n ≡ rs = ap (λ xs. rows_in xs n) e ∙ reread width floor rs ds n g l in
    let w : length (written rs) ≡ 387 * n = length_fine width floor rs g ∙ ap (λ m. 387 * m) l in
    record {
      rows = r;
      laid = ap (take (387 * n)) e ∙ take_at (written rs) ds (387 * n) w ∙ sym (ap written r);
      rest = ap (drop (387 * n)) e ∙ drop_at (written rs) ds (387 * n) w;
    }

pub record Put (bs cs : List ℕ) (width capacity floor n : ℕ) (e : Row) : Type 0 where
  pub stands : Standing cs width capacity floor (n + 1)
  pub rows : rows_in cs (n + 1) ≡ rows_in bs n ++ (e ∷ [])
  pub memory : cs ≡ layout (rows_in bs n ++ (e ∷ [])) (length bs)

pub put : (bs cs : List ℕ) (width capacity floor n : ℕ) (e : Row) → Standing bs width capacity floor n → n < capacity → fine width floor e ≡ true → held_in (rows_in bs n) e.resource e.day ≡ None → length cs ≡ length bs
    → cs ≡ take (387 * n) bs ++ (row_bytes e ++ drop (387 * n + 387) bs) → Put bs cs width capacity floor n e
put bs cs width capacity floor n e s lt fe free len q =
    let rs = rows_in bs n in
    let room = s.room in
    let lr = length_rows bs n in
    let ln : length (rs ++ (e ∷ [])) ≡ n + 1 = length_push rs e ∙ (omega arith) in
    let z : length bs - 387 * n - 387 ≡ length bs - 387 * (n + 1) = omega arith in
    let tail : drop (387 * n + 387) bs ≡ replicate (length bs - 387 * (n + 1)) 0 =
    sym (drop-drop 387 (387 * n) bs) ∙ ap (drop 387) (s.blank (omega arith)) ∙ drop-replicate 387 (length bs - 387 * n) 0 ∙ ap (λ (m : ℕ). replicate m 0) z in
    let w : cs ≡ written (rs ++ (e ∷ [])) ++ replicate (length bs - 387 * (n + 1)) 0 =
    q ∙ ap (λ xs. xs ++ (row_bytes e ++ drop (387 * n + 387) bs)) s.laid
    ∙ ap (λ xs. written rs ++ (row_bytes e ++ xs)) tail
    ∙ sym (append_assoc (written rs) (row_bytes e) (replicate (length bs - 387 * (n + 1)) 0))
    ∙ ap (λ xs. xs ++ replicate (length bs - 387 * (n + 1)) 0) (sym (written_push rs e)) in
    let good = all_by_push (fine width floor) rs e s.good fe in
    let b = begins cs (rs ++ (e ∷ [])) (replicate (length bs - 387 * (n + 1)) 0) (n + 1) width floor w good ln in
    record {
      stands = record {
        few = omega arith;
        room = omega arith;
        laid = b.laid;
        blank = λ h. b.rest ∙ ap (λ m. replicate (m - 387 * (n + 1)) 0) (sym len);
        single = ap apart b.rows ∙ apart_push rs e s.single free;
        good = ap (list_all (fine width floor)) b.rows ∙ good;
      };
      rows = b.rows;
      memory = w ∙ ap (λ m. written (rs ++ (e ∷ [])) ++ replicate (length bs - 387 * m) 0) (sym ln);
    }

pub record Dropped (bs cs : List ℕ) (width capacity floor n k day : ℕ) : Type 0 where
  pub stands : Standing cs width capacity (max floor day) k
  pub rows : rows_in cs k ≡ filter (since day) (rows_in bs n)
  pub memory : cs ≡ rewritten capacity bs (filter (since day) (rows_in bs n))

untouched : (bs cs : List ℕ) (n k day : ℕ) → n ≡ 0 → cs ≡ written (filter (since day) (rows_in bs n)) ++ (replicate (387 * n - 387 * k) 0 ++ drop (387 * n) bs) → cs ≡ bs
untouched bs cs zero k day e q =
    let z : 387 * 0 - 387 * k ≡ 0 = omega arith in
    q ∙ ap (λ xs. written (filter (since day) xs) ++ (replicate (387 * 0 - 387 * k) 0 ++ bs)) (no_rows bs) ∙ ap (λ (m : ℕ). replicate m 0 ++ bs) z
untouched bs cs (suc n) k day e q = absurd (omega arith)

pub dropped : (bs cs : List ℕ) (width capacity floor n k day : ℕ) → Standing bs width capacity floor n → k ≡ length (filter (since day) (rows_in bs n)) → k ≤ n → length cs ≡ length bs
    → cs ≡ written (filter (since day) (rows_in bs n)) ++ (replicate (387 * n - 387 * k) 0 ++ drop (387 * n) bs) → Dropped bs cs width capacity floor n k day
dropped bs cs width capacity floor n k day s ek le len q =
    let rs = rows_in bs n in
    let ks = filter (since day) rs in
    let few = s.few in
    let room = s.room in
    let good = fine_raised width floor day rs s.good in
    let b = begins cs ks (replicate (387 * n - 387 * k) 0 ++ drop (387 * n) bs) k width (max floor day) q good (sym ek) in
    let z : 387 * n - 387 * k + (length bs - 387 * n) ≡ length bs - 387 * k = omega arith in
    let tail : 0 < capacity → replicate (387 * n - 387 * k) 0 ++ drop (387 * n) bs ≡ replicate (length bs - 387 * k) 0 =
    λ h. ap (λ xs. replicate (387 * n - 387 * k) 0 ++ xs) (s.blank h) ∙ replicate-append-replicate (387 * n - 387 * k) (length bs - 387 * n) 0 ∙ ap (λ (m : ℕ). replicate m 0) z in
    record {
      stands = record {
        few = omega arith;
        room = omega arith;
        laid = b.laid;
        blank = λ h. b.rest ∙ tail h ∙ ap (λ m. replicate (m - 387 * k) 0) (sym len);
        single = ap apart b.rows ∙ apart_kept (since day) rs s.single;
        good = ap (list_all (fine width (max floor day))) b.rows ∙ good;
      };
      rows = b.rows;
      memory = elim (cases_lt 0 capacity) [
        | inl h ↦ q ∙ ap (λ xs. written ks ++ xs) (tail h) ∙ ap (λ m. written ks ++ replicate (length bs - 387 * m) 0) ek ∙ sym (cond-true (nat_lt 0 capacity) _ _ (lt-ltb 0 capacity h))
        | inr h ↦ untouched bs cs n k day (omega arith) q ∙ sym (cond-false (nat_lt 0 capacity) _ _ (le-ltb 0 capacity h))
      ];
    }

-- the number held from a day that is not above the floor
pub all_held : (bs : List ℕ) (width capacity floor n day : ℕ) → Standing bs width capacity floor n → day ≤ floor → held_from (meaning width capacity floor (rows_in bs n)) day ≡ n
all_held bs width capacity floor n day s le =
    counted (meaning width capacity floor (rows_in bs n)) (rows_in bs n) floor day refl s.single s.good
    ∙ ap length (kept_all width floor day (rows_in bs n) le s.good) ∙ length_rows bs n

pub laid_out : (bs : List ℕ) (width capacity floor n : ℕ) → Standing bs width capacity floor n → LaidOut bs (rows_in bs n) (meaning width capacity floor (rows_in bs n))
laid_out bs width capacity floor n s =
    let rs = rows_in bs n in
    let l = length_rows bs n in
    record {
      bytes = λ h. sym (take-append-drop (387 * n) bs) ∙ ap (λ xs. xs ++ drop (387 * n) bs) s.laid ∙ ap (λ xs. written rs ++ xs) (s.blank h)
          ∙ ap (λ m. written rs ++ replicate (length bs - 387 * m) 0) (sym l);
      held = λ r d. refl;
      single = s.single;
      number = l ∙ sym (all_held bs width capacity floor n 0 s (omega arith));
    }
