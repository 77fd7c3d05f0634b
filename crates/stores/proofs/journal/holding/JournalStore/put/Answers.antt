use Rattle.std.proofs.Common.{◌≡◌, ℕ, ◌+◌, ◌*◌, ◌<◌, Bool, true, cond, leb, List, ◌++◌, length, take, drop, Ok, Err, sym, refl, ap, ◌∙◌, subst, rules, arith}
use Rattle.std.proofs.lemmas.List.{take_at}
use Rattle.std.proofs.lemmas.Bool.{le-leb, lt-leb}
use Rattle.metering.specs.declared.curve.Curve.{Curve}
use Rattle.metering.proofs.Same.{curve_of_same}
use Rattle.stores.specs.declared.journal.Journal.{Journal}
use Rattle.stores.specs.declared.fault.StoreFault.TheVariants.{Full}
use Rattle.stores.specs.Model.{unless, put_into, put_answer}
use Rattle.stores.specs.Rows.{row_bytes, fine}
use Rattle.stores.specs.Journals.{row_of, rows_of, model_of, meaning}
use Rattle.stores.specs.Standing.{Put, put}
use Rattle.stores.specs.Verdicts.{Admitted, admitted, put_room}
use Rattle.stores.specs.Meant.{standing, full_test, put_means, curve_fine}
use Rattle.stores.proofs.journal.holding.JournalStore.put.Goals as goal
use Rattle.stores.proofs.journal.holding.JournalStore.put.Goals.{In_ok-admit, After-append_row}

-- the answer where nothing but a full journal can refuse
answer : (j : Journal) (r d : ℕ) → Admitted (model_of j) r d → put_answer (model_of j) r d ≡ cond (leb j.capacity j.rows) (Err (Full r d)) (Ok tt)
answer j r d a =
    put_room (model_of j) r d a ∙ ap (λ (b : Bool). cond b (Err (Full r d)) (Ok tt)) (full_test _ j.width j.capacity j.floor j.rows d (standing j) a.last)

told : (c : In_ok-admit) → Admitted (model_of c.args.self.now) c.args.resource c.args.day
told c =
    let e = c.in_ok-admit.ensures in
    admitted (model_of c.args.self.now) c.args.resource c.args.day _ _ e.0 refl refl (λ q. let p = e.1 q in search rules) e.2

pub returns-then-rows-self : goal.returns-then-rows-self
returns-then-rows-self c =
    let s = c.args.self.now in
    let r = c.args.resource in
    let d = c.args.day in
    let t = le-leb s.capacity s.rows c.if-rows-self.true in
    let a : Err (Full r d) ≡ put_answer (model_of s) r d = sym (answer s r d (told (goal.at.returns-then-rows-self c).In_ok-admit) ∙ simp t) in
    record { answer = a; after = ap (λ x. unless x (model_of s) (put_into (model_of s) r d c.args.curve.now)) a; rows = refl; memory = refl }

record Sure (j : Journal) (r d : ℕ) (c : Curve) (bs : List ℕ) : Type 0 where
  admitted : Admitted (model_of j) r d
  ok : fine j.width j.floor (row_of r d c) ≡ true
  done : Put j.bytes.items bs j.width j.capacity j.floor j.rows (row_of r d c)

sure : (c : After-append_row) → Sure c.args.self.now c.args.resource c.args.day c.args.curve.now (take c.args.self.now.bytes.len (c.append_row.new.bytes ++ drop (length c.append_row.new.bytes) c.args.self.now.bytes.items))
sure c =
    let s = c.args.self.now in
    let r = c.args.resource in
    let d = c.args.day in
    let v = s.bytes in
    let bs = v.items in
    let ws = c.append_row.new.bytes in
    let e = row_of r d c.args.curve.now in
    let a = c.as_mut_slice.ensures.value in
    let t = told (goal.at.After-append_row c).In_ok-admit in
    let ok = curve_fine s.width s.floor r d c.args.curve.now t.resource t.above t.last in
    let q : ws ≡ take (387 * s.rows) bs ++ (row_bytes e ++ drop (387 * s.rows + 387) bs) =
    c.append_row.ensures
    ∙ ap (λ (xs : List ℕ). take (387 * s.rows) xs ++ (row_bytes e ++ drop (387 * s.rows + 387) xs)) a in
    let lw : length ws ≡ length bs = c.append_row.auto.bytes ∙ ap length a in
    let p = put bs ws s.width s.capacity s.floor s.rows e (standing s) c.if-rows-self.false ok t.free lw q in
    let e' : ws ≡ take v.len (ws ++ drop (length ws) bs) = sym (take_at ws (drop (length ws) bs) v.len (lw ∙ sym v.ok.0)) in
    let P : List ℕ → Type 0 = λ xs. Put bs xs s.width s.capacity s.floor s.rows e in
    record { admitted = t; ok = ok; done = subst P e' p }

pub invariant_of-self : goal.invariant_of-self
invariant_of-self c =
    let s = c.args.self.now in
    let S = (sure (goal.at.invariant_of-self c).After-append_row).done.stands in
    record {
      wide = s.wide;
      narrow = s.narrow;
      most = s.most;
      low = s.low;
      few = S.few;
      room = S.room;
      laid = S.laid;
      blank = S.blank;
      single = S.single;
      good = S.good;
    }

pub returns : goal.returns
returns c =
    let s = c.args.self.now in
    let r = c.args.resource in
    let d = c.args.day in
    let k = c.args.curve.now in
    let S = sure (goal.at.returns c).After-append_row in
    let lt : s.rows < s.capacity = c.if-rows-self.false in
    let t = lt-leb s.capacity s.rows lt in
    let a : Ok tt ≡ put_answer (model_of s) r d = sym (answer s r d S.admitted ∙ simp t) in
    record {
      answer = a;
      after = ap (meaning s.width s.capacity s.floor) S.done.rows
          ∙ put_means s.width s.capacity s.floor (rows_of s) (row_of r d k) k (omega arith) S.admitted.last s.good S.ok S.admitted.free (curve_of_same k)
          ∙ ap (λ x. unless x (model_of s) (put_into (model_of s) r d k)) a;
      rows = S.done.rows;
      memory = S.done.memory;
    }
