use Rattle.std.proofs.Common.{◌≡◌, ℕ, ◌/◌, ◌<◌, ◌≤◌, min, true, false, leb, List, ◌++◌, length, take, drop, replicate, sym, refl, ap, ◌∙◌, arith}
use Rattle.std.proofs.lemmas.List.{take_at, length-replicate}
use Rattle.std.proofs.lemmas.Bool.{cond-true, cond-false, and_parts, leb-true}
use Rattle.stores.specs.Journals.{fitting}
use Rattle.stores.specs.Making.{fresh as made_fresh}
use Rattle.stores.specs.Standing.{Standing, fresh, no_rows}
use Rattle.stores.specs.Meant.{fresh_means, span_whole}
use Rattle.stores.proofs.journal.Journal.new.Goals as goal
use Rattle.stores.proofs.journal.Journal.new.Goals.{After-min}

pub invariant_of-result : goal.invariant_of-result
invariant_of-result c =
    let S = fresh c.args.memory.items 1 0 (omega arith) (λ h. absurd (omega arith)) in
    record {
      wide = omega arith;
      narrow = omega arith;
      most = omega arith;
      low = omega arith;
      few = S.few;
      room = S.room;
      laid = S.laid;
      blank = S.blank;
      single = S.single;
      good = S.good;
    }

pub returns-then-not-is_fit : goal.returns-then-not-is_fit
returns-then-not-is_fit c =
    let bs = c.args.memory.items in
    let n : c.len-bytes.result ≡ length bs = c.len-bytes.ensures ∙ c.args.memory.ok.0 in
    let f : fitting (length bs) c.args.width ≡ false = ap (λ m. fitting m c.args.width) (sym n) ∙ sym c.is_fit.ensures ∙ c.if-not-is_fit.true in
    record {
      means = fresh_means bs 1 0 1 refl ∙ sym (cond-false (fitting (length bs) c.args.width) _ _ f);
      rows = no_rows bs;
      memory = sym (cond-false (fitting (length bs) c.args.width) _ _ f);
    }

-- what is known where the memory is zeroed
record Sure (bs cs : List ℕ) (width capacity : ℕ) : Type 0 where
  fit : fitting (length bs) width ≡ true
  wide : 1 ≤ width
  narrow : width ≤ 32
  capacity_is : capacity ≡ min 12800 (length bs / 387)
  some : 0 < capacity
  zeros : cs ≡ replicate (length bs) 0
  stands : Standing cs width capacity 0 0

sure : (c : After-min) → Sure c.args.memory.items (take c.args.memory.len (c.fill.new.self ++ drop (length c.fill.new.self) c.args.memory.items)) c.args.width c.min.result
sure c =
    let v = c.args.memory in
    let bs = v.items in
    let ws = c.fill.new.self in
    let cs = take v.len (ws ++ drop (length ws) bs) in
    let n : c.len-bytes.result ≡ length bs = c.len-bytes.ensures ∙ v.ok.0 in
    let f : fitting (length bs) c.args.width ≡ true = ap (λ m. fitting m c.args.width) (sym n) ∙ sym c.is_fit.ensures ∙ c.if-not-is_fit.false in
    let p = and_parts (leb 387 (length bs)) _ f in
    let q = and_parts (leb 1 c.args.width) (leb c.args.width 32) p.1 in
    let l = leb-true 387 (length bs) p.0 in
    let a : ws ≡ replicate (length bs) 0 = c.fill.ensures.after (λ y e. e) ∙ ap (λ (m : ℕ). replicate m 0) (ap length c.as_mut_slice.ensures.value) in
    let lw : length ws ≡ v.len = ap length a ∙ length-replicate (length bs) 0 ∙ sym v.ok.0 in
    let e : cs ≡ ws = take_at ws (drop (length ws) bs) v.len lw in
    let z : cs ≡ replicate (length bs) 0 = e ∙ a in
    let lc : length cs ≡ length bs = ap length z ∙ length-replicate (length bs) 0 in
    let k : c.min.result ≡ min 12800 (length bs / 387) = (let m = c.min.ensures in let d : c.len-bytes.result / 387 ≡ length bs / 387 = ap (λ x. x / 387) n in omega arith) in
    record {
      fit = f;
      wide = leb-true _ _ q.0;
      narrow = leb-true _ _ q.1;
      capacity_is = k;
      some = omega arith;
      zeros = z;
      stands = fresh cs c.args.width c.min.result (omega arith) (λ h. z ∙ ap (λ (m : ℕ). replicate m 0) (sym lc));
    }

pub invariant_of-result-2 : goal.invariant_of-result-2
invariant_of-result-2 c =
    let s = sure (goal.at.invariant_of-result-2 c).After-min in
    let S = s.stands in
    let k = s.capacity_is in
    record {
      wide = s.wide;
      narrow = s.narrow;
      most = omega arith;
      low = omega arith;
      few = S.few;
      room = S.room;
      laid = S.laid;
      blank = S.blank;
      single = S.single;
      good = S.good;
    }

pub returns : goal.returns
returns c =
    let bs = c.args.memory.items in
    let w = c.args.width in
    let s = sure (goal.at.returns c).After-min in
    let f = s.fit in
    record {
      means = fresh_means _ w c.min.result 36525 (span_whole c.min.result s.some) ∙ ap (λ k. made_fresh w k 36525) s.capacity_is ∙ sym (cond-true (fitting (length bs) w) _ _ f);
      rows = no_rows (take c.args.memory.len (c.fill.new.self ++ drop (length c.fill.new.self) bs));
      memory = s.zeros ∙ sym (cond-true (fitting (length bs) w) _ _ f);
    }
