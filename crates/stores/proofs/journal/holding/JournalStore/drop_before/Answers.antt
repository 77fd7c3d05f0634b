use Rattle.std.proofs.Common.{◌≡◌, ℕ, ◌-◌, ◌*◌, max, List, ◌++◌, length, take, drop, replicate, Ok, filter, sym, ap, ◌∙◌, subst, arith}
use Rattle.std.proofs.lemmas.List.{take_at}
use Rattle.stores.specs.Verdicts.{drop_day}
use Rattle.stores.specs.Model.{unless, raised_to, drop_answer}
use Rattle.stores.specs.Rows.{rows_in, written, since}
use Rattle.stores.specs.Journals.{rows_of, model_of, meaning}
use Rattle.stores.specs.Standing.{Standing, Dropped, dropped}
use Rattle.stores.specs.Meant.{standing, drop_means}
use Rattle.stores.proofs.journal.holding.JournalStore.drop_before.Goals as goal
use Rattle.stores.proofs.journal.holding.JournalStore.drop_before.Goals.{After-drop_rows-self}

sure : (c : After-drop_rows-self) → Dropped c.args.self.now.bytes.items (take c.args.self.now.bytes.len (c.drop_rows-self.new.bytes ++ drop (length c.drop_rows-self.new.bytes) c.args.self.now.bytes.items))
    c.args.self.now.width c.args.self.now.capacity c.args.self.now.floor c.args.self.now.rows c.drop_rows-self.result c.args.day
sure c =
    let s = c.args.self.now in
    let v = s.bytes in
    let bs = v.items in
    let n = s.rows in
    let day = c.args.day in
    let ws = c.drop_rows-self.new.bytes in
    let k = c.drop_rows-self.result in
    let a = c.as_mut_slice.ensures.value in
    let ek : k ≡ length (filter (since day) (rows_in bs n)) = c.drop_rows-self.ensures.count ∙ ap (λ (xs : List ℕ). length (filter (since day) (rows_in xs n))) a in
    let q : ws ≡ written (filter (since day) (rows_in bs n)) ++ (replicate (387 * n - 387 * k) 0 ++ drop (387 * n) bs) =
    c.drop_rows-self.ensures.memory ∙ ap (λ (xs : List ℕ). written (filter (since day) (rows_in xs n)) ++ (replicate (387 * n - 387 * k) 0 ++ drop (387 * n) xs)) a in
    let lw : length ws ≡ length bs = c.drop_rows-self.auto.bytes ∙ ap length a in
    let p = dropped bs ws s.width s.capacity s.floor n k day (standing s) ek c.drop_rows-self.ensures.few lw q in
    let t : ws ≡ take v.len (ws ++ drop (length ws) bs) = sym (take_at ws (drop (length ws) bs) v.len (lw ∙ sym v.ok.0)) in
    let P : List ℕ → Type 0 = λ xs. Dropped bs xs s.width s.capacity s.floor n k day in
    subst P t p

pub invariant_of-self : goal.invariant_of-self
invariant_of-self c =
    let s = c.args.self.now in
    let S = (sure (goal.at.invariant_of-self c).After-drop_rows-self).stands in
    let m : c.max-floor.result ≡ max s.floor c.args.day = c.max-floor.ensures in
    let ws = c.drop_rows-self.new.bytes in
    let P : ℕ → Type 0 = λ f. Standing (take s.bytes.len (ws ++ drop (length ws) s.bytes.items)) s.width s.capacity f c.drop_rows-self.result in
    let T = subst P (sym m) S in
    record {
      wide = s.wide;
      narrow = s.narrow;
      most = s.most;
      low = omega (arith, s.low, drop_day c.args.day (sym (c.in_ok-check_day.ensures)));
      few = T.few;
      room = T.room;
      laid = T.laid;
      blank = T.blank;
      single = T.single;
      good = T.good;
    }

pub returns : goal.returns
returns c =
    let s = c.args.self.now in
    let day = c.args.day in
    let D = sure (goal.at.returns c).After-drop_rows-self in
    let m : c.max-floor.result ≡ max s.floor day = c.max-floor.ensures in
    let a : Ok tt ≡ drop_answer day = c.in_ok-check_day.ensures in
    record {
      answer = a;
      after = ap (λ rs. meaning s.width s.capacity c.max-floor.result rs) D.rows
          ∙ ap (λ f. meaning s.width s.capacity f (filter (since day) (rows_of s))) m
          ∙ drop_means s.width s.capacity s.floor day (rows_of s)
          ∙ ap (λ x. unless x (model_of s) (raised_to (model_of s) day)) a;
      rows = D.rows;
      memory = D.memory;
    }
