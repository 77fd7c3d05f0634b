use Rattle.std.proofs.Common.{◌≡◌, ℕ, ◌+◌, ◌-◌, ◌<◌, min, max, true, is_ok, Err, Result, sym, refl, ap, ◌∙◌, rules, arith}
use Rattle.std.proofs.lemmas.Bool.{both_ways}
use Rattle.stores.specs.declared.fault.StoreFault.{StoreFault}
use Rattle.stores.specs.declared.fault.StoreFault.TheVariants.{Full}
use Rattle.stores.specs.Model.{StoreModel, held_from, new_floor, put_answer, put_into, unless}
use Rattle.stores.specs.Keeper.{kept}
use Rattle.stores.specs.Keeping.{kept_held, kept_admitted, granted, kept_put}
use Rattle.stores.specs.Verdicts.{Admitted, admitted, put_full}
use Rattle.stores.proofs.keeper.KeeperStore.put.Given.{Over}
use Rattle.stores.proofs.keeper.KeeperStore.put.Goals as goal
use Rattle.stores.proofs.keeper.KeeperStore.put.Goals.{After-capacity}

-- what the tests tell of the store below
told : (g : Over) (c : After-capacity g) → Admitted (g.S.Store.model c.args.self.now.below) c.args.resource c.args.day
told g c =
    let e = c.in_ok-admit.ensures in
    admitted (g.S.Store.model c.args.self.now.below) c.args.resource c.args.day c.width.result c.floor.result e.0
    c.width.ensures c.floor.ensures (λ q. let p = e.1 q in search rules) e.2

floor_is : (g : Over) (c : After-capacity g) → c.max-floor.result ≡ new_floor (kept c.args.self.now.span (g.S.Store.model c.args.self.now.below)) c.args.day
floor_is g c =
    let m : StoreModel = g.S.Store.model c.args.self.now.below in
    let s = c.args.self.now.span in
    let d = c.args.day in
    c.max-floor.ensures
    ∙ (ap (λ (x : ℕ). max x c.saturating_sub.result) c.floor-2.ensures
    ∙ (ap (max m.floor) c.saturating_sub.ensures
    ∙ (ap (λ (x : ℕ). max m.floor (d + 1 - x)) c.min-span.ensures
    ∙ ap (λ (x : ℕ). max m.floor (d + 1 - min s x)) c.span.ensures)))

pub returns-then-held_from-capacity : goal.returns-then-held_from-capacity
returns-then-held_from-capacity g c =
    let s = c.args.self.now.span in
    let m : StoreModel = g.S.Store.model c.args.self.now.below in
    let r = c.args.resource in
    let d = c.args.day in
    let t = told g (goal.at.returns-then-held_from-capacity g c).After-capacity in
    let is = floor_is g (goal.at.returns-then-held_from-capacity g c).After-capacity in
    let h : held_from (kept s m) (new_floor (kept s m) d) ≡ c.held_from.result =
    kept_held s m (new_floor (kept s m) d) ∙ (ap (held_from m) (sym is) ∙ sym c.held_from.ensures) in
    let k = c.capacity.ensures in
    let l = c.if-held_from-capacity.true in
    let e : put_answer (kept s m) r d ≡ Err (Full r d) = put_full (kept s m) r d (kept_admitted s m r d t) (omega arith) in
    record {
      answer = sym e;
      after = sym (ap (λ (x : Result (Unit {0}) StoreFault). unless x (kept s m) (put_into (kept s m) r d c.args.curve.now)) e);
      refused = λ _. refl {a = c.args.self.now.below};
      spans = (refl {a = s}, refl {a = m.span});
    }

pub returns : goal.returns
returns g c =
    let s = c.args.self.now.span in
    let m : StoreModel = g.S.Store.model c.args.self.now.below in
    let r = c.args.resource in
    let d = c.args.day in
    let f = c.max-floor.result in
    let t = told g (goal.at.returns g c).After-capacity in
    let is = floor_is g (goal.at.returns g c).After-capacity in
    let l = c.if-held_from-capacity.false in
    let k = c.capacity.ensures in
    let h = c.held_from.ensures in
    let b = g.met.S.Store.bounded c.args.self.now.below in
    let p = c.args.self.now.spans.0 in
    let q = b.span_from in
    let room : held_from m f < m.capacity = omega (arith, l, k, h) in
    let w = granted s m r d c.args.curve.now f p b t is room in
    let o = kept_put s m (g.S.Store.model c.drop_before.new.self) (g.S.Store.model c.put.new.self) r d c.args.curve.now f c.put.result w
    (omega (arith, t.last, t.above, is)) c.drop_before.ensures.after c.put.ensures.answer c.put.ensures.after in
    record {
      answer = o.0;
      after = o.1;
      refused = λ e. absurd {A = c.put.new.self ≡ c.args.self.now.below} (both_ways true (sym (ap is_ok o.2) ∙ e) refl);
      spans = (refl {a = s}, o.3);
    }
