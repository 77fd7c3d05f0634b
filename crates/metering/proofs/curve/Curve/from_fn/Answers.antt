use Rattle.std.proofs.Common.{rules, ◌≡◌, ◌+◌, [], ◌∷◌, ◌++◌, length, cond, set, ltb, refl, sym, ap, ◌∙◌, subst, arith, length-append}
use Rattle.std.proofs.lemmas.Bool.{cond-true, lt-ltb}
use denote.Param.Members.{Called}
use Rattle.metering.specs.Readings.{within, placed}
use Rattle.metering.specs.Curves.{fitted, curve_of_readings}
use Rattle.metering.proofs.Answered.{fitted_next, fills_next, filled}
use Rattle.metering.proofs.Same.{same_curve}
use Rattle.metering.proofs.curve.Curve.from_fn.Goals as goal

pub f-requires : goal.f-requires
f-requires g c = search (rules, c.loop-q.invariant.1.at [] c.loop-q.q c.loop-q.f c.loop-q.q (c.loop-q.q + 1) refl refl (c.loop-q-test.true, refl, refl))

pub loop-q-preserved : goal.loop-q-preserved
loop-q-preserved g c =
    let m = c.loop-q.invariant.0 in
    let r = c.f.result in
    let q = c.loop-q.q in
    let l : length m.0 ≡ q = m.1 in
    let e : placed (fitted 96 m.0) q r ≡ fitted 96 (m.0 ++ r ∷ [])
    = cond-true (ltb q 96) _ _ (lt-ltb q 96 c.loop-q-test.true) ∙ subst (λ n. cond (within r) (set (fitted 96 m.0) n r) (fitted 96 m.0) ≡ fitted 96 (m.0 ++ r ∷ [])) l (fitted_next 96 m.0 r (omega arith)) in
    let z : q ≡ 0 + length m.0 = omega arith in (
      (
        m.0 ++ r ∷ [],
        omega (arith, length-append m.0 (r ∷ [])),
        fills_next g.F.FnMut m.0 _ _ _ 0 r m.2 (subst (λ n. Called g.F.FnMut c.loop-q.f (n, tt) r c.f.new.self) z c.f.ensures),
        c.place.ensures ∙ ap (λ xs. placed xs q r) m.3 ∙ e,
      ),
      record { at = λ xs t v y u a b d. c.loop-q.invariant.1.at (q ∷ xs) t v y u (q + 1, (c.loop-q-test.true, refl, refl), a) (c.f.new.self, (r, c.f.ensures), b) d },
    )

pub returns : goal.returns
returns g c =
    let m = c.loop-q.invariant.0 in
    (m.0, filled g.F.FnMut m.0 _ _ 96 (omega (arith, m.1)) m.2, same_curve c.loop-q.curve _ (m.3 ∙ sym (curve_of_readings m.0)))
