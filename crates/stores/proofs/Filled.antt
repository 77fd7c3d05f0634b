-- A curve that a closure fills is that of the list of what the closure answers.
use Rattle.std.proofs.Common.{◌≡◌, ℕ, ◌<◌, List, pos, sym, ap, ◌∙◌}
use denote.Param.Members.{Mut, Called}
use Rattle.std.specs.Array.{IsFromFnResult}
use Rattle.metering.specs.declared.reading.Reading.{Reading}
use Rattle.metering.specs.declared.reading.Reading.TheVariants.{Measured}
use Rattle.metering.specs.declared.curve.Curve.{Curve}
use Rattle.metering.specs.Curves.{limited, curve_of}
use Rattle.metering.proofs.Answered.{filled_at}
use Rattle.stores.specs.Words.{upto}
use Rattle.stores.specs.Upto.{length_upto, get_or_upto}
use Rattle.stores.specs.Placing.{curve_is}

pub filled : {F : Type 0} (g : Mut F (ℕ × Unit {0}) Reading) (h : ℕ → Reading) (f : F) (c : Curve)
    → (rs : List Reading) × IsFromFnResult g f rs 96 × (c ≡ curve_of rs)
    → ((x : ℕ) (r : Reading) (q : F) → x < 96 → Called g f (x, tt) r q → (q ≡ f) × (r ≡ h x)) → c ≡ curve_of (upto h 96)
filled g h f c m a =
    m.2 ∙ curve_is (curve_of m.0) (upto h 96) (length_upto h 96)
    (λ k l. filled_at g h f m.0 m.1 a k l ∙ ap limited (sym (get_or_upto h 96 k (Measured (pos 0)) l)))
