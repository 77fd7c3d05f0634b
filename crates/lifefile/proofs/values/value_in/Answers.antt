use Rattle.std.proofs.Common.{rules, ◌≡◌, ◌≢◌, ℕ, false, eqb, List, [], ◌∷◌, ◌∙◌, ap, lit<, arith}
use Rattle.std.proofs.lemmas.Grind.{common_steps}
use Rattle.std.proofs.lemmas.Str.Pattern.{strip_prefix_char}
use Rattle.std.specs.Cmp.Lexicographic.{pointwise}
use Rattle.std.specs.Option.{option_map}
use Rattle.lifefile.specs.declared.values.Value.TheVariants.{Injected}
use Rattle.lifefile.specs.Words.{number_in}
use Rattle.lifefile.specs.Values.{value_in}
use Rattle.lifefile.proofs.values.value_in.Goals as goal

-- a word that is neither E nor begins with a minus sign
injected_value : (t : List ℕ) → false ≡ pointwise eqb t (69 ∷ []) → ((rest : List ℕ) → t ≢ 45 ∷ rest) → option_map (λ n. Injected n) (number_in t) ≡ value_in t
injected_value [] e h = grind (arith, common_steps, e)
injected_value (b ∷ []) e h =
    let m : b ≢ 45 = λ q. h [] (ap (λ x. x ∷ []) q) in
    grind (arith, common_steps, e, m)
injected_value (b ∷ b2 ∷ bs) e h =
    let m : b ≢ 45 = λ q. h (b2 ∷ bs) (ap (λ x. x ∷ b2 ∷ bs) q) in
    grind (arith, common_steps, m)

pub returns-in-None : goal.returns-in-None
returns-in-None c =
    let m : c.map-in-None.result ≡ option_map (λ n. Injected n) (number_in c.args.word.now) = search rules in
    let none = rw c.in-None.is at (strip_prefix_char 45 c.args.word.now c.strip_prefix.result c.strip_prefix.ensures.cases (lit< tt)) in
    m ∙ injected_value c.args.word.now c.if-eq.ensures none
