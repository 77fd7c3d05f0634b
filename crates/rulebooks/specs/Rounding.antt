-- What it is to round a fraction num / den, den above 0, to a whole number: to the nearest one, and at an
-- exact half to the greater of the two.
use Rattle.std.specs.Prelude.{◌≡◌, ℕ, ◌≤◌, Bool, cond, ◌||◌, ℤ, pos, ◌+ℤ◌, ◌-ℤ◌, ◌*ℤ◌, ◌≤ℤ◌, ◌<ℤ◌, Some, None, Option, int_lt, nat_lt, unsigned_abs}
use Rattle.std.specs.Int.{int_div_euclid}

-- z is at most a half from num / den, on either side
pub record Nearest (num den z : ℤ) : Type 0 where
  pub not_over : (pos 2 *ℤ (z *ℤ den)) ≤ℤ ((pos 2 *ℤ num) +ℤ den)
  pub not_under : (pos 2 *ℤ num) ≤ℤ ((pos 2 *ℤ (z *ℤ den)) +ℤ den)

-- num / den lies exactly a half over z
abbrev pub HalfOver : ℤ → ℤ → ℤ → Type 0
HalfOver num den z = (pos 2 *ℤ num) ≡ ((pos 2 *ℤ (z *ℤ den)) +ℤ den)

-- z is num / den rounded
pub record Rounded (num den z : ℤ) : Type 0 where
  pub nearest : Nearest num den z
  pub tie : HalfOver num den z → ⊥

-- The rounding as a function. What is known of it are the laws below: their proofs and that of the code which computes it
-- look inside, and nothing else does.
unfoldable pub rounded : ℤ → ℤ → ℤ
rounded num den = int_div_euclid ((pos 2 *ℤ num) +ℤ den) (pos 2 *ℤ den)

-- it rounds
abbrev pub Rounds : Type 0
Rounds = (num den : ℤ) → pos 0 <ℤ den → Rounded num den (rounded num den)

-- no other number is the rounding
abbrev pub OneRounding : Type 0
OneRounding = (num den z : ℤ) → pos 0 <ℤ den → Rounded num den z → rounded num den ≡ z

-- how far z is from num / den, in parts of 1 / den
abbrev pub apart : ℤ → ℤ → ℤ → ℕ
apart num den z = unsigned_abs (num -ℤ (z *ℤ den))

-- no whole number is nearer, and one that is as near is not greater
abbrev pub NoneNearer : Type 0
NoneNearer = (num den z w : ℤ) → pos 0 <ℤ den → Rounded num den z → apart num den z ≤ apart num den w

abbrev pub TiesToGreater : Type 0
TiesToGreater = (num den z w : ℤ) → pos 0 <ℤ den → Rounded num den z → apart num den w ≡ apart num den z → w ≤ℤ z

-- a greater fraction is not rounded to a lesser number
abbrev pub Monotone : Type 0
Monotone = (num more den y z : ℤ) → pos 0 <ℤ den → num ≤ℤ more → Rounded num den y → Rounded more den z → y ≤ℤ z

-- a whole number stays
abbrev pub WholeStays : Type 0
WholeStays = (den z : ℤ) → pos 0 <ℤ den → Rounded (z *ℤ den) den z

pub record RoundingLaws : Type 0 where
  pub rounds : Rounds
  pub one_rounding : OneRounding
  pub none_nearer : NoneNearer
  pub ties_to_greater : TiesToGreater
  pub monotone : Monotone
  pub whole_stays : WholeStays

-- The numbers that the public call rounds: den from 1 to 10^18, num from -10^18 to 10^18.
abbrev pub unroundable : ℤ → ℤ → Bool
unroundable num den = int_lt den (pos 1) || (int_lt (pos 1_000_000_000_000_000_000) den || nat_lt 1_000_000_000_000_000_000 (unsigned_abs num))

pub record Roundable (num den : ℤ) : Type 0 where
  pub positive : pos 0 <ℤ den
  pub den_size : den ≤ℤ pos 1_000_000_000_000_000_000
  pub num_size : unsigned_abs num ≤ 1_000_000_000_000_000_000

-- what the public call answers
abbrev pub divided : ℤ → ℤ → Option ℤ
divided num den = cond (unroundable num den) None (Some (rounded num den))
