-- A part of a memory written over, and a row written reading by reading.
use Rattle.std.proofs.Common.{◌≡◌, ℕ, ◌+◌, ◌-◌, ◌<◌, ◌≤◌, ℤ, subst, List, ◌++◌, length, get_or, take, drop, append_assoc, arith, length-append}
use borrow.Rule.Slice.PartMut.{put_mid}
use Rattle.std.specs.List.{flat_map}
use Rattle.std.proofs.lemmas.List.{drop-drop, take_at, take_more, flat_map_more, length-take}
use Rattle.metering.specs.declared.reading.Reading.{Reading}
use Rattle.stores.specs.Rows.{reading_bytes}

-- what a write to `s[a..e]` leaves
pub mid : {X : Type 0} (a e : ℕ) (xs ys zs : List X) → ys ≡ zs → a ≤ e → put_mid a (e - a) xs ys ≡ take a xs ++ (zs ++ drop e xs)
mid a e xs ys zs p le = let q : a + (e - a) ≡ e = omega arith in let d = drop-drop (e - a) a xs in cc

-- one more reading
pub one_more : (row after head : List ℕ) (rs : List Reading) (at n i : ℕ) (d v : Reading)
    → after ≡ take at row ++ (reading_bytes v ++ drop (at + 4) row) → v ≡ get_or rs i d → at + 4 ≤ length row → i < length rs → n ≡ at + 4
    → take at row ≡ head ++ flat_map reading_bytes (take i rs) → take n after ≡ head ++ flat_map reading_bytes (take (i + 1) rs)
one_more row after head rs at n i d v e ev fits lt en inv =
    let l : length (take at row ++ reading_bytes v) ≡ n = simp (length-append, length-take) (omega arith) in
    let a : (take at row ++ reading_bytes v) ++ drop (at + 4) row ≡ take at row ++ (reading_bytes v ++ drop (at + 4) row) = append_assoc (take at row) (reading_bytes v) _ in
    let t = take_at (take at row ++ reading_bytes v) (drop (at + 4) row) n l in
    let j = flat_map_more reading_bytes head (take i rs) v in
    let m = take_more rs i d lt in
    cc

-- the same words under another name, at the same place
pub in_place : (W : List ℤ → List ℤ → ℕ → Type 0) (bs ws vs : List ℤ) (a b : ℕ) → bs ≡ ws → a ≡ b → W bs vs a → W ws vs b
in_place W bs ws vs a b e f w = subst (W ws vs) f (subst (λ xs. W xs vs a) e w)
