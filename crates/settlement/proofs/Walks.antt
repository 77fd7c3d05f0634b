-- The book's tests of a list by the library's words.
use Rattle.std.proofs.Common.{◌≡◌, ℕ, suc, ◌-◌, Bool, ◌&&◌, ◌||◌, eqb, ltb, true, List, [], ◌∷◌, length, slice_get, refl, sym, ap, ◌∙◌, arith}
use Rattle.std.specs.Option.{option_map_or}
use Rattle.std.specs.List.{list_any, list_all}
use Rattle.std.specs.Str.{bytes_eq}
use Rattle.std.proofs.lemmas.Bool.{ne_eqb}
use Rattle.ledger.specs.declared.records.Booked.{Booked}
use Rattle.ledger.specs.declared.records.Order.{Order}
use Rattle.ledger.specs.declared.records.Resource.{Resource}
use Rattle.ledger.specs.declared.records.Declaration.{Declaration}
use Rattle.ledger.specs.Days.{shares, rests_before}
use Rattle.ledger.specs.Book.{is_pod_byte, all_pod_bytes, is_used, is_empty, in_time, orders_in}

pub all_pod_bytes_lem : (pod : List ℕ) → list_all is_pod_byte pod ≡ all_pod_bytes pod
all_pod_bytes_lem [] = refl
all_pod_bytes_lem (b ∷ bs) = ap (λ t. is_pod_byte b && t) (all_pod_bytes_lem bs)

pub is_used_lem : (xs : List Resource) (pod : List ℕ) → list_any (λ x. bytes_eq x.pod pod) xs ≡ is_used xs pod
is_used_lem [] pod = refl
is_used_lem (x ∷ xs) pod = ap (λ t. bytes_eq x.pod pod || t) (is_used_lem xs pod)

pub shares_lem : (xs : List Declaration) (d q0 q1 : ℕ) → list_any (λ x. eqb x.day d && (ltb x.q0 q1 && ltb q0 x.q1)) xs ≡ shares xs d q0 q1
shares_lem [] d q0 q1 = refl
shares_lem (x ∷ xs) d q0 q1 = ap (λ t. (eqb x.day d && (ltb x.q0 q1 && ltb q0 x.q1)) || t) (shares_lem xs d q0 q1)

pub in_time_lem : (bs : List Booked) (o : Order) → option_map_or (λ a. rests_before a.order o) (slice_get bs (length bs - 1)) true ≡ in_time (orders_in bs) o
in_time_lem [] o = refl
in_time_lem (a ∷ []) o = refl
in_time_lem (a ∷ (b ∷ bs)) o =
    let at : List Booked → ℕ → Bool = λ xs k. option_map_or (λ (x : Booked). rests_before x.order o) (slice_get xs k) true in
    let one : length (b ∷ bs) - 1 ≡ length bs = omega arith in
    let two : length (a ∷ (b ∷ bs)) - 1 ≡ suc (length bs) = omega arith in
    ap (at (a ∷ (b ∷ bs))) two ∙ (sym (ap (at (b ∷ bs)) one) ∙ in_time_lem (b ∷ bs) o)

pub length_orders : (bs : List Booked) → length (orders_in bs) ≡ length bs
length_orders [] = refl
length_orders (b ∷ bs) = ap suc (length_orders bs)

pub empty_orders : (bs : List Booked) → eqb (length bs) 0 ≡ is_empty (orders_in bs)
empty_orders [] = refl
empty_orders (b ∷ bs) = ne_eqb (suc (length bs)) 0 (λ e. omega (arith, e))
