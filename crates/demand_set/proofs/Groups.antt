-- Quantities in groups of as many as there are goods: one group and those after it, and how many there are.
use Rattle.std.proofs.Common.{◌≡◌, ◌≢◌, ◌<◌, ◌≤◌, ℕ, zero, suc, ◌+◌, ◌-◌, ◌*◌, ◌/◌, ◌%◌, List, [], ◌∷◌, ◌++◌, length, take, drop, refl, sym, ◌∙◌, ap, arith, append_assoc, zero-mul}
use Rattle.std.proofs.Math.Nat.{mul-mod_left, mul-div_cancel}
use Rattle.demand_set.specs.Reading.{groups}

pub length-groups : (n goods : ℕ) (numbers : List ℕ) → length (groups n goods numbers) ≡ n
length-groups zero goods numbers = refl
length-groups (suc n) goods numbers = ap (λ k. suc k) (length-groups n goods (drop goods numbers))

-- one bundle, and those after it
pub groups-next : (count place goods : ℕ) (numbers : List ℕ) → place < count → groups (count - place) goods numbers ≡ take goods numbers ∷ groups (count - (place + 1)) goods (drop goods numbers)
groups-next count place goods numbers below = let e : count - place ≡ suc (count - (place + 1)) = omega arith in ap (λ n. groups n goods numbers) e

-- the bundles that were read, and those after the next one
pub same-split : (goods : List ℕ) (items : List (List ℕ)) (rest x : List ℕ) (all : List (List ℕ)) (place end size : ℕ) → place < end → size ≡ length goods → x ≡ take size rest
    → items ++ groups (end - place) (length goods) rest ≡ all → (items ++ x ∷ []) ++ groups (end - (place + 1)) (length goods) (drop (length goods) rest) ≡ all
same-split goods items rest x all place end size below e f g =
    let front : x ≡ take (length goods) rest = f ∙ ap (λ n. take n rest) e in
    append_assoc items (x ∷ []) (groups (end - (place + 1)) (length goods) (drop (length goods) rest))
    ∙ ap (λ y. items ++ y ∷ groups (end - (place + 1)) (length goods) (drop (length goods) rest)) front
    ∙ ap (λ gs. items ++ gs) (sym (groups-next end place (length goods) rest below)) ∙ g

pub left-next : (left end place size : ℕ) → place < end → left ≡ (end - place) * size → left - size ≡ (end - (place + 1)) * size
left-next left end place size below e =
    let k : end - place ≡ end - (place + 1) + 1 = omega arith in
    let m : (end - place) * size ≡ (end - (place + 1) + 1) * size = ap (λ n. n * size) k in
    omega (arith, m, e)

pub whole-mod : (left count goods size : ℕ) → left ≡ count * goods → goods ≡ size → left % size ≡ 0
whole-mod left count goods size e f = ap (λ n. n % size) (e ∙ ap (λ n. count * n) f) ∙ mul-mod_left count size

pub whole-some : (left count goods size : ℕ) → left ≡ count * goods → goods ≡ size → left ≢ 0 → 1 ≤ size → 1 ≤ left / size
whole-some left zero goods size e f some up = absurd (some (e ∙ zero-mul goods))
whole-some left (suc count) goods size e f some up =
    let n : left / size ≡ suc count = ap (λ n. n / size) (e ∙ ap (λ k. suc count * k) f) ∙ mul-div_cancel (suc count) up in
    omega (arith, n)
