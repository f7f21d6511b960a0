-- The first number of what is left of a list, and the rest.
use Rattle.std.proofs.Common.{replicate, ◌≡◌, ◌<◌, ◌≤◌, ℕ, ◌+◌, ◌*◌, ◌/◌, ◌%◌, ◌^◌, nat_eq, cond, List, length, get_or, drop, arith, refl, suc, zero, ap, ◌∙◌, lit≤, add-one}
use Rattle.std.proofs.Math.Seq.{drop-cons}
use Rattle.lot_base.specs.Goods.{quantity_in, box_size}

pub quantity_in_drop : (xs : List ℕ) (i set : ℕ) → i < length xs → quantity_in (drop i xs) set ≡ cond (nat_eq (set % 2) 1) (get_or xs i 0) 0 + quantity_in (drop (i + 1) xs) (set / 2)
quantity_in_drop xs i set below = rw (add-one, drop-cons xs i 0)

pub box_of_drop : (xs : List ℕ) (i : ℕ) → i < length xs → box_size (drop i xs) ≡ (get_or xs i 0 + 1) * box_size (drop (i + 1) xs)
box_of_drop xs i below = ap box_size (drop-cons xs i 0 below) ∙ (let e : suc i ≡ i + 1 = omega arith in ap (λ n. (get_or xs i 0 + 1) * box_size (drop n xs)) e)

pub power_up : (i : ℕ) → i < 6 → 65536 ^ i ≤ 2 ^ 80
power_up zero below = lit≤ tt
power_up (suc zero) below = lit≤ tt
power_up (suc (suc zero)) below = lit≤ tt
power_up (suc (suc (suc zero))) below = lit≤ tt
power_up (suc (suc (suc (suc zero)))) below = lit≤ tt
power_up (suc (suc (suc (suc (suc zero))))) below = lit≤ tt
power_up (suc (suc (suc (suc (suc (suc i)))))) below = absurd (omega arith)

pub two_up : (i : ℕ) → i ≤ 6 → 2 ^ i ≤ 64
two_up zero below = lit≤ tt
two_up (suc zero) below = lit≤ tt
two_up (suc (suc zero)) below = lit≤ tt
two_up (suc (suc (suc zero))) below = lit≤ tt
two_up (suc (suc (suc (suc zero)))) below = lit≤ tt
two_up (suc (suc (suc (suc (suc zero))))) below = lit≤ tt
two_up (suc (suc (suc (suc (suc (suc zero)))))) below = lit≤ tt
two_up (suc (suc (suc (suc (suc (suc (suc i))))))) below = absurd (omega arith)

pub zeros_are : (n k : ℕ) → let zero_is : ℕ = 0 in get_or (replicate n zero_is) k zero_is ≡ zero_is
zeros_are zero k = refl
zeros_are (suc n) zero = refl
zeros_are (suc n) (suc k) = zeros_are n k
