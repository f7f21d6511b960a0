-- The quantities of a bundle on all sets of goods, by halves.
use Rattle.std.proofs.Common.{◌≡◌, ◌<◌, ◌≤◌, ℕ, zero, suc, ◌+◌, ◌*◌, ◌/◌, ◌%◌, ◌^◌, nat_eq, Bool, true, false, cond, List, [], ◌∷◌, ◌++◌, length, get_or, refl, sym, ◌∙◌, ap, arith}
use Rattle.std.specs.List.{AllByRecursion}
use Rattle.std.proofs.Math.Nat.{mul-le-mul_left}
use Rattle.lot_base.specs.Goods.{quantity_in, box_size, AtMost}
use Rattle.demand_set.specs.Sums.{IsShort, AreSumsOf, AreHalves}

no-units : (b : Bool) (y : ℕ) → y ≡ 0 → cond b y 0 ≡ 0
no-units true y e = e
no-units false y e = refl

-- zeros after a bundle change nothing
behind : (x ys : List ℕ) (set : ℕ) → AllByRecursion (λ y. y ≡ 0) ys → quantity_in (x ++ ys) set ≡ quantity_in x set
behind [] [] set zeros = refl
behind [] (y ∷ ys) set zeros =
    let first = no-units (nat_eq (set % 2) 1) y zeros.0 in
    let rest = behind [] ys (set / 2) zeros.1 in
    omega (arith, first, rest)
behind (q ∷ x) ys set zeros = ap (λ n. cond (nat_eq (set % 2) 1) q 0 + n) (behind x ys (set / 2) zeros)

abbrev pub six : List ℕ → List ℕ
six x = get_or x 0 0 ∷ get_or x 1 0 ∷ get_or x 2 0 ∷ get_or x 3 0 ∷ get_or x 4 0 ∷ get_or x 5 0 ∷ []

pub six-sum : (x : List ℕ) (set : ℕ) → length x ≤ 6 → quantity_in (six x) set ≡ quantity_in x set
six-sum [] set few = behind [] (0 ∷ 0 ∷ 0 ∷ 0 ∷ 0 ∷ 0 ∷ []) set (refl, (refl, (refl, (refl, (refl, (refl, tt))))))
six-sum (a ∷ []) set few = behind (a ∷ []) (0 ∷ 0 ∷ 0 ∷ 0 ∷ 0 ∷ []) set (refl, (refl, (refl, (refl, (refl, tt)))))
six-sum (a ∷ b ∷ []) set few = behind (a ∷ b ∷ []) (0 ∷ 0 ∷ 0 ∷ 0 ∷ []) set (refl, (refl, (refl, (refl, tt))))
six-sum (a ∷ b ∷ c ∷ []) set few = behind (a ∷ b ∷ c ∷ []) (0 ∷ 0 ∷ 0 ∷ []) set (refl, (refl, (refl, tt)))
six-sum (a ∷ b ∷ c ∷ d ∷ []) set few = behind (a ∷ b ∷ c ∷ d ∷ []) (0 ∷ 0 ∷ []) set (refl, (refl, tt))
six-sum (a ∷ b ∷ c ∷ d ∷ e ∷ []) set few = behind (a ∷ b ∷ c ∷ d ∷ e ∷ []) (0 ∷ []) set (refl, tt)
six-sum (a ∷ b ∷ c ∷ d ∷ e ∷ f ∷ []) set few = refl
six-sum (a ∷ b ∷ c ∷ d ∷ e ∷ f ∷ g ∷ x) set few = absurd (omega arith)

-- the first three goods and the others
pub split-sum : (a b c : ℕ) (ys : List ℕ) (row set : ℕ) → set < 8 → quantity_in (a ∷ b ∷ c ∷ ys) (8 * row + set) ≡ quantity_in (a ∷ b ∷ c ∷ []) set + quantity_in ys row
split-sum a b c ys row set below =
    let n = 8 * row + set in
    let p : n % 2 ≡ set % 2 = omega arith in
    let q : (n / 2) % 2 ≡ (set / 2) % 2 = omega arith in
    let r : ((n / 2) / 2) % 2 ≡ ((set / 2) / 2) % 2 = omega arith in
    let s : ((n / 2) / 2) / 2 ≡ row = omega arith in
    (λ i. cond (nat_eq (p i) 1) a 0 + (cond (nat_eq (q i) 1) b 0 + (cond (nat_eq (r i) 1) c 0 + quantity_in ys (s i)))) ∙ omega arith

pub halves-sum : (x : List ℕ) (row set : ℕ) → length x ≤ 6 → set < 8
    → quantity_in (get_or x 0 0 ∷ get_or x 1 0 ∷ get_or x 2 0 ∷ []) set + quantity_in (get_or x 3 0 ∷ get_or x 4 0 ∷ get_or x 5 0 ∷ []) row ≡ quantity_in x (8 * row + set)
halves-sum x row set few below =
    sym (split-sum (get_or x 0 0) (get_or x 1 0) (get_or x 2 0) (get_or x 3 0 ∷ get_or x 4 0 ∷ get_or x 5 0 ∷ []) row set below) ∙ six-sum x (8 * row + set) few

-- three goods of a short bundle
pub low-short : (x : List ℕ) → length x ≤ 6 → IsShort x → get_or x 0 0 + get_or x 1 0 + get_or x 2 0 < 2 ^ 16
low-short x few short = let h = halves-sum x 0 7 few (omega arith) in let s = short 7 in omega (arith, h, s)

pub high-short : (x : List ℕ) → length x ≤ 6 → IsShort x → get_or x 3 0 + get_or x 4 0 + get_or x 5 0 < 2 ^ 16
high-short x few short = let h = halves-sum x 7 0 few (omega arith) in let s = short 56 in omega (arith, h, s)

pub three-sums : (a b c : ℕ) → AreSumsOf a b c (0 ∷ a ∷ b ∷ (a + b) ∷ c ∷ (a + c) ∷ (b + c) ∷ (a + b + c) ∷ [])
three-sums a b c zero below = omega arith
three-sums a b c (suc zero) below = omega arith
three-sums a b c (suc (suc zero)) below = omega arith
three-sums a b c (suc (suc (suc zero))) below = omega arith
three-sums a b c (suc (suc (suc (suc zero)))) below = omega arith
three-sums a b c (suc (suc (suc (suc (suc zero))))) below = omega arith
three-sums a b c (suc (suc (suc (suc (suc (suc zero)))))) below = omega arith
three-sums a b c (suc (suc (suc (suc (suc (suc (suc zero))))))) below = omega arith
three-sums a b c (suc (suc (suc (suc (suc (suc (suc (suc n)))))))) below = absurd (omega arith)

pub are-halves : (x low high : List ℕ) → length x ≤ 6 → AreSumsOf (get_or x 0 0) (get_or x 1 0) (get_or x 2 0) low → AreSumsOf (get_or x 3 0) (get_or x 4 0) (get_or x 5 0) high → AreHalves x low high
are-halves x low high few l h = λ row set up below. (λ i. l set below i + h row up i) ∙ halves-sum x row set few below

-- a bundle within a supply has at most its units of a set, and these are fewer than the box has bundles
pub part : (d x s : ℕ) → x ≤ s → cond (nat_eq d 1) x 0 ≤ cond (nat_eq d 1) s 0
part zero x s up = omega arith
part (suc zero) x s up = up
part (suc (suc d)) x s up = grind arith

pub quantity-within : (x supply : List ℕ) (set : ℕ) → AtMost x supply → quantity_in x set ≤ quantity_in supply set
quantity-within [] [] set h = omega arith
quantity-within [] (s ∷ supply) set h = absurd h
quantity-within (q ∷ x) [] set h = absurd h
quantity-within (q ∷ x) (s ∷ supply) set h = let i = quantity-within x supply (set / 2) h.1 in let p = part (set % 2) q s h.0 in omega (arith, i, p)

pub whole-part : (d s : ℕ) → cond (nat_eq d 1) s 0 ≤ s
whole-part zero s = omega arith
whole-part (suc zero) s = omega arith
whole-part (suc (suc d)) s = grind arith

pub units-few : (supply : List ℕ) (set : ℕ) → quantity_in supply set + 1 ≤ box_size supply
units-few [] set = omega arith
units-few (s ∷ supply) set =
    let i = units-few supply (set / 2) in
    let p = whole-part (set % 2) s in
    let some : 1 ≤ box_size supply = omega (arith, i) in
    let k : s * 1 ≤ s * box_size supply = mul-le-mul_left s some in
    omega (arith, i, p, k)

pub all-short : (supply : List ℕ) (bundles : List (List ℕ)) → box_size supply ≤ 2048 → AllByRecursion (λ x. AtMost x supply) bundles → AllByRecursion IsShort bundles
all-short supply [] small within = tt
all-short supply (x ∷ bundles) small within =
    ((λ set. let a = quantity-within x supply set within.0 in let b = units-few supply set in omega (arith, a, b, small)), all-short supply bundles small within.1)
