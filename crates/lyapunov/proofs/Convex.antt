-- Functions of prices that are convex at midpoints are submodular: over the goodwise lesser and greater of two price vectors
-- they sum to no more than over the two (Murota, Discrete Convex Analysis, chapter 7).
use Rattle.std.proofs.Common.{◌≡◌, ℕ, ◌+◌, ◌-◌, ◌≤◌, List, [], ◌∷◌, length, arith, ap, refl, sym, ◌∙◌}
use Rattle.std.specs.Prelude.{ℤ, ◌+ℤ◌, ◌≤ℤ◌}
use Rattle.std.proofs.lemmas.Int.{ints}
use Prim.Native.Nat.{suc, zero, min, max}
use Rattle.lot_base.proofs.Vec.{cost-plus_left}
use Rattle.lot_base.proofs.Vectors.{Apart, Bits, Within, above, inside, join, reduced, support, total}
use Rattle.lot_base.specs.Goods.{cost, plus, AtMost}

pub plus_comm : (p q : List ℕ) → plus p q ≡ plus q p
plus_comm [] [] = refl
plus_comm [] (b ∷ q) = refl
plus_comm (a ∷ p) [] = refl
plus_comm (a ∷ p) (b ∷ q) = let i : a + b ≡ b + a = omega arith in let j = plus_comm p q in cc

pub plus_assoc : (p q r : List ℕ) → plus (plus p q) r ≡ plus p (plus q r)
plus_assoc [] q r = refl
plus_assoc (a ∷ p) [] r = refl
plus_assoc (a ∷ p) (b ∷ q) [] = refl
plus_assoc (a ∷ p) (b ∷ q) (c ∷ r) = let i : (a + b) + c ≡ a + (b + c) = omega arith in let j = plus_assoc p q r in cc

-- what all that follows uses of a function of prices: it falls, or stays, towards the middle of two price vectors
abbrev pub IsMidConvex : (List ℕ → ℤ) → Type 0
IsMidConvex g =
    (a b m e : List ℕ) → Bits e → ((x : List ℕ) → cost a x + cost b x ≡ cost m x + cost (plus m e) x)
    → (g m +ℤ g (plus m e)) ≤ℤ (g a +ℤ g b)

pub square : (g : List ℕ → ℤ) → IsMidConvex g → (r v w : List ℕ) → Bits (plus v w)
    → (g r +ℤ g (plus r (plus v w))) ≤ℤ (g (plus r v) +ℤ g (plus r w))
square g mid r v w bits = mid (plus r v) (plus r w) r (plus v w) bits (λ x. omega (arith, cost-plus_left r v x, cost-plus_left r w x, cost-plus_left r (plus v w) x, cost-plus_left v w x))

pub Bits-none : (a : List ℕ) → Within 0 a → Bits a
Bits-none [] w = tt
Bits-none (a ∷ bs) w = (let i = w.0 in omega arith, Bits-none bs w.1)

pub length-plus : (p q : List ℕ) → length (plus p q) ≡ max (length p) (length q)
length-plus [] q = omega arith
length-plus (a ∷ p) [] = omega arith
length-plus (a ∷ p) (b ∷ q) = let i = length-plus p q in omega arith

pub support-reduced : (b : List ℕ) → plus (support b) (reduced b) ≡ b
support-reduced [] = refl
support-reduced (b ∷ bs) = let i : min b 1 + (b - 1) ≡ b = omega arith in let j = support-reduced bs in cc

Within-reduced : (n : ℕ) (b : List ℕ) → Within (suc n) b → Within n (reduced b)
Within-reduced n [] w = tt
Within-reduced n (b ∷ bs) w = (let i = w.0 in omega arith, Within-reduced n bs w.1)

Apart-reduced : (v b : List ℕ) → Apart v b → Apart v (reduced b)
Apart-reduced [] b h = tt
Apart-reduced (a ∷ v) [] h = tt
Apart-reduced (a ∷ v) (b ∷ bs) h = (let i = h.0 in omega arith, Apart-reduced v bs h.1)

Bits-support : (b : List ℕ) → Bits (support b)
Bits-support [] = tt
Bits-support (b ∷ bs) = (omega arith, Bits-support bs)

Bits-apart : (v b : List ℕ) → Bits v → Apart v b → Bits (plus v (support b))
Bits-apart [] b h i = Bits-support b
Bits-apart (a ∷ v) [] h i = h
Bits-apart (a ∷ v) (b ∷ bs) h i = (let j = h.0 in let k = i.0 in omega arith, Bits-apart v bs h.1 i.1)

Bits-none_beside : (v b : List ℕ) → Bits v → Within 0 b → Bits (plus v b)
Bits-none_beside [] b h w = Bits-none b w
Bits-none_beside (a ∷ v) [] h w = h
Bits-none_beside (a ∷ v) (b ∷ bs) h w = (let j = h.0 in let k = w.0 in omega arith, Bits-none_beside v bs h.1 w.1)

pub turned : (r v w : List ℕ) → plus r (plus v w) ≡ plus (plus r w) v
turned r v w = ap (plus r) (plus_comm v w) ∙ sym (plus_assoc r w v)

-- a step on goods whose prices are the same in r and in r + b gains at r as much as at r + b, or more
pub submodular_step : (g : List ℕ → ℤ) → IsMidConvex g → (v : List ℕ) → Bits v → (n : ℕ) (r b : List ℕ) → Within n b → Apart v b
    → (g r +ℤ g (plus (plus r b) v)) ≤ℤ (g (plus r v) +ℤ g (plus r b))
submodular_step g mid v bits zero r b w h =
    let i = square g mid r v b (Bits-none_beside v b bits w) in
    let j = ap g (turned r v b) in
    omega (arith, ints)
submodular_step g mid v bits (suc n) r b w h =
    let s = support b in
    let l = reduced b in
    let i = square g mid r v s (Bits-apart v b bits h) in
    let j = ap g (turned r v s) in
    let k = submodular_step g mid v bits n (plus r s) l (Within-reduced n b w) (Apart-reduced v b h) in
    let e = plus_assoc r s l ∙ ap (plus r) (support-reduced b) in
    let f = ap g e in
    let t = ap (λ z. g (plus z v)) e in
    omega (arith, ints)

-- the same for any two price vectors, as their goodwise least and what each has above it
pub submodular : (g : List ℕ → ℤ) → IsMidConvex g → (m : ℕ) (b : List ℕ) → Within m b → (n : ℕ) (r a : List ℕ) → Within n a → Apart a b
    → (g r +ℤ g (plus (plus r b) a)) ≤ℤ (g (plus r a) +ℤ g (plus r b))
submodular g mid m b wb zero r a w h = submodular_step g mid a (Bits-none a w) m r b wb h
submodular g mid m b wb (suc n) r a w h =
    let s = support a in
    let l = reduced a in
    let i = submodular_step g mid s (Bits-support a) m r b wb (Apart-support a b h) in
    let k = submodular g mid m b wb n (plus r s) l (Within-reduced n a w) (Apart-lowered_left a b h) in
    let e = ap g (plus_assoc r s l ∙ ap (plus r) (support-reduced a)) in
    let c = turned r s b ∙ refl in
    let f = ap g (plus_assoc r s b ∙ turned r s b) in
    let t = ap g (ap (λ z. plus z l) (plus_assoc r s b ∙ turned r s b) ∙ plus_assoc (plus r b) s l ∙ ap (plus (plus r b)) (support-reduced a)) in
    omega (arith, ints)
  where
    Apart-support : (v b : List ℕ) → Apart v b → Apart (support v) b
    Apart-support [] b h = tt
    Apart-support (a ∷ v) [] h = tt
    Apart-support (a ∷ v) (b ∷ bs) h = (let i = h.0 in omega arith, Apart-support v bs h.1)

    Apart-lowered_left : (v b : List ℕ) → Apart v b → Apart (reduced v) b
    Apart-lowered_left [] b h = tt
    Apart-lowered_left (a ∷ v) [] h = tt
    Apart-lowered_left (a ∷ v) (b ∷ bs) h = (let i = h.0 in omega arith, Apart-lowered_left v bs h.1)

pub Bits-inside : (e b : List ℕ) → Bits e → Bits (inside e b)
Bits-inside [] b h = tt
Bits-inside (e ∷ es) [] h = tt
Bits-inside (e ∷ es) (b ∷ bs) h = (let i = h.0 in omega arith, Bits-inside es bs h.1)

pub length-inside : (e b : List ℕ) → length (inside e b) ≡ min (length e) (length b)
length-inside [] b = omega arith
length-inside (e ∷ es) [] = omega arith
length-inside (e ∷ es) (b ∷ bs) = let i = length-inside es bs in omega arith

pub length-above : (x y : List ℕ) → length (above x y) ≡ length x
length-above [] y = refl
length-above (a ∷ x) [] = refl
length-above (a ∷ x) (b ∷ y) = ap suc (length-above x y)

pub Within-total : (b : List ℕ) → Within (total b) b
Within-total [] = tt
Within-total (b ∷ bs) = (omega arith, wider (total bs) (b + total bs) bs (omega arith) (Within-total bs))
  where
    wider : (m n : ℕ) (bs : List ℕ) → m ≤ n → Within m bs → Within n bs
    wider m n [] h w = tt
    wider m n (a ∷ bs) h w = (let i = w.0 in omega arith, wider m n bs h w.1)

pub total-plus : (p q : List ℕ) → total (plus p q) ≡ total p + total q
total-plus [] q = omega arith
total-plus (a ∷ p) [] = omega arith
total-plus (a ∷ p) (b ∷ q) = let i = total-plus p q in omega arith

pub join-above : (p q : List ℕ) → join p q ≡ plus p (above q p)
join-above [] [] = refl
join-above [] (b ∷ q) = refl
join-above (a ∷ p) [] = refl
join-above (a ∷ p) (b ∷ q) = let i : max a b ≡ a + (b - a) = omega arith in let j = join-above p q in cc

pub plus-above : (p q : List ℕ) → AtMost p q → plus p (above q p) ≡ q
plus-above [] [] h = refl
plus-above [] (b ∷ q) h = absurd h
plus-above (a ∷ p) [] h = absurd h
plus-above (a ∷ p) (b ∷ q) h = let z = h.0 in let i : a + (b - a) ≡ b = omega arith in let j = plus-above p q h.1 in cc
