-- Layers: between two ordered price vectors the goods that are furthest apart form a layer, and moving both ends towards each
-- other on it does not raise a convex function. So prices that no set of goods improves are improved by no higher prices.
use Rattle.std.proofs.Common.{◌≡◌, ℕ, ◌+◌, ◌-◌, ◌*◌, ◌≤◌, ◌<◌, List, [], ◌∷◌, length, arith, ap, refl, inl, inr, ◌∙◌}
use Rattle.std.specs.Prelude.{ℤ, ◌+ℤ◌, ◌≤ℤ◌}
use Rattle.std.proofs.lemmas.Int.{ints}
use Rattle.std.proofs.lemmas.Bool.{cases_lt}
use Prim.Native.Nat.{suc, zero, min}
use Rattle.lot_base.proofs.Vec.{at-below, cost-plus_left, length-below}
use Rattle.lot_base.proofs.Vectors.{Bits, Within, above, reduced, support}
use Rattle.lot_base.specs.Goods.{AtMost, at, cost, plus}
use Rattle.lyapunov.proofs.Convex.{plus-above, IsMidConvex, length-above, length-plus, plus_assoc, support-reduced}
use Rattle.lyapunov.proofs.Entrywise.{AtMost-at, Bits-at, Within-at, at-reduced, at-rest, at-sum, at-support, same-at}

-- b has n units of each good of the set v, and at most n of any good
abbrev pub IsLevel : ℕ → List ℕ → List ℕ → Type 0
IsLevel n v b = (k : ℕ) → (at v k ≤ 1) × (at b k ≤ n) × (0 < at v k → at b k ≡ n)

cost-none : (b x : List ℕ) → Within 0 b → cost b x ≡ 0
cost-none [] x w = refl
cost-none (a ∷ b) [] w = refl
cost-none (a ∷ b) (c ∷ x) w = let i = cost-none b x w.1 in let z = w.0 in let e : a ≡ 0 = omega arith in let f = ap (λ t. t * c) e in omega arith

length-support : (b : List ℕ) → length (support b) ≡ length b
length-support [] = refl
length-support (a ∷ b) = ap suc (length-support b)

length-reduced : (b : List ℕ) → length (reduced b) ≡ length b
length-reduced [] = refl
length-reduced (a ∷ b) = ap suc (length-reduced b)

in_support : (v b n : ℕ) → v ≤ 1 → (0 < v → b ≡ suc n) → v ≤ min b 1
in_support v b n h t = elim (cases_lt 0 v) [ inl i ↦ (let e = t i in omega arith) | inr i ↦ omega arith ]

-- where every good of the set is at the top of b, the set gains at r as much as at r + b, or more
pub convex_along : (g : List ℕ → ℤ) → IsMidConvex g → (v : List ℕ) → (n : ℕ) (r b : List ℕ) → length v ≡ length b → IsLevel n v b
    → (g (plus r v) +ℤ g (plus r b)) ≤ℤ (g r +ℤ g (plus (plus r b) v))
convex_along g mid v zero r b l h =
    let w = Within-at 0 b (λ k. (h k).1) in
    let bits = Bits-at v (λ k. (h k).0) in
    let i = mid r (plus (plus r b) v) (plus r b) v bits (λ x. omega (arith, cost-plus_left r b x, cost-plus_left (plus r b) v x, cost-none b x w)) in
    let j = mid (plus (plus r b) v) r r v bits (λ x. omega (arith, cost-plus_left r b x, cost-plus_left (plus r b) v x, cost-plus_left r v x, cost-none b x w)) in
    omega (arith, ints)
convex_along g mid v (suc n) r b l h =
    let s = support b in
    let m = reduced b in
    let e = above s v in
    let ls = length-support b in
    let lm = length-reduced b in
    let le = length-above s v in
    let bits = Bits-at e (λ k. omega (arith, at-rest s v k, at-support b k)) in
    let f : plus v e ≡ s = same-at (plus v e) s (omega (arith, length-plus v e)) (λ k. let t = h k in let i = in_support (at v k) (at b k) n t.0 t.2 in omega (arith, at-sum v e k, at-rest s v k, at-support b k)) in
    let i = mid r (plus (plus r s) v) (plus r v) e bits (λ x. let y = ap (λ t. cost t x) f in
    omega (arith, cost-plus_left r s x, cost-plus_left (plus r s) v x, cost-plus_left r v x, cost-plus_left (plus r v) e x, cost-plus_left v e x)) in
    let y = ap g (plus_assoc r v e ∙ ap (plus r) f) in
    let k = convex_along g mid v n (plus r s) m (omega arith) (λ k. let t = h k in let t0 = t.0 in let t1 = t.1 in let t2 = t.2 in let a = at-reduced b k in (t0, omega arith, λ z. omega arith)) in
    let c = plus_assoc r s m ∙ ap (plus r) (support-reduced b) in
    let x = ap g c in
    let w = ap (λ t. g (plus t v)) c in
    omega (arith, ints)

-- the goods of which x has m units, where it has at most m of each
top : ℕ → List ℕ → List ℕ
top m [] = []
top m (x ∷ xs) = (1 - (m - x)) ∷ top m xs

length-top : (m : ℕ) (x : List ℕ) → length (top m x) ≡ length x
unfolding top
length-top m [] = refl
length-top m (a ∷ x) = ap suc (length-top m x)

at-top : (m : ℕ) (x : List ℕ) (k : ℕ) → 0 < m → at (top m x) k ≡ 1 - (m - at x k)
unfolding top
at-top m [] k h = omega arith
at-top m (a ∷ x) zero h = refl
at-top m (a ∷ x) (suc k) h = at-top m x k h

level-top : (n : ℕ) (d : List ℕ) → ((k : ℕ) → at d k ≤ suc n) → IsLevel n (top (suc n) d) (above d (top (suc n) d))
level-top n d h k =
    let i = h k in
    let t = at-top (suc n) d k (omega arith) in
    let r = at-rest d (top (suc n) d) k in
    (omega arith, omega arith, λ z. omega arith)

-- between x and y, that have at most n + 1 units between them of any good: the goods with as many, and what they gain at either end
pub record Layer (g : List ℕ → ℤ) (x y : List ℕ) (n : ℕ) : Type 0 where
  pub goods : List ℕ
  pub same : length goods ≡ length x
  pub is : (k : ℕ) → at goods k ≡ 1 - (suc n - (at y k - at x k))
  pub gain : (g (plus x goods) +ℤ g (above y goods)) ≤ℤ (g x +ℤ g y)

pub layer : (g : List ℕ → ℤ) → IsMidConvex g → (x y : List ℕ) (n : ℕ) → AtMost x y → ((k : ℕ) → at y k ≤ at x k + suc n) → Layer g x y n
layer g mid x y n xy h =
    let d = above y x in
    let v = top (suc n) d in
    let b = above d v in
    let lx = length-below x y xy in
    let ld = length-above y x in
    let lv = length-top (suc n) d in
    let lb = length-above d v in
    let lxb = length-plus x b in
    let av : (k : ℕ) → at v k ≡ 1 - (suc n - (at y k - at x k)) = λ k. omega (arith, at-top (suc n) d k (omega arith), at-rest y x k) in
    let i = convex_along g mid v n x b (omega arith) (level-top n d (λ k. let i = h k in omega (arith, at-rest y x k))) in
    let c = ap g (same-at (plus x b) (above y v) (omega (arith, length-above y v)) (λ k. omega (arith, av k, at-below x y k xy, at-sum x b k, at-rest d v k, at-rest y x k, at-rest y v k))) in
    let e = ap g (same-at (plus (plus x b) v) y (omega (arith, length-plus (plus x b) v)) (λ k. omega (arith, av k, at-below x y k xy, at-sum (plus x b) v k, at-sum x b k, at-rest d v k, at-rest y x k))) in
    record { goods = v; same = omega arith; is = av; gain = omega (arith, ints) }

-- where no set raises p to a lower value of g, no higher prices have one
pub least_up : (g : List ℕ → ℤ) → IsMidConvex g → (p : List ℕ) → ((e : List ℕ) → Bits e → length e ≡ length p → g p ≤ℤ g (plus p e))
    → (n : ℕ) (r : List ℕ) → AtMost p r → ((k : ℕ) → at r k ≤ at p k + suc n) → g p ≤ℤ g r
least_up g mid p here zero r pr h =
    let e = above r p in
    let i = here e (Bits-at e (λ k. let a = h k in omega (arith, at-rest r p k))) (omega (arith, length-above r p, length-below p r pr)) in
    let j = ap g (plus-above p r pr) in
    omega (arith, ints)
least_up g mid p here (suc n) r pr h =
    let t = layer g mid p r (suc n) pr h in
    let v = t.goods in
    let lr = length-below p r pr in
    let i = here v (Bits-at v (λ k. omega (arith, t.is k))) t.same in
    let gain = t.gain in
    let w = above r v in
    let j = least_up g mid p here n w (AtMost-at p w (omega (arith, length-above r v)) (λ k. omega (arith, at-rest r v k, t.is k, at-below p r k pr))) (λ k. let a = h k in omega (arith, at-rest r v k, t.is k)) in
    omega (arith, ints)
