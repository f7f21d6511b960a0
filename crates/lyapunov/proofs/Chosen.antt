-- Steps that are chosen by a convex function of prices: each leads to its least value within reach, by as few goods as can be.
-- Such steps keep to the first of the best prices, and are as many as the highest rise of a price.
use Rattle.std.proofs.Common.{◌≡◌, ℕ, ◌+◌, ◌-◌, ◌≤◌, ◌<◌, List, [], ◌∷◌, length, arith, ap}
use Rattle.std.specs.Prelude.{ℤ, ◌≤ℤ◌}
use Rattle.std.proofs.lemmas.Int.{ints}
use Prim.Native.Nat.{suc}
use Rattle.lot_base.proofs.Vec.{at-below, at-bits, length-below}
use Rattle.lot_base.proofs.Vectors.{Bits, above, lower, total}
use Rattle.lot_base.specs.Goods.{AtMost, at, plus}
use Rattle.lyapunov.proofs.Convex.{IsMidConvex, join-above, length-above, length-plus, plus_assoc}
use Rattle.lyapunov.proofs.Entrywise.{AtMost-at, Bits-at, at-lower, at-rest, at-sum, highest-bounds, highest-reached, highest-within, same-at, same-total, total-some}
use Rattle.lyapunov.proofs.Lattice.{AtMost-more, AtMost-raised, AtMost-same, AtMost-self, lattice, lower-both, lower-left}
use Rattle.lyapunov.proofs.Layers.{layer}
use Rattle.lyapunov.specs.Paths.{highest}

-- a set of goods by its digits
abbrev pub IsSet : List ℕ → List ℕ → Type 0
IsSet s e = Bits e × (length e ≡ length s)

-- the set leads to the least value of g that one set can reach, and no other such set has fewer goods
pub record Chosen (s : List ℕ) (g : List ℕ → ℤ) (p e : List ℕ) : Type 0 where
  pub set : IsSet s e
  pub best : (f : List ℕ) → IsSet s f → g (plus p e) ≤ℤ g (plus p f)
  pub fewest : (f : List ℕ) → IsSet s f → g (plus p f) ≤ℤ g (plus p e) → total e ≤ total f

-- the prices that steps lead to
abbrev pub prices_over : List ℕ → List (List ℕ) → List ℕ
prices_over p [] = p
prices_over p (e ∷ es) = prices_over (plus p e) es

abbrev pub NoneEmpty : List (List ℕ) → Type 0
NoneEmpty [] = Unit {0}
NoneEmpty (e ∷ es) = (0 < total e) × NoneEmpty es

-- from the floor up to q, no other prices are as good as q
abbrev pub IsFirst : List ℕ → (List ℕ → ℤ) → List ℕ → Type 0
IsFirst o g q = (r : List ℕ) → AtMost o r → AtMost r q → g r ≤ℤ g q → r ≡ q

-- the top layer of what is left to q is in the step: else the step and that layer together would be a better one
pub step_falls : (s : List ℕ) (g : List ℕ → ℤ) → IsMidConvex g → (o p e q : List ℕ) → length p ≡ length s → AtMost o p → IsFirst o g q
    → AtMost (plus p e) q → Chosen s g p e → (n : ℕ) → ((k : ℕ) → at q k ≤ at p k + suc n) → (k : ℕ) → at q k ≤ at (plus p e) k + n
step_falls s g mid o p e q lp op first pq t n w =
    let le = t.set.1 in
    let bits = t.set.0 in
    let pe = plus p e in
    let lpe = length-plus p e in
    let wd : (k : ℕ) → at q k ≤ at pe k + suc n = λ k. (let i = w k in omega (arith, at-sum p e k)) in
    let l = layer g mid pe q n pq wd in
    let v = l.goods in
    let lv = l.same in
    let gain = l.gain in
    let f : Bits (plus e v) = Bits-at (plus e v) (λ k. let i = w k in omega (arith, l.is k, at-bits e k bits, at-sum p e k, at-sum e v k)) in
    let j = t.best (plus e v) (f, omega (arith, length-plus e v)) in
    let m = ap g (plus_assoc p e v) in
    let z = above q v in
    let oz : AtMost o z = AtMost-at o z (omega (arith, length-above q v, length-below pe q pq, length-below o p op)) (λ k. omega (arith, l.is k, at-below o p k op, at-below pe q k pq, at-sum p e k, at-rest q v k)) in
    let zq : AtMost z q = AtMost-at z q (length-above q v) (λ k. omega (arith, at-rest q v k)) in
    let c = first z oz zq (omega (arith, ints)) in
    λ k. let i = wd k in let a = ap (λ r. at r k) c in omega (arith, l.is k, at-rest q v k)

-- what a step adds up to other prices, of what they have beyond, is the step, where it is as good
part_of_step : (s : List ℕ) (g : List ℕ → ℤ) (p e r : List ℕ) → length p ≡ length s → Chosen s g p e → AtMost r (plus p e)
    → IsSet s (above r p) × AtMost (above r p) e
part_of_step s g p e r lp t rp =
    let le = t.set.1 in
    let lr = length-below r (plus p e) rp in
    let lf = length-above r p in
    let fe : AtMost (above r p) e = AtMost-at (above r p) e (omega (arith, length-plus p e)) (λ k. omega (arith, at-rest r p k, at-below r (plus p e) k rp, at-sum p e k)) in
    ((Bits-at (above r p) (λ k. omega (arith, at-below (above r p) e k fe, at-bits e k t.set.0)), omega (arith, length-plus p e)), fe)

-- a step goes to the first prices again
pub first_step : (s : List ℕ) (g : List ℕ → ℤ) → IsMidConvex g → (o p e : List ℕ) → length p ≡ length s → AtMost o p → Chosen s g p e
    → IsFirst o g p → IsFirst o g (plus p e)
first_step s g mid o p e lp op t first r or rp h =
    let le = t.set.1 in
    let lr = length-below r (plus p e) rp in
    let lpr : length p ≡ length r = omega (arith, length-plus p e) in
    let f = above r p in
    let fs = part_of_step s g p e r lp t rp in
    let i = lattice g mid p r lpr in
    let j = ap g (join-above p r) in
    let b = t.best f fs.0 in
    let c = first (lower p r) (lower-both o p r op or) (lower-left p r lpr) (omega (arith, ints)) in
    let x = ap g c in
    let z = same-total f e fs.1 (t.fewest f fs.0 (omega (arith, ints))) in
    same-at r (plus p e) lr (λ k. let a = ap (λ m. at m k) c in let d = ap (λ m. at m k) z in omega (arith, at-lower p r k, at-rest r p k, at-sum p e k))

-- steps that are chosen by g
abbrev pub AllChosen : List ℕ → (List ℕ → ℤ) → List ℕ → List (List ℕ) → Type 0
AllChosen s g p [] = Unit {0}
AllChosen s g p (e ∷ es) = Chosen s g p e × AllChosen s g (plus p e) es

pub above_start : (s : List ℕ) (g : List ℕ → ℤ) (p : List ℕ) (es : List (List ℕ)) → length p ≡ length s → AllChosen s g p es
    → AtMost p (prices_over p es)
above_start s g p [] l h = AtMost-self p
above_start s g p (e ∷ es) l h =
    let t = h.0 in
    let le = t.set.1 in
    AtMost-more p (plus p e) (prices_over (plus p e) es) (AtMost-raised p e (omega arith)) (above_start s g (plus p e) es (omega (arith, length-plus p e)) h.1)

pub first_after : (s : List ℕ) (g : List ℕ → ℤ) → IsMidConvex g → (o p : List ℕ) (es : List (List ℕ)) → length p ≡ length s → AtMost o p
    → AllChosen s g p es → IsFirst o g p → IsFirst o g (prices_over p es)
first_after s g mid o p [] l op h first = first
first_after s g mid o p (e ∷ es) l op h first =
    let t = h.0 in
    let le = t.set.1 in
    first_after s g mid o (plus p e) es (omega (arith, length-plus p e)) (AtMost-more o p (plus p e) op (AtMost-raised p e (omega arith))) h.1 (first_step s g mid o p e l op t first)

pub first_from : (s : List ℕ) (g : List ℕ → ℤ) → IsMidConvex g → (o : List ℕ) (es : List (List ℕ)) → length o ≡ length s
    → AllChosen s g o es → IsFirst o g (prices_over o es)
first_from s g mid o es l h = first_after s g mid o o es l (AtMost-self o) h (λ r or ro i. AtMost-same r o ro or)

-- by one step the highest entry of what is left to q falls by one
pub greatest_falls : (s : List ℕ) (g : List ℕ → ℤ) → IsMidConvex g → (o p e q : List ℕ) → length p ≡ length s → AtMost o p → IsFirst o g q
    → AtMost (plus p e) q → Chosen s g p e → highest (above q (plus p e)) ≡ highest (above q p) - 1
greatest_falls s g mid o p e q lp op first pq t =
    let n = highest (above q p) - 1 in
    let w : (k : ℕ) → at q k ≤ at p k + suc n = λ k. omega (arith, highest-bounds (above q p) k, at-rest q p k) in
    let f = step_falls s g mid o p e q lp op first pq t n w in
    let a = highest-within n (above q (plus p e)) (λ k. let i = f k in omega (arith, at-rest q (plus p e) k)) in
    let m = highest-reached (above q p) in
    let i = m.1 in
    let b = highest-bounds (above q (plus p e)) m.0 in
    omega (arith, at-rest q (plus p e) m.0, at-rest q p m.0, at-sum p e m.0, at-bits e m.0 t.set.0)

-- the steps are as many as the highest rise
pub count_after : (s : List ℕ) (g : List ℕ → ℤ) → IsMidConvex g → (o p : List ℕ) (es : List (List ℕ)) → length p ≡ length s → AtMost o p
    → AllChosen s g p es → NoneEmpty es → IsFirst o g (prices_over p es) → length es ≡ highest (above (prices_over p es) p)
count_after s g mid o p [] l op h some first = let i = highest-within 0 (above p p) (λ k. omega (arith, at-rest p p k)) in omega arith
count_after s g mid o p (e ∷ es) l op h some first =
    let t = h.0 in
    let le = t.set.1 in
    let l' : length (plus p e) ≡ length s = omega (arith, length-plus p e) in
    let q = prices_over (plus p e) es in
    let a = above_start s g (plus p e) es l' h.1 in
    let i = count_after s g mid o (plus p e) es l' (AtMost-more o p (plus p e) op (AtMost-raised p e (omega arith))) h.1 some.1 first in
    let f = greatest_falls s g mid o p e q l op first a t in
    let m = highest-reached e in
    let j = m.1 in
    let y = total-some e some.0 in
    let b = highest-bounds (above q p) m.0 in
    omega (arith, at-below (plus p e) q m.0 a, at-rest q p m.0, at-sum p e m.0)

pub rise_at_most : (s : List ℕ) (g : List ℕ → ℤ) (p : List ℕ) (es : List (List ℕ)) → AllChosen s g p es → (k : ℕ)
    → at (prices_over p es) k ≤ at p k + length es
rise_at_most s g p [] h k = omega arith
rise_at_most s g p (e ∷ es) h k = let t = h.0 in let i = rise_at_most s g (plus p e) es h.1 k in omega (arith, at-sum p e k, at-bits e k t.set.0)
