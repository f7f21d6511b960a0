-- Where prices rise by at most one on each good, some bundle is demanded before and after.
use Rattle.std.proofs.Common.{◌≡◌, ℕ, ◌≤◌, ◌<◌, List, arith, inl, inr, subst, sym}
use Rattle.std.specs.Prelude.{ℤ, ◌≤ℤ◌}
use Rattle.std.proofs.lemmas.Int.{ints, by_lt_z}
use Prim.Native.Nat.{suc, zero}
use Rattle.lot_base.specs.Goods.{plus, AtMost}
use Rattle.lot_base.proofs.Vectors.{distance, Bits}
use Rattle.lot_base.specs.Economy.{surplus, IsStrongSubstitutes, IsDemanded}
use Rattle.lot_base.proofs.Vec.{cost-plus_left}
use Rattle.lot_base.proofs.Exchange.{Exchanged, exchange_any}

-- a bundle of the box that is worth as much as a demanded one is demanded
pub demanded_from : (s : List ℕ) (u : List ℕ → ℤ) (p x x' : List ℕ) → IsDemanded s u p x → AtMost x' s → surplus u p x ≤ℤ surplus u p x' → IsDemanded s u p x'
demanded_from s u p x x' d b h = (b, λ y c. let t = d.1 y c in omega (arith, ints))

-- what is demanded at both price vectors
pub record Meeting (s : List ℕ) (u : List ℕ → ℤ) (p q : List ℕ) : Type 0 where
  pub bundle : List ℕ
  pub before : IsDemanded s u p bundle
  pub after : IsDemanded s u q bundle

-- one exchange brings a demanded pair closer: its left bundle or its right one is kept
pub record Closer (s : List ℕ) (u : List ℕ → ℤ) (p q x y : List ℕ) : Type 0 where
  pub left : List ℕ
  pub right : List ℕ
  pub before : IsDemanded s u p left
  pub after : IsDemanded s u q right
  pub near : distance left right < distance x y

closer : (s : List ℕ) (u : List ℕ → ℤ) (p e x y : List ℕ) → Bits e → IsDemanded s u p x → IsDemanded s u (plus p e) y → Exchanged s u x y → Closer s u p (plus p e) x y
closer s u p e x y bits dx dy t =
    let m = t.moved in
    let v = t.value in
    let tp = m.total p in
    let te = m.gain e bits in
    let cy = cost-plus_left p e y in
    let cy' = cost-plus_left p e t.y' in
    by_lt_z (surplus u p t.x') (surplus u p x)
    (λ lt. record { left = x; right = t.y'; before = dx; after = demanded_from s u (plus p e) y t.y' dy m.in_y (omega (arith, ints)); near = m.near_y })
    (λ le. record { left = t.x'; right = y; before = demanded_from s u p x t.x' dx m.in_x le; after = dy; near = m.near_x })

met_here : (s : List ℕ) (u : List ℕ → ℤ) (p q x y : List ℕ) → x ≡ y → IsDemanded s u p x → IsDemanded s u q y → Meeting s u p q
met_here s u p q x y f dx dy =
    let Q : List ℕ → Type 0 = λ z. IsDemanded s u q z in
    record { bundle = x; before = dx; after = subst Q (sym f) dy }

-- where prices rise by one on a set of goods, some bundle is demanded before and after
pub meet : (s : List ℕ) (u : List ℕ → ℤ) → IsStrongSubstitutes s u → (p e : List ℕ) → Bits e → (fuel : ℕ) (x y : List ℕ)
    → IsDemanded s u p x → IsDemanded s u (plus p e) y → distance x y ≤ fuel → Meeting s u p (plus p e)
meet s u strong p e bits zero x y dx dy near = elim (exchange_any s u strong x y dx.0 dy.0) [
  | inl f ↦ met_here s u p (plus p e) x y f dx dy
  | inr t ↦ absurd (let n = t.moved.near_y in omega arith)
]
meet s u strong p e bits (suc n) x y dx dy near = elim (exchange_any s u strong x y dx.0 dy.0) [
  | inl f ↦ met_here s u p (plus p e) x y f dx dy
  | inr t ↦ let c = closer s u p e x y bits dx dy t in
      let i = c.near in
      meet s u strong p e bits n c.left c.right c.before c.after (omega arith)
]
