use Rattle.std.proofs.Common.{◌≡◌, ℕ, ◌+◌, ◌-◌, ◌≤◌, ◌<◌, ◌≢◌, List, length, arith, ap, inl, inr, subst, sym}
use Rattle.std.specs.Prelude.{◌⊎◌, ℤ, ◌+ℤ◌}
use Rattle.std.proofs.lemmas.Int.{ints}
use Rattle.std.proofs.lemmas.Bool.{cases_eq}
use Prim.Native.Nat.{suc, zero}
use Rattle.lot_base.specs.Goods.{at, one_more, one_less, AtMost}
use Rattle.lot_base.proofs.Vectors.{distance, total}
use Rattle.lot_base.specs.Economy.{NoWorse}
use Rattle.lot_base.proofs.Vec.{length-below, at-below, within_from_at, length-one_more, AtMost-one_more, AtMost-one_less}
use Rattle.lot_base.proofs.Exchange.{moved_two}
use Rattle.exchange_check.proofs.Points.{one, one-same, one-other, at-up, at-down, length-down, has_both, kept_both, first_for, second_for, both_for, same_at, has_one}
use Rattle.exchange_check.proofs.Totals.{total-one_more, total-one_less, higher, Gap, gap, other_higher, Chosen, choose}

-- two pairs of units of other goods: one of each pair change places at no loss
abbrev pub HasPairs : List ℕ → (List ℕ → ℤ) → Type 0
HasPairs s u =
    (w : List ℕ) (i j a b : ℕ) → i < length s → j < length s → a < length s → b < length s → i ≢ a → i ≢ b → j ≢ a → j ≢ b →
    AtMost (one_more (one_more w i) j) s → AtMost (one_more (one_more w a) b) s →
    NoWorse u (one_more (one_more w i) j) (one_more (one_more w a) b) (one_more (one_more w i) a) (one_more (one_more w j) b)
    ⊎ NoWorse u (one_more (one_more w i) j) (one_more (one_more w a) b) (one_more (one_more w i) b) (one_more (one_more w j) a)

-- a unit of k is exchanged for one of another good
pub record Swap (u : List ℕ → ℤ) (x y : List ℕ) (k : ℕ) : Type 0 where
  pub good : ℕ
  pub more : at x good < at y good
  pub value : NoWorse u x y (one_more (one_less x k) good) (one_less (one_more y k) good)

-- a bundle nearer to x than y, from which the exchange follows
pub record Nearer (s : List ℕ) (u : List ℕ → ℤ) (x y : List ℕ) (k : ℕ) : Type 0 where
  pub next : List ℕ
  pub below : AtMost next s
  pub units : total x ≡ total next
  pub still : at next k < at x k
  pub near : distance x next < distance x y
  pub back : Swap u x next k → Swap u x y k

other : (x y : List ℕ) (i l : ℕ) → at y i < at x i → at x l < at y l → i ≢ l
other x y i l h m e = absurd (omega (arith, ap (at x) e, ap (at y) e))

-- one unit of i in y for one of p leaves the way back
back_from : (s : List ℕ) (u : List ℕ → ℤ) → HasPairs s u → (x y : List ℕ) (k i : ℕ) → AtMost x s → AtMost y s → at y k < at x k → at y i < at x i
    → (c : Chosen (λ l. u (one_less (one_more y i) l) +ℤ u (one_more (one_less x k) l)) x y (length y)) → AtMost (one_less (one_more y i) c.good) s
    → at (one_less (one_more y i) c.good) k < at x k → Swap u x (one_less (one_more y i) c.good) k → Swap u x y k
back_from s u pairs x y k i bx by hk hi c by' hk' t =
    let p = c.good in
    let q = t.good in
    let y' = one_less (one_more y i) p in
    let w = one_less (one_less y p) q in
    let lx = length-below x s bx in
    let ly = length-below y s by in
    let ik : k < length y = (let j = within_from_at x k (omega arith) in omega arith) in
    let ii : i < length y = (let j = within_from_at x i (omega arith) in omega arith) in
    let hp : at x p < at y p = c.more in
    let ip : p < length y = within_from_at y p (omega arith) in
    let hq' : at x q < at y' q = t.more in
    let e1 = at-down (one_more y i) p q in
    let e2 = at-up y i q ii in
    let iq' : i ≢ q = not_i q hq' e1 e2 in
    let z = one-other i q iq' in
    let hq : at x q < at y q = omega arith in
    let iq : q < length y = within_from_at y q (omega arith) in
    let both = has_both y p q (omega arith) (omega arith) in
    let f1 = first_for y i p q ii iq both in
    let f2 = second_for y i p q ii ip both in
    let g1 = first_for y k p q ik iq both in
    let g2 = second_for y k p q ik ip both in
    let a = both_for y i k p q ii ik both in
    let b = kept_both y p q ip iq both in
    let B : List ℕ → Type 0 = λ r. AtMost r s in
    let top = at-below x s k bx in
    let v = t.value in
    let m = c.top q iq hq in
    elim (pairs w i k p q (omega arith) (omega arith) (omega arith) (omega arith) (other x y i p hi hp) (other x y i q hi hq) (other x y k p hk hp) (other x y k q hk hq)
    (subst B (sym a) (AtMost-one_less (one_more y' k) s q (AtMost-one_more y' s k by' (omega arith)))) (subst B (sym b) by)) [
      | inl n ↦ record { good = p; more = hp; value = (let d1 = ap u a in let d2 = ap u b in let d3 = ap u f2 in let d4 = ap u g1 in omega (arith, ints)) }
      | inr n ↦ record { good = q; more = hq; value = (let d1 = ap u a in let d2 = ap u b in let d3 = ap u f1 in let d4 = ap u g2 in omega (arith, ints)) }
    ]
  where
    not_i : (q : ℕ) → at x q < at (one_less (one_more y i) c.good) q → at (one_less (one_more y i) c.good) q ≡ at (one_more y i) q - one c.good q → at (one_more y i) q ≡ at y q + one i q → i ≢ q
    not_i q h e1 e2 e = absurd (omega (arith, ap (at x) e, ap (at y) e, ap (λ l. one l q) e, one-same q))

step : (s : List ℕ) (u : List ℕ → ℤ) → HasPairs s u → (x y : List ℕ) (k : ℕ) → AtMost x s → AtMost y s → total x ≡ total y → at y k < at x k
    → Swap u x y k ⊎ Nearer s u x y k
step s u pairs x y k bx by units hk =
    let lx = length-below x s bx in
    let ly = length-below y s by in
    let ld = length-down x k in
    let x' = one_less x k in
    let tx = total-one_less x k (omega arith) in
    elim (higher x' y (omega arith)) [
      | inr b ↦ inl (end (gap x' y b (omega arith)))
      | inl r ↦ inr (go r.0 r.1 (other_higher x y k (omega arith) units hk))
    ]
  where
    end : Gap (one_less x k) y → Swap u x y k
    end g =
        let l = g.good in
        let h = g.more in
        let lx = length-below x s bx in
        let ly = length-below y s by in
        let ik = within_from_at x k (omega arith) in
        let iy : k < length y = omega arith in
        let e = at-down x k l in
        let n : k ≢ l = not_k l h in
        let z = one-other k l n in
        let l1 = length-one_more y k in
        let l2 = length-down (one_more y k) l in
        let il = within_from_at y l (omega arith) in
        let ld = length-down x k in
        let il' : l < length (one_less x k) = omega arith in
        let a = ap u g.is in
        let b = ap u (same_at (one_less (one_more y k) l) x (omega arith)
        (λ m. omega (arith, has_one x k m (omega arith), at-down (one_more y k) l m, at-up y k m iy, ap (λ r. at r m) g.is, at-up (one_less x k) l m il', at-down x k m))) in
        record { good = l; more = omega arith; value = omega (arith, ints) }
      where
        not_k : (l : ℕ) → at (one_less x k) l < at y l → k ≢ l
        not_k l h e = absurd (omega (arith, ap (at (one_less x k)) e, ap (at y) e, at-down x k k, one-same k))

    go : (i : ℕ) → at y i < at (one_less x k) i → (l : ℕ) × (at x l < at y l) → Nearer s u x y k
    go i hi' some =
        let e = at-down x k i in
        let hi : at y i < at x i = omega arith in
        let c = choose (λ l. u (one_less (one_more y i) l) +ℤ u (one_more (one_less x k) l)) x y (length y) some.0 some.1 in
        let hp : at x c.good < at y c.good = c.more in
        let m = moved_two s x y i c.good bx by hi hp in
        let lx = length-below x s bx in
        let ly = length-below y s by in
        let ix = within_from_at x i (omega arith) in
        let ii : i < length y = omega arith in
        let e1 = at-down (one_more y i) c.good k in
        let e2 = at-up y i k ii in
        let still : at (one_less (one_more y i) c.good) k < at x k = elim (cases_eq i k) [
          | inl f ↦ omega (arith, ap (at y) f, ap (at (one_less x k)) f, at-down x k k, one-same k, ap (λ r. one r k) f)
          | inr f ↦ omega (arith, one-other i k f)
        ] in
        let t1 = total-one_more y i ii in
        let e3 = at-up y i c.good ii in
        let t2 = total-one_less (one_more y i) c.good (omega arith) in
        record { next = one_less (one_more y i) c.good; below = m.in_y; units = omega arith; still = still; near = m.near_y; back = back_from s u pairs x y k i bx by hk hi c m.in_y still }

-- where pairs change places, every two bundles with as many units do
pub swap : (s : List ℕ) (u : List ℕ → ℤ) → HasPairs s u → (fuel : ℕ) (x y : List ℕ) (k : ℕ) → AtMost x s → AtMost y s → total x ≡ total y → at y k < at x k
    → distance x y ≤ fuel → Swap u x y k
swap s u pairs zero x y k bx by units hk near = elim (step s u pairs x y k bx by units hk) [
  | inl t ↦ t
  | inr t ↦ absurd (let n = t.near in omega arith)
]
swap s u pairs (suc fuel) x y k bx by units hk near = elim (step s u pairs x y k bx by units hk) [
  | inl t ↦ t
  | inr t ↦ let n = t.near in t.back (swap s u pairs fuel x t.next k bx t.below t.units t.still (omega arith))
]
