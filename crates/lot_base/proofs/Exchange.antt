-- What an exchange of one unit, or of one for one, does to two bundles: they come closer and cost together what they did.
use Rattle.std.proofs.Common.{◌≡◌, ℕ, ◌+◌, ◌≤◌, ◌<◌, ◌≢◌, List, length, arith, ap, inl, inr}
use Rattle.std.specs.Prelude.{◌⊎◌, ℤ}
use Rattle.std.proofs.lemmas.Int.{ints}
use Rattle.lot_base.specs.Goods.{cost, at, one_more, one_less, AtMost}
use Rattle.lot_base.proofs.Vectors.{distance, Bits}
use Rattle.lot_base.specs.Economy.{NoWorse, IsStrongSubstitutes}
use Rattle.lot_base.proofs.Vec.{cost-one_more, cost-one_less, distance-one_more, distance-one_less, distance_comm, AtMost-one_more, AtMost-one_less, length-below, at-below, within_from_at, at-up_other, at-down_other, at-bits, differ}

-- one unit, or one for one, is exchanged: what the proofs above use of it
pub record Moved (s x y x' y' : List ℕ) : Type 0 where
  pub in_x : AtMost x' s
  pub in_y : AtMost y' s
  pub near_y : distance x y' < distance x y
  pub near_x : distance x' y < distance x y
  pub total : (p : List ℕ) → cost p x' + cost p y' ≡ cost p x + cost p y
  pub gain : (e : List ℕ) → Bits e → cost e y' ≤ cost e y + 1
  pub loss : (e : List ℕ) → Bits e → cost e y ≤ cost e y' + 1

pub moved_one : (s x y : List ℕ) (k : ℕ) → AtMost x s → AtMost y s → at y k < at x k → Moved s x y (one_less x k) (one_more y k)
moved_one s x y k b c h =
    let lx = length-below x s b in
    let ly = length-below y s c in
    let ix = within_from_at x k (omega arith) in
    let iy : k < length y = omega arith in
    let top = at-below x s k b in
    record {
      in_x = AtMost-one_less x s k b;
      in_y = AtMost-one_more y s k c (omega arith);
      near_y = omega (arith, distance-one_more x y k iy h);
      near_x = omega (arith, distance-one_less y x k iy h, distance_comm x y, distance_comm (one_less x k) y);
      total = λ p. omega (arith, cost-one_more p y k iy, cost-one_less p x k (omega arith));
      gain = λ e v. omega (arith, cost-one_more e y k iy, at-bits e k v);
      loss = λ e v. omega (arith, cost-one_more e y k iy, at-bits e k v);
    }

pub moved_two : (s x y : List ℕ) (k l : ℕ) → AtMost x s → AtMost y s → at y k < at x k → at x l < at y l
    → Moved s x y (one_more (one_less x k) l) (one_less (one_more y k) l)
moved_two s x y k l b c h i =
    let lx = length-below x s b in
    let ly = length-below y s c in
    let ix = within_from_at x k (omega arith) in
    let iy : k < length y = omega arith in
    let jy = within_from_at y l (omega arith) in
    let jx : l < length x = omega arith in
    let n : l ≢ k = other k l h i in
    let top = at-below x s k b in
    let topy = at-below y s l c in
    let ex = at-down_other x k l n in
    let ey = at-up_other y k l n in
    let m = moved_one s x y k b c h in
    let lx' = length-below (one_less x k) s m.in_x in
    let ly' = length-below (one_more y k) s m.in_y in
    let i' : at (one_less x k) l < at (one_more y k) l = omega arith in
    let jx' : l < length (one_less x k) = omega arith in
    let a : at x l < at (one_more y k) l = omega arith in
    let a' : at (one_less x k) l < at y l = omega arith in
    let o = moved_one s (one_more y k) (one_less x k) l m.in_y m.in_x i' in
    record {
      in_x = o.in_y;
      in_y = o.in_x;
      near_y = omega (arith, m.near_y, distance-one_less x (one_more y k) l jx a);
      near_x = omega (arith, m.near_x, distance-one_more y (one_less x k) l jx' a', distance_comm (one_less x k) y, distance_comm (one_more (one_less x k) l) y);
      total = λ p. omega (arith, m.total p, o.total p);
      gain = λ e v. omega (arith, cost-one_more e y k iy, cost-one_less e (one_more y k) l (omega arith), at-bits e k v, at-bits e l v);
      loss = λ e v. omega (arith, cost-one_more e y k iy, cost-one_less e (one_more y k) l (omega arith), at-bits e k v, at-bits e l v);
    }
  where
    other : (k l : ℕ) → at y k < at x k → at x l < at y l → l ≢ k
    other k l h i e = absurd (omega (arith, ap (at x) e, ap (at y) e))

pub record Exchanged (s : List ℕ) (u : List ℕ → ℤ) (x y : List ℕ) : Type 0 where
  pub x' : List ℕ
  pub y' : List ℕ
  pub moved : Moved s x y x' y'
  pub value : NoWorse u x y x' y'

swapped : (s x y x' y' : List ℕ) → Moved s y x y' x' → Moved s x y x' y'
swapped s x y x' y' m = record {
  in_x = m.in_y;
  in_y = m.in_x;
  near_y = omega (arith, m.near_x, distance_comm x y, distance_comm x y');
  near_x = omega (arith, m.near_y, distance_comm x y, distance_comm x' y);
  total = λ p. omega (arith, m.total p);
  gain = λ e v. omega (arith, m.total e, m.loss e v);
  loss = λ e v. omega (arith, m.total e, m.gain e v);
}

pub exchange : (s : List ℕ) (u : List ℕ → ℤ) → IsStrongSubstitutes s u → (x y : List ℕ) (k : ℕ) → AtMost x s → AtMost y s → at y k < at x k → Exchanged s u x y
exchange s u strong x y k b c h = elim (strong x y k b c h) [
  | inl v ↦ record { x' = one_less x k; y' = one_more y k; moved = moved_one s x y k b c h; value = v }
  | inr t ↦ record { x' = one_more (one_less x k) t.0; y' = one_less (one_more y k) t.0; moved = moved_two s x y k t.0 b c h t.1; value = t.2 }
]

pub exchange_any : (s : List ℕ) (u : List ℕ → ℤ) → IsStrongSubstitutes s u → (x y : List ℕ) → AtMost x s → AtMost y s → (x ≡ y) ⊎ Exchanged s u x y
exchange_any s u strong x y b c = go (differ x y s b c)
  where
    go : (x ≡ y) ⊎ ((k : ℕ) × ((at y k < at x k) ⊎ (at x k < at y k))) → (x ≡ y) ⊎ Exchanged s u x y
    go (inl e) = inl e
    go (inr (k, inl h)) = inr (exchange s u strong x y k b c h)
    go (inr (k, inr h)) =
        let t = exchange s u strong y x k c b h in
        let v = t.value in
        inr (record { x' = t.y'; y' = t.x'; moved = swapped s x y t.y' t.x' t.moved; value = omega (arith, ints, v) })
