-- Sums of the bundles of two sets give and take where both sets do.
use Rattle.std.proofs.Common.{◌≡◌, ℕ, ◌+◌, ◌-◌, ◌≤◌, ◌<◌, ◌≢◌, List, [], ◌∷◌, length, arith, ap, refl, inl, inr, subst, sym, ◌∙◌}
use Rattle.std.specs.Prelude.{◌⊎◌}
use Rattle.std.proofs.lemmas.Bool.{cases_lt, cases_eq}
use Prim.Native.Nat.{suc, zero}
use Rattle.lot_base.proofs.Vec.{AtMost-one_less, at-down_other, distance-one_less, distance-one_more, distance_comm, length-below, within_from_at}
use Rattle.lot_base.proofs.Vectors.{above, distance}
use Rattle.lot_base.specs.Goods.{AtMost, at, one_less, one_more, plus}
use Rattle.lyapunov.proofs.Convex.{length-plus, plus_comm}
use Rattle.lyapunov.proofs.Entrywise.{at-sum}
use Rattle.lyapunov.proofs.Units.{Gives, CanGive, CanTake, one_less-one_more_same, one_more-one_less_same, length-one_less}
use Rattle.lyapunov.proofs.Taking.{Mirrored, mirrored_gives, AtMost-above, above-above, at-above, above-one_more, above-one_less}

plus-one_more : (a b : List ℕ) (k : ℕ) → k < length a → plus (one_more a k) b ≡ one_more (plus a b) k
plus-one_more [] b k h = absurd (omega arith)
plus-one_more (c ∷ a) [] zero h = refl
plus-one_more (c ∷ a) [] (suc k) h = refl
plus-one_more (c ∷ a) (d ∷ b) zero h = ap (λ z. z ∷ plus a b) (omega arith)
plus-one_more (c ∷ a) (d ∷ b) (suc k) h = let i : k < length a = omega arith in ap (λ z. (c + d) ∷ z) (plus-one_more a b k i)

plus-one_less : (a b : List ℕ) (k : ℕ) → 0 < at a k → plus (one_less a k) b ≡ one_less (plus a b) k
plus-one_less [] b k h = absurd (omega arith)
plus-one_less (c ∷ a) [] zero h = refl
plus-one_less (c ∷ a) [] (suc k) h = refl
plus-one_less (c ∷ a) (d ∷ b) zero h = ap (λ z. z ∷ plus a b) (omega arith)
plus-one_less (c ∷ a) (d ∷ b) (suc k) h = ap (λ z. (c + d) ∷ z) (plus-one_less a b k h)

at-one_more_same : (x : List ℕ) (k : ℕ) → k < length x → at (one_more x k) k ≡ at x k + 1
at-one_more_same [] k h = absurd (omega arith)
at-one_more_same (a ∷ x) zero h = refl
at-one_more_same (a ∷ x) (suc k) h = let i : k < length x = omega arith in at-one_more_same x k i

-- the sums of a member of each
pub record SumOf (A B : List ℕ → Type 0) (z : List ℕ) : Type 0 where
  pub left : List ℕ
  pub right : List ℕ
  pub in_left : A left
  pub in_right : B right
  pub is : z ≡ plus left right

-- a is moved one unit towards a', at the good l of which the sum has one too many
record Onward (A : List ℕ → Type 0) (a' a b v : List ℕ) : Type 0 where
  good : ℕ
  next : List ℕ
  «in» : A next
  is : plus next b ≡ one_more v good
  near : distance next a' < distance a a'
  within : good < length a'

record Stopped (A : List ℕ → Type 0) (b v : List ℕ) : Type 0 where
  next : List ℕ
  «in» : A next
  is : plus next b ≡ v

move_left : (A : List ℕ → Type 0) → CanGive A → (a' a b v : List ℕ) (l : ℕ) → A a → A a' → length a ≡ length a' → plus a b ≡ one_more v l
    → at a' l < at a l → Stopped A b v ⊎ Onward A a' a b v
move_left A give a' a b v l ia ia' len is h =
    let il = within_from_at a l (omega arith) in
    let il' : l < length a' = omega arith in
    let e = plus-one_less a b l (omega arith) ∙ ap (λ z. one_less z l) is ∙ one_less-one_more_same v l in
    let c = distance_comm a' a in
    let c1 = distance_comm a' (one_less a l) in
    let d = distance-one_less a' a l il' h in
    elim (give a a' l ia ia' h) [
      | inl w ↦ inl (record { next = one_less a l; «in» = w; is = e })
      | inr t ↦
          let m = t.0 in
          let hm = t.1 in
          let im = within_from_at a' m (omega arith) in
          let ld = length-one_less a l in
          let jm : m < length (one_less a l) = omega arith in
          let n : m ≢ l = other a a' l m h hm in
          let o = at-down_other a l m n in
          let r : at (one_less a l) m < at a' m = omega arith in
          let f = distance-one_more a' (one_less a l) m jm r in
          let c2 = distance_comm a' (one_more (one_less a l) m) in
          inr (record { good = m; next = one_more (one_less a l) m; «in» = t.2; is = plus-one_more (one_less a l) b m jm ∙ ap (λ z. one_more z m) e; near = omega arith; within = im })
    ]
  where
    other : (x y : List ℕ) (l m : ℕ) → at y l < at x l → at x m < at y m → m ≢ l
    other x y l m h i e = absurd (omega (arith, ap (at x) e, ap (at y) e))

module _ (A B : List ℕ → Type 0) (give_a : CanGive A) (give_b : CanGive B) (n : ℕ) (len_a : (x : List ℕ) → A x → length x ≡ n) (len_b : (x : List ℕ) → B x → length x ≡ n) where
  -- parts whose sum is x with a unit of l for one of k
  record Pending (x y a' b' : List ℕ) (k d : ℕ) : Type 0 where
    a : List ℕ
    b : List ℕ
    good : ℕ
    in_a : A a
    in_b : B b
    is : plus a b ≡ one_more (one_less x k) good
    within : good < n
    low : at y good ≤ at x good
    near : distance a a' + distance b b' < d

  sum_step : (x y a' b' : List ℕ) (k : ℕ) → A a' → B b' → y ≡ plus a' b' → length x ≡ n → at y k < at x k → (a b : List ℕ) (l : ℕ) → A a
      → B b → plus a b ≡ one_more (one_less x k) l → l < n → at y l ≤ at x l
      → Gives (SumOf A B) x y k ⊎ Pending x y a' b' k (distance a a' + distance b b')
  sum_step x y a' b' k ia' ib' ey lx h a b l ia ib is il le = go (over (cases_eq l k))
    where
      over : (l ≡ k) ⊎ (l ≡ k → ⊥) → at a' l + at b' l < at a l + at b l
      over (inl e) =
          let P : ℕ → Type 0 = λ i. at a' i + at b' i < at a i + at b i in
          let Q : ℕ → Type 0 = λ i. plus a b ≡ one_more (one_less x k) i in
          let f = subst Q e is ∙ one_more-one_less_same x k (omega arith) in
          let g = ap (λ z. at z k) f in
          let i = at-sum a b k in
          let j = at-sum a' b' k in
          let w = ap (λ z. at z k) ey in
          subst P (sym e) (omega arith)
      over (inr m) =
          let ld = length-one_less x k in
          let g = ap (λ z. at z l) is in
          let u = at-one_more_same (one_less x k) l (omega arith) in
          let o = at-down_other x k l m in
          let i = at-sum a b l in
          let j = at-sum a' b' l in
          let w = ap (λ z. at z l) ey in
          omega arith

      la : length a ≡ n
      la = len_a a ia

      lb : length b ≡ n
      lb = len_b b ib

      la' : length a' ≡ n
      la' = len_a a' ia'

      lb' : length b' ≡ n
      lb' = len_b b' ib'

      left : at a' l < at a l → Gives (SumOf A B) x y k ⊎ Pending x y a' b' k (distance a a' + distance b b')
      left i = elim (move_left A give_a a' a b (one_less x k) l ia ia' (omega arith) is i) [
        | inl s ↦ inl (inl (record { left = s.next; right = b; in_left = s.«in»; in_right = ib; is = sym s.is }))
        | inr s ↦ let w = s.within in let d = s.near in elim (cases_lt (at x s.good) (at y s.good)) [
          | inl j ↦ inl (inr (s.good, j, record { left = s.next; right = b; in_left = s.«in»; in_right = ib; is = sym s.is }))
          | inr j ↦ inr (record { a = s.next; b = b; good = s.good; in_a = s.«in»; in_b = ib; is = s.is; within = omega arith; low = j; near = omega arith })
        ]
      ]

      right : at b' l < at b l → Gives (SumOf A B) x y k ⊎ Pending x y a' b' k (distance a a' + distance b b')
      right i = elim (move_left B give_b b' b a (one_less x k) l ib ib' (omega arith) (plus_comm b a ∙ is) i) [
        | inl s ↦ inl (inl (record { left = a; right = s.next; in_left = ia; in_right = s.«in»; is = sym s.is ∙ plus_comm s.next a }))
        | inr s ↦ let w = s.within in let d = s.near in elim (cases_lt (at x s.good) (at y s.good)) [
          | inl j ↦ inl (inr (s.good, j, record { left = a; right = s.next; in_left = ia; in_right = s.«in»; is = sym s.is ∙ plus_comm s.next a }))
          | inr j ↦ inr (record { a = a; b = s.next; good = s.good; in_a = ia; in_b = s.«in»; is = plus_comm a s.next ∙ s.is; within = omega arith; low = j; near = omega arith })
        ]
      ]

      go : at a' l + at b' l < at a l + at b l → Gives (SumOf A B) x y k ⊎ Pending x y a' b' k (distance a a' + distance b b')
      go o = elim (cases_lt (at a' l) (at a l)) [ inl i ↦ left i | inr i ↦ right (omega arith) ]

  sum_loop : (x y a' b' : List ℕ) (k : ℕ) → A a' → B b' → y ≡ plus a' b' → length x ≡ n → at y k < at x k
      → (fuel : ℕ) (a b : List ℕ) (l : ℕ) → A a → B b → plus a b ≡ one_more (one_less x k) l → l < n → at y l ≤ at x l
      → distance a a' + distance b b' ≤ fuel → Gives (SumOf A B) x y k
  sum_loop x y a' b' k ia' ib' ey lx h zero a b l ia ib is il le near = elim (sum_step x y a' b' k ia' ib' ey lx h a b l ia ib is il le) [
    | inl g ↦ g
    | inr t ↦ absurd (let i = t.near in omega arith)
  ]
  sum_loop x y a' b' k ia' ib' ey lx h (suc fuel) a b l ia ib is il le near = elim (sum_step x y a' b' k ia' ib' ey lx h a b l ia ib is il le) [
    | inl g ↦ g
    | inr t ↦ let i = t.near in sum_loop x y a' b' k ia' ib' ey lx h fuel t.a t.b t.good t.in_a t.in_b t.is t.within t.low (omega arith)
  ]

  pub sum_gives : CanGive (SumOf A B)
  sum_gives x y k sx sy h =
      let l = length-plus sx.left sx.right in
      let la = len_a sx.left sx.in_left in
      let lb = len_b sx.right sx.in_right in
      let e = ap length sx.is in
      let lx : length x ≡ n = omega arith in
      let ik = within_from_at x k (omega arith) in
      sum_loop x y sy.left sy.right k sy.in_left sy.in_right sy.is lx h (distance sx.left sy.left + distance sx.right sy.right) sx.left sx.right k sx.in_left sx.in_right
      (sym sx.is ∙ sym (one_more-one_less_same x k (omega arith))) (omega arith) (omega arith) (omega arith)

above-plus : (c d a b : List ℕ) → AtMost a c → AtMost b d → length c ≡ length d → above (plus c d) (plus a b) ≡ plus (above c a) (above d b)
above-plus [] [] [] [] h i l = refl
above-plus [] [] [] (z ∷ b) h i l = absurd i
above-plus [] [] (z ∷ a) b h i l = absurd h
above-plus [] (w ∷ d) a b h i l = absurd (omega arith)
above-plus (m ∷ c) [] a b h i l = absurd (omega arith)
above-plus (m ∷ c) (w ∷ d) [] b h i l = absurd h
above-plus (m ∷ c) (w ∷ d) (z ∷ a) [] h i l = absurd i
above-plus (m ∷ c) (w ∷ d) (z ∷ a) (v ∷ b) h i l =
    let h0 = h.0 in
    let i0 = i.0 in
    let e : (m + w) - (z + v) ≡ (m - z) + (w - v) = omega arith in
    let l' : length c ≡ length d = omega arith in
    let j = above-plus c d a b h.1 i.1 l' in cc

pub AtMost-plus : (a c b d : List ℕ) → AtMost a c → AtMost b d → length c ≡ length d → AtMost (plus a b) (plus c d)
AtMost-plus [] [] [] [] h i l = tt
AtMost-plus [] [] [] (w ∷ d) h i l = absurd i
AtMost-plus [] [] (v ∷ b) [] h i l = absurd i
AtMost-plus [] [] (v ∷ b) (w ∷ d) h i l = absurd (omega arith)
AtMost-plus [] (m ∷ c) b d h i l = absurd h
AtMost-plus (z ∷ a) [] b d h i l = absurd h
AtMost-plus (z ∷ a) (m ∷ c) [] [] h i l = absurd (omega arith)
AtMost-plus (z ∷ a) (m ∷ c) [] (w ∷ d) h i l = absurd i
AtMost-plus (z ∷ a) (m ∷ c) (v ∷ b) [] h i l = absurd i
AtMost-plus (z ∷ a) (m ∷ c) (v ∷ b) (w ∷ d) h i l =
    let h0 = h.0 in
    let i0 = i.0 in
    let l' : length c ≡ length d = omega arith in
    (omega arith, AtMost-plus a c b d h.1 i.1 l')

pub sum_takes : (A B : List ℕ → Type 0) → CanTake A → CanTake B → (c d : List ℕ) → length c ≡ length d → ((x : List ℕ) → A x → AtMost x c)
    → ((x : List ℕ) → B x → AtMost x d) → CanTake (SumOf A B)
sum_takes A B take_a take_b c d lcd box_a box_b x y k sx sy h =
    let cd = plus c d in
    let bx = below x sx in
    let by = below y sy in
    let hx = at-above cd x k bx in
    let hy = at-above cd y k by in
    let P : List ℕ → Type 0 = SumOf A B in
    let byy = AtMost-above cd y by in
    let e = above-one_less cd (above cd y) k byy (omega arith) ∙ ap (λ z. one_more z k) (above-above cd y by) in
    elim (sum_gives (Mirrored c A) (Mirrored d B) (mirrored_gives c A take_a) (mirrored_gives d B take_b) (length c) (λ w a. length-below w c a.0) (λ w a. length-below w d a.0 ∙ sym lcd)
    (above cd y) (above cd x) k (forth y sy) (forth x sx) (omega arith)) [
      | inl s ↦ inl (subst P e (back (one_less (above cd y) k) s))
      | inr t ↦
          let l = t.0 in
          let hl = t.1 in
          let cx = at-above cd x l bx in
          let cy = at-above cd y l by in
          inr (l, omega arith, subst P (above-one_more cd (one_less (above cd y) k) l (AtMost-one_less (above cd y) cd k byy) ∙ ap (λ z. one_less z l) e) (back (one_more (one_less (above cd y) k) l) t.2))
    ]
  where
    below : (z : List ℕ) → SumOf A B z → AtMost z (plus c d)
    below z s = let P : List ℕ → Type 0 = λ w. AtMost w (plus c d) in subst P (sym s.is) (AtMost-plus s.left c s.right d (box_a s.left s.in_left) (box_b s.right s.in_right) lcd)

    forth : (z : List ℕ) → SumOf A B z → SumOf (Mirrored c A) (Mirrored d B) (above (plus c d) z)
    forth z s =
        let a = box_a s.left s.in_left in
        let b = box_b s.right s.in_right in
        let P : List ℕ → Type 0 = A in
        let Q : List ℕ → Type 0 = B in
        record {
          left = above c s.left;
          right = above d s.right;
          in_left = (AtMost-above c s.left a, subst P (sym (above-above c s.left a)) s.in_left);
          in_right = (AtMost-above d s.right b, subst Q (sym (above-above d s.right b)) s.in_right);
          is = ap (above (plus c d)) s.is ∙ above-plus c d s.left s.right a b lcd;
        }

    back : (w : List ℕ) → SumOf (Mirrored c A) (Mirrored d B) w → SumOf A B (above (plus c d) w)
    back w s =
        let a = s.in_left in
        let b = s.in_right in
        record { left = above c s.left; right = above d s.right; in_left = a.1; in_right = b.1; is = ap (above (plus c d)) s.is ∙ above-plus c d s.left s.right a.0 b.0 lcd }
