use Rattle.std.proofs.Common.{◌≡◌, ℕ, ◌+◌, ◌<◌, ◌≢◌, List, [], ◌∷◌, length, arith, ap, refl, inl, inr, subst, sym, ◌∙◌}
use Rattle.std.specs.Prelude.{◌⊎◌, ℤ, ◌+ℤ◌, ◌≤ℤ◌}
use Rattle.std.proofs.lemmas.Int.{ints, by_lt_z}
use Rattle.std.proofs.lemmas.Bool.{cases_eq}
use Prim.Native.Nat.{suc, zero}
use Rattle.lot_base.specs.Goods.{at, one_more, one_less, AtMost}
use Rattle.lot_base.proofs.Vectors.{distance, total}
use Rattle.lot_base.specs.Economy.{NoWorse, IsStrongSubstitutes}
use Rattle.exchange_check.specs.Local.{IsSubmodular, HasThirdGoods, IsLocallyStrong}
use Rattle.lot_base.proofs.Vec.{length-below, length-one_more}
use Rattle.exchange_check.proofs.Points.{one-same, one-other, at-up}
use Rattle.exchange_check.proofs.LocalStep.{HasPairs, swap}

-- the third goods of a list whose first good is what the others leave
abbrev pub HasThirds : List ℕ → (List ℕ → ℤ) → Type 0
HasThirds s u =
    (w : List ℕ) (i j k : ℕ) → i < length s → j < length s → k < length s → k ≢ i → k ≢ j →
    AtMost (one_more (one_more w i) j) s → AtMost (one_more w k) s →
    NoWorse u (one_more (one_more w i) j) (one_more w k) (one_more (one_more w i) k) (one_more w j)
    ⊎ NoWorse u (one_more (one_more w i) j) (one_more w k) (one_more (one_more w j) k) (one_more w i)

-- all but the first good
abbrev pub rest : List ℕ → List ℕ
rest [] = []
rest (a ∷ x) = x

-- with the units left over as one more good, the two conditions are one
thirds : (s : List ℕ) (u : List ℕ → ℤ) → IsLocallyStrong s u → (c : ℕ) → HasThirds (c ∷ s) (λ z. u (rest z))
thirds s u local c [] i j k hi hj hk ni nj b d = absurd b
thirds s u local c (a ∷ w) zero zero zero hi hj hk ni nj b d = absurd (ni refl)
thirds s u local c (a ∷ w) zero zero (suc k) hi hj hk ni nj b d = inl (omega (arith, ints))
thirds s u local c (a ∷ w) zero (suc j) zero hi hj hk ni nj b d = absurd (ni refl)
thirds s u local c (a ∷ w) zero (suc j) (suc k) hi hj hk ni nj b d = inl (omega (arith, ints))
thirds s u local c (a ∷ w) (suc i) zero zero hi hj hk ni nj b d = absurd (nj refl)
thirds s u local c (a ∷ w) (suc i) zero (suc k) hi hj hk ni nj b d = inr (omega (arith, ints))
thirds s u local c (a ∷ w) (suc i) (suc j) zero hi hj hk ni nj b d =
    let t = local.0 w i j (omega arith) (omega arith) b.1 in inl (omega (arith, ints))
thirds s u local c (a ∷ w) (suc i) (suc j) (suc k) hi hj hk ni nj b d =
    local.1 w i j k (omega arith) (omega arith) (omega arith) (omega arith) (omega arith) b.1 d.1

-- distances of which the greatest of each three is reached twice fit into a tree
tree : (ij ab ia jb ib ja i j a b : ℤ)
    → ((ij +ℤ a) ≤ℤ (ia +ℤ j)) ⊎ ((ij +ℤ a) ≤ℤ (ja +ℤ i))
    → ((ij +ℤ b) ≤ℤ (ib +ℤ j)) ⊎ ((ij +ℤ b) ≤ℤ (jb +ℤ i))
    → ((ab +ℤ i) ≤ℤ (ia +ℤ b)) ⊎ ((ab +ℤ i) ≤ℤ (ib +ℤ a))
    → ((ab +ℤ j) ≤ℤ (ja +ℤ b)) ⊎ ((ab +ℤ j) ≤ℤ (jb +ℤ a))
    → ((ij +ℤ ab) ≤ℤ (ia +ℤ jb)) ⊎ ((ij +ℤ ab) ≤ℤ (ib +ℤ ja))
tree ij ab ia jb ib ja i j a b t1 t2 t3 t4 = by_lt_z (ia +ℤ jb) (ib +ℤ ja) (λ lt. inr (omega (arith, ints))) (λ le. inl (omega (arith, ints)))

pub up-up : (x : List ℕ) (k l : ℕ) → one_more (one_more x k) l ≡ one_more (one_more x l) k
up-up [] k l = refl
up-up (a ∷ x) zero zero = refl
up-up (a ∷ x) zero (suc l) = refl
up-up (a ∷ x) (suc k) zero = refl
up-up (a ∷ x) (suc k) (suc l) = ap (λ z. a ∷ z) (up-up x k l)

pub AtMost-of_more : (x s : List ℕ) (k : ℕ) → AtMost (one_more x k) s → AtMost x s
AtMost-of_more [] s k b = b
AtMost-of_more (a ∷ x) [] zero b = absurd b
AtMost-of_more (a ∷ x) [] (suc k) b = absurd b
AtMost-of_more (a ∷ x) (c ∷ s) zero b = (let h = b.0 in omega arith, b.1)
AtMost-of_more (a ∷ x) (c ∷ s) (suc k) b = (b.0, AtMost-of_more x s k b.1)

pairs : (s : List ℕ) (u : List ℕ → ℤ) → HasThirds s u → HasPairs s u
pairs s u thirds w i j a b hi hj ha hb ia ib ja jb bij bab =
    let B : List ℕ → Type 0 = λ r. AtMost r s in
    let ba = AtMost-of_more (one_more w a) s b bab in
    let bb = AtMost-of_more (one_more w b) s a (subst B (up-up w a b) bab) in
    let bi = AtMost-of_more (one_more w i) s j bij in
    let bj = AtMost-of_more (one_more w j) s i (subst B (up-up w i j) bij) in
    let e1 = ap u (up-up w a i) in
    let e2 = ap u (up-up w b i) in
    let e3 = ap u (up-up w a j) in
    let e4 = ap u (up-up w b j) in
    let t1 = thirds w i j a hi hj ha (sym_ne ia) (sym_ne ja) bij ba in
    let t2 = thirds w i j b hi hj hb (sym_ne ib) (sym_ne jb) bij bb in
    let t3 = thirds w a b i ha hb hi ia ib bab bi in
    let t4 = thirds w a b j ha hb hj ja jb bab bj in
    tree (u (one_more (one_more w i) j)) (u (one_more (one_more w a) b)) (u (one_more (one_more w i) a)) (u (one_more (one_more w j) b)) (u (one_more (one_more w i) b)) (u (one_more (one_more w j) a))
    (u (one_more w i)) (u (one_more w j)) (u (one_more w a)) (u (one_more w b)) t1 t2
    (elim t3 [ inl h ↦ inl (omega (arith, ints)) | inr h ↦ inr (omega (arith, ints)) ])
    (elim t4 [ inl h ↦ inl (omega (arith, ints)) | inr h ↦ inr (omega (arith, ints)) ])
  where
    sym_ne : {m n : ℕ} → m ≢ n → n ≢ m
    sym_ne h e = h (sym e)

-- the local test is enough
pub strong_of_local : (s : List ℕ) (u : List ℕ → ℤ) → IsLocallyStrong s u → IsStrongSubstitutes s u
strong_of_local s u local x y k bx by h =
    let c = total x + total y in
    let t = swap (c ∷ s) (λ z. u (rest z)) (pairs (c ∷ s) (λ z. u (rest z)) (thirds s u local c)) (distance (total y ∷ x) (total x ∷ y)) (total y ∷ x) (total x ∷ y) (suc k)
    (omega arith, bx) (omega arith, by) (omega arith) h (omega arith) in
    go t.good t.more t.value
  where
    go : (l : ℕ) → at (total y ∷ x) l < at (total x ∷ y) l
        → NoWorse (λ z. u (rest z)) (total y ∷ x) (total x ∷ y) (one_more (one_less (total y ∷ x) (suc k)) l) (one_less (one_more (total x ∷ y) (suc k)) l)
        → NoWorse u x y (one_less x k) (one_more y k)
        ⊎ ((l : ℕ) × (at x l < at y l) × NoWorse u x y (one_more (one_less x k) l) (one_less (one_more y k) l))
    go zero m v = inl v
    go (suc l) m v = inr (l, m, v)

down-up_same : (x : List ℕ) (k : ℕ) → one_less (one_more x k) k ≡ x
down-up_same [] k = refl
down-up_same (a ∷ x) zero = ap (λ b. b ∷ x) (omega arith)
down-up_same (a ∷ x) (suc k) = ap (λ z. a ∷ z) (down-up_same x k)

down-of_pair : (w : List ℕ) (i j : ℕ) → one_less (one_more (one_more w i) j) i ≡ one_more w j
down-of_pair w i j = ap (λ z. one_less z i) (up-up w i j) ∙ down-up_same (one_more w j) i

-- the two conditions are cases of the exchange
pub local_of_strong : (s : List ℕ) (u : List ℕ → ℤ) → IsStrongSubstitutes s u → IsLocallyStrong s u
local_of_strong s u strong = (submodular, third)
  where
    within : (w : List ℕ) (i j : ℕ) → AtMost (one_more (one_more w i) j) s → length w ≡ length s
    within w i j b = length-below w s (AtMost-of_more w s i (AtMost-of_more (one_more w i) s j b))

    submodular : IsSubmodular s u
    submodular w i j hi hj b =
        let bw = AtMost-of_more w s i (AtMost-of_more (one_more w i) s j b) in
        let l = within w i j b in
        let li = length-one_more w i in
        let ji : j < length (one_more w i) = omega arith in
        let ii : i < length w = omega arith in
        let d = ap u (down-of_pair w i j) in
        elim (strong (one_more (one_more w i) j) w i b bw (omega (arith, at-up (one_more w i) j i ji, at-up w i i ii, one-same i))) [
          | inl v ↦ omega (arith, ints)
          | inr t ↦ absurd (let h = t.1 in omega (arith, at-up (one_more w i) j t.0 ji, at-up w i t.0 ii))
        ]

    third : HasThirdGoods s u
    third w i j k hi hj hk ni nj b d =
        let x = one_more (one_more w i) j in
        let y = one_more w k in
        let l = within w i j b in
        let li = length-one_more w i in
        let ji : j < length (one_more w i) = omega arith in
        let ii : i < length w = omega arith in
        let ik : k < length w = omega arith in
        let c = ap u (up-up w k i) in
        let e = ap u (down-of_pair w i j) in
        let P : ℕ → Type 0 = λ l. NoWorse u x y (one_more (one_less x i) l) (one_less (one_more y i) l) in
        elim (strong x y i b d (omega (arith, at-up (one_more w i) j i ji, at-up w i i ii, one-same i, at-up w k i ik, one-other k i ni))) [
          | inl v ↦ inl (omega (arith, ints))
          | inr t ↦ elim (cases_eq k t.0) [
            | inl f ↦ inr (
                let v = subst P (sym f) t.2 in
                let g = ap (λ z. u (one_more z k)) (down-of_pair w i j) in
                let h = ap u (down-of_pair w k i) in
                omega (arith, ints))
            | inr f ↦ absurd (let h = t.1 in omega (arith, at-up (one_more w i) j t.0 ji, at-up w i t.0 ii, at-up w k t.0 ik, one-other k t.0 f))
          ]
        ]
