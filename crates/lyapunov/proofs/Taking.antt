-- The mirror image: sets of bundles in which each takes a unit wherever it has less than another. A set that gives and takes has
-- every bundle that lies, on each set of goods, between two of its own.
use Rattle.std.proofs.Common.{◌≡◌, ℕ, ◌+◌, ◌*◌, ◌-◌, ◌≤◌, ◌<◌, ◌≢◌, List, [], ◌∷◌, length, arith, ap, refl, inl, inr, subst, sym, ◌∙◌}
use Rattle.std.specs.Prelude.{◌⊎◌}
use Rattle.std.proofs.lemmas.Bool.{cases_lt}
use Prim.Native.Nat.{suc, zero}
use Rattle.lot_base.proofs.Vec.{AtMost-one_less, AtMost-one_more, at-below, at-down_other, differ, length-below}
use Rattle.lot_base.proofs.Vectors.{Bits, above, distance}
use Rattle.lot_base.specs.Goods.{AtMost, at, cost, one_less, one_more}
use Rattle.lyapunov.proofs.Convex.{length-above}
use Rattle.lyapunov.proofs.Units.{CanGive, CanTake}
use Rattle.lyapunov.proofs.Giving.{nearer_down}

pub AtMost-above : (c x : List ℕ) → AtMost x c → AtMost (above c x) c
AtMost-above [] [] h = tt
AtMost-above [] (a ∷ x) h = absurd h
AtMost-above (m ∷ c) [] h = absurd h
AtMost-above (m ∷ c) (a ∷ x) h = (omega arith, AtMost-above c x h.1)

pub above-above : (c x : List ℕ) → AtMost x c → above c (above c x) ≡ x
above-above [] [] h = refl
above-above [] (a ∷ x) h = absurd h
above-above (m ∷ c) [] h = absurd h
above-above (m ∷ c) (a ∷ x) h = let l = h.0 in let i : m - (m - a) ≡ a = omega arith in let j = above-above c x h.1 in cc

pub at-above : (c x : List ℕ) (k : ℕ) → AtMost x c → at (above c x) k + at x k ≡ at c k
at-above [] [] k h = refl
at-above [] (a ∷ x) k h = absurd h
at-above (m ∷ c) [] k h = absurd h
at-above (m ∷ c) (a ∷ x) zero h = let l = h.0 in omega arith
at-above (m ∷ c) (a ∷ x) (suc k) h = at-above c x k h.1

pub cost-above : (e c x : List ℕ) → AtMost x c → cost e (above c x) + cost e x ≡ cost e c
cost-above [] c x h = refl
cost-above (b ∷ e) [] [] h = refl
cost-above (b ∷ e) [] (a ∷ x) h = absurd h
cost-above (b ∷ e) (m ∷ c) [] h = absurd h
cost-above (b ∷ e) (m ∷ c) (a ∷ x) h = let l = h.0 in let f : (m - a) + a ≡ m = omega arith in let i = ap (λ z. b * z) f in let j = cost-above e c x h.1 in omega arith

pub above-one_more : (c x : List ℕ) (k : ℕ) → AtMost x c → above c (one_more x k) ≡ one_less (above c x) k
above-one_more [] [] k h = refl
above-one_more [] (a ∷ x) k h = absurd h
above-one_more (m ∷ c) [] k h = absurd h
above-one_more (m ∷ c) (a ∷ x) zero h = ap (λ b. b ∷ above c x) (omega arith)
above-one_more (m ∷ c) (a ∷ x) (suc k) h = ap (λ z. (m - a) ∷ z) (above-one_more c x k h.1)

pub above-one_less : (c x : List ℕ) (k : ℕ) → AtMost x c → 0 < at x k → above c (one_less x k) ≡ one_more (above c x) k
above-one_less [] [] k h p = refl
above-one_less [] (a ∷ x) k h p = absurd h
above-one_less (m ∷ c) [] k h p = absurd h
above-one_less (m ∷ c) (a ∷ x) zero h p = let l = h.0 in ap (λ b. b ∷ above c x) (omega arith)
above-one_less (m ∷ c) (a ∷ x) (suc k) h p = ap (λ z. (m - a) ∷ z) (above-one_less c x k h.1 p)

distance-above : (c x y : List ℕ) → AtMost x c → AtMost y c → distance (above c x) (above c y) ≡ distance x y
distance-above [] [] [] h i = refl
distance-above [] [] (b ∷ y) h i = absurd i
distance-above [] (a ∷ x) y h i = absurd h
distance-above (m ∷ c) [] y h i = absurd h
distance-above (m ∷ c) (a ∷ x) [] h i = absurd i
distance-above (m ∷ c) (a ∷ x) (b ∷ y) h i = let l = h.0 in let r = i.0 in let j = distance-above c x y h.1 i.1 in omega arith

-- the set of what c has beyond a member
abbrev pub Mirrored : List ℕ → (List ℕ → Type 0) → List ℕ → Type 0
Mirrored c A w = AtMost w c × A (above c w)

pub mirrored_gives : (c : List ℕ) (A : List ℕ → Type 0) → CanTake A → CanGive (Mirrored c A)
mirrored_gives c A take x y k ax ay h =
    let bx = at-above c x k ax.0 in
    let by = at-above c y k ay.0 in
    let P : List ℕ → Type 0 = A in
    elim (take (above c y) (above c x) k ay.1 ax.1 (omega arith)) [
      | inl v ↦ inl (AtMost-one_less x c k ax.0, subst P (sym (above-one_less c x k ax.0 (omega arith))) v)
      | inr t ↦
          let l = t.0 in
          let hl = t.1 in
          let cx = at-above c x l ax.0 in
          let cy = at-above c y l ay.0 in
          let lt : at x l < at y l = omega arith in
          let ly = at-below y c l ay.0 in
          let n : l ≢ k = other x y k l h lt in
          let o = at-down_other x k l n in
          let d = AtMost-one_less x c k ax.0 in
          let e = above-one_more c (one_less x k) l d ∙ ap (λ z. one_less z l) (above-one_less c x k ax.0 (omega arith)) in
          inr (l, lt, (AtMost-one_more (one_less x k) c l d (omega arith), subst P (sym e) t.2))
    ]
  where
    other : (x y : List ℕ) (l m : ℕ) → at y l < at x l → at x m < at y m → m ≢ l
    other x y l m h i e = absurd (omega (arith, ap (at x) e, ap (at y) e))

pub record Reaching (A : List ℕ → Type 0) (x z : List ℕ) : Type 0 where
  pub next : List ℕ
  pub «in» : A next
  pub near : distance next z < distance x z

pub nearer_up : (c : List ℕ) (A : List ℕ → Type 0) → CanTake A → ((x : List ℕ) → A x → AtMost x c) → ((x : List ℕ) → A x ⊎ (A x → ⊥))
    → (z : List ℕ) → AtMost z c → ((e : List ℕ) → Bits e → length e ≡ length c → (y : List ℕ) × A y × (cost e z ≤ cost e y))
    → (x : List ℕ) (k : ℕ) → A x → at x k < at z k → Reaching A x z
nearer_up c A take box dec z bz high x k ax h =
    let bx = box x ax in
    let hx = at-above c x k bx in
    let hz = at-above c z k bz in
    let P : List ℕ → Type 0 = A in
    let t = nearer_down (Mirrored c A) (mirrored_gives c A take) (length c) (λ w a. length-below w c a.0) decide (above c z) (length-above c z)
    low (above c x) k (AtMost-above c x bx, subst P (sym (above-above c x bx)) ax) (omega arith) in
    let a = t.«in» in
    let d = distance-above c (above c t.next) z (AtMost-above c t.next a.0) bz in
    let d' = distance-above c x z bx bz in
    let f = ap (λ r. distance r (above c z)) (above-above c t.next a.0) in
    let n = t.near in
    record { next = above c t.next; «in» = a.1; near = omega arith }
  where
    below_dec : (w c : List ℕ) → AtMost w c ⊎ (AtMost w c → ⊥)
    below_dec [] [] = inl tt
    below_dec [] (m ∷ c) = inr (λ b. b)
    below_dec (a ∷ w) [] = inr (λ b. b)
    below_dec (a ∷ w) (m ∷ c) = elim (cases_lt m a) [
      | inl i ↦ inr (λ b. let j = b.0 in omega arith)
      | inr i ↦ elim (below_dec w c) [ inl j ↦ inl (i, j) | inr f ↦ inr (λ b. f b.1) ]
    ]

    decide : (w : List ℕ) → Mirrored c A w ⊎ (Mirrored c A w → ⊥)
    decide w = elim (below_dec w c) [
      | inl b ↦ elim (dec (above c w)) [ inl a ↦ inl (b, a) | inr f ↦ inr (λ t. f t.1) ]
      | inr f ↦ inr (λ t. f t.0)
    ]

    low : (e : List ℕ) → Bits e → length e ≡ length c → (y : List ℕ) × Mirrored c A y × (cost e y ≤ cost e (above c z))
    low e be le =
        let t = high e be le in
        let P : List ℕ → Type 0 = A in
        let b = box t.0 t.1 in
        let i = cost-above e c t.0 b in
        let j = cost-above e c z bz in
        let m = t.2 in
        (above c t.0, (AtMost-above c t.0 b, subst P (sym (above-above c t.0 b)) t.1), omega arith)

-- a set that gives and takes has every bundle of the box that lies, on each set of goods, between two members
pub reached : (c : List ℕ) (A : List ℕ → Type 0) → CanGive A → CanTake A → ((x : List ℕ) → A x → AtMost x c)
    → ((x : List ℕ) → A x ⊎ (A x → ⊥)) → (z : List ℕ) → AtMost z c
    → ((e : List ℕ) → Bits e → length e ≡ length c → (y : List ℕ) × A y × (cost e y ≤ cost e z))
    → ((e : List ℕ) → Bits e → length e ≡ length c → (y : List ℕ) × A y × (cost e z ≤ cost e y)) → (fuel : ℕ) (x : List ℕ) → A x
    → distance x z ≤ fuel → A z
reached c A give take box dec z bz low high zero x ax near = elim (differ x z c (box x ax) bz) [
  | inl e ↦ (let P : List ℕ → Type 0 = A in subst P e ax)
  | inr t ↦ elim t.1 [
    | inl h ↦ absurd (let n = nearer_down A give (length c) (λ w a. length-below w c (box w a)) dec z (length-below z c bz) low x t.0 ax h in let i = n.near in omega arith)
    | inr h ↦ absurd (let n = nearer_up c A take box dec z bz high x t.0 ax h in let i = n.near in omega arith)
  ]
]
reached c A give take box dec z bz low high (suc fuel) x ax near = elim (differ x z c (box x ax) bz) [
  | inl e ↦ (let P : List ℕ → Type 0 = A in subst P e ax)
  | inr t ↦ elim t.1 [
    | inl h ↦ (let n = nearer_down A give (length c) (λ w a. length-below w c (box w a)) dec z (length-below z c bz) low x t.0 ax h in let i = n.near in
        reached c A give take box dec z bz low high fuel n.next n.«in» (omega arith))
    | inr h ↦ (let n = nearer_up c A take box dec z bz high x t.0 ax h in let i = n.near in
        reached c A give take box dec z bz low high fuel n.next n.«in» (omega arith))
  ]
]
