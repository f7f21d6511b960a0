-- A set of bundles in which each gives a unit wherever it has more than another: a bundle with too much of a good is not the nearest
-- to a target that has, on each set of goods, at least as much as some bundle of the set.
use Rattle.std.proofs.Common.{◌≡◌, ℕ, ◌≤◌, ◌<◌, ◌≢◌, List, [], ◌∷◌, length, arith, ap, refl, inl, inr, subst, sym, ◌∙◌}
use Rattle.std.specs.Prelude.{◌⊎◌}
use Rattle.std.proofs.lemmas.Bool.{cases_lt, cases_eq}
use Prim.Native.Nat.{suc, zero}
use Rattle.lot_base.proofs.Vec.{at-bits, at-down_other, at-up_other, cost-one_less, cost-one_more, distance-one_less, distance-one_more, distance_comm, within_from_at}
use Rattle.lot_base.proofs.Vectors.{Bits, distance}
use Rattle.lot_base.specs.Goods.{at, cost, one_less, one_more}
use Rattle.lyapunov.proofs.Units.{CanGive, one_less-one_less, one_more-one_more, one_less-one_more, one_more-one_less_same, at-one_more_ge, at-one_less_le, at-one_less_same, length-one_less}

-- where x without k is not in the set but x with t for k is, x without t is not
no_unit : (A : List ℕ → Type 0) → CanGive A → (x : List ℕ) (k t : ℕ) → A x → (A (one_less x k) → ⊥) → 0 < at x k
    → t ≢ k → A (one_more (one_less x k) t) → 0 < at x t → A (one_less x t) → ⊥
no_unit A give x k t ax none pk n ax' pt aw =
    let w = one_less x t in
    let x' = one_more (one_less x k) t in
    let n' : k ≢ t = omega arith in
    let a = at-down_other x t k n' in
    let b = at-up_other (one_less x k) t k n' in
    let c = at-one_less_same x k in
    elim (give w x' k aw ax' (omega arith)) [
      | inl v ↦
          let d = at-one_less_same w k in
          elim (give x (one_less w k) k ax v (omega arith)) [
            | inl f ↦ none f
            | inr q ↦ let h = q.1 in let e = at-one_less_le w k q.0 in let f = at-one_less_le x t q.0 in omega arith
          ]
      | inr q ↦ elim (cases_eq q.0 t) [
        | inl e ↦ none (let P : List ℕ → Type 0 = A in
            let Q : ℕ → Type 0 = λ i. A (one_more (one_less w k) i) in
            let i = at-down_other x k t n in
            subst P (ap (λ z. one_more z t) (one_less-one_less x t k) ∙ one_more-one_less_same (one_less x k) t (omega arith)) (subst Q e q.2))
        | inr e ↦ let h = q.1 in let i = at-down_other x t q.0 e in let j = at-up_other (one_less x k) t q.0 e in let f = at-one_less_le x k q.0 in absurd (omega arith)
      ]
    ]

-- and what x can have for t it can have for k
closed : (A : List ℕ → Type 0) → CanGive A → (x : List ℕ) (k t l : ℕ) → A x → (A (one_less x k) → ⊥) → 0 < at x k
    → t ≢ k → A (one_more (one_less x k) t) → 0 < at x t → l ≢ k → l ≢ t → A (one_more (one_less x t) l) → A (one_more (one_less x k) l)
closed A give x k t l ax none pk n ax' pt nk nt aw =
    let w = one_more (one_less x t) l in
    let x' = one_more (one_less x k) t in
    let n' : k ≢ t = omega arith in
    let m' : k ≢ l = omega arith in
    let a = at-down_other x t k n' in
    let a' = at-up_other (one_less x t) l k m' in
    let b = at-up_other (one_less x k) t k n' in
    let c = at-one_less_same x k in
    let P : List ℕ → Type 0 = A in
    elim (give w x' k aw ax' (omega arith)) [
      | inl v ↦
          let d = at-one_less_same w k in
          elim (give x (one_less w k) k ax v (omega arith)) [
            | inl f ↦ absurd (none f)
            | inr q ↦ elim (cases_eq q.0 l) [
              | inl e ↦ let Q : ℕ → Type 0 = λ i. A (one_more (one_less x k) i) in subst Q e q.2
              | inr e ↦ let h = q.1 in let i = at-one_less_le w k q.0 in let j = at-up_other (one_less x t) l q.0 e in let f = at-one_less_le x t q.0 in absurd (omega arith)
            ]
          ]
      | inr q ↦ elim (cases_eq q.0 t) [
        | inl e ↦
            let Q : ℕ → Type 0 = λ i. A (one_more (one_less w k) i) in
            let i = at-down_other x k t n in
            subst P (ap (λ z. one_more z t) (one_less-one_more (one_less x t) l k m' ∙ ap (λ z. one_more z l) (one_less-one_less x t k)) ∙ one_more-one_more (one_less (one_less x k) t) l t ∙ ap (λ z. one_more z l) (one_more-one_less_same (one_less x k) t (omega arith))) (subst Q e q.2)
        | inr e ↦ let h = q.1 in let i = at-down_other x t q.0 e in let i' = at-one_more_ge (one_less x t) l q.0 in let j = at-up_other (one_less x k) t q.0 e in let f = at-one_less_le x k q.0 in absurd (omega arith)
      ]
    ]

search_below : (Q : ℕ → Type 0) → ((i : ℕ) → Q i ⊎ (Q i → ⊥)) → (n : ℕ) → ((l : ℕ) × (l < n) × Q l) ⊎ ((l : ℕ) → l < n → Q l → ⊥)
search_below Q dec zero = inr (λ l h q. omega arith)
search_below Q dec (suc n) = elim (dec n) [
  | inl q ↦ inl (n, omega arith, q)
  | inr f ↦ elim (search_below Q dec n) [
    | inl t ↦ inl (t.0, (let h = t.1 in omega arith), t.2)
    | inr g ↦ inr (λ l h q. elim (cases_eq l n) [ inl e ↦ f (subst Q e q) | inr e ↦ g l (omega arith) q ])
  ]
]

bit : {P : Type 0} → P ⊎ (P → ⊥) → ℕ
bit (inl p) = 1
bit (inr f) = 0

bit_yes : {P : Type 0} → (d : P ⊎ (P → ⊥)) → P → bit d ≡ 1
unfolding bit
bit_yes (inl p) q = refl
bit_yes (inr f) q = absurd (f q)

from_bit : {P : Type 0} → (d : P ⊎ (P → ⊥)) → 0 < bit d → P
unfolding bit
from_bit (inl p) h = p
from_bit (inr f) h = absurd (omega arith)

bit_small : {P : Type 0} → (d : P ⊎ (P → ⊥)) → bit d ≤ 1
unfolding bit
bit_small (inl p) = omega arith
bit_small (inr f) = omega arith

tab : (ℕ → ℕ) → ℕ → List ℕ
tab f zero = []
tab f (suc n) = f 0 ∷ tab (λ i. f (suc i)) n

at-tab : (f : ℕ → ℕ) (n l : ℕ) → l < n → at (tab f n) l ≡ f l
unfolding tab
at-tab f zero l h = absurd (omega arith)
at-tab f (suc n) zero h = refl
at-tab f (suc n) (suc l) h = let i : l < n = omega arith in at-tab (λ i. f (suc i)) n l i

length-tab : (f : ℕ → ℕ) (n : ℕ) → length (tab f n) ≡ n
unfolding tab
length-tab f zero = refl
length-tab f (suc n) = ap suc (length-tab (λ i. f (suc i)) n)

Bits-tab : (f : ℕ → ℕ) (n : ℕ) → ((i : ℕ) → f i ≤ 1) → Bits (tab f n)
unfolding tab
Bits-tab f zero h = tt
Bits-tab f (suc n) h = (h 0, Bits-tab (λ i. f (suc i)) n (λ i. h (suc i)))

-- a good of e at which x has more
cost_find : (e x y : List ℕ) → Bits e → length x ≡ length y → cost e y < cost e x → (t : ℕ) × (0 < at e t) × (at y t < at x t)
cost_find [] x y b l h = absurd (omega arith)
cost_find (c ∷ e) [] [] b l h = absurd (omega arith)
cost_find (c ∷ e) [] (d ∷ y) b l h = absurd (omega arith)
cost_find (c ∷ e) (a ∷ x) [] b l h = absurd (omega arith)
cost_find (zero ∷ e) (a ∷ x) (d ∷ y) b l h =
    let l' : length x ≡ length y = omega arith in
    let t = cost_find e x y b.1 l' (omega arith) in
    (suc t.0, t.1, t.2)
cost_find (suc zero ∷ e) (a ∷ x) (d ∷ y) b l h = elim (cases_lt d a) [
  | inl i ↦ (0, omega arith, i)
  | inr i ↦
      let l' : length x ≡ length y = omega arith in
      let t = cost_find e x y b.1 l' (omega arith) in
      (suc t.0, t.1, t.2)
]
cost_find (suc (suc c) ∷ e) (a ∷ x) (d ∷ y) b l h = absurd (let i = b.0 in omega arith)

cost_at_most : (e z x : List ℕ) → Bits e → length z ≡ length x → ((l : ℕ) → 0 < at e l → at z l ≤ at x l) → cost e z ≤ cost e x
cost_at_most [] z x b l h = omega arith
cost_at_most (c ∷ e) [] x b l h = omega arith
cost_at_most (c ∷ e) (a ∷ z) [] b l h = absurd (omega arith)
cost_at_most (zero ∷ e) (a ∷ z) (d ∷ x) b l h = let l' : length z ≡ length x = omega arith in let i = cost_at_most e z x b.1 l' (λ j. h (suc j)) in omega arith
cost_at_most (suc zero ∷ e) (a ∷ z) (d ∷ x) b l h = let l' : length z ≡ length x = omega arith in let i = cost_at_most e z x b.1 l' (λ j. h (suc j)) in let k = h 0 (omega arith) in omega arith
cost_at_most (suc (suc c) ∷ e) (a ∷ z) (d ∷ x) b l h = absurd (let i = b.0 in omega arith)

cost_less : (e z x : List ℕ) (k : ℕ) → Bits e → length z ≡ length x → ((l : ℕ) → 0 < at e l → at z l ≤ at x l) → 0 < at e k → at z k < at x k
    → cost e z < cost e x
cost_less e z x k b l h i j =
    let ik = within_from_at x k (omega arith) in
    let iz : k < length z = omega arith in
    let d = cost-one_less e x k (omega arith) in
    let le = cost_at_most e z (one_less x k) b (omega (arith, length-one_less x k)) (λ m v. elim (cases_eq m k) [
      | inl q ↦ (let P : ℕ → Type 0 = λ r. at z r ≤ at (one_less x k) r in subst P (sym q) (let s = at-one_less_same x k in omega arith))
      | inr n ↦ (let s = at-down_other x k m n in let w = h m v in omega arith)
    ]) in
    omega arith

module _ (A : List ℕ → Type 0) (give : CanGive A) (n : ℕ) (len : (x : List ℕ) → A x → length x ≡ n) (dec : (x : List ℕ) → A x ⊎ (A x → ⊥)) where
  -- the goods for which x can give up a unit of k, and k itself
  InPlace : List ℕ → ℕ → ℕ → Type 0
  InPlace x k l = (l ≡ k) ⊎ A (one_more (one_less x k) l)

  in_place : (x : List ℕ) (k l : ℕ) → InPlace x k l ⊎ (InPlace x k l → ⊥)
  unfolding InPlace
  in_place x k l = elim (cases_eq l k) [
    | inl e ↦ inl (inl e)
    | inr f ↦ elim (dec (one_more (one_less x k) l)) [
      | inl a ↦ inl (inr a)
      | inr g ↦ inr (λ t. elim t [ inl e ↦ f e | inr a ↦ g a ])
    ]
  ]

  places : List ℕ → ℕ → List ℕ
  places x k = tab (λ l. bit (in_place x k l)) n

  length-places : (x : List ℕ) (k : ℕ) → length (places x k) ≡ n
  unfolding places
  length-places x k = length-tab (λ l. bit (in_place x k l)) n

  Bits-places : (x : List ℕ) (k : ℕ) → Bits (places x k)
  unfolding places
  Bits-places x k = Bits-tab (λ l. bit (in_place x k l)) n (λ l. bit_small (in_place x k l))

  from_places : (x : List ℕ) (k l : ℕ) → 0 < at (places x k) l → InPlace x k l
  unfolding places
  from_places x k l h =
      let i = within_from_at (tab (λ l. bit (in_place x k l)) n) l h in
      let j = length-tab (λ l. bit (in_place x k l)) n in
      let q = at-tab (λ l. bit (in_place x k l)) n l (omega arith) in
      from_bit (in_place x k l) (omega arith)

  to_places : (x : List ℕ) (k l : ℕ) → l < n → InPlace x k l → 0 < at (places x k) l
  unfolding places
  to_places x k l i v =
      let q = at-tab (λ l. bit (in_place x k l)) n l i in
      let w = bit_yes (in_place x k l) v in
      omega arith

  record Sunk (x : List ℕ) (k : ℕ) (y : List ℕ) : Type 0 where
    pub next : List ℕ
    pub «in» : A next
    less : cost (places x k) next < cost (places x k) x
    near : distance next x < distance y x

  -- x has the least quantity on the places: a member of the set with less leads to one that is nearer to x
  sink : (x : List ℕ) (k : ℕ) → A x → (A (one_less x k) → ⊥) → 0 < at x k → (y : List ℕ) → A y → cost (places x k) y < cost (places x k) x
      → Sunk x k y
  unfolding InPlace
  sink x k ax none pk y ay h =
      let e = places x k in
      let lx = len x ax in
      let ly = len y ay in
      let be = Bits-places x k in
      elim (search_below (λ l. (0 < at e l) × (at x l < at y l)) (λ l. (grind arith)) n) [
        | inl t ↦
            let l = t.0 in
            let hl = t.2.1 in
            let iy = within_from_at y l (omega arith) in
            let ix : l < length x = omega arith in
            let q = cost-one_less e y l (omega arith) in
            let c = distance-one_less x y l ix hl in
            let c1 = distance_comm x y in
            let c2 = distance_comm x (one_less y l) in
            elim (give y x l ay ax hl) [
              | inl v ↦ record { next = one_less y l; «in» = v; less = (let z = t.2.0 in omega arith); near = omega arith }
              | inr m ↦
                  let hm = m.1 in
                  let ldy = length-one_less y l in
                  let im = within_from_at x m.0 (omega arith) in
                  let jm : m.0 < length (one_less y l) = omega arith in
                  let w = cost-one_more e (one_less y l) m.0 jm in
                  let b = at-bits e m.0 be in
                  let nl : m.0 ≢ l = other x y l m.0 hl hm in
                  let o = at-down_other y l m.0 nl in
                  let r : at (one_less y l) m.0 < at x m.0 = omega arith in
                  let d = distance-one_more x (one_less y l) m.0 jm r in
                  let d2 = distance_comm x (one_more (one_less y l) m.0) in
                  record { next = one_more (one_less y l) m.0; «in» = m.2; less = (let z = t.2.0 in omega arith); near = omega arith }
            ]
        | inr f ↦
            let t = cost_find e x y be (omega arith) h in
            let ht = t.2 in
            absurd (elim (from_places x k t.0 t.1) [
              | inl same ↦ leaves_k x k t.0 y ax none ay same ht (λ l i j. f l i j)
              | inr can ↦ leaves x k t.0 y ax none pk ay can ht (λ l i j. f l i j)
            ])
      ]
    where
      other : (x y : List ℕ) (l m : ℕ) → at x l < at y l → at y m < at x m → m ≢ l
      other x y l m h i e = absurd (omega (arith, ap (at x) e, ap (at y) e))

      leaves_k : (x : List ℕ) (k t : ℕ) (y : List ℕ) → A x → (A (one_less x k) → ⊥) → A y → t ≡ k → at y t < at x t
          → ((l : ℕ) → l < n → (0 < at (places x k) l) × (at x l < at y l) → ⊥) → ⊥
      leaves_k x k t y ax none ay same ht f =
          let P : ℕ → Type 0 = λ i. at y i < at x i in
          elim (give x y k ax ay (subst P same ht)) [
            | inl v ↦ none v
            | inr m ↦
                let hm = m.1 in
                let i = within_from_at y m.0 (omega arith) in
                let ly = len y ay in
                let il : m.0 < n = omega arith in
                f m.0 il (to_places x k m.0 il (inr m.2), hm)
          ]

      leaves : (x : List ℕ) (k t : ℕ) (y : List ℕ) → A x → (A (one_less x k) → ⊥) → 0 < at x k → A y → A (one_more (one_less x k) t)
          → at y t < at x t → ((l : ℕ) → l < n → (0 < at (places x k) l) × (at x l < at y l) → ⊥) → ⊥
      leaves x k t y ax none pk ay can ht f = elim (cases_eq t k) [
        | inl same ↦ leaves_k x k t y ax none ay same ht f
        | inr nk ↦ elim (give x y t ax ay ht) [
          | inl v ↦ no_unit A give x k t ax none pk nk can (omega arith) v
          | inr m ↦
              let hm = m.1 in
              let i = within_from_at y m.0 (omega arith) in
              let ly = len y ay in
              let il : m.0 < n = omega arith in
              elim (cases_eq m.0 k) [
                | inl e ↦ f m.0 il (to_places x k m.0 il (inl e), hm)
                | inr nm ↦ f m.0 il (to_places x k m.0 il (inr (closed A give x k t m.0 ax none pk nk can (omega arith) nm (other y x t m.0 ht hm) m.2)), hm)
              ]
        ]
      ]

  none_less : (x : List ℕ) (k : ℕ) → A x → (A (one_less x k) → ⊥) → 0 < at x k → (fuel : ℕ) (y : List ℕ) → A y
      → cost (places x k) y < cost (places x k) x → distance y x ≤ fuel → ⊥
  none_less x k ax none pk zero y ay h near = let t = sink x k ax none pk y ay h in let i = t.near in omega arith
  none_less x k ax none pk (suc fuel) y ay h near = let t = sink x k ax none pk y ay h in let i = t.near in none_less x k ax none pk fuel t.next t.«in» t.less (omega arith)

  pub record Nearer (x z : List ℕ) : Type 0 where
    pub next : List ℕ
    pub «in» : A next
    pub near : distance next z < distance x z

  -- where x has more than z of some good and some member has no more than z on each set, a member is nearer to z
  pub nearer_down : (z : List ℕ) → length z ≡ n → ((e : List ℕ) → Bits e → length e ≡ n → (y : List ℕ) × A y × (cost e y ≤ cost e z))
      → (x : List ℕ) (k : ℕ) → A x → at z k < at x k → Nearer x z
  unfolding InPlace
  nearer_down z lz low x k ax h =
      let lx = len x ax in
      let ik = within_from_at x k (omega arith) in
      let izk : k < length z = omega arith in
      let c = distance-one_less z x k izk h in
      let c1 = distance_comm z x in
      let c2 = distance_comm z (one_less x k) in
      elim (dec (one_less x k)) [
        | inl a ↦ record { next = one_less x k; «in» = a; near = omega arith }
        | inr none ↦ elim (search_below (λ l. (at x l < at z l) × A (one_more (one_less x k) l)) (λ l. both l (dec (one_more (one_less x k) l))) n) [
          | inl t ↦
              let l = t.0 in
              let hl = t.2.0 in
              let il = within_from_at z l (omega arith) in
              let ld = length-one_less x k in
              let jl : l < length (one_less x k) = omega arith in
              let nl : l ≢ k = other x z k l h hl in
              let o = at-down_other x k l nl in
              let r : at (one_less x k) l < at z l = omega arith in
              let d = distance-one_more z (one_less x k) l jl r in
              let d2 = distance_comm z (one_more (one_less x k) l) in
              record { next = one_more (one_less x k) l; «in» = t.2.1; near = omega arith }
          | inr f ↦
              let e = places x k in
              let y = low e (Bits-places x k) (length-places x k) in
              let yle = y.2 in
              let lt = cost_less e z x k (Bits-places x k) (omega arith) (λ l v. under l (from_places x k l v) f) (to_places x k k (omega arith) (inl refl)) h in
              absurd (none_less x k ax none (omega arith) (distance y.0 x) y.0 y.1 (omega arith) (omega arith))
        ]
      ]
    where
      both : (l : ℕ) → A (one_more (one_less x k) l) ⊎ (A (one_more (one_less x k) l) → ⊥)
          → ((at x l < at z l) × A (one_more (one_less x k) l)) ⊎ ((at x l < at z l) × A (one_more (one_less x k) l) → ⊥)
      both l (inl a) = elim (cases_lt (at x l) (at z l)) [ inl i ↦ inl (i, a) | inr i ↦ inr (λ t. let j = t.0 in omega arith) ]
      both l (inr g) = inr (λ t. g t.1)

      other : (x y : List ℕ) (l m : ℕ) → at y l < at x l → at x m < at y m → m ≢ l
      other x y l m h i e = absurd (omega (arith, ap (at x) e, ap (at y) e))

      under : (l : ℕ) → InPlace x k l → ((l : ℕ) → l < n → (at x l < at z l) × A (one_more (one_less x k) l) → ⊥) → at z l ≤ at x l
      under l (inl e) f = let P : ℕ → Type 0 = λ i. at z i ≤ at x i in subst P (sym e) (omega arith)
      under l (inr a) f = elim (cases_lt (at x l) (at z l)) [
        | inl i ↦ absurd (let j = within_from_at z l (omega arith) in f l (omega arith) (i, a))
        | inr i ↦ i
      ]
