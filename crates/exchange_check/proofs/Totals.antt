use Rattle.std.proofs.Common.{◌≡◌, ℕ, ◌+◌, ◌≤◌, ◌<◌, List, [], ◌∷◌, length, arith, ap, refl, inl, inr}
use Rattle.std.specs.Prelude.{◌⊎◌, ℤ, ◌≤ℤ◌}
use Rattle.std.proofs.lemmas.Int.{ints, by_lt_z}
use Rattle.std.proofs.lemmas.Bool.{cases_lt, cases_eq}
use Prim.Native.Nat.{suc, zero}
use Rattle.lot_base.specs.Goods.{at, one_more, one_less, AtMost}
use Rattle.lot_base.proofs.Vectors.{total}

pub total-one_more : (x : List ℕ) (k : ℕ) → k < length x → total (one_more x k) ≡ total x + 1
total-one_more [] k h = absurd (omega arith)
total-one_more (a ∷ x) zero h = omega arith
total-one_more (a ∷ x) (suc k) h = let i : k < length x = omega arith in omega (arith, total-one_more x k i)

pub total-one_less : (x : List ℕ) (k : ℕ) → 0 < at x k → total (one_less x k) + 1 ≡ total x
total-one_less [] k h = absurd (omega arith)
total-one_less (a ∷ x) zero h = omega arith
total-one_less (a ∷ x) (suc k) h = omega (arith, total-one_less x k h)

-- some good of which x has more, or none
pub higher : (x y : List ℕ) → length x ≡ length y → ((i : ℕ) × (at y i < at x i)) ⊎ AtMost x y
higher [] [] e = inr tt
higher [] (b ∷ y) e = absurd (omega arith)
higher (a ∷ x) [] e = absurd (omega arith)
higher (a ∷ x) (b ∷ y) e = elim (cases_lt b a) [
  | inl h ↦ inl (0, h)
  | inr h ↦ let f : length x ≡ length y = omega arith in elim (higher x y f) [ inl t ↦ inl (suc t.0, t.1) | inr t ↦ inr (h, t) ]
]

pub total-below : (x y : List ℕ) → AtMost x y → total x ≤ total y
total-below [] [] b = omega arith
total-below [] (c ∷ y) b = absurd b
total-below (a ∷ x) [] b = absurd b
total-below (a ∷ x) (c ∷ y) b = let h = b.0 in omega (arith, total-below x y b.1)

pub same_total : (x y : List ℕ) → AtMost x y → total x ≡ total y → x ≡ y
same_total [] [] b e = refl
same_total [] (c ∷ y) b e = absurd b
same_total (a ∷ x) [] b e = absurd b
same_total (a ∷ x) (c ∷ y) b e =
    let h = b.0 in
    let t = total-below x y b.1 in
    let i : a ≡ c = omega arith in
    let f : total x ≡ total y = omega arith in
    let j = same_total x y b.1 f in cc

-- the one good of which y has a unit more than x
pub record Gap (x y : List ℕ) : Type 0 where
  pub good : ℕ
  pub more : at x good < at y good
  pub is : one_more x good ≡ y

pub gap : (x y : List ℕ) → AtMost x y → total x + 1 ≡ total y → Gap x y
gap [] [] b e = absurd (omega arith)
gap [] (c ∷ y) b e = absurd b
gap (a ∷ x) [] b e = absurd b
gap (a ∷ x) (c ∷ y) b e =
    let h = b.0 in
    let t = total-below x y b.1 in
    elim (cases_lt a c) [
      | inl i ↦ let f : total x ≡ total y = omega arith in
          let j = same_total x y b.1 f in
          let k : a + 1 ≡ c = omega arith in
          record { good = 0; more = i; is = cc }
      | inr i ↦ let f : total x + 1 ≡ total y = omega arith in
          let g = gap x y b.1 f in
          let k : a ≡ c = omega arith in
          let j = g.is in
          record { good = suc g.good; more = g.more; is = cc }
    ]

-- of equal totals, where x has more of one good y has more of another
pub other_higher : (x y : List ℕ) (k : ℕ) → length x ≡ length y → total x ≡ total y → at y k < at x k → (l : ℕ) × (at x l < at y l)
other_higher x y k e f h = elim (higher y x (omega arith)) [
  | inl t ↦ t
  | inr b ↦ let i = ap (λ z. at z k) (same_total y x b (omega arith)) in absurd (omega arith)
]

-- of the goods below n of which y has more, one with the greatest F
pub record Chosen (F : ℕ → ℤ) (x y : List ℕ) (n : ℕ) : Type 0 where
  pub good : ℕ
  pub more : at x good < at y good
  pub top : (l : ℕ) → l < n → at x l < at y l → F l ≤ℤ F good

pub choose : (F : ℕ → ℤ) (x y : List ℕ) (n l : ℕ) → at x l < at y l → Chosen F x y n
choose F x y zero l h = record { good = l; more = h; top = λ m i j. absurd (omega arith) }
choose F x y (suc n) l h =
    let t = choose F x y n l h in
    elim (cases_lt (at x n) (at y n)) [
      | inr out ↦ record {
        good = t.good;
        more = t.more;
        top = λ m i j. elim (cases_eq m n) [
          | inl e ↦ absurd (omega (arith, ap (at x) e, ap (at y) e))
          | inr e ↦ t.top m (omega arith) j
        ];
      }
      | inl more ↦ by_lt_z (F t.good) (F n)
          (λ lt. record {
            good = n;
            more = more;
            top = λ m i j. elim (cases_eq m n) [
              | inl e ↦ let f = ap F e in omega (arith, ints)
              | inr e ↦ let k = t.top m (omega arith) j in omega (arith, ints)
            ];
          })
          (λ le. record {
            good = t.good;
            more = t.more;
            top = λ m i j. elim (cases_eq m n) [
              | inl e ↦ let f = ap F e in omega (arith, ints)
              | inr e ↦ t.top m (omega arith) j
            ];
          })
    ]
