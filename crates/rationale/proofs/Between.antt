-- What the first and the last round of a line bound is bounded by those between.
use Rattle.std.proofs.Common.{◌≡◌, ◌≤◌, ◌+◌, ◌-◌, ◌*◌, ℕ, List, [], ◌∷◌, Some, arith, ap, inl, inr, ◌∙◌}
use Rattle.std.specs.Prelude.{◌⊎◌, ℤ, pos, ◌+ℤ◌, ◌-ℤ◌, ◌≤ℤ◌}
use Rattle.std.proofs.lemmas.Int.{ints}
use Rattle.std.proofs.lemmas.Bool.{cases_lt, cases_Bool}
use Rattle.std.proofs.Math.Nat.{mul-le-mul}
use Rattle.lot_base.specs.Goods.{cost}
use Rattle.lot_base.proofs.Vec.{cost-plus_left}
use Rattle.rationale.specs.Links.{is_in, weight_at}
use Rattle.rationale.specs.Lines.{times, after, IsBound}
use Rattle.rationale.proofs.Explained.{weight_in, weight_out}

cost-times : (t : ℕ) (s x : List ℕ) → cost (times t s) x ≡ t * cost s x
cost-times t [] x = omega arith
cost-times t (a ∷ s) [] = omega arith
cost-times t (a ∷ s) (b ∷ x) =
    let i = cost-times t s x in
    let m : t * (a * b + cost s x) ≡ t * a * b + t * cost s x = grind arith in
    omega (arith, i, m)

cost-after : (p s x : List ℕ) (t : ℕ) → cost (after p s t) x ≡ cost p x + t * cost s x
cost-after p s x t = cost-plus_left p (times t s) x ∙ ap (λ (n : ℕ). cost p x + n) (cost-times t s x)

more : (a b t : ℕ) → a ≤ b → t * a ≤ t * b
more a b t h = mul-le-mul (let r : t ≤ t = omega arith in r) h

spread : (n b d : ℕ) → n * (b + d) ≡ n * b + n * d
spread n b d = grind arith

fewer : (t n a b d : ℕ) → t ≤ n → a ≡ b + d → n * b + t * a ≤ t * b + n * a
fewer t n a b d h e =
    let i = mul-le-mul h (let r : d ≤ d = omega arith in r) in
    let j : n * a ≡ n * b + n * d = ap (λ (z : ℕ). n * z) e ∙ spread n b d in
    let k : t * a ≡ t * b + t * d = ap (λ (z : ℕ). t * z) e ∙ spread t b d in
    omega (arith, i, j, k)

-- so many steps cost y no less than x, or no less than all the steps
low : (t n a b : ℕ) → t ≤ n → (t * a ≤ t * b) ⊎ (n * b + t * a ≤ t * b + n * a)
low t n a b few = elim (cases_lt b a) [
  | inl down ↦ inr (fewer t n a b (a - b) few (omega arith))
  | inr up ↦ inl (more a b t up)
]

at : (u : List ℕ → ℤ) (p : List ℕ) (bundles : List (List ℕ)) (x y : List ℕ) (g : ℤ) → weight_at (Some (record { prices = p; bundles = bundles })) x y ≡ (pos (cost p y) -ℤ pos (cost p x)) -ℤ g →
    IsBound u p bundles x y → u y ≤ℤ (u x +ℤ ((pos (cost p y) -ℤ pos (cost p x)) -ℤ g))
at u p bundles x y g e b = omega (arith, ints)

line : (u : List ℕ → ℤ) (p s : List ℕ) (bundles : List (List ℕ)) (x y : List ℕ) (t n : ℕ) (g : ℤ) → t ≤ n →
    ((q : List ℕ) → weight_at (Some (record { prices = q; bundles = bundles })) x y ≡ (pos (cost q y) -ℤ pos (cost q x)) -ℤ g) →
    IsBound u p bundles x y → IsBound u (after p s n) bundles x y → IsBound u (after p s t) bundles x y
line u p s bundles x y t n g few weighs first last =
    let a = weighs p in
    let b = weighs (after p s n) in
    let c = weighs (after p s t) in
    let nx = cost-after p s x n in
    let ny = cost-after p s y n in
    let tx = cost-after p s x t in
    let ty = cost-after p s y t in
    elim (low t n (cost s x) (cost s y) few) [
      | inl i ↦ omega (arith, ints)
      | inr i ↦ omega (arith, ints)
    ]

pub between : (u : List ℕ → ℤ) (p s : List ℕ) (bundles : List (List ℕ)) (x y : List ℕ) (t n : ℕ) → t ≤ n →
    IsBound u p bundles x y → IsBound u (after p s n) bundles x y → IsBound u (after p s t) bundles x y
between u p s bundles x y t n few first last = elim (cases_Bool (is_in y bundles)) [
  | inl there ↦ line u p s bundles x y t n (pos 0) few (λ q. (let i = weight_in (record { prices = q; bundles = bundles }) x y there in omega (arith, ints))) first last
  | inr away ↦ line u p s bundles x y t n (pos 1) few (λ q. weight_out (record { prices = q; bundles = bundles }) x y away) first last
]
