-- Prices that rise by the same step from one observation to the next.
use Rattle.std.specs.Prelude.{ℕ, zero, suc, ◌*◌, List, [], ◌∷◌, ◌++◌, Some, ℤ, ◌+ℤ◌, ◌≤ℤ◌}
use Rattle.lot_base.specs.Goods.{plus}
use Rattle.rationale.specs.Links.{weight_at}

abbrev pub times : ℕ → List ℕ → List ℕ
times t [] = []
times t (a ∷ s) = (t * a) ∷ times t s

-- the prices after so many steps
abbrev pub after : List ℕ → List ℕ → ℕ → List ℕ
after p s t = plus p (times t s)

-- y is worth no more than x and the link's weight
abbrev pub IsBound : (List ℕ → ℤ) → List ℕ → List (List ℕ) → List ℕ → List ℕ → Type 0
IsBound u p bundles x y = u y ≤ℤ (u x +ℤ weight_at (Some (record { prices = p; bundles = bundles })) x y)

-- the first so many of f
abbrev pub along : {A : Type 0} → (ℕ → A) → ℕ → List A
along f zero = []
along f (suc n) = along f n ++ f n ∷ []
