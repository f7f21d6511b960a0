-- Steps one after another, where the first fault counts.
use Rattle.std.specs.Prelude.{ℕ, ◌+◌, Bool, true, false, List, [], ◌∷◌, Result, Ok, Err}

-- what follows, unless there is a fault already
infixl 10 ◌>>=◌
abbrev pub ◌>>=◌ : {A B F : Type 0} → Result A F → (A → Result B F) → Result B F
Ok x >>= f = f x
Err refusal >>= f = Err refusal

-- the fault, unless the test holds
abbrev pub check : {F : Type 0} → Bool → F → Result (Unit {0}) F
check true refusal = Ok tt
check false refusal = Err refusal

-- the same, where each fault is said by f
abbrev pub said_by : {A E F : Type 0} → (E → F) → Result A E → Result A F
said_by f (Ok x) = Ok x
said_by f (Err refusal) = Err (f refusal)

-- what f gives for each element and its place, where places are counted from this one on, or the first fault of these
abbrev pub each_from : {A B F : Type 0} → (ℕ → A → Result B F) → ℕ → List A → Result (List B) F
each_from f place [] = Ok []
each_from f place (x ∷ xs) = do
  y ← f place x
  ys ← each_from f (place + 1) xs
  Ok (y ∷ ys)
