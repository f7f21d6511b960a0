-- Texts that are not empty.
use Rattle.std.proofs.Common.{◌≡◌, ◌≢◌, ℕ, List, [], ◌∷◌, ◌++◌}

-- a text with a sign after a front is not empty
pub behind : (front : List ℕ) (x : ℕ) (rest text : List ℕ) → text ≡ front ++ (x ∷ rest) → text ≢ []
behind [] x rest text is none = absurd (let no : ⊥ = cc in no)
behind (y ∷ ys) x rest text is none = absurd (let no : ⊥ = cc in no)
