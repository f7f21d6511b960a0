-- Parts of bytes are bytes.
use Rattle.std.proofs.Common.{◌≡◌, ◌<◌, ◌≤◌, ℕ, zero, suc, ◌+◌, List, [], ◌∷◌, length, get_or, take, drop, sym, ◌∙◌, subst, inl, inr, arith, lit<}
use Rattle.std.proofs.lemmas.Bool.{cases_lt}
use Rattle.std.proofs.lemmas.List.{get_or-take, get_or-drop, get_or_past}

pub part_bytes : (bytes : List ℕ) (from n : ℕ) → ((k : ℕ) → get_or bytes k 0 < 256) → (i : ℕ) → get_or (take n (drop from bytes)) i 0 < 256
part_bytes bytes from n are i = elim (cases_lt i n) [
  | inl less ↦ subst (λ (b : ℕ). b < 256) (sym (get_or-take n (drop from bytes) i 0 less ∙ get_or-drop from bytes i 0)) (are (from + i))
  | inr more ↦ subst (λ (b : ℕ). b < 256) (sym (get_or_past (take n (drop from bytes)) i 0 (let most = at-most n (drop from bytes) in omega (arith, more)))) (lit< tt)
]
  where
    at-most : (n : ℕ) (l : List ℕ) → length (take n l) ≤ n
    at-most zero l = omega arith
    at-most (suc n) [] = omega arith
    at-most (suc n) (x ∷ l) = let rest = at-most n l in omega arith

pub later_bytes : (bytes : List ℕ) (from : ℕ) → ((k : ℕ) → get_or bytes k 0 < 256) → (i : ℕ) → get_or (drop from bytes) i 0 < 256
later_bytes bytes from are i = subst (λ (b : ℕ). b < 256) (sym (get_or-drop from bytes i 0)) (are (from + i))
