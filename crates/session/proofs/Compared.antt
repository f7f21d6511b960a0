-- Bytes that are compared one after another.
use Rattle.std.proofs.Common.{◌≡◌, ℕ, zero, suc, ◌<◌, ◌+◌, Bool, true, false, ◌&&◌, List, [], ◌∷◌, length, take, get_or, refl, sym, ◌∙◌, ap, arith, nat_eq}
use Rattle.std.specs.Prelude.{bytes_eq}

and_assoc : (a b c : Bool) → a && (b && c) ≡ (a && b) && c
and_assoc true b c = refl
and_assoc false b c = refl

and_true : (a : Bool) → a ≡ (a && true)
and_true true = refl
and_true false = refl

next : (xs ys : List ℕ) (n d e : ℕ) → n < length xs → n < length ys
    → bytes_eq (take (suc n) xs) (take (suc n) ys) ≡ (bytes_eq (take n xs) (take n ys) && nat_eq (get_or xs n d) (get_or ys n e))
next [] ys n d e p q = absurd (omega arith)
next (x ∷ xs) [] n d e p q = absurd (omega arith)
next (x ∷ xs) (y ∷ ys) zero d e p q = sym (and_true (nat_eq x y))
next (x ∷ xs) (y ∷ ys) (suc n) d e p q =
    ap (λ (b : Bool). nat_eq x y && b) (next xs ys n d e (omega arith) (omega arith)) ∙ and_assoc (nat_eq x y) (bytes_eq (take n xs) (take n ys)) (nat_eq (get_or xs n d) (get_or ys n e))

-- one byte more
pub one_more : (xs ys : List ℕ) (n d e : ℕ) → n < length xs → n < length ys
    → bytes_eq (take (n + 1) xs) (take (n + 1) ys) ≡ (bytes_eq (take n xs) (take n ys) && nat_eq (get_or xs n d) (get_or ys n e))
one_more xs ys n d e p q = let s : n + 1 ≡ suc n = omega arith in ap (λ (k : ℕ). bytes_eq (take k xs) (take k ys)) s ∙ next xs ys n d e p q
