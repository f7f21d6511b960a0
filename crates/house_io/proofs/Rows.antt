-- Giving the first things of a row one after another.
use Rattle.std.proofs.Common.{◌≡◌, ◌∙◌, sym, ap, refl, subst, ℕ, zero, suc, ◌+◌, ◌-◌, ◌≤◌, List, [], ◌∷◌, ◌++◌, length, take, drop, arith, append-nil, length-drop, drop_of_length-le}
use Rattle.std.proofs.lemmas.List.{take-append-drop}

-- the first of what is left
pub took : {X : Type 0} (n : ℕ) (xs rest : List X) (x : X) → drop n xs ≡ x ∷ rest → (take (n + 1) xs ≡ take n xs ++ x ∷ []) × (drop (n + 1) xs ≡ rest)
took {X = X} zero xs rest x e =
    let P : List X → Type 0 = λ z. (take 1 z ≡ take 0 z ++ x ∷ []) × (drop 1 z ≡ rest) in
    subst P (sym e) (refl, refl)
took (suc n) [] rest x e = absurd (grind (arith, e))
took {X = X} (suc n) (y ∷ ys) rest x e =
    let i = took n ys rest x e in
    let s : suc (n + 1) ≡ suc n + 1 = omega arith in
    let P : ℕ → Type 0 = λ m. (take m (y ∷ ys) ≡ y ∷ (take n ys ++ x ∷ [])) × (drop m (y ∷ ys) ≡ rest) in
    subst P s (ap (λ zs. y ∷ zs) i.0, i.1)

-- where nothing is left, more give nothing more
pub none-left : {X : Type 0} (n m : ℕ) (xs : List X) → n ≤ m → drop n xs ≡ [] → (take m xs ≡ take n xs) × (drop m xs ≡ [])
none-left n m xs le e =
    let long : length xs - n ≡ 0 = sym (length-drop n xs) ∙ ap length e in
    let whole : (k : ℕ) → drop k xs ≡ [] → take k xs ≡ xs = λ k none. sym (append-nil (take k xs)) ∙ ap (λ zs. take k xs ++ zs) (sym none) ∙ take-append-drop k xs in
    let done : drop m xs ≡ [] = drop_of_length-le xs {i = m} (omega (arith, long, le)) in
    (whole m done ∙ sym (whole n e), done)
