-- Reading the elements of a list in turn: what was read so far, and what the rest will give.
use Rattle.std.proofs.Common.{◌≡◌, ℕ, ◌+◌, ◌<◌, suc, List, [], ◌∷◌, ◌++◌, length, get_or, drop, map, Ok, Err, Result, refl, ap, ◌∙◌, sym, arith, append_assoc, drop-cons}
use Rattle.toml_tree.specs.Steps.{◌>>=◌, each_from}

-- what the elements from a place on give, where the first one has the place `start`
abbrev pub rest_of : {A B F : Type 0} → (ℕ → A → Result B F) → ℕ → List A → ℕ → Result (List B) F
rest_of f start xs k = each_from f (start + k) (drop k xs)

-- what was read, before what the rest gives
abbrev pub after : {B F : Type 0} → List B → Result (List B) F → Result (List B) F
after front read = read >>= (λ ys. Ok (front ++ ys))

after-one : {B F : Type 0} (front : List B) (y : B) (read : Result (List B) F) → after front (read >>= (λ ys. Ok (y ∷ ys))) ≡ after (front ++ y ∷ []) read
after-one front y (Ok ys) = ap Ok (sym (append_assoc front (y ∷ []) ys))
after-one front y (Err refusal) = refl

rest_of-step : {A B F : Type 0} (f : ℕ → A → Result B F) (start : ℕ) (xs : List A) (k : ℕ) (x : A) → k < length xs → x ≡ get_or xs k x
    → rest_of f start xs k ≡ (f (start + k) x >>= (λ y. rest_of f start xs (k + 1) >>= (λ ys. Ok (y ∷ ys))))
rest_of-step f start xs k x within at =
    let one : k + 1 ≡ suc k = omega arith in
    let next : start + k + 1 ≡ start + (k + 1) = omega arith in
    ap (each_from f (start + k)) (drop-cons xs k x within)
    ∙ ap (λ z. f (start + k) z >>= (λ y. each_from f (start + k + 1) (drop (suc k) xs) >>= (λ ys. Ok (y ∷ ys)))) (sym at)
    ∙ (λ i. f (start + k) x >>= (λ y. each_from f (next i) (drop (sym one i) xs) >>= (λ ys. Ok (y ∷ ys))))

-- one element more, which was read
pub each-turn : {A B F : Type 0} (f : ℕ → A → Result B F) (start : ℕ) (xs : List A) (k : ℕ) (x : A) (front : List B) (y : B) → k < length xs → x ≡ get_or xs k x
    → f (start + k) x ≡ Ok y → after front (rest_of f start xs k) ≡ each_from f start xs
    → after (front ++ y ∷ []) (rest_of f start xs (k + 1)) ≡ each_from f start xs
each-turn f start xs k x front y within at read so_far =
    let step = rest_of-step f start xs k x within at in
    sym (after-one front y (rest_of f start xs (k + 1))) ∙ ap (after front) (sym (rw read at step)) ∙ so_far

-- one element more, which is refused
pub each-refused : {A B F : Type 0} (f : ℕ → A → Result B F) (start : ℕ) (xs : List A) (k : ℕ) (x : A) (front : List B) (refusal : F) → k < length xs → x ≡ get_or xs k x
    → f (start + k) x ≡ Err refusal → after front (rest_of f start xs k) ≡ each_from f start xs
    → each_from f start xs ≡ Err refusal
each-refused f start xs k x front refusal within at read so_far =
    let step = rest_of-step f start xs k x within at in
    sym so_far ∙ ap (after front) (rw read at step)

-- the elements as they are seen
pub each-map : {A B C F : Type 0} (f : ℕ → C → Result B F) (g : A → C) (start : ℕ) (xs : List A) → each_from f start (map g xs) ≡ each_from (λ k x. f k (g x)) start xs
each-map f g start [] = refl
each-map f g start (x ∷ xs) = ap (λ rest. f start (g x) >>= (λ y. rest >>= (λ ys. Ok (y ∷ ys)))) (each-map f g (start + 1) xs)
