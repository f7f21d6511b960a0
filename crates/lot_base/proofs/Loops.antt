-- Sums, least values and raises over what is left of a list.
use Rattle.std.proofs.Common.{◌≡◌, ℕ, ◌+◌, ◌*◌, ◌-◌, ◌/◌, ◌%◌, ◌≤◌, ◌<◌, List, [], ◌∷◌, length, arith, refl, get_or, drop, drop-cons, add-one, set, take, ◌++◌, append_assoc, ap}
use Rattle.std.proofs.lemmas.List.{take_more_set}
use Prim.Native.Nat.{suc, zero, min}
use Rattle.lot_base.specs.Goods.{cost, at, plus}
use Rattle.lot_base.proofs.Vectors.{set_of, Bits}
use Rattle.std.specs.Prelude.{fold}

pub dot_rest : (p x : List ℕ) (i : ℕ) → i < length p → i < length x → cost (drop i p) (drop i x) ≡ get_or p i 0 * get_or x i 0 + cost (drop (i + 1) p) (drop (i + 1) x)
dot_rest p x i h k = rw (drop-cons p i 0 h, drop-cons x i 0 k, add-one)

pub dot_end : (p x : List ℕ) (i : ℕ) → length p ≤ i → cost (drop i p) x ≡ 0
dot_end [] x zero h = refl
dot_end [] x (suc i) h = refl
dot_end (a ∷ p) x zero h = absurd (omega arith)
dot_end (a ∷ p) x (suc i) h = let j : length p ≤ i = omega arith in dot_end p x i j

pub quantity_rest : (xs : List ℕ) (i r : ℕ) → i < length xs → cost (set_of (length xs - i) r) (drop i xs) ≡ (r % 2) * get_or xs i 0 + cost (set_of (length xs - (i + 1)) (r / 2)) (drop (i + 1) xs)
unfolding set_of
quantity_rest xs i r h = let e : length xs - i ≡ suc (length xs - (i + 1)) = omega arith in rw (e, drop-cons xs i 0 h, add-one)

pub least_rest : (f : List ℕ → ℕ) (b : ℕ) (xs : List (List ℕ)) (i : ℕ) → i < length xs → fold (λ a y. min a (f y)) b (drop i xs) ≡ fold (λ a y. min a (f y)) (min b (f (get_or xs i []))) (drop (i + 1) xs)
least_rest f b xs i h = rw (drop-cons xs i [] h, add-one)

pub Bits-set_of : (n e : ℕ) → Bits (set_of n e)
unfolding set_of
Bits-set_of zero e = tt
Bits-set_of (suc n) e = (omega arith, Bits-set_of n (e / 2))

pub least_end : (f : List ℕ → ℕ) (b : ℕ) (xs : List (List ℕ)) (i : ℕ) → length xs ≤ i → fold (λ a y. min a (f y)) b (drop i xs) ≡ b
least_end f b [] zero h = refl
least_end f b [] (suc i) h = refl
least_end f b (x ∷ xs) zero h = absurd (omega arith)
least_end f b (x ∷ xs) (suc i) h = let j : length xs ≤ i = omega arith in least_end f b xs i j

pub dot_past : (e xs : List ℕ) (i : ℕ) → length xs ≤ i → cost e (drop i xs) ≡ 0
dot_past [] xs i h = refl
dot_past (c ∷ e) [] zero h = refl
dot_past (c ∷ e) [] (suc i) h = refl
dot_past (c ∷ e) (a ∷ x) zero h = absurd (omega arith)
dot_past (c ∷ e) (a ∷ x) (suc i) h = let j : length x ≤ i = omega arith in dot_past (c ∷ e) x i j

pub within-at : (x : List ℕ) (k : ℕ) → 0 < at x k → k < length x
within-at [] k h = absurd (omega arith)
within-at (a ∷ x) zero h = omega arith
within-at (a ∷ x) (suc k) h = let i = within-at x k h in omega arith

after-set : (xs : List ℕ) (i v : ℕ) → drop (suc i) (set xs i v) ≡ drop (suc i) xs
after-set [] i v = refl
after-set (x ∷ xs) zero v = refl
after-set (x ∷ xs) (suc i) v = after-set xs i v

-- what is written so far, and what is to come
pub raise_more : (old now : List ℕ) (i n r : ℕ) → i < length now → take i now ++ plus (drop i now) (set_of (n - i) r) ≡ old → i < n
    → take (i + 1) (set now i (get_or now i 0 + r % 2)) ++ plus (drop (i + 1) (set now i (get_or now i 0 + r % 2))) (set_of (n - (i + 1)) (r / 2)) ≡ old
unfolding set_of
raise_more old now i n r h e k =
    let v = get_or now i 0 + r % 2 in
    let f : n - i ≡ suc (n - suc i) = omega arith in
    let g = rw (f, drop-cons now i 0 h) at e in
    rw (take_more_set now i v h, add-one, after-set now i v) (rw (append_assoc) g)

pub raise_done : (now : List ℕ) (i n r : ℕ) → length now ≤ i → n ≡ 0 → now ≡ take i now ++ plus (drop i now) (set_of n r)
unfolding set_of
raise_done now i n r h z = rw z (end now i h)
  where
    end : (xs : List ℕ) (i : ℕ) → length xs ≤ i → xs ≡ take i xs ++ plus (drop i xs) []
    end [] zero h = refl
    end [] (suc i) h = refl
    end (x ∷ xs) zero h = absurd (omega arith)
    end (x ∷ xs) (suc i) h = let j : length xs ≤ i = omega arith in ap (λ t. x ∷ t) (end xs i j)
