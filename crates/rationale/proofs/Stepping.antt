-- Prices that rise by a step, and lines of them.
use Rattle.std.proofs.Common.{◌≡◌, ◌≤◌, ◌<◌, ◌+◌, ◌*◌, ℕ, suc, zero, List, [], ◌∷◌, ◌++◌, length, slice_index, take, Some, None, arith, ap, refl, sym, ◌∙◌, get_or-take, length-take-le}
use Rattle.std.specs.Prelude.{Option, IfSome}
use Rattle.lot_base.specs.Goods.{plus}
use Rattle.rationale.specs.Lines.{times, after, along}

-- a sum is known by its places
pub plus_is : (xs ys zs : List ℕ) → length xs ≡ length ys → length xs ≡ length zs → ((k : ℕ) → k < length xs → slice_index xs k + slice_index ys k ≡ slice_index zs k) → plus xs ys ≡ zs
plus_is [] [] [] a b each = refl
plus_is [] (y ∷ ys) zs a b each = absurd (omega arith)
plus_is [] [] (z ∷ zs) a b each = absurd (omega arith)
plus_is (x ∷ xs) [] zs a b each = absurd (omega arith)
plus_is (x ∷ xs) (y ∷ ys) [] a b each = absurd (omega arith)
plus_is (x ∷ xs) (y ∷ ys) (z ∷ zs) a b each =
    let p : x + y ≡ z = each 0 (omega arith) in
    let q = plus_is xs ys zs (omega arith) (omega arith) (λ k inside. each (suc k) (omega arith)) in
    λ i. p i ∷ q i

pub length-times : (t : ℕ) (s : List ℕ) → length (times t s) ≡ length s
length-times t [] = refl
length-times t (a ∷ s) = let i = length-times t s in omega arith

pub length-plus : (xs ys : List ℕ) → length xs ≡ length ys → length (plus xs ys) ≡ length xs
length-plus [] ys e = sym e
length-plus (x ∷ xs) [] e = refl
length-plus (x ∷ xs) (y ∷ ys) e = let i = length-plus xs ys (omega arith) in omega arith

-- before the first step, and after one step more
pub after-0 : (p s : List ℕ) → length p ≡ length s → after p s 0 ≡ p
after-0 [] [] e = refl
after-0 [] (a ∷ s) e = absurd (omega arith)
after-0 (x ∷ p) [] e = refl
after-0 (x ∷ p) (a ∷ s) e = let h : x + 0 * a ≡ x = omega arith in let i = after-0 p s (omega arith) in λ j. h j ∷ i j

pub after-more : (p s : List ℕ) (t : ℕ) → length p ≡ length s → after p s (t + 1) ≡ plus (after p s t) s
after-more [] [] t e = refl
after-more [] (a ∷ s) t e = absurd (omega arith)
after-more (x ∷ p) [] t e = absurd (omega arith)
after-more (x ∷ p) (a ∷ s) t e =
    let m : (t + 1) * a ≡ t * a + a = grind arith in
    let h : x + (t + 1) * a ≡ x + t * a + a = omega (arith, m) in
    let i = after-more p s t (omega arith) in
    λ j. h j ∷ i j

pub length-after : (p s : List ℕ) (t : ℕ) → length p ≡ length s → length (after p s t) ≡ length p
length-after p s t e = length-plus p (times t s) (e ∙ sym (length-times t s))

-- along the same numbers there are the same elements
pub along_same : {A : Type 0} (f g : ℕ → A) (n : ℕ) → ((t : ℕ) → t < n → f t ≡ g t) → along f n ≡ along g n
along_same f g zero each = refl
along_same f g (suc n) each =
    let i = along_same f g n (λ t inside. each t (omega arith)) in
    let e = each n (omega arith) in
    λ j. i j ++ e j ∷ []

pub along-more : {A : Type 0} (f : ℕ → A) (n : ℕ) → along f (n + 1) ≡ along f n ++ f n ∷ []
along-more {A} f n = let e : n + 1 ≡ suc n = omega arith in ap (λ (k : ℕ). along f k) e

-- what rises from some prices to others
pub rises : (from to cells : List ℕ) (n : ℕ) → length from ≡ n → length to ≡ n → n ≤ length cells →
    ((k : ℕ) → k < n → slice_index from k + slice_index cells k ≡ slice_index to k) → plus from (take n cells) ≡ to
rises from to cells n long high enough each = plus_is from (take n cells) to (long ∙ sym (length-take-le n cells enough)) (long ∙ sym high)
    (λ k inside. (let a = each k (omega arith) in let h : k < n = omega arith in let b = get_or-take n cells k 0 h in omega arith))

pub sum_read : (r : Option (List ℕ)) (from to cells : List ℕ) (n : ℕ) → IfSome r (λ p. (p ≡ take n cells) × (1 ≤ length (take n cells)) × (length (take n cells) ≤ 6)) →
    length from ≡ n → length to ≡ n → n ≤ length cells → ((k : ℕ) → k < n → slice_index from k + slice_index cells k ≡ slice_index to k) →
    IfSome r (λ step. plus from step ≡ to)
sum_read None from to cells n read long high enough each = tt
sum_read (Some p) from to cells n read long high enough each = ap (plus from) read.0 ∙ rises from to cells n long high enough each
