-- The next bundle of a box: one unit more of the last good of which there is more, and nothing of the goods after it.
use Rattle.std.proofs.Common.{◌≡◌, ◌<◌, ◌≤◌, ℕ, zero, suc, ◌+◌, ◌*◌, List, [], ◌∷◌, length, slice_index, arith, ap, refl, sym, ◌∙◌, subst}
use Rattle.lot_base.specs.Goods.{box_size, AtMost}
use Rattle.lot_base.specs.Box.{index_of, bundle_at}
use Rattle.lot_base.proofs.Index.{index_of-bundle_at, bundle_at-index_of, bundle_at-within}

-- a bundle of all units is the last one
last-index : (s x : List ℕ) → AtMost x s → ((k : ℕ) → slice_index s k ≤ slice_index x k) → index_of s x + 1 ≡ box_size s
last-index [] [] within full = refl
last-index [] (q ∷ x) within full = absurd within
last-index (a ∷ s) [] within full = absurd within
last-index (a ∷ s) (q ∷ x) within full =
    let rest = last-index s x within.1 (λ k. full (suc k)) in
    let low = full 0 in
    let high = within.0 in
    let here : q ≡ a = omega (arith, low, high) in
    let product : q * box_size s ≡ a * box_size s = ap (λ n. n * box_size s) here in
    omega (arith, rest, product)

-- one without units is the first one
first-index : (s y : List ℕ) → length y ≡ length s → ((k : ℕ) → slice_index y k ≡ 0) → AtMost y s × (index_of s y ≡ 0)
first-index [] [] long none = (tt, refl)
first-index [] (r ∷ y) long none = absurd (omega (arith, long))
first-index (a ∷ s) [] long none = absurd (omega (arith, long))
first-index (a ∷ s) (r ∷ y) long none =
    let rest = first-index s y (omega (arith, long)) (λ k. none (suc k)) in
    let here : r ≡ 0 = none 0 in
    let product : r * box_size s ≡ 0 * box_size s = ap (λ n. n * box_size s) here in
    let index = rest.1 in
    ((let low : r ≤ a = omega (arith, here) in low, rest.0), omega (arith, index, product))

-- how the quantities y follow on the quantities x, by the good that gets a unit more
pub record Follows (s x y : List ℕ) (good : ℕ) : Type 0 where
  pub long : length y ≡ length s
  pub inside : good < length s
  pub less : slice_index x good < slice_index s good
  pub before : (k : ℕ) → k < good → slice_index y k ≡ slice_index x k
  pub more : slice_index y good ≡ slice_index x good + 1
  pub behind : (k : ℕ) → good < k → slice_index y k ≡ 0
  pub full : (k : ℕ) → good < k → slice_index s k ≤ slice_index x k

next-index : (s x y : List ℕ) (good : ℕ) → AtMost x s → Follows s x y good → AtMost y s × (index_of s y ≡ index_of s x + 1)
next-index [] x y good within f = absurd (let i = f.inside in omega (arith, i))
next-index (a ∷ s) [] y good within f = absurd within
next-index (a ∷ s) (q ∷ x) [] good within f = absurd (let l = f.long in omega (arith, l))
next-index (a ∷ s) (q ∷ x) (r ∷ y) zero within f =
    let l = f.long in
    let rest = first-index s y (omega (arith, l)) (λ k. f.behind (suc k) (omega arith)) in
    let last = last-index s x within.1 (λ k. f.full (suc k) (omega arith)) in
    let here : r ≡ q + 1 = f.more in
    let less : q < a = f.less in
    let product : r * box_size s ≡ (q + 1) * box_size s = ap (λ n. n * box_size s) here in
    let index = rest.1 in
    ((let low : r ≤ a = omega (arith, here, less) in low, rest.0), omega (arith, index, last, product))
next-index (a ∷ s) (q ∷ x) (r ∷ y) (suc good) within f =
    let l = f.long in
    let i = f.inside in
    let rest = next-index s x y good within.1 (record {
      long = omega (arith, l);
      inside = omega (arith, i);
      less = f.less;
      before = λ k below. f.before (suc k) (omega (arith, below));
      more = f.more;
      behind = λ k above. f.behind (suc k) (omega (arith, above));
      full = λ k above. f.full (suc k) (omega (arith, above));
    }) in
    let here : r ≡ q = f.before 0 (omega arith) in
    let high = within.0 in
    let product : r * box_size s ≡ q * box_size s = ap (λ n. n * box_size s) here in
    let index = rest.1 in
    ((let low : r ≤ a = omega (arith, here, high) in low, rest.0), omega (arith, index, product))

pub next-bundle : (s x y : List ℕ) (good place : ℕ) → place + 1 < box_size s → x ≡ bundle_at s place → Follows s x y good → y ≡ bundle_at s (place + 1)
next-bundle s x y good place below is f =
    let inside : place < box_size s = omega (arith, below) in
    let W : List ℕ → Type 0 = λ z. AtMost z s in
    let within : AtMost x s = subst W (sym is) (bundle_at-within s place inside) in
    let next = next-index s x y good within f in
    let index : index_of s x ≡ place = ap (index_of s) is ∙ index_of-bundle_at s place inside in
    sym (bundle_at-index_of s y next.0) ∙ ap (bundle_at s) (next.1 ∙ ap (λ n. n + 1) index)

-- after the last bundle there is none
pub none-next : (s x : List ℕ) (place : ℕ) → place + 1 < box_size s → x ≡ bundle_at s place → ((k : ℕ) → slice_index s k ≤ slice_index x k) → ⊥
none-next s x place below is full =
    let inside : place < box_size s = omega (arith, below) in
    let W : List ℕ → Type 0 = λ z. AtMost z s in
    let within : AtMost x s = subst W (sym is) (bundle_at-within s place inside) in
    let last = last-index s x within full in
    let index : index_of s x ≡ place = ap (index_of s) is ∙ index_of-bundle_at s place inside in
    omega (arith, below, last, index)
