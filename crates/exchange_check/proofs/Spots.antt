use Rattle.std.proofs.Common.{◌≡◌, ℕ, ◌+◌, ◌-◌, ◌≤◌, ◌<◌, ◌≢◌, List, length, arith, ap, ◌∙◌}
use Rattle.std.specs.Prelude.{◌↔◌, slice_index}
use Rattle.std.proofs.lemmas.Int.{ints}
use Rattle.lot_base.specs.Goods.{at, one_more, one_less, box_size}
use Rattle.lot_base.specs.Economy.{NoWorse}
use Rattle.lot_base.specs.Box.{bundle_at, index_of}
use Rattle.valuation.specs.Values.{valuation_of}
use Rattle.lot_base.specs.Strides.{AreStrides}
use Rattle.exchange_check.specs.Local.{AreFree}
use Rattle.lot_base.proofs.Vec.{length-below, length-one_more, at-up_other}
use Rattle.exchange_check.proofs.Points.{length-down}
use Rattle.lot_base.proofs.Exchange.{moved_one, moved_two}
use Rattle.lot_base.proofs.Index.{index_of-bundle_at, index_of-small}
use Rattle.lot_base.proofs.Strides.{index-up, index-down}
use Rattle.exchange_check.proofs.AtPlace.{AtMost-bundle_at}

-- of a good of which x leaves less than y, x has more
pub more_of : (s free_x free_y : List ℕ) (x y k : ℕ) → AreFree s x free_x → AreFree s y free_y → k < length s → slice_index free_x k < slice_index free_y k
    → at (bundle_at s y) k < at (bundle_at s x) k
more_of s free_x free_y x y k in_x in_y hk h =
    let e = in_x k hk in
    let f = in_y k hk in
    omega arith

no_worse_is : (s v x' y' : List ℕ) (x y m n : ℕ) → x < box_size s → y < box_size s → index_of s x' ≡ m → index_of s y' ≡ n
    → (at v x + at v y ≤ at v m + at v n) ↔ NoWorse (valuation_of s v) (bundle_at s x) (bundle_at s y) x' y'
no_worse_is s v x' y' x y m n hx hy e f =
    let e1 = ap (at v) (index_of-bundle_at s x hx) in
    let e2 = ap (at v) (index_of-bundle_at s y hy) in
    let e3 = ap (at v) e in
    let e4 = ap (at v) f in
    ((λ t. omega (arith, ints)), (λ t. omega (arith, ints)))

-- the places of the bundles after a unit of k went from x to y; a is how far apart the places of two bundles are that differ by it
pub record Alone (s : List ℕ) (x y k a : ℕ) : Type 0 where
  pub room : a ≤ x
  pub less : index_of s (one_less (bundle_at s x) k) ≡ x - a
  pub more : index_of s (one_more (bundle_at s y) k) ≡ y + a
  pub more_in : y + a < box_size s
  pub value : (v : List ℕ) → (at v x + at v y ≤ at v (x - a) + at v (y + a))
      ↔ NoWorse (valuation_of s v) (bundle_at s x) (bundle_at s y) (one_less (bundle_at s x) k) (one_more (bundle_at s y) k)

pub alone : (s strides : List ℕ) (x y k : ℕ) → AreStrides s strides → x < box_size s → y < box_size s → k < length s
    → at (bundle_at s y) k < at (bundle_at s x) k → Alone s x y k (slice_index strides k)
alone s strides x y k far hx hy hk h =
    let a = bundle_at s x in
    let b = bundle_at s y in
    let c = slice_index strides k in
    let g = far k hk in
    let ba = AtMost-bundle_at s x hx in
    let bb = AtMost-bundle_at s y hy in
    let m = moved_one s a b k ba bb h in
    let ea = index_of-bundle_at s x hx in
    let eb = index_of-bundle_at s y hy in
    let d = index-down s a k (length-below a s ba) (omega arith) in
    let e = index-up s b k (length-below b s bb) hk in
    let f = index_of-small s (one_more b k) m.in_y in
    let less : index_of s (one_less a k) ≡ x - c = omega arith in
    let more : index_of s (one_more b k) ≡ y + c = omega arith in
    record {
      room = omega arith;
      less = less;
      more = more;
      more_in = omega arith;
      value = λ v. no_worse_is s v (one_less a k) (one_more b k) x y (x - c) (y + c) hx hy less more;
    }

-- and after one of l came back for it; b is its distance
pub record ForOther (s : List ℕ) (x y k l a b : ℕ) : Type 0 where
  pub room_x : a ≤ x
  pub less_in : (x - a) + b < box_size s
  pub above_in : y + a < box_size s
  pub room_y : b ≤ y + a
  pub value : (v : List ℕ) → (at v x + at v y ≤ at v ((x - a) + b) + at v ((y + a) - b))
      ↔ NoWorse (valuation_of s v) (bundle_at s x) (bundle_at s y) (one_more (one_less (bundle_at s x) k) l) (one_less (one_more (bundle_at s y) k) l)

pub for_other : (s strides : List ℕ) (x y k l : ℕ) → AreStrides s strides → x < box_size s → y < box_size s → k < length s → l < length s
    → at (bundle_at s y) k < at (bundle_at s x) k → at (bundle_at s x) l < at (bundle_at s y) l
    → ForOther s x y k l (slice_index strides k) (slice_index strides l)
for_other s strides x y k l far hx hy hk hl h i =
    let a = bundle_at s x in
    let b = bundle_at s y in
    let p = slice_index strides k in
    let q = slice_index strides l in
    let g = far l hl in
    let ba = AtMost-bundle_at s x hx in
    let bb = AtMost-bundle_at s y hy in
    let o = alone s strides x y k far hx hy hk h in
    let m = moved_two s a b k l ba bb h i in
    let n = other a b k l h i in
    let la = length-below a s ba in
    let lb = length-below b s bb in
    let c = at-up_other b k l n in
    let d = index-up s (one_less a k) l (length-down a k ∙ la) hl in
    let e = index-down s (one_more b k) l (length-one_more b k ∙ lb) (omega arith) in
    let f = index_of-small s (one_more (one_less a k) l) m.in_x in
    let o0 = o.room in
    let o1 = o.less in
    let o2 = o.more in
    let less : index_of s (one_more (one_less a k) l) ≡ (x - p) + q = omega arith in
    let more : index_of s (one_less (one_more b k) l) ≡ (y + p) - q = omega arith in
    record {
      room_x = o0;
      less_in = omega arith;
      above_in = o.more_in;
      room_y = omega arith;
      value = λ v. no_worse_is s v (one_more (one_less a k) l) (one_less (one_more b k) l) x y ((x - p) + q) ((y + p) - q) hx hy less more;
    }
  where
    other : (x y : List ℕ) (k l : ℕ) → at y k < at x k → at x l < at y l → l ≢ k
    other x y k l h i e = absurd (omega (arith, ap (at x) e, ap (at y) e))
