-- On the way down each step lowers the Lyapunov function by the shortfall of its set, and the end is at its minimum.
use Rattle.std.proofs.Common.{◌≡◌, ◌≢◌, ◌≤◌, ℕ, ◌+◌, ◌-◌, List, [], ◌∷◌, length, refl, sym, ◌∙◌, ap, subst, arith}
use Rattle.std.specs.Prelude.{ℤ, pos, ◌+ℤ◌, ◌-ℤ◌, ◌≤ℤ◌, min}
use Rattle.std.proofs.lemmas.Int.{ints, by_lt_z}
use Rattle.std.proofs.lemmas.Nat.{pow_pos}
use Rattle.lot_base.specs.Goods.{quantity_in, at, cost, plus, lowered, AtMost, AllPriced}
use Rattle.lot_base.specs.Demands.{greatest}
use Rattle.lot_base.specs.Economy.{indirect_utility, demand, sum_over, total_units, AllStrongSubstitutes, lyapunov, IsMinimiser}
use Rattle.lot_base.proofs.Vectors.{set_of, above, lower}
use Rattle.lot_base.proofs.Vec.{cost-plus_left, length-below}
use Rattle.lot_base.proofs.Loops.{Bits-set_of}
use Rattle.lot_base.proofs.Sets.{quantity_in-cost, raised-plus, raised-reduced, greatest_step, length-set_of, size_of-some}
use Rattle.lyapunov.specs.Paths.{true_step}
use Rattle.lyapunov.proofs.Descent.{lyapunov-convex}
use Rattle.lyapunov.proofs.Digits.{still, number_of}
use Rattle.lot_base.proofs.Cells.{length-lowered}
use Rattle.overshoot.specs.Shortfall.{shortfall, AllRisen}
use Rattle.overshoot.proofs.Most.{risen-none, size-none}
use Rattle.two_way.specs.Falling.{true_fall, lesser, IsHeld}
use Rattle.two_way.proofs.Sinking.{Sunk, IsHeldBy, held_turn, held_step, least_turned, floor_kept}
use Rattle.two_way.proofs.FallSets.{IsFallSet, fall-is, risen-at, at-risen, priced-risen, lowered-above, lowered-none, shortfall-none}

sum-greatest : (s : List ℕ) (u : ℕ → List ℕ → ℤ) (js : List ℕ) → AllStrongSubstitutes s u js → (p : List ℕ) (set : ℕ) → length p ≡ length s → AllPriced p set
    → pos (total_units (λ j. greatest (demand s (u j) p) set) js) ≡ sum_over (λ j. indirect_utility s (u j) (lowered p set)) js -ℤ sum_over (λ j. indirect_utility s (u j) p) js
sum-greatest s u [] strong p set same priced = omega (arith, ints)
sum-greatest s u (j ∷ js) strong p set same priced =
    let i = sum-greatest s u js strong.1 p set same priced in
    let k = greatest_step s (u j) p set strong.0 same priced in
    omega (arith, ints)

cost-lowered : (s p : List ℕ) (set : ℕ) → length p ≡ length s → AllPriced p set → cost p s ≡ cost (lowered p set) s + quantity_in s set
cost-lowered s p set same priced =
    let low = lowered p set in
    let n : length low ≡ length s = length-lowered p set ∙ same in
    let e : plus low (set_of (length s) set) ≡ p = ap (λ m. plus low (set_of m set)) (sym n) ∙ sym (raised-plus low set) ∙ raised-reduced p set priced in
    let c = ap (λ q. cost q s) e in
    omega (arith, cost-plus_left low (set_of (length s) set) s, quantity_in-cost s set)

-- the shortfall of a set is what lowering its prices takes off the function
pub shortfall-is : (s : List ℕ) (u : ℕ → List ℕ → ℤ) (js : List ℕ) → AllStrongSubstitutes s u js → (p : List ℕ) (set : ℕ) → length p ≡ length s → AllPriced p set
    → shortfall s (λ j. demand s (u j) p) js set ≡ lyapunov s u js p -ℤ lyapunov s u js (lowered p set)
unfolding lyapunov
shortfall-is s u js strong p set same priced =
    let i = sum-greatest s u js strong p set same priced in
    let k = cost-lowered s p set same priced in
    omega (arith, ints)

lowered-digits : (s p f : List ℕ) (set : ℕ) → length p ≡ length s → set_of (length s) set ≡ f → lowered p set ≡ above p f
lowered-digits s p f set same is = lowered-above p set ∙ ap (λ n. above p (set_of n set)) same ∙ ap (above p) is

shortfall-digits : (s : List ℕ) (u : ℕ → List ℕ → ℤ) (js : List ℕ) → AllStrongSubstitutes s u js → (o p f : List ℕ) (set : ℕ) → length p ≡ length s → length o ≡ length p
    → AllRisen o p set → set_of (length s) set ≡ f → shortfall s (λ j. demand s (u j) p) js set ≡ lyapunov s u js p -ℤ lyapunov s u js (above p f)
shortfall-digits s u js strong o p f set same opens risen is =
    shortfall-is s u js strong p set same (priced-risen o p set opens risen) ∙ ap (λ q. lyapunov s u js p -ℤ lyapunov s u js q) (lowered-digits s p f set same is)

no-more : (x y a b l : ℤ) → x ≡ l -ℤ a → y ≡ l -ℤ b → y ≤ℤ x → a ≤ℤ b
no-more x y a b l e f h = omega (arith, ints)

pub fall-sunk : (s : List ℕ) (u : ℕ → List ℕ → ℤ) (js : List ℕ) → AllStrongSubstitutes s u js → (o p : List ℕ) (set : ℕ) → length p ≡ length s → length o ≡ length p
    → IsFallSet (length s) o p (shortfall s (λ j. demand s (u j) p) js) set → Sunk s (lyapunov s u js) o p (set_of (length s) set)
fall-sunk s u js strong o p set same opens fall =
    let e = set_of (length s) set in
    let f = shortfall s (λ j. demand s (u j) p) js in
    let P : ℕ → Type 0 = λ n. (k : ℕ) → at (set_of n set) k ≤ at p k - at o k in
    record {
      free = ((Bits-set_of (length s) set, length-set_of (length s) set), subst P same (λ k. risen-at o p set k opens fall.risen));
      best = λ x free.
          let n = number_of s x free.0 in
          let there : (k : ℕ) → at (set_of (length p) n.number) k ≤ at p k - at o k = λ k. (let i = free.1 k in let z = ap (λ m. at (set_of m n.number) k) same ∙ ap (λ y. at y k) n.is in omega (arith, i, z)) in
          let risen = at-risen o p n.number there in
          no-more (f set) (f n.number) (lyapunov s u js (above p e)) (lyapunov s u js (above p x)) (lyapunov s u js p)
          (shortfall-digits s u js strong o p e set same opens fall.risen refl) (shortfall-digits s u js strong o p x n.number same opens risen n.is)
          (fall.furthest n.number n.below risen);
    }

-- a fall set that is not empty has a shortfall of at least 1: else the empty set, which has none, would be chosen
short-some : (goods : ℕ) (o p : List ℕ) (f : ℕ → ℤ) (set : ℕ) → f 0 ≡ pos 0 → IsFallSet goods o p f set → set ≢ 0 → pos 1 ≤ℤ f set
short-some goods o p f set none fall some = by_lt_z (pos 0) (f set)
    (λ lt. omega (arith, ints))
    (λ le. absurd (
    let most = fall.furthest 0 (pow_pos goods) (risen-none o p) in
    let same : f 0 ≡ f set = between (f 0) (f set) none most le in
    let few = fall.fewest 0 (pow_pos goods) (risen-none o p) same in
    omega (arith, few, size-none goods, size_of-some goods set fall.is_set some)))
  where
    between : (a b : ℤ) → a ≡ pos 0 → a ≤ℤ b → b ≤ℤ pos 0 → a ≡ b
    between a b e h i = omega (arith, ints)

pub falls : (s : List ℕ) (u : ℕ → List ℕ → ℤ) (js : List ℕ) → AllStrongSubstitutes s u js → (o p : List ℕ) → length p ≡ length s → AtMost o p → true_fall s o u js p ≢ 0
    → (lyapunov s u js (lowered p (true_fall s o u js p)) +ℤ pos 1) ≤ℤ lyapunov s u js p
falls s u js strong o p same above some =
    let set = true_fall s o u js p in
    let fall = fall-is s o p (λ j. demand s (u j) p) js in
    let f = shortfall s (λ j. demand s (u j) p) js in
    let is = shortfall-is s u js strong p set same (priced-risen o p set (length-below o p above) fall.risen) in
    let one = short-some (length s) o p f set (shortfall-none s (λ j. demand s (u j) p) js) fall some in
    least-one (f set) (lyapunov s u js p) (lyapunov s u js (lowered p set)) is one
  where
    least-one : (x a b : ℤ) → x ≡ a -ℤ b → pos 1 ≤ℤ x → (b +ℤ pos 1) ≤ℤ a
    least-one x a b e h = omega (arith, ints)

-- the goodwise lesser, in the words of the definitions and of the proofs
pub lesser-lower : (p q : List ℕ) → lesser p q ≡ lower p q
lesser-lower [] q = refl
lesser-lower (a ∷ p) [] = refl
lesser-lower (a ∷ p) (b ∷ q) = ap (λ r. min a b ∷ r) (lesser-lower p q)

held-from : (o p : List ℕ) (g : List ℕ → ℤ) → AtMost o p → IsHeldBy o g p → IsHeld o g p
held-from o p g above held = record { above = above; lesser_no_worse = λ q oq. let P : List ℕ → Type 0 = λ r. g r ≤ℤ g q in subst P (sym (lesser-lower p q)) (held q oq) }

from-held : (o p : List ℕ) (g : List ℕ → ℤ) → IsHeld o g p → IsHeldBy o g p
from-held o p g held q oq = let P : List ℕ → Type 0 = λ r. g r ≤ℤ g q in subst P (lesser-lower p q) (held.lesser_no_worse q oq)

-- where the way up has ended, some minimum lies below
pub held-start : (s : List ℕ) (u : ℕ → List ℕ → ℤ) (js : List ℕ) → AllStrongSubstitutes s u js → (o p : List ℕ) → length p ≡ length s → AtMost o p → true_step s u js p ≡ 0
    → IsHeld o (lyapunov s u js) p
held-start s u js strong o p same above none =
    held-from o p (lyapunov s u js) above (held_turn (lyapunov s u js) (lyapunov-convex s u js strong) o p above (λ e bits l. still s u js strong p same none e (bits, l ∙ same)))

-- each step down keeps this
pub held-next : (s : List ℕ) (u : ℕ → List ℕ → ℤ) (js : List ℕ) → AllStrongSubstitutes s u js → (o p : List ℕ) → length p ≡ length s → IsHeld o (lyapunov s u js) p
    → IsHeld o (lyapunov s u js) (lowered p (true_fall s o u js p))
held-next s u js strong o p same held =
    let g = lyapunov s u js in
    let set = true_fall s o u js p in
    let e = set_of (length s) set in
    let sunk = fall-sunk s u js strong o p set same (length-below o p held.above) (fall-is s o p (λ j. demand s (u j) p) js) in
    let next = held-from o (above p e) g (floor_kept s o p e held.above sunk.free) (held_step s g (lyapunov-convex s u js strong) o p e same held.above sunk (from-held o p g held)) in
    subst (IsHeld o g) (sym (lowered-digits s p e set same refl)) next

-- where the way down has ended, the prices minimise the function
pub held-end : (s : List ℕ) (u : ℕ → List ℕ → ℤ) (js : List ℕ) → AllStrongSubstitutes s u js → (o p : List ℕ) → length p ≡ length s → IsHeld o (lyapunov s u js) p → true_fall s o u js p ≡ 0
    → IsMinimiser o (lyapunov s u js) p
held-end s u js strong o p same held none =
    let g = lyapunov s u js in
    let set = true_fall s o u js p in
    let sunk = fall-sunk s u js strong o p set same (length-below o p held.above) (fall-is s o p (λ j. demand s (u j) p) js) in
    let here = ap g (sym (lowered-digits s p (set_of (length s) set) set same refl) ∙ ap (lowered p) none ∙ lowered-none p) in
    (held.above, λ q oq. least_turned s g (lyapunov-convex s u js strong) o p same held.above (from-held o p g held) (λ f free. equal (g (above p (set_of (length s) set))) (g p) (g (above p f)) here (sunk.best f free)) q oq)
  where
    equal : (a b c : ℤ) → a ≡ b → a ≤ℤ c → b ≤ℤ c
    equal a b c e h = omega (arith, ints)
