-- After t steps the prices are the least that minimise a convex function over all prices within t of the opening; where no set
-- leads to a lower value, they are the least that minimise it over all prices from the opening on.
use Rattle.std.proofs.Common.{◌≡◌, ℕ, ◌+◌, ◌≤◌, List, [], ◌∷◌, length, arith, ap, sym, ◌∙◌}
use Rattle.std.specs.Prelude.{ℤ, ◌≤ℤ◌}
use Rattle.std.proofs.lemmas.Int.{ints}
use Prim.Native.Nat.{suc, zero}
use Rattle.lot_base.proofs.Vec.{at-below, at-bits, length-below}
use Rattle.lot_base.proofs.Vectors.{above, join, lower}
use Rattle.lot_base.specs.Goods.{AtMost, at, plus}
use Rattle.lyapunov.proofs.Chosen.{IsSet, Chosen, prices_over, AllChosen, IsFirst, above_start, first_from, rise_at_most}
use Rattle.lyapunov.proofs.Convex.{IsMidConvex, length-above, length-plus, plus-above}
use Rattle.lyapunov.proofs.Entrywise.{AtMost-at, Bits-at, at-join, at-lower, at-rest, at-sum, highest-bounds}
use Rattle.lyapunov.proofs.Lattice.{AtMost-more, AtMost-raised, AtMost-same, AtMost-self, below_of_lower, join-left, lattice, lower-both, lower-left}
use Rattle.lyapunov.proofs.Layers.{layer, least_up}
use Rattle.lyapunov.specs.Paths.{highest}

-- over the prices from the opening o up to t more of each, no others are better
abbrev pub IsBest : List ℕ → ℕ → (List ℕ → ℤ) → List ℕ → Type 0
IsBest o t g p = (r : List ℕ) → AtMost o r → ((k : ℕ) → at r k ≤ at o k + t) → g p ≤ℤ g r

-- where no prices of t rounds are better, a step is no worse than any prices of one round more: layer after layer of what these have beyond is taken off
reach_far : (s : List ℕ) (g : List ℕ → ℤ) → IsMidConvex g → (o : List ℕ) (t : ℕ) (p e : List ℕ) → length p ≡ length s → AtMost o p
    → ((k : ℕ) → at p k ≤ at o k + t) → IsBest o t g p → Chosen s g p e → (n : ℕ) (r : List ℕ) → AtMost p r
    → ((k : ℕ) → at r k ≤ at o k + suc t) → ((k : ℕ) → at r k ≤ at p k + suc n) → g (plus p e) ≤ℤ g r
reach_far s g mid o t p e lp op pt best c zero r pr near w =
    let lr = length-below p r pr in
    let i = c.best (above r p) (Bits-at (above r p) (λ k. let i = w k in omega (arith, at-rest r p k)), length-above r p ∙ sym lr ∙ lp) in
    let j = ap g (plus-above p r pr) in
    omega (arith, ints)
reach_far s g mid o t p e lp op pt best c (suc n) r pr near w =
    let l = layer g mid p r (suc n) pr w in
    let v = l.goods in
    let lv = l.same in
    let gain = l.gain in
    let j = best (plus p v) (AtMost-more o p (plus p v) op (AtMost-raised p v lv)) (λ k. let i = pt k in let m = near k in omega (arith, at-sum p v k, l.is k)) in
    let z = above r v in
    let h = reach_far s g mid o t p e lp op pt best c n z (AtMost-at p z (omega (arith, length-above r v, length-below p r pr)) (λ k. omega (arith, at-rest r v k, l.is k, at-below p r k pr)))
    (λ k. let m = near k in omega (arith, at-rest r v k)) (λ k. let m = w k in omega (arith, at-rest r v k, l.is k)) in
    omega (arith, ints)

best_step : (s : List ℕ) (g : List ℕ → ℤ) → IsMidConvex g → (o : List ℕ) (t : ℕ) (p e : List ℕ) → length p ≡ length s → AtMost o p
    → ((k : ℕ) → at p k ≤ at o k + t) → IsBest o t g p → Chosen s g p e → IsBest o (suc t) g (plus p e)
best_step s g mid o t p e lp op pt best c r or near =
    let l : length p ≡ length r = sym (length-below o p op) ∙ length-below o r or in
    let z = join p r in
    let i = lattice g mid p r l in
    let j = best (lower p r) (lower-both o p r op or) (λ k. let a = pt k in omega (arith, at-lower p r k)) in
    let h = reach_far s g mid o t p e lp op pt best c (highest (above z p)) z (join-left p r l) (λ k. let a = pt k in let b = near k in omega (arith, at-join p r k))
    (λ k. omega (arith, highest-bounds (above z p) k, at-rest z p k)) in
    omega (arith, ints)

best_after : (s : List ℕ) (g : List ℕ → ℤ) → IsMidConvex g → (o : List ℕ) (t : ℕ) (p : List ℕ) (es : List (List ℕ)) → length p ≡ length s
    → AtMost o p → ((k : ℕ) → at p k ≤ at o k + t) → IsBest o t g p → AllChosen s g p es → (m : ℕ) → m ≡ t + length es
    → IsBest o m g (prices_over p es)
best_after s g mid o t p [] lp op pt best h m e = λ r or near. best r or (λ k. let a = near k in omega arith)
best_after s g mid o t p (e ∷ es) lp op pt best h m i =
    let c = h.0 in
    let le = c.set.1 in
    best_after s g mid o (suc t) (plus p e) es (omega (arith, length-plus p e)) (AtMost-more o p (plus p e) op (AtMost-raised p e (omega arith)))
    (λ k. let a = pt k in omega (arith, at-sum p e k, at-bits e k c.set.0)) (best_step s g mid o t p e lp op pt best c) h.1 m (omega arith)

-- the prices after some steps: at most as far above the opening, no others so far are better, and none below are as good
pub record Standing (g : List ℕ → ℤ) (o : List ℕ) (t : ℕ) (p : List ℕ) : Type 0 where
  pub above_opening : AtMost o p
  pub near : (k : ℕ) → at p k ≤ at o k + t
  pub best : IsBest o t g p
  pub first : IsFirst o g p

pub standing : (s : List ℕ) (g : List ℕ → ℤ) → IsMidConvex g → (o : List ℕ) (es : List (List ℕ)) → length o ≡ length s → AllChosen s g o es
    → Standing g o (length es) (prices_over o es)
standing s g mid o es lo steps =
    let start : IsBest o 0 g o = λ r or near. (let e = ap g (AtMost-same o r or (AtMost-at r o (sym (length-below o r or)) (λ k. let i = near k in omega arith))) in omega (arith, ints)) in
    record {
      above_opening = above_start s g o es lo steps;
      near = rise_at_most s g o es steps;
      best = best_after s g mid o 0 o es lo (AtMost-self o) (λ k. omega arith) start steps (length es) (omega arith);
      first = first_from s g mid o es lo steps;
    }

-- prices that are first lie below all others that are no worse, where the join of both is no better than they are
below_others : (g : List ℕ → ℤ) → IsMidConvex g → (o p r : List ℕ) → AtMost o p → IsFirst o g p → AtMost o r → g r ≤ℤ g p
    → g p ≤ℤ g (join p r) → AtMost p r
below_others g mid o p r op first or h j =
    let l : length p ≡ length r = sym (length-below o p op) ∙ length-below o r or in
    let i = lattice g mid p r l in
    below_of_lower p r l (first (lower p r) (lower-both o p r op or) (lower-left p r l) (omega (arith, ints)))

-- the least of the best within t of the opening
pub least_near : (g : List ℕ → ℤ) → IsMidConvex g → (o : List ℕ) (t : ℕ) (p : List ℕ) → Standing g o t p
    → (r : List ℕ) → AtMost o r → ((k : ℕ) → at r k ≤ at o k + t) → g r ≤ℤ g p → AtMost p r
least_near g mid o t p stands r or near h =
    let l : length p ≡ length r = sym (length-below o p stands.above_opening) ∙ length-below o r or in
    let j = stands.best (join p r) (AtMost-more o p (join p r) stands.above_opening (join-left p r l)) (λ k. let a = stands.near k in let b = near k in omega (arith, at-join p r k)) in
    below_others g mid o p r stands.above_opening stands.first or h j

-- no set of goods leads to a lower value
abbrev pub IsStill : List ℕ → (List ℕ → ℤ) → List ℕ → Type 0
IsStill s g p = (e : List ℕ) → IsSet s e → g p ≤ℤ g (plus p e)

pub best_still : (s : List ℕ) (g : List ℕ → ℤ) → IsMidConvex g → (o : List ℕ) (t : ℕ) (p : List ℕ) → length o ≡ length s → Standing g o t p
    → IsStill s g p → (x : List ℕ) → AtMost o x → g p ≤ℤ g x
best_still s g mid o t p lo stands still x ox =
    let lp = length-below o p stands.above_opening in
    let l : length p ≡ length x = sym lp ∙ length-below o x ox in
    let z = join p x in
    let i = lattice g mid p x l in
    let j = stands.best (lower p x) (lower-both o p x stands.above_opening ox) (λ k. let a = stands.near k in omega (arith, at-lower p x k)) in
    let f = least_up g mid p (λ e be le. still e (be, le ∙ sym lp ∙ lo)) (highest (above z p)) z (join-left p x l)
    (λ k. omega (arith, highest-bounds (above z p) k, at-rest z p k)) in
    omega (arith, ints)

pub least_still : (s : List ℕ) (g : List ℕ → ℤ) → IsMidConvex g → (o : List ℕ) (t : ℕ) (p : List ℕ) → length o ≡ length s → Standing g o t p
    → IsStill s g p → (x : List ℕ) → AtMost o x → g x ≤ℤ g p → AtMost p x
least_still s g mid o t p lo stands still x ox h =
    let l : length p ≡ length x = sym (length-below o p stands.above_opening) ∙ length-below o x ox in
    let j = best_still s g mid o t p lo stands still (join p x) (AtMost-more o p (join p x) stands.above_opening (join-left p x l)) in
    below_others g mid o p x stands.above_opening stands.first ox h j
