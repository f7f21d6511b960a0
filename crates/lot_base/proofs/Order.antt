-- The place of a bundle in the box: it is below the number of bundles, and it grows with the lexicographic order.
use Rattle.std.proofs.Common.{◌≡◌, ◌<◌, ◌≤◌, ℕ, ◌+◌, ◌*◌, true, false, List, [], ◌∷◌, arith, refl, ap}
use Rattle.std.specs.Cmp.Lexicographic.{slice_cmp}
use Rattle.std.specs.Ordering.{nat_cmp, ordering_then, is_lt}
use Rattle.std.specs.declared.cmp.Ordering.{Ordering}
use Rattle.std.specs.declared.cmp.Ordering.TheVariants.{Less, Equal, Greater}
use Rattle.std.proofs.lemmas.Bool.Decides.{nat_tests}
use Rattle.std.proofs.Math.Nat.{mul-le-mul_right}
use Rattle.lot_base.specs.Goods.{box_size, is_within}
use Rattle.lot_base.specs.Box.{index_of}
use Rattle.lot_base.proofs.Within.{within-first, within-short, within-long}

pub box_size-some : (supply : List ℕ) → 1 ≤ box_size supply
box_size-some [] = omega arith
box_size-some (s ∷ supply) = let r = box_size-some supply in let m : 1 * box_size supply ≤ (s + 1) * box_size supply = (let u : 1 ≤ s + 1 = omega arith in mul-le-mul_right (box_size supply) u) in omega (arith, r, m)

pub index_of-below : (supply bundle : List ℕ) → is_within supply bundle ≡ true → index_of supply bundle < box_size supply
index_of-below [] bundle e = omega arith
index_of-below (s ∷ supply) [] e = absurd (within-short s supply e)
index_of-below (s ∷ supply) (x ∷ bundle) e =
    let h = within-first s x supply bundle e in
    let r = index_of-below supply bundle h.1 in
    let m : (x + 1) * box_size supply ≤ (s + 1) * box_size supply = (let u : x + 1 ≤ s + 1 = omega (arith, h.0) in mul-le-mul_right (box_size supply) u) in
    omega (arith, r, m)

-- the first numbers decide, or the others do
pub less-cases : (o p : Ordering) → ordering_then o p ≡ Less → (P : Type 0) → (o ≡ Less → P) → (o ≡ Equal → p ≡ Less → P) → P
less-cases Less p e P f g = f refl
less-cases Equal p e P f g = g refl e
less-cases Greater p e P f g = absurd (let h : Greater ≡ Less = e in cc)

pub index_of-less : (supply xs ys : List ℕ) → is_within supply xs ≡ true → is_within supply ys ≡ true → slice_cmp nat_cmp xs ys ≡ Less → index_of supply xs < index_of supply ys
index_of-less [] [] [] e f less = absurd (let h : Equal ≡ Less = less in cc)
index_of-less [] (x ∷ xs) ys e f less = absurd (within-long x xs e)
index_of-less [] [] (y ∷ ys) e f less = absurd (within-long y ys f)
index_of-less (s ∷ supply) [] ys e f less = absurd (within-short s supply e)
index_of-less (s ∷ supply) (x ∷ xs) [] e f less = absurd (within-short s supply f)
index_of-less (s ∷ supply) (x ∷ xs) (y ∷ ys) e f less =
    let h = within-first s x supply xs e in
    let k = within-first s y supply ys f in
    let r = index_of-below supply xs h.1 in
    let ih = index_of-less supply xs ys h.1 k.1 in
    less-cases (nat_cmp x y) (slice_cmp nat_cmp xs ys) less (x * box_size supply + index_of supply xs < y * box_size supply + index_of supply ys)
    (λ l. let u : x + 1 ≤ y = grind (arith, nat_tests) in let m : (x + 1) * box_size supply ≤ y * box_size supply = mul-le-mul_right (box_size supply) u in omega (arith, r, m))
    (λ q rest. let u : x ≡ y = grind (arith, nat_tests) in let m : x * box_size supply ≡ y * box_size supply = ap (λ n. n * box_size supply) u in omega (arith, ih rest, m))

-- the test of the order
pub is_lt-less : (o : Ordering) → is_lt o ≡ true → o ≡ Less
is_lt-less Less e = refl
is_lt-less Equal e = absurd (let f : false ≡ true = e in cc)
is_lt-less Greater e = absurd (let f : false ≡ true = e in cc)
