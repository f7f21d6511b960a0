-- What a bidder gains at the payment of Vickrey, Clarke and Groves: the worth of the allocation less the welfare of the others. It is
-- never less than nothing where the allocation is best, and the payment is never less than the reserve.
use Rattle.std.proofs.Common.{◌≡◌, ℕ, suc, ◌+◌, Bool, true, false, not, cond, nat_eq, List, [], ◌∷◌, length, refl, sym, ◌∙◌, ap, arith, subst}
use Rattle.std.specs.Prelude.{if◌then◌else◌, ◌==◌, ℤ, pos, ◌+ℤ◌, ◌-ℤ◌, ◌≤ℤ◌}
use Rattle.std.specs.List.{AllByRecursion}
use Rattle.std.proofs.lemmas.Int.{ints}
use Rattle.std.proofs.lemmas.Bool.Decides.{nat_tests}
use Rattle.lot_base.specs.Goods.{cost, plus, zeros, AtMost}
use Rattle.lot_base.specs.Economy.{without, IsValuation}
use Rattle.lot_base.specs.Equilibrium.{total_bundle, total_value, worth, IsAllocation, IsWelfare, IsVcgPayment}
use Rattle.lot_base.proofs.Vec.{length-below}
use Rattle.lot_base.proofs.Demand.{AtMost-zeros}
use Rattle.lyapunov.specs.Bidders.{IsOneOf}
use Rattle.lyapunov.proofs.Bidders.{all-without, sum-without}
use Rattle.lyapunov.proofs.Duality.{welfare-one}
use Rattle.lyapunov.proofs.Payment.{cost-total}

pub vcg-gain : (s o : List ℕ) (u : ℕ → List ℕ → ℤ) (js : List ℕ) (x : ℕ → List ℕ) (i : ℕ) (pay v : ℤ) → IsOneOf i js → IsVcgPayment s o u js x i pay → IsWelfare s o u (without i js) v
    → u i (x i) -ℤ pay ≡ worth s o u js x -ℤ v
vcg-gain s o u js x i pay v one h welfare =
    let e = welfare-one s o u (without i js) h.others v h.welfare welfare in
    let f = sum-without (λ j. u j (x j)) i js one in
    let g = h.pays in
    omega (arith, ints)

pub vcg-most : (s o : List ℕ) (u : ℕ → List ℕ → ℤ) (js : List ℕ) (x : ℕ → List ℕ) (i : ℕ) (pay w v : ℤ) → IsOneOf i js → IsVcgPayment s o u js x i pay → IsWelfare s o u js w → IsWelfare s o u (without i js) v
    → (u i (x i) -ℤ pay) ≤ℤ (w -ℤ v)
vcg-most s o u js x i pay w v one h best welfare =
    let e = vcg-gain s o u js x i pay v one h welfare in
    let b = best.bound x h.allocation in
    omega (arith, ints)

-- where the one allocation is best, the other gains no more
pub vcg-best : (s o : List ℕ) (u : ℕ → List ℕ → ℤ) (js : List ℕ) (x y : ℕ → List ℕ) (i : ℕ) (pay other : ℤ) → IsOneOf i js → IsWelfare s o u js (worth s o u js x)
    → IsVcgPayment s o u js x i pay → IsVcgPayment s o u js y i other → (u i (y i) -ℤ other) ≤ℤ (u i (x i) -ℤ pay)
vcg-best s o u js x y i pay other one best h k =
    let e = vcg-gain s o u js x i pay h.others one h h.welfare in
    let f = vcg-gain s o u js y i other h.others one k h.welfare in
    let b = best.bound y k.allocation in
    omega (arith, ints)

-- the bundles of others, and nothing for bidder i
abbrev but_nothing : List ℕ → ℕ → (ℕ → List ℕ) → ℕ → List ℕ
but_nothing s i y j = if j == i then zeros s else y j

plus-nothing : (s t : List ℕ) → length t ≡ length s → plus (zeros s) t ≡ t
plus-nothing [] [] same = refl
plus-nothing [] (n ∷ t) same = absurd (omega arith)
plus-nothing (m ∷ s) [] same = absurd (omega arith)
plus-nothing (m ∷ s) (n ∷ t) same = let e : 0 + n ≡ n = omega arith in let r = plus-nothing s t (omega arith) in λ i. e i ∷ r i

length-zeros : (s : List ℕ) → length (zeros s) ≡ length s
length-zeros [] = refl
length-zeros (m ∷ s) = ap suc (length-zeros s)

length-plus : (a b : List ℕ) → length a ≡ length b → length (plus a b) ≡ length b
length-plus [] b same = refl
length-plus (m ∷ a) [] same = same
length-plus (m ∷ a) (n ∷ b) same = let same' : length a ≡ length b = omega arith in ap suc (length-plus a b same')

length-total : (s : List ℕ) (x : ℕ → List ℕ) (js : List ℕ) → AllByRecursion (λ j. AtMost (x j) s) js → length (total_bundle s x js) ≡ length s
length-total s x [] all = length-zeros s
length-total s x (j ∷ js) all =
    let r = length-total s x js all.1 in
    length-plus (x j) (total_bundle s x js) (length-below (x j) s all.0 ∙ sym r) ∙ r

-- what is left of an allocation without bidder i is one of the others
more-right : (a b : List ℕ) → length a ≡ length b → AtMost b (plus a b)
more-right [] [] same = tt
more-right [] (n ∷ b) same = absurd (omega arith)
more-right (m ∷ a) [] same = absurd (omega arith)
more-right (m ∷ a) (n ∷ b) same = let same' : length a ≡ length b = omega arith in (omega arith, more-right a b same')

more-both : (a b c : List ℕ) → length a ≡ length b → AtMost b c → AtMost (plus a b) (plus a c)
more-both [] b c same h = h
more-both (m ∷ a) [] c same h = absurd (omega arith)
more-both (m ∷ a) (n ∷ b) [] same h = absurd h
more-both (m ∷ a) (n ∷ b) (l ∷ c) same h = let same' : length a ≡ length b = omega arith in let low = h.0 in (omega arith, more-both a b c same' h.1)

most-of-most : (a b c : List ℕ) → AtMost a b → AtMost b c → AtMost a c
most-of-most [] [] c h k = k
most-of-most [] (n ∷ b) c h k = absurd h
most-of-most (m ∷ a) [] c h k = absurd h
most-of-most (m ∷ a) (n ∷ b) [] h k = absurd k
most-of-most (m ∷ a) (n ∷ b) (l ∷ c) h k = let e = h.0 in let f = k.0 in (omega arith, most-of-most a b c h.1 k.1)

less-without : (s : List ℕ) (x : ℕ → List ℕ) (i : ℕ) (js : List ℕ) → AllByRecursion (λ j. AtMost (x j) s) js → AtMost (total_bundle s x (without i js)) (total_bundle s x js)
less-without s x i [] all = same (zeros s)
  where
    same : (t : List ℕ) → AtMost t t
    same [] = tt
    same (n ∷ t) = (omega arith, same t)
less-without s x i (j ∷ js) all =
    let r = less-without s x i js all.1 in
    let l = length-below (x j) s all.0 in
    let a = length-total s x js all.1 in
    let b = length-total s x (without i js) (all-without (λ k. AtMost (x k) s) i js all.1) in
    by (not (nat_eq j i)) r (l ∙ sym a) (l ∙ sym b)
  where
    by : (v : Bool) → AtMost (total_bundle s x (without i js)) (total_bundle s x js) → length (x j) ≡ length (total_bundle s x js) → length (x j) ≡ length (total_bundle s x (without i js))
        → AtMost (total_bundle s x (cond v (j ∷ without i js) (without i js))) (plus (x j) (total_bundle s x js))
    by true r a b = more-both (x j) (total_bundle s x (without i js)) (total_bundle s x js) b r
    by false r a b = most-of-most (total_bundle s x (without i js)) (total_bundle s x js) (plus (x j) (total_bundle s x js)) r (more-right (x j) (total_bundle s x js) a)

pub rest-allocation : (s : List ℕ) (x : ℕ → List ℕ) (i : ℕ) (js : List ℕ) → IsAllocation s js x → IsAllocation s (without i js) x
rest-allocation s x i js h = record {
  bundles = all-without (λ j. AtMost (x j) s) i js h.bundles;
  within = most-of-most (total_bundle s x (without i js)) (total_bundle s x js) s (less-without s x i js h.bundles) h.within;
}

-- no payment is less than the reserve of the award
pub vcg-reserve : (s o : List ℕ) (u : ℕ → List ℕ → ℤ) (js : List ℕ) (x : ℕ → List ℕ) (i : ℕ) (pay : ℤ) → IsOneOf i js → IsVcgPayment s o u js x i pay → pos (cost o (x i)) ≤ℤ pay
vcg-reserve s o u js x i pay one h =
    let b = h.welfare.bound x (rest-allocation s x i js h.allocation) in
    let f = cost-total s o x js in
    let g = cost-total s o x (without i js) in
    let k = sum-without (λ j. pos (cost o (x j))) i js one in
    let e = h.pays in
    omega (arith, ints)

-- the others' bundles, with nothing for bidder i, are an allocation of all
with-nothing : (s : List ℕ) (y : ℕ → List ℕ) (i : ℕ) (js : List ℕ) → AllByRecursion (λ j. AtMost (y j) s) (without i js)
    → AllByRecursion (λ j. AtMost (but_nothing s i y j) s) js × (total_bundle s (but_nothing s i y) js ≡ total_bundle s y (without i js))
with-nothing s y i [] all = (tt, refl)
with-nothing s y i (j ∷ js) all = by (nat_eq j i) all (λ rest. with-nothing s y i js rest)
  where
    by : (v : Bool) → AllByRecursion (λ k. AtMost (y k) s) (cond (not v) (j ∷ without i js) (without i js))
        → (AllByRecursion (λ k. AtMost (y k) s) (without i js) → AllByRecursion (λ k. AtMost (but_nothing s i y k) s) js × (total_bundle s (but_nothing s i y) js ≡ total_bundle s y (without i js)))
        → (AtMost (cond v (zeros s) (y j)) s × AllByRecursion (λ k. AtMost (but_nothing s i y k) s) js)
        × (plus (cond v (zeros s) (y j)) (total_bundle s (but_nothing s i y) js) ≡ total_bundle s y (cond (not v) (j ∷ without i js) (without i js)))
    by true all rest =
        let r = rest all in
        ((AtMost-zeros s, r.0), ap (plus (zeros s)) r.1 ∙ plus-nothing s (total_bundle s y (without i js)) (length-total s y (without i js) all))
    by false all rest = let r = rest all.1 in ((all.0, r.0), ap (plus (y j)) r.1)

value-nothing : (s : List ℕ) (u : ℕ → List ℕ → ℤ) (y : ℕ → List ℕ) (i : ℕ) (js : List ℕ) → IsValuation s (u i) → total_value u js (but_nothing s i y) ≡ total_value u (without i js) y
value-nothing s u y i [] none = refl
value-nothing s u y i (j ∷ js) none = by (nat_eq j i) refl (value-nothing s u y i js none)
  where
    by : (v : Bool) → nat_eq j i ≡ v → total_value u js (but_nothing s i y) ≡ total_value u (without i js) y
        → u j (cond v (zeros s) (y j)) +ℤ total_value u js (but_nothing s i y) ≡ total_value u (cond (not v) (j ∷ without i js) (without i js)) y
    by true e rest =
        let same : j ≡ i = grind (arith, nat_tests) in
        let f : u j (zeros s) ≡ pos 0 = ap (λ k. u k (zeros s)) same ∙ none in
        omega (arith, ints)
    by false e rest = omega (arith, ints)

-- all together are worth no less than the others alone
pub welfare-more : (s o : List ℕ) (u : ℕ → List ℕ → ℤ) (js : List ℕ) (i : ℕ) (w v : ℤ) → IsValuation s (u i) → IsWelfare s o u js w → IsWelfare s o u (without i js) v → v ≤ℤ w
welfare-more s o u js i w v none all others =
    let y = others.best in
    let z = but_nothing s i y in
    let h = with-nothing s y i js others.allocation.bundles in
    let T : List ℕ → Type 0 = λ t. AtMost t s in
    let a : IsAllocation s js z = record { bundles = h.0; within = subst T (sym h.1) others.allocation.within } in
    let b = all.bound z a in
    let e = value-nothing s u y i js none in
    let f = ap (λ t. pos (cost o t)) h.1 in
    let r = others.reached in
    omega (arith, ints)

-- where the allocation is best, bidder i loses nothing
pub vcg-rational : (s o : List ℕ) (u : ℕ → List ℕ → ℤ) (js : List ℕ) (x : ℕ → List ℕ) (i : ℕ) (pay : ℤ) → IsOneOf i js → IsValuation s (u i) → IsWelfare s o u js (worth s o u js x) → IsVcgPayment s o u js x i pay
    → pos 0 ≤ℤ (u i (x i) -ℤ pay)
vcg-rational s o u js x i pay one none best h =
    let e = vcg-gain s o u js x i pay h.others one h h.welfare in
    let m = welfare-more s o u js i (worth s o u js x) h.others none best h.welfare in
    omega (arith, ints)
