-- Quantities one after another, and the bundles that they are.
use Rattle.std.proofs.Common.{◌≡◌, ◌≢◌, ◌<◌, ◌≤◌, ℕ, zero, suc, ◌+◌, ◌*◌, ◌/◌, ◌%◌, Bool, true, false, nat_eq, cond, List, [], ◌∷◌, ◌++◌, length, take, drop, length-drop, Option, Some, None, refl, sym, ◌∙◌, ap, subst, arith, zero-mul, Ok, Err}
use Rattle.std.specs.Prelude.{slice_get}
use Rattle.std.specs.List.{AllByRecursion, concat}
use Rattle.std.proofs.Math.Nat.{mul-div_cancel, mul-mod_left, mul-le-mul}
use Rattle.std.proofs.lemmas.Bool.Decides.{nat_tests}
use Rattle.std.proofs.lemmas.List.{length-take-le, take-append-drop, drop-drop}
use Rattle.lot_base.specs.Goods.{IsSupply, AtMost}
use Rattle.lot_base.specs.Demands.{IsDemand}
use Rattle.demand_set.specs.Reading.{groups, bundles_of, fault_from, unless, demand_of, AreWhole}
use Rattle.demand_set.specs.declared.reading.DemandFault.{DemandFault}
use Rattle.demand_set.specs.declared.reading.DemandFault.TheVariants.{Empty, WrongGoods}
use Rattle.demand_set.specs.Held.{IsSomeDemand}
use Rattle.demand_set.specs.Packed.{IsPacked}
use Rattle.demand_set.proofs.Groups.{length-groups}
use Rattle.demand_set.proofs.Faults.{some-demand, read-fits}
use Rattle.demand_set.proofs.Joined.{IsWritten, written-length, length-concat}

nothing : (q : List ℕ) → length q ≡ 0 → q ≡ []
nothing [] e = refl
nothing (x ∷ q) e = absurd (omega arith)

pub concat-groups : (n goods : ℕ) (q : List ℕ) → length q ≡ n * goods → concat (groups n goods q) ≡ q
concat-groups zero goods q e = sym (nothing q (e ∙ zero-mul goods))
concat-groups (suc n) goods q e =
    let m : suc n * goods ≡ goods + n * goods = omega arith in
    let l = length-drop goods q in
    ap (λ rest. take goods q ++ rest) (concat-groups n goods (drop goods q) (omega (arith, m, e, l))) ∙ take-append-drop goods q

pub lengths-groups : (n goods : ℕ) (q : List ℕ) → length q ≡ n * goods → AllByRecursion (λ x. length x ≡ goods) (groups n goods q)
lengths-groups zero goods q e = tt
lengths-groups (suc n) goods q e =
    let m : suc n * goods ≡ goods + n * goods = omega arith in
    let l = length-drop goods q in
    (length-take-le goods q (omega (arith, m, e)), lengths-groups n goods (drop goods q) (omega (arith, m, e, l)))

pub whole-count : (goods : ℕ) (q : List ℕ) → (w : AreWhole goods q) → length q / goods ≡ w.count
whole-count goods q w = ap (λ n. n / goods) w.whole ∙ mul-div_cancel w.count w.some_good

pub whole-length : (goods : ℕ) (q : List ℕ) → AreWhole goods q → length q ≡ (length q / goods) * goods
whole-length goods q w = w.whole ∙ ap (λ n. n * goods) (sym (whole-count goods q w))

pub concat-whole : (goods : ℕ) (q : List ℕ) → AreWhole goods q → concat (bundles_of goods q) ≡ q
concat-whole goods q w = concat-groups (length q / goods) goods q (whole-length goods q w)

pub lengths-whole : (goods : ℕ) (q : List ℕ) → AreWhole goods q → AllByRecursion (λ x. length x ≡ goods) (bundles_of goods q)
lengths-whole goods q w = lengths-groups (length q / goods) goods q (whole-length goods q w)

pub mod-whole : (goods : ℕ) (q : List ℕ) → AreWhole goods q → length q % goods ≡ 0
mod-whole goods q w = ap (λ n. n % goods) w.whole ∙ mul-mod_left w.count goods

pub written-whole : (goods : ℕ) (q : List ℕ) → IsPacked goods q → IsWritten (bundles_of goods q) goods q
written-whole goods q p =
    written-length (bundles_of goods q) goods q p.demand.some (record { at_least = p.whole.some_good; at_most = p.whole.few_goods }) (lengths-whole goods q p.whole) (sym (concat-whole goods q p.whole))

pub get-groups : (n goods : ℕ) (q : List ℕ) (i : ℕ) → i < n → slice_get (groups n goods q) i ≡ Some (take goods (drop (i * goods) q))
get-groups zero goods q i below = absurd (omega arith)
get-groups (suc n) goods q zero below = ap (λ k. Some (take goods (drop k q))) (sym (zero-mul goods))
get-groups (suc n) goods q (suc i) below =
    let m : suc i * goods ≡ goods + i * goods = omega arith in
    get-groups n goods (drop goods q) i (omega arith) ∙ ap (λ xs. Some (take goods xs)) (drop-drop (i * goods) goods q ∙ ap (λ k. drop k q) (let n : goods + i * goods ≡ suc i * goods = omega (arith, m) in n))

-- what was read without a fault
pub record IsRead (supply : List ℕ) (count : ℕ) (q : List ℕ) : Type 0 where
  pub packed : IsPacked count q
  pub fits : IsDemand supply (bundles_of count q)

read-by : (supply : List ℕ) (count : ℕ) (q : List ℕ) → IsSupply supply → AreWhole count q → (a b : Bool) → nat_eq count (length supply) ≡ a → nat_eq (length (bundles_of count q)) 0 ≡ b
    → cond a (cond b (Err Empty) (unless (fault_from supply 0 None (bundles_of count q)) (bundles_of count q))) (Err (WrongGoods count)) ≡ Ok (bundles_of count q) → IsRead supply count q
read-by supply count q is whole false b e f g = absurd (let h : Err (WrongGoods count) ≡ Ok (bundles_of count q) = g in cc)
read-by supply count q is whole true true e f g = absurd (let h : Err Empty ≡ Ok (bundles_of count q) = g in cc)
read-by supply count q is whole true false e f g =
    let size : count ≡ length supply = grind (arith, nat_tests) in
    let n = length-groups (length q / count) count q in
    let some : 1 ≤ length (bundles_of count q) = grind (arith, nat_tests) in
    let many : 1 ≤ length q / length supply = (let k = ap (λ c. length q / c) size in omega (arith, n, some, k)) in
    let R : ℕ → Type 0 = λ c. Ok (bundles_of count q) ≡ unless (fault_from supply 0 None (bundles_of c q)) (bundles_of c q) in
    let read = subst R size (sym g) in
    record {
      packed = record { whole = whole; demand = some-demand supply (bundles_of count q) q (record { at_least = is.some_good; at_most = is.few_goods }) is.small many read };
      fits = read-fits supply (bundles_of count q) q many read;
    }

pub read-whole : (supply : List ℕ) (count : ℕ) (q : List ℕ) → IsSupply supply → AreWhole count q → demand_of supply count (bundles_of count q) ≡ Ok (bundles_of count q) → IsRead supply count q
read-whole supply count q is whole e = read-by supply count q is whole (nat_eq count (length supply)) (nat_eq (length (bundles_of count q)) 0) refl refl e

pub demand_of-right : (supply : List ℕ) (count : ℕ) (q : List ℕ) (o : Option DemandFault) → count ≡ length supply → length q ≢ 0 → AreWhole count q → o ≡ fault_from supply 0 None (bundles_of (length supply) q)
    → unless o (bundles_of count q) ≡ demand_of supply count (bundles_of count q)
demand_of-right supply count q o size some whole e =
    let a : nat_eq count (length supply) ≡ true = grind (arith, nat_tests) in
    let n = length-groups (length q / count) count q in
    let l = whole-length count q whole in
    let many : length q / count ≢ 0 = (λ z. some (l ∙ ap (λ k. k * count) z ∙ zero-mul count)) in
    let b : nat_eq (length (bundles_of count q)) 0 ≡ false = grind (arith, nat_tests) in
    let f : o ≡ fault_from supply 0 None (bundles_of count q) = e ∙ ap (λ c. fault_from supply 0 None (bundles_of c q)) (sym size) in
    ap (λ g. unless g (bundles_of count q)) f ∙ sym (λ i. cond (a i) (cond (b i) (Err Empty) (unless (fault_from supply 0 None (bundles_of count q)) (bundles_of count q))) (Err (WrongGoods count)))

pub read-none : (supply : List ℕ) (count : ℕ) (q : List ℕ) (o : Option DemandFault) → IsSupply supply → AreWhole count q → o ≡ None → unless o (bundles_of count q) ≡ demand_of supply count (bundles_of count q) → IsRead supply count q
read-none supply count q o is whole none e = read-whole supply count q is whole (sym e ∙ ap (λ f. unless f (bundles_of count q)) none)

-- the goods of a demand are those of its supply
at_most-goods : (x supply : List ℕ) → AtMost x supply → length x ≡ length supply
at_most-goods [] [] within = refl
at_most-goods [] (s ∷ supply) within = absurd within
at_most-goods (q ∷ x) [] within = absurd within
at_most-goods (q ∷ x) (s ∷ supply) within = ap (λ n. suc n) (at_most-goods x supply within.1)

goods-same : (supply : List ℕ) (goods : ℕ) (bundles : List (List ℕ)) → 1 ≤ length bundles → AllByRecursion (λ x. length x ≡ goods) bundles → AllByRecursion (λ x. AtMost x supply) bundles → goods ≡ length supply
goods-same supply goods [] some all within = absurd (omega arith)
goods-same supply goods (x ∷ bundles) some all within = sym all.0 ∙ at_most-goods x supply within.0

pub goods-packed : (supply : List ℕ) (goods : ℕ) (q : List ℕ) (view : List (List ℕ)) → IsPacked goods q → bundles_of goods q ≡ view → IsDemand supply view → goods ≡ length supply
goods-packed supply goods q view p same is =
    let D : List (List ℕ) → Type 0 = λ v. IsDemand supply v in
    let d = subst D (sym same) is in
    goods-same supply goods (bundles_of goods q) d.some (lengths-whole goods q p.whole) d.in_box

-- two packed demands are equal where what they keep is
pub same-kept : (a b : ℕ) (xs ys : List ℕ) → IsPacked a xs → IsPacked b ys → bundles_of a xs ≡ bundles_of b ys → (a ≡ b) × (xs ≡ ys)
same-kept a b xs ys p q e =
    let n = lengths-whole a xs p.whole in
    let m = lengths-whole b ys q.whole in
    let L : List (List ℕ) → Type 0 = λ v. AllByRecursion (λ x. length x ≡ a) v in
    (one (bundles_of b ys) q.demand.some (subst L e n) m, sym (concat-whole a xs p.whole) ∙ ap concat e ∙ concat-whole b ys q.whole)
  where
    one : (v : List (List ℕ)) → 1 ≤ length v → AllByRecursion (λ x. length x ≡ a) v → AllByRecursion (λ x. length x ≡ b) v → a ≡ b
    one [] some n m = absurd (omega arith)
    one (x ∷ v) some n m = sym n.0 ∙ m.0

-- a demand has few quantities
pub most-quantities : (goods : ℕ) (q : List ℕ) → IsPacked goods q → length q ≤ 12288
most-quantities goods q p =
    let n = length-groups (length q / goods) goods q in
    let l = whole-length goods q p.whole in
    let m : (length q / goods) * goods ≤ 2048 * 6 = (let f = p.demand.few in let k : length q / goods ≤ 2048 = omega (arith, n, f) in mul-le-mul k p.whole.few_goods) in
    omega (arith, l, m)

-- each bundle of a demand has a quantity for each good
lengths-most : (supply : List ℕ) (bundles : List (List ℕ)) → AllByRecursion (λ x. AtMost x supply) bundles → AllByRecursion (λ x. length x ≡ length supply) bundles
lengths-most supply [] within = tt
lengths-most supply (x ∷ bundles) within = (at_most-goods x supply within.0, lengths-most supply bundles within.1)

pub lengths-demand : (supply : List ℕ) (bundles : List (List ℕ)) → IsDemand supply bundles → AllByRecursion (λ x. length x ≡ length supply) bundles
lengths-demand supply bundles is = lengths-most supply bundles is.in_box

-- and there are few of them
pub few-quantities : (bundles : List (List ℕ)) → IsSomeDemand bundles → length (concat bundles) ≤ 12288
few-quantities bundles held =
    let l = length-concat held.one_length.0 bundles held.one_length.2 in
    let m : length bundles * held.one_length.0 ≤ 2048 * 6 = mul-le-mul held.few held.one_length.1.at_most in
    omega (arith, l, m)
