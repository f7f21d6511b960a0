-- What a demand of a supply is as a list of numbers: it has few bundles, each of as many goods as the supply, and small quantities.
use Rattle.std.proofs.Common.{◌≡◌, ◌<◌, ◌≤◌, ◌^◌, ℕ, zero, suc, ◌+◌, ◌*◌, Bool, true, false, nat_eq, cond, List, [], ◌∷◌, ◌++◌, length, take, drop, Option, Some, None, Ok, Err, refl, sym, ◌∙◌, ap, arith, length-drop, take-append-drop}
use Rattle.std.specs.List.{AllByRecursion, concat}
use Rattle.std.proofs.Math.Nat.{mul-le-mul, mul-le-mul_left}
use Rattle.std.proofs.lemmas.Bool.Decides.{nat_tests}
use Rattle.lot_base.specs.Goods.{AtMost, IsSupply, box_size}
use Rattle.lot_base.specs.Demands.{IsDemand}
use Rattle.lot_base.proofs.Order.{box_size-some}
use Rattle.demand_set.specs.Reading.{groups, fault_from, unless, demand_of}
use Rattle.demand_set.specs.declared.reading.DemandFault.{DemandFault}
use Rattle.demand_set.specs.declared.reading.DemandFault.TheVariants.{Empty, WrongGoods}
use Rattle.demand_set.proofs.Faults.{are-good}
use Rattle.demand_set.proofs.Joined.{faultless, length-concat, after-nothing, at_most-length}
use Rattle.report_wire.specs.Entries.{IsWhole}
use Rattle.recovery.specs.Entries.{AreSmall}
use Rattle.recovery.proofs.Lists.{all-concat}

lengths : (supply : List ℕ) (bundles : List (List ℕ)) → AllByRecursion (λ x. AtMost x supply) bundles → AllByRecursion (λ x. length x ≡ length supply) bundles
lengths supply [] within = tt
lengths supply (x ∷ bundles) within = (at_most-length x supply within.0, lengths supply bundles within.1)

pub one-length : (supply : List ℕ) (bundles : List (List ℕ)) → IsDemand supply bundles → AllByRecursion (λ x. length x ≡ length supply) bundles
one-length supply bundles is = lengths supply bundles is.in_box

pub few-bundles : (supply : List ℕ) (bundles : List (List ℕ)) → IsSupply supply → IsDemand supply bundles → length bundles ≤ 2048
few-bundles supply bundles sold is =
    let good = are-good supply 0 None bundles (box_size-some supply) refl (faultless supply 0 None bundles (after-nothing bundles) is.ascending is.in_box) in
    omega (arith, good.few, sold.small)

few-units : (supply : List ℕ) → box_size supply ≤ 2048 → AllByRecursion (λ s. s ≤ 2047) supply
few-units [] small = tt
few-units (s ∷ supply) small =
    let some = box_size-some supply in
    let m : s * 1 ≤ s * box_size supply = mul-le-mul_left s some in
    let e : (s + 1) * box_size supply ≡ s * box_size supply + box_size supply = grind arith in
    (omega (arith, m, e, some, small), few-units supply (omega (arith, e, small)))

small-bundle : (supply x : List ℕ) → AllByRecursion (λ s. s ≤ 2047) supply → AtMost x supply → AreSmall x
small-bundle supply [] few within = tt
small-bundle [] (q ∷ x) few within = absurd within
small-bundle (s ∷ supply) (q ∷ x) few within = (omega (arith, few.0, within.0), small-bundle supply x few.1 within.1)

small-bundles : (supply : List ℕ) (bundles : List (List ℕ)) → AllByRecursion (λ s. s ≤ 2047) supply → AllByRecursion (λ x. AtMost x supply) bundles → AllByRecursion AreSmall bundles
small-bundles supply [] few within = tt
small-bundles supply (x ∷ bundles) few within = (small-bundle supply x few within.0, small-bundles supply bundles few within.1)

pub small-demand : (supply : List ℕ) (bundles : List (List ℕ)) → IsSupply supply → IsDemand supply bundles → AreSmall (concat bundles)
small-demand supply bundles sold is = all-concat (λ n. n < 2 ^ 16) bundles (small-bundles supply bundles (few-units supply sold.small) is.in_box)

-- the quantities of a demand, one bundle after another
pub demand-long : (supply : List ℕ) (bundles : List (List ℕ)) → IsDemand supply bundles → length (concat bundles) ≡ length bundles * length supply
demand-long supply bundles is = length-concat (length supply) bundles (one-length supply bundles is)

pub demand-few : (supply : List ℕ) (bundles : List (List ℕ)) → IsSupply supply → IsDemand supply bundles → length (concat bundles) ≤ 12288
demand-few supply bundles sold is =
    let m : length bundles * length supply ≤ 2048 * 6 = mul-le-mul (few-bundles supply bundles sold is) sold.few_goods in
    omega (arith, demand-long supply bundles is, m)

pub demand-some : (supply : List ℕ) (bundles : List (List ℕ)) → IsSupply supply → IsDemand supply bundles → 1 ≤ length (concat bundles)
demand-some supply bundles sold is =
    let m : 1 * 1 ≤ length bundles * length supply = mul-le-mul is.some sold.some_good in
    omega (arith, demand-long supply bundles is, m)

pub demand-whole : (supply : List ℕ) (bundles : List (List ℕ)) → IsSupply supply → IsDemand supply bundles → IsWhole (length supply) (concat bundles)
demand-whole supply bundles sold is = record { some_good = sold.some_good; few_goods = sold.few_goods; count = length bundles; whole = demand-long supply bundles is }

-- groups of numbers, joined again
pub concat-groups : (n goods : ℕ) (numbers : List ℕ) → length numbers ≡ n * goods → concat (groups n goods numbers) ≡ numbers
concat-groups zero goods [] e = refl
concat-groups zero goods (x ∷ numbers) e = absurd (omega arith)
concat-groups (suc n) goods numbers e =
    let left : length (drop goods numbers) ≡ n * goods = omega (arith, length-drop goods numbers, e) in
    ap (λ rest. take goods numbers ++ rest) (concat-groups n goods (drop goods numbers) left) ∙ take-append-drop goods numbers

pub unless-ok : (o : Option DemandFault) (bundles found : List (List ℕ)) → unless o bundles ≡ Ok found → bundles ≡ found
unless-ok None bundles found e = cc
unless-ok (Some f) bundles found e = absurd (cc)

-- what was read as a demand: bundles of as many goods as are sold, at least one, without a fault
pub record IsFound (supply : List ℕ) (goods : ℕ) (bundles found : List (List ℕ)) : Type 0 where
  pub goods_are : goods ≡ length supply
  pub some : 1 ≤ length bundles
  pub without_fault : Ok found ≡ unless (fault_from supply 0 None bundles) bundles
  pub same : bundles ≡ found

pub found-by : (supply : List ℕ) (goods : ℕ) (bundles found : List (List ℕ)) → demand_of supply goods bundles ≡ Ok found → IsFound supply goods bundles found
found-by supply goods bundles found e = by (nat_eq goods (length supply)) (nat_eq (length bundles) 0) refl refl e
  where
    by : (a b : Bool) → nat_eq goods (length supply) ≡ a → nat_eq (length bundles) 0 ≡ b → cond a (cond b (Err Empty) (unless (fault_from supply 0 None bundles) bundles)) (Err (WrongGoods goods)) ≡ Ok found → IsFound supply goods bundles found
    by true false p q e = record {
      goods_are = grind (arith, nat_tests);
      some = grind (arith, nat_tests);
      without_fault = sym e;
      same = unless-ok (fault_from supply 0 None bundles) bundles found e;
    }
    by true true p q e = absurd (let f : Err Empty ≡ Ok found = e in cc)
    by false b p q e = absurd (let f : Err (WrongGoods goods) ≡ Ok found = e in cc)
