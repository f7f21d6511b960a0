-- What a demand of a supply is to the reader: it has no fault, few bundles, each of as many goods as the supply, and quantities
-- that fit two bytes.
use Rattle.std.proofs.Common.{◌≡◌, ℕ, ◌+◌, true, false, nat_eq, cond, List, [], ◌∷◌, ◌++◌, length, None, Ok, Err, arith}
use Rattle.std.specs.List.{AllByRecursion, concat}
use Rattle.std.proofs.lemmas.Bool.Decides.{nat_tests}
use Rattle.lot_base.specs.Goods.{IsSupply}
use Rattle.lot_base.specs.Demands.{IsDemand}
use Rattle.demand_set.specs.Reading.{fault_from, unless, demand_of}
use Rattle.demand_set.specs.declared.reading.DemandFault.TheVariants.{Empty, WrongGoods}
use Rattle.demand_set.proofs.Joined.{faultless, after-nothing}
use Rattle.recovery.proofs.Demands.{small-demand}
use Rattle.report_log.proofs.Quantities.{AreSmall}

no-fault : (supply : List ℕ) (bundles : List (List ℕ)) → IsDemand supply bundles → fault_from supply 0 None bundles ≡ None
no-fault supply bundles is = faultless supply 0 None bundles (after-nothing bundles) is.ascending is.in_box

pub demand-found : (supply : List ℕ) (bundles : List (List ℕ)) → IsDemand supply bundles → demand_of supply (length supply) bundles ≡ Ok bundles
demand-found supply bundles is =
    let same : nat_eq (length supply) (length supply) ≡ true = grind (arith, nat_tests) in
    let some : nat_eq (length bundles) 0 ≡ false = (let s = is.some in grind (arith, nat_tests)) in
    let none = no-fault supply bundles is in
    λ i. cond (same i) (cond (some i) (Err Empty) (unless (none i) bundles)) (Err (WrongGoods (length supply)))

-- numbers that were put together are small, and so is each list of them
small-front : (xs more : List ℕ) → AreSmall (xs ++ more) → AreSmall xs
small-front [] more small = tt
small-front (x ∷ xs) more small = (small.0, small-front xs more small.1)

small-back : (xs more : List ℕ) → AreSmall (xs ++ more) → AreSmall more
small-back [] more small = small
small-back (x ∷ xs) more small = small-back xs more small.1

each-small : (bundles : List (List ℕ)) → AreSmall (concat bundles) → AllByRecursion AreSmall bundles
each-small [] small = tt
each-small (x ∷ bundles) small = (small-front x (concat bundles) small, each-small bundles (small-back x (concat bundles) small))

pub small-quantities : (supply : List ℕ) (bundles : List (List ℕ)) → IsSupply supply → IsDemand supply bundles → AllByRecursion AreSmall bundles
small-quantities supply bundles sold is = each-small bundles (small-demand supply bundles sold is)
