-- Why a bidder's demand may be told from surpluses at prices before: as long as he stays, it is the same.
use Rattle.std.proofs.Common.{◌≡◌, ◌≤◌, ℕ, ◌+◌, ◌-◌, ◌*◌, Bool, cond, List, [], ◌∷◌, length, slice_index, inl, inr, arith, ap, refl, sym, ◌∙◌, subst}
use Rattle.std.specs.Prelude.{ℤ, pos, ◌+ℤ◌, ◌-ℤ◌, filter}
use Rattle.std.specs.Ordering.{int_eq}
use Rattle.std.proofs.lemmas.Int.{ints}
use Rattle.lot_base.specs.Goods.{quantity_in, zeros, AtMost}
use Rattle.lot_base.specs.Box.{box, index_of, IsIn}
use Rattle.lot_base.specs.Economy.{surplus, indirect_utility, demand}
use Rattle.lot_base.proofs.Lists.{AtMost-box}
use Rattle.lot_base.proofs.Vec.{length-below}
use Rattle.lot_base.proofs.Demand.{surplus_bounds, surplus_reached}
use Rattle.valuation.specs.Carried.{CarriesAt, cut, raised_by}
use Rattle.valuation.proofs.Carrying.{cost-raised_by, surplus-raised_by}
use Rattle.valuation.proofs.Steady.{cost-nothing, length-zeros}
use Rattle.trial.specs.Following.{Followed, Follows, StaysFor}

-- the same surpluses, the same demand
same-best : (s : List ℕ) (u v : List ℕ → ℤ) (p q : List ℕ) → ((x : List ℕ) → AtMost x s → surplus u p x ≡ surplus v q x) → indirect_utility s u p ≡ indirect_utility s v q
same-best s u v p q each =
    let a = surplus_reached s u p in
    let b = surplus_reached s v q in
    let e = each a.bundle a.below in
    let f = each b.bundle b.below in
    let g = surplus_bounds s v q a.bundle a.below in
    let h = surplus_bounds s u p b.bundle b.below in
    let i = a.is in
    let j = b.is in
    omega (arith, ints)

same-filter : (t r : List ℕ → Bool) (xs : List (List ℕ)) → ((x : List ℕ) → IsIn x xs → t x ≡ r x) → filter t xs ≡ filter r xs
same-filter t r [] same = refl
same-filter t r (x ∷ xs) same =
    (λ i. cond (same x (inl refl) i) (x ∷ filter t xs) (filter t xs))
    ∙ ap (λ rest. cond (r x) (x ∷ rest) rest) (same-filter t r xs (λ y h. same y (inr h)))

demand-same : (s : List ℕ) (u v : List ℕ → ℤ) (p q : List ℕ) → ((x : List ℕ) → AtMost x s → surplus u p x ≡ surplus v q x) → demand s u p ≡ demand s v q
unfolding demand
demand-same s u v p q each =
    let best = same-best s u v p q each in
    same-filter (λ x. int_eq (surplus u p x) (indirect_utility s u p)) (λ x. int_eq (surplus v q x) (indirect_utility s v q)) (box s)
    (λ x h i. int_eq (each x (AtMost-box x s h) i) (best i))

-- the valuation of whoever has the surpluses, and what is owed, at price 0
unfoldable pub moved : (List ℕ → ℤ) → List ℕ → ℕ → ℕ → List ℕ → ℤ
moved u p owed set x = surplus u p x +ℤ pos (owed * quantity_in x set)

-- the surplus of a bundle there, after some steps
surplus-moved : (s : List ℕ) (u : List ℕ → ℤ) (p : List ℕ) (owed set n : ℕ) (x : List ℕ) → AtMost x s →
    surplus (moved u p owed set) (raised_by n set (zeros s)) x ≡ (surplus u p x +ℤ pos (owed * quantity_in x set)) -ℤ pos (n * quantity_in x set)
unfolding moved
surplus-moved s u p owed set n x b =
    let c = cost-raised_by n set (zeros s) x (length-zeros s ∙ sym (length-below x s b)) in
    let f = cost-nothing s x in
    omega (arith, ints)

-- whoever is followed has these surpluses there
pub carries-moved : (f : Followed) (u : List ℕ → ℤ) (p : List ℕ) → Follows f u p → CarriesAt f.supply f.worth (moved u p f.owed f.set) (zeros f.supply)
carries-moved f u p follows x b =
    let m = surplus-moved f.supply u p f.owed f.set 0 x b in
    let e : surplus u p x +ℤ pos (f.owed * quantity_in x f.set + 1) ≡ surplus (moved u p f.owed f.set) (zeros f.supply) x +ℤ pos 1 = omega (arith, ints, m) in
    follows x b ∙ ap cut e

-- the demand after some steps is the demand there after those and the ones that are owed
later : (f : Followed) (u : List ℕ → ℤ) (p : List ℕ) (n : ℕ) → length p ≡ length f.supply → demand f.supply u (raised_by n f.set p) ≡ demand f.supply (moved u p f.owed f.set) (raised_by (f.owed + n) f.set (zeros f.supply))
later f u p n long = demand-same f.supply u (moved u p f.owed f.set) (raised_by n f.set p) (raised_by (f.owed + n) f.set (zeros f.supply)) each
  where
    each : (x : List ℕ) → AtMost x f.supply → surplus u (raised_by n f.set p) x ≡ surplus (moved u p f.owed f.set) (raised_by (f.owed + n) f.set (zeros f.supply)) x
    each x b =
        let r = surplus-raised_by u n f.set p x (long ∙ sym (length-below x f.supply b)) in
        let m = surplus-moved f.supply u p f.owed f.set (f.owed + n) x b in
        let d : (f.owed + n) * quantity_in x f.set ≡ f.owed * quantity_in x f.set + n * quantity_in x f.set = grind arith in
        omega (arith, ints)

now-is : (f : Followed) (u : List ℕ → ℤ) (p : List ℕ) → demand f.supply u p ≡ demand f.supply (moved u p f.owed f.set) (raised_by f.owed f.set (zeros f.supply))
now-is f u p = demand-same f.supply u (moved u p f.owed f.set) p (raised_by f.owed f.set (zeros f.supply)) each
  where
    each : (x : List ℕ) → AtMost x f.supply → surplus u p x ≡ surplus (moved u p f.owed f.set) (raised_by f.owed f.set (zeros f.supply)) x
    each x b = let m = surplus-moved f.supply u p f.owed f.set f.owed x b in omega (arith, ints)

-- the demand is that of the surpluses as they are
pub demand-now : (f : Followed) (u : List ℕ → ℤ) (p : List ℕ) (steady : ℕ) → StaysFor f.supply f.worth f.set steady → f.owed ≤ steady → Follows f u p →
    demand f.supply (moved u p f.owed f.set) (zeros f.supply) ≡ demand f.supply u p
demand-now f u p steady stays few follows =
    sym (now-is f u p ∙ stays.same (moved u p f.owed f.set) (zeros f.supply) (length-zeros f.supply) (carries-moved f u p follows) f.owed few)

-- and stays so
pub demand-stays : (f : Followed) (u : List ℕ → ℤ) (p : List ℕ) (steady n : ℕ) → StaysFor f.supply f.worth f.set steady → f.owed + n ≤ steady → length p ≡ length f.supply → Follows f u p →
    demand f.supply u (raised_by n f.set p) ≡ demand f.supply u p
demand-stays f u p steady n stays few long follows =
    later f u p n long
    ∙ stays.same (moved u p f.owed f.set) (zeros f.supply) (length-zeros f.supply) (carries-moved f u p follows) (f.owed + n) few
    ∙ demand-now f u p steady stays (omega (arith, few)) follows

no-times : (n : ℕ) → 0 * n ≡ 0
no-times n = omega arith

-- steps that are owed
pub follows-owed : (f now : Followed) (u : List ℕ → ℤ) (p : List ℕ) (times : ℕ) → now ≡ record f { owed = f.owed + times } → length p ≡ length f.supply → Follows f u p → Follows now u (raised_by times f.set p)
follows-owed f now u p times is long follows = subst F (sym is) each
  where
    F : Followed → Type 0
    F k = Follows k u (raised_by times f.set p)

    each : Follows (record f { owed = f.owed + times }) u (raised_by times f.set p)
    each x b =
        let r = surplus-raised_by u times f.set p x (long ∙ sym (length-below x f.supply b)) in
        let d : (f.owed + times) * quantity_in x f.set ≡ f.owed * quantity_in x f.set + times * quantity_in x f.set = grind arith in
        let e : surplus u p x +ℤ pos (f.owed * quantity_in x f.set + 1) ≡ surplus u (raised_by times f.set p) x +ℤ pos ((f.owed + times) * quantity_in x f.set + 1) = omega (arith, ints) in
        follows x b ∙ ap cut e

-- steps that are paid
pub follows-paid : (f now : Followed) (u : List ℕ → ℤ) (p : List ℕ) (times : ℕ) → now.supply ≡ f.supply → now.owed ≡ 0 → length p ≡ length f.supply → Follows f u p →
    (CarriesAt f.supply f.worth (moved u p f.owed f.set) (zeros f.supply) → CarriesAt now.supply now.worth (moved u p f.owed f.set) (raised_by (f.owed + times) f.set (zeros f.supply))) →
    Follows now u (raised_by times f.set p)
follows-paid f now u p times same none long follows paid x b =
    let G : List ℕ → Type 0 = λ g. AtMost x g in
    let w : AtMost x f.supply = subst G same b in
    let r = surplus-raised_by u times f.set p x (long ∙ sym (length-below x f.supply w)) in
    let m = surplus-moved f.supply u p f.owed f.set (f.owed + times) x w in
    let d : (f.owed + times) * quantity_in x f.set ≡ f.owed * quantity_in x f.set + times * quantity_in x f.set = grind arith in
    let z : now.owed * quantity_in x now.set ≡ 0 = ap (λ k. k * quantity_in x now.set) none ∙ no-times (quantity_in x now.set) in
    let e : surplus (moved u p f.owed f.set) (raised_by (f.owed + times) f.set (zeros f.supply)) x +ℤ pos 1 ≡ surplus u (raised_by times f.set p) x +ℤ pos (now.owed * quantity_in x now.set + 1) = omega (arith, ints) in
    paid (carries-moved f u p follows) x b ∙ ap cut e

-- where nothing is owed the set does not matter
pub follows-none : (f now : Followed) (u : List ℕ → ℤ) (p : List ℕ) → now.supply ≡ f.supply → now.worth ≡ f.worth → f.owed ≡ 0 → now.owed ≡ 0 → Follows f u p → Follows now u p
follows-none f now u p same worth none still follows x b =
    let G : List ℕ → Type 0 = λ g. AtMost x g in
    let y : f.owed * quantity_in x f.set ≡ 0 = ap (λ k. k * quantity_in x f.set) none ∙ no-times (quantity_in x f.set) in
    let z : now.owed * quantity_in x now.set ≡ 0 = ap (λ k. k * quantity_in x now.set) still ∙ no-times (quantity_in x now.set) in
    let e : surplus u p x +ℤ pos (f.owed * quantity_in x f.set + 1) ≡ surplus u p x +ℤ pos (now.owed * quantity_in x now.set + 1) = ap (λ k. surplus u p x +ℤ pos (k + 1)) (y ∙ sym z) in
    (λ i. slice_index (worth i) (index_of (same i) x)) ∙ follows x (subst G same b) ∙ ap cut e

-- surpluses as they are made
pub follows-new : (f : Followed) (u : List ℕ → ℤ) (p : List ℕ) → f.owed ≡ 0 → CarriesAt f.supply f.worth u p → Follows f u p
follows-new f u p none carries x b =
    let z : f.owed * quantity_in x f.set ≡ 0 = ap (λ k. k * quantity_in x f.set) none ∙ no-times (quantity_in x f.set) in
    carries x b ∙ ap cut (ap (λ k. surplus u p x +ℤ pos (k + 1)) (sym z))

-- no steps change nothing
pub stays-none : (supply worth : List ℕ) (set steps : ℕ) → steps ≡ 0 → StaysFor supply worth set steps
stays-none supply worth set steps none = record { same = λ v p long carries n few. ap (λ k. demand supply v (raised_by k set p)) (let e : n ≡ 0 = omega (arith, few, none) in e) }

-- a bidder who stays for steps on the set
pub record Stays (f : Followed) (steady set : ℕ) : Type 0 where
  pub stays : StaysFor f.supply f.worth f.set steady
  pub few : f.owed ≤ steady
  pub on : f.set ≡ set

pub demand-left : (f : Followed) (steady set : ℕ) → Stays f steady set → (u : List ℕ → ℤ) (p : List ℕ) → length p ≡ length f.supply → Follows f u p → (n : ℕ) → n ≤ steady - f.owed →
    demand f.supply u (raised_by n set p) ≡ demand f.supply u p
demand-left f steady set s u p long follows n few =
    ap (λ k. demand f.supply u (raised_by n k p)) (sym s.on) ∙ demand-stays f u p steady n s.stays (let a = s.few in omega (arith, a, few)) long follows
