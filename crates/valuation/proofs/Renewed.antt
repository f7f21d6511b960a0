-- Two demands are the same exactly where the best bundles of the one are those of the other.
use Rattle.std.proofs.Common.{◌≡◌, ◌<◌, ℕ, Bool, true, false, nat_eq, List, length, slice_index, arith, refl, sym, ◌∙◌, subst}
use Rattle.std.specs.Prelude.{ℤ, filter, ◌==◌}
use Rattle.lot_base.specs.Goods.{box_size}
use Rattle.lot_base.specs.Box.{box, index_of, bundle_at, IsIn}
use Rattle.lot_base.specs.Economy.{demand}
use Rattle.lot_base.proofs.Index.{box_size-above_0, index_of-small, index_of-bundle_at, bundle_at-within}
use Rattle.lot_base.proofs.Lists.{AtMost-box, IsIn-box}
use Rattle.lot_base.proofs.Demand.{IsIn-filter, filter-IsIn}
use Rattle.valuation.specs.Values.{AreValues}
use Rattle.valuation.specs.Carried.{AreAlike, CarriesAt, IsLeft, greatest}
use Rattle.valuation.proofs.Carrying.{demand_is, filter-same}
use Rattle.valuation.proofs.Greatest.{IsGreatest, greatest-is}
use Rattle.valuation.proofs.Spread.{left-empty}

-- equal choices are by tests that agree
tests-agree : (t r : List ℕ → Bool) (xs : List (List ℕ)) (x : List ℕ) → filter t xs ≡ filter r xs → IsIn x xs → t x ≡ r x
tests-agree t r xs x same m = by (t x) (r x) refl refl
  where
    other : (f g : List ℕ → Bool) → filter f xs ≡ filter g xs → f x ≡ true → g x ≡ true
    other f g e holds = let P : List (List ℕ) → Type 0 = λ ys. IsIn x ys in (filter-IsIn g x xs (subst P e (IsIn-filter f x xs m holds))).1

    by : (a b : Bool) → t x ≡ a → r x ≡ b → t x ≡ r x
    by true b e f = e ∙ sym (other t r same e)
    by false false e f = e ∙ sym f
    by false true e f = absurd (let h : false ≡ true = sym e ∙ other r t (sym same) f in cc)

-- numbers that are carried, with the greatest of them
pub record AreCarried (s worth : List ℕ) (u : List ℕ → ℤ) (p : List ℕ) (best : ℕ) : Type 0 where
  pub whole : length worth ≡ box_size s
  pub carries : CarriesAt s worth u p
  pub greatest : IsGreatest worth best

pub alike-demand : (s old new : List ℕ) (u v : List ℕ → ℤ) (p q : List ℕ) (before now : ℕ) → AreCarried s old u p before → AreCarried s new v q now → AreAlike before now old new (length old) →
    demand s v q ≡ demand s u p
alike-demand s old new u v p q before now was is alike =
    sym (demand_is s new v q now is.whole is.carries is.greatest)
    ∙ filter-same (λ x. slice_index new (index_of s x) == now) (λ x. slice_index old (index_of s x) == before) (box s)
    (λ x h. let i = index_of-small s x (AtMost-box x s h) in let whole = was.whole in alike (index_of s x) (omega (arith, i, whole)))
    ∙ demand_is s old u p before was.whole was.carries was.greatest

pub demand-alike : (s old new : List ℕ) (u v : List ℕ → ℤ) (p q : List ℕ) (before now : ℕ) → AreCarried s old u p before → AreCarried s new v q now → demand s v q ≡ demand s u p →
    AreAlike before now old new (length old)
demand-alike s old new u v p q before now was is same i below =
    let whole = was.whole in
    let inside : i < box_size s = omega (arith, below, whole) in
    let T : List ℕ → Bool = λ x. slice_index new (index_of s x) == now in
    let R : List ℕ → Bool = λ x. slice_index old (index_of s x) == before in
    let chosen : filter T (box s) ≡ filter R (box s) = demand_is s new v q now is.whole is.carries is.greatest ∙ same ∙ sym (demand_is s old u p before was.whole was.carries was.greatest) in
    let agree = tests-agree T R (box s) (bundle_at s i) chosen (IsIn-box (bundle_at s i) s (bundle_at-within s i inside)) in
    let back = index_of-bundle_at s i inside in
    (λ j. nat_eq (slice_index new (sym back j)) now) ∙ agree ∙ (λ j. nat_eq (slice_index old (back j)) before)

pub carried-with : (s worth : List ℕ) (u : List ℕ → ℤ) (p : List ℕ) (best : ℕ) → length worth ≡ box_size s → slice_index worth 0 ≡ 1 → best ≡ greatest worth → CarriesAt s worth u p → AreCarried s worth u p best
carried-with s worth u p best whole first is carries = record {
  whole = whole;
  carries = carries;
  greatest = greatest-is worth best (let some = box_size-above_0 s in omega (arith, some, whole)) first is;
}

-- what is left of values
pub carried-left : (s values costs worth : List ℕ) (u : List ℕ → ℤ) (p : List ℕ) (best : ℕ) → AreValues values → length costs ≡ box_size s → slice_index costs 0 ≡ 0 → IsLeft values costs worth → best ≡ greatest worth → CarriesAt s worth u p →
    AreCarried s worth u p best
carried-left s values costs worth u p best are whole none left is carries =
    let some = box_size-above_0 s in
    carried-with s worth u p best (left.whole ∙ whole) (left-empty values costs worth are (omega (arith, some, whole)) none left) is carries
