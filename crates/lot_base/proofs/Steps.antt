-- The step lemma, and its mirror image, with the set of goods as a list of zeros and ones.
use Rattle.std.proofs.Common.{◌≡◌, ℕ, ◌≤◌, List, arith}
use Rattle.std.specs.Prelude.{ℤ, pos, ◌-ℤ◌}
use Rattle.std.proofs.lemmas.Int.{ints}
use Rattle.lot_base.specs.Goods.{cost, plus}
use Rattle.lot_base.proofs.Vectors.{distance, Bits}
use Rattle.lot_base.specs.Demands.{least_of, greatest_of}
use Rattle.lot_base.specs.Economy.{indirect_utility, demand, IsDemanded, IsStrongSubstitutes}
use Rattle.lot_base.proofs.Vec.{cost-plus_left}
use Rattle.lot_base.proofs.Meet.{Meeting, meet}
use Rattle.lot_base.proofs.Demand.{surplus_reached, demanded_at, worth_of_demanded, IsIn-demand, demand-IsIn, least_is, greatest_is_least}

-- a bundle demanded before and after a step
pub meeting : (s : List ℕ) (u : List ℕ → ℤ) → IsStrongSubstitutes s u → (p e : List ℕ) → Bits e → Meeting s u p (plus p e)
meeting s u strong p e bits =
    let a = surplus_reached s u p in
    let b = surplus_reached s u (plus p e) in
    meet s u strong p e bits (distance a.bundle b.bundle) a.bundle b.bundle (demanded_at s u p a.bundle a.below a.is) (demanded_at s u (plus p e) b.bundle b.below b.is) (omega arith)

-- the step lemma
pub least_of_step : (s : List ℕ) (u : List ℕ → ℤ) → IsStrongSubstitutes s u → (p e : List ℕ) → Bits e
    → pos (least_of (cost e) (demand s u p)) ≡ indirect_utility s u p -ℤ indirect_utility s u (plus p e)
least_of_step s u strong p e bits =
    let m = meeting s u strong p e bits in
    let z = m.bundle in
    let v = worth_of_demanded s u p z m.before in
    let w = worth_of_demanded s u (plus p e) z m.after in
    let l : least_of (cost e) (demand s u p) ≡ cost e z = least_is (cost e) z (demand s u p) (IsIn-demand s u p z m.before) (λ x h. low z x (demand-IsIn s u p x h) m.before m.after) in
    let c = cost-plus_left p e z in
    omega (arith, ints)
  where
    low : (z x : List ℕ) → IsDemanded s u p x → IsDemanded s u p z → IsDemanded s u (plus p e) z → cost e z ≤ cost e x
    low z x dx dz dw = let a = dx.1 z dz.0 in let b = dw.1 x dx.0 in let f = cost-plus_left p e z in let g = cost-plus_left p e x in omega (arith, ints)

-- its mirror image
pub greatest_of_step : (s : List ℕ) (u : List ℕ → ℤ) → IsStrongSubstitutes s u → (p e : List ℕ) → Bits e
    → pos (greatest_of (cost e) (demand s u (plus p e))) ≡ indirect_utility s u p -ℤ indirect_utility s u (plus p e)
greatest_of_step s u strong p e bits =
    let m = meeting s u strong p e bits in
    let z = m.bundle in
    let v = worth_of_demanded s u p z m.before in
    let w = worth_of_demanded s u (plus p e) z m.after in
    let l : greatest_of (cost e) (demand s u (plus p e)) ≡ cost e z = greatest_is_least (cost e) z (demand s u (plus p e)) (IsIn-demand s u (plus p e) z m.after) (λ x h. high z x (demand-IsIn s u (plus p e) x h) m.before m.after) in
    let c = cost-plus_left p e z in
    omega (arith, ints)
  where
    high : (z x : List ℕ) → IsDemanded s u (plus p e) x → IsDemanded s u p z → IsDemanded s u (plus p e) z → cost e x ≤ cost e z
    high z x dx dz dw = let a = dx.1 z dw.0 in let b = dz.1 x dx.0 in let f = cost-plus_left p e z in let g = cost-plus_left p e x in omega (arith, ints)
