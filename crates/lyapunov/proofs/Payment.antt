-- Payments: the price of an award, more by what the others' account keeps on the path without the bidder, and less by what it
-- keeps on the path of all, is the payment of Vickrey, Clarke and Groves.
use Rattle.std.proofs.Common.{◌≡◌, ℕ, List, [], ◌∷◌, length, map, arith, ap, sym, subst, ◌∙◌}
use Rattle.std.specs.Prelude.{ℤ, pos, ◌+ℤ◌, ◌-ℤ◌}
use Rattle.std.proofs.lemmas.Int.{ints}
use Rattle.lot_base.specs.Goods.{cost}
use Rattle.lot_base.specs.Box.{IsIn}
use Rattle.lot_base.specs.Economy.{demand, sum_over, without, AllStrongSubstitutes, lyapunov}
use Rattle.lot_base.specs.Equilibrium.{total_bundle, worth, IsWalrasian, IsVcgPayment}
use Rattle.lot_base.proofs.Vec.{cost-plus_right}
use Rattle.lot_base.specs.Choices.{IsClearingChoice}
use Rattle.lyapunov.specs.Bidders.{IsOneOf, AllDifferent, bundle_of}
use Rattle.lyapunov.specs.Paths.{prices_along, account_along, payment_along, IsPath, IsTrueChoice}
use Rattle.lyapunov.proofs.Bidders.{AllDifferent-without, map-bundle_of, length-choice, all-without, strong-without, sum-without}
use Rattle.lyapunov.proofs.Moments.{account-rises, stands}
use Rattle.lyapunov.proofs.Duality.{clearing-walrasian, cost-zeros, met, walrasian-worth, walrasian-welfare, welfare-one, cost-sold}

pub cost-total : (s p : List ℕ) (x : ℕ → List ℕ) (js : List ℕ) → pos (cost p (total_bundle s x js)) ≡ sum_over (λ j. pos (cost p (x j))) js
cost-total s p x [] = ap pos (cost-zeros p s)
cost-total s p x (j ∷ js) = let i = cost-total s p x js in let k = cost-plus_right p (x j) (total_bundle s x js) in omega (arith, ints)

pub pays-vcg : (s o : List ℕ) (u : ℕ → List ℕ → ℤ) (js : List ℕ) (i : ℕ) (p q : List ℕ) (x y : ℕ → List ℕ) (z : ℤ) → IsOneOf i js
    → IsWalrasian s o u js p x → IsWalrasian s o u (without i js) q y
    → IsVcgPayment s o u js x i ((pos (cost p (x i)) +ℤ (lyapunov s u (without i js) q -ℤ z)) -ℤ (lyapunov s u (without i js) p -ℤ z))
unfolding lyapunov
pays-vcg s o u js i p q x y z one wx wy = record {
  allocation = wx.allocation;
  others = worth s o u (without i js) y;
  welfare = walrasian-welfare s o u (without i js) q y wy;
  pays =
      let c = walrasian-worth s o u (without i js) q y wy in
      let d = met s u p x (without i js) (all-without (λ j. IsIn (x j) (demand s (u j) p)) i js wx.demanded) in
      let e = cost-sold o p (total_bundle s x js) s wx.prices wx.allocation.within wx.unsold in
      let f = cost-total s p x js in
      let g = cost-total s p x (without i js) in
      let k = sum-without (λ j. pos (cost p (x j))) i js one in
      omega (arith, ints);
}

pub account-pays : (s o : List ℕ) (u : ℕ → List ℕ → ℤ) (js : List ℕ) (i : ℕ) (sets rests : List ℕ) (x y : ℕ → List ℕ)
    → AllStrongSubstitutes s u js → IsOneOf i js → length o ≡ length s → IsWalrasian s o u js (prices_along o sets) x
    → IsWalrasian s o u (without i js) (prices_along o rests) y
    → IsVcgPayment s o u js x i ((pos (cost (prices_along o sets) (x i)) +ℤ account_along s u (without i js) o rests) -ℤ account_along s u (without i js) o sets)
account-pays s o u js i sets rests x y strong one same wx wy =
    let p = prices_along o sets in
    let q = prices_along o rests in
    let debit = account-rises s u (without i js) (strong-without s u i js strong) o rests same in
    let credit = account-rises s u (without i js) (strong-without s u i js strong) o sets same in
    let P : ℤ → Type 0 = IsVcgPayment s o u js x i in
    subst P (ap (λ z. (pos (cost p (x i)) +ℤ z) -ℤ (lyapunov s u (without i js) p -ℤ lyapunov s u (without i js) o)) (sym debit) ∙ ap (λ z. (pos (cost p (x i)) +ℤ account_along s u (without i js) o rests) -ℤ z) (sym credit))
    (pays-vcg s o u js i p q x y (lyapunov s u (without i js) o) one wx wy)

-- choices as lists, of bidders that are all different
pub choice-walrasian : (s o : List ℕ) (u : ℕ → List ℕ → ℤ) (js sets : List ℕ) (xs : List (List ℕ)) → AllDifferent js → IsPath s u js o sets → IsTrueChoice s o u js sets xs
    → IsWalrasian s o u js (prices_along o sets) (bundle_of js xs)
choice-walrasian s o u js sets xs different path choice =
    let p = prices_along o sets in
    let above = (stands s u js path.substitutes o sets path.goods path.steps).above_opening in
    let e = map-bundle_of js xs different (length-choice (λ j. demand s (u j) p) js xs choice.chosen) in
    let P : List (List ℕ) → Type 0 = IsClearingChoice s o p (map (λ j. demand s (u j) p) js) in
    clearing-walrasian s o u js p (bundle_of js xs) above (subst P (sym e) choice)

pub choice-pays : (s o : List ℕ) (u : ℕ → List ℕ → ℤ) (js sets rests : List ℕ) (i : ℕ) (xs ys : List (List ℕ)) → AllDifferent js → IsOneOf i js
    → IsPath s u js o sets → IsTrueChoice s o u js sets xs → IsPath s u (without i js) o rests → IsTrueChoice s o u (without i js) rests ys
    → IsVcgPayment s o u js (bundle_of js xs) i (payment_along s u js o sets rests i (bundle_of js xs i))
choice-pays s o u js sets rests i xs ys different one all choice others other_choice =
    account-pays s o u js i sets rests (bundle_of js xs) (bundle_of (without i js) ys) all.substitutes one all.goods
    (choice-walrasian s o u js sets xs different all choice)
    (choice-walrasian s o u (without i js) rests ys (AllDifferent-without i js different) others other_choice)

-- at an allocation there is one such payment
pub vcg-one : (s o : List ℕ) (u : ℕ → List ℕ → ℤ) (js : List ℕ) (x : ℕ → List ℕ) (i : ℕ) (pay other : ℤ)
    → IsVcgPayment s o u js x i pay → IsVcgPayment s o u js x i other → pay ≡ other
vcg-one s o u js x i pay other a b =
    let e = welfare-one s o u (without i js) a.others b.others a.welfare b.welfare in
    let h = a.pays in
    let k = b.pays in
    omega (arith, ints)
