-- What a payment has to do with prices: it is at most the price of the award, and it depends on the award alone.
use Rattle.std.proofs.Common.{◌≡◌, ◌≤◌, ℕ, List, [], ◌∷◌, sym, ◌∙◌, ap, arith}
use Rattle.std.specs.Prelude.{ℤ, pos, ◌+ℤ◌, ◌≤ℤ◌}
use Rattle.std.specs.List.{AllByRecursion}
use Rattle.std.proofs.lemmas.Int.{ints}
use Rattle.lot_base.specs.Goods.{cost, zeros, AtMost}
use Rattle.lot_base.specs.Economy.{indirect_utility, sum_over, without, lyapunov}
use Rattle.lot_base.specs.Equilibrium.{total_bundle, total_value, unsold_value, IsAllocation, IsVcgPayment}
use Rattle.lot_base.specs.declared.auction_terms.Terms.{Terms}
use Rattle.lot_base.proofs.Vec.{cost-plus_right}
use Rattle.lot_base.proofs.Demand.{surplus_bounds}
use Rattle.lyapunov.specs.Bidders.{IsOneOf}
use Rattle.lyapunov.proofs.Bidders.{all-without, sum-without}
use Rattle.lyapunov.proofs.Duality.{cost-zeros, cost-sold, cost-within, covered, met, weak_duality, welfare-one}
use Rattle.clock.specs.Reports.{ClockHistory, all_bidders}
use Rattle.settlement.specs.Settling.{IsOutcomeOf}
use Rattle.settlement.specs.Efficient.{award_of}
use Rattle.settlement.specs.declared.outcome.Outcome.{Outcome}
use Rattle.settlement.specs.declared.outcome.Settlement.{Settlement}
use Rattle.settlement.specs.declared.outcome.Settlement.TheVariants.{Settled, Open, Halted, NoAward}
use Rattle.settlement.specs.Incentives.{IsAmongTruthful, IsChargedBy, payment_of}
use Rattle.lyapunov.proofs.Payment.{cost-total}
use Rattle.settlement.proofs.Nearly.{IsNearly}
use Rattle.settlement.proofs.Charges.{truthful-pays, truthful-nearly}
use Rattle.settlement.proofs.TruthPays.{one-of-all, pays-reserve, sum-more}

-- no payment is more than the price of the award
pub nearly-price : (s o : List ℕ) (u : ℕ → List ℕ → ℤ) (js p : List ℕ) (x : ℕ → List ℕ) (i : ℕ) (pay : ℤ) → IsOneOf i js → IsNearly i s o u js p x → IsVcgPayment s o u js x i pay → pay ≤ℤ pos (cost p (x i))
unfolding lyapunov
nearly-price s o u js p x i pay one w h =
    let a = weak_duality s o u (without i js) p h.welfare.best w.prices h.welfare.allocation in
    let r = h.welfare.reached in
    let d = met s u p x (without i js) w.demanded in
    let e = cost-sold o p (total_bundle s x js) s w.prices w.allocation.within w.unsold in
    let f = cost-total s p x js in
    let g = cost-total s p x (without i js) in
    let k = sum-without (λ j. pos (cost p (x j))) i js one in
    let l = h.pays in
    omega (arith, ints)

-- what the others and the seller have beside an award is the most that they can have beside it
nearly-best : (s o : List ℕ) (u : ℕ → List ℕ → ℤ) (js p : List ℕ) (x y : ℕ → List ℕ) (i : ℕ) → IsOneOf i js → IsNearly i s o u js p x → IsAllocation s js y → x i ≡ y i
    → (total_value u (without i js) y +ℤ unsold_value s o js y) ≤ℤ (total_value u (without i js) x +ℤ unsold_value s o js x)
nearly-best s o u js p x y i one w a same =
    let c = covered s u p y (without i js) (all-without (λ j. AtMost (y j) s) i js a.bundles) in
    let d = met s u p x (without i js) w.demanded in
    let b = cost-within o p (total_bundle s y js) s w.prices a.within in
    let e = cost-sold o p (total_bundle s x js) s w.prices w.allocation.within w.unsold in
    let f = cost-total s p x js in
    let g = cost-total s p x (without i js) in
    let k = sum-without (λ j. pos (cost p (x j))) i js one in
    let f' = cost-total s p y js in
    let g' = cost-total s p y (without i js) in
    let k' = sum-without (λ j. pos (cost p (y j))) i js one in
    let z = ap (λ b. pos (cost p b)) same in
    omega (arith, ints)

nearly-same : (s o : List ℕ) (u : ℕ → List ℕ → ℤ) (js p q : List ℕ) (x y : ℕ → List ℕ) (i : ℕ) (pay other : ℤ) → IsOneOf i js → IsNearly i s o u js p x → IsNearly i s o u js q y → x i ≡ y i
    → IsVcgPayment s o u js x i pay → IsVcgPayment s o u js y i other → pay ≡ other
nearly-same s o u js p q x y i pay other one w v same h k =
    let a = nearly-best s o u js p x y i one w v.allocation same in
    let b = nearly-best s o u js q y x i one v w.allocation (sym same) in
    let e = welfare-one s o u (without i js) h.others k.others h.welfare k.welfare in
    let f = h.pays in
    let g = k.pays in
    omega (arith, ints)

pub pays-at-most : (i : ℕ) (u : ℕ → List ℕ → ℤ) (terms : Terms) (clocks : List ClockHistory) (o : Outcome) → IsAmongTruthful i u terms clocks → IsOutcomeOf clocks (Settled o)
    → payment_of terms o i ≤ℤ pos (cost o.prices (award_of terms o i))
pays-at-most i u terms clocks o h is =
    nearly-price terms.goods terms.opening u (all_bidders terms.bidders) o.prices (award_of terms o) i (payment_of terms o i) (one-of-all i terms.bidders h.from_one h.to_last) (truthful-nearly i u terms clocks o h is)
    (truthful-pays i u terms clocks o h is)

pub pays-nothing : (i : ℕ) (u : ℕ → List ℕ → ℤ) (terms : Terms) (clocks : List ClockHistory) (o : Outcome) → IsAmongTruthful i u terms clocks → IsOutcomeOf clocks (Settled o) → award_of terms o i ≡ zeros terms.goods
    → payment_of terms o i ≡ pos 0
pays-nothing i u terms clocks o h is none =
    let a = pays-at-most i u terms clocks o h is in
    let b = pays-reserve i u terms clocks o h is in
    let e = ap (cost o.prices) none ∙ cost-zeros o.prices terms.goods in
    let f = ap (cost terms.opening) none ∙ cost-zeros terms.opening terms.goods in
    omega (arith, ints)

pub pays-same : (i : ℕ) (u : ℕ → List ℕ → ℤ) (terms : Terms) (clocks others : List ClockHistory) (o p : Outcome) → IsAmongTruthful i u terms clocks → IsOutcomeOf clocks (Settled o)
    → IsAmongTruthful i u terms others → IsOutcomeOf others (Settled p) → award_of terms o i ≡ award_of terms p i → payment_of terms o i ≡ payment_of terms p i
pays-same i u terms clocks others o p h is k are same =
    nearly-same terms.goods terms.opening u (all_bidders terms.bidders) o.prices p.prices (award_of terms o) (award_of terms p) i (payment_of terms o i) (payment_of terms p i)
    (one-of-all i terms.bidders h.from_one h.to_last) (truthful-nearly i u terms clocks o h is) (truthful-nearly i u terms others p k are) same
    (truthful-pays i u terms clocks o h is) (truthful-pays i u terms others p k are)

pub revenue-at-most : (u : ℕ → List ℕ → ℤ) (terms : Terms) (clocks : List ClockHistory) (o : Outcome) → ((i : ℕ) → 1 ≤ i → i ≤ terms.bidders → IsAmongTruthful i u terms clocks) → IsOutcomeOf clocks (Settled o)
    → sum_over (payment_of terms o) (all_bidders terms.bidders) ≤ℤ pos (cost o.prices (total_bundle terms.goods (award_of terms o) (all_bidders terms.bidders)))
revenue-at-most u terms clocks o h is =
    let e = cost-total terms.goods o.prices (award_of terms o) (all_bidders terms.bidders) in
    let m = sum-more (payment_of terms o) (λ j. pos (cost o.prices (award_of terms o j))) 1 terms.bidders (λ j low high. pays-at-most j u terms clocks o (h j low (omega arith)) is) in
    omega (arith, ints)

-- what a bidder among truthful others is charged
pub charged : (i : ℕ) (u : ℕ → List ℕ → ℤ) (terms : Terms) (clocks : List ClockHistory) (s : Settlement) → IsAmongTruthful i u terms clocks → IsOutcomeOf clocks s → IsChargedBy i u terms s
charged i u terms clocks (Settled o) h is = record {
  payment = truthful-pays i u terms clocks o h is;
  reserve = pays-reserve i u terms clocks o h is;
  price = pays-at-most i u terms clocks o h is;
  nothing = pays-nothing i u terms clocks o h is;
}
charged i u terms clocks (Open clock round missing) h is = tt
charged i u terms clocks (Halted clock good) h is = tt
charged i u terms clocks (NoAward clock) h is = tt
