use Rattle.std.proofs.Common.{◌≡◌, ◌<◌, ◌∙◌, [], ℕ, List, get_or, length, ap, refl, subst, sym, arith}
use Rattle.std.specs.Prelude.{slice_index_or}
use Rattle.valuation.specs.Carried.{AreLowCosts}
use Rattle.trial.proofs.Telling.{get-same}
use Rattle.two_way.specs.Bidding.{IsRenewed}
use Rattle.two_way.specs.declared.bidding.Bidder.{Bidder}
use Rattle.two_way.proofs.Moving.{is-next, next-moved}
use Rattle.two_way.proofs.bidding.renew_all.Goals as goal

pub loop-place-preserved : goal.loop-place-preserved
loop-place-preserved c =
    let place = c.loop-place.place in
    let all = c.args.valuations.now in
    let old = c.args.bidders.now.items in
    let now = c.loop-place.bidders.items in
    let prices = c.args.prices.now in
    let was = c.loop-place.invariant in
    let M : ℕ → Bidder → Bidder → Type 0 = λ k. IsRenewed (slice_index_or all k []) prices in
    let inside : place < length old = (let k = was.count in omega (arith, k, c.loop-place-test.true)) in
    let here = c.index_mut.ensures.value in
    let next = is-next M place old now c.index_mut.result.now was inside in
    let supply = ap (λ (b : Bidder). b.follower.supply) (here ∙ next) ∙ c.requires.goods place inside in
    let value : c.index-valuations-place.result ≡ get_or all place [] = c.index-valuations-place.is ∙ get-same all place _ [] (omega (arith, inside, c.requires.count)) in
    let A : List ℕ → Type 0 = λ g. AreLowCosts g prices c.in_ok-costs.costs in
    let V : List ℕ → Type 0 = λ v. IsRenewed v prices c.index_mut.result.now c.renew.new.bidder in
    let B : Bidder → Type 0 = λ b. IsRenewed (get_or all place []) prices b c.renew.new.bidder in
    let renewed = c.renew.ensures prices (subst A (sym supply) c.in_ok-costs.ensures) in
    next-moved M place old now _ c.index_mut.result.now c.renew.new.bidder was inside refl (subst B here (subst V value renewed))
