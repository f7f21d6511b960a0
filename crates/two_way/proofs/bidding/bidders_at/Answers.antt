use Rattle.std.proofs.Common.{◌≡◌, ◌+◌, ◌-◌, ◌∙◌, [], ℕ, List, get_or, refl, sym, ap, subst, arith}
use Rattle.valuation.specs.Values.{valuation_of}
use Rattle.trial.specs.Bidding.{bidders_of}
use Rattle.trial.specs.Following.{Follows}
use Rattle.trial.proofs.Telling.{get-same}
use Rattle.two_way.proofs.Moving.{next-made}
use Rattle.two_way.proofs.bidding.bidders_at.Goals as goal

pub loop-place-preserved : goal.loop-place-preserved
loop-place-preserved c =
    let goods = c.args.terms.now.goods in
    let all = c.args.valuations.now in
    let place = c.loop-place.place in
    let back : place + 1 - 1 ≡ place = omega arith in
    let value : c.index-valuations-place.result ≡ get_or all (place + 1 - 1) [] = c.index-valuations-place.is ∙ get-same all place _ [] c.loop-place-test.true ∙ ap (λ k. get_or all k []) (sym back) in
    let F : List ℕ → Type 0 = λ v. Follows c.in_ok-follower.follower (valuation_of goods v) c.args.prices.now in
    next-made goods (bidders_of goods all) c.args.prices.now place c.loop-place.bidders.items c.push.new.self.items _ c.loop-place.invariant c.in_ok-push.ensures.items
    (record { over = c.in_ok-follower.ensures.goods; follows = subst F value c.in_ok-follower.ensures.follows }) refl
