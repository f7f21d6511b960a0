use Rattle.std.proofs.Common.{◌≡◌, ◌+◌, ◌-◌, ◌∙◌, [], ℕ, List, get_or, sym, ap, subst, arith, rules}
use Rattle.valuation.specs.Values.{valuation_of}
use Rattle.trial.specs.Bidding.{bidders_of}
use Rattle.trial.specs.Following.{Followed, Follows}
use Rattle.trial.specs.Rounds.{IsFollowed}
use Rattle.trial.proofs.Members.{next-pushed}
use Rattle.trial.proofs.Telling.{get-same}
use Rattle.trial.proofs.carrying.followers_at.Goals as goal

pub loop-place-preserved : goal.loop-place-preserved
loop-place-preserved c =
    let goods = c.args.terms.now.goods in
    let all = c.args.valuations.now in
    let place = c.loop-place.place in
    let P : ℕ → Followed → Type 0 = λ k f. IsFollowed goods (bidders_of goods all (k + 1)) c.args.prices.now f in
    let back : place + 1 - 1 ≡ place = omega arith in
    let value : c.index-valuations-place.result ≡ get_or all (place + 1 - 1) [] = c.index-valuations-place.is ∙ get-same all place _ [] c.loop-place-test.true ∙ ap (λ k. get_or all k []) (sym back) in
    let F : List ℕ → Type 0 = λ v. Follows c.in_ok-follower.follower (valuation_of goods v) c.args.prices.now in
    record {
      count = search rules;
      each = next-pushed P place c.loop-place.followers.items c.push.new.self.items c.in_ok-follower.follower c.in_ok-push.ensures.items c.loop-place.invariant.count c.loop-place.invariant.each
          (record { over = c.in_ok-follower.ensures.goods; follows = subst F value c.in_ok-follower.ensures.follows });
    }
