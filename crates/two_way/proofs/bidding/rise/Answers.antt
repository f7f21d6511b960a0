use Rattle.std.proofs.Common.{◌≡◌, ◌≤◌, ◌∙◌, ℕ, List, length, true, sym, ap, subst, arith}
use Rattle.std.specs.Prelude.{nat_le}
use Rattle.std.proofs.lemmas.Bool.Decides.{nat_tests}
use Rattle.lot_base.specs.Economy.{demand}
use Rattle.lot_base.specs.Goods.{raised}
use Rattle.trial.specs.Following.{Follows}
use Rattle.two_way.proofs.bidding.rise.Goals as goal

some-step : (n : ℕ) → nat_le 1 n ≡ true → 1 ≤ n
some-step n e = grind (arith, nat_tests)

pub returns-clause-risen : goal.returns-clause-risen
returns-clause-risen c =
    let old = c.args.bidder.now.follower in
    let ready = c.in_ok-catch_up.ensures.ready in
    let left = c.left.ensures in
    let goods : c.left.new.self.supply ≡ old.supply = left.goods ∙ ready.goods in
    record {
      goods = c.step.ensures.goods ∙ goods;
      follows = λ v p long follows.
          let now = left.follows v p (long ∙ ap length (sym ready.goods)) (ready.follows v p long follows) in
          let F : ℕ → Type 0 = λ set. Follows c.step.new.self v (raised p set) in
          subst F left.set (c.step.ensures.follows v p (long ∙ ap length (sym goods)) now);
      stays = λ stays v p long follows.
          let now = left.follows v p (long ∙ ap length (sym ready.goods)) (ready.follows v p long follows) in
          let D : List ℕ → Type 0 = λ supply. demand supply v (raised p c.args.set.0) ≡ demand supply v p in
          subst D goods (left.steady v p (long ∙ ap length (sym ready.goods)) now 1 (some-step c.left.result stays));
    }
