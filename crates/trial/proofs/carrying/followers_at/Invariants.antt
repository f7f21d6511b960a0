use Rattle.std.proofs.Common.{◌≡◌, ◌<◌, ◌+◌, ℕ, length}
use Rattle.trial.specs.Bidding.{bidders_of}
use Rattle.trial.specs.Rounds.{IsFollowed, follower_at}
use Rattle.trial.proofs.carrying.followers_at.Given as goal

abbrev pub invariant-loop-place : goal.invariant-loop-place
invariant-loop-place l = record {
  count : length l.followers.items ≡ l.place;
  each : (place : ℕ) → place < l.place → IsFollowed l.terms.goods (bidders_of l.terms.goods l.valuations (place + 1)) l.prices (follower_at l.followers.items place);
}
