use Rattle.std.proofs.Common.{◌≡◌, ◌<◌, ◌-◌, ◌^◌, length, drop}
use Rattle.lot_base.specs.Goods.{raised}
use Rattle.two_way.proofs.bidding.raised_on.Given as goal

abbrev pub invariant-loop-place : goal.invariant-loop-place
invariant-loop-place l = record {
  small : l.set < 2 ^ l.place;
  risen : drop (length l.before - l.place) l.after ≡ raised (drop (length l.before - l.place) l.before) l.set;
}
