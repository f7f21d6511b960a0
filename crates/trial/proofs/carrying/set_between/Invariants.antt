use Rattle.std.proofs.Common.{◌≡◌, ◌<◌, ◌-◌, ◌^◌, ℕ, length, drop}
use Rattle.lot_base.specs.Goods.{raised}
use Rattle.trial.proofs.carrying.set_between.Given as goal

abbrev pub invariant-loop-place : goal.invariant-loop-place
invariant-loop-place l = record {
  small : l.set < 2 ^ l.place;
  whole : (set : ℕ) → set < 2 ^ l.place → drop (length l.before - l.place) l.after ≡ raised (drop (length l.before - l.place) l.before) set → l.set ≡ set;
}
