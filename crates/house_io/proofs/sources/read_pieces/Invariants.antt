use Rattle.std.proofs.Common.{◌≡◌, ◌≤◌, ◌+◌, ◌-◌, length, vec_len}
use Rattle.house_io.specs.Told.{IfTold}
use Rattle.house_io.proofs.Reading.{Took}
use Rattle.house_io.proofs.sources.read_pieces.Given as goal

-- the text is what was taken
abbrev pub invariant-pulls : goal.invariant-pulls
invariant-pulls g l = record {
  count : g.R.Source.faults l.source ≡ g.R.Source.faults l.initial.source;
  few : vec_len l.text ≤ l.limit + 1;
  size : length l.text.items ≡ vec_len l.text;
  taken : IfTold (g.R.Source.left l.initial.source) (g.R.Source.left l.source) (Took l.text.items);
}

abbrev pub decreases-pulls : goal.decreases-pulls
decreases-pulls g l = l.limit + 1 - vec_len l.text
