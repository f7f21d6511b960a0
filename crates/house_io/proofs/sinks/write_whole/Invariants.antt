use Rattle.std.proofs.Common.{◌≡◌, ◌++◌, List, ℕ, length}
use Rattle.house_io.specs.Told.{IfTold}
use Rattle.house_io.proofs.Writing.{Appends}
use Rattle.house_io.proofs.sinks.write_whole.Given as goal

-- what was written is the text before the rest
abbrev pub invariant-loop-rest : goal.invariant-loop-rest
invariant-loop-rest g l = record {
  count : g.S.Sink.faults l.sink ≡ g.S.Sink.faults l.initial.sink;
  text : (done : List ℕ) × (l.text ≡ done ++ l.rest) × IfTold (g.S.Sink.written l.initial.sink) (g.S.Sink.written l.sink) (Appends done);
}

abbrev pub decreases-loop-rest : goal.decreases-loop-rest
decreases-loop-rest g l = length l.rest
