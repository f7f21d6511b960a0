use Rattle.std.proofs.Common.{◌≡◌, ◌≤◌, ◌-◌, List, ℕ, drop, length}
use Rattle.report_log.specs.Pieces.{IsUpTo}
use Rattle.report_log.proofs.entries.take_entries.Given as goal

abbrev pub invariant-entries : goal.invariant-entries
invariant-entries l = record {
  terms : l.clock.history.terms ≡ l.terms;
  within : length l.rest ≤ length l.bytes;
  behind : l.rest ≡ drop (length l.bytes - length l.rest) l.bytes;
  up_to : (all : List ℕ) → IsUpTo l.terms l.fn.clock.history all l.bytes → IsUpTo l.terms l.clock.history all l.rest;
}

abbrev pub decreases-entries : goal.decreases-entries
decreases-entries l = length l.rest
