use Rattle.std.proofs.Common.{◌≡◌, ◌≤◌, ◌+◌, ◌*◌, ◌^◌, drop}
use Rattle.valuation.specs.Forms.{total}
use Rattle.valuation.proofs.forms.total_of.Given as goal

abbrev pub invariant-loop-number : goal.invariant-loop-number
invariant-loop-number l = record {
  so_far : l.sum + total (drop l.number-index l.numbers) ≡ total l.numbers;
  small : l.sum ≤ l.number-index * 2 ^ 32;
}
