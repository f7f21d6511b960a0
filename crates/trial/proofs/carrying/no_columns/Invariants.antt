use Rattle.std.proofs.Common.{◌≡◌, ◌<◌, ℕ, length, Option}
use Rattle.std.specs.Prelude.{slice_index_or, IfSome}
use Rattle.valuation.specs.Carried.{IsColumn}
use Rattle.valuation.specs.declared.columns.Column.{Column}
use Rattle.trial.proofs.carrying.no_columns.Given as goal

abbrev pub invariant-loop-set : goal.invariant-loop-set
invariant-loop-set l = record {
  count : length l.columns.items ≡ l.set;
  each : (set : ℕ) (other : Option Column) → set < length l.columns.items → IfSome (slice_index_or l.columns.items set other) (λ c. IsColumn l.fn.goods set c.units.items);
}
