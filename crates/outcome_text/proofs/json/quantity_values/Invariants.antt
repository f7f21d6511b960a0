use Rattle.std.proofs.Common.{◌≡◌, drop}
use Rattle.serde_json.specs.View.{items_view}
use Rattle.outcome_text.specs.Json.{counts}
use Rattle.outcome_text.proofs.Items.{then}
use Rattle.outcome_text.proofs.json.quantity_values.Given as goal

abbrev pub invariant-loop-good : goal.invariant-loop-good
invariant-loop-good l = then (items_view l.values.items) (counts (drop l.good l.bundle)) ≡ counts l.bundle
