use Rattle.std.proofs.Common.{◌≡◌, drop}
use Rattle.serde_json.specs.View.{items_view}
use Rattle.outcome_text.specs.Json.{clock_objects}
use Rattle.outcome_text.proofs.Items.{then}
use Rattle.outcome_text.proofs.json.clock_values.Given as goal

abbrev pub invariant-loop-clock : goal.invariant-loop-clock
invariant-loop-clock l = then (items_view l.values.items) (clock_objects l.bidders l.clock (drop l.clock l.clocks)) ≡ clock_objects l.bidders 0 l.clocks
