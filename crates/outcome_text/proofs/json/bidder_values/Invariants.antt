use Rattle.std.proofs.Common.{◌≡◌, ◌+◌, drop}
use Rattle.serde_json.specs.View.{items_view}
use Rattle.outcome_text.specs.Json.{bidder_objects}
use Rattle.outcome_text.proofs.Items.{then}
use Rattle.outcome_text.proofs.json.bidder_values.Given as goal

abbrev pub invariant-loop-place : goal.invariant-loop-place
invariant-loop-place l = then (items_view l.values.items) (bidder_objects (l.place + 1) (drop l.place l.rows)) ≡ bidder_objects 1 l.rows
