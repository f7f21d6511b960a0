use Rattle.std.proofs.Common.{◌≡◌, drop}
use Rattle.clock.specs.Reports.{members}
use Rattle.clock.proofs.Members.{members_from}
use Rattle.serde_json.specs.View.{items_view}
use Rattle.outcome_text.specs.Json.{choice_objects}
use Rattle.outcome_text.proofs.Items.{then}
use Rattle.outcome_text.proofs.json.choice_values.Given as goal

abbrev pub invariant-loop-step : goal.invariant-loop-step
invariant-loop-step l = then (items_view l.values.items) (choice_objects (members_from l.step l.bidders l.clock) (drop l.place l.choices)) ≡ choice_objects (members l.bidders l.clock) l.choices
