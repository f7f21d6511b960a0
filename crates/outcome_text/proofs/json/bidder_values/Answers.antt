use Rattle.std.proofs.Common.{◌∙◌, ap}
use Rattle.serde_json.specs.Data.{array}
use Rattle.serde_json.specs.View.{items_view}
use Rattle.serde_json.proofs.Views.{view-Array}
use Rattle.outcome_text.specs.Json.{bidder_objects}
use Rattle.outcome_text.proofs.Items.{bidders-step, bidders-end}
use Rattle.outcome_text.proofs.json.bidder_values.Goals as goal

pub loop-place-preserved : goal.loop-place-preserved
loop-place-preserved c =
    bidders-step c.args.rows.now c.loop-place.place c.index-rows-place.result c.loop-place.values.items c.push.new.self.items c.in_ok-value.value (bidder_objects 1 c.args.rows.now)
    c.loop-place-test.true c.index-rows-place.is c.in_ok-value.ensures c.in_ok-push.ensures.items c.loop-place.invariant

pub returns : goal.returns
returns c =
    view-Array c.loop-place.values ∙ ap array (bidders-end c.args.rows.now c.loop-place.place (items_view c.loop-place.values.items) (bidder_objects 1 c.args.rows.now) c.loop-place-test.false c.loop-place.invariant)
