use Rattle.std.proofs.Common.{◌∙◌, ap}
use Rattle.serde_json.specs.Data.{array}
use Rattle.serde_json.specs.View.{items_view}
use Rattle.serde_json.proofs.Views.{view-Array}
use Rattle.outcome_text.specs.Json.{clock_objects}
use Rattle.outcome_text.proofs.Items.{clocks-step, clocks-end}
use Rattle.outcome_text.proofs.json.clock_values.Goals as goal

pub loop-clock-preserved : goal.loop-clock-preserved
loop-clock-preserved c =
    clocks-step c.args.bidders c.args.clocks.now c.loop-clock.clock c.index-clocks-clock.result c.loop-clock.values.items c.push.new.self.items c.in_ok-value.value (clock_objects c.args.bidders 0 c.args.clocks.now)
    c.loop-clock-test.true c.index-clocks-clock.is c.in_ok-value.ensures c.in_ok-push.ensures.items c.loop-clock.invariant

pub returns : goal.returns
returns c =
    view-Array c.loop-clock.values
    ∙ ap array (clocks-end c.args.bidders c.args.clocks.now c.loop-clock.clock (items_view c.loop-clock.values.items) (clock_objects c.args.bidders 0 c.args.clocks.now) c.loop-clock-test.false c.loop-clock.invariant)
