use Rattle.std.proofs.Common.{◌∙◌, ap, arith}
use Rattle.serde_json.specs.Data.{array}
use Rattle.serde_json.specs.View.{items_view}
use Rattle.serde_json.proofs.Views.{view-Array}
use Rattle.outcome_text.specs.Json.{counts}
use Rattle.outcome_text.proofs.Items.{counts-step, counts-end}
use Rattle.outcome_text.proofs.json.price_values.Goals as goal

pub loop-good-preserved : goal.loop-good-preserved
loop-good-preserved c =
    counts-step c.args.prices.now c.loop-good.good c.get.result c.loop-good.values.items c.push.new.self.items c.from.result (counts c.args.prices.now) (omega arith) c.get.ensures c.from.ensures c.in_ok-push.ensures.items c.loop-good.invariant

pub returns : goal.returns
returns c =
    view-Array c.loop-good.values ∙ ap array (counts-end c.args.prices.now c.loop-good.good (items_view c.loop-good.values.items) (counts c.args.prices.now) (omega arith) c.loop-good.invariant)
