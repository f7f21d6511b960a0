use Rattle.outcome_text.proofs.PlainLines.{outcome-written}
use Rattle.outcome_text.proofs.plain.whole_text.Goals as goal

pub returns : goal.returns
returns c =
    outcome-written c.args.outcome.now c.count-goods.result c.as_slice-rows.result.now c.as_slice.result.now _ _ _ _ _ _ c.count-goods.ensures c.as_slice-rows.ensures c.as_slice.ensures
    c.in_ok-text.ensures.ok c.in_ok-write_prices.ensures c.in_ok-writeln.ensures.bytes c.in_ok-write_opening.ensures c.in_ok-write_rows.ensures c.in_ok-write_clocks.ensures
