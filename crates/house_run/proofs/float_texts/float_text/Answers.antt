use Rattle.std.proofs.Common.{◌≡◌, ◌∙◌, ◌++◌, ap, string_bytes}
use Rattle.outcome_text.specs.Lines.{text_of}
use Rattle.outcome_text.specs.Plain.{bidder_lines}
use Rattle.house_run.specs.FloatCommand.{turn_lines}
use Rattle.house_run.proofs.Floating.{float-written}
use Rattle.house_run.proofs.float_texts.float_text.Goals as goal

pub returns : goal.returns
returns c =
    let terms = c.args.terms.now in
    let floated = c.args.floated.now in
    let rows = ap (λ rs. string_bytes c.writeln.new.self ++ text_of (bidder_lines 1 rs)) c.as_slice.ensures in
    let turns : string_bytes c.write_rows.new.text ++ text_of (turn_lines terms.bidders 0 c.as_slice-2.result.now c.as_slice-3.result.now) ≡ string_bytes c.write_rows.new.text ++ text_of (turn_lines terms.bidders 0 floated.clocks.items floated.choices) =
    (λ i. string_bytes c.write_rows.new.text ++ text_of (turn_lines terms.bidders 0 (c.as_slice-2.ensures.value i) (c.as_slice-3.ensures i))) in
    float-written terms c.count-goods.result c.args.start.now floated.prices floated.clocks.items floated.rows floated.choices _ _ _ _ _ _ _ c.count-goods.ensures.length
    c.in_ok-text.ensures.ok c.in_ok-write_prices.ensures c.in_ok-write.ensures.bytes c.in_ok-write_prices-2.ensures c.in_ok-writeln.ensures.bytes (c.in_ok-write_rows.ensures ∙ rows) (c.in_ok-write_turns.ensures ∙ turns)
