-- The line is what was written, one write after another.
use Rattle.outcome_text.proofs.StandingLine.{standing-written}
use Rattle.outcome_text.proofs.standing.standing_text.Goals as goal

pub returns : goal.returns
returns c =
    standing-written c.args.clock c.args.look.now.round c.args.look.now.phase c.args.look.now.prices c.args.missing _ _ _ _ _ _
    c.in_ok-text.ensures.ok c.in_ok-write_phase.ensures c.in_ok-write.ensures.bytes c.in_ok-write_prices.ensures c.in_ok-write_missing.ensures c.in_ok-write-2.ensures.bytes
