use Rattle.clock.specs.Reports.{ClockOf, histories}
use Rattle.settlement.proofs.Histories.{at-histories, drop-histories}
use Rattle.std.proofs.Common.{◌≡◌, List, ◌∙◌, sym, ap, length, get_or}
use Rattle.settlement.proofs.Auction.{first-count, first-small}
use Rattle.settlement.proofs.outcome_of.Goals as goal

pub award_rows-requires-clause-count : goal.award_rows-requires-clause-count
award_rows-requires-clause-count c =
    let row : c.index-as_slice-0.result ≡ get_or c.args.rows 0 c.index-as_slice-0.result = c.index-as_slice-0.is ∙ ap (λ rows. get_or rows 0 c.index-as_slice-0.result) c.as_slice.ensures in
    first-count c.args.terms.now (histories c.args.clocks.now) c.args.rows c.index-clocks-0.result.history c.index-as_slice-0.result c.requires.clocks c.requires.rows (at-histories c.args.clocks.now 0 c.index-clocks-0.result c.index-clocks-0.is) row ∙ ap length (drop-histories c.args.clocks.now 1) ∙ ap (λ (cs : List ClockOf). length (histories cs)) (sym c.split_at.ensures.back)

pub award_rows-requires-clause-small : goal.award_rows-requires-clause-small
award_rows-requires-clause-small c =
    let row : c.index-as_slice-0.result ≡ get_or c.args.rows 0 c.index-as_slice-0.result = c.index-as_slice-0.is ∙ ap (λ rows. get_or rows 0 c.index-as_slice-0.result) c.as_slice.ensures in
    first-small c.args.terms.now (histories c.args.clocks.now) c.args.rows c.index-clocks-0.result.history c.index-as_slice-0.result c.requires.clocks c.requires.rows (at-histories c.args.clocks.now 0 c.index-clocks-0.result c.index-clocks-0.is) row
