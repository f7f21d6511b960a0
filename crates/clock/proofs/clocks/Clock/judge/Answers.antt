-- The function of the history gives the judgement of the table.
use Rattle.std.proofs.Common.{sym, subst}
use Rattle.demand_set.specs.declared.reports.Report.{Report}
use Rattle.clock.specs.Judging.{IsJudgement}
use Rattle.clock.proofs.Judges.{judgement-is}
use Rattle.clock.proofs.clocks.Clock.judge.Goals as goal

pub returns-clause-judgement : goal.returns-clause-judgement
returns-clause-judgement c =
    let r : Report = record { bidder = c.args.bidder; round = c.args.round; demand = c.args.demand.now } in
    subst (IsJudgement c.args.self.now.history r) (sym c.judged.ensures) (judgement-is c.args.self.now.history r)
