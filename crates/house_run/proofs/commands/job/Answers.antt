use Rattle.std.proofs.Common.{subst, sym}
use Rattle.command_line.specs.CommandView.{command_as}
use Rattle.command_line.specs.declared.words.CommandWords.{CommandWords}
use Rattle.house_run.specs.Ends.{JobAnswer}
use Rattle.house_run.specs.Nets.{net_seen}
use Rattle.house_run.specs.Seen.{outside}
use Rattle.house_run.proofs.commands.job.Goals as goal

pub returns-in-Migrate-clause-answer : goal.returns-in-Migrate-clause-answer
returns-in-Migrate-clause-answer g c =
    let seen = outside g.H.Shelf c.args.shelf.now c.job-in-Migrate.new.shelf in
    let net = net_seen g.N.Net c.args.net.now c.args.net.now in
    subst (λ (words : CommandWords). JobAnswer (command_as words) seen net c.job-in-Migrate.result) (sym c.in-Migrate.is) (c.job-in-Migrate.ensures.answer net)
