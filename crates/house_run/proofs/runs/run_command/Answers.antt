-- A job that was done has its text written, and another one the line of its end.
use Rattle.command_line.specs.CommandView.{command_as}
use Rattle.house_run.specs.Nets.{net_seen}
use Rattle.house_run.specs.Seen.{outside}
use Rattle.house_run.proofs.Telling.{job-done, job-ends}
use Rattle.house_run.proofs.runs.run_command.Goals as goal

pub returns-in-Ok : goal.returns-in-Ok
returns-in-Ok g c =
    let seen = outside g.H.Shelf c.args.shelf.now c.job.new.shelf in
    let net = net_seen g.N.Net c.args.net.now c.job.new.net in
    job-done (command_as c.args.command.now) seen net _ _ _ _ c.in-Ok.ensures.answer c.in-Ok.ensures.frame c.in-Ok.ensures.net_frame c.deref.ensures.value c.deliver.ensures

pub returns-in-Err : goal.returns-in-Err
returns-in-Err g c =
    let seen = outside g.H.Shelf c.args.shelf.now c.job.new.shelf in
    let net = net_seen g.N.Net c.args.net.now c.job.new.net in
    job-ends (command_as c.args.command.now) seen net _ c.in-Err.ended _ c.in-Err.ensures.answer c.in-Err.ensures.frame c.in-Err.ensures.net_frame c.deliver_line.ensures
