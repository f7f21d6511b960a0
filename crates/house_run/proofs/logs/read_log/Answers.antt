use Rattle.house_run.specs.Seen.{shelf_seen}
use Rattle.house_run.proofs.Closing.{closed-again}
use Rattle.house_run.proofs.LogSteps.{read-at}
use Rattle.house_run.proofs.logs.read_log.Goals as goal

pub returns-clause-reads : goal.returns-clause-reads
returns-clause-reads g c =
    let shelf = shelf_seen g.H.Shelf c.args.shelf.now c.close_source.new.self in
    closed-again c.args.name.now _ shelf _ _ _ c.source.ensures.files c.source.ensures.opening.counts c.in-Ok.ensures.opening.names c.close_source.ensures.files c.close_source.ensures.counts c.close_source.ensures.names

pub returns-clause-read : goal.returns-clause-read
returns-clause-read g c =
    let shelf = shelf_seen g.H.Shelf c.args.shelf.now c.close_source.new.self in
    read-at c.args.terms.now c.read_source-answer.result _ shelf _ _ c.args.name.now c.in-Ok.ensures.bytes c.close_source.ensures.files c.close_source.ensures.told c.read_source-answer.ensures.read
