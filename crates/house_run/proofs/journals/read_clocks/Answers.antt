-- Clock by clock.
use Rattle.std.proofs.Common.{◌+◌, arith}
use Rattle.clock.specs.Reports.{histories}
use Rattle.house_run.specs.Seen.{shelf_seen}
use Rattle.house_run.proofs.JournalSteps.{ends-then, reading-more, tried}
use Rattle.house_run.proofs.journals.read_clocks.Goals as goal

pub returns-in-Err-clause-ends : goal.returns-in-Err-clause-ends
returns-in-Err-clause-ends g c =
    let whole = shelf_seen g.H.Shelf c.args.shelf.now c.read_journal.new.shelf in
    ends-then c.in-Err.fault whole c.args.terms.now c.args.digest.now c.args.journals.now c.clocks.clock (histories c.clocks.clocks.items) (g.H.Shelf.files c.clocks.shelf) (g.H.Shelf.faults c.clocks.shelf) (g.H.Shelf.opened c.clocks.shelf) c.clocks.invariant.steady c.clocks.invariant.from_journals c.read_journal.ensures.step c.in-Err.ensures.refused

pub returns-in-Err-clause-synced : goal.returns-in-Err-clause-synced
returns-in-Err-clause-synced g c =
    let whole = shelf_seen g.H.Shelf c.args.shelf.now c.read_journal.new.shelf in
    tried c.args.journals.now c.clocks.clock (c.args.terms.now.bidders + 1) whole (g.H.Shelf.files c.clocks.shelf) (g.H.Shelf.faults c.clocks.shelf) (g.H.Shelf.opened c.clocks.shelf) (let t = c.clocks-test.true in omega arith) (let t = c.clocks-test.true in let b = c.args.terms.now.bidders_in_range.at_most in omega arith) c.clocks.invariant.done.files c.clocks.invariant.done.names c.read_journal.ensures.step

pub returns-in_default-clause-synced : goal.returns-in_default-clause-synced
returns-in_default-clause-synced g c =
    let whole = shelf_seen g.H.Shelf c.args.shelf.now c.read_journal.new.shelf in
    tried c.args.journals.now c.clocks.clock (c.args.terms.now.bidders + 1) whole (g.H.Shelf.files c.clocks.shelf) (g.H.Shelf.faults c.clocks.shelf) (g.H.Shelf.opened c.clocks.shelf) (let t = c.clocks-test.true in omega arith) (let t = c.clocks-test.true in let b = c.args.terms.now.bidders_in_range.at_most in omega arith) c.clocks.invariant.done.files c.clocks.invariant.done.names c.read_journal.ensures.step

pub clocks-preserved : goal.clocks-preserved
clocks-preserved g c =
    let whole = shelf_seen g.H.Shelf c.args.shelf.now c.read_journal.new.shelf in
    reading-more whole c.args.terms.now c.args.digest.now c.args.journals.now c.clocks.clock c.clocks.clocks.items c.push.new.self.items c.in-Ok.read (g.H.Shelf.files c.clocks.shelf) (g.H.Shelf.faults c.clocks.shelf) (g.H.Shelf.opened c.clocks.shelf) (let t = c.clocks-test.true in let b = c.args.terms.now.bidders_in_range.at_most in omega arith) c.clocks.invariant.done c.clocks.invariant.steady c.clocks.invariant.from_journals
    c.read_journal.ensures.step c.in-Ok.ensures.opened c.in-Ok.ensures.steady c.in-Ok.ensures.read c.in-Ok-push.ensures.items
