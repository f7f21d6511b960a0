use Rattle.std.proofs.Common.{◌≤◌, length, rules}
use Rattle.report_journal.proofs.Chunked.{copied_held}
use Rattle.report_journal.proofs.chunks.read_head.Goals as goal

pub returns-then-has-clause-bytes : goal.returns-then-has-clause-bytes
returns-then-has-clause-bytes g c told =
    let chunk = c.args.chunk.now in
    let held = c.has.ensures c.if-has.true in
    let within : chunk.filled ≤ length chunk.bytes.items = search rules in
    copied_held chunk.bytes.items _ chunk.at chunk.filled c.args.gate c.copy.result c.copy.new.head (c.requires.chunk told) within held.0 held.1 c.copy.ensures.count c.copy.ensures.bytes
