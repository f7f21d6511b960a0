use Rattle.std.proofs.Common.{◌∙◌, arith}
use Rattle.report_journal.proofs.Prefixes.{headed, headless, unread}
use Rattle.report_journal.proofs.scanning.read_front.Goals as goal

pub returns-in-Some-clause-front : goal.returns-in-Some-clause-front
returns-in-Some-clause-front g c told =
    let read = c.in_ok-count.ensures.bytes told in
    headed _ c.read_first.new.into c.in_ok-count.count (omega (arith, read.0)) read.1 c.if-count-lt-SHORTEST_FORMED.false c.if-bytes.false c.in-Some.header c.in-Some.ensures

pub returns-in-None-clause-front : goal.returns-in-None-clause-front
returns-in-None-clause-front g c told =
    let read = c.in_ok-count.ensures.bytes told in (
      headless _ c.read_first.new.into c.in_ok-count.count (omega (arith, read.0)) read.1 c.if-count-lt-SHORTEST_FORMED.false c.if-bytes.false c.in-None.ensures,
      c.unread_header.ensures.value ∙ unread _ c.read_first.new.into c.in_ok-count.count (omega (arith, read.0)) read.1 c.if-count-lt-SHORTEST_FORMED.false c.if-bytes.false,
    )
