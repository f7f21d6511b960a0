use Rattle.std.proofs.Common.{◌∙◌, inl, inr, sym, arith}
use Rattle.report_journal.proofs.Gates.{five}
use Rattle.report_journal.proofs.heads.next_record.Goals as goal

pub returns-then-length-gt-GREATEST_PAYLOAD-clause-found : goal.returns-then-length-gt-GREATEST_PAYLOAD-clause-found
returns-then-length-gt-GREATEST_PAYLOAD-clause-found g c told =
    let read = c.in_ok-count.ensures.bytes told in
    let is = five _ c.read_whole_head.new.head c.args.gate c.in_ok-count.count c.if-count-lt5.false read.0 read.1 in
    (is.head ∙ c.if-bytes.false, inr (inl (rw is.bytes (omega (arith, c.if-length-gt-GREATEST_PAYLOAD.true, c.number_of-length.ensures.value)))))

pub returns-then-end-gt-GREATEST_FILE-clause-found : goal.returns-then-end-gt-GREATEST_FILE-clause-found
returns-then-end-gt-GREATEST_FILE-clause-found g c told =
    let read = c.in_ok-count.ensures.bytes told in
    let is = five _ c.read_whole_head.new.head c.args.gate c.in_ok-count.count c.if-count-lt5.false read.0 read.1 in
    (is.head ∙ c.if-bytes.false, rw is.bytes (inr (inr (inr (omega (arith, c.if-end-gt-GREATEST_FILE.true, c.number_of-length.ensures.value))))))
