use Rattle.std.proofs.Common.{◌≡◌, inr, length, arith, rules}
use Rattle.report_journal.proofs.Gates.{size, stands, damaged}
use Rattle.report_journal.proofs.Prefixes.{header_within}
use Rattle.report_journal.proofs.scanning.scan_records.Goals as goal

pub read_records-requires-clause-limit : goal.read_records-requires-clause-limit
read_records-requires-clause-limit g c = omega (arith, c.first_gate.ensures, header_within c.args.header c.requires.header)

pub returns-then-found-clause-found : goal.returns-then-found-clause-found
returns-then-found-clause-found g c told =
    let has = c.requires.has_it (c.read_records.ensures.reads.later.told told) in
    let are = rw (c.first_gate.ensures) at (c.in_ok-found.ensures.found told).0 in
    let ends = rw (c.if-found.true) at (c.in_ok-found.ensures.found told).1 in
    rw c.from_vec-records.ensures (
      stands _ c.args.header has _ _ are c.in_ok-found.ensures.places.limit ends,
      are.placed,
      size _ c.args.header has _ _ are c.in_ok-found.ensures.places.limit,
    )

pub returns-else-found-clause-found : goal.returns-else-found-clause-found
returns-else-found-clause-found g c told =
    let has = c.requires.has_it (c.read_records.ensures.reads.later.told told) in
    let are = rw (c.first_gate.ensures) at (c.in_ok-found.ensures.found told).0 in
    let ends = rw (c.if-found.false) at (c.in_ok-found.ensures.found told).1 in
    let count : c.len.result ≡ length c.in_ok-found.found.places.items = search rules in
    rw c.from_vec-records.ensures (inr (omega (arith, count), damaged _ c.args.header has _ _ are c.in_ok-found.ensures.places.limit ends.0 ends.1, are.placed))
