use Rattle.std.proofs.Common.{arith}
use Rattle.report_journal.proofs.Prefixes.{first_gate_with}
use Rattle.report_journal.proofs.headers.Header.first_gate.Goals as goal

pub returns-in-Some : goal.returns-in-Some
returns-in-Some c = omega (arith, first_gate_with c.args.self.now c.in-Some.opening c.requires c.in-Some.is, c.count.ensures)
