use Rattle.std.proofs.Common.{arith, refl, sym, subst, ◌≤◌, length}
use Rattle.lot_base.specs.declared.raw.RawReport.{RawReport}
use Rattle.report_wire.specs.Entries.{IsWhole, entry_payload}
use Rattle.report_wire_tests.proofs.tests.entry.Goals as goal

pub write_entry-requires-clause-whole : goal.write_entry-requires-clause-whole
write_entry-requires-clause-whole c =
    subst (λ (r : RawReport). IsWhole r.demand.goods r.demand.quantities) (sym c.in-Ok.ensures) (record { some_good = omega arith; few_goods = omega arith; count = 1; whole = refl })

pub write_entry-requires-clause-short : goal.write_entry-requires-clause-short
write_entry-requires-clause-short c = subst (λ (r : RawReport). length (entry_payload r) ≤ 32768) (sym c.in-Ok.ensures) (omega arith)
