use Rattle.std.proofs.Common.{string_bytes, rules, w64, SFits}
use Rattle.std.proofs.lemmas.Int.{to_z-of_z}
use Rattle.std.proofs.lemmas.Result.{on_ok_weaker}
use Rattle.settlement.specs.declared.outcome.AwardRow.{AwardRow}
use Rattle.outcome_text.proofs.PlainLines.{row-written}
use Rattle.outcome_text.proofs.plain.write_row.Goals as goal

pub returns : goal.returns
returns c =
    let row : AwardRow = record { award = c.args.award.now; debit = c.args.debit; credit = c.args.credit; pays = c.args.pays } in
    let debit : SFits w64 c.args.debit = search rules in
    let credit : SFits w64 c.args.credit = search rules in
    let pays : SFits w64 c.args.pays = search rules in
    on_ok_weaker c.writeln.result
    (row-written c.args.bidder row _ _ _ (string_bytes c.args.text.now) _ _ _ _ _ _ (to_z-of_z w64 c.args.debit debit) (to_z-of_z w64 c.args.credit credit) (to_z-of_z w64 c.args.pays pays)
    c.in_ok-write.ensures.bytes c.in_ok-write_bundle.ensures c.in_ok-write_amount.ensures c.in_ok-write_amount-2.ensures c.in_ok-write_amount-3.ensures)
    c.writeln.ensures.bytes
