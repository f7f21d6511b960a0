use Rattle.std.proofs.Common.{arith}
use Rattle.valuation.proofs.Collected.{IfOk-weaker}
use Rattle.valuation.proofs.FileRead.{given-ok, given-err, file-tables}
use Rattle.valuation.proofs.reader.read.Goals as goal

pub returns-clause-read : goal.returns-clause-read
returns-clause-read c = given-ok (λ v. v.items) c.values_in.result _ c.values_in.ensures

pub returns-clause-refused : goal.returns-clause-refused
returns-clause-refused c = given-err (λ v. v.items) c.values_in.result _ c.values_in.ensures

pub returns-clause-count : goal.returns-clause-count
returns-clause-count c =
    let t = c.args.terms.now in
    let low = t.ceiling_in_range.at_least in
    IfOk-weaker _ _ (λ v is. (file-tables t.goods t.bidders t.ceiling c.args.bytes.now v.items (omega (arith, low)) is).0) c.values_in.result (given-ok (λ v. v.items) c.values_in.result _ c.values_in.ensures)

pub returns-clause-tables : goal.returns-clause-tables
returns-clause-tables c =
    let t = c.args.terms.now in
    let low = t.ceiling_in_range.at_least in
    IfOk-weaker _ _ (λ v is. (file-tables t.goods t.bidders t.ceiling c.args.bytes.now v.items (omega (arith, low)) is).1) c.values_in.result (given-ok (λ v. v.items) c.values_in.result _ c.values_in.ensures)
