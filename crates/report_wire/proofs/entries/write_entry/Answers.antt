use Rattle.std.proofs.Common.{arith, subst, sym, ◌≡◌, true, List, ℕ, ◌++◌, ◌∙◌, ap, length}
use Rattle.std.specs.Prelude.{nat_le}
use Rattle.std.proofs.lemmas.Bool.{and_from}
use Rattle.std.proofs.lemmas.Bool.Decides.{nat_tests}
use Rattle.report_wire.specs.Entries.{entry_payload, is_entry}
use Rattle.byte_numbers.proofs.Pairs.{length-pairs}
use Rattle.report_wire.proofs.Spelling.{whole_is_formed}
use Rattle.report_wire.proofs.entries.write_entry.Goals as goal

pub push_report-requires-clause-few : goal.push_report-requires-clause-few
push_report-requires-clause-few c = let n = length-pairs c.args.report.now.demand.quantities in let s = c.requires.short in omega (arith, n)

pub returns-in-Ok-push_report : goal.returns-in-Ok-push_report
returns-in-Ok-push_report c =
    let n = length-pairs c.args.report.now.demand.quantities in
    let s = c.requires.short in
    let r = c.args.report.now in
    let same = c.in-Ok-push_report.ensures ∙ ap (λ (l : List ℕ). l ++ entry_payload r) c.in-Ok.ensures.items in
    let short : nat_le (length (entry_payload r)) 32768 ≡ true = grind (arith, nat_tests) in
    let formed = whole_is_formed r.bidder r.round r.demand.goods r.demand.quantities c.requires.whole (omega (arith, n)) in
    (same, subst (λ (l : List ℕ). is_entry l ≡ true) (sym same) (and_from _ _ short formed))
