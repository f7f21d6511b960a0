use Rattle.std.proofs.Common.{arith, ◌≡◌, ◌∙◌, ap, ℕ, ◌+◌, ◌*◌, List, [], ◌∷◌, ◌++◌, length, append_assoc}
use Rattle.byte_numbers.specs.Spelling.{big_bytes}
use Rattle.report_wire.specs.Payloads.{report_payload}
use Rattle.report_wire.specs.declared.kinds.TheConstants.{REPORT}
use Rattle.byte_numbers.proofs.Pairs.{length-pairs}
use Rattle.report_wire.proofs.to_house.push_report_frame.Goals as goal

pub overflow_cast-length : goal.overflow_cast-length
overflow_cast-length c = let n = length-pairs c.args.demand.now.quantities in let s = c.requires.short in let e = ap length c.as_slice.ensures in omega (arith, n, e)

pub push_report-requires-clause-few : goal.push_report-requires-clause-few
push_report-requires-clause-few c = let n = length-pairs c.args.demand.now.quantities in let s = c.requires.short in omega (arith, n)

pub returns : goal.returns
returns c =
    let payload = report_payload c.args.clock c.args.round c.args.demand.now.goods c.args.demand.now.quantities in
    let n = length-pairs c.args.demand.now.quantities in
    let e = ap length c.as_slice.ensures in
    let size : 8 + 2 * length c.as_slice.result.now ≡ length payload = omega (arith, n, e) in
    c.in_ok-push_report.ensures ∙ ap (λ (l : List ℕ). l ++ payload) c.in_ok-push_head.ensures
    ∙ append_assoc c.args.bytes.now.items (big_bytes 4 (8 + 2 * length c.as_slice.result.now) ++ REPORT ∷ []) payload
    ∙ ap (λ (k : ℕ). c.args.bytes.now.items ++ (big_bytes 4 k ++ REPORT ∷ payload)) size
