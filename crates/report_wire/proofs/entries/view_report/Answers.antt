use Rattle.std.proofs.Common.{arith, ◌≡◌, ◌≤◌, ◌<◌, ◌∙◌, ap, true, List, ℕ, ◌*◌, ◌+◌, length, get_or, mul_comm, drop, length-drop}
use Rattle.std.specs.Prelude.{nat_le, ◌&&◌}
use Rattle.std.proofs.lemmas.Bool.{and_parts}
use Rattle.std.proofs.lemmas.Bool.Decides.{nat_tests}
use Rattle.report_wire.specs.Payloads.{is_report_payload, goods_in, bundles_in, is_between}
use Rattle.std.specs.List.{flat_map}
use Rattle.byte_numbers.specs.Spelling.{big_bytes, short_numbers}
use Rattle.byte_numbers.proofs.Parts.{later_bytes}
use Rattle.byte_numbers.proofs.Pairs.{length-short_numbers, pairs_again}
use Rattle.report_wire.proofs.Pairs.{pair-spelled}
use Rattle.report_wire.proofs.Spelling.{entry_is}
use Rattle.report_wire.proofs.entries.view_report.Goals as goal

pub returns : goal.returns
returns c =
    let payload = c.args.payload.now in
    let are : (k : ℕ) → get_or payload k 0 < 256 = (λ k. let f = c.type_inv.payload k in omega arith) in
    let formed : is_report_payload payload ≡ true = (let e = c.is_report.ensures in let f = c.if-not-is_report.false in grind (arith, nat_tests)) in
    let t = and_parts (nat_le 8 (length payload) && is_between 1 6 (goods_in payload)) _ formed in
    let u = and_parts (nat_le 8 (length payload)) (is_between 1 6 (goods_in payload)) t.0 in
    let v = and_parts (nat_le 1 (goods_in payload)) (nat_le (goods_in payload) 6) u.1 in
    let long : 8 ≤ length payload = (let w = u.0 in grind (arith, nat_tests)) in
    let low : 1 ≤ get_or payload 5 0 = (let w = v.0 in grind (arith, nat_tests)) in
    let high : get_or payload 5 0 ≤ 6 = (let w = v.1 in grind (arith, nat_tests)) in
    let all : length payload ≡ 8 + 2 * (get_or payload 5 0 * bundles_in payload) = (let w = t.1 in grind (arith, nat_tests)) in
    let body : length (drop 8 payload) ≡ 2 * (get_or payload 5 0 * bundles_in payload) = (let n = length-drop 8 payload in omega (arith, n, all)) in
    let size : length (short_numbers (drop 8 payload)) ≡ get_or payload 5 0 * bundles_in payload = length-short_numbers _ (drop 8 payload) body in
    let behind : c.split_at.result.1.now ≡ drop 8 payload = c.split_at.ensures.back in
    let sized : length (short_numbers c.split_at.result.1.now) ≡ get_or payload 5 0 * bundles_in payload = ap (λ (l : List ℕ). length (short_numbers l)) behind ∙ size in (
      formed,
      entry_is payload (short_numbers c.split_at.result.1.now) c.number_of.result (bundles_in payload) long low c.number_of.ensures.spelled (pair-spelled payload 6 are long) sized
          (ap (λ (l : List ℕ). flat_map (big_bytes 2) (short_numbers l)) behind ∙ pairs_again _ (drop 8 payload) body (later_bytes payload 8 are)),
      record { some_good = low; few_goods = high; count = bundles_in payload; whole = sized ∙ mul_comm _ _ },
    )
