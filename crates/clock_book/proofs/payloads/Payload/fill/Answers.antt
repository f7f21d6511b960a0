use Rattle.std.proofs.Common.{◌≡◌, ◌≤◌, ◌+◌, ◌-◌, ◌∙◌, List, ℕ, ◌++◌, length, take, drop, refl, sym, ap, arith, append_assoc}
use Rattle.std.specs.List.{concat}
use Rattle.std.proofs.lemmas.List.{take_at}
use Rattle.std.proofs.Math.Seq.{take-append-add}
use Rattle.clock_book.proofs.Sizes.{payload-length}
use Rattle.report_wire.specs.Payloads.{report_payload}
use Rattle.recovery.specs.Entries.{payload_of}
use Rattle.recovery.proofs.Demands.{demand-few, demand-whole}
use Rattle.demand_set.specs.declared.reports.Report.{Report}
use Rattle.clock_book.proofs.payloads.Payload.fill.Goals as goal

is-payload : (goods : ℕ) (r : Report) → payload_of goods r ≡ report_payload r.bidder r.round goods (concat r.demand)
unfolding payload_of
is-payload goods r = refl

pub entry_to-filled-requires-clause-whole : goal.entry_to-filled-requires-clause-whole
entry_to-filled-requires-clause-whole c =
    let terms = c.args.terms.now in
    rw (c.count.ensures.length, c.quantities.ensures.value) (demand-whole terms.goods c.args.report.now.demand terms.supply c.requires)

pub entry_to-filled-requires-clause-short : goal.entry_to-filled-requires-clause-short
entry_to-filled-requires-clause-short c =
    let terms = c.args.terms.now in
    let few = demand-few terms.goods c.args.report.now.demand terms.supply c.requires in
    omega (arith, few, ap length c.quantities.ensures.value)

pub entry_to-filled-requires-clause-room : goal.entry_to-filled-requires-clause-room
entry_to-filled-requires-clause-room c =
    let terms = c.args.terms.now in
    let few = demand-few terms.goods c.args.report.now.demand terms.supply c.requires in
    omega (arith, few, ap length c.quantities.ensures.value, ap length c.deref_mut.ensures.value, c.self.invariant.1)

filled : (p rest into more : List ℕ) (n len : ℕ) → into ≡ p ++ rest → n ≡ length p → length p ≤ len → take n (take len (into ++ more)) ≡ p
filled p rest into more n len is count within =
    let e : len ≡ length p + (len - length p) = omega (arith, within) in
    let g : into ++ more ≡ p ++ (rest ++ more) = ap (λ (l : List ℕ). l ++ more) is ∙ append_assoc p rest more in
    ap (λ (l : List ℕ). take n (take len l)) g ∙ ap (λ (k : ℕ). take n (take k (p ++ (rest ++ more)))) e ∙ ap (λ (l : List ℕ). take n l) (take-append-add p (rest ++ more) (len - length p))
    ∙ take_at p (take (len - length p) (rest ++ more)) n (sym count)

pub returns-clause-payload : goal.returns-clause-payload
returns-clause-payload c =
    let terms = c.args.terms.now in
    let r = c.args.report.now in
    let goods = length terms.goods in
    let bytes = c.self.inside.bytes in
    let n = payload-length goods r in
    let few = demand-few terms.goods r.demand terms.supply c.requires in
    let p = payload_of goods r in
    let same : report_payload r.bidder r.round c.count.result c.quantities.result.now ≡ p =
    (λ i. report_payload r.bidder r.round (c.count.ensures.length i) (c.quantities.ensures.value i)) ∙ sym (is-payload goods r) in
    let rest = drop c.entry_to-filled.result c.deref_mut.result.now in
    filled p rest c.entry_to-filled.new.into (drop (length c.entry_to-filled.new.into) bytes.items) c.entry_to-filled.result bytes.len
    (c.entry_to-filled.ensures.spelled ∙ ap (λ (l : List ℕ). l ++ rest) same) (c.entry_to-filled.ensures.length ∙ ap length same) (omega (arith, n, few, c.self.invariant.1, bytes.ok))
