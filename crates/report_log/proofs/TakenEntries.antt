-- What lies at the front of bytes, by how they were cut: the entry of a report, the front of one, or neither whatever follows.
use Rattle.std.proofs.Common.{◌≡◌, ◌∙◌, ◌≤◌, ◌<◌, ◌+◌, ◌^◌, ℕ, List, ◌++◌, length, take, drop, refl, sym, ap, subst, arith, append_assoc, length-append, length-drop, take-append-drop}
use Rattle.byte_numbers.specs.Spelling.{big_bytes, big_number}
use Rattle.byte_numbers.proofs.Parts.{part_bytes}
use Rattle.byte_numbers.proofs.Spelled.{read_back, same_bytes}
use Rattle.std.proofs.lemmas.List.{length-take-le, take_at, take-append-le}
use Rattle.lot_base.specs.Demands.{IsDemand}
use Rattle.lot_base.specs.declared.auction_terms.Terms.{Terms}
use Rattle.demand_set.specs.declared.reports.Report.{Report}
use Rattle.clock.specs.Reports.{ClockHistory}
use Rattle.clock.specs.Judging.{judgement_of}
use Rattle.clock.specs.declared.judging.Judgement.TheVariants.{Take}
use Rattle.recovery.specs.Entries.{payload_of, Spells}
use Rattle.report_log.specs.Logs.{AreBytes, entry_of}
use Rattle.report_log.specs.Pieces.{HasNoEntry, IsEntry, IsFaulty}
use Rattle.report_log.proofs.LastRound.{in-round, small-round}
use Rattle.report_log.proofs.PlainPayloads.{payload-small}

-- how the front of the bytes was cut: a size, a payload of that length, and the rest
pub record IsCut (bytes payload rest : List ℕ) (size : ℕ) : Type 0 where
  pub long : 4 ≤ length bytes
  pub size_is : size ≡ big_number 4 (take 4 bytes)
  pub reaches : size ≤ length (drop 4 bytes)
  pub payload_is : payload ≡ take size (drop 4 bytes)
  pub rest_is : rest ≡ drop size (drop 4 bytes)

pub cut-by : (bytes front after payload rest : List ℕ) (size : ℕ) → 4 ≤ length bytes → front ≡ take 4 bytes → after ≡ drop 4 bytes → size ≡ big_number 4 front → size ≤ length after → payload ≡ take size after → rest ≡ drop size after
    → IsCut bytes payload rest size
cut-by bytes front after payload rest size long front_is after_is size_is reaches payload_is rest_is = record {
  long = long;
  size_is = size_is ∙ ap (big_number 4) front_is;
  reaches = subst (λ (xs : List ℕ). size ≤ length xs) after_is reaches;
  payload_is = payload_is ∙ ap (take size) after_is;
  rest_is = rest_is ∙ ap (drop size) after_is;
}

whole-entry : (bytes payload rest : List ℕ) (size : ℕ) → AreBytes bytes → IsCut bytes payload rest size → bytes ≡ (big_bytes 4 (length payload) ++ payload) ++ rest
whole-entry bytes payload rest size are cut =
    let after = drop 4 bytes in
    let value : length payload ≡ big_number 4 (take 4 bytes) = ap length cut.payload_is ∙ length-take-le size after cut.reaches ∙ cut.size_is in
    let front : big_bytes 4 (length payload) ≡ take 4 bytes = same_bytes 4 (take 4 bytes) (length payload) (length-take-le 4 bytes cut.long) (part_bytes bytes 0 4 are) value in
    sym (take-append-drop 4 bytes) ∙ ap (λ others. take 4 bytes ++ others) (sym (take-append-drop size after)) ∙ sym (append_assoc (take 4 bytes) (take size after) (drop size after))
    ∙ (λ i. (sym front i ++ sym cut.payload_is i) ++ sym cut.rest_is i)

-- payloads that are written after their lengths
same-payload : (p q more rest : List ℕ) → length p < 2 ^ 32 → length q < 2 ^ 32 → (big_bytes 4 (length p) ++ p) ++ more ≡ (big_bytes 4 (length q) ++ q) ++ rest → p ≡ q
same-payload p q more rest small few e =
    let n : length p ≡ length q = sym (read_back 4 (length p) small) ∙ ap (λ bs. big_number 4 (take 4 bs)) e ∙ read_back 4 (length q) few in
    sym (take_at p more (length p) refl) ∙ ap (λ bs. take (length p) (drop 4 bs)) e ∙ take_at q rest (length p) (sym n)

-- how long the entry of a report is, and which length it says
record IsThere (terms : Terms) (bytes : List ℕ) (r : Report) (rest : List ℕ) : Type 0 where
  pub small : length (payload_of (length terms.goods) r) ≤ 32768
  pub says : big_number 4 (take 4 bytes) ≡ length (payload_of (length terms.goods) r)
  pub long : length bytes ≡ 4 + (length (payload_of (length terms.goods) r) + length rest)

there : (terms : Terms) (bytes : List ℕ) (r : Report) (rest : List ℕ) → IsDemand terms.goods r.demand → bytes ≡ entry_of (length terms.goods) r ++ rest → IsThere terms bytes r rest
there terms bytes r rest fits whole =
    let q = payload_of (length terms.goods) r in
    let small = payload-small terms.goods r terms.supply fits in
    let says = ap (λ bs. big_number 4 (take 4 bs)) whole ∙ read_back 4 (length q) (omega (arith, small)) in
    record { small = small; says = says; long = omega (arith, ap length whole, length-append q rest) }

pub too-short : (terms : Terms) (c : ClockHistory) (bytes : List ℕ) → length bytes < 4 → HasNoEntry terms c bytes
too-short terms c bytes few r rest fits judged whole = let t = there terms bytes r rest fits whole in omega (arith, t.long)

pub cut-short : (terms : Terms) (c : ClockHistory) (bytes : List ℕ) (size : ℕ) → size ≡ big_number 4 (take 4 bytes) → length (drop 4 bytes) < size → HasNoEntry terms c bytes
cut-short terms c bytes size size_is few r rest fits judged whole = let t = there terms bytes r rest fits whole in omega (arith, t.long, t.says, length-drop 4 bytes)

pub too-long : (terms : Terms) (c : ClockHistory) (bytes : List ℕ) (size : ℕ) → 4 ≤ length bytes → size ≡ big_number 4 (take 4 bytes) → 32768 < size → IsFaulty terms c bytes
too-long terms c bytes size long size_is much = record {
  some = omega arith;
  no_entry = λ more r rest fits judged whole.
      let t = there terms (bytes ++ more) r rest fits whole in
      let same = size_is ∙ ap (big_number 4) (sym (take-append-le 4 bytes more long)) ∙ t.says in
      omega (arith, t.small, same, much);
}

spelled : (terms : Terms) (c : ClockHistory) (payload : List ℕ) (r : Report) → c.terms ≡ terms → IsDemand terms.goods r.demand → judgement_of c r ≡ Take → payload ≡ payload_of (length terms.goods) r → Spells terms payload r
spelled terms c payload r same fits judged is =
    let member = (in-round c r judged).member in
    let last : r.bidder ≤ terms.bidders = subst (λ (t : Terms). r.bidder ≤ t.bidders) same member.to_last in
    record { report = record { from_one = member.from_one; to_last = last; round = small-round c r judged; fits = fits }; is = is }

pub no-report : (terms : Terms) (c : ClockHistory) (bytes payload rest : List ℕ) (size : ℕ) → c.terms ≡ terms → AreBytes bytes → IsCut bytes payload rest size → size ≤ 32768
    → ((r : Report) → Spells terms payload r → judgement_of c r ≡ Take → ⊥) → IsFaulty terms c bytes
no-report terms c bytes payload rest size same are cut few none = record {
  some = (let l = cut.long in omega arith);
  no_entry = λ more r behind fits judged whole.
      let long : length payload ≡ size = ap length cut.payload_is ∙ length-take-le size (drop 4 bytes) cut.reaches in
      let small = payload-small terms.goods r terms.supply fits in
      let head = big_bytes 4 (length payload) ++ payload in
      let e = sym (append_assoc head rest more) ∙ ap (λ bs. bs ++ more) (sym (whole-entry bytes payload rest size are cut)) ∙ whole in
      let is = same-payload payload (payload_of (length terms.goods) r) (rest ++ more) behind (omega (arith, long, few)) (omega (arith, small)) e in
      none r (spelled terms c payload r same fits judged is) judged;
}

pub taken-entry : (terms : Terms) (c : ClockHistory) (bytes payload rest : List ℕ) (size : ℕ) (r : Report) → AreBytes bytes → IsCut bytes payload rest size → Spells terms payload r → judgement_of c r ≡ Take → IsEntry terms c bytes r rest
taken-entry terms c bytes payload rest size r are cut spells judged =
    let whole : bytes ≡ entry_of (length terms.goods) r ++ rest = whole-entry bytes payload rest size are cut ∙ ap (λ p. (big_bytes 4 (length p) ++ p) ++ rest) spells.is in
    let t = there terms bytes r rest spells.report.fits whole in
    record { demand = spells.report.fits; take = judged; whole = whole; shorter = omega (arith, t.long) }
