-- The first entry of a log: what is read there is the entry of a report of bundles that may be demanded, which is judged Take.
use Rattle.std.proofs.Common.{◌≡◌, ◌<◌, ◌≤◌, ℕ, ◌*◌, ◌/◌, Bool, true, false, ◌&&◌, ◌||◌, nat_lt, cond, List, ◌++◌, length, take, drop, Option, Some, None, Result, Ok, Err, refl, sym, ◌∙◌, ap, subst, arith, append_assoc, take-append-drop}
use Rattle.std.specs.Prelude.{nat_le}
use Rattle.byte_numbers.specs.Spelling.{big_bytes, big_number}
use Rattle.byte_numbers.proofs.Parts.{part_bytes}
use Rattle.byte_numbers.proofs.Spelled.{same_bytes}
use Rattle.std.specs.List.{flat_map}
use Rattle.std.proofs.lemmas.Bool.Decides.{nat_tests}
use Rattle.std.proofs.lemmas.List.{length-take-le}
use Rattle.std.proofs.Math.Nat.{mul-div_cancel}
use Rattle.lot_base.specs.Demands.{IsDemand}
use Rattle.demand_set.specs.declared.reports.Report.{Report}
use Rattle.demand_set.specs.declared.reading.DemandFault.{DemandFault}
use Rattle.demand_set.specs.Reading.{fault_from, unless, demand_of, bundles_of}
use Rattle.demand_set.proofs.Faults.{read-fits}
use Rattle.demand_set.proofs.Groups.{length-groups}
use Rattle.clock.specs.Reports.{ClockHistory}
use Rattle.clock.specs.Judging.{judgement_of}
use Rattle.clock.specs.declared.judging.Judgement.{Judgement}
use Rattle.clock.specs.declared.judging.Judgement.TheVariants.{Take, Again, NotMember, Early, Conflict, Over, NoRound}
use Rattle.recovery.proofs.Demands.{IsFound, found-by}
use Rattle.report_log.specs.Entries.{SpelledReport, spelled_in, taken, judged_in, report_in, payload_in, entry_in}
use Rattle.report_log.specs.Logs.{AreBytes, entry_of}
use Rattle.report_log.proofs.PlainPayloads.{payload-plain, plain_payload, quantity_bytes}
use Rattle.report_log.proofs.Quantities.{bytes-groups}
use Rattle.report_log.proofs.Payloads.{payload, IsWritten, spelled-written}

behind : {X : Type 0} (b : Bool) (o : Option X) (x : X) → cond b None o ≡ Some x → (b ≡ false) × (o ≡ Some x)
behind true o x e = absurd (let f : None ≡ Some x = e in cc)
behind false o x e = (refl, e)

inside : {X : Type 0} (b : Bool) (o : Option X) (x : X) → cond b o None ≡ Some x → (b ≡ true) × (o ≡ Some x)
inside true o x e = (refl, e)
inside false o x e = absurd (let f : None ≡ Some x = e in cc)

neither : (a b : Bool) → (a || b) ≡ false → (a ≡ false) × (b ≡ false)
neither true b e = absurd (let f : true ≡ false = e in cc)
neither false b e = (refl, e)

nothing : (p : Report × List ℕ) → None ≡ Some p → ⊥
nothing p e = cc

same-pair : (p q : Report × List ℕ) → Some p ≡ Some q → p ≡ q
same-pair p q e = cc

taken-is : (j : Judgement) (r s : Report) (rest tail : List ℕ) → taken j r rest ≡ Some (s, tail) → (j ≡ Take) × (r ≡ s) × (rest ≡ tail)
taken-is Take r s rest tail e = let same = same-pair (r, rest) (s, tail) e in (refl, ap (λ (p : Report × List ℕ). p.0) same, ap (λ (p : Report × List ℕ). p.1) same)
taken-is Again r s rest tail e = absurd (nothing (s, tail) e)
taken-is NotMember r s rest tail e = absurd (nothing (s, tail) e)
taken-is NoRound r s rest tail e = absurd (nothing (s, tail) e)
taken-is (Early n) r s rest tail e = absurd (nothing (s, tail) e)
taken-is (Over n) r s rest tail e = absurd (nothing (s, tail) e)
taken-is (Conflict n) r s rest tail e = absurd (nothing (s, tail) e)

-- the report that was judged is the one that was spelled
record IsJudged (c : ClockHistory) (s : SpelledReport) (found : Result (List (List ℕ)) DemandFault) (rest tail : List ℕ) (r : Report) : Type 0 where
  pub bidder_is : s.bidder ≡ r.bidder
  pub round_is : s.round ≡ r.round
  pub demand_is : found ≡ Ok r.demand
  pub take : judgement_of c r ≡ Take
  pub rest_is : rest ≡ tail

judged-is : (c : ClockHistory) (s : SpelledReport) (found : Result (List (List ℕ)) DemandFault) (rest tail : List ℕ) (r : Report) → judged_in c s found rest ≡ Some (r, tail) → IsJudged c s found rest tail r
judged-is c s (Err fault) rest tail r e = absurd (nothing (r, tail) e)
judged-is c s (Ok demand) rest tail r e =
    let made : Report = record { bidder = s.bidder; round = s.round; demand = demand } in
    let t = taken-is (judgement_of c made) made r rest tail e in
    record {
      bidder_is = ap (λ (x : Report). x.bidder) t.1;
      round_is = ap (λ (x : Report). x.round) t.1;
      demand_is = ap (λ (x : Report). Ok x.demand) t.1;
      take = subst (λ (x : Report). judgement_of c x ≡ Take) t.1 t.0;
      rest_is = t.2;
    }

-- the bytes begin with the entry of this report, which is judged Take
pub record IsFirst (c : ClockHistory) (bytes : List ℕ) (r : Report) (rest : List ℕ) : Type 0 where
  pub demand : IsDemand c.terms.goods r.demand
  pub take : judgement_of c r ≡ Take
  pub whole : bytes ≡ entry_of (length c.terms.goods) r ++ rest

-- the report of a payload
record IsSaid (c : ClockHistory) (whole behind : List ℕ) (r : Report) (rest : List ℕ) : Type 0 where
  pub demand : IsDemand c.terms.goods r.demand
  pub take : judgement_of c r ≡ Take
  pub payload_is : whole ≡ plain_payload (length c.terms.goods) r
  pub rest_is : behind ≡ rest

said-by : (c : ClockHistory) (whole behind : List ℕ) (s : SpelledReport) (r : Report) (rest : List ℕ) → IsWritten whole s → IsFound c.terms.goods s.goods (bundles_of s.goods s.quantities) r.demand
    → IsJudged c s (demand_of c.terms.goods s.goods (bundles_of s.goods s.quantities)) behind rest r → IsSaid c whole behind r rest
said-by c whole behind s r rest written found judged =
    let goods = length c.terms.goods in
    let n = length s.quantities / s.goods in
    let some : 0 < s.goods = (let g = written.some_good in omega arith) in
    let count : n ≡ written.count = ap (λ k. k / s.goods) written.whole ∙ mul-div_cancel written.count some in
    let groups_are : length (bundles_of s.goods s.quantities) ≡ n = length-groups n s.goods s.quantities in
    let in_groups : length s.quantities ≡ n * s.goods = written.whole ∙ ap (λ k. k * s.goods) (sym count) in
    let count_is : written.count ≡ length r.demand = sym count ∙ sym groups_are ∙ ap length found.same in
    let bytes_are : flat_map (big_bytes 2) s.quantities ≡ quantity_bytes r.demand = sym (bytes-groups n s.goods s.quantities in_groups) ∙ ap quantity_bytes found.same in
    let Q : ℕ → Type 0 = λ g. Ok r.demand ≡ unless (fault_from c.terms.goods 0 None (bundles_of g s.quantities)) (bundles_of g s.quantities) in
    let filled : 1 ≤ n = (let some = found.some in omega arith) in
    let R : ℕ → Type 0 = λ g. 1 ≤ length s.quantities / g in
    record {
      demand = read-fits c.terms.goods r.demand s.quantities (subst R found.goods_are filled) (subst Q found.goods_are found.without_fault);
      take = judged.take;
      payload_is = written.is ∙ (λ i. payload (judged.bidder_is i) (judged.round_is i) (found.goods_are i) (count_is i) (bytes_are i));
      rest_is = judged.rest_is;
    }

payload-said : (c : ClockHistory) (whole behind : List ℕ) (r : Report) (rest : List ℕ) → AreBytes whole → report_in c (spelled_in whole) behind ≡ Some (r, rest) → IsSaid c whole behind r rest
payload-said c whole behind r rest are e = by (spelled_in whole) refl e
  where
    by : (o : Option SpelledReport) → spelled_in whole ≡ o → report_in c o behind ≡ Some (r, rest) → IsSaid c whole behind r rest
    by None spells e = absurd (nothing (r, rest) e)
    by (Some s) spells e =
        let found = demand_of c.terms.goods s.goods (bundles_of s.goods s.quantities) in
        let h = inside (nat_le 1 s.bidder && nat_le s.bidder c.terms.bidders) (judged_in c s found behind) (r, rest) e in
        let judged = judged-is c s found behind rest r h.1 in
        said-by c whole behind s r rest (spelled-written whole s are spells) (found-by c.terms.goods s.goods (bundles_of s.goods s.quantities) r.demand judged.demand_is) judged

pub entry-said : (c : ClockHistory) (bytes : List ℕ) (r : Report) (rest : List ℕ) → AreBytes bytes → entry_in c bytes ≡ Some (r, rest) → IsFirst c bytes r rest
entry-said c bytes r rest are e =
    let size = big_number 4 (take 4 bytes) in
    let after = drop 4 bytes in
    let a = behind (nat_lt (length bytes) 4) (payload_in c size after) (r, rest) e in
    let b = behind (nat_lt 32768 size || nat_lt (length after) size) (report_in c (spelled_in (take size after)) (drop size after)) (r, rest) a.1 in
    let d = neither (nat_lt 32768 size) (nat_lt (length after) size) b.0 in
    let long : 4 ≤ length bytes = (let t = a.0 in grind (arith, nat_tests)) in
    let reaches : size ≤ length after = (let t = d.1 in grind (arith, nat_tests)) in
    let said = payload-said c (take size after) (drop size after) r rest (part_bytes bytes 4 size are) b.1 in
    let written = plain_payload (length c.terms.goods) r in
    let value : length written ≡ size = ap length (sym said.payload_is) ∙ length-take-le size after reaches in
    let front : big_bytes 4 (length written) ≡ take 4 bytes = same_bytes 4 (take 4 bytes) (length written) (length-take-le 4 bytes long) (part_bytes bytes 0 4 are) value in
    record {
      demand = said.demand;
      take = said.take;
      whole =
          sym (take-append-drop 4 bytes)
          ∙ ap (λ others. take 4 bytes ++ others) (sym (take-append-drop size after))
          ∙ sym (append_assoc (take 4 bytes) (take size after) (drop size after))
          ∙ (λ i. (sym front i ++ said.payload_is i) ++ said.rest_is i)
          ∙ ap (λ p. (big_bytes 4 (length p) ++ p) ++ rest) (sym (payload-plain c.terms.goods r c.terms.supply said.demand));
    }
