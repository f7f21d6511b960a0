-- A payload whose quantities are those of a report that moves on spells that report.
use Rattle.std.proofs.Common.{◌≡◌, ◌≢◌, ◌<◌, ◌≤◌, ◌^◌, ℕ, Bool, true, false, not, ◌&&◌, List, length, nat_eq, Result, Ok, Err, sym, ◌∙◌, subst, arith}
use Rattle.std.specs.Prelude.{nat_le, IfOk}
use Rattle.std.proofs.lemmas.Bool.Decides.{nat_tests}
use Rattle.byte_numbers.specs.Spelling.{short_numbers}
use Rattle.lot_base.specs.Demands.{IsDemand}
use Rattle.lot_base.specs.declared.auction_terms.Terms.{Terms}
use Rattle.lot_base.proofs.Within.{both}
use Rattle.demand_set.specs.declared.reports.Report.{Report}
use Rattle.report_wire.specs.Payloads.{report_payload}
use Rattle.clock.specs.Reports.{ClockHistory, ClockOf}
use Rattle.clock.specs.Standing.{last_round, phase_of}
use Rattle.clock.specs.Judging.{is_member}
use Rattle.clock.specs.Repeats.{TakesAgain}
use Rattle.clock.proofs.Append.{take-says}
use Rattle.recovery.specs.Entries.{payload_of}
use Rattle.clock_book.specs.Repeats.{TakesPayload}

-- a member is a bidder
record IsBidder (c : ClockHistory) (bidder : ℕ) : Type 0 where
  pub from_one : 1 ≤ bidder
  pub to_last : bidder ≤ c.terms.bidders

member-bidder : (c : ClockHistory) (bidder : ℕ) → is_member c bidder ≡ true → IsBidder c bidder
member-bidder c bidder member =
    let h = both (nat_le 1 bidder) (nat_le bidder c.terms.bidders && not (nat_eq bidder c.number)) member in
    let k = both (nat_le bidder c.terms.bidders) (not (nat_eq bidder c.number)) h.1 in
    record { from_one = (let t = h.0 in grind (arith, nat_tests)); to_last = (let t = k.0 in grind (arith, nat_tests)) }

pub takes-payload : (old new : ClockOf) (terms : Terms) (bidder round goods : ℕ) (quantities : List ℕ) → old.history.terms ≡ terms → goods ≡ length terms.goods → round < 2 ^ 32 → TakesAgain old new bidder round quantities
    → TakesPayload old new terms (report_payload bidder round goods (short_numbers quantities))
unfolding payload_of
takes-payload old new terms bidder round goods quantities terms_are goods_are fits again =
    let r : Report = record { bidder = bidder; round = round; demand = again.demand } in
    let says = take-says old.history (last_round old.history) (phase_of old.history) r again.taken in
    let is = member-bidder old.history bidder says.0 in
    record {
      report = r;
      spells = record {
        report = record {
          from_one = is.from_one;
          to_last = subst (λ (t : Terms). bidder ≤ t.bidders) terms_are is.to_last;
          round = fits;
          fits = subst (λ (t : Terms). IsDemand t.goods again.demand) terms_are again.fits;
        };
        is = λ i. report_payload bidder round (goods_are i) (again.quantities_are i);
      };
      taken = again.taken;
      applied_is = again.applied_is;
    }

-- an answer that is not that it was done
pub not-done : {E : Type 0} (done : Bool) → done ≡ false → let answer : Result Bool E = Ok done in answer ≢ Ok true
not-done done left same = (let f : false ≡ true = sym left ∙ (let g : done ≡ true = cc in g) in cc)

-- what was done is told otherwise
pub if-done : {E A B : Type 0} (answer : Result Bool E) → (A → B) → IfOk answer (λ done. done ≡ true → A) → IfOk answer (λ done. done ≡ true → B)
if-done (Ok done) so was = λ yes. so (was yes)
if-done (Err e) so was = tt
