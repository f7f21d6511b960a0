-- The turn of a session whose frame is a report that was answered Taken or Again.
use Rattle.std.proofs.Common.{◌≡◌, ◌⊎◌, inl, inr, ℕ, Bool, true, false, nat_eq, nat_lt, cond, List, Option, Some, None, Result, Ok, Err, arith, refl, sym, ◌∙◌, ap, subst}
use Rattle.demand_set.specs.Reading.{bundles_of, demand_of}
use Rattle.demand_set.specs.declared.reading.DemandFault.{DemandFault}
use Rattle.demand_set.specs.declared.reading.DemandFault.TheVariants as fault
use Rattle.lot_base.specs.declared.raw.RawDemand.{RawDemand}
use Rattle.auction_file.specs.declared.listing.Auction.{Auction}
use Rattle.clock.specs.declared.judging.Judgement.TheVariants as judged
use Rattle.clock.specs.declared.judging.Offered.{Offered}
use Rattle.clock.specs.declared.judging.Offered.TheVariants as said
use Rattle.clock_family.specs.Houses.{HousePassOf}
use Rattle.report_wire.specs.Frames.{Sent}
use Rattle.report_wire.specs.Messages.{bidder_kind, house_payload, house_sent}
use Rattle.report_wire.specs.declared.messages.ToBidder.{ToBidder}
use Rattle.report_wire.specs.declared.messages.ToHouse.{ToHouse}
use Rattle.report_wire.specs.declared.messages.ToHouse.TheVariants as house
use Rattle.report_wire.specs.declared.kinds.TheConstants.{HELLO, LOOK, REPORT, QUIT, TAKEN, AGAIN, REFUSED}
use Rattle.report_wire.specs.declared.refusals.TheConstants.{NO_HELLO, UNKNOWN_CLOCK, NOT_MEMBER, EARLY, CONFLICT, OVER, FULL, DISK_FAULT, NO_MEMORY, NO_ROUND}
use Rattle.session.specs.Asking.{IsPossible, question_of}
use Rattle.session.specs.Table.{demand_refusal, line_of, offered_reply, refusal, reply_of, report_line}
use Rattle.session.specs.Turns.{KeepsTo}
use Rattle.session.specs.declared.halls.Asked.{Asked}
use Rattle.session.specs.declared.halls.Asked.TheVariants as asked
use Rattle.session.specs.declared.halls.Question.TheVariants as question
use Rattle.session.specs.declared.table.Line.{Line}
use Rattle.session.specs.declared.table.Line.TheVariants.{Asks, Says}
use Rattle.house_serve.specs.Houses.{PassAllows}

-- the reply is one of these two kinds
abbrev pub IsYes : ToBidder → Type 0
IsYes reply = (bidder_kind reply ≡ TAKEN) ⊎ (bidder_kind reply ≡ AGAIN)

no-refusal : (reply : ToBidder) → bidder_kind reply ≡ REFUSED → IsYes reply → ⊥
no-refusal reply kind (inl taken) = omega (arith, kind, taken)
no-refusal reply kind (inr again) = omega (arith, kind, again)

demand-kind : (f : DemandFault) → bidder_kind (demand_refusal f) ≡ REFUSED
demand-kind fault.Empty = refl
demand-kind (fault.NotAscending place) = refl
demand-kind (fault.OutsideSupply place) = refl
demand-kind (fault.WrongGoods goods) = refl
demand-kind fault.NoMemory = refl

-- what was asked is an offer of this report to the clock, and was answered Taken or Again
abbrev pub IsYesTo : Option Asked → ℕ → ℕ → ℕ → List (List ℕ) → Type 0
IsYesTo o clock who round demand = (o ≡ Some (asked.Offer clock who round demand said.Taken)) ⊎ (o ≡ Some (asked.Offer clock who round demand said.Again))

module _ (clock who round : ℕ) (demand : List (List ℕ)) where
  by-answer : (answer : Offered) → IsPossible (asked.Offer clock who round demand answer) → IsYes (offered_reply clock round answer) → IsYesTo (Some (asked.Offer clock who round demand answer)) clock who round demand
  by-answer said.Taken possible agreed = inl refl
  by-answer said.Again possible agreed = inr refl
  by-answer (said.Refused judged.Take) possible agreed = absurd possible
  by-answer (said.Refused judged.Again) possible agreed = absurd possible
  by-answer (said.Refused judged.NotMember) possible agreed = absurd (no-refusal (refusal NOT_MEMBER clock) refl agreed)
  by-answer (said.Refused judged.NoRound) possible agreed = absurd (no-refusal (refusal NO_ROUND 0) refl agreed)
  by-answer (said.Refused (judged.Early last)) possible agreed = absurd (no-refusal (refusal EARLY last) refl agreed)
  by-answer (said.Refused (judged.Conflict last)) possible agreed = absurd (no-refusal (refusal CONFLICT last) refl agreed)
  by-answer (said.Refused (judged.Over last)) possible agreed = absurd (no-refusal (refusal OVER last) refl agreed)
  by-answer (said.Full needed) possible agreed = absurd (no-refusal (refusal FULL needed) refl agreed)
  by-answer said.DiskFault possible agreed = absurd (no-refusal (refusal DISK_FAULT 0) refl agreed)
  by-answer said.NoMemory possible agreed = absurd (no-refusal (refusal NO_MEMORY 0) refl agreed)

  by-asked : (a : Asked) → question_of a ≡ question.Offer clock who round demand → IsPossible a → IsYes (reply_of a) → IsYesTo (Some a) clock who round demand
  by-asked (asked.Look k look) e possible agreed = absurd (let no : ⊥ = cc in no)
  by-asked (asked.Offer k b n d answer) e possible agreed =
      let P : ℕ → ℕ → ℕ → List (List ℕ) → Type 0 = λ k b n d. IsPossible (asked.Offer k b n d answer) → IsYes (offered_reply k n answer) → IsYesTo (Some (asked.Offer k b n d answer)) clock who round demand in
      let ke : k ≡ clock = cc in
      let be : b ≡ who = cc in
      let ne : n ≡ round = cc in
      let de : d ≡ demand = cc in
      let here : P clock who round demand = by-answer answer in
      subst (λ z. P z b n d) (sym ke) (subst (λ z. P clock z n d) (sym be) (subst (λ z. P clock who z d) (sym ne) (subst (λ z. P clock who round z) (sym de) here))) possible agreed

module _ (before now : HousePassOf) (o : Option Asked) (reply : ToBidder) (agreed : IsYes reply) where
  abbrev Keeps : Line → Type 0
  Keeps line = KeepsTo PassAllows line o reply before now

  says-none : (one : ToBidder) (on : Bool) → bidder_kind one ≡ REFUSED → KeepsTo PassAllows (Says one on) o reply before now → ⊥
  says-none one on kind keeps = of o keeps
    where
      of : (x : Option Asked) → KeepsTo PassAllows (Says one on) x reply before now → ⊥
      of None (same, still) = no-refusal reply (ap bidder_kind same ∙ kind) agreed
      of (Some a) none = none

  at-line : (s t : Bool) (one other : ToBidder) (line : Line) → bidder_kind one ≡ REFUSED → bidder_kind other ≡ REFUSED → Keeps (cond s (Says one true) (cond t (Says other true) line)) → Keeps line
  at-line true t one other line kind kinds keeps = absurd (says-none one true kind keeps)
  at-line false true one other line kind kinds keeps = absurd (says-none other true kinds keeps)
  at-line false false one other line kind kinds keeps = keeps

  -- the demand was read, and offered
  pub record WasOffered (clock who round : ℕ) (read : Result (List (List ℕ)) DemandFault) : Type 0 where
    pub demand : List (List ℕ)
    pub read_is : read ≡ Ok demand
    pub asked_is : IsYesTo o clock who round demand

  by-line : (who clock round : ℕ) (read : Result (List (List ℕ)) DemandFault) → Keeps (report_line who clock round read) → WasOffered clock who round read
  by-line who clock round (Ok demand) keeps = record { demand = demand; read_is = refl; asked_is = of o keeps }
    where
      of : (x : Option Asked) → KeepsTo PassAllows (Asks (question.Offer clock who round demand)) x reply before now → IsYesTo x clock who round demand
      of None none = absurd none
      of (Some a) (same, is, possible, allowed) = by-asked clock who round demand a same possible (subst IsYes is agreed)
  by-line who clock round (Err f) keeps = absurd (says-none (demand_refusal f) true (demand-kind f) keeps)

  -- the session has a bidder, and this bidder's demand was offered
  pub record WasReported (value : Auction) (who : Option ℕ) (clock round : ℕ) (raw : RawDemand) : Type 0 where
    pub bidder : ℕ
    pub who_is : who ≡ Some bidder
    pub offered : WasOffered clock bidder round (demand_of value.terms.goods raw.goods (bundles_of raw.goods raw.quantities))

  -- what was asked in a turn of a report
  pub by-turn : (value : Auction) (who : Option ℕ) (clock round : ℕ) (raw : RawDemand) → Keeps (line_of value who (house.Report clock round raw)) → WasReported value who clock round raw
  by-turn value None clock round raw keeps = absurd (says-none (refusal NO_HELLO 0) true refl keeps)
  by-turn value (Some b) clock round raw keeps =
      let read = demand_of value.terms.goods raw.goods (bundles_of raw.goods raw.quantities) in
      record {
        bidder = b;
        who_is = refl;
        offered = by-line b clock round read (at-line (nat_lt value.terms.bidders clock) (nat_eq clock b) (refusal UNKNOWN_CLOCK clock) (refusal NOT_MEMBER clock) (report_line b clock round read) refl refl keeps);
      }

-- a frame that says what the frame of a report says is one of a report
pub record IsReportFrame (frame : ToHouse) (s : Sent) : Type 0 where
  pub clock : ℕ
  pub round : ℕ
  pub raw : RawDemand
  pub is : frame ≡ house.Report clock round raw
  pub payload : house_payload (house.Report clock round raw) ≡ s.payload

pub report-frame : (frame : ToHouse) (s : Sent) → s.kind ≡ REPORT → house_sent frame ≡ s → IsReportFrame frame s
report-frame (house.Hello who token) s kind e = absurd (let k : HELLO ≡ s.kind = ap (λ (x : Sent). x.kind) e in omega (arith, k, kind))
report-frame (house.Look clock) s kind e = absurd (let k : LOOK ≡ s.kind = ap (λ (x : Sent). x.kind) e in omega (arith, k, kind))
report-frame (house.Report clock round raw) s kind e = record { clock = clock; round = round; raw = raw; is = refl; payload = ap (λ (x : Sent). x.payload) e }
report-frame house.Quit s kind e = absurd (let k : QUIT ≡ s.kind = ap (λ (x : Sent). x.kind) e in omega (arith, k, kind))
