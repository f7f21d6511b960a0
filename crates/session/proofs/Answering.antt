-- What follows from a line of the table.
use Rattle.std.proofs.Common.{◌≡◌, ℕ, Bool, true, false, cond, List, Option, Some, None, refl, ◌∙◌, ap, subst}
use Rattle.std.specs.Prelude.{Result, Ok, Err, nat_lt, ◌==◌}
use Rattle.demand_set.specs.Reading.{demand_of, bundles_of}
use Rattle.demand_set.specs.declared.reading.DemandFault.{DemandFault}
use Rattle.auction_file.specs.declared.listing.Auction.{Auction}
use Rattle.report_wire.specs.declared.refusals.TheConstants.{UNKNOWN_CLOCK, NOT_MEMBER}
use Rattle.report_wire.specs.declared.messages.ToHouse.{ToHouse}
use Rattle.report_wire.specs.declared.messages.ToHouse.TheVariants as house
use Rattle.report_wire.specs.declared.messages.ToBidder.{ToBidder}
use Rattle.session.specs.declared.halls.Asked.{Asked}
use Rattle.session.specs.declared.halls.Question.TheVariants as question
use Rattle.session.specs.declared.table.Line.{Line}
use Rattle.session.specs.declared.table.Line.TheVariants.{Says, Asks}
use Rattle.clock.specs.declared.judging.Judgement.{Judgement}
use Rattle.clock.specs.declared.judging.Judgement.TheVariants.{Take, Again, NotMember, Early, Conflict, Over, NoRound}
use Rattle.clock.specs.declared.judging.Offered.{Offered}
use Rattle.clock.specs.declared.judging.Offered.TheVariants as offered
use Rattle.session.specs.Asking.{question_of, IsPossible, IsOffered, IsRefusal}
use Rattle.session.specs.Table.{line_of, at_clock, report_line, goes_on, bidder_after, greeted, knows, reply_of, refusal}
use Rattle.session.specs.Turns.{KeepsTo, IsTurn}

abbrev on_of : Line → Bool
on_of (Says reply on) = on
on_of (Asks asked) = true

cond_on : (b : Bool) (x y : Line) → on_of x ≡ true → on_of y ≡ true → on_of (cond b x y) ≡ true
cond_on true x y p q = p
cond_on false x y p q = q

at_clock_on : (bidders who clock : ℕ) (line : Line) → on_of line ≡ true → on_of (at_clock bidders who clock line) ≡ true
at_clock_on bidders who clock line p =
    cond_on (nat_lt bidders clock) (Says (refusal UNKNOWN_CLOCK clock) true) (cond (clock == who) (Says (refusal NOT_MEMBER clock) true) line) refl (cond_on (clock == who) (Says (refusal NOT_MEMBER clock) true) line refl p)

report_on : (who clock round : ℕ) (read : Result (List (List ℕ)) DemandFault) → on_of (report_line who clock round read) ≡ true
report_on who clock round (Ok demand) = refl
report_on who clock round (Err fault) = refl

hello_on : (b : Bool) (x y : ToBidder) → on_of (cond b (Says x true) (Says y false)) ≡ b
hello_on true x y = refl
hello_on false x y = refl

line_goes_on : (auction : Auction) (who : Option ℕ) (frame : ToHouse) → on_of (line_of auction who frame) ≡ goes_on auction who frame
line_goes_on auction None (house.Hello claimed token) = hello_on (knows auction claimed token) _ _
line_goes_on auction (Some b) (house.Hello claimed token) = refl
line_goes_on auction None (house.Look clock) = refl
line_goes_on auction (Some b) (house.Look clock) = at_clock_on auction.terms.bidders b clock (Asks (question.Look clock)) refl
line_goes_on auction None (house.Report clock round demand) = refl
line_goes_on auction (Some b) (house.Report clock round demand) =
    at_clock_on auction.terms.bidders b clock (report_line b clock round (demand_of auction.terms.goods demand.goods (bundles_of demand.goods demand.quantities)))
    (report_on b clock round (demand_of auction.terms.goods demand.goods (bundles_of demand.goods demand.quantities)))
line_goes_on auction None house.Quit = refl
line_goes_on auction (Some b) house.Quit = refl

-- a reply goes on as the frame says
pub says_on : (auction : Auction) (who : Option ℕ) (frame : ToHouse) (reply : ToBidder) (on : Bool) → Says reply on ≡ line_of auction who frame → on ≡ goes_on auction who frame
says_on auction who frame reply on e = ap on_of e ∙ line_goes_on auction who frame

greeted_is : (auction : Auction) (who : Option ℕ) (frame : ToHouse) → cond (goes_on auction who frame) (greeted who frame) who ≡ bidder_after auction who frame
greeted_is auction None (house.Hello claimed token) = refl
greeted_is auction (Some b) (house.Hello claimed token) = refl
greeted_is auction None (house.Look clock) = refl
greeted_is auction (Some b) (house.Look clock) = refl
greeted_is auction None (house.Report clock round demand) = refl
greeted_is auction (Some b) (house.Report clock round demand) = refl
greeted_is auction None house.Quit = refl
greeted_is auction (Some b) house.Quit = refl

pub says_who : (auction : Auction) (who : Option ℕ) (frame : ToHouse) (reply : ToBidder) (on : Bool) → Says reply on ≡ line_of auction who frame → cond on (greeted who frame) who ≡ bidder_after auction who frame
says_who auction who frame reply on e = ap (λ (b : Bool). cond b (greeted who frame) who) (says_on auction who frame reply on e) ∙ greeted_is auction who frame

-- a turn in which the hall was asked
pub turn_asked : {M : Type 0} (allows : M → Asked → M → Type 0) (auction : Auction) (who : Option ℕ) (frame : ToHouse) (a : Asked) (reply : ToBidder) (before after : M)
    → Asks (question_of a) ≡ line_of auction who frame → reply ≡ reply_of a → IsPossible a → allows before a after → IsTurn allows auction who before (record { frame = frame; asked = Some a; reply = reply; now = after })
turn_asked {M = M} allows auction who frame a reply before after e r p h =
    let P : Line → Type 0 = λ l. KeepsTo allows l (Some a) reply before after in subst P e (refl, r, p, h)

-- a member's report is not refused as one of none
member_refusal : {A : Type 0} (judgement : Judgement) → (A → ⊥) → IsRefusal A judgement → IsRefusal ⊥ judgement
member_refusal Take not_one is = is
member_refusal Again not_one is = is
member_refusal NotMember not_one is = not_one is
member_refusal NoRound not_one is = tt
member_refusal (Early round) not_one is = tt
member_refusal (Conflict round) not_one is = tt
member_refusal (Over round) not_one is = tt

pub member_offered : {A : Type 0} (answer : Offered) → (A → ⊥) → IsOffered A answer → IsOffered ⊥ answer
member_offered offered.Taken not_one is = tt
member_offered offered.Again not_one is = tt
member_offered (offered.Refused judgement) not_one is = member_refusal judgement not_one is
member_offered (offered.Full needed) not_one is = tt
member_offered offered.DiskFault not_one is = tt
member_offered offered.NoMemory not_one is = tt
