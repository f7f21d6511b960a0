-- The bytes of a link that show a report acknowledged are those of a session in which it was.
use Rattle.std.proofs.Common.{◌≡◌, ◌≤◌, ◌⊎◌, inl, inr, ℕ, List, [], ◌∷◌, ◌++◌, length, map, drop, get_or, Option, Some, None, Ok, arith, refl, sym, ◌∙◌, ap, subst, append_assoc, length-append, ◌*◌, ◌%◌, ◌^◌}
use Rattle.std.proofs.lemmas.List.{append_cancel_left, length-map, map-append}
use Rattle.std.specs.List.{AllByRecursion, concat, flat_map}
use Rattle.std.specs.Prelude.{Contains}
use Rattle.byte_numbers.specs.Spelling.{big_bytes}
use Rattle.byte_numbers.proofs.Pairs.{length-pairs}
use Rattle.demand_set.specs.Reading.{AreWhole, bundles_of, demand_of}
use Rattle.demand_set.specs.declared.reports.Report.{Report}
use Rattle.lot_base.specs.declared.raw.RawDemand.{RawDemand}
use Rattle.house_io.specs.Links.{LinkBytes}
use Rattle.house_io.specs.NetsShown.{DoorShown, LinkShown}
use Rattle.auction_file.specs.declared.listing.Auction.{Auction}
use Rattle.clock_family.specs.Houses.{HousePassOf}
use Rattle.recovery.specs.Entries.{IsReportOf, Spells, payload_of}
use Rattle.recovery.proofs.Demands.{demand-whole}
use Rattle.recovery.proofs.Spelling.{one-report, spelled-some}
use Rattle.report_wire.specs.Forms.{house_is}
use Rattle.report_wire.specs.Frames.{IsSent, Sent, spelled, stream_of}
use Rattle.report_wire.specs.Messages.{bidder_kind, bidder_sent, house_sent, to_bidder, to_house}
use Rattle.report_wire.specs.Payloads.{report_payload}
use Rattle.report_wire.specs.declared.messages.ToBidder.{ToBidder}
use Rattle.report_wire.specs.declared.messages.ToBidder.TheVariants as bidder
use Rattle.report_wire.specs.declared.messages.ToHouse.{ToHouse}
use Rattle.report_wire.specs.declared.kinds.TheConstants.{REFUSED}
use Rattle.session.specs.Table.{bidder_after, line_of}
use Rattle.session.specs.Turns.{AreTurns, IsTurn, KeepsTo, Turn, bidder_behind, frames_of, replies_of}
use Rattle.session.specs.declared.halls.Asked.{Asked}
use Rattle.house_serve.specs.Doors.{Visit}
use Rattle.house_serve.specs.Houses.{DoorRun, PassAllows}
use Rattle.house_serve.specs.Serving.{Served}
use Rattle.house_run.specs.ClockRuns.{ClockRun}
use Rattle.house_run.specs.Serving.{AuctionServed, LeavesNetAt, ServesAt}
use Rattle.house_lives.specs.Bytes.{IsAnsweredOver, IsShownAcknowledged, report_frame}
use Rattle.house_lives.specs.Lives.{IsAcknowledged, IsLife, Life}
use Rattle.house_lives.proofs.Doors.{IsVisitAt, Runs, none-there, served-there, told-both}
use Rattle.house_lives.proofs.Given.{IsReplyOf, reply-turn}
use Rattle.house_lives.proofs.Hellos.{one-bidder}
use Rattle.house_lives.proofs.Members.{all-in, contains-from}
use Rattle.house_lives.proofs.Reported.{IsReportFrame, IsYes, IsYesTo, by-turn, report-frame}
use Rattle.house_lives.proofs.RunLives.{CameTo, Served as WasServed, Unserved, came-to}
use Rattle.house_lives.proofs.Senders.{visited}
use Rattle.house_lives.proofs.Streams.{IsFront, IsSame, front, same-behind}

-- a turn after others, in the standing of its session then
record IsTurnHere (value : Auction) (who : Option ℕ) (t : Turn HousePassOf) : Type 0 where
  before : HousePassOf
  is : IsTurn PassAllows value who before t

turn-here : (value : Auction) (earlier later : List (Turn HousePassOf)) (t : Turn HousePassOf) (who last : Option ℕ) (before after : HousePassOf) → AreTurns PassAllows value who before (earlier ++ t ∷ later) last after
    → IsTurnHere value (bidder_behind value who (frames_of earlier)) t
turn-here value [] later t who last before after are = record { before = before; is = are.0 }
turn-here value (u ∷ earlier) later t who last before after are = turn-here value earlier later t (bidder_after value who u.frame) last u.now after are.1

one-of : (reply : ToBidder) (clock round : ℕ) → (reply ≡ bidder.Taken clock round) ⊎ (reply ≡ bidder.Again clock round) → IsYes reply
one-of reply clock round (inl taken) = inl (ap bidder_kind taken)
one-of reply clock round (inr again) = inr (ap bidder_kind again)

not-refused : (s : Sent) (reply : ToBidder) → bidder_kind reply ≡ s.kind → IsYes reply → s.kind ≡ REFUSED → ⊥
not-refused s reply same (inl taken) e = omega (arith, same, taken, e)
not-refused s reply same (inr again) e = omega (arith, same, again, e)

same-answer : (one other : ToBidder) → bidder_sent one ≡ bidder_sent other → IsYes other → IsYes one
same-answer one other e (inl taken) = inl (ap (λ (s : Sent). s.kind) e ∙ taken)
same-answer one other e (inr again) = inr (ap (λ (s : Sent). s.kind) e ∙ again)

-- the payload of a report that is asked of a clock, as an entry has it
module _ (value : Auction) (clock : ℕ) (r : Report) (fits : IsReportOf value.terms r) (place round : ℕ) (raw : RawDemand) (same : report_payload place round raw.goods raw.quantities ≡ report_payload clock r.round (length value.terms.goods) (concat r.demand)) where
  as-entry : (b : ℕ) → b ≡ r.bidder → report_payload b round raw.goods raw.quantities ≡ payload_of (length value.terms.goods) r
  unfolding payload_of
  as-entry b e = λ i. e i ∷ drop 1 (same i)

  whole : AreWhole raw.goods raw.quantities
  whole =
      let goods : raw.goods ≡ length value.terms.goods = ap (λ (l : List ℕ). get_or l 5 0) same in
      let numbers : flat_map (big_bytes 2) raw.quantities ≡ flat_map (big_bytes 2) (concat r.demand) = ap (λ (l : List ℕ). drop 8 l) same in
      let long = sym (length-pairs raw.quantities) ∙ ap length numbers ∙ length-pairs (concat r.demand) in
      let equal : length raw.quantities ≡ length (concat r.demand) = omega (arith, long) in
      let is = demand-whole value.terms.goods r.demand value.terms.supply fits.fits in
      let some = is.some_good in
      let few = is.few_goods in
      record {
        some_good = omega (arith, goods, some);
        few_goods = omega (arith, goods, few);
        count = is.count;
        whole = equal ∙ is.whole ∙ ap (λ k. is.count * k) (sym goods);
      }

  -- the report that was offered, where it is one that an entry may hold
  pub offered-is : (b : ℕ) (demand : List (List ℕ)) → b ≡ r.bidder → demand_of value.terms.goods raw.goods (bundles_of raw.goods raw.quantities) ≡ Ok demand
      → IsReportOf value.terms (record { bidder = b; round = round; demand = demand }) → record { bidder = b; round = round; demand = demand } ≡ r
  offered-is b demand e read is =
      let q : Report = record { bidder = b; round = round; demand = demand } in
      let one = spelled-some value.terms b round raw.goods raw.quantities demand is.from_one is.to_last is.round whole is.fits (sym read) in
      let two : Spells value.terms (report_payload b round raw.goods raw.quantities) r = record { report = fits; is = as-entry b e } in
      one-report value.terms (report_payload b round raw.goods raw.quantities) q r one two

-- A report was acknowledged, and it is the one that is shown, where it is one that an entry may hold.
pub record IsAsShown (value : Auction) (journals : List ℕ) (l : Life) (clock : ℕ) (r : Report) : Type 0 where
  pub report : Report
  pub is : IsAcknowledged value journals l clock report
  pub same : IsReportOf value.terms report → report ≡ r

-- the turn of a frame, part by part
abbrev IsTurnBy : Auction → Option ℕ → ToHouse → Option Asked → ToBidder → HousePassOf → HousePassOf → Type 0
IsTurnBy value who frame asked reply before now =
    KeepsTo PassAllows (line_of value who frame) asked reply before now

-- after these turns a report was offered for the session's bidder
record WasAsked (value : Auction) (earlier : List (Turn HousePassOf)) (turn : Turn HousePassOf) (clock round : ℕ) (raw : RawDemand) : Type 0 where
  bidder : ℕ
  behind : bidder_behind value None (frames_of earlier) ≡ Some bidder
  demand : List (List ℕ)
  read : demand_of value.terms.goods raw.goods (bundles_of raw.goods raw.quantities) ≡ Ok demand
  asked_is : IsYesTo turn.asked clock bidder round demand

module _ (value : Auction) (journals : List ℕ) (clock : ℕ) (r : Report) (came went : LinkBytes) (answered : IsAnsweredOver value clock r came went) where
  abbrev before : List Sent
  before = map bidder_sent answered.replies

  abbrev last : Sent
  last = bidder_sent answered.reply

  abbrev agreed : IsYes answered.reply
  agreed = one-of answered.reply clock r.round answered.says

  abbrev wanted : Sent
  wanted = house_sent (report_frame value clock r)

  replies-are : map bidder_sent (answered.replies ++ answered.reply ∷ []) ≡ before ++ last ∷ []
  replies-are = map-append bidder_sent answered.replies (answered.reply ∷ [])

  frames-are : map house_sent (answered.frames ++ report_frame value clock r ∷ []) ≡ map house_sent answered.frames ++ wanted ∷ []
  frames-are = map-append house_sent answered.frames (report_frame value clock r ∷ [])

  module _ (v : Visit HousePassOf LinkShown) (bytes : Served value v.turns v.end came went) (each : AllByRecursion (IsSent to_house) (map house_sent (frames_of v.turns))) (replies : AllByRecursion (IsSent to_bidder) (map bidder_sent (replies_of v.turns))) where
    -- the turn of the reply
    found : IsReplyOf v.turns (length before) last
    found =
        let given : bytes.given ≡ answered.given = append_cancel_left came.written bytes.given answered.given (sym bytes.written ∙ answered.written) in
        let stream : bytes.given ≡ stream_of (before ++ last ∷ []) answered.replied.rest = given ∙ answered.replied.whole ∙ ap (λ l. stream_of l answered.replied.rest) replies-are in
        reply-turn value v.turns bytes.tail (length (stream_of (map house_sent (frames_of v.turns)) []) % 2 ^ 64) went.left bytes.given answered.replied.rest v.end before last bytes.ends replies stream
        (subst (AllByRecursion (IsSent to_bidder)) replies-are answered.replied.each) (not-refused last answered.reply refl agreed)

    abbrev earlier : List (Turn HousePassOf)
    earlier = found.earlier

    abbrev turn : Turn HousePassOf
    turn = found.turn

    -- the frames of the turns, parted there
    parted : map house_sent (frames_of v.turns) ≡ map house_sent (frames_of earlier) ++ house_sent turn.frame ∷ map house_sent (frames_of found.later)
    parted =
        ap (λ (ts : List (Turn HousePassOf)). map house_sent (frames_of ts)) found.turns_are
        ∙ ap (map house_sent) (map-append (λ (t : Turn HousePassOf). t.frame) earlier (turn ∷ found.later))
        ∙ map-append house_sent (frames_of earlier) (turn.frame ∷ frames_of found.later)

    as-many : length (map house_sent (frames_of earlier)) ≡ length (map house_sent answered.frames)
    as-many =
        length-map (frames_of earlier) house_sent ∙ length-map earlier (λ (t : Turn HousePassOf). t.frame) ∙ found.count_is
        ∙ length-map answered.replies bidder_sent ∙ answered.as_many ∙ sym (length-map answered.frames house_sent)

    few : length (map house_sent (answered.frames ++ report_frame value clock r ∷ [])) ≤ length (map house_sent (frames_of v.turns))
    few =
        let one = ap length frames-are ∙ length-append (map house_sent answered.frames) (wanted ∷ []) in
        let all = ap length parted ∙ length-append (map house_sent (frames_of earlier)) (house_sent turn.frame ∷ map house_sent (frames_of found.later)) in
        let same = as-many in
        omega (arith, one, all, same)

    read-same : stream_of (map house_sent (answered.frames ++ report_frame value clock r ∷ [])) answered.read.rest ≡ stream_of (map house_sent (frames_of v.turns)) (bytes.tail ++ went.left)
    read-same =
        sym answered.read.whole ∙ bytes.left ∙ ap (λ (l : List ℕ). l ++ went.left) bytes.front
        ∙ append_assoc (flat_map spelled (map house_sent (frames_of v.turns))) bytes.tail went.left

    begins : IsFront (map house_sent (answered.frames ++ report_frame value clock r ∷ [])) (map house_sent (frames_of v.turns))
    begins = front to_house house_is (map house_sent (answered.frames ++ report_frame value clock r ∷ [])) (map house_sent (frames_of v.turns)) answered.read.rest (bytes.tail ++ went.left) answered.read.each each read-same (inl few)

    -- the frames before are those that are shown, and so is the turn's
    same-frames : IsSame (map house_sent (frames_of earlier)) (map house_sent answered.frames) (house_sent turn.frame) wanted
    same-frames =
        same-behind (map house_sent (frames_of earlier)) (map house_sent answered.frames) (map house_sent (frames_of found.later)) begins.more (house_sent turn.frame) wanted as-many
        (sym parted ∙ begins.is ∙ ap (λ (l : List Sent). l ++ begins.more) frames-are)

    framed : IsReportFrame turn.frame wanted
    framed = report-frame turn.frame wanted refl same-frames.here

    -- what was asked in the turn
    reported : (who later : Option ℕ) (first now : HousePassOf) → who ≡ None → AreTurns PassAllows value who first v.turns later now → WasAsked value earlier turn framed.clock framed.round framed.raw
    reported who later first now none held =
        let parts = subst (λ (ts : List (Turn HousePassOf)). AreTurns PassAllows value who first ts later now) found.turns_are held in
        let here = turn-here value earlier found.later turn who later first now parts in
        let P : ToHouse → Type 0 = λ f. IsTurnBy value (bidder_behind value who (frames_of earlier)) f turn.asked turn.reply here.before turn.now in
        let was = by-turn here.before turn.now turn.asked turn.reply (same-answer turn.reply answered.reply found.reply_is agreed) value (bidder_behind value who (frames_of earlier)) framed.clock framed.round framed.raw (subst P framed.is here.is) in
        record {
          bidder = was.bidder;
          behind = ap (λ w. bidder_behind value w (frames_of earlier)) (sym none) ∙ was.who_is;
          demand = was.offered.demand;
          read = was.offered.read_is;
          asked_is = was.offered.asked_is;
        }

    -- the report that was acknowledged
    as-shown : (l : Life) (clocks : List ClockRun) (doors : List (DoorRun DoorShown LinkShown)) → AuctionServed value journals l.serving l.seen.shelf l.net clocks doors
        → (door : DoorRun DoorShown LinkShown) → Contains doors door → Contains door.visits v → WasAsked value earlier turn framed.clock framed.round framed.raw → IsAsShown value journals l clock r
    as-shown l clocks doors served door at_door in_visit asked =
        let q : Report = record { bidder = asked.bidder; round = framed.round; demand = asked.demand } in
        let place : framed.clock ≡ clock = ap (λ (l : List ℕ). get_or l 0 0) framed.payload in
        let same : asked.bidder ≡ r.bidder = (let e : Some asked.bidder ≡ Some r.bidder = sym asked.behind ∙ one-bidder value None (frames_of earlier) answered.frames same-frames.before ∙ answered.bidder in cc) in
        record {
          report = q;
          is = record {
            clocks = clocks;
            doors = doors;
            served = served;
            earlier = earlier;
            turn = turn;
            at = record { door = door; at_door = at_door; visit = v; in_visit = in_visit; later = found.later; turns_are = found.turns_are };
            answered = subst (λ k. IsYesTo turn.asked k asked.bidder framed.round asked.demand) place asked.asked_is;
          };
          same = λ fits. offered-is value clock r answered.report framed.clock framed.round framed.raw framed.payload asked.bidder asked.demand same asked.read fits;
        }

  by-visit : (l : Life) (clocks : List ClockRun) (doors : List (DoorRun DoorShown LinkShown)) → AuctionServed value journals l.serving l.seen.shelf l.net clocks doors → IsVisitAt doors came went → IsAsShown value journals l clock r
  by-visit l clocks doors served at =
      let v = at.at.visit in
      let run = all-in (Runs value l.serving.sessions) doors at.door served.serving.each at.at_door in
      let was = visited value at.door.visits v at.door.before at.door.after run.held at.at.in_list in
      let session = was.is.session in
      let bytes = told-both (Served value v.turns v.end) v.came.told v.went.told came went at.at.came_is at.at.went_is session.bytes in
      as-shown v bytes session.each session.replies l clocks doors served at.door (contains-from doors at.door at.at_door) (contains-from at.door.visits v at.at.in_list)
      (reported v bytes session.each session.replies None session.bidder was.before v.now refl session.held)

pub shown-was : (value : Auction) (auction journals : List ℕ) (clock : ℕ) (r : Report) (l : Life) → IsLife value auction journals l → IsShownAcknowledged value l clock r → IsAsShown value journals l clock r
shown-was value auction journals clock r l life shown = of (came-to value auction journals l life)
  where
    of : CameTo value journals l → IsAsShown value journals l clock r
    of (WasServed clocks doors served) =
        let serves = told-both (ServesAt l.serving.address l.serving.doors (map (λ (d : DoorRun DoorShown LinkShown). d.door) doors) (map (λ (d : DoorRun DoorShown LinkShown). d.log.door) doors))
        l.net.told_before l.net.told shown.link.before shown.link.after shown.link.told_before shown.link.told served.serving.lists in
        by-visit value journals clock r shown.came shown.went shown.answered l clocks doors served
        (served-there l.serving.address l.serving.doors shown.link.before shown.link.after shown.came shown.went shown.link.link value l.serving.sessions doors served.serving.each serves)
    of (Unserved left net) =
        absurd (none-there l.serving.address l.serving.doors shown.link.before shown.link.after shown.came shown.went shown.link.link
        (told-both (LeavesNetAt l.serving.address l.serving.doors) l.net.told_before l.net.told shown.link.before shown.link.after shown.link.told_before shown.link.told net))
