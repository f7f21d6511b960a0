-- A link that was dialled, over which a part was played, and which was hung up again: what is then said of the net, and how a bid ends.
use Rattle.std.proofs.Common.{◌≡◌, ◌∙◌, ◌⊎◌, ◌<◌, ◌≤◌, ◌+◌, ◌-◌, ◌++◌, ℕ, List, [], ◌∷◌, length, get_or, map, Option, Some, None, Ok, Err, inl, inr, arith, refl, sym, ap, subst, option_map}
use Rattle.std.specs.Prelude.{Result, Vec, IfOk, IfErr}
use Rattle.std.specs.declared.alloc.Global.{Global}
use Rattle.std.specs.List.{concat, flat_map}
use Rattle.std.proofs.lemmas.List.{get_or_default, map-append}
use Rattle.lot_base.specs.Economy.{demand}
use Rattle.lot_base.specs.declared.auction_terms.Terms.{Terms}
use Rattle.valuation.specs.Values.{valuation_of}
use Rattle.trial.specs.Trials.{AreValuationsOf}
use Rattle.house_io.specs.Doors.{DoorLinks, IsEmptyLink}
use Rattle.house_io.specs.Faults.{Rose, raised_by}
use Rattle.house_io.specs.Links.{LinkBytes}
use Rattle.house_io.specs.Nets.{Dials, GivesLink, NetLists, TakesLink}
use Rattle.house_io.specs.Told.{IfTold}
use Rattle.house_io.specs.declared.shelves.Refusal.{Refusal}
use Rattle.house_io.specs.declared.shelves.Refusal.TheVariants as refusal
use Rattle.bidder_agent.specs.Talks.{Agrees, HasCauseOf, Part}
use Rattle.bidder_agent.specs.declared.agents.AgentEnd.{AgentEnd}
use Rattle.bidder_agent.specs.declared.agents.AgentEnd.TheVariants as agent
use Rattle.bidder_agent.specs.declared.agents.Seen.{Seen}
use Rattle.house_run.specs.BidCommand.{BidFrame, bid_needs, look_line}
use Rattle.house_run.specs.Frame.{Frame}
use Rattle.command_line.specs.Parts.{IsPlayable, Bidding}
use Rattle.command_line.specs.Commands.{Bid}
use Rattle.house_io.specs.Shelves.{IsRefused}
use Rattle.house_run.specs.Hosting.{net_end}
use Rattle.house_run.specs.Dialling.{IsDialled, LeavesTalk, PlaysIn, TalksOn, ended_by, part_in}
use Rattle.house_run.specs.Ends.{JobAnswer}
use Rattle.house_run.specs.NetEnds.{Ends, NetFrame}
use Rattle.house_run.specs.Nets.{NetSeen}
use Rattle.house_io.specs.NetsShown.{NetView, net_view}
use Rattle.house_run.specs.Seen.{Outside}
use Rattle.house_run.specs.Steps.{IsTalkEnd, NetCounts}
use Rattle.house_run.specs.declared.ends.Ended.{Ended}
use Rattle.house_run.specs.declared.ends.Ended.TheVariants as how

-- the part of a bidder with these values
abbrev pub part_with : Terms → Bidding → List ℕ → Part
part_with terms b values = record {
  goods = length terms.goods;
  bidders = terms.bidders;
  who = b.bidder;
  token = b.token;
  demands = λ prices. concat (demand terms.goods (valuation_of terms.goods values) prices);
  looks = b.looks;
}

-- is that of the market in which these are his valuation
pub plays-as : (terms : Terms) (valuations : List (List ℕ)) (b : Bidding) (values other : List ℕ) (before after : Option LinkBytes) (answer : Result Seen AgentEnd) → IsPlayable b → b.bidder ≤ terms.bidders → AreValuationsOf terms valuations
    → values ≡ get_or valuations (b.bidder - 1) other → Agrees (part_with terms b values) before after answer → Agrees (part_in terms valuations b) before after answer
plays-as terms valuations b values other before after answer playable few are is agrees =
    let first = playable.from_one in
    let count = are.count in
    let within : b.bidder - 1 < length valuations = omega arith in
    let P : List ℕ → Type 0 = λ vs. Agrees (part_with terms b vs) before after answer in
    subst P (is ∙ get_or_default valuations (b.bidder - 1) other [] within) agrees

-- the links that are told

first-dialled : {L : Type 0} (told : L → Option LinkBytes) (link : L) (before between after : List L) → after ≡ between → (before ≡ link ∷ between) ⊎ ((before ≡ []) × (between ≡ []) × IsEmptyLink (told link))
    → (map told before ≡ told link ∷ map told after) ⊎ ((map told before ≡ []) × (map told after ≡ []) × IsEmptyLink (told link))
first-dialled told link before between after same (inl first) = inl (ap (map told) first ∙ ap (λ links. told link ∷ map told links) (sym same))
first-dialled told link before between after same (inr none) = inr (ap (map told) none.0, ap (map told) (same ∙ none.1), none.2)

moved : {D L M : Type 0} (door_told : D → Option (DoorLinks M)) (door_link_told : M → Option LinkBytes) (door_link_faults : M → ℕ) (told : L → Option LinkBytes) (address : List ℕ) (link hung : L) (a b c : NetLists D L) → GivesLink told address link a b → TakesLink hung b c
    → IsDialled address (told link) (told hung) (net_view door_told door_link_told door_link_faults told a) (net_view door_told door_link_told door_link_faults told c)
unfolding net_view
moved {D = D} {L = L} door_told door_link_told door_link_faults told address link hung a b c gives takes =
    let places : b.link_places ≡ a.link_places + 1 = ap (λ (x : NetLists D L). x.link_places) gives.rest in
    let free : 0 < b.link_places = omega arith in
    let less : c.link_places ≡ b.link_places - 1 = ap (λ (x : NetLists D L). x.link_places) takes.rest in
    let link_places : c.link_places ≡ a.link_places = omega arith in
    let door_places : c.door_places ≡ a.door_places = ap (λ (x : NetLists D L). x.door_places) takes.rest ∙ ap (λ (x : NetLists D L). x.door_places) gives.rest in
    let doors : c.doors ≡ a.doors = ap (λ (x : NetLists D L). x.doors) takes.rest ∙ ap (λ (x : NetLists D L). x.doors) gives.rest in
    let closed : c.closed ≡ a.closed = ap (λ (x : NetLists D L). x.closed) takes.rest ∙ ap (λ (x : NetLists D L). x.closed) gives.rest in
    let asked : c.asked ≡ a.asked = ap (λ (x : NetLists D L). x.asked) takes.rest ∙ ap (λ (x : NetLists D L). x.asked) gives.rest in
    let rang : c.dialled ≡ a.dialled ++ address ∷ [] = ap (λ (x : NetLists D L). x.dialled) takes.rest ∙ ap (λ (x : NetLists D L). x.dialled) gives.rest in
    let links : c.links ≡ b.links = ap (λ (x : NetLists D L). x.links) takes.rest in
    let kept : c.hung_up ≡ a.hung_up ++ hung ∷ [] = takes.placed free ∙ ap (λ (x : NetLists D L). x.hung_up ++ hung ∷ []) gives.rest in
    let told_kept : map told c.hung_up ≡ map told a.hung_up ++ told hung ∷ [] = ap (map told) kept ∙ map-append told a.hung_up (hung ∷ []) in
    let view : List D → List D → List (Option LinkBytes) → ℕ → ℕ → List (List ℕ) → List (List ℕ) → NetView = λ ds cs hs dp lp ak rg. record (net_view door_told door_link_told door_link_faults told (record c { doors = ds; closed = cs })) { hung_up = hs; door_places = dp; link_places = lp; asked = ak; dialled = rg } in
    (first-dialled told link a.links b.links c.links links gives.given, λ i. view (doors i) (closed i) (told_kept i) (door_places i) (link_places i) (asked i) (rang i))

pub dialled : {D L M : Type 0} (door_told : D → Option (DoorLinks M)) (door_link_told : M → Option LinkBytes) (door_link_faults : M → ℕ) (told : L → Option LinkBytes) (address : List ℕ) (link hung : L) (before between after : Option (NetLists D L))
    → IfTold before between (GivesLink told address link) → IfTold between after (TakesLink hung)
    → IfTold (option_map (net_view door_told door_link_told door_link_faults told) before) (option_map (net_view door_told door_link_told door_link_faults told) after) (IsDialled address (told link) (told hung))
dialled door_told door_link_told door_link_faults told address link hung before between None gives takes = tt
dialled door_told door_link_told door_link_faults told address link hung before None (Some c) gives takes = absurd takes
dialled door_told door_link_told door_link_faults told address link hung None (Some b) (Some c) gives takes = absurd gives
dialled door_told door_link_told door_link_faults told address link hung (Some a) (Some b) (Some c) gives takes = moved door_told door_link_told door_link_faults told address link hung a b c gives takes

-- a dial that was refused
unchanged : {D L M : Type 0} (door_told : D → Option (DoorLinks M)) (door_link_told : M → Option LinkBytes) (door_link_faults : M → ℕ) (told : L → Option LinkBytes) (why : Refusal) (address : List ℕ) (a b : NetLists D L) → Dials told address (Err why) a b
    → (net_view door_told door_link_told door_link_faults told b ≡ net_view door_told door_link_told door_link_faults told a) ⊎ (net_view door_told door_link_told door_link_faults told b ≡ record (net_view door_told door_link_told door_link_faults told a) { dialled = a.dialled ++ address ∷ [] })
unfolding net_view
unchanged door_told door_link_told door_link_faults told refusal.Failed address a b dials = inr (ap (net_view door_told door_link_told door_link_faults told) dials)
unchanged door_told door_link_told door_link_faults told refusal.NoMemory address a b dials = inl (ap (net_view door_told door_link_told door_link_faults told) dials)

pub undialled : {D L M : Type 0} (door_told : D → Option (DoorLinks M)) (door_link_told : M → Option LinkBytes) (door_link_faults : M → ℕ) (told : L → Option LinkBytes) (why : Refusal) (address : List ℕ) (before after : Option (NetLists D L))
    → IfTold before after (Dials told address (Err why))
    → IfTold (option_map (net_view door_told door_link_told door_link_faults told) before) (option_map (net_view door_told door_link_told door_link_faults told) after) (λ b a. (a ≡ b) ⊎ (a ≡ record b { dialled = b.dialled ++ address ∷ [] }))
unfolding net_view
undialled door_told door_link_told door_link_faults told why address before None dials = tt
undialled door_told door_link_told door_link_faults told why address None (Some b) dials = absurd dials
undialled door_told door_link_told door_link_faults told why address (Some a) (Some b) dials = unchanged door_told door_link_told door_link_faults told why address a b dials

-- the net's count

pub same-count : (net : NetSeen) (between fresh faults : ℕ) → between ≡ net.faults_before → fresh ≡ 0 → faults ≡ fresh → net.faults ≡ raised_by between faults → net.faults ≡ net.faults_before
same-count net between fresh faults steady none same raised = omega arith

rose-count : (net : NetSeen) (between fresh faults : ℕ) → between ≡ net.faults_before → fresh ≡ 0 → Rose fresh faults → net.faults ≡ raised_by between faults → Rose net.faults_before net.faults
rose-count net between fresh faults steady none rose raised = omega arith

pub quiet-counts : (net : NetSeen) (end : Ended) → net.faults ≡ net.faults_before → NetCounts end net
quiet-counts net end same = record { quiet = λ other. same; later = omega arith }

loud-counts : (net : NetSeen) (between faults : ℕ) → between ≡ net.faults_before → net.faults ≡ raised_by between faults → NetCounts how.NetFault net
loud-counts net between faults steady raised = record { quiet = λ other. absurd (other refl); later = omega arith }

-- the net refused a dial, or memory ran out before it was asked
pub refused-ends : (why : Refusal) (net : NetSeen) (address : List ℕ) (p : Part) → IsRefused why net.faults_before net.faults → IsTalkEnd net address p (net_end why)
refused-ends refusal.Failed net address p rose = rose
refused-ends refusal.NoMemory net address p same = tt

pub refused-counts : (why : Refusal) (net : NetSeen) → net.faults_before ≤ net.faults → IsRefused why net.faults_before net.faults → NetCounts (net_end why) net
refused-counts refusal.Failed net later rose = record { quiet = λ other. absurd (other refl); later = later }
refused-counts refusal.NoMemory net later same = record { quiet = λ other. same; later = later }

pub record Stops (net : NetSeen) (address : List ℕ) (p : Part) (end : Ended) : Type 0 where
  pub ends : IsTalkEnd net address p end
  pub counts : NetCounts end net

-- the agent stopped
pub stopped : (end : AgentEnd) (net : NetSeen) (address : List ℕ) (p : Part) (before after : Option LinkBytes) (between fresh faults : ℕ) → IfTold net.told_before net.told (IsDialled address before after) → Agrees p before after (Err end)
    → between ≡ net.faults_before → fresh ≡ 0 → HasCauseOf {A = Seen} fresh faults (Err end) → net.faults ≡ raised_by between faults → Stops net address p (ended_by end)
stopped (agent.Refused code detail value) net address p before after between fresh faults lists agrees steady none cause raised =
    record { ends = record { before = before; after = after; agrees = agrees; lists = lists }; counts = quiet-counts net _ (same-count net between fresh faults steady none cause raised) }
stopped agent.BadReply net address p before after between fresh faults lists agrees steady none cause raised =
    record { ends = record { before = before; after = after; agrees = agrees; lists = lists }; counts = quiet-counts net _ (same-count net between fresh faults steady none cause raised) }
stopped (agent.LooksSpent clock) net address p before after between fresh faults lists agrees steady none cause raised =
    record { ends = record { before = before; after = after; agrees = agrees; lists = lists }; counts = quiet-counts net _ (same-count net between fresh faults steady none cause raised) }
stopped agent.NoMemory net address p before after between fresh faults lists agrees steady none cause raised =
    record { ends = tt; counts = quiet-counts net _ (same-count net between fresh faults steady none cause raised) }
stopped agent.LinkFault net address p before after between fresh faults lists agrees steady none cause raised =
    record { ends = rose-count net between fresh faults steady none cause.0 raised; counts = loud-counts net between faults steady raised }

-- what a bid leaves whose talk gave no looks
pub stop-frame : (auction values : List ℕ) (b : Bidding) (end : Ended) (seen : Outside) (net : NetSeen) (p : Part) → Frame (bid_needs auction values b) end seen → PlaysIn seen.shelf auction values b p → LeavesTalk net b.address p end → BidFrame auction values b end seen net
stop-frame auction values b end seen net p frame plays (inl undialled) = record { frame = frame; talked = inl undialled }
stop-frame auction values b end seen net p frame plays (inr (stop, talks, so)) = record { frame = frame; talked = inr (record { part = p; plays = plays; answer = Err stop; talks = talks; so = so }) }

-- how a bid ends whose talk gave no looks
pub bid-ends : (end : Ended) (auction values : List ℕ) (b : Bidding) (seen : Outside) (net : NetSeen) (p : Part) → PlaysIn seen.shelf auction values b p → IsTalkEnd net b.address p end → Ends (bid_needs auction values b) seen net end
bid-ends how.NoMemory auction values b seen net p plays ends = inl tt
bid-ends how.NetFault auction values b seen net p plays ends = inr (inl (inl tt, ends))
bid-ends (how.Refused code detail value) auction values b seen net p plays ends = inr (inl (record { part = p; plays = plays; talks = ends }))
bid-ends (how.LooksSpent clock) auction values b seen net p plays ends = inr (inl (record { part = p; plays = plays; talks = ends }))
bid-ends how.BadReply auction values b seen net p plays ends = inr (inl (record { part = p; plays = plays; talks = ends }))
bid-ends end auction values b seen net p plays ends = absurd ends

-- what a bid leaves of the net
pub bid-leaves : (auction values : List ℕ) (b : Bidding) (end : Ended) (net : NetSeen) → NetCounts end net → NetFrame (bid_needs auction values b) end net
bid-leaves auction values b end net counts = record {
  quiet = counts.quiet;
  later = counts.later;
  untouched = λ no_bid no_serve. absurd (let no : ⊥ = cc in no);
  early = λ clock no_bid ended. absurd (let no : ⊥ = cc in no);
}

-- a bid whose agent played its part to the end, and that is done where there is memory for its text
pub bid-answer : (result : Result (Vec ℕ Global) Ended) (auction values : List ℕ) (b : Bidding) (seen : Outside) (net : NetSeen) (p : Part) (looks : Seen) → PlaysIn seen.shelf auction values b p → TalksOn net b.address p (Ok looks)
    → IfOk result (λ text. text.items ≡ flat_map look_line looks.looks.items) → IfErr result (λ end. end ≡ how.NoMemory) → JobAnswer (Bid auction values b) seen net result
bid-answer (Ok text) auction values b seen net p looks plays talks is none = record { part = p; plays = plays; seen = looks; talks = talks; text_is = is }
bid-answer (Err end) auction values b seen net p looks plays talks is none = let P : Ended → Type 0 = λ e. Ends (bid_needs auction values b) seen net e in subst P (sym none) (inl tt)
