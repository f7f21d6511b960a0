-- With the report the round goes on or the next one begins, by what is left of the members.
use Rattle.std.proofs.Common.{◌≡◌, ◌∙◌, ◌-◌, ◌*◌, ℕ, sym, ap, subst, arith, length, set, List, refl, Option, None, true, false, replicate}
use Rattle.std.specs.Prelude.{slice_index_or}
use Rattle.lot_base.specs.declared.phases.Phase.TheVariants.{Running}
use Rattle.clock.specs.declared.clocks.Clock.TheInside.{Inside}
use Rattle.clock.specs.declared.next_step.Standing.{Standing}
use Rattle.clock.specs.Past.{PastOf, pushed, raised_on}
use Rattle.clock.specs.Reports.{ClockOf, applied, members_of}
use Rattle.clock.specs.Kept.{StandsAmong, report_of}
use Rattle.clock.proofs.CountedIn.{Case, among-in, can-count, goes-in, left-in, goods-in, moment-in, noted-in, now_present, read-in, shown-in, room-in, sets-fewer, small-in, stays-in}
use Rattle.clock.proofs.Taking.{can-raise-on, few-on}
use Rattle.clock.proofs.clocks.Clock.count_in.Goals as goal

-- what the clock keeps when the report comes
abbrev case : Inside → ℕ → Option (List (List ℕ)) → Case
case i bidder demand = record {
  c = record { terms = i.terms; number = i.number; reports = i.past.reports };
  b = bidder;
  told = demand;
  past = i.past;
  left = i.left;
  steps = i.steps;
  phase = i.phase;
  prices = i.prices;
  tables = i.tables;
  sums = i.excess.0;
  account = i.account;
  latest = i.latest.items;
  marks = i.reported;
}

pub count_demand-requires-clause-small : goal.count_demand-requires-clause-small
count_demand-requires-clause-small c =
    let i = c.self.inside in
    let k = case i c.args.bidder c.args.demand in
    let a = can-count k c.args.self.now.history (ap (λ (v : ClockOf). v.history) c.self.view_is) c.self.invariant c.requires.take c.requires.fits c.requires.known in
    small-in k a

pub count_demand-requires-clause-room : goal.count_demand-requires-clause-room
count_demand-requires-clause-room c =
    let i = c.self.inside in
    let k = case i c.args.bidder c.args.demand in
    let a = can-count k c.args.self.now.history (ap (λ (v : ClockOf). v.history) c.self.view_is) c.self.invariant c.requires.take c.requires.fits c.requires.known in
    room-in k a

pub note_demand-requires-clause-goods : goal.note_demand-requires-clause-goods
note_demand-requires-clause-goods c =
    let i = c.self.inside in
    let k = case i c.args.bidder c.args.demand in
    let a = can-count k c.args.self.now.history (ap (λ (v : ClockOf). v.history) c.self.view_is) c.self.invariant c.requires.take c.requires.fits c.requires.known in
    goods-in k a

pub note_demand-requires-clause-again : goal.note_demand-requires-clause-again
note_demand-requires-clause-again c =
    let i = c.self.inside in
    let k = case i c.args.bidder c.args.demand in
    let a = can-count k c.args.self.now.history (ap (λ (v : ClockOf). v.history) c.self.view_is) c.self.invariant c.requires.take c.requires.fits c.requires.known in
    λ untold.
    let from : c.saturating_sub.result * c.member_count-members.result ≡ (i.steps - 1) * length (members_of k.c) = λ j. c.saturating_sub.ensures j * c.member_count-members.ensures j in
    let S : Option (List (List ℕ)) → Type 0 = λ o. StandsAmong i.past.reports (c.saturating_sub.result * c.member_count-members.result) c.member_count-members.result c.args.bidder o in
    let M : ℕ → Type 0 = λ m. StandsAmong i.past.reports (c.saturating_sub.result * c.member_count-members.result) m c.args.bidder (slice_index_or k.latest k.b None) in
    let F : ℕ → Type 0 = λ n. StandsAmong i.past.reports n (length (members_of k.c)) c.args.bidder (slice_index_or k.latest k.b None) in
    subst S (sym (read-in k a c.index_mut.result.now c.index_mut.ensures.value)) (subst M (sym c.member_count-members.ensures) (subst F (sym from) (among-in k a untold)))

pub overflow_sub-self : goal.overflow_sub-self
overflow_sub-self c =
    let i = c.self.inside in
    let k = case i c.args.bidder c.args.demand in
    let a = can-count k c.args.self.now.history (ap (λ (v : ClockOf). v.history) c.self.view_is) c.self.invariant c.requires.take c.requires.fits c.requires.known in
    left-in k a

pub invariant_of-self : goal.invariant_of-self
invariant_of-self c =
    let i = c.self.inside in
    let k = case i c.args.bidder c.args.demand in
    let a = can-count k c.args.self.now.history (ap (λ (v : ClockOf). v.history) c.self.view_is) c.self.invariant c.requires.take c.requires.fits c.requires.known in
    let n = noted-in k a c.index_mut.result.now c.note_demand.new.latest c.note_demand.new.past (read-in k a c.index_mut.result.now c.index_mut.ensures.value) c.note_demand.ensures.past c.note_demand.ensures.latest in
    let s : Standing = record { steps = i.steps; phase = Running; prices = i.prices; raised = None } in
    shown-in i.terms i.number (pushed i.past (report_of k.c k.b k.told)) c.note_demand.new.past (report_of k.c k.b k.told).demand c.note_demand.new.latest (i.left - 1) s (set i.tables k.b c.count_demand.new.kept) c.count_demand.new.excess.0 i.account i.latest.items k.b (set i.reported k.b true)
    n.0 n.1 (stays-in k a c.count_demand.new.kept c.count_demand.new.excess.0 i.account s c.count_demand.ensures (λ _. record { standing = refl; account = refl }) (λ none. absurd (omega (arith, none, c.if-self-gt0.true))) refl)

pub next-standing-requires-clause-below : goal.next-standing-requires-clause-below
next-standing-requires-clause-below c =
    let i = c.self.inside in
    let k = case i c.args.bidder c.args.demand in
    let a = can-count k c.args.self.now.history (ap (λ (v : ClockOf). v.history) c.self.view_is) c.self.invariant c.requires.take c.requires.fits c.requires.known in
    can-raise-on k.c (report_of k.c k.b k.told) (now_present k.c k.steps (report_of k.c k.b k.told)) k.left k.steps k.phase k.prices (set k.tables k.b c.count_demand.new.kept) c.count_demand.new.excess.0 k.account (moment-in k a c.count_demand.new.kept c.count_demand.new.excess.0 c.count_demand.ensures)

pub next-standing-requires-clause-few : goal.next-standing-requires-clause-few
next-standing-requires-clause-few c =
    let i = c.self.inside in
    let k = case i c.args.bidder c.args.demand in
    let a = can-count k c.args.self.now.history (ap (λ (v : ClockOf). v.history) c.self.view_is) c.self.invariant c.requires.take c.requires.fits c.requires.known in
    few-on k.c (report_of k.c k.b k.told) (now_present k.c k.steps (report_of k.c k.b k.told)) k.left k.steps k.phase k.prices (set k.tables k.b c.count_demand.new.kept) c.count_demand.new.excess.0 k.account (moment-in k a c.count_demand.new.kept c.count_demand.new.excess.0 c.count_demand.ensures)

pub invariant_of-self-in_default : goal.invariant_of-self-in_default
invariant_of-self-in_default c =
    let i = c.self.inside in
    let k = case i c.args.bidder c.args.demand in
    let a = can-count k c.args.self.now.history (ap (λ (v : ClockOf). v.history) c.self.view_is) c.self.invariant c.requires.take c.requires.fits c.requires.known in
    let n = noted-in k a c.index_mut.result.now c.note_demand.new.latest c.note_demand.new.past (read-in k a c.index_mut.result.now c.index_mut.ensures.value) c.note_demand.ensures.past c.note_demand.ensures.latest in
    let s = c.next-standing.result in
    shown-in i.terms i.number (pushed i.past (report_of k.c k.b k.told)) c.note_demand.new.past (report_of k.c k.b k.told).demand c.note_demand.new.latest (i.left - 1) s (set i.tables k.b c.count_demand.new.kept) c.count_demand.new.excess.0 c.next-standing.new.account i.latest.items k.b (set i.reported k.b true)
    n.0 n.1 (stays-in k a c.count_demand.new.kept c.count_demand.new.excess.0 c.next-standing.new.account s c.count_demand.ensures c.next-standing.ensures.waits c.next-standing.ensures.turns c.in_default.is)

pub returns-in_default : goal.returns-in_default
returns-in_default c =
    let i = c.self.inside in
    let k = case i c.args.bidder c.args.demand in
    let a = can-count k c.args.self.now.history (ap (λ (v : ClockOf). v.history) c.self.view_is) c.self.invariant c.requires.take c.requires.fits c.requires.known in
    let n = noted-in k a c.index_mut.result.now c.note_demand.new.latest c.note_demand.new.past (read-in k a c.index_mut.result.now c.index_mut.ensures.value) c.note_demand.ensures.past c.note_demand.ensures.latest in
    ap (λ (p : PastOf). record { history = record { terms = i.terms; number = i.number; reports = p.reports }; spare_reports = p.spare_reports; spare_quantities = p.spare_quantities }) n.0
    ∙ ap (λ (v : ClockOf). applied v (report_of v.history k.b k.told)) c.self.view_is

pub raise-requires : goal.raise-requires
raise-requires c =
    let i = c.self.inside in
    let k = case i c.args.bidder c.args.demand in
    let a = can-count k c.args.self.now.history (ap (λ (v : ClockOf). v.history) c.self.view_is) c.self.invariant c.requires.take c.requires.fits c.requires.known in
    let n = noted-in k a c.index_mut.result.now c.note_demand.new.latest c.note_demand.new.past (read-in k a c.index_mut.result.now c.index_mut.ensures.value) c.note_demand.ensures.past c.note_demand.ensures.latest in
    sets-fewer k a refl c.note_demand.new.past n.0

pub invariant_of-self-2 : goal.invariant_of-self-2
invariant_of-self-2 c =
    let i = c.self.inside in
    let k = case i c.args.bidder c.args.demand in
    let a = can-count k c.args.self.now.history (ap (λ (v : ClockOf). v.history) c.self.view_is) c.self.invariant c.requires.take c.requires.fits c.requires.known in
    let n = noted-in k a c.index_mut.result.now c.note_demand.new.latest c.note_demand.new.past (read-in k a c.index_mut.result.now c.index_mut.ensures.value) c.note_demand.ensures.past c.note_demand.ensures.latest in
    let s = c.next-standing.result in
    let gone : i.left - 1 ≡ 0 = omega (arith, c.if-self-gt0.false) in
    shown-in i.terms i.number (raised_on (pushed i.past (report_of k.c k.b k.told)) c.in-Some.set) c.raise.new.self (report_of k.c k.b k.told).demand c.note_demand.new.latest c.member_count-members.result s (set i.tables k.b c.count_demand.new.kept) c.count_demand.new.excess.0 c.next-standing.new.account i.latest.items k.b (replicate 13 false)
    (c.raise.ensures ∙ ap (λ p. raised_on p c.in-Some.set) n.0) n.1
    (goes-in k a c.count_demand.new.kept c.count_demand.new.excess.0 c.next-standing.new.account s c.in-Some.set c.member_count-members.result c.count_demand.ensures c.next-standing.ensures.waits c.next-standing.ensures.turns c.in-Some.is gone c.member_count-members.ensures)

pub returns : goal.returns
returns c =
    let i = c.self.inside in
    let k = case i c.args.bidder c.args.demand in
    let a = can-count k c.args.self.now.history (ap (λ (v : ClockOf). v.history) c.self.view_is) c.self.invariant c.requires.take c.requires.fits c.requires.known in
    let n = noted-in k a c.index_mut.result.now c.note_demand.new.latest c.note_demand.new.past (read-in k a c.index_mut.result.now c.index_mut.ensures.value) c.note_demand.ensures.past c.note_demand.ensures.latest in
    ap (λ (p : PastOf). record { history = record { terms = i.terms; number = i.number; reports = p.reports }; spare_reports = p.spare_reports; spare_quantities = p.spare_quantities }) (c.raise.ensures ∙ ap (λ p. raised_on p c.in-Some.set) n.0)
    ∙ ap (λ (v : ClockOf). applied v (report_of v.history k.b k.told)) c.self.view_is
