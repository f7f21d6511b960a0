-- A report of a bidder that is counted in: what its calls need, and what is kept after it.
use Rattle.std.proofs.Common.{◌≡◌, ◌≢◌, ◌<◌, ◌≤◌, inl, inr, ℕ, zero, suc, ◌+◌, ◌-◌, ◌*◌, Bool, true, false, ◌&&◌, nat_eq, cond, List, [], ◌∷◌, ◌++◌, length, length-append, set, replicate, take, drop, Option, Some, None, is_some, refl, sym, ◌∙◌, ap, subst, arith}
use Rattle.std.specs.Prelude.{IfSome, IsSome, find, option_map, slice_index_or, unwrap_or, ℤ}
use Rattle.std.specs.List.{AllByRecursion}
use Rattle.std.proofs.lemmas.Bool.Decides.{nat_tests}
use Rattle.std.proofs.lemmas.List.{map-append, length-map}
use Rattle.std.proofs.Math.Nat.{mul-le-mul_left}
use Rattle.lot_base.specs.Demands.{IsDemand, least}
use Rattle.lot_base.specs.declared.auction_terms.Terms.{Terms}
use Rattle.lot_base.specs.declared.phases.Phase.{Phase}
use Rattle.lot_base.specs.declared.supply.GoodSet.{GoodSet}
use Rattle.lot_base.specs.declared.tables.LeastTable.{LeastTable}
use Rattle.lyapunov.specs.Excesses.{IsSmall}
use Rattle.credit_book.specs.Account.{Sums, least_in}
use Rattle.demand_set.specs.declared.reports.Report.{Report}
use Rattle.demand_set.proofs.PackedForm.{lengths-demand}
use Rattle.clock.specs.declared.judging.Judgement.TheVariants.{Take}
use Rattle.clock.specs.declared.next_step.Standing.{Standing}
use Rattle.clock.specs.Past.{PastOf, pushed, raised_on}
use Rattle.clock.specs.Reports.{ClockHistory, is_named, demand_in, demands_in, members_of, set_numbers, with_report}
use Rattle.clock.specs.Standing.{steps_of, sets_of}
use Rattle.clock.specs.Judging.{judgement_of}
use Rattle.clock.specs.Turns.{Waits, IsTurn}
use Rattle.clock.specs.Kept.{CountsIn, HasRoomFor, HasStanding, HoldsTable, IsKept, KeepsLatest, StandsAmong, demand_or, report_of, reports_before, standing_demands}
use Rattle.clock.proofs.After.{kept-path}
use Rattle.clock.proofs.Again.{idle-nobody}
use Rattle.clock.proofs.AgainRounds.{idle-empty}
use Rattle.clock.proofs.Excesses.{found-fits}
use Rattle.clock.proofs.Going.{sets-stay, kept-here, kept-went, went-by}
use Rattle.clock.proofs.InOrder.{find-in_order}
use Rattle.clock.proofs.Latest.{latest-taken, latest-turned}
use Rattle.clock.proofs.Pushed.{IsNew, is-new}
use Rattle.clock.proofs.Rooms.{room-left, small-kept}
use Rattle.clock.proofs.StandingDemands.{standing-before}
use Rattle.clock.proofs.Taking.{IsMoment, IsOn, moment, moment-full, member-small, some-left, on-any, count-reports}
use Rattle.clock.proofs.Truthful.{length-sets_of}

-- what a clock keeps when a bidder's report of this demand, or of that of the round before, comes
pub record Case : Type 0 where
  pub c : ClockHistory
  pub b : ℕ
  pub told : Option (List (List ℕ))
  pub past : PastOf
  pub left : ℕ
  pub steps : ℕ
  pub phase : Phase
  pub prices : List ℕ
  pub tables : List (Option LeastTable)
  pub sums : List ℤ
  pub account : Sums
  pub latest : List (Option (List (List ℕ)))
  pub marks : List Bool

-- the report is to be taken
pub record CanCount (k : Case) : Type 0 where
  pub kept : IsKept k.c k.past k.left k.steps k.phase k.prices k.tables k.sums k.account
  pub held : KeepsLatest k.c (k.steps + 1) k.latest k.marks
  pub take : judgement_of k.c (report_of k.c k.b k.told) ≡ Take
  pub fits : IfSome k.told (IsDemand k.c.terms.goods)
  pub known : k.told ≡ None → IsSome (demand_in k.c.reports (steps_of k.c) k.b)

-- the same, of the history that its callers see
pub can-count : (k : Case) (seen : ClockHistory) → k.c ≡ seen → IsKept k.c k.past k.left k.steps k.phase k.prices k.tables k.sums k.account × KeepsLatest k.c (k.steps + 1) k.latest k.marks
    → judgement_of seen (report_of seen k.b k.told) ≡ Take → IfSome k.told (IsDemand seen.terms.goods) → (k.told ≡ None → IsSome (demand_in seen.reports (steps_of seen) k.b)) → CanCount k
can-count k seen same keeps take fits known =
    let F : ClockHistory → Type 0 = λ h. IfSome k.told (IsDemand h.terms.goods) in
    let K : ClockHistory → Type 0 = λ h. k.told ≡ None → IsSome (demand_in h.reports (steps_of h) k.b) in
    record { kept = keeps.0; held = keeps.1; take = ap (λ h. judgement_of h (report_of h k.b k.told)) same ∙ take; fits = subst F (sym same) fits; known = subst K (sym same) known }

-- it is a report of a member that has not reported in the round
pub new-in : (k : Case) → CanCount k → IsNew k.c (report_of k.c k.b k.told) k.steps
new-in k a = is-new k.c (report_of k.c k.b k.told) (reports_before k.c k.steps) k.steps k.phase k.prices k.account a.kept.standing a.take

pub left-in : (k : Case) → CanCount k → 1 ≤ k.left
left-in k a = some-left k.c (report_of k.c k.b k.told) _ k.left k.steps k.phase k.prices k.account k.tables k.sums a.kept.standing a.kept.round a.take

-- its demand is one of the goods
pub fits-in : (k : Case) → CanCount k → IsDemand k.c.terms.goods (report_of k.c k.b k.told).demand
fits-in k a = by k.told refl a.fits a.known
  where
    found : (o : Option (List (List ℕ))) → demand_in k.c.reports (steps_of k.c) k.b ≡ o → IsSome o → IsDemand k.c.terms.goods (unwrap_or o [])
    found None e some = absurd (let f : false ≡ true = some in cc)
    found (Some d) e some = found-fits k.c.terms.goods k.c.reports (steps_of k.c) k.b d a.kept.standing.legal.demands e

    by : (o : Option (List (List ℕ))) → k.told ≡ o → IfSome o (IsDemand k.c.terms.goods) → (o ≡ None → IsSome (demand_in k.c.reports (steps_of k.c) k.b)) → IsDemand k.c.terms.goods (unwrap_or o (demands_in k.c.reports (steps_of k.c) k.b))
    by None e fits known = found (demand_in k.c.reports (steps_of k.c) k.b) refl (known refl)
    by (Some d) e fits known = fits

-- the tables that are kept are small, and there is room
pub room-in : (k : Case) → CanCount k → HasRoomFor (slice_index_or k.tables k.b None) k.sums
room-in k a = room-left k.c (k.steps + 1) k.tables k.sums k.b a.kept.standing.legal a.kept.round.tables a.kept.round.excess (new-in k a).member

pub small-in : (k : Case) → CanCount k → IfSome (slice_index_or k.tables k.b None) (λ table. IsSmall table.0)
small-in k a = by (slice_index_or k.tables k.b None) refl
  where
    by : (o : Option LeastTable) → slice_index_or k.tables k.b None ≡ o → IfSome o (λ table. IsSmall table.0)
    by None e = tt
    by (Some table) e = record { entries = λ set. let s = small-kept k.c (k.steps + 1) k.tables k.b set a.kept.standing.legal a.kept.round.tables (new-in k a).member in let f = ap (λ o. least_in o set) e in omega (arith, s, f) }

-- no report is of a round 0
absent-zero : (round j : ℕ) (reports : List Report) → AllByRecursion (λ (r : Report). r.round ≡ round + 1) reports → find (is_named 0 j) reports ≡ None
absent-zero round j [] all = refl
absent-zero round j (r ∷ reports) all =
    let e : nat_eq r.round 0 ≡ false = (let s = all.0 in grind (arith, nat_tests)) in
    ap (λ t. cond (t && nat_eq r.bidder j) (Some r) (find (is_named 0 j) reports)) e ∙ absent-zero round j reports all.1

-- where no demand is told, there was a step
stepped : (h : ClockHistory) (steps : ℕ) (phase : Phase) (prices : List ℕ) (account : Sums) (j : ℕ) → HasStanding h (reports_before h steps) steps phase prices account → IsSome (demand_in h.reports steps j) → 1 ≤ steps
stepped h zero phase prices account j k some =
    let e : reports_before h zero ≡ 0 = omega arith in
    let A : ℕ → Type 0 = λ n. AllByRecursion (λ (r : Report). r.round ≡ 0 + 1) (drop n h.reports) in
    let none = ap (option_map (λ (r : Report). r.demand)) (absent-zero 0 j h.reports (subst A e k.present)) in
    absurd (let f : false ≡ true = sym (ap is_some none) ∙ some in cc)
stepped h (suc steps) phase prices account j k some = omega arith

-- what is kept of its bidder
pub kept-demand : (k : Case) → CanCount k → slice_index_or k.latest k.b None ≡ demand_in k.c.reports k.steps k.b
kept-demand k a =
    let before : k.steps + 1 - 1 ≡ k.steps = omega arith in
    a.held.earlier k.b (new-in k a).member (new-in k a).absent ∙ ap (λ n. demand_in k.c.reports n k.b) before

-- the report of the round before stands where it is looked for
pub among-in : (k : Case) → CanCount k → k.told ≡ None → StandsAmong k.c.reports ((k.steps - 1) * length (members_of k.c)) (length (members_of k.c)) k.b (slice_index_or k.latest k.b None)
among-in k a untold =
    let S : ℕ → Type 0 = λ n. IsSome (demand_in k.c.reports n k.b) in
    let here = subst S (sym a.kept.standing.steps_are) (a.known untold) in
    let one = stepped k.c k.steps k.phase k.prices k.account k.b a.kept.standing here in
    let n = count-reports k.c _ k.left k.steps 0 k.phase k.prices k.account k.tables k.sums a.kept.standing a.kept.round in
    let s : k.steps ≡ k.steps - 1 + 1 = omega (arith, one) in
    let w : k.steps * length (members_of k.c) ≡ (k.steps - 1) * length (members_of k.c) + length (members_of k.c) = ap (λ z. z * length (members_of k.c)) s ∙ (let q : (k.steps - 1 + 1) * length (members_of k.c) ≡ (k.steps - 1) * length (members_of k.c) + length (members_of k.c) = grind arith in q) in
    let some : 1 ≤ length (members_of k.c) = (let l = left-in k a in omega (arith, l, a.kept.round.counted)) in
    record {
      inside = omega (arith, n, w);
      some = ap is_some (kept-demand k a) ∙ here;
      same = sym (ap (option_map (λ (r : Report). r.demand)) (find-in_order (length (members_of k.c)) k.steps k.b k.c.reports some one a.kept.round.in_order)) ∙ sym (kept-demand k a);
    }

-- what is read at the bidder's place is what is kept there
same-default : {A : Type 0} (xs : List A) (n : ℕ) (d e : A) → n < length xs → slice_index_or xs n d ≡ slice_index_or xs n e
same-default [] n d e below = absurd (omega (arith, below))
same-default (x ∷ xs) zero d e below = refl
same-default (x ∷ xs) (suc n) d e below = same-default xs n d e (omega (arith, below))

pub read-in : (k : Case) → CanCount k → (o : Option (List (List ℕ))) → o ≡ slice_index_or k.latest k.b o → o ≡ slice_index_or k.latest k.b None
read-in k a o is =
    let small = member-small k.c k.b (new-in k a).member in
    let places = a.held.places in
    is ∙ same-default k.latest k.b o None (omega (arith, small, places))

-- the report is the one that is noted
pub report-in : (k : Case) → CanCount k → record { bidder = k.b; round = k.steps + 1; demand = demand_or (slice_index_or k.latest k.b None) k.told } ≡ report_of k.c k.b k.told
report-in k a =
    (λ i. record { bidder = k.b; round = a.kept.standing.steps_are i + 1; demand = unwrap_or k.told (unwrap_or (kept-demand k a i) []) })
    ∙ (λ i. record { bidder = k.b; round = steps_of k.c + 1; demand = unwrap_or k.told (demands_in k.c.reports (a.kept.standing.steps_are i) k.b) })

pub noted-in : (k : Case) → CanCount k → (before newest : Option (List (List ℕ))) (new : PastOf) → before ≡ slice_index_or k.latest k.b None
    → new ≡ pushed k.past (record { bidder = k.b; round = k.steps + 1; demand = demand_or before k.told }) → newest ≡ Some (demand_or before k.told)
    → (new ≡ pushed k.past (report_of k.c k.b k.told)) × (newest ≡ Some (report_of k.c k.b k.told).demand)
noted-in k a before newest new is new_is newest_is =
    let r = (λ i. record { bidder = k.b; round = k.steps + 1; demand = demand_or (is i) k.told }) ∙ report-in k a in
    (new_is ∙ ap (pushed k.past) r, newest_is ∙ ap (λ (x : Report). Some x.demand) r)

-- its demand is of the goods
pub goods-in : (k : Case) → CanCount k → IfSome k.told (AllByRecursion (λ x. length x ≡ k.past.goods))
goods-in k a = by k.told a.fits
  where
    by : (o : Option (List (List ℕ))) → IfSome o (IsDemand k.c.terms.goods) → IfSome o (AllByRecursion (λ x. length x ≡ k.past.goods))
    by None fits = tt
    by (Some d) fits =
        let G : ℕ → Type 0 = λ g. AllByRecursion (λ x. length x ≡ g) d in
        subst G (sym a.kept.goods) (lengths-demand k.c.terms.goods d fits)

-- the table that is kept is that of its demand
pub holds-in : (k : Case) → CanCount k → (now : Option LeastTable) (after : List ℤ) → CountsIn k.c.terms.goods k.told (slice_index_or k.tables k.b None) now k.sums after → HoldsTable k.c.terms.goods (report_of k.c k.b k.told).demand now
holds-in k a now after counts = by k.told counts.told_is counts.untold
  where
    before : standing_demands k.c (k.steps + 1) k.b ≡ demands_in k.c.reports (steps_of k.c) k.b
    before = standing-before k.c (k.steps + 1) k.b (new-in k a).absent ∙ ap (λ n. demands_in k.c.reports n k.b) ((let e : k.steps + 1 - 1 ≡ k.steps = omega arith in e) ∙ a.kept.standing.steps_are)

    by : (o : Option (List (List ℕ))) → IfSome o (λ demand. HoldsTable k.c.terms.goods demand now) → (o ≡ None → now ≡ slice_index_or k.tables k.b None) → HoldsTable k.c.terms.goods (unwrap_or o (demands_in k.c.reports (steps_of k.c) k.b)) now
    by (Some d) is untold = is
    by None is untold = record {
      held = λ set below. ap (λ t. least_in t set) (untold refl) ∙ a.kept.round.tables.held k.b set below (new-in k a).member ∙ ap (λ d. least d set) before;
      blank = λ set behind. ap (λ t. least_in t set) (untold refl) ∙ a.kept.round.tables.blank k.b set behind;
    }

-- the moment at which the report is there and the round has not been gone on from
abbrev pub now_present : ClockHistory → ℕ → Report → List Report
now_present h steps r = drop (reports_before h steps) h.reports ++ r ∷ []

pub moment-in : (k : Case) → CanCount k → (now : Option LeastTable) (after : List ℤ) → CountsIn k.c.terms.goods k.told (slice_index_or k.tables k.b None) now k.sums after
    → IsMoment k.c (report_of k.c k.b k.told) (now_present k.c k.steps (report_of k.c k.b k.told)) k.left k.steps k.phase k.prices (set k.tables k.b now) after k.account
moment-in k a now after counts =
    moment k.c (report_of k.c k.b k.told) (drop (reports_before k.c k.steps) k.c.reports) (now_present k.c k.steps (report_of k.c k.b k.told)) k.left k.steps k.phase k.prices k.account k.tables (set k.tables k.b now) k.told now k.sums after
    a.kept.standing a.kept.round a.take (fits-in k a) (holds-in k a now after counts) counts refl refl

-- the step sets stay
sets-in : (k : Case) → CanCount k → set_numbers k.past.sets ≡ sets_of (with_report k.c (report_of k.c k.b k.told)) k.steps
sets-in k a =
    a.kept.sets ∙ sym (sets-stay k.c (report_of k.c k.b k.told) k.steps (kept-path k.c (reports_before k.c k.steps) k.steps k.phase k.prices k.account a.kept.standing))

-- what is kept where the round stays
pub record Counted (h : ClockHistory) (past : PastOf) (left : ℕ) (s : Standing) (tables : List (Option LeastTable)) (sums : List ℤ) (account : Sums) (latest : List (Option (List (List ℕ)))) (marks : List Bool) : Type 0 where
  pub kept : IsKept h past left s.steps s.phase s.prices tables sums account
  pub held : KeepsLatest h (s.steps + 1) latest marks

pub stays-in : (k : Case) → CanCount k → (now : Option LeastTable) (after : List ℤ) (ledger : Sums) (s : Standing) → CountsIn k.c.terms.goods k.told (slice_index_or k.tables k.b None) now k.sums after
    → (k.left - 1 ≢ 0 → Waits k.steps k.prices k.account ledger s) → (k.left - 1 ≡ 0 → IsTurn k.c.terms.goods k.c.terms.ceiling k.steps k.prices after (set k.tables k.b now) k.account ledger s) → s.raised ≡ None
    → Counted (with_report k.c (report_of k.c k.b k.told)) (pushed k.past (report_of k.c k.b k.told)) (k.left - 1) s (set k.tables k.b now) after ledger (set k.latest k.b (Some (report_of k.c k.b k.told).demand)) (set k.marks k.b true)
stays-in k a now after ledger s counts wait turn none =
    let r = report_of k.c k.b k.told in
    let on = on-any k.c r (now_present k.c k.steps r) k.left k.steps k.phase k.prices (set k.tables k.b now) after k.account ledger s (moment-in k a now after counts) wait turn in
    let taken = latest-taken k.c r k.steps k.latest k.marks (new-in k a) a.held in
    let L : ℕ → Type 0 = λ n. KeepsLatest (with_report k.c r) (n + 1) (set k.latest k.b (Some r.demand)) (set k.marks k.b true) in
    record {
      kept = kept-here (with_report k.c r) (pushed k.past r) (now_present k.c k.steps r) (k.left - 1) k.steps (set k.tables k.b now) after ledger s on none a.kept.goods (sets-in k a);
      held = subst L (sym (same-steps on)) taken;
    }
  where
    same-steps : IsOn (with_report k.c (report_of k.c k.b k.told)) (now_present k.c k.steps (report_of k.c k.b k.told)) (k.left - 1) k.steps (set k.tables k.b now) after ledger s → s.steps ≡ k.steps
    same-steps (inl (e, stayed)) = stayed.same_steps
    same-steps (inr (chosen, e, went)) = absurd (let f : Some chosen ≡ None = sym e ∙ none in cc)

-- and where the next one begins
pub goes-in : (k : Case) → CanCount k → (now : Option LeastTable) (after : List ℤ) (ledger : Sums) (s : Standing) (chosen : GoodSet) (again : ℕ) → CountsIn k.c.terms.goods k.told (slice_index_or k.tables k.b None) now k.sums after
    → (k.left - 1 ≢ 0 → Waits k.steps k.prices k.account ledger s) → (k.left - 1 ≡ 0 → IsTurn k.c.terms.goods k.c.terms.ceiling k.steps k.prices after (set k.tables k.b now) k.account ledger s) → s.raised ≡ Some chosen → k.left - 1 ≡ 0 → again ≡ length (members_of k.c)
    → Counted (with_report k.c (report_of k.c k.b k.told)) (raised_on (pushed k.past (report_of k.c k.b k.told)) chosen) again s (set k.tables k.b now) after ledger (set k.latest k.b (Some (report_of k.c k.b k.told).demand)) (replicate 13 false)
goes-in k a now after ledger s chosen again counts wait turn some gone all =
    let r = report_of k.c k.b k.told in
    let h' : ClockHistory = with_report k.c r in
    let m = moment-in k a now after counts in
    let on = on-any k.c r (now_present k.c k.steps r) k.left k.steps k.phase k.prices (set k.tables k.b now) after k.account ledger s m wait turn in
    let went = went-by h' (now_present k.c k.steps r) (k.left - 1) k.steps (set k.tables k.b now) after ledger s chosen on some in
    let sets = map-append (λ (z : GoodSet). z.0) k.past.sets (chosen ∷ []) ∙ ap (λ ns. ns ++ chosen.0 ∷ []) (sets-in k a) in
    let kept = kept-went h' (raised_on (pushed k.past r) chosen) (now_present k.c k.steps r) (k.left - 1) again k.steps (set k.tables k.b now) after ledger s chosen went m.round a.kept.goods sets all in
    let more = went.next_steps in
    let idle = idle-empty h' (raised_on (pushed k.past r) chosen) again s.steps s.phase s.prices (set k.tables k.b now) after ledger kept (λ none. omega (arith, none, more)) all in
    let nobody = idle-nobody h' (reports_before h' s.steps) s.steps s.phase s.prices ledger kept.standing idle in
    let N : ℕ → Type 0 = λ n. (j : ℕ) → demand_in h'.reports (n + 1) j ≡ None in
    let full = moment-full k.c r (now_present k.c k.steps r) k.left k.steps k.phase k.prices (set k.tables k.b now) after k.account m gone in
    let L : ℕ → Type 0 = λ n. KeepsLatest h' (n + 1) (set k.latest k.b (Some r.demand)) (replicate 13 false) in
    record {
      kept = kept;
      held = subst L (sym more) (latest-turned h' k.steps (set k.latest k.b (Some r.demand)) (set k.marks k.b true) full (subst N more nobody) (latest-taken k.c r k.steps k.latest k.marks (new-in k a) a.held));
    }

-- there are fewer step sets than reports
pub sets-fewer : (k : Case) → CanCount k → k.c.reports ≡ k.past.reports → (new : PastOf) → new ≡ pushed k.past (report_of k.c k.b k.told) → length new.sets < length new.reports
sets-fewer k a same new is =
    let n = count-reports k.c _ k.left k.steps 0 k.phase k.prices k.account k.tables k.sums a.kept.standing a.kept.round in
    let s = ap length a.kept.sets ∙ length-sets_of k.c k.steps in
    let l = length-map k.past.sets (λ (z : GoodSet). z.0) in
    let p = ap (λ (x : PastOf). length x.sets) is in
    let q = ap (λ (x : PastOf). length x.reports) is ∙ length-append k.past.reports (report_of k.c k.b k.told ∷ []) in
    let t = ap length same in
    let one : 1 ≤ length (members_of k.c) = (let some = left-in k a in omega (arith, some, a.kept.round.counted)) in
    let w : k.steps * 1 ≤ k.steps * length (members_of k.c) = mul-le-mul_left k.steps one in
    omega (arith, n, s, l, p, q, t, w)

-- the same, of the reports that are packed and the demand that is kept
pub shown-in : (terms : Terms) (number : ℕ) (past new : PastOf) (d : List (List ℕ)) (newest : Option (List (List ℕ))) (left : ℕ) (s : Standing) (tables : List (Option LeastTable)) (sums : List ℤ) (account : Sums) (latest : List (Option (List (List ℕ)))) (b : ℕ) (marks : List Bool)
    → new ≡ past → newest ≡ Some d → Counted (record { terms = terms; number = number; reports = past.reports }) past left s tables sums account (set latest b (Some d)) marks
    → IsKept (record { terms = terms; number = number; reports = new.reports }) new left s.steps s.phase s.prices tables sums account
    × KeepsLatest (record { terms = terms; number = number; reports = new.reports }) (s.steps + 1) (set latest b newest) marks
shown-in terms number past new d newest left s tables sums account latest b marks new_is newest_is counted =
    let K : PastOf → Type 0 = λ p. IsKept (record { terms = terms; number = number; reports = p.reports }) p left s.steps s.phase s.prices tables sums account in
    let L : PastOf → Type 0 = λ p. KeepsLatest (record { terms = terms; number = number; reports = p.reports }) (s.steps + 1) (set latest b newest) marks in
    let N : Option (List (List ℕ)) → Type 0 = λ o. KeepsLatest (record { terms = terms; number = number; reports = past.reports }) (s.steps + 1) (set latest b o) marks in
    (subst K (sym new_is) counted.kept, subst L (sym new_is) (subst N (sym newest_is) counted.held))
