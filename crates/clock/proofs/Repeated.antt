-- A round in which each member reports again what it reported in the round before.
use Rattle.std.proofs.Common.{◌≡◌, ◌≢◌, ◌<◌, ◌≤◌, ◌⊎◌, inl, inr, ℕ, zero, suc, ◌+◌, ◌-◌, ◌*◌, ◌/◌, ◌^◌, Bool, true, false, not, ◌&&◌, nat_eq, cond, List, [], ◌∷◌, ◌++◌, length, length-append, append_assoc, Option, Some, None, is_some, refl, sym, ◌∙◌, ap, subst, arith, pos}
use Rattle.std.specs.Prelude.{map, filter, slice_get, slice_index_or, unwrap_or, nat_le, ◌+ℤ◌, ◌-ℤ◌}
use Rattle.std.specs.List.{AllByRecursion, range_with_len}
use Rattle.std.proofs.lemmas.Bool.Decides.{nat_tests}
use Rattle.std.proofs.Math.Nat.{eq-or-lt_of_le}
use Rattle.std.proofs.lemmas.List.{map-append}
use Rattle.std.proofs.lemmas.Nat.{div-mul-add}
use Rattle.lot_base.specs.Goods.{raised, quantity_in}
use Rattle.lot_base.specs.Demands.{IsDemand, least}
use Rattle.lot_base.specs.Economy.{total_units, without}
use Rattle.lot_base.specs.Steps.{excess, step_set, first_set}
use Rattle.lot_base.specs.declared.phases.Phase.TheVariants.{Running}
use Rattle.lot_base.specs.declared.tables.LeastTable.{LeastTable}
use Rattle.lot_base.proofs.Within.{both}
use Rattle.credit_book.specs.Account.{Sums, sum_without, units_left, least_in}
use Rattle.demand_set.specs.declared.reports.Report.{Report}
use Rattle.clock.specs.declared.judging.Judgement.TheVariants.{Take, NotMember, NoRound}
use Rattle.clock.specs.Reports.{ClockHistory, demand_in, demands_in, members_of, with_report, is_full}
use Rattle.clock.specs.Standing.{sets_of, step_set_after, leads_on, is_full_after, good_from, prices_after, phase_of, last_round}
use Rattle.clock.specs.Judging.{judgement_of, is_member, late_by, repeat_of, IsLegal}
use Rattle.clock.specs.Tables.{AreTablesOf, is_member_of}
use Rattle.clock.specs.Kept.{HasStanding, KeepsTables, missing_count, reports_before}
use Rattle.clock.proofs.After.{kept-path, after-path, after-prices, after-kept}
use Rattle.clock.proofs.Excesses.{found-fits}
use Rattle.clock.proofs.StandingDemands.{standing-before}
use Rattle.clock.proofs.Going.{sets-stay}
use Rattle.clock.proofs.Ledger.{adds-step}
use Rattle.clock.proofs.Moves.{StandingAt, Steps}
use Rattle.clock.proofs.Next.{waits, halts, goes, few-steps, prices-next}
use Rattle.clock.proofs.Pushed.{is-new, demand-new, demand-other, missing-pushed}
use Rattle.clock.proofs.Present.{reported}
use Rattle.clock.proofs.Totals.{full-count, open-count}
use Rattle.clock.proofs.Taking.{get-append}

-- the report of a member, and the history with those of some members
abbrev pub again : ClockHistory → ℕ → ℕ → Report
again c steps j = record { bidder = j; round = steps + 1; demand = demands_in c.reports steps j }

abbrev pub part : ClockHistory → ℕ → List ℕ → ClockHistory
part c steps told = record c { reports = c.reports ++ map (again c steps) told }

part-next : (c : ClockHistory) (steps : ℕ) (told : List ℕ) (j : ℕ) → with_report (part c steps told) (again c steps j) ≡ part c steps (told ++ j ∷ [])
part-next c steps told j =
    let e : (c.reports ++ map (again c steps) told) ++ again c steps j ∷ [] ≡ c.reports ++ map (again c steps) (told ++ j ∷ []) =
    append_assoc c.reports (map (again c steps) told) (again c steps j ∷ []) ∙ ap (λ rs. c.reports ++ rs) (sym (map-append (again c steps) told (j ∷ []))) in
    λ i. record c { reports = e i }

-- a member that may report again, before the others
pub record IsReady (c : ClockHistory) (steps j : ℕ) (left : List ℕ) : Type 0 where
  pub member : is_member c j ≡ true
  pub demand : IsDemand c.terms.goods (demands_in c.reports steps j)
  pub above : AllByRecursion (λ k. j < k) left

abbrev pub AreReady : ClockHistory → ℕ → List ℕ → Type 0
AreReady c steps [] = Unit {0}
AreReady c steps (j ∷ left) = IsReady c steps j left × AreReady c steps left

-- after some of the members
pub record IsPartway (c : ClockHistory) (steps : ℕ) (prices : List ℕ) (account : Sums) (told left : List ℕ) : Type 0 where
  pub standing : HasStanding (part c steps told) (reports_before c steps) steps Running prices account
  pub order : (i : ℕ) (r : Report) → slice_get (part c steps told).reports i ≡ Some r → r.round ≡ i / length (members_of c) + 1
  pub count : length (part c steps told).reports ≡ reports_before c steps + length told
  pub missing : missing_count (members_of c) (part c steps told).reports (steps + 1) ≡ length left
  pub found : AllByRecursion (λ j. demand_in (part c steps told).reports (steps + 1) j ≡ Some (demands_in c.reports steps j)) told
  pub waiting : AllByRecursion (λ j. demand_in (part c steps told).reports (steps + 1) j ≡ None) left
  pub members : length told + length left ≡ length (members_of c)
  pub sets : sets_of (part c steps told) steps ≡ sets_of c steps

take-again : (h : ClockHistory) (r : Report) (current steps : ℕ) (prices : List ℕ) (account : Sums) → HasStanding h current steps Running prices account → is_member h r.bidder ≡ true → r.round ≡ steps + 1 → demand_in h.reports (steps + 1) r.bidder ≡ None → judgement_of h r ≡ Take
take-again h r current steps prices account k member round absent =
    let a : nat_eq r.round 0 ≡ false = grind (arith, nat_tests) in
    let is = k.steps_are in
    let b : nat_le r.round (last_round h) ≡ true = grind (arith, nat_tests) in
    let o : demand_in h.reports r.round r.bidder ≡ None = ap (λ t. demand_in h.reports t r.bidder) round ∙ absent in
    λ i. cond (member i) (cond (a i) NoRound (cond (b i) (repeat_of r.round r.demand (o i)) (late_by (phase_of h) (last_round h)))) NotMember

order-next : (m steps k : ℕ) (reports : List Report) (r : Report) → ((i : ℕ) (x : Report) → slice_get reports i ≡ Some x → x.round ≡ i / m + 1) → length reports ≡ steps * m + k → k < m → r.round ≡ steps + 1
    → (i : ℕ) (x : Report) → slice_get (reports ++ r ∷ []) i ≡ Some x → x.round ≡ i / m + 1
order-next m steps k reports r order count small round i x at = by (get-append reports r x i at)
  where
    by : (slice_get reports i ≡ Some x) ⊎ ((i ≡ length reports) × (r ≡ x)) → x.round ≡ i / m + 1
    by (inl before) = order i x before
    by (inr last) =
        let d = div-mul-add steps m k small in
        ap (λ (z : Report). z.round) (sym last.1) ∙ round ∙ ap (λ q. q + 1) (sym d ∙ ap (λ q. q / m) (sym (last.0 ∙ count)))

-- what the next report changes
pub record IsNext (c : ClockHistory) (steps : ℕ) (prices : List ℕ) (account : Sums) (told left : List ℕ) (j : ℕ) : Type 0 where
  pub take : judgement_of (part c steps told) (again c steps j) ≡ Take
  pub fits : IsDemand c.terms.goods (demands_in c.reports steps j)
  pub order : (i : ℕ) (r : Report) → slice_get (part c steps (told ++ j ∷ [])).reports i ≡ Some r → r.round ≡ i / length (members_of c) + 1
  pub count : length (part c steps (told ++ j ∷ [])).reports ≡ reports_before c steps + length (told ++ j ∷ [])
  pub missing : missing_count (members_of c) (part c steps (told ++ j ∷ [])).reports (steps + 1) ≡ length left
  pub found : AllByRecursion (λ k. demand_in (part c steps (told ++ j ∷ [])).reports (steps + 1) k ≡ Some (demands_in c.reports steps k)) (told ++ j ∷ [])
  pub waiting : AllByRecursion (λ k. demand_in (part c steps (told ++ j ∷ [])).reports (steps + 1) k ≡ None) left
  pub members : length (told ++ j ∷ []) + length left ≡ length (members_of c)
  pub sets : sets_of (part c steps (told ++ j ∷ [])) steps ≡ sets_of c steps

all-found : (c : ClockHistory) (steps : ℕ) (h : ClockHistory) (j : ℕ) (told : List ℕ) → demand_in h.reports (steps + 1) j ≡ None → demand_in (with_report h (again c steps j)).reports (steps + 1) j ≡ Some (demands_in c.reports steps j)
    → AllByRecursion (λ k. demand_in h.reports (steps + 1) k ≡ Some (demands_in c.reports steps k)) told → AllByRecursion (λ k. demand_in (with_report h (again c steps j)).reports (steps + 1) k ≡ Some (demands_in c.reports steps k)) (told ++ j ∷ [])
all-found c steps h j [] absent now all = (now, tt)
all-found c steps h j (k ∷ told) absent now all =
    (demand-other h (again c steps j) (steps + 1) k (apart all.0) ∙ all.0, all-found c steps h j told absent now all.1)
  where
    apart : demand_in h.reports (steps + 1) k ≡ Some (demands_in c.reports steps k) → j ≢ k
    apart there same = (let f : None ≡ Some (demands_in c.reports steps k) = sym absent ∙ ap (demand_in h.reports (steps + 1)) same ∙ there in cc)

all-waiting : (c : ClockHistory) (steps : ℕ) (h : ClockHistory) (j : ℕ) (left : List ℕ) → AllByRecursion (λ k. j < k) left → AllByRecursion (λ k. demand_in h.reports (steps + 1) k ≡ None) left
    → AllByRecursion (λ k. demand_in (with_report h (again c steps j)).reports (steps + 1) k ≡ None) left
all-waiting c steps h j [] above all = tt
all-waiting c steps h j (k ∷ left) above all =
    (demand-other h (again c steps j) (steps + 1) k (λ same. (let a = above.0 in omega (arith, a, same))) ∙ all.0, all-waiting c steps h j left above.1 all.1)

is-next : (c : ClockHistory) (steps : ℕ) (prices : List ℕ) (account : Sums) (told left : List ℕ) (j : ℕ) → IsPartway c steps prices account told (j ∷ left) → IsReady c steps j left → IsNext c steps prices account told left j
is-next c steps prices account told left j p ready =
    let h : ClockHistory = part c steps told in
    let r : Report = again c steps j in
    let e = part-next c steps told j in
    let take = take-again h r (reports_before c steps) steps prices account p.standing ready.member refl p.waiting.0 in
    let new = is-new h r (reports_before c steps) steps Running prices account p.standing take in
    let fewer = missing-pushed h r steps new in
    let l = length-append told (j ∷ []) in
    let n = length-append h.reports (r ∷ []) in
    let small : length told < length (members_of c) = (let m = p.members in omega arith) in
    let O : ClockHistory → Type 0 = λ z. (i : ℕ) (x : Report) → slice_get z.reports i ≡ Some x → x.round ≡ i / length (members_of c) + 1 in
    let F : ClockHistory → Type 0 = λ z. AllByRecursion (λ k. demand_in z.reports (steps + 1) k ≡ Some (demands_in c.reports steps k)) (told ++ j ∷ []) in
    let W : ClockHistory → Type 0 = λ z. AllByRecursion (λ k. demand_in z.reports (steps + 1) k ≡ None) left in
    record {
      take = take;
      fits = ready.demand;
      order = subst O e (order-next (length (members_of c)) steps (length told) h.reports r p.order p.count small refl);
      count = ap (λ (z : ClockHistory). length z.reports) (sym e) ∙ omega (arith, n, p.count, l);
      missing = ap (λ (z : ClockHistory). missing_count (members_of c) z.reports (steps + 1)) (sym e) ∙ omega (arith, p.missing, fewer);
      found = subst F e (all-found c steps h j told p.waiting.0 (demand-new h r steps new) p.found);
      waiting = subst W e (all-waiting c steps h j left ready.above p.waiting.1);
      members = (let m = p.members in omega (arith, m, l));
      sets = ap (λ (z : ClockHistory). sets_of z steps) (sym e) ∙ sets-stay h r steps (kept-path h (reports_before c steps) steps Running prices account p.standing) ∙ p.sets;
    }

-- one more of the members, and not the last
partway-next : (c : ClockHistory) (steps : ℕ) (prices : List ℕ) (account : Sums) (told left : List ℕ) (j k : ℕ) → IsPartway c steps prices account told (j ∷ k ∷ left) → IsReady c steps j (k ∷ left) → IsPartway c steps prices account (told ++ j ∷ []) (k ∷ left)
partway-next c steps prices account told left j k p ready =
    let h : ClockHistory = part c steps told in
    let r : Report = again c steps j in
    let e = part-next c steps told j in
    let n = is-next c steps prices account told (k ∷ left) j p ready in
    let M : ClockHistory → Type 0 = λ z. missing_count (members_of c) z.reports (steps + 1) ≡ suc (length left) in
    let some_left : missing_count (members_of c) (with_report h r).reports (steps + 1) ≡ suc (length left) = subst M (sym e) n.missing in
    let w = waits (with_report h r) steps (open-count (members_of c) (with_report h r).reports (steps + 1) (λ z. (let o = some_left in omega (arith, o, z)))) in
    let s : StandingAt = record { current = reports_before c steps; steps = steps; phase = Running; prices = prices } in
    let H : ClockHistory → Type 0 = λ z. HasStanding z (reports_before c steps) steps Running prices account in
    let stand = after-kept h r (reports_before c steps) steps Running prices account account s p.standing n.take n.fits
    (inl (record { stops = w.1; current_is = refl; steps_are = refl; phase_is = sym w.0; prices_are = after-prices h r (reports_before c steps) steps Running prices account p.standing; account_is = refl })) in
    record { standing = subst H e stand; order = n.order; count = n.count; missing = n.missing; found = n.found; waiting = n.waiting; members = n.members; sets = n.sets }

-- before the last of the members
pub record IsNearly (c : ClockHistory) (steps : ℕ) (prices : List ℕ) (account : Sums) (all : List ℕ) : Type 0 where
  pub told : List ℕ
  pub last : ℕ
  pub whole : told ++ last ∷ [] ≡ all
  pub partway : IsPartway c steps prices account told (last ∷ [])
  pub ready : IsReady c steps last []

to-last : (c : ClockHistory) (steps : ℕ) (prices : List ℕ) (account : Sums) (left told : List ℕ) (j : ℕ) → IsPartway c steps prices account told (j ∷ left) → AreReady c steps (j ∷ left) → IsNearly c steps prices account (told ++ j ∷ left)
to-last c steps prices account [] told j p ready = record { told = told; last = j; whole = refl; partway = p; ready = ready.0 }
to-last c steps prices account (k ∷ left) told j p ready =
    let rest = to-last c steps prices account left (told ++ j ∷ []) k (partway-next c steps prices account told left j k p ready.0) ready.1 in
    let N : List ℕ → Type 0 = λ xs. IsNearly c steps prices account xs in
    subst N (append_assoc told (j ∷ []) (k ∷ left)) rest

-- The round with the reports of all members.
pub record IsFilled (c : ClockHistory) (steps : ℕ) (prices : List ℕ) (account : Sums) : Type 0 where
  pub nearly : IsNearly c steps prices account (members_of c)
  pub next : IsNext c steps prices account nearly.told [] nearly.last
  pub full : is_full_after (part c steps (members_of c)) steps ≡ true
  pub prices_are : prices ≡ prices_after (part c steps (members_of c)) steps
  pub path : (m : ℕ) → m < steps → leads_on (part c steps (members_of c)) m ≡ true
  pub found : AllByRecursion (λ k. demand_in (part c steps (members_of c)).reports (steps + 1) k ≡ Some (demands_in c.reports steps k)) (members_of c)
  pub sets : sets_of (part c steps (members_of c)) steps ≡ sets_of c steps

filled-by : (c : ClockHistory) (steps : ℕ) (prices : List ℕ) (account : Sums) (all : List ℕ) → all ≡ members_of c → IsNearly c steps prices account all → IsFilled c steps prices account
filled-by c steps prices account all same nearly =
    let N : List ℕ → Type 0 = λ xs. IsNearly c steps prices account xs in
    at (subst N same nearly)
  where
    at : IsNearly c steps prices account (members_of c) → IsFilled c steps prices account
    at nearly =
        let h : ClockHistory = part c steps nearly.told in
        let r : Report = again c steps nearly.last in
        let n = is-next c steps prices account nearly.told [] nearly.last nearly.partway nearly.ready in
        let e : with_report h r ≡ part c steps (members_of c) = part-next c steps nearly.told nearly.last ∙ ap (part c steps) nearly.whole in
        let M : List ℕ → Type 0 = λ xs. missing_count (members_of c) (part c steps xs).reports (steps + 1) ≡ 0 in
        let none = subst M nearly.whole n.missing in
        let P : ClockHistory → Type 0 = λ z. (m : ℕ) → m < steps → leads_on z m ≡ true in
        let Q : ClockHistory → Type 0 = λ z. prices ≡ prices_after z steps in
        let F : List ℕ → Type 0 = λ xs. AllByRecursion (λ k. demand_in (part c steps xs).reports (steps + 1) k ≡ Some (demands_in c.reports steps k)) xs in
        record {
          nearly = nearly;
          next = n;
          full = full-count (members_of c) (part c steps (members_of c)).reports (steps + 1) none;
          prices_are = subst Q e (after-prices h r (reports_before c steps) steps Running prices account nearly.partway.standing);
          path = subst P e (after-path h r (reports_before c steps) steps Running prices account nearly.partway.standing);
          found = subst F nearly.whole n.found;
          sets = ap (λ xs. sets_of (part c steps xs) steps) (sym nearly.whole) ∙ n.sets;
        }

-- the members are ready
ascending-filter : (test : ℕ → Bool) (j a n : ℕ) → j < a → AllByRecursion (λ k. j < k) (filter test (range_with_len a n))
ascending-filter test j a zero below = tt
ascending-filter test j a (suc n) below = by (test a) (ascending-filter test j (a + 1) n (omega arith))
  where
    by : (b : Bool) → AllByRecursion (λ k. j < k) (filter test (range_with_len (a + 1) n)) → AllByRecursion (λ k. j < k) (cond b (a ∷ filter test (range_with_len (a + 1) n)) (filter test (range_with_len (a + 1) n)))
    by true rest = (below, rest)
    by false rest = rest

found-demand : (c : ClockHistory) (steps j : ℕ) (o : Option (List (List ℕ))) → IsLegal c → demand_in c.reports steps j ≡ o → is_some o ≡ true → IsDemand c.terms.goods (unwrap_or o [])
found-demand c steps j None legal e some = absurd (let f : false ≡ true = some in cc)
found-demand c steps j (Some d) legal e some = found-fits c.terms.goods c.reports steps j d legal.demands e

ready-from : (c : ClockHistory) (steps : ℕ) → ((j : ℕ) → is_member c j ≡ true → IsDemand c.terms.goods (demands_in c.reports steps j)) → (a n : ℕ) → 1 ≤ a → a + n ≤ c.terms.bidders + 1 → AreReady c steps (filter (λ j. not (nat_eq j c.number)) (range_with_len a n))
ready-from c steps good a zero one most = tt
ready-from c steps good a (suc n) one most =
    by (nat_eq a c.number) refl (ready-from c steps good (a + 1) n (omega arith) (omega arith)) (ascending-filter (λ j. not (nat_eq j c.number)) a (a + 1) n (omega arith))
  where
    by : (b : Bool) → nat_eq a c.number ≡ b → AreReady c steps (filter (λ j. not (nat_eq j c.number)) (range_with_len (a + 1) n)) → AllByRecursion (λ k. a < k) (filter (λ j. not (nat_eq j c.number)) (range_with_len (a + 1) n))
        → AreReady c steps (cond (not b) (a ∷ filter (λ j. not (nat_eq j c.number)) (range_with_len (a + 1) n)) (filter (λ j. not (nat_eq j c.number)) (range_with_len (a + 1) n)))
    by true e rest above = rest
    by false e rest above =
        let low : nat_le 1 a ≡ true = grind (arith, nat_tests) in
        let high : nat_le a c.terms.bidders ≡ true = grind (arith, nat_tests) in
        let member : is_member c a ≡ true = λ i. low i && (high i && not (e i)) in
        (record { member = member; demand = good a member; above = above }, rest)

pub all-ready : (c : ClockHistory) (steps : ℕ) → IsLegal c → is_full (members_of c) c.reports steps ≡ true → AreReady c steps (members_of c)
all-ready c steps legal full =
    ready-from c steps (λ j member. found-demand c steps j (demand_in c.reports steps j) legal refl (reported c steps j member full)) 1 c.terms.bidders (omega arith) (omega arith)

-- the round is filled
pub filled : (c : ClockHistory) (steps : ℕ) (prices : List ℕ) (account : Sums) (ms : List ℕ) → ms ≡ members_of c → 1 ≤ length ms → IsPartway c steps prices account [] ms → AreReady c steps ms → IsFilled c steps prices account
filled c steps prices account [] same some p ready = absurd (omega arith)
filled c steps prices account (j ∷ left) same some p ready = filled-by c steps prices account (j ∷ left) same (to-last c steps prices account left [] j p ready)

-- the same demands have the same step set
total-same : (f g : ℕ → List (List ℕ)) (ms : List ℕ) (set : ℕ) → AllByRecursion (λ j. f j ≡ g j) ms → total_units (λ j. least (f j) set) ms ≡ total_units (λ j. least (g j) set) ms
total-same f g [] set same = refl
total-same f g (m ∷ ms) set same = let first = same.0 in let rest = total-same f g ms set same.1 in λ i. least (first i) set + rest i

pub step-same : (supply : List ℕ) (f g : ℕ → List (List ℕ)) (ms : List ℕ) → AllByRecursion (λ j. f j ≡ g j) ms → step_set supply f ms ≡ step_set supply g ms
unfolding step_set
step-same supply f g ms same = λ i. first_set (λ set. pos (total-same f g ms set same i) -ℤ pos (quantity_in supply set)) (length supply)

pub as-found : (c h : ClockHistory) (steps : ℕ) (ms : List ℕ) → AllByRecursion (λ k. demand_in h.reports (steps + 1) k ≡ Some (demands_in c.reports steps k)) ms → AllByRecursion (λ k. demands_in h.reports (steps + 1) k ≡ demands_in c.reports steps k) ms
as-found c h steps [] all = tt
as-found c h steps (k ∷ ms) all = (ap (λ o. unwrap_or o []) all.0, as-found c h steps ms all.1)

pub set-again : (c : ClockHistory) (steps : ℕ) (prices : List ℕ) (account : Sums) → 1 ≤ steps → IsFilled c steps prices account → step_set_after (part c steps (members_of c)) steps ≡ step_set_after c (steps - 1)
set-again c steps prices account some f =
    let e : steps ≡ steps - 1 + 1 = omega arith in
    step-same c.terms.goods (demands_in (part c steps (members_of c)).reports (steps + 1)) (demands_in c.reports steps) (members_of c) (as-found c (part c steps (members_of c)) steps (members_of c) f.found)
    ∙ ap (λ n. step_set c.terms.goods (demands_in c.reports n) (members_of c)) e

-- the round leads on where no good is at the ceiling, and else it does not
pub goes-again : (c : ClockHistory) (steps : ℕ) (prices : List ℕ) (account : Sums) (set : ℕ) → IsFilled c steps prices account → step_set_after (part c steps (members_of c)) steps ≡ set → set ≢ 0 → good_from 0 c.terms.ceiling prices set ≡ None → leads_on (part c steps (members_of c)) steps ≡ true
goes-again c steps prices account set f same some free =
    goes (part c steps (members_of c)) steps f.full (λ z. some (sym same ∙ z)) ((λ i. good_from 0 c.terms.ceiling (sym f.prices_are i) (same i)) ∙ free)

pub stops-again : (c : ClockHistory) (steps : ℕ) (prices : List ℕ) (account : Sums) (set good : ℕ) → IsFilled c steps prices account → step_set_after (part c steps (members_of c)) steps ≡ set → set ≢ 0 → good_from 0 c.terms.ceiling prices set ≡ Some good → leads_on (part c steps (members_of c)) steps ≡ false
stops-again c steps prices account set good f same some at =
    (halts (part c steps (members_of c)) steps good f.full (λ z. some (sym same ∙ z)) ((λ i. good_from 0 c.terms.ceiling (sym f.prices_are i) (same i)) ∙ at)).1

-- what is said of each of the members
all-range : (P : ℕ → Type 0) (q : ℕ → Bool) (a n b : ℕ) → a ≤ b → b < a + n → q b ≡ true → AllByRecursion P (filter q (range_with_len a n)) → P b
all-range P q a zero b up below here all = absurd (omega arith)
all-range P q a (suc n) b up below here all = by (q a) refl (eq-or-lt_of_le up) (λ later rest. all-range P q (a + 1) n b (omega (arith, later)) (omega arith) here rest) all
  where
    by : (t : Bool) → q a ≡ t → (a ≡ b) ⊎ (a < b) → (a < b → AllByRecursion P (filter q (range_with_len (a + 1) n)) → P b) → AllByRecursion P (cond t (a ∷ filter q (range_with_len (a + 1) n)) (filter q (range_with_len (a + 1) n))) → P b
    by true e (inl same) next all = subst P same all.0
    by true e (inr later) next all = next later all.1
    by false e (inl same) next all = absurd (let f : false ≡ true = sym e ∙ ap q same ∙ here in cc)
    by false e (inr later) next all = next later all

pub member-of_all : (P : ℕ → Type 0) (c : ClockHistory) (b : ℕ) → is_member c b ≡ true → AllByRecursion P (members_of c) → P b
member-of_all P c b member all =
    let h = both (nat_le 1 b) (nat_le b c.terms.bidders && not (nat_eq b c.number)) member in
    let k = both (nat_le b c.terms.bidders) (not (nat_eq b c.number)) h.1 in
    let low : 1 ≤ b = (let t = h.0 in grind (arith, nat_tests)) in
    let high : b ≤ c.terms.bidders = (let t = k.0 in grind (arith, nat_tests)) in
    all-range P (λ j. not (nat_eq j c.number)) 1 c.terms.bidders b low (omega arith) k.1 all

pub tables-again : (c : ClockHistory) (steps : ℕ) (prices : List ℕ) (account : Sums) (tables : List (Option LeastTable)) → ((j : ℕ) → demand_in c.reports (steps + 1) j ≡ None) → KeepsTables c (steps + 1) tables → IsFilled c steps prices account
    → (j set : ℕ) → set < 2 ^ length c.terms.goods → is_member c j ≡ true → least_in (slice_index_or tables j None) set ≡ least (demands_in (part c steps (members_of c)).reports (steps + 1) j) set
tables-again c steps prices account tables none k f j set below member =
    let e : steps + 1 - 1 ≡ steps = omega arith in
    let d = member-of_all (λ b. demands_in (part c steps (members_of c)).reports (steps + 1) b ≡ demands_in c.reports steps b) c j member (as-found c (part c steps (members_of c)) steps (members_of c) f.found) in
    k.held j set below member ∙ ap (λ b. least b set) (standing-before c (steps + 1) j (none j) ∙ ap (λ n. demands_in c.reports n j) e ∙ sym d)

are-tables-again : (c : ClockHistory) (steps : ℕ) (prices : List ℕ) (account : Sums) (tables : List (Option LeastTable)) → ((j : ℕ) → demand_in c.reports (steps + 1) j ≡ None) → KeepsTables c (steps + 1) tables → IsFilled c steps prices account
    → AreTablesOf c.terms.goods (demands_in (part c steps (members_of c)).reports (steps + 1)) c.terms.bidders c.number tables
are-tables-again c steps prices account tables none k f = λ j set below. by j set below (is_member c j) refl
  where
    by : (j set : ℕ) → set < 2 ^ length c.terms.goods → (b : Bool) → is_member c j ≡ b
        → least_in (slice_index_or tables j None) set ≡ cond (is_member_of c.terms.bidders c.number j) (least (demands_in (part c steps (members_of c)).reports (steps + 1) j) set) 0
    by j set below true e = tables-again c steps prices account tables none k f j set below e ∙ sym (ap (λ b. cond b (least (demands_in (part c steps (members_of c)).reports (steps + 1) j) set) 0) e)
    by j set below false e = ap (λ t. least_in t set) (k.nobody j e) ∙ sym (ap (λ b. cond b (least (demands_in (part c steps (members_of c)).reports (steps + 1) j) set) 0) e)

-- how the clock stands with the round
pub standing-again : (c : ClockHistory) (steps : ℕ) (prices : List ℕ) (account after : Sums) (tables : List (Option LeastTable)) (set : ℕ) → ((j : ℕ) → demand_in c.reports (steps + 1) j ≡ None) → KeepsTables c (steps + 1) tables → IsFilled c steps prices account
    → step_set_after (part c steps (members_of c)) steps ≡ set → set < 2 ^ length c.terms.goods → leads_on (part c steps (members_of c)) steps ≡ true → after.steps ≡ account.steps + 1 → ((b : ℕ) → sum_without after b ≡ sum_without account b +ℤ units_left c.terms.goods tables set b)
    → HasStanding (part c steps (members_of c)) (reports_before c (steps + 1)) (steps + 1) Running (raised prices set) after
standing-again c steps prices account after tables set none k f same inside leads account_steps sums =
    let now : ClockHistory = part c steps (members_of c) in
    let h : ClockHistory = part c steps f.nearly.told in
    let r : Report = again c steps f.nearly.last in
    let e : with_report h r ≡ now = part-next c steps f.nearly.told f.nearly.last ∙ ap (part c steps) f.nearly.whole in
    let added = adds-step c.terms.goods (demands_in now.reports (steps + 1)) c.terms.bidders c.number set tables account after c.terms.bidders_in_range.at_most inside (are-tables-again c steps prices account tables none k f) sums in
    let few = few-steps now steps c.terms.supply f.path leads in
    let prices_are : raised prices set ≡ prices_after now (steps + 1) = (λ i. raised (f.prices_are i) (sym same i)) ∙ sym (prices-next now steps) in
    let at : StandingAt = record { current = length now.reports; steps = steps + 1; phase = Running; prices = raised prices set } in
    let account_sums : (b : ℕ) → sum_without after b ≡ sum_without account b -ℤ excess c.terms.goods (demands_in now.reports (steps + 1)) (without b (members_of now)) (step_set_after now steps) =
    λ b. added b ∙ ap (λ z. sum_without account b -ℤ excess c.terms.goods (demands_in now.reports (steps + 1)) (without b (members_of now)) z) (sym same) in
    let S : ClockHistory → Type 0 = λ z. Steps z steps account after at in
    let steps_are = subst S (sym e) (record { goes = leads; current_is = refl; steps_are = refl; few = few; phase_is = refl; prices_are = prices_are; account_steps = account_steps; account_sums = account_sums }) in
    let stand = after-kept h r (reports_before c steps) steps Running prices account after at f.nearly.partway.standing f.next.take f.next.fits (inr steps_are) in
    let H : ClockHistory → Type 0 = λ z. HasStanding z (length now.reports) (steps + 1) Running (raised prices set) after in
    let C : List ℕ → Type 0 = λ xs. length (part c steps xs).reports ≡ reports_before c steps + length xs in
    let n = subst C f.nearly.whole f.next.count in
    let w : (steps + 1) * length (members_of c) ≡ steps * length (members_of c) + length (members_of c) = grind arith in
    let all : length now.reports ≡ reports_before c (steps + 1) = omega (arith, n, w) in
    let L : ℕ → Type 0 = λ z. HasStanding now z (steps + 1) Running (raised prices set) after in
    subst L all (subst H e stand)

-- the order of the reports stays
pub order-again : (c : ClockHistory) (steps : ℕ) (prices : List ℕ) (account : Sums) → IsFilled c steps prices account → (i : ℕ) (r : Report) → slice_get (part c steps (members_of c)).reports i ≡ Some r → r.round ≡ i / length (members_of c) + 1
order-again c steps prices account f =
    let O : List ℕ → Type 0 = λ xs. (i : ℕ) (r : Report) → slice_get (part c steps xs).reports i ≡ Some r → r.round ≡ i / length (members_of c) + 1 in
    subst O f.nearly.whole f.next.order

pub count-again : (c : ClockHistory) (steps : ℕ) (prices : List ℕ) (account : Sums) → IsFilled c steps prices account → length (part c steps (members_of c)).reports ≡ reports_before c (steps + 1)
count-again c steps prices account f =
    let C : List ℕ → Type 0 = λ xs. length (part c steps xs).reports ≡ reports_before c steps + length xs in
    let n = subst C f.nearly.whole f.next.count in
    let w : (steps + 1) * length (members_of c) ≡ steps * length (members_of c) + length (members_of c) = grind arith in
    omega (arith, n, w)

pub all-of : (P : ℕ → Type 0) (ms : List ℕ) → ((j : ℕ) → P j) → AllByRecursion P ms
all-of P [] each = tt
all-of P (j ∷ ms) each = (each j, all-of P ms each)
