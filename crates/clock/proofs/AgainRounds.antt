-- What a clock needs to repeat the round before, and how it stands then.
use Rattle.std.proofs.Common.{◌≡◌, ◌≢◌, ◌<◌, ◌≤◌, ℕ, zero, suc, ◌+◌, ◌-◌, ◌*◌, ◌^◌, Bool, true, false, List, [], ◌∷◌, ◌++◌, length, take, drop, get_or, Option, Some, None, is_some, is_none, refl, sym, ◌∙◌, ap, subst, arith}
use Rattle.std.specs.Prelude.{map, find, nat_eq, slice_index, ℤ}
use Rattle.std.proofs.lemmas.List.{length-map}
use Rattle.lot_base.specs.Goods.{AllBelow, raised}
use Rattle.lot_base.specs.declared.phases.Phase.{Phase}
use Rattle.lot_base.specs.declared.supply.GoodSet.{GoodSet}
use Rattle.lot_base.specs.declared.tables.LeastTable.{LeastTable}
use Rattle.credit_book.specs.Account.{Sums}
use Rattle.demand_set.specs.declared.reports.Report.{Report}
use Rattle.clock.specs.Past.{PastOf, again_among, raised_on}
use Rattle.clock.specs.Reports.{ClockHistory, demand_in, members_of}
use Rattle.clock.specs.Standing.{step_set_after, leads_on, good_from, steps_of}
use Rattle.clock.specs.Judging.{is_member}
use Rattle.clock.specs.Repeats.{IsIdle, with_round, repeated}
use Rattle.clock.specs.Kept.{IsKept, KeepsLatest, reports_before}
use Rattle.clock.proofs.Latest.{latest-again}
use Rattle.clock.proofs.Again.{had-step, idle-nobody, idle-running, idle-filled, again-same, there-again, from-last}
use Rattle.clock.proofs.Looking.{present-demand, numbers-get, get-sets, count-sets}
use Rattle.clock.proofs.Next.{can-raise, few-steps}
use Rattle.clock.proofs.Path.{stops_by, step-below}
use Rattle.clock.proofs.Repeated.{IsFilled, again, part, set-again, goes-again, stops-again}

-- at the most steps the round leads on no more
pub left-none : (c : ClockHistory) (past : PastOf) (left steps : ℕ) (phase : Phase) (prices : List ℕ) (tables : List (Option LeastTable)) (sums : List ℤ) (account : Sums) → IsKept c past left steps phase prices tables sums account → IsIdle c
    → length c.terms.goods * c.terms.ceiling ≤ steps → leads_on (with_round c) (steps_of c) ≡ false
left-none c past left steps phase prices tables sums account k idle most =
    let f = idle-filled c _ left steps phase prices account tables sums k.standing k.round idle in
    let L : ℕ → Type 0 = λ n. leads_on (part c n (members_of c)) n ≡ false in
    subst L k.standing.steps_are (stops_by (part c steps (members_of c)) steps most f.path)

-- the step set of the last step
pub last-inside : (c : ClockHistory) (past : PastOf) (left steps : ℕ) (phase : Phase) (prices : List ℕ) (tables : List (Option LeastTable)) (sums : List ℤ) (account : Sums) → IsKept c past left steps phase prices tables sums account → IsIdle c
    → steps - 1 < length past.sets
last-inside c past left steps phase prices tables sums account k idle =
    let n = count-sets c past.sets steps k.sets in
    let s = idle.some_step in
    omega (arith, n, s, k.standing.steps_are)

pub last-is : (c : ClockHistory) (past : PastOf) (left steps : ℕ) (phase : Phase) (prices : List ℕ) (tables : List (Option LeastTable)) (sums : List ℤ) (account : Sums) → IsKept c past left steps phase prices tables sums account → IsIdle c
    → (get_or past.sets (steps - 1) (record { 0 = 0 })).0 ≡ step_set_after c (steps_of c - 1)
last-is c past left steps phase prices tables sums account k idle =
    sym (numbers-get past.sets (steps - 1)) ∙ ap (λ xs. slice_index xs (steps - 1)) k.sets
    ∙ get-sets c steps (steps - 1) (let s = idle.some_step in omega (arith, s, k.standing.steps_are))
    ∙ ap (λ n. step_set_after c (n - 1)) k.standing.steps_are

-- whether the round leads on
pub leads-by : (c : ClockHistory) (past : PastOf) (left steps : ℕ) (phase : Phase) (prices : List ℕ) (tables : List (Option LeastTable)) (sums : List ℤ) (account : Sums) (set : ℕ) (o : Option ℕ) → IsKept c past left steps phase prices tables sums account → IsIdle c
    → set ≡ step_set_after c (steps_of c - 1) → o ≡ good_from 0 c.terms.ceiling prices set → is_none o ≡ leads_on (with_round c) (steps_of c)
leads-by c past left steps phase prices tables sums account set o k idle same at =
    let had = had-step c (reports_before c steps) steps phase prices account k.standing idle in
    let f = idle-filled c _ left steps phase prices account tables sums k.standing k.round idle in
    let before : set ≡ step_set_after c (steps - 1) = same ∙ ap (λ n. step_set_after c (n - 1)) (sym k.standing.steps_are) in
    let again_is : step_set_after (part c steps (members_of c)) steps ≡ set = set-again c steps prices account had.some f ∙ sym before in
    by o at again_is (λ none. had.goods (sym before ∙ none)) f ∙ ap (λ n. leads_on (part c n (members_of c)) n) k.standing.steps_are
  where
    by : (x : Option ℕ) → x ≡ good_from 0 c.terms.ceiling prices set → step_set_after (part c steps (members_of c)) steps ≡ set → set ≢ 0 → IsFilled c steps prices account → is_none x ≡ leads_on (part c steps (members_of c)) steps
    by None e again_is some f = sym (goes-again c steps prices account set f again_is some (sym e))
    by (Some good) e again_is some f = sym (stops-again c steps prices account set good f again_is some (sym e))

-- what the round needs
pub record MayRepeat (c : ClockHistory) (past : PastOf) (steps : ℕ) (prices : List ℕ) (account : Sums) (set : ℕ) : Type 0 where
  pub before : set ≡ step_set_after c (steps - 1)
  pub again_is : step_set_after (part c steps (members_of c)) steps ≡ set
  pub leads : leads_on (part c steps (members_of c)) steps ≡ true
  pub inside : set < 2 ^ length c.terms.goods
  pub few : account.steps < 60000
  pub below : AllBelow 4294967295 prices set
  pub fewer : length past.sets < length c.reports + length (members_of c)

up-to : (n m : ℕ) → 1 ≤ m → n ≤ n * m
up-to zero m some = omega arith
up-to (suc n) m some = let r = up-to n m some in let e : suc n * m ≡ n * m + m = grind arith in omega (arith, r, e, some)

pub may-repeat : (c : ClockHistory) (past : PastOf) (left steps : ℕ) (phase : Phase) (prices : List ℕ) (tables : List (Option LeastTable)) (sums : List ℤ) (account : Sums) (set : ℕ) → IsKept c past left steps phase prices tables sums account → IsIdle c
    → set ≡ step_set_after c (steps_of c - 1) → leads_on (with_round c) (steps_of c) ≡ true → MayRepeat c past steps prices account set
may-repeat c past left steps phase prices tables sums account set k idle same leads =
    let had = had-step c (reports_before c steps) steps phase prices account k.standing idle in
    let f = idle-filled c _ left steps phase prices account tables sums k.standing k.round idle in
    let from = from-last c _ left steps phase prices account tables sums k.standing k.round idle in
    let before : set ≡ step_set_after c (steps - 1) = same ∙ ap (λ n. step_set_after c (n - 1)) (sym k.standing.steps_are) in
    let again_is : step_set_after (part c steps (members_of c)) steps ≡ set = set-again c steps prices account had.some f ∙ sym before in
    let on : leads_on (part c steps (members_of c)) steps ≡ true = ap (λ n. leads_on (part c n (members_of c)) n) k.standing.steps_are ∙ leads in
    let S : ℕ → Type 0 = λ n. n < 2 ^ length c.terms.goods in
    let B : List ℕ → Type 0 = λ ps. AllBelow 4294967295 ps set in
    let most = few-steps (part c steps (members_of c)) steps c.terms.supply f.path on in
    let n = count-sets c past.sets steps k.sets in
    let up = up-to steps (length (members_of c)) had.member in
    record {
      before = before;
      again_is = again_is;
      leads = on;
      inside = subst S again_is (step-below c.terms.goods (members_of c) _);
      few = omega (arith, most, k.standing.account_steps);
      below = subst B (sym f.prices_are) (can-raise (part c steps (members_of c)) steps set f.path);
      fewer = (let m = had.member in let l = from.0 in omega (arith, n, up, m, l));
    }

-- the reports and step sets after the round
abbrev pub after_round : ClockHistory → PastOf → ℕ → GoodSet → PastOf
after_round c past steps set = record past { reports = c.reports ++ map (again c steps) (members_of c); sets = past.sets ++ set ∷ []; spare_reports = past.spare_reports - length (members_of c) }

pub past-after : (c : ClockHistory) (past pushed new : PastOf) (left steps : ℕ) (phase : Phase) (prices : List ℕ) (tables : List (Option LeastTable)) (sums : List ℤ) (account : Sums) (m count : ℕ) (set : GoodSet) → IsKept c past left steps phase prices tables sums account → IsIdle c
    → m ≡ length (members_of c) → count ≡ length c.reports
    → pushed ≡ record past { reports = c.reports ++ map (again_among (take m (drop (count - m) c.reports)) (steps + 1)) (members_of c); spare_reports = past.spare_reports - length (map (again_among (take m (drop (count - m) c.reports)) (steps + 1)) (members_of c)) }
    → new ≡ raised_on pushed set → new ≡ after_round c past steps set
past-after c past pushed new left steps phase prices tables sums account m count set k idle m_is count_is pushed_is new_is =
    let had = had-step c (reports_before c steps) steps phase prices account k.standing idle in
    let from = from-last c _ left steps phase prices account tables sums k.standing k.round idle in
    let begins : count - m ≡ (steps - 1) * length (members_of c) = (let b = from.1 in omega (arith, b, m_is, count_is)) in
    let same : map (again_among (take m (drop (count - m) c.reports)) (steps + 1)) (members_of c) ≡ map (again c steps) (members_of c) =
    ap (λ n. map (again_among (take n (drop (count - m) c.reports)) (steps + 1)) (members_of c)) m_is ∙ again-same c steps (count - m) had.member had.some k.round.in_order begins in
    let size : length (map (again_among (take m (drop (count - m) c.reports)) (steps + 1)) (members_of c)) ≡ length (members_of c) =
    length-map (members_of c) (again_among (take m (drop (count - m) c.reports)) (steps + 1)) in
    new_is ∙ ap (λ p. raised_on p set) pushed_is ∙ (λ i. record past { reports = c.reports ++ same i; sets = past.sets ++ set ∷ []; spare_reports = past.spare_reports - size i })

pub there-after : (c : ClockHistory) (past : PastOf) (left steps : ℕ) (phase : Phase) (prices : List ℕ) (tables : List (Option LeastTable)) (sums : List ℤ) (account : Sums) (m count j : ℕ) → IsKept c past left steps phase prices tables sums account → IsIdle c
    → m ≡ length (members_of c) → count ≡ length c.reports → is_member c j ≡ true → is_some (find (λ (r : Report). nat_eq r.bidder j) (take m (drop (count - m) c.reports))) ≡ true
there-after c past left steps phase prices tables sums account m count j k idle m_is count_is member =
    let had = had-step c (reports_before c steps) steps phase prices account k.standing idle in
    let from = from-last c _ left steps phase prices account tables sums k.standing k.round idle in
    let begins : count - m ≡ (steps - 1) * length (members_of c) = (let b = from.1 in omega (arith, b, m_is, count_is)) in
    ap (λ n. is_some (find (λ (r : Report). nat_eq r.bidder j) (take n (drop (count - m) c.reports)))) m_is
    ∙ there-again c steps (count - m) j had.member had.some k.round.in_order begins had.full member

-- nobody has reported where each member is missing
pub idle-empty : (c : ClockHistory) (past : PastOf) (left steps : ℕ) (phase : Phase) (prices : List ℕ) (tables : List (Option LeastTable)) (sums : List ℤ) (account : Sums) → IsKept c past left steps phase prices tables sums account
    → steps ≢ 0 → left ≡ length (members_of c) → IsIdle c
idle-empty c past left steps phase prices tables sums account k some none =
    let e = empty-list (drop (reports_before c steps) c.reports) (omega (arith, none, k.round.counted)) in
    record {
      some_step = omega (arith, some, k.standing.steps_are);
      nobody = λ j. ap (λ n. demand_in c.reports (n + 1) j) (sym k.standing.steps_are) ∙ sym (present-demand c _ left steps phase prices account tables sums (steps + 1) j k.standing k.round refl) ∙ ap (λ rs. demand_in rs (steps + 1) j) e;
    }
  where
    empty-list : (rs : List Report) → length rs ≡ 0 → rs ≡ []
    empty-list [] e = refl
    empty-list (r ∷ rs) e = absurd (omega arith)

pub idle-none : (c : ClockHistory) (past : PastOf) (left steps : ℕ) (phase : Phase) (prices : List ℕ) (tables : List (Option LeastTable)) (sums : List ℤ) (account : Sums) → IsKept c past left steps phase prices tables sums account
    → IsIdle c → left ≡ length (members_of c)
idle-none c past left steps phase prices tables sums account k idle = (idle-running c _ left steps phase prices account tables sums k.standing k.round idle).0

-- how the clock stands after it
pub record AfterRound (c : ClockHistory) (set : ℕ) : Type 0 where
  pub idle : IsIdle (with_round c)
  pub steps : steps_of (with_round c) ≡ steps_of c + 1
  pub same : set ≡ step_set_after (with_round c) (steps_of (with_round c) - 1)

after-on : (c : ClockHistory) (steps : ℕ) (set : ℕ) → steps ≡ steps_of c → IsIdle (part c steps (members_of c)) → steps_of (part c steps (members_of c)) ≡ steps + 1 → set ≡ step_set_after (part c steps (members_of c)) (steps_of (part c steps (members_of c)) - 1) → AfterRound c set
after-on c steps set is idle more same =
    let I : ℕ → Type 0 = λ n. IsIdle (part c n (members_of c)) in
    let M : ℕ → Type 0 = λ n. steps_of (part c n (members_of c)) ≡ n + 1 in
    let S : ℕ → Type 0 = λ n. set ≡ step_set_after (part c n (members_of c)) (steps_of (part c n (members_of c)) - 1) in
    record { idle = subst I is idle; steps = subst M is more; same = subst S is same }

pub after-round : (c : ClockHistory) (past : PastOf) (left steps : ℕ) (phase : Phase) (prices : List ℕ) (tables : List (Option LeastTable)) (sums : List ℤ) (account after : Sums) (set : GoodSet) → IsKept c past left steps phase prices tables sums account → IsIdle c
    → MayRepeat c past steps prices account set.0 → IsKept (part c steps (members_of c)) (after_round c past steps set) left (steps + 1) phase (raised prices set.0) tables sums after → AfterRound c set.0
after-round c past left steps phase prices tables sums account after set k idle may kept =
    let now : ClockHistory = part c steps (members_of c) in
    let more : steps_of now ≡ steps + 1 = sym kept.standing.steps_are in
    let run = idle-running c _ left steps phase prices account tables sums k.standing k.round idle in
    let e : steps ≡ steps_of now - 1 = omega (arith, more) in
    after-on c steps set.0 k.standing.steps_are (idle-empty now (after_round c past steps set) left (steps + 1) phase (raised prices set.0) tables sums after kept (λ none. omega (arith, none)) run.0)
    more (sym may.again_is ∙ ap (step_set_after now) e)

-- so many rounds of the same members, with room for them
pub members-repeated : (c : ClockHistory) (rounds : ℕ) → members_of (repeated rounds c) ≡ members_of c
members-repeated c zero = refl
members-repeated c (suc rounds) = members-repeated c rounds

pub room-on : (m most added spare : ℕ) → added < most → most * m ≤ spare → m ≤ spare - added * m
room-on m most added spare below room =
    let s : most ≡ added + 1 + (most - added - 1) = omega (arith, below) in
    let e : most * m ≡ added * m + m + (most - added - 1) * m = ap (λ n. n * m) s ∙ (let q : (added + 1 + (most - added - 1)) * m ≡ added * m + m + (most - added - 1) * m = grind arith in q) in
    omega (arith, e, room)

pub room-next : (m added spare : ℕ) → spare - added * m - m ≡ spare - (added + 1) * m
room-next m added spare = let e : (added + 1) * m ≡ added * m + m = grind arith in omega (arith, e)

pub terms-repeated : (c : ClockHistory) (rounds : ℕ) → (repeated rounds c).terms ≡ c.terms
terms-repeated c zero = refl
terms-repeated c (suc rounds) = terms-repeated c rounds

-- what is kept of the latest demands stays
pub latest-round : (c : ClockHistory) (past : PastOf) (left steps : ℕ) (phase : Phase) (prices : List ℕ) (tables : List (Option LeastTable)) (sums : List ℤ) (account after : Sums) (set : GoodSet) (latest : List (Option (List (List ℕ)))) (marks : List Bool) → IsKept c past left steps phase prices tables sums account → IsIdle c
    → MayRepeat c past steps prices account set.0 → IsKept (part c steps (members_of c)) (after_round c past steps set) left (steps + 1) phase (raised prices set.0) tables sums after → KeepsLatest c (steps + 1) latest marks
    → KeepsLatest (part c steps (members_of c)) (steps + 1 + 1) latest marks
latest-round c past left steps phase prices tables sums account after set latest marks k idle may kept held =
    let now : ClockHistory = part c steps (members_of c) in
    let had = had-step c (reports_before c steps) steps phase prices account k.standing idle in
    let run = idle-running c _ left steps phase prices account tables sums k.standing k.round idle in
    let f = idle-filled c _ left steps phase prices account tables sums k.standing k.round idle in
    let again = idle-empty now (after_round c past steps set) left (steps + 1) phase (raised prices set.0) tables sums after kept (λ none. omega (arith, none)) run.0 in
    latest-again c steps latest marks had.some had.full (idle-nobody c (reports_before c steps) steps phase prices account k.standing idle) f.found
    (idle-nobody now (reports_before now (steps + 1)) (steps + 1) phase (raised prices set.0) after kept.standing again) held
