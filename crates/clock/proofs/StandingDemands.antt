-- What a bidder demands in a round or, until it has reported in it, in the round before.
use Rattle.std.proofs.Common.{◌≡◌, ◌≢◌, ◌≤◌, ◌⊎◌, inl, inr, ℕ, ◌+◌, ◌-◌, ◌*◌, Bool, true, false, nat_eq, cond, List, [], ◌∷◌, length, Option, Some, None, is_some, refl, sym, ◌∙◌, ap, arith, pos}
use Rattle.std.specs.Prelude.{unwrap_or, ◌+ℤ◌, ◌-ℤ◌}
use Rattle.std.specs.List.{AllByRecursion}
use Rattle.std.proofs.lemmas.Bool.{cases_eq}
use Rattle.std.proofs.lemmas.Bool.Decides.{nat_tests}
use Rattle.std.proofs.lemmas.Int.{ints}
use Rattle.lot_base.specs.Demands.{least}
use Rattle.lot_base.specs.Economy.{total_units}
use Rattle.lot_base.specs.Steps.{excess}
use Rattle.lot_base.proofs.Within.{both}
use Rattle.lyapunov.proofs.Growing.{excess-same}
use Rattle.demand_set.specs.declared.reports.Report.{Report}
use Rattle.clock.specs.Reports.{ClockHistory, demand_in, demands_in, is_full, members_of, with_report}
use Rattle.clock.specs.Judging.{is_member, IsLegal}
use Rattle.clock.specs.Kept.{standing_demands}
use Rattle.clock.proofs.Excesses.{least-few, found-fits}
use Rattle.clock.proofs.Pushed.{IsNew, demand-new, demand-other}
use Rattle.clock.proofs.Totals.{total-none, total-one, total-most}

pub standing-now : (c : ClockHistory) (round j : ℕ) (o : Option (List (List ℕ))) → demand_in c.reports round j ≡ o → is_some o ≡ true → standing_demands c round j ≡ unwrap_or o []
standing-now c round j None e some = absurd (let f : false ≡ true = some in cc)
standing-now c round j (Some d) e some = ap (λ o. unwrap_or o (demands_in c.reports (round - 1) j)) e

pub standing-before : (c : ClockHistory) (round j : ℕ) → demand_in c.reports round j ≡ None → standing_demands c round j ≡ demands_in c.reports (round - 1) j
standing-before c round j none = ap (λ o. unwrap_or o (demands_in c.reports (round - 1) j)) none

-- in a full round it is what each member demands in it
pub standing-member : (c : ClockHistory) (round j : ℕ) → is_some (demand_in c.reports round j) ≡ true → standing_demands c round j ≡ demands_in c.reports round j
standing-member c round j some = standing-now c round j (demand_in c.reports round j) refl some

pub standing-full : (c : ClockHistory) (round : ℕ) (ms : List ℕ) → is_full ms c.reports round ≡ true → AllByRecursion (λ j. standing_demands c round j ≡ demands_in c.reports round j) ms
standing-full c round [] full = tt
standing-full c round (j ∷ ms) full =
    let h = both (is_some (demand_in c.reports round j)) (is_full ms c.reports round) full in
    (standing-member c round j h.0, standing-full c round ms h.1)

pub excess-full : (c : ClockHistory) (round set : ℕ) → is_full (members_of c) c.reports round ≡ true
    → excess c.terms.goods (standing_demands c round) (members_of c) set ≡ excess c.terms.goods (demands_in c.reports round) (members_of c) set
excess-full c round set full = excess-same c.terms.goods (standing_demands c round) (demands_in c.reports round) (members_of c) set (standing-full c round (members_of c) full)

-- where nobody has reported it is what was demanded in the round before
all-before : (c : ClockHistory) (round : ℕ) (ms : List ℕ) → ((j : ℕ) → demand_in c.reports round j ≡ None) → AllByRecursion (λ j. standing_demands c round j ≡ demands_in c.reports (round - 1) j) ms
all-before c round [] none = tt
all-before c round (j ∷ ms) none = (standing-before c round j (none j), all-before c round ms none)

pub excess-before : (c : ClockHistory) (round set : ℕ) → ((j : ℕ) → demand_in c.reports round j ≡ None)
    → excess c.terms.goods (standing_demands c round) (members_of c) set ≡ excess c.terms.goods (demands_in c.reports (round - 1)) (members_of c) set
excess-before c round set none = excess-same c.terms.goods (standing_demands c round) (demands_in c.reports (round - 1)) (members_of c) set (all-before c round (members_of c) none)

-- with a report more, its demand stands in the place of its bidder's demand before
pub standing-new : (c : ClockHistory) (r : Report) (steps : ℕ) → IsNew c r steps → standing_demands (with_report c r) (steps + 1) r.bidder ≡ r.demand
standing-new c r steps new = standing-now (with_report c r) (steps + 1) r.bidder (Some r.demand) (demand-new c r steps new) refl

pub standing-other : (c : ClockHistory) (r : Report) (round j : ℕ) → r.bidder ≢ j → standing_demands (with_report c r) round j ≡ standing_demands c round j
standing-other c r round j other = λ i. unwrap_or (demand-other c r round j other i) (unwrap_or (demand-other c r (round - 1) j other i) [])

-- the sum over the members, where one of them changes
but-one : (ℕ → ℕ) → ℕ → ℕ → ℕ
but-one f b j = cond (nat_eq j b) 0 (f j)

but-at : (f : ℕ → ℕ) (b : ℕ) → but-one f b b ≡ 0
unfolding but-one
but-at f b = let e : nat_eq b b ≡ true = grind (arith, nat_tests) in ap (λ t. cond t 0 (f b)) e

but-other : (f : ℕ → ℕ) (b j : ℕ) → j ≢ b → but-one f b j ≡ f j
unfolding but-one
but-other f b j other = let e : nat_eq j b ≡ false = grind (arith, nat_tests) in ap (λ t. cond t 0 (f j)) e

total-but : (c : ClockHistory) (f : ℕ → ℕ) (b : ℕ) → is_member c b ≡ true → total_units f (members_of c) ≡ total_units (but-one f b) (members_of c) + f b
total-but c f b member =
    let z = but-at f b in
    total-one c (but-one f b) f b (f b) member (omega (arith, z)) (λ j other. sym (but-other f b j other))

total-same : (f g : ℕ → ℕ) (ms : List ℕ) → ((j : ℕ) → f j ≡ g j) → total_units f ms ≡ total_units g ms
total-same f g [] same = refl
total-same f g (j ∷ ms) same = let a = same j in let b = total-same f g ms same in omega (arith, a, b)

but-same : (f g : ℕ → ℕ) (b j : ℕ) → ((k : ℕ) → k ≢ b → f k ≡ g k) → (j ≡ b) ⊎ (j ≢ b) → but-one f b j ≡ but-one g b j
but-same f g b j same (inl is) = ap (but-one f b) is ∙ but-at f b ∙ sym (but-at g b) ∙ sym (ap (but-one g b) is)
but-same f g b j same (inr other) = but-other f b j other ∙ same j other ∙ sym (but-other g b j other)

pub excess-pushed : (c : ClockHistory) (r : Report) (steps set : ℕ) → IsNew c r steps
    → excess c.terms.goods (standing_demands (with_report c r) (steps + 1)) (members_of c) set
    ≡ (excess c.terms.goods (standing_demands c (steps + 1)) (members_of c) set -ℤ pos (least (standing_demands c (steps + 1) r.bidder) set)) +ℤ pos (least r.demand set)
excess-pushed c r steps set new =
    let f = λ (j : ℕ). least (standing_demands c (steps + 1) j) set in
    let g = λ (j : ℕ). least (standing_demands (with_report c r) (steps + 1) j) set in
    let old = total-but c f r.bidder new.member in
    let now = total-but c g r.bidder new.member in
    let same = total-same (but-one f r.bidder) (but-one g r.bidder) (members_of c)
    (λ j. but-same f g r.bidder j (λ k other. ap (λ d. least d set) (sym (standing-other c r (steps + 1) k (λ e. other (sym e))))) (cases_eq j r.bidder)) in
    let some : g r.bidder ≡ least r.demand set = ap (λ d. least d set) (standing-new c r steps new) in
    omega (arith, ints, old, now, same, some)

-- each is a demand of the supply, or empty
found-few : (c : ClockHistory) (round j set : ℕ) (o : Option (List (List ℕ))) → IsLegal c → demand_in c.reports round j ≡ o → least (unwrap_or o []) set ≤ 2047
found-few c round j set None legal e = omega arith
found-few c round j set (Some d) legal e = least-few c.terms.goods d set c.terms.supply.small (found-fits c.terms.goods c.reports round j d legal.demands e)

pub standing-few : (c : ClockHistory) (round j set : ℕ) → IsLegal c → least (standing_demands c round j) set ≤ 2047
standing-few c round j set legal = by (demand_in c.reports round j) refl
  where
    by : (o : Option (List (List ℕ))) → demand_in c.reports round j ≡ o → least (unwrap_or o (demands_in c.reports (round - 1) j)) set ≤ 2047
    by None e = found-few c (round - 1) j set (demand_in c.reports (round - 1) j) legal refl
    by (Some d) e = found-few c round j set (Some d) legal e

-- one at one place, and nothing at any other
mark : ℕ → ℕ → ℕ
mark b j = cond (nat_eq j b) 1 0

mark-at : (b : ℕ) → mark b b ≡ 1
unfolding mark
mark-at b = let e : nat_eq b b ≡ true = grind (arith, nat_tests) in let at : Bool → ℕ = λ t. cond t 1 0 in ap at e

mark-other : (b j : ℕ) → j ≢ b → mark b j ≡ 0
unfolding mark
mark-other b j other = let e : nat_eq j b ≡ false = grind (arith, nat_tests) in let at : Bool → ℕ = λ t. cond t 1 0 in ap at e

-- all but one of them are so many less
pub total-few : (c : ClockHistory) (round b set : ℕ) → IsLegal c → is_member c b ≡ true
    → total_units (λ j. least (standing_demands c round j) set) (members_of c) + 2047 ≤ 2047 * length (members_of c) + least (standing_demands c round b) set
total-few c round b set legal member =
    let f = λ (j : ℕ). least (standing_demands c round j) set in
    let sum = total-but c f b member in
    let here = mark-at b in
    let one = total-one c (λ _. 0) (mark b) b 1 member (omega (arith, here)) (λ j other. mark-other b j other) in
    let nothing = total-none (λ _. 0) (members_of c) (λ j. refl) in
    let most = total-most (but-one f b) (mark b) 2047 (members_of c) (λ j. each j (cases_eq j b)) in
    omega (arith, sum, one, nothing, most)
  where
    each : (j : ℕ) → (j ≡ b) ⊎ (j ≢ b) → but-one (λ (k : ℕ). least (standing_demands c round k) set) b j + 2047 * mark b j ≤ 2047
    each j (inl is) =
        let z = ap (but-one (λ (k : ℕ). least (standing_demands c round k) set) b) is ∙ but-at (λ (k : ℕ). least (standing_demands c round k) set) b in
        let w = ap (mark b) is ∙ mark-at b in
        omega (arith, z, w)
    each j (inr other) =
        let z = but-other (λ (k : ℕ). least (standing_demands c round k) set) b j other in
        let w = mark-other b j other in
        let s = standing-few c round j set legal in
        omega (arith, z, w, s)
