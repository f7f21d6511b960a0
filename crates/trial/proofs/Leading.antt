-- Where a round that was told has led, and the members who are followed.
use Rattle.std.proofs.Common.{◌≡◌, ◌≢◌, ◌<◌, ◌⊎◌, inl, inr, ℕ, suc, ◌+◌, ◌^◌, true, false, ◌&&◌, nat_eq, cond, List, [], ◌∷◌, length, get_or, Some, refl, sym, ◌∙◌, ap, arith, subst}
use Rattle.std.specs.Prelude.{find, option_map, unwrap_or, ℤ}
use Rattle.std.specs.List.{AllByRecursion}
use Rattle.std.proofs.lemmas.Bool.{cases_eq}
use Rattle.std.proofs.lemmas.Bool.Decides.{nat_tests}
use Rattle.lot_base.specs.Goods.{raised}
use Rattle.lot_base.specs.Steps.{step_set}
use Rattle.lot_base.specs.Economy.{demand}
use Rattle.lot_base.specs.declared.auction_terms.Terms.{Terms}
use Rattle.lot_base.specs.declared.phases.Phase.TheVariants.{Running}
use Rattle.demand_set.specs.declared.reports.Report.{Report}
use Rattle.valuation.specs.Carried.{IsColumn, raised_by}
use Rattle.valuation.specs.declared.columns.Column.{Column}
use Rattle.clock.specs.Reports.{ClockHistory, is_named, demands_in, is_full, members_of}
use Rattle.clock.specs.Standing.{steps_of, last_round, prices_of, prices_after, phase_of, step_set_after}
use Rattle.clock.proofs.Append.{absent-beyond}
use Rattle.clock.proofs.Repeated.{step-same}
use Rattle.clock.proofs.Path.{step-below}
use Rattle.trial.specs.Trials.{true_report, round_reports, trial_reports}
use Rattle.trial.specs.Following.{Followed, Follows}
use Rattle.trial.specs.Rounds.{IsFresh, told, IsTurned, IsLed, IsFollowed, AreFollowed, AreReady, AreOn, AreStepped, follower_at}
use Rattle.trial.proofs.Finding.{find-after}
use Rattle.trial.proofs.Telling.{fresh-past, get-same}
use Rattle.trial.proofs.Turning.{told-reports, never-full}
use Rattle.trial.proofs.Prices.{prices-early, round-later}

-- the reports of a round by some bidders, found by name
abbrev pub Among : ℕ → List ℕ → Type 0
Among j [] = ⊥
Among j (k ∷ ks) = (j ≡ k) ⊎ Among j ks

pub find-told : (terms : Terms) (u : ℕ → List ℕ → ℤ) (t : ℕ) (p js : List ℕ) (j : ℕ) → Among j js → find (is_named t j) (round_reports terms u t p js) ≡ Some (true_report terms u t p j)
find-told terms u t p [] j among = absurd among
find-told terms u t p (k ∷ js) j among = by (cases_eq k j) among (find-told terms u t p js j)
  where
    rest : List Report
    rest = round_reports terms u t p js

    this : nat_eq t t ≡ true
    this = grind (arith, nat_tests)

    by : (k ≡ j) ⊎ (k ≢ j) → (j ≡ k) ⊎ Among j js → (Among j js → find (is_named t j) rest ≡ Some (true_report terms u t p j)) → cond (nat_eq t t && nat_eq k j) (Some (true_report terms u t p k)) (find (is_named t j) rest) ≡ Some (true_report terms u t p j)
    by (inl same) w later =
        let e : nat_eq k j ≡ true = grind (arith, nat_tests) in
        (λ i. cond (this i && e i) (Some (true_report terms u t p k)) (find (is_named t j) rest)) ∙ ap (λ n. Some (true_report terms u t p n)) same
    by (inr other) (inl same) later = absurd (other (sym same))
    by (inr other) (inr w) later =
        let e : nat_eq k j ≡ false = grind (arith, nat_tests) in
        (λ i. cond (this i && e i) (Some (true_report terms u t p k)) (find (is_named t j) rest)) ∙ later w

pub all-among : (P : ℕ → Type 0) (js ks : List ℕ) → ((j : ℕ) → Among j ks → Among j js) → ((j : ℕ) → Among j js → P j) → AllByRecursion P ks
all-among P js [] inside each = tt
all-among P js (k ∷ ks) inside each = (each k (inside k (inl refl)), all-among P js ks (λ j w. inside j (inr w)) each)

-- what the members are said to demand in a round that was told
pub demands-told : (u : ℕ → List ℕ → ℤ) (c : ClockHistory) → IsFresh u c → AllByRecursion (λ j. demands_in (told u c).reports (last_round c) j ≡ demand c.terms.goods (u j) (prices_of c)) (members_of c)
demands-told u c fresh =
    let t = last_round c in
    let p = prices_of c in
    all-among (λ j. demands_in (told u c).reports t j ≡ demand c.terms.goods (u j) p) (members_of c) (members_of c) (λ j w. w)
    (λ j w. ap (λ o. unwrap_or (option_map (λ (r : Report). r.demand) o) [])
    (find-after (is_named t j) c.reports (round_reports c.terms u t p (members_of c)) (absent-beyond (steps_of c) t j c.reports (omega arith) (fresh-past u c fresh)) ∙ find-told c.terms u t p (members_of c) j w))

-- a round that led on has led to these prices
led : (u : ℕ → List ℕ → ℤ) (c : ClockHistory) → IsFresh u c → members_of c ≢ [] → length (prices_of c) ≡ length c.terms.goods → steps_of (told u c) ≡ last_round c → IsLed u (prices_of c) (told u c)
unfolding prices_after
led u c fresh some goods more =
    let n = steps_of c in
    let now = told u c in
    let s : steps_of now ≡ suc n = more ∙ (let e : n + 1 ≡ suc n = omega arith in e) in
    let demands = demands-told u c fresh in
    let set : step_set_after now n ≡ step_set c.terms.goods (λ j. demand c.terms.goods (u j) (prices_of c)) (members_of c) =
    step-same c.terms.goods (demands_in now.reports (n + 1)) (λ j. demand c.terms.goods (u j) (prices_of c)) (members_of c) demands in
    let early = prices-early c (round_reports c.terms u (last_round c) (prices_of c) (members_of c)) n (round-later c.terms u n (last_round c) (prices_of c) (members_of c) (omega arith)) in
    let D : ℕ → Type 0 = λ r. AllByRecursion (λ j. demands_in now.reports r j ≡ demand c.terms.goods (u j) (prices_of c)) (members_of c) in
    record {
      some_step = omega (arith, more);
      some_member = some;
      fresh = told-reports u c fresh ∙ ap (trial_reports c.terms c.number u) (sym more);
      each_good = goods;
      demands = subst D (sym more) demands;
      rose = ap (prices_after now) s ∙ (λ i. raised (early i) (set i));
    }

pub led-on : (u : ℕ → List ℕ → ℤ) (c now : ClockHistory) → IsFresh u c → now ≡ told u c → members_of c ≢ [] → length (prices_of c) ≡ length c.terms.goods → steps_of now ≡ last_round c → IsLed u (prices_of c) now
led-on u c now fresh is some goods more =
    let L : ClockHistory → Type 0 = IsLed u (prices_of c) in
    subst L (sym is) (led u c fresh some goods (ap steps_of (sym is) ∙ more))

-- a clock that is running has members
pub has-members : (c : ClockHistory) → phase_of c ≡ Running → members_of c ≢ []
has-members c runs none = never-full c (ap (λ ms. is_full ms c.reports (steps_of c + 1)) none) runs

-- the members after so many steps
pub followed-on : (terms : Terms) (u : ℕ → List ℕ → ℤ) (number times set : ℕ) (before now : List ℕ) (old ready on new : List Followed) → AreFollowed terms u number before old → AreReady number set old ready → AreOn number set ready on → AreStepped number times on new
    → length before ≡ length terms.goods → raised_by times set before ≡ now → AreFollowed terms u number now new
followed-on terms u number times set before now old ready on new are caught turned stepped long rose = record {
  count = stepped.count ∙ turned.count ∙ caught.count ∙ are.count;
  each = λ place inside member.
      let here : place < length old = (let k = are.count in omega (arith, k, inside)) in
      let middle : place < length ready = (let k = caught.count in omega (arith, k, here)) in
      let there : place < length on = (let k = turned.count in omega (arith, k, middle)) in
      let is = are.each place inside member in
      let r = caught.each place here member in
      let o = turned.each place middle member in
      let s = stepped.each place there member in
      let a : length before ≡ length (follower_at old place).supply = long ∙ ap length (sym is.over) in
      let b : length before ≡ length (follower_at ready place).supply = a ∙ ap length (sym r.goods) in
      let d : length before ≡ length (follower_at on place).supply = b ∙ ap length (sym o.goods) in
      let F : List ℕ → Type 0 = Follows (follower_at new place) (u (place + 1)) in
      record {
        over = s.goods ∙ o.goods ∙ r.goods ∙ is.over;
        follows = subst F (ap (λ k. raised_by times k before) o.on ∙ rose) (s.follows (u (place + 1)) before d (o.follows (u (place + 1)) before b (r.follows (u (place + 1)) before a is.follows)));
      };
}

-- the follower at a place that is there
pub followed-here : (terms : Terms) (u : ℕ → List ℕ → ℤ) (number : ℕ) (prices : List ℕ) (followers : List Followed) (f : Followed) (place : ℕ) → AreFollowed terms u number prices followers → place < terms.bidders → place + 1 ≢ number → f ≡ get_or followers place f
    → IsFollowed terms.goods (u (place + 1)) prices f
followed-here terms u number prices followers f place are inside member is =
    let C : Followed → Type 0 = IsFollowed terms.goods (u (place + 1)) prices in
    subst C (get-same followers place _ f (let c = are.count in omega (arith, c, inside)) ∙ sym is) (are.each place inside member)

-- the report that this follower gives is the true one
pub report-here : (terms : Terms) (c : ClockHistory) (u : ℕ → List ℕ → ℤ) (place round : ℕ) (s : Followed) (d : List (List ℕ)) → c.terms ≡ terms → IsFollowed terms.goods (u (place + 1)) (prices_of c) s → round ≡ last_round c
    → d ≡ demand s.supply (u (place + 1)) (prices_of c) → record { bidder = place + 1; round = round; demand = d } ≡ true_report c.terms u (last_round c) (prices_of c) (place + 1)
report-here terms c u place round s d same is r e =
    let f : d ≡ demand c.terms.goods (u (place + 1)) (prices_of c) = e ∙ ap (λ g. demand g (u (place + 1)) (prices_of c)) (is.over ∙ ap (λ (k : Terms). k.goods) (sym same)) in
    λ i. record { bidder = place + 1; round = r i; demand = f i }

-- the set of goods on which the prices rose is the step set
abbrev pub set_told : (ℕ → List ℕ → ℤ) → List ℕ → ClockHistory → ℕ
set_told u before c = step_set c.terms.goods (λ j. demand c.terms.goods (u j) before) (members_of c)

pub rose-on : (u : ℕ → List ℕ → ℤ) (before after : List ℕ) (c : ClockHistory) (found : ℕ) → IsLed u before c → after ≡ prices_of c
    → ((set : ℕ) → set < 2 ^ length before → after ≡ raised before set → found ≡ set) → found ≡ set_told u before c
rose-on u before after c found l now all =
    let L : ℕ → Type 0 = λ n. set_told u before c < 2 ^ n in
    all (set_told u before c) (subst L (sym l.each_good) (step-below c.terms.goods (members_of c) (λ j. demand c.terms.goods (u j) before))) (now ∙ l.rose)

-- a round that was told and after which the clock is running
pub led-running : (u : ℕ → List ℕ → ℤ) (c now : ClockHistory) (before : List ℕ) → IsFresh u c → now ≡ told u c → IsTurned c now → phase_of now ≡ Running → before ≡ prices_of c → length before ≡ length c.terms.goods → IsLed u before now
led-running u c now before fresh is turned runs same goods =
    let some : members_of c ≢ [] = λ none. has-members now runs (ap (λ (k : ClockHistory). members_of k) is ∙ none) in
    let L : List ℕ → Type 0 = λ p. IsLed u p now in
    subst L (sym same) (led-on u c now fresh is some (ap length (sym same) ∙ goods) (turned.goes runs))

-- it is one of the sets of the goods
pub set-inside : (u : ℕ → List ℕ → ℤ) (before : List ℕ) (c : ClockHistory) (terms : Terms) (found : ℕ) → c.terms ≡ terms → found ≡ set_told u before c → found < 2 ^ length terms.goods
set-inside u before c terms found same is =
    let L : Terms → Type 0 = λ t. found < 2 ^ length t.goods in
    let S : ℕ → Type 0 = λ n. n < 2 ^ length c.terms.goods in
    subst L same (subst S (sym is) (step-below c.terms.goods (members_of c) (λ j. demand c.terms.goods (u j) before)))

-- what the members need for steps on the set
pub record AreFor (goods : List ℕ) (set number : ℕ) (column : Column) (followers : List Followed) : Type 0 where
  pub column_is : (place : ℕ) → place < length followers → place + 1 ≢ number → IsColumn (follower_at followers place).supply set column.units.items
  pub within : (place : ℕ) → place < length followers → place + 1 ≢ number → set < 2 ^ length (follower_at followers place).supply

pub supply-here : (terms : Terms) (u : ℕ → List ℕ → ℤ) (number : ℕ) (p : List ℕ) (followers : List Followed) (place : ℕ) → AreFollowed terms u number p followers → place < length followers → place + 1 ≢ number → (follower_at followers place).supply ≡ terms.goods
supply-here terms u number p followers place are here member = (are.each place (let k = are.count in omega (arith, k, here)) member).over

pub for-ready : (terms : Terms) (u : ℕ → List ℕ → ℤ) (number set : ℕ) (p : List ℕ) (old ready : List Followed) (column : Column) → AreFollowed terms u number p old → AreReady number set old ready → IsColumn terms.goods set column.units.items → set < 2 ^ length terms.goods → AreFor terms.goods set number column ready
for-ready terms u number set p old ready column are caught is within = record {
  column_is = λ place here member. subst (λ g. IsColumn g set column.units.items) (sym (goods place here member)) is;
  within = λ place here member. subst (λ g. set < 2 ^ length g) (sym (goods place here member)) within;
}
  where
    goods : (place : ℕ) → place < length ready → place + 1 ≢ number → (follower_at ready place).supply ≡ terms.goods
    goods place here member =
        let before : place < length old = (let k = caught.count in omega (arith, k, here)) in
        (caught.each place before member).goods ∙ supply-here terms u number p old place are before member

pub column-on : (goods : List ℕ) (set number place : ℕ) (column : Column) (ready on : List Followed) → AreFor goods set number column ready → AreOn number set ready on → place < length on → place + 1 ≢ number
    → IsColumn (follower_at on place).supply (follower_at on place).set column.units.items
column-on goods set number place column ready on fits turned here member =
    let before : place < length ready = (let k = turned.count in omega (arith, k, here)) in
    let o = turned.each place before member in
    subst (λ k. IsColumn (follower_at on place).supply k column.units.items) (sym o.on) (subst (λ g. IsColumn g set column.units.items) (sym o.goods) (fits.column_is place before member))
