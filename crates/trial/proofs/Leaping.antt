-- Rounds that repeat one in which each member demanded what it demands in them: they are told truly.
use Rattle.std.proofs.Common.{◌≡◌, ◌≢◌, ◌<◌, ◌≤◌, ◌⊎◌, inl, inr, ℕ, zero, suc, ◌+◌, ◌-◌, Bool, true, false, not, ◌&&◌, nat_eq, cond, List, [], ◌∷◌, ◌++◌, map, length, is_none, refl, sym, ◌∙◌, ap, arith, subst}
use Rattle.std.specs.Prelude.{ℤ}
use Rattle.std.specs.List.{AllByRecursion, range_with_len}
use Rattle.std.proofs.lemmas.Bool.{cases_eq}
use Rattle.std.proofs.lemmas.Bool.Decides.{nat_tests}
use Rattle.lot_base.specs.Goods.{raised}
use Rattle.lot_base.specs.Economy.{demand, without}
use Rattle.lot_base.proofs.Within.{both}
use Rattle.demand_set.specs.declared.reports.Report.{Report}
use Rattle.lot_base.specs.declared.auction_terms.Terms.{Terms}
use Rattle.valuation.specs.Carried.{raised_by}
use Rattle.valuation.proofs.Carrying.{length-raised_by}
use Rattle.clock.specs.Reports.{ClockHistory, demands_in, is_full, members, members_of}
use Rattle.clock.specs.Standing.{steps_of, last_round, prices_of, is_full_after, step_set_after, good_at_ceiling}
use Rattle.clock.specs.Repeats.{again_by, with_round, repeated}
use Rattle.clock.proofs.Path.{has_steps, compare-or}
use Rattle.clock.proofs.Repeated.{step-same}
use Rattle.trial.specs.Trials.{true_report, round_reports}
use Rattle.trial.specs.Following.{Followed}
use Rattle.trial.specs.Rounds.{IsFresh, told, IsLed, HasGone, AreFollowed, AreReady, AreOn, AreSteady, follower_at}
use Rattle.trial.proofs.Finding.{all-both, all-more, open-beyond}
use Rattle.trial.proofs.Telling.{fresh-past}
use Rattle.trial.proofs.Prices.{leads-early}
use Rattle.trial.proofs.Leading.{led-on, set_told}

-- the reports are of no round after this one
abbrev IsPast : ℕ → List Report → Type 0
IsPast n reports = AllByRecursion (λ (r : Report). r.round ≤ n) reports

again-past : (c : ClockHistory) (n : ℕ) (js : List ℕ) → last_round c ≤ n → IsPast n (map (again_by c) js)
again-past c n [] low = tt
again-past c n (j ∷ js) low = (low, again-past c n js low)

again-later : (c : ClockHistory) (n : ℕ) (js : List ℕ) → n < last_round c → AllByRecursion (λ (r : Report). n < r.round) (map (again_by c) js)
again-later c n [] low = tt
again-later c n (j ∷ js) low = (low, again-later c n js low)

-- a repeated round adds one step at most
record IsNext (c now : ClockHistory) : Type 0 where
  pub up : steps_of c ≤ steps_of now
  pub few : steps_of now ≤ steps_of c + 1
  pub past : IsPast (last_round now) now.reports

next-up : (c : ClockHistory) → steps_of c ≤ steps_of (with_round c)
next-up c = by (compare-or (steps_of (with_round c)) (steps_of c))
  where
    by : (steps_of (with_round c) < steps_of c) ⊎ ((steps_of c < steps_of (with_round c)) ⊎ (steps_of (with_round c) ≡ steps_of c)) → steps_of c ≤ steps_of (with_round c)
    by (inl less) =
        let n = steps_of (with_round c) in
        let on = (has_steps c).before n less in
        let same = leads-early c (map (again_by c) (members_of c)) n (again-later c (n + 1) (members_of c) (omega (arith, less))) in
        absurd (let e : true ≡ false = sym on ∙ sym same ∙ (has_steps (with_round c)).stops in cc)
    by (inr (inl more)) = omega (arith, more)
    by (inr (inr same)) = omega (arith, same)

next-past : (c : ClockHistory) → IsPast (last_round c) c.reports → IsPast (last_round c) (with_round c).reports
next-past c past = all-both (λ (r : Report). r.round ≤ last_round c) c.reports (map (again_by c) (members_of c)) past (again-past c (last_round c) (members_of c) (omega arith))

next-few : (c : ClockHistory) (j : ℕ) (js : List ℕ) → members_of c ≡ j ∷ js → IsPast (last_round c) c.reports → steps_of (with_round c) ≤ steps_of c + 1
next-few c j js some past = by (compare-or (steps_of (with_round c)) (steps_of c + 1))
  where
    by : (steps_of (with_round c) < steps_of c + 1) ⊎ ((steps_of c + 1 < steps_of (with_round c)) ⊎ (steps_of (with_round c) ≡ steps_of c + 1)) → steps_of (with_round c) ≤ steps_of c + 1
    by (inl less) = omega (arith, less)
    by (inr (inr same)) = omega (arith, same)
    by (inr (inl far)) =
        let now = with_round c in
        let n = steps_of c + 1 in
        let full = (both (is_full_after now n) (not (nat_eq (step_set_after now n) 0) && is_none (good_at_ceiling now n)) ((has_steps now).before n far)).0 in
        let opened : is_full_after now n ≡ false = ap (λ ms. is_full ms now.reports (n + 1)) some ∙ open-beyond j js now.reports (last_round c) (n + 1) (omega arith) (next-past c past) in
        absurd (let e : true ≡ false = sym full ∙ opened in cc)

next : (c : ClockHistory) → members_of c ≢ [] → IsPast (last_round c) c.reports → IsNext c (with_round c)
next c some past = record {
  up = next-up c;
  few = by (members_of c) refl;
  past = (let up = next-up c in all-more (λ (r : Report). r.round ≤ last_round c) (λ (r : Report). r.round ≤ last_round (with_round c)) (with_round c).reports (λ r low. omega (arith, up, low)) (next-past c past));
}
  where
    by : (ms : List ℕ) → members_of c ≡ ms → steps_of (with_round c) ≤ steps_of c + 1
    by [] none = absurd (some none)
    by (j ∷ js) is = next-few c j js is past

-- so many repeated rounds add as many steps at most
record IsBehind (rounds : ℕ) (c now : ClockHistory) : Type 0 where
  pub few : steps_of now ≤ steps_of c + rounds
  pub past : IsPast (last_round now) now.reports
  pub some : members_of now ≢ []

behind : (rounds : ℕ) (c : ClockHistory) → members_of c ≢ [] → IsPast (last_round c) c.reports → IsBehind rounds c (repeated rounds c)
behind zero c some past = record { few = omega arith; past = past; some = some }
behind (suc rounds) c some past =
    let b = behind rounds c some past in
    let n = next (repeated rounds c) b.some b.past in
    record { few = (let f = n.few in let g = b.few in omega (arith, f, g)); past = n.past; some = b.some }

-- terms and number stay
pub terms-stay : (rounds : ℕ) (c : ClockHistory) → (repeated rounds c).terms ≡ c.terms
terms-stay zero c = refl
terms-stay (suc rounds) c = terms-stay rounds c

pub number-stay : (rounds : ℕ) (c : ClockHistory) → (repeated rounds c).number ≡ c.number
number-stay zero c = refl
number-stay (suc rounds) c = number-stay rounds c

-- each member demands the same at the prices and after so many steps more on the set
abbrev pub StaySame : (ℕ → List ℕ → ℤ) → List ℕ → ℕ → ℕ → ClockHistory → Type 0
StaySame u p set n c = AllByRecursion (λ j. demand c.terms.goods (u j) (raised_by n set p) ≡ demand c.terms.goods (u j) p) (members_of c)

-- a round was told at these prices, and as many repeated it
pub record HasRepeated (u : ℕ → List ℕ → ℤ) (p : List ℕ) (set most rounds : ℕ) (now : ClockHistory) : Type 0 where
  pub some : members_of now ≢ []
  pub long : length p ≡ length now.terms.goods
  pub set_is : set ≡ set_told u p now
  pub steady : (n : ℕ) → n ≤ most → StaySame u p set n now
  pub fresh : IsFresh u now
  pub prices : prices_of now ≡ raised_by (suc rounds) set p
  pub demands : AllByRecursion (λ j. demands_in now.reports (steps_of now) j ≡ demand now.terms.goods (u j) p) (members_of now)

all-two : (P Q R : ℕ → Type 0) (js : List ℕ) → ((j : ℕ) → P j → Q j → R j) → AllByRecursion P js → AllByRecursion Q js → AllByRecursion R js
all-two P Q R [] f a b = tt
all-two P Q R (j ∷ js) f a b = (f j a.0 b.0, all-two P Q R js f a.1 b.1)

map-same : (f g : ℕ → Report) (js : List ℕ) → AllByRecursion (λ j. f j ≡ g j) js → map f js ≡ map g js
map-same f g [] same = refl
map-same f g (j ∷ js) same = (let rest = map-same f g js same.1 in let first = same.0 in λ i. first i ∷ rest i)

-- one round more
repeat-one : (u : ℕ → List ℕ → ℤ) (p : List ℕ) (set most rounds : ℕ) (c : ClockHistory) → HasRepeated u p set most rounds c → suc rounds ≤ most → steps_of (with_round c) ≡ steps_of c + 1 → HasRepeated u p set most (suc rounds) (with_round c)
repeat-one u p set most rounds c at few more =
    let goods = c.terms.goods in
    let js = members_of c in
    let here = prices_of c in
    let same : AllByRecursion (λ j. demand goods (u j) here ≡ demand goods (u j) p) js =
    all-two (λ j. demand goods (u j) (raised_by (suc rounds) set p) ≡ demand goods (u j) p) (λ j. demands_in c.reports (steps_of c) j ≡ demand goods (u j) p) (λ j. demand goods (u j) here ≡ demand goods (u j) p) js
    (λ j s d. ap (demand goods (u j)) at.prices ∙ s) (at.steady (suc rounds) few) at.demands in
    let reports : map (again_by c) js ≡ round_reports c.terms u (last_round c) here js =
    map-same (again_by c) (true_report c.terms u (last_round c) here) js
    (all-two (λ j. demands_in c.reports (steps_of c) j ≡ demand goods (u j) p) (λ j. demand goods (u j) here ≡ demand goods (u j) p) (λ j. again_by c j ≡ true_report c.terms u (last_round c) here j) js
    (λ j d s. (let e = d ∙ sym s in λ i. record { bidder = j; round = last_round c; demand = e i })) at.demands same) in
    let is : with_round c ≡ told u c = (λ i. record c { reports = c.reports ++ reports i }) in
    let l = led-on u c (with_round c) at.fresh is at.some (ap length at.prices ∙ length-raised_by (suc rounds) set p ∙ at.long) more in
    let set-same : set_told u here c ≡ set = step-same goods (λ j. demand goods (u j) here) (λ j. demand goods (u j) p) js same ∙ sym at.set_is in
    record {
      some = at.some;
      long = at.long;
      set_is = at.set_is;
      steady = at.steady;
      fresh = l.fresh;
      prices = l.rose ∙ (λ i. raised (at.prices i) (set-same i));
      demands = all-two (λ j. demands_in (with_round c).reports (steps_of (with_round c)) j ≡ demand goods (u j) here) (λ j. demand goods (u j) here ≡ demand goods (u j) p) (λ j. demands_in (with_round c).reports (steps_of (with_round c)) j ≡ demand goods (u j) p) js
          (λ j d s. d ∙ s) l.demands same;
    }

-- so many
pub repeats : (u : ℕ → List ℕ → ℤ) (p : List ℕ) (set most rounds : ℕ) (c : ClockHistory) → HasRepeated u p set most 0 c → rounds ≤ most → steps_of (repeated rounds c) ≡ steps_of c + rounds → HasRepeated u p set most rounds (repeated rounds c)
repeats u p set most zero c at few more = at
repeats u p set most (suc rounds) c at few more =
    let past = all-more (λ (r : Report). r.round ≤ steps_of c) (λ (r : Report). r.round ≤ last_round c) c.reports (λ r low. omega (arith, low)) (fresh-past u c at.fresh) in
    let b = behind rounds c at.some past in
    let n = next (repeated rounds c) b.some b.past in
    let all : steps_of (repeated rounds c) ≡ steps_of c + rounds = (let f = n.few in let g = b.few in omega (arith, f, g, more)) in
    repeat-one u p set most rounds (repeated rounds c) (repeats u p set most rounds c at (omega (arith, few)) all) few (omega (arith, all, more))

-- none yet
pub none-repeated : (u : ℕ → List ℕ → ℤ) (p : List ℕ) (set most : ℕ) (c : ClockHistory) → IsLed u p c → set ≡ set_told u p c → ((n : ℕ) → n ≤ most → StaySame u p set n c) → HasRepeated u p set most 0 c
none-repeated u p set most c led is steady = record {
  some = led.some_member;
  long = led.each_good;
  set_is = is;
  steady = steady;
  fresh = led.fresh;
  prices = led.rose ∙ ap (raised p) (sym is);
  demands = led.demands;
}

-- what is so of each bidder but one is so of the members
left-range : (P : ℕ → Type 0) (number last a n : ℕ) → 1 ≤ a → a + n ≤ last + 1 → ((place : ℕ) → place < last → place + 1 ≢ number → P (place + 1)) → AllByRecursion P (without number (range_with_len a n))
left-range P number last a zero low high f = tt
left-range P number last a (suc n) low high f = by (cases_eq a number) (left-range P number last (a + 1) n (omega arith) (omega arith) f)
  where
    by : (a ≡ number) ⊎ (a ≢ number) → AllByRecursion P (without number (range_with_len (a + 1) n)) → AllByRecursion P (cond (not (nat_eq a number)) (a ∷ without number (range_with_len (a + 1) n)) (without number (range_with_len (a + 1) n)))
    by (inl same) rest =
        let e : nat_eq a number ≡ true = grind (arith, nat_tests) in
        let G : Bool → Type 0 = λ b. AllByRecursion P (cond (not b) (a ∷ without number (range_with_len (a + 1) n)) (without number (range_with_len (a + 1) n))) in
        subst G (sym e) rest
    by (inr other) rest =
        let e : nat_eq a number ≡ false = grind (arith, nat_tests) in
        let G : Bool → Type 0 = λ b. AllByRecursion P (cond (not b) (a ∷ without number (range_with_len (a + 1) n)) (without number (range_with_len (a + 1) n))) in
        let back : a - 1 + 1 ≡ a = omega (arith, low) in
        subst G (sym e) (subst P back (f (a - 1) (omega (arith, low, high)) (λ same. other (sym back ∙ same))), rest)

pub all-members : (P : ℕ → Type 0) (number bidders : ℕ) → ((place : ℕ) → place < bidders → place + 1 ≢ number → P (place + 1)) → AllByRecursion P (members bidders number)
all-members P number bidders f = left-range P number bidders 1 bidders (omega arith) (omega arith) f

-- members who stay demand the same
pub all-steady : (terms : Terms) (u : ℕ → List ℕ → ℤ) (set n least : ℕ) (p : List ℕ) (old ready on : List Followed) (c : ClockHistory) → c.terms ≡ terms → AreFollowed terms u c.number p old → AreReady c.number set old ready → AreOn c.number set ready on → AreSteady c.number set least on → n ≤ least
    → length p ≡ length terms.goods → StaySame u p set n c
all-steady terms u set n least p old ready on c same are caught turned steady few long =
    let T : Terms → Type 0 = λ t. AllByRecursion (λ j. demand t.goods (u j) (raised_by n set p) ≡ demand t.goods (u j) p) (members t.bidders c.number) in
    subst T (sym same) (all-members (λ j. demand terms.goods (u j) (raised_by n set p) ≡ demand terms.goods (u j) p) c.number terms.bidders each)
  where
    each : (place : ℕ) → place < terms.bidders → place + 1 ≢ c.number → demand terms.goods (u (place + 1)) (raised_by n set p) ≡ demand terms.goods (u (place + 1)) p
    each place inside member =
        let here : place < length old = (let k = are.count in omega (arith, k, inside)) in
        let middle : place < length ready = (let k = caught.count in omega (arith, k, here)) in
        let there : place < length on = (let k = turned.count in omega (arith, k, middle)) in
        let is = are.each place inside member in
        let r = caught.each place here member in
        let o = turned.each place middle member in
        let a : length p ≡ length (follower_at old place).supply = long ∙ ap length (sym is.over) in
        let b : length p ≡ length (follower_at ready place).supply = a ∙ ap length (sym r.goods) in
        let d : length p ≡ length (follower_at on place).supply = b ∙ ap length (sym o.goods) in
        let D : List ℕ → Type 0 = λ g. demand g (u (place + 1)) (raised_by n set p) ≡ demand g (u (place + 1)) p in
        subst D (o.goods ∙ r.goods ∙ is.over) ((steady.each place n there member few).same (u (place + 1)) p d (o.follows (u (place + 1)) p b (r.follows (u (place + 1)) p a is.follows)))

-- a clock that was led on and then repeated rounds in which all members stay
pub gone-on : (u : ℕ → List ℕ → ℤ) (terms : Terms) (before : List ℕ) (set least added : ℕ) (followers ready on : List Followed) (old new : ClockHistory) → IsLed u before old → old.terms ≡ terms → AreFollowed terms u old.number before followers → set ≡ set_told u before old
    → AreReady old.number set followers ready → AreOn old.number set ready on → AreSteady old.number set least on → new ≡ repeated added old → added ≤ least → steps_of new ≡ steps_of old + added → HasRepeated u before set least added new
gone-on u terms before set least added followers ready on old new led same are is caught turned steady repeated-is few more =
    let H : ClockHistory → Type 0 = HasRepeated u before set least added in
    let stay = λ (n : ℕ) (low : n ≤ least). all-steady terms u set n least before followers ready on old same are caught turned steady low (led.each_good ∙ ap (λ (t : Terms). length t.goods) same) in
    subst H (sym repeated-is) (repeats u before set least added old (none-repeated u before set least old led is stay) few (ap steps_of (sym repeated-is) ∙ more))

pub has-gone : (u : ℕ → List ℕ → ℤ) (before : List ℕ) (set least added : ℕ) (old new : ClockHistory) → HasRepeated u before set least added new → new ≡ repeated added old → steps_of new ≡ steps_of old + added → HasGone u old new
has-gone u before set least added old new at is more = record {
  terms_stay = ap (λ (k : ClockHistory). k.terms) is ∙ terms-stay added old;
  number_stays = ap (λ (k : ClockHistory). k.number) is ∙ number-stay added old;
  fresh = at.fresh;
  steps = omega (arith, more);
}
