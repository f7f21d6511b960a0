-- The fronts of a legal history: each report is of the last round of the front before it, and a bidder has no more reports than there are rounds.
use Rattle.std.proofs.Common.{◌≡◌, ◌∙◌, ◌<◌, ◌≤◌, ◌⊎◌, inl, inr, ℕ, zero, suc, ◌+◌, ◌-◌, Bool, true, false, nat_eq, cond, List, [], ◌∷◌, ◌++◌, length, take, drop, Option, Some, None, arith, refl, sym, ap, subst}
use Rattle.std.specs.Prelude.{◌&&◌, find, is_some, option_map, slice_get}
use Rattle.std.specs.List.{AllByRecursion, filter}
use Rattle.std.proofs.lemmas.Bool.{cases_lt}
use Rattle.std.proofs.lemmas.Bool.Decides.{nat_tests}
use Rattle.std.proofs.lemmas.List.{length-append}
use Rattle.std.proofs.lemmas.List.Elements.{filter-append}
use Rattle.lot_base.specs.Demands.{IsDemand}
use Rattle.demand_set.specs.declared.reports.Report.{Report}
use Rattle.clock.specs.declared.judging.Judgement.TheVariants.{Take}
use Rattle.clock.specs.Reports.{ClockHistory, demand_in, is_named, with_report}
use Rattle.clock.specs.Standing.{last_round, phase_of, prices_after, steps_of}
use Rattle.clock.specs.Judging.{IsJudgement, IsLegal, TakesAll, judgement_of}
use Rattle.clock.proofs.Append.{demand-stays, takes-at}
use Rattle.clock.proofs.Ceiling.{AllUpTo}
use Rattle.clock.proofs.Growing.{grows}
use Rattle.clock.proofs.Judges.{judgement-is}
use Rattle.clock.proofs.Path.{has_steps, on_the_path}
use Rattle.clock.proofs.Present.{taken-now}
use Rattle.observed_demand.specs.Reported.{is_by}

-- the history up to so many reports
abbrev pub front : ClockHistory → ℕ → ClockHistory
front c n = record c { reports = take n c.reports }

-- a report that is taken after some others

pub record IsNext (c : ClockHistory) (n : ℕ) (r : Report) : Type 0 where
  pub taken : judgement_of (front c n) r ≡ Take
  pub more : front c (suc n) ≡ with_report (front c n) r

split : (xs : List Report) (n : ℕ) (r : Report) → slice_get xs n ≡ Some r → xs ≡ take n xs ++ r ∷ drop (suc n) xs
split [] n r at = absurd (let f : None ≡ Some r = at in cc)
split (x ∷ xs) zero r at = let e : x ≡ r = (let f : Some x ≡ Some r = at in cc) in ap (λ y. y ∷ xs) e
split (x ∷ xs) (suc n) r at = ap (λ ys. x ∷ ys) (split xs n r at)

pub one-more : (xs : List Report) (n : ℕ) (r : Report) → slice_get xs n ≡ Some r → take (suc n) xs ≡ take n xs ++ r ∷ []
one-more [] n r at = absurd (let f : None ≡ Some r = at in cc)
one-more (x ∷ xs) zero r at = let e : x ≡ r = (let f : Some x ≡ Some r = at in cc) in ap (λ y. y ∷ []) e
one-more (x ∷ xs) (suc n) r at = ap (λ ys. x ∷ ys) (one-more xs n r at)

pub next : (c : ClockHistory) (n : ℕ) (r : Report) → IsLegal c → slice_get c.reports n ≡ Some r → IsNext c n r
next c n r legal at =
    let P : List Report → Type 0 = λ rs. TakesAll (record c { reports = [] }) rs in
    record {
      taken = takes-at (record c { reports = [] }) (take n c.reports) r (drop (suc n) c.reports) (subst P (split c.reports n r at) legal.takes);
      more = ap (λ rs. record c { reports = rs }) (one-more c.reports n r at);
    }

-- it is of the last round before it
pub round-is : (c : ClockHistory) (n : ℕ) (r : Report) → IsLegal c → slice_get c.reports n ≡ Some r → r.round ≡ last_round (front c n)
round-is c n r legal at =
    let k = front c n in
    taken-now k (steps_of k) (last_round k) (phase_of k) r (has_steps k).before refl (next c n r legal at).taken

pub there : (xs : List Report) (n : ℕ) → n < length xs → (r : Report) × (slice_get xs n ≡ Some r)
there [] n inside = absurd (omega arith)
there (x ∷ xs) zero inside = (x, refl)
there (x ∷ xs) (suc n) inside = there xs n (omega arith)

-- a longer front has made no fewer steps
pub steps-next : (c : ClockHistory) (n : ℕ) → IsLegal c → n < length c.reports → steps_of (front c n) ≤ steps_of (front c (suc n))
steps-next c n legal inside =
    let r = there c.reports n inside in
    let is = next c n r.0 legal r.1 in
    let e : steps_of (front c (suc n)) ≡ steps_of (with_report (front c n) r.0) = ap steps_of is.more in
    let g = (grows (front c n) r.0 is.taken).steps in
    omega (arith, e, g)

take-whole : (xs : List Report) (n : ℕ) → length xs ≤ n → take n xs ≡ xs
take-whole [] zero whole = refl
take-whole [] (suc n) whole = refl
take-whole (x ∷ xs) zero whole = absurd (omega arith)
take-whole (x ∷ xs) (suc n) whole = ap (λ ys. x ∷ ys) (take-whole xs n (omega arith))

steps-all : (c : ClockHistory) (n more : ℕ) → IsLegal c → n + more ≡ length c.reports → steps_of (front c n) ≤ steps_of c
steps-all c n zero legal e =
    let same : front c n ≡ c = ap (λ rs. record c { reports = rs }) (take-whole c.reports n (omega arith)) in
    let s = ap steps_of same in
    omega (arith, s)
steps-all c n (suc more) legal e =
    let s = steps-next c n legal (omega arith) in
    let t = steps-all c (suc n) more legal (omega arith) in
    omega (arith, s, t)

pub steps-later : (c : ClockHistory) (n : ℕ) → IsLegal c → n ≤ length c.reports → steps_of (front c n) ≤ steps_of c
steps-later c n legal inside = steps-all c n (length c.reports - n) legal (omega arith)

-- how many reports of a bidder a front has
abbrev pub count_by : ℕ → ClockHistory → ℕ → ℕ
count_by bidder c n = length (filter (is_by bidder) (take n c.reports))

-- so many reports of a bidder are no more than there are rounds, and fewer where none is in the last one
record AreFew (bidder : ℕ) (h : ClockHistory) (count : ℕ) : Type 0 where
  pub within : count ≤ last_round h
  pub fewer : demand_in h.reports (last_round h) bidder ≡ None → count ≤ steps_of h

by-more : (bidder : ℕ) (c : ClockHistory) (n : ℕ) (r : Report) → slice_get c.reports n ≡ Some r → count_by bidder c (suc n) ≡ count_by bidder c n + length (filter (is_by bidder) (r ∷ []))
by-more bidder c n r at =
    ap (λ rs. length (filter (is_by bidder) rs)) (one-more c.reports n r at) ∙ ap length (filter-append (is_by bidder) (take n c.reports) (r ∷ []))
    ∙ length-append (filter (is_by bidder) (take n c.reports)) (filter (is_by bidder) (r ∷ []))

found-last : (xs : List Report) (r : Report) (round bidder : ℕ) → is_named round bidder r ≡ true → demand_in (xs ++ r ∷ []) round bidder ≡ None → ⊥
found-last [] r round bidder named none =
    let found = ap (λ b. option_map (λ (z : Report). z.demand) (cond b (Some r) None)) named in
    let f : Some r.demand ≡ None = sym found ∙ none in
    (let no : ⊥ = cc in no)
found-last (x ∷ xs) r round bidder named none = by (is_named round bidder x) none (found-last xs r round bidder named)
  where
    by : (b : Bool) → option_map (λ (z : Report). z.demand) (cond b (Some x) (find (is_named round bidder) (xs ++ r ∷ []))) ≡ None → (demand_in (xs ++ r ∷ []) round bidder ≡ None → ⊥) → ⊥
    by true e rest = let f : Some x.demand ≡ None = e in (let no : ⊥ = cc in no)
    by false e rest = rest e

none-before : (xs : List Report) (r : Report) (round bidder : ℕ) → demand_in (xs ++ r ∷ []) round bidder ≡ None → demand_in xs round bidder ≡ None
none-before xs r round bidder none = by (demand_in xs round bidder) refl
  where
    by : (o : Option (List (List ℕ))) → demand_in xs round bidder ≡ o → demand_in xs round bidder ≡ None
    by None e = e
    by (Some d) e =
        let there : is_some (demand_in xs round bidder) ≡ true = ap is_some e in
        let f : Some d ≡ None = sym e ∙ sym (demand-stays xs r round bidder there) ∙ none in
        absurd (let no : ⊥ = cc in no)

few-with : (bidder : ℕ) (k : ClockHistory) (r : Report) (count now : ℕ) → judgement_of k r ≡ Take → now ≡ count + length (filter (is_by bidder) (r ∷ [])) → AreFew bidder k count → AreFew bidder (with_report k r) now
few-with bidder k r count now taken more few = by (nat_eq r.bidder bidder) refl
  where
    round : r.round ≡ last_round k
    round = taken-now k (steps_of k) (last_round k) (phase_of k) r (has_steps k).before refl taken

    grown : steps_of k ≤ steps_of (with_report k r)
    grown = (grows k r taken).steps

    by : (b : Bool) → nat_eq r.bidder bidder ≡ b → AreFew bidder (with_report k r) now
    by true e =
        let same : r.bidder ≡ bidder = grind (arith, nat_tests) in
        let one : length (filter (is_by bidder) (r ∷ [])) ≡ 1 = ap (λ b. length (cond b (r ∷ []) [])) e in
        let absent : demand_in k.reports r.round r.bidder ≡ None = (subst (IsJudgement k r) taken (judgement-is k r)).1 in
        let before = few.fewer ((λ i. demand_in k.reports (sym round i) (sym same i)) ∙ absent) in
        record { within = omega (arith, one, more, before, grown); fewer = λ gone. of same one before gone (cases_lt (steps_of k) (steps_of (with_report k r))) }
      where
        of : r.bidder ≡ bidder → length (filter (is_by bidder) (r ∷ [])) ≡ 1 → count ≤ steps_of k → demand_in (with_report k r).reports (last_round (with_report k r)) bidder ≡ None
            → (steps_of k < steps_of (with_report k r)) ⊎ (steps_of (with_report k r) ≤ steps_of k) → now ≤ steps_of (with_report k r)
        of same one before gone (inl later) = omega (arith, one, more, before, later)
        of same one before gone (inr stays) =
            let last : r.round ≡ last_round (with_report k r) = omega (arith, round, grown, stays) in
            let a : nat_eq r.round (last_round (with_report k r)) ≡ true = grind (arith, nat_tests) in
            absurd (found-last k.reports r (last_round (with_report k r)) bidder (λ i. a i && e i) gone)
    by false e =
        let none : length (filter (is_by bidder) (r ∷ [])) ≡ 0 = ap (λ b. length (cond b (r ∷ []) [])) e in
        let within = few.within in
        record { within = omega (arith, none, more, within, grown); fewer = λ gone. of none gone (cases_lt (steps_of k) (steps_of (with_report k r))) }
      where
        of : length (filter (is_by bidder) (r ∷ [])) ≡ 0 → demand_in (with_report k r).reports (last_round (with_report k r)) bidder ≡ None
            → (steps_of k < steps_of (with_report k r)) ⊎ (steps_of (with_report k r) ≤ steps_of k) → now ≤ steps_of (with_report k r)
        of none gone (inl later) = let within = few.within in omega (arith, none, more, within, later)
        of none gone (inr stays) =
            let last : last_round (with_report k r) ≡ last_round k = omega (arith, grown, stays) in
            let before = few.fewer (none-before k.reports r (last_round k) bidder (ap (λ n. demand_in (with_report k r).reports n bidder) (sym last) ∙ gone)) in
            omega (arith, none, more, before, grown)

few-at : (bidder : ℕ) (c : ClockHistory) (n : ℕ) → IsLegal c → n ≤ length c.reports → AreFew bidder (front c n) (count_by bidder c n)
few-at bidder c zero legal inside = record { within = omega arith; fewer = λ none. omega arith }
few-at bidder c (suc n) legal inside =
    let r = there c.reports n (omega arith) in
    let is = next c n r.0 legal r.1 in
    let P : ClockHistory → Type 0 = λ h. AreFew bidder h (count_by bidder c (suc n)) in
    subst P (sym is.more) (few-with bidder (front c n) r.0 (count_by bidder c n) (count_by bidder c (suc n)) is.taken (by-more bidder c n r.0 r.1) (few-at bidder c n legal (omega arith)))

-- a bidder has no more reports in a front than the clock has rounds
pub few-reports : (bidder : ℕ) (c : ClockHistory) (n : ℕ) → IsLegal c → n ≤ length c.reports → count_by bidder c n ≤ last_round c
few-reports bidder c n legal inside =
    let few = (few-at bidder c n legal inside).within in
    let later = steps-later c n legal inside in
    omega (arith, few, later)

-- prices up to the last round

up-low : (ceiling limit : ℕ) (prices : List ℕ) → ceiling ≤ limit → AllUpTo ceiling prices → AllByRecursion (λ price. price ≤ limit) prices
up-low ceiling limit [] most up = tt
up-low ceiling limit (p ∷ ps) most up = (let u = up.0 in omega (arith, u, most), up-low ceiling limit ps most up.1)

-- of each good, and none above 10,000
pub record AreFit (c : ClockHistory) (prices : List ℕ) : Type 0 where
  pub goods : length prices ≡ length c.terms.goods
  pub low : AllByRecursion (λ price. price ≤ 10000) prices

pub prices-fit : (c : ClockHistory) (n : ℕ) → n ≤ steps_of c → AreFit c (prices_after c n)
prices-fit c n inside =
    let path = on_the_path c n (λ m below. (has_steps c).before m (omega arith)) in
    record { goods = path.goods; low = up-low c.terms.ceiling 10000 (prices_after c n) (let r = c.terms.ceiling_in_range.at_most in omega arith) path.up }

-- each demand is one of the supply
all-at : {A : Type 0} (P : A → Type 0) (xs : List A) (n : ℕ) (x : A) → AllByRecursion P xs → slice_get xs n ≡ Some x → P x
all-at P [] n x all at = absurd (let f : None ≡ Some x = at in (let no : ⊥ = cc in no))
all-at P (y ∷ xs) zero x all at = let e : y ≡ x = (let f : Some y ≡ Some x = at in cc) in subst P e all.0
all-at P (y ∷ xs) (suc n) x all at = all-at P xs n x all.1 at

pub demand-fits : (c : ClockHistory) (n : ℕ) (r : Report) → IsLegal c → slice_get c.reports n ≡ Some r → IsDemand c.terms.goods r.demand
demand-fits c n r legal at = all-at (λ (x : Report). IsDemand c.terms.goods x.demand) c.reports n r legal.demands at
