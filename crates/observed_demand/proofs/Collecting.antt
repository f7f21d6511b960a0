-- Observations of one report after another.
use Rattle.std.proofs.Common.{◌≡◌, ◌∙◌, ◌<◌, ◌≤◌, ℕ, zero, suc, ◌+◌, ◌-◌, Bool, true, false, nat_eq, cond, List, [], ◌∷◌, ◌++◌, get_or, length, map, take, Some, arith, refl, sym, ap, subst, append-nil, append_assoc}
use Rattle.std.specs.Prelude.{IfSome, Option, slice_get}
use Rattle.std.specs.List.{AllByRecursion, filter}
use Rattle.std.proofs.lemmas.Bool.Decides.{nat_tests}
use Rattle.std.proofs.lemmas.List.{length-append, length-map, map-append}
use Rattle.std.proofs.lemmas.List.Elements.{filter-append}
use Rattle.lot_base.specs.declared.auction_terms.Terms.{Terms}
use Rattle.demand_set.specs.declared.reports.Report.{Report}
use Rattle.clock.specs.Reports.{ClockHistory, ClockOf, histories}
use Rattle.clock.specs.Standing.{last_round, steps_of}
use Rattle.clock.specs.Judging.{IsLegal}
use Rattle.observed_demand.specs.Reported.{is_by}
use Rattle.observed_demand.proofs.Fronts.{few-reports, front, one-more, round-is, steps-later, steps-next}

-- the report of a number
pub at-number : (rs : List Report) (n : ℕ) (r : Report) → slice_get rs (n + 1 - 1) ≡ Some r → slice_get rs n ≡ Some r
at-number rs n r at = ap (slice_get rs) (let e : n ≡ n + 1 - 1 = omega arith in e) ∙ at

pub whose : (rs : List Report) (n : ℕ) (r : Report) (bidder : ℕ) → slice_get rs n ≡ Some r → IfSome (slice_get rs (n + 1 - 1)) (λ (x : Report). bidder ≡ x.bidder) → bidder ≡ r.bidder
whose rs n r bidder at is =
    let P : Option Report → Type 0 = λ o. IfSome o (λ (x : Report). bidder ≡ x.bidder) in
    subst P (ap (slice_get rs) (let e : n + 1 - 1 ≡ n = omega arith in e) ∙ at) is

pub other-test : (found mine bidder : ℕ) → found ≡ mine → (found ≡ bidder → ⊥) → nat_eq mine bidder ≡ false
other-test found mine bidder is other = of (nat_eq mine bidder) refl
  where
    of : (b : Bool) → nat_eq mine bidder ≡ b → b ≡ false
    of false e = refl
    of true e = absurd (other (let same : mine ≡ bidder = grind (arith, nat_tests) in is ∙ same))

grown : {A : Type 0} (f : Report → A) (bidder : ℕ) (rs : List Report) (n : ℕ) (r : Report) → slice_get rs n ≡ Some r
    → map f (filter (is_by bidder) (take (n + 1) rs)) ≡ map f (filter (is_by bidder) (take n rs)) ++ map f (filter (is_by bidder) (r ∷ []))
grown f bidder rs n r at =
    ap (λ k. map f (filter (is_by bidder) (take k rs))) (let e : n + 1 ≡ suc n = omega arith in e) ∙ ap (λ xs. map f (filter (is_by bidder) xs)) (one-more rs n r at)
    ∙ ap (map f) (filter-append (is_by bidder) (take n rs) (r ∷ [])) ∙ map-append f (filter (is_by bidder) (take n rs)) (filter (is_by bidder) (r ∷ []))

-- a report of the bidder is one more, and another is none
pub kept : {A : Type 0} (f : Report → A) (bidder : ℕ) (rs : List Report) (n : ℕ) (r : Report) → slice_get rs n ≡ Some r → r.bidder ≡ bidder
    → map f (filter (is_by bidder) (take (n + 1) rs)) ≡ map f (filter (is_by bidder) (take n rs)) ++ f r ∷ []
kept f bidder rs n r at same =
    let e : nat_eq r.bidder bidder ≡ true = grind (arith, nat_tests) in
    grown f bidder rs n r at ∙ ap (λ b. map f (filter (is_by bidder) (take n rs)) ++ map f (cond b (r ∷ []) [])) e

pub passed : {A : Type 0} (f : Report → A) (bidder : ℕ) (rs : List Report) (n : ℕ) (r : Report) → slice_get rs n ≡ Some r → nat_eq r.bidder bidder ≡ false
    → map f (filter (is_by bidder) (take (n + 1) rs)) ≡ map f (filter (is_by bidder) (take n rs))
passed f bidder rs n r at e =
    grown f bidder rs n r at ∙ ap (λ b. map f (filter (is_by bidder) (take n rs)) ++ map f (cond b (r ∷ []) [])) e ∙ append-nil (map f (filter (is_by bidder) (take n rs)))

-- one observation more after the others
pub collected : {A : Type 0} (old all now before after : List A) (x y : A) → now ≡ all ++ x ∷ [] → all ≡ old ++ before → x ≡ y → after ≡ before ++ y ∷ [] → now ≡ old ++ after
collected old all now before after x y is are same more =
    is ∙ (λ i. are i ++ same i ∷ []) ∙ append_assoc old before (y ∷ []) ∙ ap (λ xs. old ++ xs) (sym more)

-- rounds

pub round-later : (c : ClockHistory) (n round : ℕ) (r : Report) → IsLegal c → slice_get c.reports n ≡ Some r → round ≤ last_round (front c n) → round ≤ r.round
round-later c n round r legal at up = let e = round-is c n r legal at in omega (arith, e, up)

pub round-within : (c : ClockHistory) (n : ℕ) (r : Report) → IsLegal c → n < length c.reports → slice_get c.reports n ≡ Some r → r.round ≤ last_round c
round-within c n r legal inside at = let e = round-is c n r legal at in let s = steps-later c n legal (omega arith) in omega (arith, e, s)

pub round-next : (c : ClockHistory) (n round : ℕ) → IsLegal c → n < length c.reports → round ≤ last_round (front c n) → round ≤ last_round (front c (n + 1))
round-next c n round legal inside up =
    let s = steps-next c n legal inside in
    let e : steps_of (front c (n + 1)) ≡ steps_of (front c (suc n)) = ap (λ k. steps_of (front c k)) (let k : n + 1 ≡ suc n = omega arith in k) in
    omega (arith, s, e, up)

pub round-here : (c : ClockHistory) (n : ℕ) (r : Report) → IsLegal c → n < length c.reports → slice_get c.reports n ≡ Some r → r.round ≤ last_round (front c (n + 1))
round-here c n r legal inside at = let e = round-is c n r legal at in round-next c n r.round legal inside (omega (arith, e))

-- how many observations there are
pub count-few : {A : Type 0} (f : Report → A) (bidder : ℕ) (c : ClockHistory) (n most : ℕ) (old all : List A) → IsLegal c → n ≤ length c.reports → steps_of c ≤ most → all ≡ old ++ map f (filter (is_by bidder) (take n c.reports))
    → length all ≤ length old + most + 1
count-few f bidder c n most old all legal inside steps are =
    let l = ap length are ∙ length-append old (map f (filter (is_by bidder) (take n c.reports))) in
    let m = length-map (filter (is_by bidder) (take n c.reports)) f in
    let few = few-reports bidder c n legal inside in
    omega (arith, l, m, few, steps)

-- a clock of those that are on these terms
pub terms-at : (terms : Terms) (clocks : List ClockOf) (n : ℕ) (k : ClockOf) → AllByRecursion (λ (c : ClockHistory). c.terms ≡ terms) (histories clocks) → n < length clocks → k ≡ get_or clocks n k → k.history.terms ≡ terms
terms-at terms [] n k all inside is = absurd (omega arith)
terms-at terms (c ∷ cs) zero k all inside is = ap (λ (x : ClockOf). x.history.terms) is ∙ all.0
terms-at terms (c ∷ cs) (suc n) k all inside is = terms-at terms cs n k all.1 (omega arith) is
