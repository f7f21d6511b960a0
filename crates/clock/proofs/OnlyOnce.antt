-- A legal history names a bidder and a round once.
use Rattle.std.proofs.Common.{◌≡◌, ◌<◌, ◌≤◌, ◌⊎◌, inl, inr, ℕ, zero, suc, ◌&&◌, Bool, true, false, nat_eq, cond, List, [], ◌∷◌, ◌++◌, length, Some, None, arith, refl, sym, ◌∙◌, ap, subst}
use Rattle.std.specs.Prelude.{find, option_map, slice_get}
use Rattle.std.proofs.lemmas.Bool.{cases_lt}
use Rattle.std.proofs.lemmas.Bool.Decides.{nat_tests}
use Rattle.demand_set.specs.declared.reports.Report.{Report}
use Rattle.clock.specs.declared.judging.Judgement.TheVariants.{Take}
use Rattle.clock.specs.Reports.{ClockHistory, demand_in, is_named}
use Rattle.clock.specs.Judging.{IsJudgement, IsLegal, TakesAll, judgement_of}
use Rattle.clock.proofs.Append.{takes-at}
use Rattle.clock.proofs.Judges.{judgement-is}

-- who is taken has no report in its round before
pub none-before : (c : ClockHistory) (r : Report) → judgement_of c r ≡ Take → demand_in c.reports r.round r.bidder ≡ None
none-before c r take = (subst (IsJudgement c r) take (judgement-is c r)).1

pub named : (round bidder : ℕ) (r : Report) → r.round ≡ round → r.bidder ≡ bidder → is_named round bidder r ≡ true
named round bidder r e f =
    let a : nat_eq r.round round ≡ true = grind (arith, nat_tests) in
    let b : nat_eq r.bidder bidder ≡ true = grind (arith, nat_tests) in
    λ i. a i && b i

-- where a report of the name stands, one is found
some-found : (round bidder : ℕ) (xs : List Report) (k : ℕ) (r : Report) → slice_get xs k ≡ Some r → is_named round bidder r ≡ true
    → demand_in xs round bidder ≡ None → ⊥
some-found round bidder [] k r at is none = absurd (let f : None ≡ Some r = at in cc)
some-found round bidder (x ∷ xs) zero r at is none =
    let same : x ≡ r = (let f : Some x ≡ Some r = at in cc) in
    let here : is_named round bidder x ≡ true = ap (is_named round bidder) same ∙ is in
    let found = ap (λ b. option_map (λ (z : Report). z.demand) (cond b (Some x) (find (is_named round bidder) xs))) here in
    let f : Some x.demand ≡ None = sym found ∙ none in
    absurd (let g : Some x.demand ≡ None = f in cc)
some-found round bidder (x ∷ xs) (suc k) r at is none =
    by (is_named round bidder x) none (λ rest. some-found round bidder xs k r at is rest)
  where
    by : (b : Bool) → option_map (λ (z : Report). z.demand) (cond b (Some x) (find (is_named round bidder) xs)) ≡ None
        → (demand_in xs round bidder ≡ None → ⊥) → ⊥
    by true e rest = let f : Some x.demand ≡ None = e in (let no : ⊥ = cc in no)
    by false e rest = rest e

-- what stands at a place stands after as many as its number
record IsPlace (xs : List Report) (k : ℕ) (x : Report) : Type 0 where
  earlier : List Report
  later : List Report
  is : xs ≡ earlier ++ x ∷ later
  long : length earlier ≡ k

place : (xs : List Report) (k : ℕ) (x : Report) → slice_get xs k ≡ Some x → IsPlace xs k x
place [] k x at = absurd (let f : None ≡ Some x = at in cc)
place (y ∷ ys) zero x at =
    let same : y ≡ x = (let f : Some y ≡ Some x = at in cc) in
    record { earlier = []; later = ys; is = ap (λ z. z ∷ ys) same; long = refl }
place (y ∷ ys) (suc k) x at =
    let rest = place ys k x at in
    record { earlier = y ∷ rest.earlier; later = rest.later; is = ap (λ l. y ∷ l) rest.is; long = ap suc rest.long }

get-left : (xs ys : List Report) (k : ℕ) → k < length xs → slice_get (xs ++ ys) k ≡ slice_get xs k
get-left [] ys k below = absurd (omega (arith, below))
get-left (x ∷ xs) ys zero below = refl
get-left (x ∷ xs) ys (suc k) below = get-left xs ys k (omega (arith, below))

-- no report of one name stands before another
not-before : (c : ClockHistory) → IsLegal c → (i j : ℕ) (r s : Report) → slice_get c.reports i ≡ Some r → slice_get c.reports j ≡ Some s
    → r.bidder ≡ s.bidder → r.round ≡ s.round → i < j → ⊥
not-before c legal i j r s at there bidder round less =
    let p = place c.reports j s there in
    let taken : judgement_of (record c { reports = p.earlier }) s ≡ Take =
    takes-at (record c { reports = [] }) p.earlier s p.later (subst (TakesAll (record c { reports = [] })) p.is legal.takes) in
    let below : i < length p.earlier = (let l = p.long in omega (arith, l, less)) in
    let here : slice_get p.earlier i ≡ Some r = sym (get-left p.earlier (s ∷ p.later) i below) ∙ ap (λ l. slice_get l i) (sym p.is) ∙ at in
    some-found s.round s.bidder p.earlier i r here (named s.round s.bidder r round bidder) (none-before (record c { reports = p.earlier }) s taken)

pub only-once : (c : ClockHistory) (i j : ℕ) (r s : Report) → IsLegal c → slice_get c.reports i ≡ Some r → slice_get c.reports j ≡ Some s
    → r.bidder ≡ s.bidder → r.round ≡ s.round → i ≡ j
only-once c i j r s legal at there bidder round = of (cases_lt i j)
  where
    of : (i < j) ⊎ (j ≤ i) → i ≡ j
    of (inl less) = absurd (not-before c legal i j r s at there bidder round less)
    of (inr up) = elim (cases_lt j i) [
      | inl less ↦ absurd (not-before c legal j i s r there at (sym bidder) (sym round) less)
      | inr same ↦ omega (arith, up, same)
    ]
