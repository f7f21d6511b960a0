-- Each report of a legal history is what its bidder demands in its round.
use Rattle.std.proofs.Common.{◌≡◌, ℕ, Bool, true, false, cond, List, [], ◌∷◌, ◌++◌, Some, None, refl, ◌∙◌, ap, subst}
use Rattle.std.specs.Prelude.{find, option_map}
use Rattle.demand_set.specs.declared.reports.Report.{Report}
use Rattle.clock.specs.declared.judging.Judgement.TheVariants.{Take}
use Rattle.clock.specs.Reports.{ClockHistory, demand_in, is_named}
use Rattle.clock.specs.Judging.{IsLegal, TakesAll, judgement_of}
use Rattle.clock.proofs.OnlyOnce.{named, none-before}
use Rattle.clock.proofs.Append.{takes-at}
use Rattle.house_lives.proofs.Members.{In, split-at}

-- after reports without one, the first is found
found-behind : (round bidder : ℕ) (xs ys : List Report) (r : Report) → demand_in xs round bidder ≡ None → is_named round bidder r ≡ true → demand_in (xs ++ r ∷ ys) round bidder ≡ Some r.demand
found-behind round bidder [] ys r none is = ap (λ b. option_map (λ (x : Report). x.demand) (cond b (Some r) (find (is_named round bidder) ys))) is
found-behind round bidder (x ∷ xs) ys r none is = by (is_named round bidder x) none (λ rest. found-behind round bidder xs ys r rest is)
  where
    by : (b : Bool) → option_map (λ (z : Report). z.demand) (cond b (Some x) (find (is_named round bidder) xs)) ≡ None → (demand_in xs round bidder ≡ None → demand_in (xs ++ r ∷ ys) round bidder ≡ Some r.demand)
        → option_map (λ (z : Report). z.demand) (cond b (Some x) (find (is_named round bidder) (xs ++ r ∷ ys))) ≡ Some r.demand
    by true e rest = absurd (let f : Some x.demand ≡ None = e in cc)
    by false e rest = rest e

module _ (c : ClockHistory) (legal : IsLegal c) where
  taken-behind : (earlier later : List Report) (r : Report) → c.reports ≡ earlier ++ r ∷ later → judgement_of (record c { reports = earlier }) r ≡ Take
  taken-behind earlier later r is = takes-at (record c { reports = [] }) earlier r later (subst (TakesAll (record c { reports = [] })) is legal.takes)

  pub demand-of : (r : Report) → In r c.reports → demand_in c.reports r.round r.bidder ≡ Some r.demand
  demand-of r h =
      let s = split-at c.reports r h in
      ap (λ l. demand_in l r.round r.bidder) s.is
      ∙ found-behind r.round r.bidder s.earlier s.later r (none-before (record c { reports = s.earlier }) r (taken-behind s.earlier s.later r s.is)) (named r.round r.bidder r refl refl)
