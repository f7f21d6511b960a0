-- The version of the terms changes nothing of how a clock judges.
use Rattle.std.proofs.Common.{◌≡◌, ℕ, zero, suc, ◌+◌, ◌*◌, ◌==◌, nat_le, Bool, true, false, not, ◌&&◌, if◌then◌else◌, length, refl, ◌∙◌, ap}
use Rattle.lot_base.specs.Goods.{raised}
use Rattle.lot_base.specs.Steps.{step_set}
use Rattle.lot_base.specs.declared.auction_terms.Terms.{Terms}
use Rattle.lot_base.specs.declared.phases.Phase.{Phase}
use Rattle.demand_set.specs.declared.reports.Report.{Report}
use Rattle.clock.specs.Reports.{ClockHistory, members, demand_in, demands_in, is_full}
use Rattle.clock.specs.Standing.{prices_after, step_set_after, is_full_after, good_at_ceiling, steps_from, steps_of, leads_on, leads_on_by, good_from, phase_by, phase_after, phase_of}
use Rattle.clock.specs.Judging.{judgement_of, repeat_of, late_by}
use Rattle.clock.specs.declared.judging.Judgement.{Judgement}
use Rattle.clock.specs.declared.judging.Judgement.TheVariants.{NotMember, NoRound}
use Rattle.migration.specs.Moving.{AreAlike, JudgesAlike}

module _ (c : ClockHistory) (terms : Terms) (alike : AreAlike c.terms terms) where
  abbrev other : ClockHistory
  other = record c { terms = terms }

  same-sets : (n : ℕ) → step_set_after other n ≡ step_set_after c n
  same-sets n = λ i. step_set (alike.goods i) (demands_in c.reports (n + 1)) (members (alike.bidders i) c.number)

  same-full : (n : ℕ) → is_full_after other n ≡ is_full_after c n
  same-full n = λ i. is_full (members (alike.bidders i) c.number) c.reports (n + 1)

  same-prices : (n : ℕ) → prices_after other n ≡ prices_after c n
  unfolding prices_after
  same-prices zero = alike.opening
  same-prices (suc n) = λ i. raised (same-prices n i) (same-sets n i)

  same-good : (n : ℕ) → good_at_ceiling other n ≡ good_at_ceiling c n
  same-good n = λ i. good_from 0 (alike.ceiling i) (same-prices n i) (same-sets n i)

  same-leads : (n : ℕ) → leads_on other n ≡ leads_on c n
  same-leads n = λ i. leads_on_by (same-full n i) (same-sets n i) (same-good n i)

  steps-alike : (limit n : ℕ) → steps_from limit other n ≡ steps_from limit c n
  unfolding steps_from
  steps-alike zero n = refl
  steps-alike (suc limit) n = λ i. elim (same-leads n i) [ true ↦ steps-alike limit (suc n) i | false ↦ n ]

  same-steps : steps_of other ≡ steps_of c
  unfolding steps_of
  same-steps = ap (λ (limit : ℕ). steps_from limit other 0) (λ i. length (alike.goods i) * alike.ceiling i) ∙ steps-alike (length c.terms.goods * c.terms.ceiling) 0

  same-phase : phase_of other ≡ phase_of c
  same-phase =
      let n = steps_of c in
      ap (λ (k : ℕ). phase_after other k) same-steps ∙ (λ i. phase_by (same-full n i) (same-sets n i == 0) (same-good n i))

  same-judgement : (r : Report) → judgement_of other r ≡ judgement_of c r
  same-judgement r =
      let judge : Bool → ℕ → Phase → Judgement = λ member last phase.
      if member
      then (if r.round == 0 then NoRound
      else if nat_le r.round last then repeat_of r.round r.demand (demand_in c.reports r.round r.bidder)
      else late_by phase last)
      else NotMember
      in
      λ i. judge (nat_le 1 r.bidder && (nat_le r.bidder (alike.bidders i) && not (r.bidder == c.number))) (same-steps i + 1) (same-phase i)

pub judges-alike : (c : ClockHistory) (terms : Terms) → JudgesAlike c terms
judges-alike c terms alike r = same-judgement c terms alike r
