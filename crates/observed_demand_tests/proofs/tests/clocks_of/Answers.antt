use Rattle.std.proofs.Common.{◌≡◌, List, [], ◌∷◌, ◌++◌, sym, subst}
use Rattle.std.specs.List.{AllByRecursion}
use Rattle.lot_base.specs.declared.auction_terms.Terms.{Terms}
use Rattle.clock.specs.Reports.{ClockHistory, ClockOf, histories}
use Rattle.observed_demand_tests.proofs.tests.clocks_of.Goals as goal

-- one clock more of the same terms
all-more : (terms : Terms) (clocks : List ClockOf) (clock : ClockOf) → AllByRecursion (λ (c : ClockHistory). c.terms ≡ terms) (histories clocks)
    → clock.history.terms ≡ terms → AllByRecursion (λ (c : ClockHistory). c.terms ≡ terms) (histories (clocks ++ clock ∷ []))
all-more terms [] clock all same = (same, tt)
all-more terms (first ∷ clocks) clock all same = (all.0, all-more terms clocks clock all.1 same)

pub loop-number-preserved : goal.loop-number-preserved
loop-number-preserved c =
    subst (λ (clocks : List ClockOf). AllByRecursion (λ (h : ClockHistory). h.terms ≡ c.args.terms.now) (histories clocks)) (sym c.in_ok-push.ensures.items)
    (all-more c.args.terms.now c.loop-number.clocks.items c.in_ok-clock_of.field-0 c.loop-number.invariant c.in_ok-clock_of.ensures)
