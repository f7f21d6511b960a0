-- Worked examples: what becomes of reports, and where they lead. The numbers are worked by hand from the rules of the clock;
-- no clause cites these rows. A report is written `report bidder round demand`.
use Rattle.std.specs.Prelude.{◌≡◌, ℕ, List, [], ◌∷◌, ◌++◌, refl, pos, negsuc}
use Rattle.std.proofs.Common.{lit≤}
use Rattle.lot_base.specs.Goods.{zeros}
use Rattle.lot_base.specs.Steps.{step_set}
use Rattle.lot_base.specs.RowsTables.{one, two}
use Rattle.lot_base.specs.declared.auction_terms.Terms.{Terms}
use Rattle.lot_base.specs.declared.phases.Phase.{Phase}
use Rattle.lot_base.specs.declared.phases.Phase.TheVariants.{Running, Ended, Halted}
use Rattle.demand_set.specs.declared.reports.Report.{Report}
use Rattle.clock.specs.declared.judging.Judgement.TheVariants.{Take, Again, NotMember, Early, Conflict, Over, NoRound}
use Rattle.clock.specs.Reports.{ClockHistory}
use Rattle.clock.specs.Standing.{prices_after, steps_from, steps_of, phase_of, prices_of, last_round, missing_of}
use Rattle.clock.specs.Judging.{judgement_of}
use Rattle.clock.specs.Accounts.{account_after, account_without}

abbrev report : ℕ → ℕ → List (List ℕ) → Report
report bidder round demand = record { bidder = bidder; round = round; demand = demand }

abbrev clock_of : Terms → ℕ → List Report → ClockHistory
clock_of terms number reports = record { terms = terms; number = number; reports = reports }

-- the demand of exactly so many units of one good, and of one bundle of two goods
abbrev units : ℕ → List (List ℕ)
units q = one q ∷ []

abbrev pair : ℕ → ℕ → List (List ℕ)
pair a b = two a b ∷ []

-- the clock is in this round and stands so, at these prices, and this member is missing
abbrev Stands : ClockHistory → ℕ → Phase → List ℕ → ℕ → Type 0
Stands c round phase prices missing = (last_round c ≡ round) × (phase_of c ≡ phase) × (prices_of c ≡ prices) × (missing_of c ≡ missing)

-- One good in two units, two bidders, a ceiling of 10.
abbrev market : Terms
market = record {
  goods = one 2;
  bidders = 2;
  ceiling = 10;
  version = 1;
  opening = one 0;
  supply = record { some_good = lit≤ tt; few_goods = lit≤ tt; units = refl; small = lit≤ tt };
  bidders_in_range = record { at_least = lit≤ tt; at_most = lit≤ tt };
  ceiling_in_range = record { at_least = lit≤ tt; at_most = lit≤ tt };
  version_in_range = record { at_least = lit≤ tt; at_most = lit≤ tt };
  opens = record { goods = refl; below = refl };
  first_opens_at_zero = λ _. refl;
}

no_reports : Stands (clock_of market 0 []) 1 Running (one 0) 1
unfolding prices_after steps_from steps_of step_set
no_reports = (refl, refl, refl, refl)

-- a bidder number that is no bidder's is no member's, in any round; the clock without bidder 2 has bidder 1 alone
nobody :
    (judgement_of (clock_of market 0 []) (report 1 1 (units 2)) ≡ Take) × (judgement_of (clock_of market 0 []) (report 1 0 (units 2)) ≡ NoRound)
    × (judgement_of (clock_of market 0 []) (report 0 0 (units 2)) ≡ NotMember) × (judgement_of (clock_of market 0 []) (report 3 0 (units 2)) ≡ NotMember)
    × (judgement_of (clock_of market 0 []) (report 1 2 (units 2)) ≡ Early 1) × (judgement_of (clock_of market 2 []) (report 2 1 (units 2)) ≡ NotMember)
    × (judgement_of (clock_of market 2 []) (report 1 1 (units 2)) ≡ Take)
unfolding prices_after steps_from steps_of step_set
nobody = (refl, refl, refl, refl, refl, refl, refl)

-- both bidders want two units, then one each
abbrev first_reports : List Report
first_reports = report 1 1 (units 2) ∷ []

abbrev first_round : List Report
first_round = report 1 1 (units 2) ∷ report 2 1 (units 2) ∷ []

abbrev both_rounds : List Report
both_rounds = report 1 1 (units 2) ∷ report 2 1 (units 2) ∷ report 1 2 (units 1) ∷ report 2 2 (units 1) ∷ []

one_report :
    Stands (clock_of market 0 first_reports) 1 Running (one 0) 2
    × (judgement_of (clock_of market 0 first_reports) (report 1 1 (units 2)) ≡ Again)
    × (judgement_of (clock_of market 0 first_reports) (report 1 1 (units 1)) ≡ Conflict 1)
    × (judgement_of (clock_of market 0 first_reports) (report 1 2 (units 1)) ≡ Early 1)
    × (judgement_of (clock_of market 0 first_reports) (report 2 1 (units 1)) ≡ Take)
unfolding prices_after steps_from steps_of step_set
one_report = ((refl, refl, refl, refl), refl, refl, refl, refl)

second_round :
    Stands (clock_of market 0 first_round) 2 Running (one 1) 1
    × (judgement_of (clock_of market 0 first_round) (report 1 1 (units 2)) ≡ Again)
    × (judgement_of (clock_of market 0 first_round) (report 1 1 (units 1)) ≡ Conflict 1)
    × (judgement_of (clock_of market 0 first_round) (report 1 3 (units 1)) ≡ Early 2)
    × (judgement_of (clock_of market 0 first_round) (report 1 0 (units 1)) ≡ NoRound)
    × (judgement_of (clock_of market 0 first_round) (report 1 2 (units 1)) ≡ Take)
unfolding prices_after steps_from steps_of step_set
second_round = ((refl, refl, refl, refl), refl, refl, refl, refl, refl)

ended :
    Stands (clock_of market 0 both_rounds) 2 Ended (one 1) 0
    × (judgement_of (clock_of market 0 both_rounds) (report 1 3 (units 1)) ≡ Over 2)
    × (judgement_of (clock_of market 0 both_rounds) (report 1 2 (units 0)) ≡ Conflict 2)
    × (judgement_of (clock_of market 0 both_rounds) (report 1 1 (units 2)) ≡ Again)
    × (judgement_of (clock_of market 0 both_rounds) (report 3 3 (units 1)) ≡ NotMember)
unfolding prices_after steps_from steps_of step_set
ended = ((refl, refl, refl, refl), refl, refl, refl, refl)

-- the one step has two units and four are wanted, two by each
accounts :
    (account_without (clock_of market 0 both_rounds) 0 ≡ negsuc 1) × (account_without (clock_of market 0 both_rounds) 1 ≡ pos 0)
    × (account_without (clock_of market 0 both_rounds) 2 ≡ pos 0) × (account_without (clock_of market 0 both_rounds) 3 ≡ negsuc 1)
    × (account_without (clock_of market 0 first_reports) 0 ≡ pos 0)
unfolding prices_after steps_from steps_of step_set account_after
accounts = (refl, refl, refl, refl, refl)

-- reports are read by their names: their order does not matter, and of two of one name the first counts
by_names :
    Stands (clock_of market 0 (report 2 2 (units 1) ∷ report 2 1 (units 2) ∷ report 1 2 (units 1) ∷ report 1 1 (units 2) ∷ [])) 2 Ended (one 1) 0
    × Stands (clock_of market 0 (first_round ++ report 1 1 (units 0) ∷ [])) 2 Running (one 1) 1
    × Stands (clock_of market 0 (report 3 1 (units 2) ∷ report 1 0 (units 2) ∷ report 1 5 (units 2) ∷ [])) 1 Running (one 0) 1
unfolding prices_after steps_from steps_of step_set
by_names = ((refl, refl, refl, refl), (refl, refl, refl, refl), (refl, refl, refl, refl))

-- One bidder: the clock without it has no member, and its first round is full.
abbrev lone : Terms
lone = record {
  goods = one 2;
  bidders = 1;
  ceiling = 10;
  version = 1;
  opening = one 0;
  supply = record { some_good = lit≤ tt; few_goods = lit≤ tt; units = refl; small = lit≤ tt };
  bidders_in_range = record { at_least = lit≤ tt; at_most = lit≤ tt };
  ceiling_in_range = record { at_least = lit≤ tt; at_most = lit≤ tt };
  version_in_range = record { at_least = lit≤ tt; at_most = lit≤ tt };
  opens = record { goods = refl; below = refl };
  first_opens_at_zero = λ _. refl;
}

no_member :
    Stands (clock_of lone 1 []) 1 Ended (one 0) 0 × (judgement_of (clock_of lone 1 []) (report 1 1 (units 2)) ≡ NotMember)
    × (account_without (clock_of lone 1 []) 0 ≡ pos 0) × Stands (clock_of lone 0 []) 1 Running (one 0) 1
    × Stands (clock_of lone 0 first_reports) 1 Ended (one 0) 0
unfolding prices_after steps_from steps_of step_set account_after
no_member = ((refl, refl, refl, refl), refl, refl, (refl, refl, refl, refl), (refl, refl, refl, refl))

-- Two goods of one unit, and a ceiling of 2.
abbrev low : Terms
low = record {
  goods = two 1 1;
  bidders = 2;
  ceiling = 2;
  version = 1;
  opening = two 0 0;
  supply = record { some_good = lit≤ tt; few_goods = lit≤ tt; units = refl; small = lit≤ tt };
  bidders_in_range = record { at_least = lit≤ tt; at_most = lit≤ tt };
  ceiling_in_range = record { at_least = lit≤ tt; at_most = lit≤ tt };
  version_in_range = record { at_least = lit≤ tt; at_most = lit≤ tt };
  opens = record { goods = refl; below = refl };
  first_opens_at_zero = λ _. refl;
}

abbrev both_want : ℕ → List (List ℕ) → List Report
both_want round demand = report 1 round demand ∷ report 2 round demand ∷ []

-- both goods are at the ceiling and wanted twice: it halts at the first. A good at the ceiling that is not wanted twice halts nothing.
at_the_ceiling :
    Stands (clock_of low 0 (both_want 1 (pair 1 1) ++ both_want 2 (pair 1 1))) 3 Running (two 2 2) 1
    × Stands (clock_of low 0 (both_want 1 (pair 1 1) ++ both_want 2 (pair 1 1) ++ both_want 3 (pair 1 1))) 3 (Halted 0) (two 2 2) 0
    × (judgement_of (clock_of low 0 (both_want 1 (pair 1 1) ++ both_want 2 (pair 1 1) ++ both_want 3 (pair 1 1))) (report 1 4 (pair 1 1)) ≡ Over 3)
    × Stands (clock_of low 0 (both_want 1 (pair 0 1) ++ both_want 2 (pair 0 1) ++ both_want 3 (pair 1 1))) 3 (Halted 1) (two 0 2) 0
    × Stands (clock_of low 0 (both_want 1 (pair 0 1) ++ both_want 2 (pair 0 1) ++ both_want 3 (pair 1 0))) 4 Running (two 1 2) 1
    × Stands (clock_of low 0 (both_want 1 (pair 1 1) ++ both_want 2 (pair 1 1) ++ both_want 3 (pair 0 0))) 3 Ended (two 2 2) 0
unfolding prices_after steps_from steps_of step_set
at_the_ceiling = ((refl, refl, refl, refl), (refl, refl, refl, refl), refl, (refl, refl, refl, refl), (refl, refl, refl, refl), (refl, refl, refl, refl))

not-first : (version : ℕ) → version ≡ 2 → version ≡ 1 → one 8 ≡ zeros (one 1)
not-first version second first = cc

-- One unit, two bidders, a ceiling of 10, and a reserve of 8.
abbrev reserved : Terms
reserved = record {
  goods = one 1;
  bidders = 2;
  ceiling = 10;
  version = 2;
  opening = one 8;
  supply = record { some_good = lit≤ tt; few_goods = lit≤ tt; units = refl; small = lit≤ tt };
  bidders_in_range = record { at_least = lit≤ tt; at_most = lit≤ tt };
  ceiling_in_range = record { at_least = lit≤ tt; at_most = lit≤ tt };
  version_in_range = record { at_least = lit≤ tt; at_most = lit≤ tt };
  opens = record { goods = refl; below = refl };
  first_opens_at_zero = not-first 2 refl;
}

-- It opens at the reserve. While both want the unit it rises, to the ceiling in two steps; where one does, it ends where it opened.
from_the_reserve :
    Stands (clock_of reserved 0 []) 1 Running (one 8) 1
    × Stands (clock_of reserved 0 (both_want 1 (units 1))) 2 Running (one 9) 1
    × Stands (clock_of reserved 0 (both_want 1 (units 1) ++ both_want 2 (units 1) ++ both_want 3 (units 1))) 3 (Halted 0) (one 10) 0
    × Stands (clock_of reserved 1 (report 2 1 (units 1) ∷ [])) 1 Ended (one 8) 0
    × Stands (clock_of reserved 0 (report 1 1 (units 0) ∷ report 2 1 (units 0) ∷ [])) 1 Ended (one 8) 0
    × (account_without (clock_of reserved 0 (both_want 1 (units 1))) 0 ≡ negsuc 0)
unfolding prices_after steps_from steps_of step_set account_after
from_the_reserve = ((refl, refl, refl, refl), (refl, refl, refl, refl), (refl, refl, refl, refl), (refl, refl, refl, refl), (refl, refl, refl, refl), refl)
