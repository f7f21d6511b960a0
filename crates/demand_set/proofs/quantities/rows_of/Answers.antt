use Rattle.std.proofs.Common.{◌≤◌, ◌<◌, ◌^◌, ℕ, zero, suc, arith, lit≤}
use Rattle.demand_set.proofs.quantities.rows_of.Goals as goal

few : (goods : ℕ) → goods < 4 → 2 ^ goods ≤ 8
few zero below = lit≤ tt
few (suc zero) below = lit≤ tt
few (suc (suc zero)) below = lit≤ tt
few (suc (suc (suc zero))) below = lit≤ tt
few (suc (suc (suc (suc n)))) below = absurd (omega arith)

pub returns-in-0-to-3-clause-all : goal.returns-in-0-to-3-clause-all
returns-in-0-to-3-clause-all c = few c.args.goods (omega arith)
