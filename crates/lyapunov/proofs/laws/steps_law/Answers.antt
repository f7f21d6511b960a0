use Rattle.std.proofs.Common.{◌∙◌}
use Rattle.std.proofs.lemmas.List.{length-replicate}
use Rattle.lot_base.specs.Goods.{zeros}
use Rattle.lyapunov.specs.Paths.{prices_along}
use Rattle.lyapunov.proofs.Digits.{length-prices}
use Rattle.lyapunov.proofs.Moments.{as_many, fastest, highest-zeros}
use Rattle.lyapunov.proofs.laws.steps_law.Goals as goal

pub returns-clause-rise : goal.returns-clause-rise
returns-clause-rise c = λ supply js opening sets u path. as_many supply u js path.substitutes opening sets path.goods path.steps

pub returns-clause-price : goal.returns-clause-price
returns-clause-price c = λ supply js sets u path.
    as_many supply u js path.substitutes (zeros supply) sets path.goods path.steps
    ∙ highest-zeros supply (prices_along (zeros supply) sets) (length-prices (zeros supply) sets ∙ length-replicate _ _)

pub returns-clause-fastest : goal.returns-clause-fastest
returns-clause-fastest c = λ supply js opening sets others u path below. fastest supply u js path.substitutes opening sets others path.goods path.steps below
