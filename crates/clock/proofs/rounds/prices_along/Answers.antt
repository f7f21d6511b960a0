use Rattle.std.proofs.Common.{◌∙◌, ℕ, List, sym, ap, subst, get_or, take}
use Rattle.std.proofs.lemmas.List.{take_all}
use Rattle.lot_base.specs.Goods.{AllBelow, raised}
use Rattle.lyapunov.specs.Paths.{prices_along}
use Rattle.clock.specs.Reports.{set_numbers}
use Rattle.clock.proofs.Looking.{numbers-get, along-next}
use Rattle.clock.proofs.rounds.prices_along.Goals as goal

pub raise-prices-requires : goal.raise-prices-requires
raise-prices-requires c =
    let P : List ℕ → Type 0 = λ ps. AllBelow 4294967295 ps (get_or c.args.sets.now c.loop-set.set-index (record { 0 = 0 })).0 in
    let Q : ℕ → Type 0 = λ s. AllBelow 4294967295 (prices_along c.args.opening.now (set_numbers (take c.loop-set.set-index c.args.sets.now))) s in
    subst P (sym c.loop-set.invariant) (subst Q (numbers-get c.args.sets.now c.loop-set.set-index) (c.requires c.loop-set.set-index c.loop-set-test.true))

pub loop-set-preserved : goal.loop-set-preserved
loop-set-preserved c = c.raise-prices.ensures ∙ ap (λ ps. raised ps (get_or c.args.sets.now c.loop-set.set-index (record { 0 = 0 })).0) c.loop-set.invariant ∙ along-next c.args.opening.now c.args.sets.now c.loop-set.set-index c.loop-set-test.true

pub returns : goal.returns
returns c = c.loop-set.invariant ∙ ap (λ sets. prices_along c.args.opening.now (set_numbers sets)) (take_all c.loop-set.set-index c.args.sets.now c.loop-set-test.false)
