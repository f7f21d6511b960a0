use Rattle.std.proofs.Common.{◌≡◌, ◌+◌, ◌∙◌, ℕ, List, Result, ap, arith}
use Rattle.std.proofs.lemmas.Result.{err_from_is_err_and}
use Rattle.toml.specs.View.{view}
use Rattle.toml.specs.declared.value.Value.{Value}
use Rattle.valuation.specs.declared.faults.ValuesFault.{ValuesFault}
use Rattle.valuation.specs.ValuesFile.{valuation_at}
use Rattle.toml_tree.proofs.Turns.{each-turn, each-refused}
use Rattle.valuation.proofs.reader.each_bidder.Goals as goal

pub returns-in_err-valuation : goal.returns-in_err-valuation
returns-in_err-valuation c =
    let k = c.loop-place.place in
    let x = c.index-elements-place.result in
    let f : ℕ → Value → Result (List ℕ) ValuesFault = λ bidder v. valuation_at c.args.ceiling bidder c.args.goods.now (view v) in
    let e : 1 + k ≡ k + 1 = omega arith in
    let exit = err_from_is_err_and c.from_residual.result c.from_residual.ensures.1 in
    rw (exit.1, exit.2)
    (λ room. each-refused f 1 c.args.elements.now k x c.loop-place.valuations.items c.in_err-valuation.field-0.0 c.loop-place-test.true c.index-elements-place.is
    (ap (λ n. f n x) e ∙ c.in_err-valuation.ensures room) c.loop-place.invariant)

pub loop-place-preserved : goal.loop-place-preserved
loop-place-preserved c =
    let k = c.loop-place.place in
    let x = c.index-elements-place.result in
    let f : ℕ → Value → Result (List ℕ) ValuesFault = λ bidder v. valuation_at c.args.ceiling bidder c.args.goods.now (view v) in
    let e : 1 + k ≡ k + 1 = omega arith in
    rw c.in_ok-push.ensures.items
    (each-turn f 1 c.args.elements.now k x c.loop-place.valuations.items c.in_ok-valuation.valuation c.loop-place-test.true c.index-elements-place.is (ap (λ n. f n x) e ∙ c.in_ok-valuation.ensures) c.loop-place.invariant)
