use Rattle.std.proofs.Common.{◌≡◌, ◌+◌, ◌∙◌, ℕ, ap, sym, arith, rules, get_or}
use Rattle.std.specs.Prelude.{pos}
use Rattle.std.proofs.lemmas.Result.{err_from_is_err_and}
use Rattle.valuation.specs.Tree.{ranged}
use Rattle.valuation.specs.declared.faults.ValuesFault.TheVariants.{Value}
use Rattle.toml_tree.proofs.Turns.{each-turn, each-refused}
use Rattle.std.proofs.lemmas.List.{get_or_default}
use Rattle.valuation.proofs.numbers.entries.Goals as goal

pub returns-in_err-entry-clause-entries : goal.returns-in_err-entry-clause-entries
returns-in_err-entry-clause-entries c =
    let k = c.loop-place.place in
    let numbers = c.args.numbers.now in
    let x = get_or numbers k (pos 0) in
    let f = λ (place : ℕ). ranged c.args.limit (Value c.args.bidder place) in
    let e : 0 + k ≡ k = omega arith in
    let exit = err_from_is_err_and c.from_residual-in_err-entry.result c.from_residual-in_err-entry.ensures.1 in
    rw (exit.1, exit.2)
    (λ room. each-refused f 0 numbers k x c.loop-place.entries.items c.in_err-entry.field-0.0 c.loop-place-test.true (get_or_default numbers k (pos 0) x c.loop-place-test.true)
    (ap (λ n. f n x) e ∙ sym c.in_err-entry.ensures) c.loop-place.invariant.so_far)

pub loop-place-preserved : goal.loop-place-preserved
loop-place-preserved c =
    let k = c.loop-place.place in
    let numbers = c.args.numbers.now in
    let x = get_or numbers k (pos 0) in
    let f = λ (place : ℕ). ranged c.args.limit (Value c.args.bidder place) in
    let e : 0 + k ≡ k = omega arith in
    record {
      so_far = rw c.in_ok-push.ensures.items
          (each-turn f 0 numbers k x c.loop-place.entries.items c.in_ok-entry.entry c.loop-place-test.true (get_or_default numbers k (pos 0) x c.loop-place-test.true)
          (ap (λ n. f n x) e ∙ sym c.in_ok-entry.ensures) c.loop-place.invariant.so_far);
      count = search rules;
    }
