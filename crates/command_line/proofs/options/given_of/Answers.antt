use Rattle.std.proofs.Common.{◌+◌, [], List, ℕ, get_or, refl, sym, subst, take, arith}
use Rattle.std.specs.Borrow.{Bor}
use Rattle.command_line.specs.Arguments.{own}
use Rattle.command_line.specs.Givens.{IsGiven}
use Rattle.command_line.specs.Positionals.{texts}
use Rattle.command_line.specs.declared.options.Given.{Given}
use Rattle.command_line.proofs.OptionWords.{not-stripped, own-kept, own-passed, stripped}
use Rattle.command_line.proofs.options.given_of.Goals as goal
use Rattle.command_line.proofs.options.given_of.Goals.{in-Some, in_default}

pub loop-option-preserved : goal.loop-option-preserved
loop-option-preserved c =
    let d : Bor (List ℕ) = record { ref_ptr = (0, 0); now = [] } in
    let front : List ℕ = c.args.front.now in
    let place : ℕ = c.loop-option.option-index in
    let word : List ℕ = (get_or c.args.options.now place d).now in
    let words : List (List ℕ) = own front (texts (take (place + 1) c.args.options.now)) in
    let P : Given → Type 0 = λ g. IsGiven g front words in
    elim c.match-strip_prefix.branch [
      | in-Some w ↦
          let more = own-kept front word w.in-Some.value.now c.args.options.now place d (omega arith) refl (stripped front word w.in-Some.value w.in-Some.ensures.cases) in
          subst P (sym w.given-is) (w.once_more-given.ensures front (own front (texts (take place c.args.options.now))) words c.loop-option.invariant more)
      | in_default w ↦
          let Q : List (List ℕ) → Type 0 = λ ws. IsGiven c.loop-option.given front ws in
          let same = own-passed front word c.args.options.now place d (omega arith) refl (not-stripped front word w.in_default.ensures.cases) in
          subst P (sym w.given-is) (subst Q (sym same) c.loop-option.invariant)
    ]
