use Rattle.std.specs.Int.{w128}
use Rattle.std.proofs.Common.{SFits, rules, ◌≡◌, ◌∙◌, ap, List, ℕ, subst}
use Rattle.std.specs.Prelude.{IfOk, string_bytes}
use Rattle.std.proofs.lemmas.Int.{to_z-of_z}
use Rattle.house_run.specs.MakeCommand.{revenue_of, steps_in, summary_line}
use Rattle.house_run.proofs.commands.make.line_of.Goals as goal

pub returns : goal.returns
returns c =
    let s = c.steps_in-steps.ensures ∙ ap steps_in c.as_slice.ensures in
    let r = c.revenue_of-revenue.ensures ∙ ap revenue_of c.as_slice-2.ensures in
    let fits : SFits w128 c.revenue_of-revenue.result = search rules in
    let z = to_z-of_z w128 c.revenue_of-revenue.result fits in
    let d = c.as_str.ensures.value ∙ c.in_ok-digest.ensures in
    let P : List ℕ → Type 0 = λ t. IfOk c.summary_line.result (λ line. string_bytes line ≡ t) in
    subst P (λ i. summary_line c.args.number (s i) ((z ∙ r) i) (d i)) c.summary_line.ensures
