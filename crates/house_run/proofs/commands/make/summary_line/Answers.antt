use Rattle.std.proofs.Common.{◌≡◌, subst}
use Rattle.std.specs.Prelude.{ℤ, string_bytes}
use Rattle.std.proofs.lemmas.Int.{to_z-of_z}
use Rattle.house_run.specs.MakeCommand.{summary_line}
use Rattle.house_run.proofs.Summing.{made-line}
use Rattle.house_run.proofs.commands.make.summary_line.Goals as goal

pub returns : goal.returns
returns c =
    let R : ℤ → Type 0 = λ z. string_bytes c.in_ok-line.line ≡ summary_line c.args.number c.args.steps z c.args.digest.now in
    subst R (to_z-of_z _ c.args.revenue c.ranges.revenue) (made-line c.args.number c.args.steps _ c.args.digest.now (string_bytes c.in_ok-line.line) c.in_ok-line.ensures.ok)
