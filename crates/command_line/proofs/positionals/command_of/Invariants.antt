use Rattle.std.proofs.Common.{◌≡◌, map, take}
use Rattle.clap.specs.Words.{app_of}
use Rattle.command_line.specs.Positionals.{positional_app}
use Rattle.command_line.proofs.positionals.command_of.Given as goal

abbrev pub invariant-loop-id : goal.invariant-loop-id
invariant-loop-id l = app_of l.command ≡ positional_app l.name (map (λ id. id.now) (take l.id-index l.ids))
