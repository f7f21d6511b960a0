use Rattle.std.proofs.Common.{◌∙◌, ap, sym, ℕ, List, map, arith}
use Rattle.std.specs.Borrow.{Bor}
use Rattle.std.proofs.lemmas.List.{take_all}
use Rattle.command_line.specs.Positionals.{positional_app}
use Rattle.command_line.proofs.Making.{made, grown, one_more}
use Rattle.command_line.proofs.positionals.command_of.Goals as goal

pub loop-id-init : goal.loop-id-init
loop-id-init c = made _ c.no_binary_name.result c.disable_help_flag.result _ _ c.new.ensures.app c.no_binary_name.ensures c.disable_help_flag.ensures c.disable_version_flag-command.ensures

pub loop-id-preserved : goal.loop-id-preserved
loop-id-preserved c =
    let more = grown c.loop-id.command c.in_ok-command.command c.required_word.result c.args.name.now _ _ c.loop-id.invariant c.in_ok-command.ensures c.required_word.ensures.rule c.required_word.ensures.local in
    more ∙ ap (positional_app c.args.name.now) (sym (one_more c.args.ids.now c.loop-id.id-index _ c.loop-id-test.true))

pub returns : goal.returns
returns c = c.loop-id.invariant ∙ ap (λ (ids : List (Bor (List ℕ))). positional_app c.args.name.now (map (λ id. id.now) ids)) (take_all c.loop-id.id-index c.args.ids.now (omega arith))
