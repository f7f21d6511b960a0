-- A command of `clap` as the words of its making say.
use Rattle.std.proofs.Common.{◌≡◌, ◌<◌, ◌+◌, ◌++◌, ℕ, true, false, List, [], ◌∷◌, length, get_or, map, take, sym, ap, ap₂, ◌∙◌}
use Rattle.std.specs.Borrow.{Bor}
use Rattle.std.proofs.lemmas.List.{map-append, take_more}
use Rattle.clap.specs.Walk.{Rule, Text, rule_of}
use Rattle.clap.specs.Simple.{App, app_of, app_of_fields, new_app, with_rule}
use Rattle.clap.specs.Built.{AddsArg}
use Rattle.clap.specs.declared.builder.arg.Arg.{Arg}
use Rattle.clap.specs.declared.builder.command.Command.{Command}
use Rattle.clap.specs.declared.builder.command.Command.TheViews.{out-Command}
use Rattle.command_line.specs.Positionals.{positional, positional_app}

-- the settings of a command before its arguments
pub made : (c0 c1 c2 c3 : Command) (name : Text) → app_of c0 ≡ new_app name → out-Command c1 ≡ record (out-Command c0) { no_binary_name = true }
    → out-Command c2 ≡ record (out-Command c1) { disable_help_flag = true } → out-Command c3 ≡ record (out-Command c2) { disable_version_flag = true } → app_of c3 ≡ positional_app name []
made c0 c1 c2 c3 name e first second third =
    ap app_of_fields third
    ∙ ap (λ f. app_of_fields (record f { disable_version_flag = true })) second
    ∙ ap (λ f. app_of_fields (record f { disable_help_flag = true; disable_version_flag = true })) first
    ∙ ap (λ (a : App). record a { top = record a.top { no_binary_name = true; disable_help_flag = true; disable_version_flag = true } }) e

-- one argument more
pub grown : (old new : Command) (a : Arg) (name id : Text) (ids : List Text) → app_of old ≡ positional_app name ids → AddsArg old a new → rule_of a ≡ positional id → a.global ≡ false
    → app_of new ≡ positional_app name (ids ++ id ∷ [])
grown old new a name id ids e added rule local =
    let whole = positional_app name ids in
    added.shape local ∙ ap₂ with_rule e rule
    ∙ ap (λ (rs : List Rule). record whole { top = record whole.top { rules = rs } }) (sym (map-append positional ids (id ∷ [])))

-- the texts of one reference more
pub one_more : (xs : List (Bor Text)) (k : ℕ) (d : Bor Text) → k < length xs → map (λ id. id.now) (take (k + 1) xs) ≡ map (λ id. id.now) (take k xs) ++ (get_or xs k d).now ∷ []
one_more xs k d inside =
    ap (map (λ (id : Bor Text). id.now)) (take_more xs k d inside)
    ∙ map-append (λ (id : Bor Text). id.now) (take k xs) (get_or xs k d ∷ [])
