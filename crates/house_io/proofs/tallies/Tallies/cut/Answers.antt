use Rattle.std.proofs.Common.{◌∙◌, ap, sym, take, string_bytes}
use Rattle.std.proofs.lemmas.List.{take-map}
use Rattle.house_io.specs.Tallies.{counts_in}
use Rattle.house_io.specs.declared.tallies.Tally.{Tally}
use Rattle.house_io.proofs.tallies.Tallies.cut.Goals as goal

pub returns : goal.returns
returns c =
    ap counts_in c.truncate.ensures.items
    ∙ sym (take-map (λ (tally : Tally). record { name = string_bytes tally.name; faults = tally.faults }) c.args.length c.self.inside.list.items)
    ∙ ap (take c.args.length) c.self.view_is
