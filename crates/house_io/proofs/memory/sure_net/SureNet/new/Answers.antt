use Rattle.std.proofs.Common.{◌∙◌, sym, subst, List, Some}
use Rattle.std.specs.List.{AllByRecursion}
use Rattle.house_io.specs.Doors.{DoorLinks, HasPlaces}
use Rattle.house_io.specs.LinkForms.{SuredLink}
use Rattle.house_io.proofs.Renewed.{placed-all}
use Rattle.house_io.proofs.memory.sure_net.SureNet.new.Goals as goal

pub invariant_of-result : goal.invariant_of-result
invariant_of-result c =
    let P : List (DoorLinks SuredLink) → Type 0 = λ doors. AllByRecursion (λ (door : DoorLinks SuredLink). HasPlaces (Some door)) doors in
    subst P (sym (c.from.ensures.0 ∙ c.in_ok-doors.ensures)) (placed-all c.args.doors.items)
