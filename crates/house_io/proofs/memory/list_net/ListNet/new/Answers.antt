use Rattle.std.proofs.Common.{◌≡◌, ◌∙◌, sym, subst, List}
use Rattle.std.specs.List.{AllByRecursion}
use Rattle.house_io.specs.LinkForms.{ListedLink, ListedDoor, IsReady}
use Rattle.house_io.proofs.Renewed.{ready-all, unfailed-all}
use Rattle.house_io.proofs.memory.list_net.ListNet.new.Goals as goal

pub invariant_of-result : goal.invariant_of-result
invariant_of-result c =
    let D : List ListedDoor → Type 0 = λ doors. AllByRecursion IsReady doors in
    let L : List ListedLink → Type 0 = λ links. AllByRecursion (λ (link : ListedLink). link.faults ≡ 0) links in (
      subst D (sym (c.from.ensures.0 ∙ c.in_ok-doors.ensures)) (ready-all c.args.doors.items),
      subst L (sym (c.from-2.ensures.0 ∙ c.in_ok-links.ensures)) (unfailed-all c.args.links.items),
    )
