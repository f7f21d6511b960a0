use Rattle.std.proofs.Common.{◌≡◌, ◌∙◌, sym, subst, List}
use Rattle.std.specs.List.{AllByRecursion}
use Rattle.house_io.specs.LinkForms.{ListedLink}
use Rattle.house_io.proofs.Renewed.{unfailed-all}
use Rattle.house_io.proofs.memory.list_net.ListDoor.new.Goals as goal

pub invariant_of-result : goal.invariant_of-result
invariant_of-result c =
    let P : List ListedLink → Type 0 = λ links. AllByRecursion (λ (link : ListedLink). link.faults ≡ 0) links in
    subst P (sym (c.from.ensures.0 ∙ c.in_ok-links.ensures)) (unfailed-all c.args.links.items)
