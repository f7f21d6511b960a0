use Rattle.std.proofs.Common.{◌≡◌, rules, IsTrue, subst}
use Rattle.house_io.specs.ListForms.{IsToFail}
use Rattle.house_io.specs.ListShelves.{ListedShelf}
use Rattle.house_io.proofs.memory.list_shelf.ListShelfShelf.disk.Goals as goal

-- a planned failure
pub returns-then-is_failing-clause-answer : goal.returns-then-is_failing-clause-answer
returns-then-is_failing-clause-answer c =
    let had : IsTrue c.is_failing.result = search rules in
    let P : ListedShelf → Type 0 = λ shelf. IsToFail shelf.plan in
    record { planned = subst P c.self.view_is (c.is_failing.ensures.0 had); counts = search rules; call = search rules }
