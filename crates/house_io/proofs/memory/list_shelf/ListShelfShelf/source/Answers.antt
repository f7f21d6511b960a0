use Rattle.std.proofs.Common.{◌≡◌, rules, inl, IsTrue, subst}
use Rattle.house_io.specs.ListForms.{IsToFail}
use Rattle.house_io.specs.ListShelves.{ListedShelf}
use Rattle.house_io.proofs.memory.list_shelf.ListShelfShelf.source.Goals as goal

-- a planned failure
pub returns-then-next_fails-clause-answer : goal.returns-then-next_fails-clause-answer
returns-then-next_fails-clause-answer c =
    let had : IsTrue c.next_fails.result = search rules in
    let P : ListedShelf → Type 0 = λ shelf. IsToFail shelf.plan in
    record { cause = inl (subst P c.self.view_is (c.next_fails.ensures.fails.0 had)); counts = search rules; call = search rules }
