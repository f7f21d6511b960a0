-- What holds of each pass, or of each list of ends, holds at its booth.
use Rattle.std.proofs.Common.{◌≡◌, List, length, map, get_or, sym, ◌∙◌, ap, subst, arith}
use Rattle.std.specs.Prelude.{All}
use Rattle.std.specs.List.{AllByRecursion}
use Rattle.std.proofs.lemmas.List.{length-map, get_or-map}
use Rattle.std.proofs.lemmas.List.Elements.{All-from_recursion}
use Rattle.clock_family.specs.Houses.{HouseOf, HousePassOf, IsNewPass}
use Rattle.clock_family.specs.Turns.{AreOf}

pub all_at : {A B : Type 0} (f : A → B) (P : B → Type 0) (cs : List A) (xs : List B) → map f cs ≡ xs → All P xs → All (λ c. P (f c)) cs
all_at f P cs xs are h = λ k d below.
    subst P (ap (λ l. get_or l k (f d)) (sym are) ∙ get_or-map f cs k d (f d) below) (h k (f d) (let n = ap length are in let m = length-map cs f in omega (arith, n, m, below)))

-- each new pass is one of the house
pub of_house : {D : Type 0} (house : HouseOf D) (passes : List HousePassOf) → AllByRecursion (IsNewPass house) passes → All (λ p. AreOf house.terms house.digest house.desks p.passes) passes
of_house house passes new = λ k d below. (All-from_recursion (IsNewPass house) passes new k d below).of_house
