-- Worked examples of counts of faults, of files and counts by name, of what a source and a sink move, and of the calls that are to
-- fail.
use Rattle.std.specs.Prelude.{◌≡◌, ◌<◌, ◌≤◌, ◌-◌, ◌^◌, ℕ, zero, suc, List, [], ◌∷◌, Some, None, Contains, refl}
use Rattle.std.proofs.Common.{arith}
use Rattle.house_io.specs.Faults.{Rose, raised_by}
use Rattle.house_io.specs.Counts.{NamedCount, count_of, names_of}
use Rattle.house_io.specs.Moments.{opened}
use Rattle.house_io.specs.Shelves.{NamedFile, bytes_of, moments_at, Begins}
use Rattle.house_io.specs.Sources.{Takes}
use Rattle.house_io.specs.Sinks.{IsPart}
use Rattle.house_io.specs.SureForms.{empty_sink, kept_more, passed}
use Rattle.house_io.specs.ListForms.{IsToFail, begun, counted}

-- Faults are added up to the last value of 64 bits.
added :
    (raised_by 0 1 ≡ 1) × (raised_by 3 0 ≡ 3) × (raised_by (2 ^ 64 - 2) 1 ≡ 2 ^ 64 - 1) × (raised_by (2 ^ 64 - 2) 5 ≡ 2 ^ 64 - 1)
    × (raised_by (2 ^ 64 - 1) 1 ≡ 2 ^ 64 - 1)
added = (refl, refl, refl, refl, refl)

-- A count that stays has not risen, but at its last value.
at_the_last_value : Rose (2 ^ 64 - 1) (2 ^ 64 - 1)
at_the_last_value = omega arith

stays_below : Rose 7 7 → ⊥
stays_below rose = omega (arith, rose)

-- Of two counts of one name the first counts. The empty name is a name, and an absent one has the count 0.
counts : List NamedCount
counts = record { name = 5 ∷ []; faults = 2 } ∷ record { name = []; faults = 3 } ∷ record { name = 5 ∷ []; faults = 4 } ∷ []

by_name : (count_of counts (5 ∷ []) ≡ 2) × (count_of counts [] ≡ 3) × (count_of counts (6 ∷ []) ≡ 0) × (names_of counts ≡ (5 ∷ []) ∷ [] ∷ (5 ∷ []) ∷ [])
unfolding counts
by_name = (refl, refl, refl, refl)

-- Of two files of one name the first counts. An absent one is opened empty as a disk, and as a source.
files : List NamedFile
files = record { name = 5 ∷ []; moments = opened (1 ∷ []) } ∷ record { name = 5 ∷ []; moments = opened (2 ∷ []) } ∷ []

of_one_name : (bytes_of files (5 ∷ []) ≡ Some (1 ∷ [])) × (bytes_of files [] ≡ None) × (moments_at files [] ≡ opened []) × Begins (bytes_of files []) (Some [])
unfolding files
of_one_name = (refl, refl, refl, refl)

-- A pull into an empty buffer takes nothing, whatever is left. One that takes nothing into another is at the end.
pulls_nothing : Takes 0 [] (1 ∷ 2 ∷ []) (1 ∷ 2 ∷ [])
pulls_nothing = record { bytes = refl; at_end = λ room. absurd (omega (arith, room)) }

is_at_the_end : (before after : List ℕ) → Takes 0 (9 ∷ []) before after → before ≡ []
is_at_the_end before after takes = (takes.at_end (omega arith)).0 refl

-- A push of an empty piece takes nothing, and one of another piece something.
part_of_nothing : (count : ℕ) → IsPart count [] → count ≡ 0
part_of_nothing count part = let few : count ≤ 0 = part.within in omega arith

part_of_something : IsPart 0 (7 ∷ []) → ⊥
part_of_something part = let some : 0 < 0 = part.some (omega arith) in omega arith

-- A sink of two bytes that is filled exactly, and one that was passed and is given nothing more.
filled : (kept_more (empty_sink 2) (7 ∷ 8 ∷ []) ≡ record { written = Some (7 ∷ 8 ∷ []); room = 0 }) × (kept_more passed [] ≡ passed)
filled = (refl, refl)

-- A plan may name a call twice. Its calls stand still at the last value of 64 bits.
plan_named_twice : IsToFail (begun (0 ∷ 0 ∷ [])) × (IsToFail (counted (begun (0 ∷ 0 ∷ []))) → ⊥)
plan_named_twice =
    let first : Contains {X = ℕ} (0 ∷ 0 ∷ []) 0 = (0, omega arith, refl) in
    (first, not_one)
  where
    not_one : Contains {X = ℕ} (0 ∷ 0 ∷ []) 1 → ⊥
    not_one (zero, inside, is) = omega (arith, is)
    not_one (suc zero, inside, is) = omega (arith, is)
    not_one (suc (suc k), inside, is) = omega (arith, inside)

last_call : (counted (record { failing = []; calls = 2 ^ 64 - 1 })).calls ≡ 2 ^ 64 - 1
last_call = refl
