-- The JSON text of an outcome (RFC 8259): one object without blanks, its keys in byte order, and one newline. `serde_json` says
-- how a value is spelled.
use Rattle.std.specs.Prelude.{ℕ, suc, ℤ, List, [], ◌∷◌, ◌++◌, length, codes, Option, Some, None}
use Rattle.clock.specs.Reports.{members}
use Rattle.serde_json.specs.Data.{Data, number, array, object, unsigned, Items, no_items, item, Members, no_members, member}
use Rattle.serde_json.specs.Find.{of_integer}
use Rattle.serde_json.specs.Written.{compact_text}
use Rattle.settlement.specs.declared.outcome.AwardRow.{AwardRow}
use Rattle.settlement.specs.declared.outcome.ClockRow.{ClockRow}
use Rattle.settlement.specs.declared.outcome.Outcome.{Outcome}

-- a number of units, of a bidder or of a clock
abbrev pub count : ℕ → Data
count n = number (unsigned n)

-- what is owed, clinched or paid, which may be below 0
abbrev pub amount : ℤ → Data
amount z = number (of_integer z)

-- the prices of the goods, or the quantities of a bundle
abbrev pub counts : List ℕ → Items
counts [] = no_items
counts (n ∷ ns) = item (count n) (counts ns)

-- a bidder: what it is awarded, its number, its credit, its debit and what it pays
abbrev pub bidder_object : ℕ → AwardRow → Data
bidder_object bidder row =
    object (member (codes "award") (array (counts row.award)) (member (codes "bidder") (count bidder)
    (member (codes "credit") (amount row.credit) (member (codes "debit") (amount row.debit) (member (codes "pays") (amount row.pays) no_members)))))

-- the objects of bidders that are numbered from here on
abbrev pub bidder_objects : ℕ → List AwardRow → Items
bidder_objects bidder [] = no_items
bidder_objects bidder (row ∷ rows) = item (bidder_object bidder row) (bidder_objects (suc bidder) rows)

-- what a member of a clock chooses
abbrev pub choice_object : ℕ → List ℕ → Data
choice_object bidder bundle = object (member (codes "bidder") (count bidder) (member (codes "bundle") (array (counts bundle)) no_members))

-- the objects of what the members of a clock choose
abbrev pub choice_objects : List ℕ → List (List ℕ) → Items
choice_objects [] bundles = no_items
choice_objects (j ∷ js) [] = no_items
choice_objects (j ∷ js) (bundle ∷ bundles) = item (choice_object j bundle) (choice_objects js bundles)

-- a clock: what its members choose, its number, its prices and its steps
abbrev pub clock_object : ℕ → ℕ → ClockRow → Data
clock_object bidders clock row =
    object (member (codes "choices") (array (choice_objects (members bidders clock) row.choices)) (member (codes "clock") (count clock)
    (member (codes "prices") (array (counts row.prices)) (member (codes "steps") (count row.steps) no_members))))

-- the objects of clocks that are numbered from here on
abbrev pub clock_objects : ℕ → ℕ → List ClockRow → Items
clock_objects bidders clock [] = no_items
clock_objects bidders clock (row ∷ rows) = item (clock_object bidders clock row) (clock_objects bidders (suc clock) rows)

-- the opening prices before other members, where the outcome shows them
abbrev pub with_opening : Option (List ℕ) → Members → Members
with_opening None rest = rest
with_opening (Some opening) rest = member (codes "opening") (array (counts opening)) rest

unfoldable pub outcome_object : Outcome → Data
outcome_object o =
    object (member (codes "bidders") (array (bidder_objects 1 o.rows)) (member (codes "clocks") (array (clock_objects (length o.rows) 0 o.clocks))
    (member (codes "goods") (count (length o.prices)) (with_opening o.opening (member (codes "prices") (array (counts o.prices)) no_members)))))

unfoldable pub json_text : Outcome → List ℕ
json_text o = compact_text (outcome_object o) ++ codes "\n"
