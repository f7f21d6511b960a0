-- What a call answers beside what a definition gives, where the call's value is seen through a view.
use Rattle.std.specs.Prelude.{Result}
use Rattle.toml_tree.specs.Seen.{GivesUnless}
use Rattle.valuation.specs.declared.faults.ValuesFault.{ValuesFault}
use Rattle.valuation.specs.declared.faults.ValuesFault.TheVariants.{NoMemory}

-- the call gives what is read, unless memory runs out
abbrev pub GivesIfRoom : {X Y : Type 0} → (X → Y) → Result X ValuesFault → Result Y ValuesFault → Type 0
GivesIfRoom view result read = GivesUnless NoMemory view result read
