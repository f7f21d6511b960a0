-- The numbers of an array beside the values that hold them.
use Rattle.std.proofs.Common.{◌≡◌, List, map, Ok, Result, sym, subst}
use Rattle.toml.specs.View.{view}
use Rattle.toml.specs.declared.value.Value.{Value}
use Rattle.toml_tree.specs.Readers.{array_of, integer_of}
use Rattle.toml_tree.specs.Steps.{each_from}
use Rattle.valuation.specs.Tree.{found, integers_of, lists_of}
use Rattle.valuation.specs.declared.faults.ValuesFault.{ValuesFault}
use Rattle.toml_tree.proofs.Turns.{each-map}
use Rattle.valuation.specs.Seen.{GivesIfRoom}
use Rattle.valuation.specs.declared.faults.ValueKey.{ValueKey}

-- the numbers of an array, by its elements
pub integers_of-array : (key : ValueKey) (v : Value) (items : List Value) → array_of key (view v) ≡ Ok (map view items) → each_from (λ _ w. found (integer_of key (view w))) 0 items ≡ integers_of key (view v)
integers_of-array key v items read = rw read (sym (each-map (λ _ element. found (integer_of key element)) view 0 items))

pub lists_of-array : (key : ValueKey) (v : Value) (items : List Value) → array_of key (view v) ≡ Ok (map view items) → each_from (λ _ w. integers_of key (view w)) 0 items ≡ lists_of key (view v)
lists_of-array key v items read = rw read (sym (each-map (λ _. integers_of key) view 0 items))

pub gives-same : {X Y : Type 0} (seen : X → Y) (r : Result X ValuesFault) (a b : Result Y ValuesFault) → a ≡ b → GivesIfRoom seen r a → GivesIfRoom seen r b
gives-same {X} {Y} seen r a b e h = let P : Result Y ValuesFault → Type 0 = λ x. GivesIfRoom seen r x in subst P e h
