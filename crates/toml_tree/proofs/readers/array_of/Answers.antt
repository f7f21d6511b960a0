use Rattle.std.proofs.Common.{map}
use Rattle.toml.specs.View.{view}
use Rattle.toml_tree.specs.Tree.{elements_of}
use Rattle.toml_tree.proofs.Trees.{gives-ok_or}
use Rattle.toml_tree.specs.declared.faults.TreeFault.TheVariants.{WrongKind}
use Rattle.toml_tree.proofs.readers.array_of.Goals as goal

pub returns : goal.returns
returns g c =
    rw c.ok_or.ensures.value (gives-ok_or (λ s. map view s.now) c.elements_of.result (elements_of (view c.args.value.now)) (WrongKind c.args.key) c.elements_of.ensures)
