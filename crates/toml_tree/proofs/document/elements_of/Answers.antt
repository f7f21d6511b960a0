use Rattle.std.proofs.Common.{sym}
use Rattle.toml_tree.proofs.Trees.{elements_of-Array}
use Rattle.toml_tree.proofs.document.elements_of.Goals as goal

pub returns-in-Array : goal.returns-in-Array
returns-in-Array c = sym (elements_of-Array c.args.value.now c.in-Array.elements c.as_slice.result.now c.in-Array.is c.as_slice.ensures.value)
