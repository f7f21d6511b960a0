use Rattle.std.proofs.Common.{sym}
use Rattle.std.proofs.lemmas.Bool.{false≢true}
use Rattle.toml_tree.proofs.Documents.{tree_of-read, tree_of-refused}
use Rattle.toml_tree.proofs.document.tree_of.Goals as goal

pub returns-in-Ok : goal.returns-in-Ok
returns-in-Ok c = sym (tree_of-read c.args.bytes.now _ c.in-Ok.ensures.ok.0 c.in-Ok.ensures.ok.1)

pub returns-in-Err-2 : goal.returns-in-Err-2
returns-in-Err-2 c = sym (tree_of-refused c.args.bytes.now (c.in-Err.ensures.refused (λ memory. false≢true (c.if-is_memory.ensures.1 memory))))
