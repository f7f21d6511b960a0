use Rattle.toml.specs.Data.{get_member}
use Rattle.toml.specs.View.{view}
use Rattle.toml_tree.proofs.Trees.{gives-ok_or}
use Rattle.toml_tree.specs.declared.faults.TreeFault.TheVariants.{Missing}
use Rattle.toml_tree.proofs.readers.value_at.Goals as goal

pub returns : goal.returns
returns g c =
    rw c.ok_or.ensures.value (gives-ok_or (λ v. view v.now) c.member.result (get_member c.args.name.now _) (Missing c.args.key) c.member.ensures)
