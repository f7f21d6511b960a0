-- The iterator gives the keys in order, so the first unknown one is the least.
use Rattle.std.proofs.Common.{◌≡◌, find, option_map, rules, tests}
use Rattle.std.specs.BTreeMap.{keys}
use Rattle.std.proofs.lemmas.Iterator.Consumers.{YieldsList-from_rest}
use Rattle.std.proofs.lemmas.Iterator.Search.{find_from_yields_List}
use Rattle.toml_tree.proofs.Trees.{is_unknown, least_unknown-found}
use Rattle.toml_tree.proofs.keys.least_unknown.Goals as goal

pub returns : goal.returns
returns c =
    let found : option_map (λ k. k.now) c.find.result ≡ find (is_unknown c.args.known.now) (keys c.args.table.now) =
    find_from_yields_List (is_unknown c.args.known.now) _ _ c.find.result c.find.ensures.ran (YieldsList-from_rest (keys c.args.table.now) c.keys.ensures.rest) (λ x b q k. search (rules, tests)) in
    least_unknown-found c.find.result c.args.known.now c.args.table.now.entries c.keys.ensures.ordered found
