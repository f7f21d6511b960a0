use Rattle.std.proofs.Common.{◌≡◌, ◌∙◌, sym, ap, subst, List, ℕ}
use Rattle.std.specs.List.{AllByRecursion}
use Rattle.lot_base.specs.Demands.{IsTable, greatest}
use Rattle.demand_set.specs.Reading.{bundles_of}
use Rattle.demand_set.specs.Sums.{IsShort}
use Rattle.demand_set.proofs.Sums.{all-short}
use Rattle.demand_set.proofs.Tables.{get_or-blank}
use Rattle.demand_set.proofs.Slopes.{rises}
use Rattle.demand_set.proofs.PackedForm.{goods-packed}
use Rattle.demand_set.proofs.reading.Demand.greatest_table.Goals as goal

pub greatest_of-requires-clause-short : goal.greatest_of-requires-clause-short
greatest_of-requires-clause-short c =
    let S : List ℕ → Type 0 = λ q. AllByRecursion IsShort (bundles_of c.self.inside.goods q) in
    let V : List (List ℕ) → Type 0 = λ v. AllByRecursion IsShort v in
    subst S (sym c.deref.ensures.value) (subst V (sym c.self.view_is) (all-short c.args.goods.now c.args.self.now c.count-count.ensures.supply.small c.requires.in_box))

pub greatest_of-requires-clause-blank : goal.greatest_of-requires-clause-blank
greatest_of-requires-clause-blank c = λ set. get_or-blank 64 set

pub returns-clause-table : goal.returns-clause-table
returns-clause-table c =
    let size = goods-packed c.args.goods.now c.self.inside.goods c.self.inside.quantities.items c.args.self.now c.self.invariant c.self.view_is c.requires in
    let same : bundles_of c.self.inside.goods c.deref.result.now ≡ c.args.self.now = ap (bundles_of c.self.inside.goods) c.deref.ensures.value ∙ c.self.view_is in
    let T : List (List ℕ) → Type 0 = λ v. IsTable c.self.inside.goods (greatest v) c.greatest_of.new.into in
    let G : ℕ → Type 0 = λ n. IsTable n (greatest c.args.self.now) c.greatest_of.new.into in
    subst G size (subst T same c.greatest_of.ensures)

pub returns-clause-rises : goal.returns-clause-rises
returns-clause-rises c =
    let size = goods-packed c.args.goods.now c.self.inside.goods c.self.inside.quantities.items c.args.self.now c.self.invariant c.self.view_is c.requires in
    let same : bundles_of c.self.inside.goods c.deref.result.now ≡ c.args.self.now = ap (bundles_of c.self.inside.goods) c.deref.ensures.value ∙ c.self.view_is in
    rises c.args.goods.now c.args.self.now (bundles_of c.self.inside.goods c.deref.result.now) c.self.inside.goods c.greatest_of.new.into size same c.greatest_of.ensures
