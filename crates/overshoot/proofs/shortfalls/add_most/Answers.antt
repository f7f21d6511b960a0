use Rattle.std.proofs.Common.{List, [], ℕ, ap, sym, subst, ◌∙◌, ◌≡◌}
use Rattle.std.specs.Prelude.{unwrap_or, option_copied}
use Rattle.lot_base.specs.Demands.{IsDemand}
use Rattle.clock.specs.Standing.{last_demands}
use Rattle.overshoot.proofs.Most.{small-most, adds-most}
use Rattle.overshoot.proofs.shortfalls.add_most.Goals as goal

pub add_table-requires-clause-small : goal.add_table-requires-clause-small
add_table-requires-clause-small c =
    let g = c.args.goods.now in
    let P : List ℕ → Type 0 = λ s. IsDemand s c.in-Some.demand.now in
    small-most g c.in-Some.demand.now c.most_of.result.0 c.count-goods.ensures.supply (subst P c.requires.goods c.in-Some.ensures.fits) c.most_of.ensures

pub returns-in-Some : goal.returns-in-Some
returns-in-Some c =
    let g = c.args.goods.now in
    let d = c.in-Some.demand.now in
    let P : List ℕ → Type 0 = λ s. IsDemand s d in
    let same : last_demands c.args.clock.now.history c.args.bidder ≡ d = ap (λ o. unwrap_or o []) (sym c.last_demand.ensures.value ∙ ap option_copied c.in-Some.is) in
    adds-most g d (last_demands c.args.clock.now.history c.args.bidder) c.most_of.result.0 c.args.most.now.0 c.add_table.new.excess.0
    c.count-goods.ensures.supply (subst P c.requires.goods c.in-Some.ensures.fits) same c.most_of.ensures c.add_table.ensures
