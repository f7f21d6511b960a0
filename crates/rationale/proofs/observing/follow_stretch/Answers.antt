use Rattle.std.proofs.Common.{◌≡◌, ◌<◌, length, take, ◌∙◌, arith, get_or-take, length-take-le}
use Rattle.lot_base.specs.Goods.{box_size}
use Rattle.rationale.proofs.Showing.{wanted}
use Rattle.rationale.proofs.observing.follow_stretch.Goals as goal

pub follow_lines-requires-clause-wanted : goal.follow_lines-requires-clause-wanted
follow_lines-requires-clause-wanted c =
    let supply = c.args.goods.now in
    let n = c.len.result in
    let places = take n c.show_places.new.places in
    let count = c.len.ensures.value in
    let some = c.requires.stretch.reported.some in
    let few = c.show_places.ensures.few in
    let long : length places ≡ n = length-take-le n c.show_places.new.places (let l = c.show_places.ensures.long in omega arith) in
    let gaps_long : length c.show_gaps.new.gaps ≡ box_size supply = c.show_gaps.ensures.long ∙ c.requires.gaps in
    wanted supply places c.show_gaps.new.gaps (omega arith)
    (λ j inside. (let h : j < n = omega arith in let a = get_or-take n c.show_places.new.places j 0 h in let b = c.show_places.ensures.inside j (omega arith) in omega arith))
    gaps_long (record { there = c.show_gaps.ensures.there; away = λ k small none. c.show_gaps.ensures.away k (let i = c.requires.gaps in omega arith) none })
