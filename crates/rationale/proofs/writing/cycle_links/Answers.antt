use Rattle.std.proofs.Common.{◌≡◌, ◌<◌, ◌≤◌, ◌++◌, ◌-◌, ℕ, List, drop, take, length, slice_index, ap, sym, subst, ◌∙◌, arith}
use Rattle.rationale.specs.Climbs.{IsTrail}
use Rattle.rationale.specs.Shown.{parent_of}
use Rattle.lot_base.specs.Goods.{box_size}
use Rattle.rationale.specs.Turned.{IsLeastOf}
use Rattle.rationale.proofs.Turning.{turned_cycle, turned_long, turned_small, parted, before_some, before_long, written_cycle, written_few}
use Rattle.rationale.proofs.Turning.{any-at}
use Rattle.rationale.proofs.Firsts.{cycle_from_least, written_from_least}
use Rattle.rationale.proofs.writing.cycle_links.Goals as goal

-- the places are those after the turn, and then those before it
turned : (path now2 now3 back places new now4 : List ℕ) (first turn : ℕ) → now2 ≡ path → now3 ≡ path → back ≡ drop turn now2 → places ≡ back → new ≡ places ++ take (turn - first) (drop first now3) → now4 ≡ new →
    now4 ≡ drop turn path ++ take (turn - first) (drop first path)
turned path now2 now3 back places new now4 first turn e2 e3 eb ep en e4 =
    e4 ∙ en ∙ (λ i. (ep ∙ eb ∙ ap (drop turn) e2) i ++ take (turn - first) (drop first (e3 i)))

pub links_from-requires-clause-places : goal.links_from-requires-clause-places
links_from-requires-clause-places c =
    let path = c.args.around.now.path.items in
    let first = c.args.around.now.first in
    let turn = c.turning_place-turn.result in
    let is = turned path c.deref-2.result.now c.deref-3.result.now c.split_at.result.1.now c.in_ok-places.places.items c.extend_from_slice.new.self.items c.deref-4.result.now first turn
    c.deref-2.ensures.value c.deref-3.ensures.value c.split_at.ensures.back c.in_ok-places.ensures.items c.in_ok-extend_from_slice.ensures.items c.deref-4.ensures.value in
    turned_small _ path c.deref-4.result.now first turn c.requires.around.small is

pub returns-clause-cycle : goal.returns-clause-cycle
returns-clause-cycle c = λ os m sound.
    let supply = c.args.goods.now in
    let ps = parent_of c.args.parents.now in
    let path = c.args.around.now.path.items in
    let first = c.args.around.now.first in
    let turn = c.turning_place-turn.result in
    let at = slice_index path first in
    let is = turned path c.deref-2.result.now c.deref-3.result.now c.split_at.result.1.now c.in_ok-places.places.items c.extend_from_slice.new.self.items c.deref-4.result.now first turn
    c.deref-2.ensures.value c.deref-3.ensures.value c.split_at.ensures.back c.in_ok-places.ensures.items c.in_ok-extend_from_slice.ensures.items c.deref-4.ensures.value in
    let low = c.turning_place-turn.ensures.behind in
    let inside = c.requires.around.inside in
    let trail : IsTrail ps at (take (turn - first) (drop first path) ++ drop turn path) at = subst (λ (xs : List ℕ). IsTrail ps at xs at) (sym (parted path first turn (omega arith))) c.requires.around.closed in
    let cycle = turned_cycle supply os m ps sound at (take (turn - first) (drop first path)) (drop turn path) (before_some path first turn low inside) trail in
    written_cycle c.links_from.result c.deref-4.result.now (drop turn path ++ take (turn - first) (drop first path)) supply os ps is c.links_from.ensures cycle

pub returns-clause-few : goal.returns-clause-few
returns-clause-few c =
    let supply = c.args.goods.now in
    let ps = parent_of c.args.parents.now in
    let path = c.args.around.now.path.items in
    let first = c.args.around.now.first in
    let turn = c.turning_place-turn.result in
    let at = slice_index path first in
    let is = turned path c.deref-2.result.now c.deref-3.result.now c.split_at.result.1.now c.in_ok-places.places.items c.extend_from_slice.new.self.items c.deref-4.result.now first turn
    c.deref-2.ensures.value c.deref-3.ensures.value c.split_at.ensures.back c.in_ok-places.ensures.items c.in_ok-extend_from_slice.ensures.items c.deref-4.ensures.value in
    let low = c.turning_place-turn.ensures.behind in
    let read = c.deref.ensures.value in
    let high : turn ≤ length path = rw read at c.turning_place-turn.ensures.within in
    let trail : IsTrail ps at (take (turn - first) (drop first path) ++ drop turn path) at = subst (λ (xs : List ℕ). IsTrail ps at xs at) (sym (parted path first turn (omega arith))) c.requires.around.closed in
    let long = turned_long supply ps at (take (turn - first) (drop first path)) (drop turn path) trail in
    let part = before_long path first turn (omega arith) high in
    let few = c.requires.around.few in
    written_few c.links_from.result c.deref-4.result.now (drop turn path ++ take (turn - first) (drop first path)) supply ps _ is c.links_from.ensures (omega arith)

pub turning_place-turn-requires-clause-places : goal.turning_place-turn-requires-clause-places
turning_place-turn-requires-clause-places c =
    let path = c.args.around.now.path.items in
    let long = c.requires.parents in
    subst (λ (xs : List ℕ). (k : ℕ) → k < length xs → slice_index xs k < length c.args.parents.now) (sym c.deref.ensures.value)
    (λ k inside. (let s = c.requires.around.small (slice_index path k) (any-at path k inside) in omega arith))

pub returns-clause-from_least : goal.returns-clause-from_least
returns-clause-from_least c =
    let supply = c.args.goods.now in
    let ps = parent_of c.args.parents.now in
    let path = c.args.around.now.path.items in
    let first = c.args.around.now.first in
    let turn = c.turning_place-turn.result in
    let at = slice_index path first in
    let is = turned path c.deref-2.result.now c.deref-3.result.now c.split_at.result.1.now c.in_ok-places.places.items c.extend_from_slice.new.self.items c.deref-4.result.now first turn
    c.deref-2.ensures.value c.deref-3.ensures.value c.split_at.ensures.back c.in_ok-places.ensures.items c.in_ok-extend_from_slice.ensures.items c.deref-4.ensures.value in
    let low = c.turning_place-turn.ensures.behind in
    let read = c.deref.ensures.value in
    let high : turn ≤ length path = rw read at c.turning_place-turn.ensures.within in
    let least = subst (λ (xs : List ℕ). IsLeastOf ps xs first (length xs) (turn - 1)) read c.turning_place-turn.ensures.least in
    let small : (k : ℕ) → k < length path → slice_index path k < box_size supply = λ k inside. c.requires.around.small (slice_index path k) (any-at path k inside) in
    written_from_least c.links_from.result c.deref-4.result.now (drop turn path ++ take (turn - first) (drop first path)) supply ps is c.links_from.ensures
    (cycle_from_least supply c.args.parents.now path first turn at c.requires.inside low high small c.requires.around.closed least)
