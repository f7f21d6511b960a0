use Rattle.std.proofs.Common.{arith}
use Rattle.exchange_check.proofs.scan.goes_for.Goals as goal
use Rattle.exchange_check.proofs.Spots.{more_of, for_other}

pub overflow_sub-less : goal.overflow_sub-less
overflow_sub-less c =
    let r = c.requires in
    let lt = more_of _ _ _ _ _ _ r.free_y r.free_x r.other (omega arith) in
    let t = for_other _ _ _ _ _ _ r.table.distances r.x r.y r.good r.other r.more lt in
    t.room_x

pub overflow_add-less : goal.overflow_add-less
overflow_add-less c =
    let r = c.requires in
    let lt = more_of _ _ _ _ _ _ r.free_y r.free_x r.other (omega arith) in
    let t = for_other _ _ _ _ _ _ r.table.distances r.x r.y r.good r.other r.more lt in
    let within = t.less_in in
    let few = r.table.few in
    omega arith

pub overflow_add-more : goal.overflow_add-more
overflow_add-more c =
    let r = c.requires in
    let lt = more_of _ _ _ _ _ _ r.free_y r.free_x r.other (omega arith) in
    let t = for_other _ _ _ _ _ _ r.table.distances r.x r.y r.good r.other r.more lt in
    let within = t.above_in in
    let few = r.table.few in
    omega arith

pub overflow_sub-more : goal.overflow_sub-more
overflow_sub-more c =
    let r = c.requires in
    let lt = more_of _ _ _ _ _ _ r.free_y r.free_x r.other (omega arith) in
    let t = for_other _ _ _ _ _ _ r.table.distances r.x r.y r.good r.other r.more lt in
    t.room_y

pub returns : goal.returns
returns c =
    let r = c.requires in
    let lt = more_of _ _ _ _ _ _ r.free_y r.free_x r.other (omega arith) in
    let t = (for_other _ _ _ _ _ _ r.table.distances r.x r.y r.good r.other r.more lt).value c.args.table.now.values.now in
    ((λ b. (lt, t.0 (c.is_no_worse.ensures.0 b))), (λ p. c.is_no_worse.ensures.1 (t.1 p.1)))
