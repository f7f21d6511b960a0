use Rattle.std.proofs.Common.{◌≡◌, ◌∙◌, ◌++◌, [], ◌∷◌, length, map, arith, refl, rules, sym, ap}
use Rattle.std.proofs.lemmas.List.{length-append}
use Rattle.house_serve.specs.declared.houses.DoorLog.{DoorLog}
use Rattle.house_run.proofs.GivingSteps.{doors-begun, doors-counts, doors-more, length-none, kept-more, map-map}
use Rattle.house_run.specs.GivingBack.{raised_by_all}
use Rattle.house_run.proofs.giving_back.close_logs.Goals as goal

pub loop-log-init : goal.loop-log-init
loop-log-init g c =
    let back : c.args.logs.items ≡ c.from_vec-rest.result.items = sym c.from_vec-rest.ensures.items in
    let door = λ (log : DoorLog g.row.N-Door.Denot). log.door in
    record {
      doors = doors-begun g.N.Door.Door.faults (map door c.args.logs.items) (map door c.from_vec-rest.result.items) (g.N.Net.told c.args.net.now) (g.N.Net.faults c.args.net.now) (ap (map door) back);
      ends = (λ i. map (λ v. v.items) (length-none c.args.ends.now.items c.requires.empty i) ++ map (λ log. log.ends.items) (sym back i));
      room = let e = c.requires.empty in let r = c.requires.room in let l = ap length c.from_vec-rest.ensures.items in omega arith;
    }

pub loop-log-preserved : goal.loop-log-preserved
loop-log-preserved g c =
    let i = c.loop-log.invariant in
    let door = λ (log : DoorLog g.row.N-Door.Denot). log.door in
    let is = c.in-Some.ensures.items in
    let left = c.pop_front.new.self.items in
    let log = c.in-Some.log in
    record {
      doors =
          doors-more g.N.Door.Door.faults (map door c.args.logs.items) (map door c.loop-log.rest.items) (map door left) log.door (g.N.Net.told c.args.net.now) (g.N.Net.told c.loop-log.net) (g.N.Net.told c.close_door.new.self)
          (g.N.Net.faults c.args.net.now) (g.N.Net.faults c.loop-log.net) (g.N.Net.faults c.close_door.new.self) (ap (map door) is) i.doors c.close_door.ensures.lists c.close_door.ensures.faults;
      ends = kept-more (λ v. v.items) (λ log. log.ends.items) c.loop-log.ends.items c.push_reserved.new.self.items log.ends c.args.logs.items c.loop-log.rest.items left log c.push_reserved.ensures.items refl is i.ends;
      room = let l = ap length is in let n = ap length c.push_reserved.ensures.items ∙ length-append c.loop-log.ends.items (log.ends ∷ []) in let k = c.push_reserved.ensures.capacity in let r = i.room in omega arith;
    }

pub returns-clause-faults : goal.returns-clause-faults
returns-clause-faults g c =
    let door = λ (log : DoorLog g.row.N-Door.Denot). log.door in
    doors-counts g.N.Door.Door.faults (map door c.args.logs.items) (map door c.loop-log.rest.items) (g.N.Net.told c.args.net.now) (g.N.Net.told c.loop-log.net) (g.N.Net.faults c.args.net.now) (g.N.Net.faults c.loop-log.net)
    (ap (map door) (let none : c.loop-log.rest.items ≡ [] = search rules in none)) c.loop-log.invariant.doors ∙ ap (raised_by_all (g.N.Net.faults c.args.net.now)) (map-map g.N.Door.Door.faults door c.args.logs.items)
