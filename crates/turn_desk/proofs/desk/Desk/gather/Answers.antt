use Rattle.std.proofs.Common.{rules, ◌≡◌, [], ◌∷◌, ◌++◌, ◌∙◌, ap, sym, subst, None}
use Rattle.turn_desk.specs.Passes.{Gathers, known}
use Rattle.turn_desk.proofs.Gathering.{each_at, popped, gather_one, gather_more}
use Rattle.turn_desk.proofs.desk.Desk.gather.Goals as goal

pub loop-pass-init : goal.loop-pass-init
loop-pass-init g c =
    let p = c.unwrap.result in let e = c.into_seat-seat.ensures in
    let is : c.args.passes.items ≡ c.pop.new.self.items ++ p ∷ [] = search rules in
    let rests = e.rests (each_at (λ q. q.turn ≡ None) _ _ _ _ is c.requires.all.rest) in
    record {
      desk = ap (λ q. q.desk) e.seat ∙ each_at (λ q. q.desk ≡ c.args.self.now.id) _ _ _ _ is c.requires.all.desks;
      hands = rests.1;
      taken = p ∷ [];
      all = is;
      gathers = subst (λ q. Gathers c.into_seat-seat.result.me.0 (q ∷ [])) e.seat (gather_one c.into_seat-seat.result.table_id c.into_seat-seat.result.me.0 rests.0 e.whole);
    }

pub join-requires-clause-desk : goal.join-requires-clause-desk
join-requires-clause-desk g c =
    let p = c.in-Some.pass in let i = c.loop-pass.invariant in
    let is : c.loop-pass.passes.items ≡ c.pop-in-loop-pass.new.self.items ++ p ∷ [] = search rules in
    let all = popped c.args.passes.items c.loop-pass.passes.items c.pop-in-loop-pass.new.self.items p i.taken i.all is in
    let to = sym (ap (λ d. d.id) c.self.view_is) in (
      i.desk ∙ to,
      ap (λ q. q.desk) c.into_seat.ensures.seat ∙ (each_at (λ q. q.desk ≡ c.args.self.now.id) _ _ _ _ all c.requires.all.desks ∙ to),
    )

pub join-requires-clause-rests : goal.join-requires-clause-rests
join-requires-clause-rests g c =
    let p = c.in-Some.pass in let i = c.loop-pass.invariant in
    let is : c.loop-pass.passes.items ≡ c.pop-in-loop-pass.new.self.items ++ p ∷ [] = search rules in
    let all = popped c.args.passes.items c.loop-pass.passes.items c.pop-in-loop-pass.new.self.items p i.taken i.all is in
    c.into_seat.ensures.rests (each_at (λ q. q.turn ≡ None) _ _ _ _ all c.requires.all.rest)

pub loop-pass-preserved : goal.loop-pass-preserved
loop-pass-preserved g c =
    let p = c.in-Some.pass in let i = c.loop-pass.invariant in let e = c.into_seat.ensures in let j = c.join.ensures in
    let is : c.loop-pass.passes.items ≡ c.pop-in-loop-pass.new.self.items ++ p ∷ [] = search rules in
    record {
      desk = j.same.0 ∙ i.desk;
      hands = j.same.2 ∙ i.hands;
      taken = p ∷ i.taken;
      all = popped c.args.passes.items c.loop-pass.passes.items c.pop-in-loop-pass.new.self.items p i.taken i.all is;
      gathers = subst (λ q. Gathers c.join.new.seat.me.0 (q ∷ i.taken)) e.seat (subst (λ v. Gathers v (known c.into_seat.result.table_id c.into_seat.result.me.0 ∷ i.taken)) (sym j.both) (gather_more c.into_seat.result.table_id c.loop-pass.seat.me.0 c.into_seat.result.me.0 i.taken e.whole i.gathers));
    }
