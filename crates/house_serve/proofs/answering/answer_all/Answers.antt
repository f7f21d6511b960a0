use Rattle.std.proofs.Common.{rules, map, length, arith, ◌≡◌, ◌∙◌, refl, sym, subst, ap, append_assoc, Some, None, [], ◌∷◌, List, ◌++◌}
use Rattle.std.specs.List.{AllByRecursion}
use Rattle.std.specs.Vec.Iter.{into_iter_items}
use Rattle.report_wire.specs.Frames.{IsSent}
use Rattle.report_wire.specs.Messages.{to_house, house_sent}
use Rattle.report_wire.specs.declared.messages.ToHouse.{ToHouse}
use Rattle.house_serve.specs.Pieces.{Answers}
use Rattle.house_serve.proofs.Turned.{sent_in, join, extend, start}
use Rattle.house_serve.proofs.answering.answer_all.Goals as goal

pub answer_one-requires-clause-formed : goal.answer_one-requires-clause-formed
answer_one-requires-clause-formed g c =
    let whole = ap (λ (l : List ToHouse). c.loop-frame.yielded ++ l) (sym c.in-Some.ensures.steps.0) ∙ c.loop-frame.invariant.same in
    sent_in c.loop-frame.yielded c.in-Some.frame _ (subst (λ (l : List ToHouse). AllByRecursion (IsSent to_house) (map house_sent l)) (sym whole) c.requires.formed)

pub returns-in-Some-answer_one-clause-answers : goal.returns-in-Some-answer_one-clause-answers
returns-in-Some-answer_one-clause-answers g c =
    let done = c.loop-frame.yielded in
    let f = c.in-Some.frame in
    let more = into_iter_items c.next.new.self in
    let whole : (done ++ f ∷ []) ++ more ≡ c.args.frames.items = append_assoc done (f ∷ []) more ∙ ap (λ (l : List ToHouse). done ++ l) (sym c.in-Some.ensures.steps.0) ∙ c.loop-frame.invariant.same in
    let w = c.args.session.now in
    let m = g.H.Hall.meaning c.args.hall.now in
    let t = g.L.Link.told c.args.link.now in
    let w2 = c.answer_one.new.session in
    let m2 = g.H.Hall.meaning c.answer_one.new.hall in
    let t2 = g.L.Link.told c.answer_one.new.link in
    let both = join g.H.Hall.allows c.args.auction.now done (f ∷ []) w c.loop-frame.session w2 m (g.H.Hall.meaning c.loop-frame.hall) m2 t (g.L.Link.told c.loop-frame.link) t2 (Some c.in-Some-answer_one.end) c.loop-frame.invariant.answers c.in-Some-answer_one.ensures.answers in
    let all = extend g.H.Hall.allows c.args.auction.now (done ++ f ∷ []) more w w2 m m2 t t2 c.in-Some-answer_one.end both in
    subst (λ (l : List ToHouse). Answers g.H.Hall.allows c.args.auction.now l w m t w2 m2 t2 (Some c.in-Some-answer_one.end)) whole all

pub returns-in-Some-answer_one-clause-stays : goal.returns-in-Some-answer_one-clause-stays
returns-in-Some-answer_one-clause-stays g c = g.met.H.Hall.stays_along c.args.hall.now c.loop-frame.hall c.answer_one.new.hall c.loop-frame.invariant.stays c.answer_one.ensures.stays

pub loop-frame-preserved : goal.loop-frame-preserved
loop-frame-preserved g c =
    let done = c.loop-frame.yielded in
    let f = c.in-Some.frame in
    let steps = c.in-Some.ensures.steps.0 in
    let gone = c.in-Some.ensures.steps.1 in
    let short = ap length steps in
    let left = c.loop-frame.invariant.left in
    record {
      same = append_assoc done (f ∷ []) _ ∙ ap (λ (l : List ToHouse). done ++ l) (sym steps) ∙ c.loop-frame.invariant.same;
      left = omega (arith, gone, short, left);
      answers = join g.H.Hall.allows c.args.auction.now done (f ∷ []) c.args.session.now c.loop-frame.session c.answer_one.new.session (g.H.Hall.meaning c.args.hall.now) (g.H.Hall.meaning c.loop-frame.hall) (g.H.Hall.meaning c.answer_one.new.hall) (g.L.Link.told c.args.link.now) (g.L.Link.told c.loop-frame.link) (g.L.Link.told c.answer_one.new.link) None c.loop-frame.invariant.answers c.in_default.ensures.answers;
      seated = c.answer_one.ensures.seated;
      stays = g.met.H.Hall.stays_along c.args.hall.now c.loop-frame.hall c.answer_one.new.hall c.loop-frame.invariant.stays c.answer_one.ensures.stays;
      cause = c.in_default.ensures.cause ∙ c.loop-frame.invariant.cause;
    }

pub loop-frame-init : goal.loop-frame-init
loop-frame-init g c = record {
  same = search rules;
  left = search rules;
  answers = start g.H.Hall.allows c.args.auction.now c.args.session.now (g.H.Hall.meaning c.args.hall.now) (g.L.Link.told c.args.link.now);
  seated = c.requires.seated;
  stays = g.met.H.Hall.stays_still c.args.hall.now;
  cause = refl;
}
