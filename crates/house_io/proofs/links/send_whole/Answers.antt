use Rattle.std.proofs.Common.{◌∙◌, ◌++◌, sym, ap}
use Rattle.house_io.proofs.Sending.{sent-more, sent-front}
use Rattle.house_io.proofs.links.send_whole.Goals as goal

pub loop-rest-preserved : goal.loop-rest-preserved
loop-rest-preserved g c =
    let t = c.loop-rest.invariant.text in
    let m = sent-more (g.L.Link.told c.args.link.now) (g.L.Link.told c.loop-rest.link) (g.L.Link.told c.push.new.self) c.args.text.now c.loop-rest.rest.now t.0 c.in-Ok.count t.1 t.2 c.in-Ok.ensures.bytes in
    record {
      count = c.in-Ok.ensures.cause.steady ∙ c.loop-rest.invariant.count;
      text = (m.0, m.1 ∙ ap (λ xs. m.0 ++ xs) (sym c.split_at.ensures.back), m.2);
    }

pub returns-in-Err-clause-bytes : goal.returns-in-Err-clause-bytes
returns-in-Err-clause-bytes g c =
    let t = c.loop-rest.invariant.text in
    sent-front (g.L.Link.told c.args.link.now) (g.L.Link.told c.loop-rest.link) (g.L.Link.told c.push.new.self) c.args.text.now c.loop-rest.rest.now t.0 t.1 t.2 c.in-Err.ensures.bytes
