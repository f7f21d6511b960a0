use Rattle.house_serve.proofs.Whole.{unheard}
use Rattle.house_serve.proofs.serving.serve_hall.Goals as goal

pub returns-in-Err-clause-session : goal.returns-in-Err-clause-session
returns-in-Err-clause-session g c = unheard g.H.Hall.allows c.args.auction.now (g.H.Hall.meaning c.args.hall.now) (g.L.Link.told c.args.link.now)
