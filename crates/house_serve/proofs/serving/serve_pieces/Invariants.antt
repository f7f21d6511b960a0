use Rattle.std.proofs.Common.{◌≡◌, ◌≤◌, ◌-◌, length}
use Rattle.session.specs.Asking.{IsSeated}
use Rattle.house_serve.specs.Ends.{most}
use Rattle.house_serve.specs.declared.serving.TheConstants.{CHUNK}
use Rattle.house_serve.specs.Serving.{Underway}
use Rattle.house_serve.proofs.serving.serve_pieces.Given as goal

abbrev pub invariant-pieces : goal.invariant-pieces
invariant-pieces g l = record {
  underway : Underway g.H.Hall.allows l.auction (g.H.Hall.meaning l.initial.hall) (g.H.Hall.meaning l.hall) l.session l.reader l.taken (g.L.Link.told l.initial.link) (g.L.Link.told l.link);
  seated : IsSeated l.auction l.session (g.H.Hall.in_order l.hall) (g.H.Hall.supply l.hall) (g.H.Hall.bidders l.hall);
  stays : g.H.Hall.stays l.initial.hall l.hall;
  cause : g.L.Link.faults l.link ≡ g.L.Link.faults l.initial.link;
  small : l.taken ≤ most;
  piece : length l.chunk ≡ CHUNK;
}

abbrev pub decreases-pieces : goal.decreases-pieces
decreases-pieces g l = most - l.taken
