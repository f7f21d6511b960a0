use Rattle.std.proofs.Common.{◌≡◌, ◌<◌, ◌+◌, ◌∙◌, ℕ, List, [], length, false, refl, sym, ap, subst, replicate, get_or, drop, None, Some}
use Rattle.std.proofs.lemmas.Result.{err_from_is_err_and}
use Rattle.std.specs.Prelude.{Ok, Err}
use Rattle.std.proofs.lemmas.List.{length-replicate}
use Rattle.report_wire.specs.declared.messages.ToHouse.TheVariants as house
use Rattle.bidder_agent.specs.Talks.{part, IsExchange, or_else}
use Rattle.bidder_agent.specs.Knowing.{unseen, weight, open_in}
use Rattle.bidder_agent.specs.Underway.{Underway, Visits}
use Rattle.bidder_agent.specs.declared.agents.SeenLook.{SeenLook}
use Rattle.bidder_agent.specs.declared.knowing.Known.{Known}
use Rattle.bidder_agent.proofs.Clocks.{weigh_set, set_length, get_any}
use Rattle.bidder_agent.proofs.Turns.{starved_first, hello_ends, begun, knows_at, turned, turn_stops, quit_ends, quit_done}
use Rattle.bidder_agent.proofs.agreeing.agree.Goals as goal

pub returns-in_default-clause-talk : goal.returns-in_default-clause-talk
returns-in_default-clause-talk g c = starved_first (part c.args.auction.now c.args.bidder c.args.token.now (g.D.Demands.demands c.args.demands.now) c.args.looks) c.requires.looks (g.L.Link.told c.args.link.now)

pub returns-in_default-vec-clause-talk : goal.returns-in_default-vec-clause-talk
returns-in_default-vec-clause-talk g c = starved_first (part c.args.auction.now c.args.bidder c.args.token.now (g.D.Demands.demands c.args.demands.now) c.args.looks) c.requires.looks (g.L.Link.told c.args.link.now)

pub returns-in_err-exchange-clause-talk : goal.returns-in_err-exchange-clause-talk
returns-in_err-exchange-clause-talk g c =
    let exit = err_from_is_err_and c.from_residual.result c.from_residual.ensures.1 in
    rw (exit.1, exit.2) (hello_ends (part c.args.auction.now c.args.bidder c.args.token.now (g.D.Demands.demands c.args.demands.now) c.args.looks) c.requires.looks (g.L.Link.told c.args.link.now) (g.L.Link.told c.exchange.new.link) c.in_err-exchange.field-0.0
    (subst (λ (token : List ℕ). IsExchange (length c.args.auction.now.terms.goods) c.args.auction.now.terms.bidders None (house.Hello c.args.bidder token) (g.L.Link.told c.args.link.now) (g.L.Link.told c.exchange.new.link) (Err c.in_err-exchange.field-0.0)) (c.from_vec.ensures ∙ c.in-Ok.ensures.items_if_clones_equal (λ x y h. h)) c.in_err-exchange.ensures.exchange))

pub visits-init : goal.visits-init
visits-init g c =
    let known_is : c.in-Ok-vec.known.items ≡ replicate (c.args.auction.now.terms.bidders + 1) unseen = c.in-Ok-vec.ensures.items_if_clones_equal (λ y h. h) ∙ ap (λ (k : Known). replicate (c.args.auction.now.terms.bidders + 1) k) c.unseen.ensures in
    let all : Underway (part c.args.auction.now c.args.bidder c.args.token.now (g.D.Demands.demands c.args.demands.now) c.args.looks) 0 [] (replicate (c.args.auction.now.terms.bidders + 1) unseen) (g.L.Link.told c.args.link.now) (g.L.Link.told c.exchange.new.link) =
    begun (part c.args.auction.now c.args.bidder c.args.token.now (g.D.Demands.demands c.args.demands.now) c.args.looks) c.requires.looks (g.L.Link.told c.args.link.now) (g.L.Link.told c.exchange.new.link) c.in_ok-exchange.field-0 (c.args.auction.now.terms.bidders + 1)
    (subst (λ (token : List ℕ). IsExchange (length c.args.auction.now.terms.goods) c.args.auction.now.terms.bidders None (house.Hello c.args.bidder token) (g.L.Link.told c.args.link.now) (g.L.Link.told c.exchange.new.link) (Ok c.in_ok-exchange.field-0)) (c.from_vec.ensures ∙ c.in-Ok.ensures.items_if_clones_equal (λ x y h. h)) c.in_ok-exchange.ensures.exchange) in
    record {
      underway = subst (λ (l : List SeenLook). Underway (part c.args.auction.now c.args.bidder c.args.token.now (g.D.Demands.demands c.args.demands.now) c.args.looks) 0 l c.in-Ok-vec.known.items (g.L.Link.told c.args.link.now) (g.L.Link.told c.exchange.new.link)) (sym c.new.ensures.items)
          (subst (λ (ks : List Known). Underway (part c.args.auction.now c.args.bidder c.args.token.now (g.D.Demands.demands c.args.demands.now) c.args.looks) 0 [] ks (g.L.Link.told c.args.link.now) (g.L.Link.told c.exchange.new.link)) (sym known_is) all);
      size = ap (λ (ks : List Known). length ks) known_is ∙ length-replicate (c.args.auction.now.terms.bidders + 1) unseen;
      cause = c.in_ok-exchange.ensures.cause;
    }

pub visit-requires-clause-below : goal.visit-requires-clause-below
visit-requires-clause-below g c =
    subst (λ (k : Known). k.repeats < c.args.looks) (sym (c.index.ensures ∙ get_any c.visits.known.items c.in-Some.clock c.index.result.now unseen (subst (λ (ks : List Known). c.in-Some.clock < length ks) c.deref.ensures.value c.in-Some.ensures.within)))
    (knows_at (part c.args.auction.now c.args.bidder c.args.token.now (g.D.Demands.demands c.args.demands.now) c.args.looks) c.visits.from c.visits.seen.looks.items c.visits.known.items (g.L.Link.told c.args.link.now) (g.L.Link.told c.visits.link) c.visits.invariant.underway c.visits.invariant.size c.in-Some.clock (subst (λ (ks : List Known). Some c.in-Some.clock ≡ or_else (open_in c.args.bidder c.visits.from (drop c.visits.from ks)) (open_in c.args.bidder 0 ks)) c.deref.ensures.value c.in-Some.ensures.first) (subst (λ (ks : List Known). c.in-Some.clock < length ks) c.deref.ensures.value c.in-Some.ensures.within) (subst (λ (ks : List Known). (get_or ks c.in-Some.clock unseen).closed ≡ false) c.deref.ensures.value c.in-Some.ensures.goes)).below

pub returns-in_err-after-clause-talk : goal.returns-in_err-after-clause-talk
returns-in_err-after-clause-talk g c =
    let exit = err_from_is_err_and c.from_residual-in_err-after.result c.from_residual-in_err-after.ensures.1 in
    rw (exit.1, exit.2) (turn_stops (part c.args.auction.now c.args.bidder c.args.token.now (g.D.Demands.demands c.args.demands.now) c.args.looks) c.visits.from c.visits.seen.looks.items c.visits.known.items (g.L.Link.told c.args.link.now) (g.L.Link.told c.visits.link) c.visits.invariant.underway c.visits.invariant.size c.in-Some.clock (subst (λ (ks : List Known). Some c.in-Some.clock ≡ or_else (open_in c.args.bidder c.visits.from (drop c.visits.from ks)) (open_in c.args.bidder 0 ks)) c.deref.ensures.value c.in-Some.ensures.first) (subst (λ (ks : List Known). c.in-Some.clock < length ks) c.deref.ensures.value c.in-Some.ensures.within) (subst (λ (ks : List Known). (get_or ks c.in-Some.clock unseen).closed ≡ false) c.deref.ensures.value c.in-Some.ensures.goes)
    c.visit.new.seen.items (g.L.Link.told c.visit.new.link) c.in_err-after.field-0.0 (subst (λ (k : Known). Visits (part c.args.auction.now c.args.bidder c.args.token.now (g.D.Demands.demands c.args.demands.now) c.args.looks) c.in-Some.clock k c.visits.seen.looks.items (g.L.Link.told c.visits.link) c.visit.new.seen.items (g.L.Link.told c.visit.new.link) (Err c.in_err-after.field-0.0)) (c.index.ensures ∙ get_any c.visits.known.items c.in-Some.clock c.index.result.now unseen (subst (λ (ks : List Known). c.in-Some.clock < length ks) c.deref.ensures.value c.in-Some.ensures.within)) c.in_err-after.ensures.visits))

pub visits-smaller : goal.visits-smaller
visits-smaller g c = weigh_set c.visits.known.items c.in-Some.clock c.in_ok-after.after unseen (subst (λ (ks : List Known). c.in-Some.clock < length ks) c.deref.ensures.value c.in-Some.ensures.within) (subst (λ (k : Known). weight c.in_ok-after.after < weight k) (c.index.ensures ∙ get_any c.visits.known.items c.in-Some.clock c.index.result.now unseen (subst (λ (ks : List Known). c.in-Some.clock < length ks) c.deref.ensures.value c.in-Some.ensures.within)) c.in_ok-after.ensures.falls)

pub visits-preserved : goal.visits-preserved
visits-preserved g c = record {
  underway = turned (part c.args.auction.now c.args.bidder c.args.token.now (g.D.Demands.demands c.args.demands.now) c.args.looks) c.visits.from c.visits.seen.looks.items c.visits.known.items (g.L.Link.told c.args.link.now) (g.L.Link.told c.visits.link) c.visits.invariant.underway c.visits.invariant.size c.in-Some.clock (subst (λ (ks : List Known). Some c.in-Some.clock ≡ or_else (open_in c.args.bidder c.visits.from (drop c.visits.from ks)) (open_in c.args.bidder 0 ks)) c.deref.ensures.value c.in-Some.ensures.first) (subst (λ (ks : List Known). c.in-Some.clock < length ks) c.deref.ensures.value c.in-Some.ensures.within) (subst (λ (ks : List Known). (get_or ks c.in-Some.clock unseen).closed ≡ false) c.deref.ensures.value c.in-Some.ensures.goes)
      c.visit.new.seen.items (g.L.Link.told c.visit.new.link) c.in_ok-after.after (subst (λ (k : Known). Visits (part c.args.auction.now c.args.bidder c.args.token.now (g.D.Demands.demands c.args.demands.now) c.args.looks) c.in-Some.clock k c.visits.seen.looks.items (g.L.Link.told c.visits.link) c.visit.new.seen.items (g.L.Link.told c.visit.new.link) (Ok c.in_ok-after.after)) (c.index.ensures ∙ get_any c.visits.known.items c.in-Some.clock c.index.result.now unseen (subst (λ (ks : List Known). c.in-Some.clock < length ks) c.deref.ensures.value c.in-Some.ensures.within)) c.in_ok-after.ensures.visits);
  size = set_length c.visits.known.items c.in-Some.clock c.in_ok-after.after ∙ c.visits.invariant.size;
  cause = c.in_ok-after.ensures.cause ∙ c.visits.invariant.cause;
}

pub returns-clause-talk : goal.returns-clause-talk
returns-clause-talk g c =
    quit_done (part c.args.auction.now c.args.bidder c.args.token.now (g.D.Demands.demands c.args.demands.now) c.args.looks) c.visits.from c.visits.seen.looks.items c.visits.known.items (g.L.Link.told c.args.link.now) (g.L.Link.told c.visits.link) c.visits.invariant.underway c.visits.invariant.size (subst (λ (ks : List Known). None ≡ or_else (open_in c.args.bidder c.visits.from (drop c.visits.from ks)) (open_in c.args.bidder 0 ks)) c.deref.ensures.value (sym c.in_default-next_clock.is ∙ c.next_clock.ensures.first))
    (g.L.Link.told c.exchange-2.new.link) c.in_ok-exchange-2.field-0 c.visits.seen refl c.in_ok-exchange-2.ensures.exchange

pub returns-in_err-exchange-2-clause-talk : goal.returns-in_err-exchange-2-clause-talk
returns-in_err-exchange-2-clause-talk g c =
    let exit = err_from_is_err_and c.from_residual-in_err-exchange-2.result c.from_residual-in_err-exchange-2.ensures.1 in
    rw (exit.1, exit.2) (quit_ends (part c.args.auction.now c.args.bidder c.args.token.now (g.D.Demands.demands c.args.demands.now) c.args.looks) c.visits.from c.visits.seen.looks.items c.visits.known.items (g.L.Link.told c.args.link.now) (g.L.Link.told c.visits.link) c.visits.invariant.underway c.visits.invariant.size (subst (λ (ks : List Known). None ≡ or_else (open_in c.args.bidder c.visits.from (drop c.visits.from ks)) (open_in c.args.bidder 0 ks)) c.deref.ensures.value (sym c.in_default-next_clock.is ∙ c.next_clock.ensures.first))
    (g.L.Link.told c.exchange-2.new.link) c.in_err-exchange-2.field-0.0 c.in_err-exchange-2.ensures.exchange)
