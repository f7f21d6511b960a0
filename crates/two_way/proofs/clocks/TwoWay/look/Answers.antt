use Rattle.std.proofs.Common.{◌≡◌, List, ℕ, true, false, sym, ◌∙◌, subst}
use Rattle.lot_base.specs.Economy.{IsMinimiser}
use Rattle.two_way.specs.Explained.{lyapunov_of}
use Rattle.two_way.proofs.Settled.{has-choice}
use Rattle.two_way.proofs.Truthful.{from-start, minimises, never-halted}
use Rattle.two_way.proofs.clocks.TwoWay.look.Goals as goal

pub returns-clause-shows : goal.returns-clause-shows
returns-clause-shows c = λ u explains.
    let h = c.args.self.now in
    let e = from-start u h c.shown.ensures.started explains in
    let phase = sym c.shown.ensures.phase in
    let M : List ℕ → Type 0 = IsMinimiser h.terms.opening (lyapunov_of u h) in
    record {
      minimum = λ ended. subst M (sym c.shown.ensures.prices) (minimises u h e (phase ∙ ended));
      choice = λ ended none. (let f : false ≡ true = sym (has-choice u h e (phase ∙ ended)) ∙ none in cc);
      unhalted = λ good low halted. never-halted u h good e low (phase ∙ halted);
    }
