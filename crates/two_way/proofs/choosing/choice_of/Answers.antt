use Rattle.std.proofs.Common.{Some, None, length, ap, ◌∙◌}
use Rattle.lot_base.specs.declared.auction_terms.Terms.{Terms}
use Rattle.two_way.proofs.Paying.{choice-from}
use Rattle.two_way.proofs.choosing.choice_of.Goals as goal

pub assemble-requires-clause-prices : goal.assemble-requires-clause-prices
assemble-requires-clause-prices c = c.look-look.ensures.goods ∙ ap (λ (t : Terms). length t.goods) c.requires.terms

pub returns-in-Award : goal.returns-in-Award
returns-in-Award c =
    choice-from c.args.clock.now c.args.terms.now c.look-look.result.prices c.deref.result.now (Some c.in-Award.choice) c.requires.terms c.look-look.ensures.prices (c.deref.ensures.value ∙ c.in_ok-demands.ensures.demands)
    (rw c.in-Award.is at c.in_ok-choice.ensures.first)

pub returns : goal.returns
returns c =
    choice-from c.args.clock.now c.args.terms.now c.look-look.result.prices c.deref.result.now None c.requires.terms c.look-look.ensures.prices (c.deref.ensures.value ∙ c.in_ok-demands.ensures.demands)
    (rw c.in-NoChoice.is at c.in_ok-choice.ensures.first)
