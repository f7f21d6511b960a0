use Rattle.std.proofs.Common.{◌∙◌, ◌++◌, ap, arith}
use Rattle.observed_demand.proofs.Collecting.{terms-at}
use Rattle.house_run.proofs.Explaining.{no-text, text-more}
use Rattle.house_run.proofs.commands.explain.explained_text.Goals as goal

pub loop-clock-init : goal.loop-clock-init
loop-clock-init c = no-text c.new-text.result.items c.new-text.ensures.items

pub explained_line-requires : goal.explained_line-requires
explained_line-requires c = terms-at c.args.terms.now c.args.clocks.now c.loop-clock.clock-index c.clock-item.result c.requires (omega arith) c.clock-item.is

pub loop-clock-preserved : goal.loop-clock-preserved
loop-clock-preserved c =
    text-more c.args.clocks.now c.loop-clock.clock-index c.clock-item.result c.loop-clock.text.items c.in_ok-line.line.items _ (omega arith) c.clock-item.is c.loop-clock.invariant c.in_ok-line.ensures
    (c.in_ok-extend_from_slice.ensures.items ∙ ap (λ t. c.loop-clock.text.items ++ t) c.deref.ensures.value)
