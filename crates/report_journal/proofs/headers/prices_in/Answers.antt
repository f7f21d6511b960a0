use Rattle.std.proofs.Common.{◌<◌, ◌∙◌, length, arith, length-set}
use Rattle.report_journal.proofs.Prefixes.{prices_more, prices_fit}
use Rattle.report_journal.proofs.headers.prices_in.Goals as goal

pub loop-good-preserved : goal.loop-good-preserved
loop-good-preserved c =
    let before = c.loop-good.invariant in
    let room : c.loop-good.good < length c.loop-good.prices = omega (arith, before.size, c.requires.few) in
    record {
      size = length-set c.loop-good.prices c.loop-good.good c.number_of.result ∙ before.size;
      spelled = prices_more c.loop-good.prices c.args.bytes.now c.loop-good.good c.number_of.result _ room before.spelled (omega arith) c.number_of.ensures.spelled;
      fit = prices_fit c.loop-good.prices c.loop-good.good c.number_of.result room before.fit c.number_of.type_inv;
    }
