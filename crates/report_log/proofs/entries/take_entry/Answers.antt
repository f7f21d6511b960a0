-- The front was cut into a length, a payload and the rest, as far as it reaches.
use Rattle.std.proofs.Common.{◌∙◌, ap, arith, length, length-drop, refl}
use Rattle.byte_numbers.specs.Spelling.{big_number}
use Rattle.report_log.proofs.TakenEntries.{cut-by, cut-short, no-report, taken-entry, too-long, too-short}
use Rattle.report_log.proofs.entries.take_entry.Goals as goal

pub returns-then-bytes-lt4 : goal.returns-then-bytes-lt4
returns-then-bytes-lt4 c = (record { short = omega arith; no_entry = too-short c.args.terms.now c.args.clock.now.history c.args.bytes.now (omega arith) }, refl)

pub returns-then-size : goal.returns-then-size
returns-then-size c =
    let size = c.number_of-size.ensures.value ∙ ap (big_number 4) c.split_at.ensures.front in
    (too-long c.args.terms.now c.args.clock.now.history c.args.bytes.now c.number_of-size.result (omega arith) size (omega arith), refl)

pub returns-then-after-size : goal.returns-then-after-size
returns-then-after-size c =
    let size = c.number_of-size.ensures.value ∙ ap (big_number 4) c.split_at.ensures.front in (
      record {
        short = omega (arith, ap length c.split_at.ensures.back, length-drop 4 c.args.bytes.now);
        no_entry = cut-short c.args.terms.now c.args.clock.now.history c.args.bytes.now c.number_of-size.result size (omega (arith, ap length c.split_at.ensures.back));
      },
      refl,
    )

pub returns-then-branch : goal.returns-then-branch
returns-then-branch c =
    let front = c.split_at.result.0.now in
    let size = c.number_of-size.ensures.value in
    let cut = cut-by c.args.bytes.now front c.split_at.result.1.now c.split_at-2.result.0.now c.split_at-2.result.1.now c.number_of-size.result (omega arith) c.split_at.ensures.front c.split_at.ensures.back size (omega arith) c.split_at-2.ensures.front c.split_at-2.ensures.back in
    let taken = c.in_ok-take_payload.ensures.some c.if-branch.true in
    record {
      report = taken.report;
      entry = taken-entry c.args.terms.now c.args.clock.now.history c.args.bytes.now c.split_at-2.result.0.now c.split_at-2.result.1.now c.number_of-size.result taken.report (λ i. let fits = c.type_inv.bytes i in omega arith) cut taken.spells taken.take;
      new_is = taken.new_is;
    }

pub returns-else-branch : goal.returns-else-branch
returns-else-branch c =
    let front = c.split_at.result.0.now in
    let size = c.number_of-size.ensures.value in
    let cut = cut-by c.args.bytes.now front c.split_at.result.1.now c.split_at-2.result.0.now c.split_at-2.result.1.now c.number_of-size.result (omega arith) c.split_at.ensures.front c.split_at.ensures.back size (omega arith) c.split_at-2.ensures.front c.split_at-2.ensures.back in
    let none = c.in_ok-take_payload.ensures.none c.if-branch.false in
    (no-report c.args.terms.now c.args.clock.now.history c.args.bytes.now c.split_at-2.result.0.now c.split_at-2.result.1.now c.number_of-size.result c.requires (λ i. let fits = c.type_inv.bytes i in omega arith) cut (omega arith) none.none, none.same)
