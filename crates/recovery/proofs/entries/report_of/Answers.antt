use Rattle.std.proofs.Common.{◌≡◌, arith, rules, Err}
use Rattle.report_journal.proofs.Kept.{is_false}
use Rattle.demand_set.specs.Reading.{demand_of, bundles_of, AreWhole}
use Rattle.byte_numbers.specs.Spelling.{short_numbers}
use Rattle.recovery.proofs.Spelling.{spelled-none, spelled-empty, spelled-bidder, spelled-some, numbers-some}
use Rattle.recovery.proofs.entries.report_of.Goals as goal
use Rattle.recovery.proofs.entries.report_of.Goals.{then-bidder-lt1-via-then-bidder-lt1, then-bidder-lt1-via-else-bidder-lt1+then-bidder-terms}

pub returns-then-bidder-lt1-clause-none : goal.returns-then-bidder-lt1-clause-none
returns-then-bidder-lt1-clause-none c = spelled-bidder c.args.terms.now c.args.bidder c.args.round c.args.goods (short_numbers c.args.quantities.now)
    (λ low high. elim c.then-bidder-lt1.branch [
      | then-bidder-lt1-via-then-bidder-lt1 w ↦ omega arith
      | then-bidder-lt1-via-else-bidder-lt1+then-bidder-terms w ↦ omega arith
    ])

pub returns-then-not-has_some-clause-none : goal.returns-then-not-has_some-clause-none
returns-then-not-has_some-clause-none c =
    let numbers = short_numbers c.args.quantities.now in
    spelled-empty c.args.terms.now c.args.bidder c.args.round c.args.goods numbers c.has_some.ensures.small
    (λ some. is_false c.has_some.ensures.some c.if-not-has_some.true (numbers-some c.args.quantities.now some))

pub read_bytes-requires : goal.read_bytes-requires
read_bytes-requires c =
    let whole = c.requires in
    record { some_good = whole.some_good; few_goods = whole.few_goods; count = whole.count; whole = whole.whole }

pub returns-in-Ok-clause-some : goal.returns-in-Ok-clause-some
returns-in-Ok-clause-some c =
    let numbers = short_numbers c.args.quantities.now in
    let whole : AreWhole c.args.goods numbers = record { some_good = c.requires.some_good; few_goods = c.requires.few_goods; count = c.requires.count; whole = c.requires.whole } in
    spelled-some c.args.terms.now c.args.bidder c.args.round c.args.goods numbers c.in-Ok.demand (omega arith) (omega arith) (omega arith) whole c.in-Ok.ensures.fits c.in-Ok.ensures.value

pub returns-in-Err : goal.returns-in-Err
returns-in-Err c =
    let numbers = short_numbers c.args.quantities.now in
    let refused : Err c.in-Err.field-0 ≡ demand_of c.args.terms.now.goods c.args.goods (bundles_of c.args.goods numbers) = search rules in
    record { some = tt; none = spelled-none c.args.terms.now c.args.bidder c.args.round c.args.goods numbers c.in-Err.field-0 c.has_some.ensures.small refused }
