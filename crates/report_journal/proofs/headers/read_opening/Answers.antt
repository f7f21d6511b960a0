use Rattle.std.proofs.Common.{◌≡◌, ◌*◌, ◌∙◌, length, get_or, take, drop, sym, ap, arith, length-take-le}
use Rattle.std.proofs.lemmas.List.{take_rest}
use Rattle.report_journal.proofs.Prefixes.{opened, opening_read}
use Rattle.report_journal.proofs.headers.read_opening.Goals as goal
use Rattle.report_journal.proofs.headers.read_opening.Goals.{then-count-gt-MOST_GOODS-via-then-count-gt-MOST_GOODS, then-count-gt-MOST_GOODS-via-else-count-gt-MOST_GOODS+then-bytes-count}

pub returns-then-count-gt-MOST_GOODS : goal.returns-then-count-gt-MOST_GOODS
returns-then-count-gt-MOST_GOODS c = λ opening opens_with.
    let is = opened opening c.args.bytes.now opens_with in
    elim c.then-count-gt-MOST_GOODS.branch [
      | then-count-gt-MOST_GOODS-via-then-count-gt-MOST_GOODS w ↦ omega (arith, w.if-count-gt-MOST_GOODS, is.count, opens_with.few)
      | then-count-gt-MOST_GOODS-via-else-count-gt-MOST_GOODS+then-bytes-count w ↦ omega (arith, w.if-bytes-count, is.count, is.long)
    ]

pub returns : goal.returns
returns c =
    let bytes = c.args.bytes.now in
    let count = get_or bytes 1 0 in
    let prices = take count c.prices_in-prices.result in
    let long : length prices ≡ count = length-take-le count c.prices_in-prices.result (omega (arith, c.prices_in-prices.ensures.size, c.if-count-gt-MOST_GOODS.false)) in
    opening_read c.read.result prices bytes c.read.ensures.some c.read.ensures.none c.prices_in-prices.ensures.fit
    (record { mark = c.if-bytes-ne-OPENING.false; count = sym long; long = omega (arith, long, c.if-bytes-count.false) })
    (omega (arith, long, c.if-count-gt-MOST_GOODS.false))
    (c.prices_in-prices.ensures.spelled ∙ ap (λ l. take (4 * count) l) (take_rest bytes 2) ∙ ap (λ k. take (4 * k) (drop 2 bytes)) (sym long))
