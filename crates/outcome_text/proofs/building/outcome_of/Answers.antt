-- The parts are those of the outcome, and what is made of parts can be read.
use Rattle.std.proofs.Common.{◌≡◌, ◌∙◌, List, Option, Some, None, IfSome, sym, ap, subst, get_or}
use Rattle.settlement.specs.declared.outcome.AwardRow.{AwardRow}
use Rattle.settlement.specs.declared.outcome.ClockRow.{ClockRow}
use Rattle.settlement.specs.declared.outcome.Outcome.{Outcome}
use Rattle.outcome_text.specs.Parts.{AreAwardsOf, AreClocksOf, IsReadable}
use Rattle.outcome_text.proofs.Made.{made-readable, same-some, front-found, awards-found, clocks-found, first-prices}
use Rattle.outcome_text.proofs.building.outcome_of.Goals as goal

pub returns-in-None-clause-back : goal.returns-in-None-clause-back
returns-in-None-clause-back c = λ o h shows e.
    let front = front-found c.args.shows_opening c.args.numbers.now c.head.new.self.rest.now None c.in-None.ensures.back o h shows e in
    let none = front.front_is in
    absurd (cc)

pub returns-in-None-2-clause-back : goal.returns-in-None-2-clause-back
returns-in-None-2-clause-back c = λ o h shows e.
    let goods = c.in-Some.head.goods in
    let bidders = c.in-Some.head.bidders in
    let front = front-found c.args.shows_opening c.args.numbers.now c.head.new.self.rest.now (Some c.in-Some.head) c.in-Some.ensures.back o h shows e in
    let awards = awards-found goods bidders c.in-Some.head.opening c.head.new.self.rest.now c.award_rows.new.self.rest.now _ c.in_ok-rows.ensures.back o h front in
    let none : None ≡ Some o.rows = sym c.in-None-2.is ∙ awards.rows_are in
    absurd (cc)

pub returns-in-None-3-clause-back : goal.returns-in-None-3-clause-back
returns-in-None-3-clause-back c = λ o h shows e.
    let goods = c.in-Some.head.goods in
    let bidders = c.in-Some.head.bidders in
    let front = front-found c.args.shows_opening c.args.numbers.now c.head.new.self.rest.now (Some c.in-Some.head) c.in-Some.ensures.back o h shows e in
    let awards = awards-found goods bidders c.in-Some.head.opening c.head.new.self.rest.now c.award_rows.new.self.rest.now _ c.in_ok-rows.ensures.back o h front in
    let clocks = clocks-found goods bidders c.in-Some.head.opening c.head.new.self.rest.now c.award_rows.new.self.rest.now c.clock_rows.new.self.rest.now _ _ c.in_ok-clocks.ensures.back o h front awards in
    let none : None ≡ Some o.clocks = sym c.in-None-3.is ∙ clocks in
    absurd (cc)

pub returns-clause-fit : goal.returns-clause-fit
returns-clause-fit c =
    let goods = c.in-Some.head.goods in
    let bidders = c.in-Some.head.bidders in
    let Rows : Option (List AwardRow) → Type 0 = λ r. IfSome r (AreAwardsOf goods bidders) in
    let Clocks : Option (List ClockRow) → Type 0 = λ r. IfSome r (AreClocksOf goods bidders) in
    let made = made-readable goods bidders c.in-Some.head.opening c.in-Some-2.rows c.in-Some-3.clocks c.index-as_slice-0.result c.in-Some.ensures.fit.goods c.in-Some.ensures.fit.bidders c.in-Some.ensures.fit.opening
    (subst Rows c.in-Some-2.is c.in_ok-rows.ensures.fit) (subst Clocks c.in-Some-3.is c.in_ok-clocks.ensures.fit) in
    let P : List ClockRow → Type 0 = λ clocks. IsReadable (record { prices = (get_or clocks 0 c.index-as_slice-0.result).prices; opening = c.in-Some.head.opening; rows = c.in-Some-2.rows; clocks = c.in-Some-3.clocks }) in
    subst P (sym c.as_slice.ensures) made

pub returns-clause-back : goal.returns-clause-back
returns-clause-back c = λ o h shows e.
    let goods = c.in-Some.head.goods in
    let bidders = c.in-Some.head.bidders in
    let front = front-found c.args.shows_opening c.args.numbers.now c.head.new.self.rest.now (Some c.in-Some.head) c.in-Some.ensures.back o h shows e in
    let awards = awards-found goods bidders c.in-Some.head.opening c.head.new.self.rest.now c.award_rows.new.self.rest.now _ c.in_ok-rows.ensures.back o h front in
    let found = clocks-found goods bidders c.in-Some.head.opening c.head.new.self.rest.now c.award_rows.new.self.rest.now c.clock_rows.new.self.rest.now _ _ c.in_ok-clocks.ensures.back o h front awards in
    let rows : c.in-Some-2.rows ≡ o.rows = let s = sym c.in-Some-2.is ∙ awards.rows_are in cc in
    let clocks : c.in-Some-3.clocks ≡ o.clocks = let s = sym c.in-Some-3.is ∙ found in cc in
    let prices = first-prices o c.as_slice.result.now c.index-as_slice-0.result h (c.as_slice.ensures ∙ clocks) in
    let made : Outcome = record { prices = (get_or c.as_slice.result.now 0 c.index-as_slice-0.result).prices; opening = c.in-Some.head.opening; rows = c.in-Some-2.rows; clocks = c.in-Some-3.clocks } in
    let head = same-some front.front_is in
    let same : made ≡ o = λ i. record { prices = prices i; opening = (head i).opening; rows = rows i; clocks = clocks i } in
    ap (λ o. Some o) same
