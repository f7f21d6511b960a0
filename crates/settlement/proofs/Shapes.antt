-- Where clocks of legal histories have an outcome it is whole: each bundle of a choice is one of a report, and so has an entry for
-- each good.
use Rattle.std.proofs.Common.{◌≡◌, ℕ, List, [], ◌∷◌, length, map, Option, Some, None, unwrap_or, Bool, true, false, cond, nat_eq, refl, sym, ◌∙◌, ap, subst, arith, inl, inr}
use Rattle.std.specs.Prelude.{IfSome}
use Rattle.std.specs.List.{AllByRecursion, AllZip}
use Rattle.lot_base.specs.Goods.{AtMost}
use Rattle.lot_base.specs.Box.{IsIn}
use Rattle.lot_base.specs.Choices.{IsChoice}
use Rattle.lot_base.specs.Demands.{IsDemand}
use Rattle.lot_base.specs.declared.auction_terms.Terms.{Terms}
use Rattle.lot_base.proofs.Vec.{length-below}
use Rattle.demand_set.specs.declared.reports.Report.{Report}
use Rattle.clock.specs.Reports.{ClockHistory, members_of, demand_in, demands_in}
use Rattle.clock.specs.Standing.{last_round, last_demands}
use Rattle.clock.specs.Judging.{IsLegal}
use Rattle.settlement.specs.Clocks.{AreClocksOf, opening_of}
use Rattle.settlement.specs.Settling.{IsClockRow, IsAwardRow, IsSettled}
use Rattle.settlement.specs.Shapes.{IsOf, IsRowOfClock, ArePricesOfFirst, HasShape, IsWholeOutcome}
use Rattle.settlement.specs.declared.outcome.AwardRow.{AwardRow}
use Rattle.settlement.specs.declared.outcome.ClockRow.{ClockRow}
use Rattle.settlement.specs.declared.outcome.Outcome.{Outcome}
use Rattle.clock.proofs.Excesses.{found-fits}
use Rattle.settlement.proofs.Zips.{zip-length}
use Rattle.settlement.proofs.Auction.{count-clocks}
use Rattle.settlement.proofs.Bounds.{path-of, choice-clears, choice-count}

in-all : (P : List ℕ → Type 0) (xs : List (List ℕ)) (x : List ℕ) → AllByRecursion P xs → IsIn x xs → P x
in-all P [] x all h = absurd h
in-all P (y ∷ xs) x all (inl e) = subst P (sym e) all.0
in-all P (y ∷ xs) x all (inr h) = in-all P xs x all.1 h

bundle-fits : (goods : List ℕ) (reports : List Report) (round bidder : ℕ) (x : List ℕ) → AllByRecursion (λ (r : Report). IsDemand goods r.demand) reports → IsIn x (demands_in reports round bidder) → IsOf (length goods) x
bundle-fits goods reports round bidder x all chosen = by (demand_in reports round bidder) refl chosen
  where
    by : (o : Option (List (List ℕ))) → demand_in reports round bidder ≡ o → IsIn x (unwrap_or o []) → IsOf (length goods) x
    by None e h = absurd h
    by (Some d) e h = length-below x goods (in-all (λ y. AtMost y goods) d x (found-fits goods reports round bidder d all e).in_box h)

choices-fit : (c : ClockHistory) (js : List ℕ) (xs : List (List ℕ)) → IsLegal c → IsChoice (map (last_demands c) js) xs → AllByRecursion (IsOf (length c.terms.goods)) xs
choices-fit c [] [] legal h = tt
choices-fit c [] (x ∷ xs) legal h = absurd h
choices-fit c (j ∷ js) [] legal h = absurd h
choices-fit c (j ∷ js) (x ∷ xs) legal h = (bundle-fits c.terms.goods c.reports (last_round c) j x legal.demands h.0, choices-fit c js xs legal h.1)

row-fits : (c : ClockHistory) (row : ClockRow) → IsLegal c → IsClockRow c row → IsRowOfClock (length c.terms.goods) c.terms.bidders c.number row
row-fits c row legal is = record {
  prices_fit = ap length is.prices_are ∙ (path-of c).goods;
  members_choose = choice-count c row.choices is.choice_is;
  choices_fit = choices-fit c (members_of c) row.choices legal (choice-clears c row.choices is.choice_is).chosen;
}

rows-fit : (terms : Terms) (clocks : List ClockHistory) (rows : List ClockRow) → AllByRecursion (λ (c : ClockHistory). c.terms ≡ terms) clocks → AllByRecursion IsLegal clocks → AllZip IsClockRow clocks rows
    → AllZip (IsRowOfClock (length terms.goods) terms.bidders) (map (λ (c : ClockHistory). c.number) clocks) rows
rows-fit terms [] [] same legal zip = tt
rows-fit terms [] (row ∷ rows) same legal zip = absurd zip
rows-fit terms (c ∷ clocks) [] same legal zip = absurd zip
rows-fit terms (c ∷ clocks) (row ∷ rows) same legal zip =
    let P : Terms → Type 0 = λ t. IsRowOfClock (length t.goods) t.bidders c.number row in
    (subst P same.0 (row-fits c row legal.0 zip.0), rows-fit terms clocks rows same.1 legal.1 zip.1)

awards-fit : (goods : ℕ) (rows : List AwardRow) → AllByRecursion (IsOf goods) (map (λ (row : AwardRow). row.award) rows) → AllByRecursion (λ (row : AwardRow). IsOf goods row.award) rows
awards-fit goods [] all = tt
awards-fit goods (row ∷ rows) all = (all.0, awards-fit goods rows all.1)

first-prices : (all : ClockHistory) (others : List ClockHistory) (prices : List ℕ) (rows : List ClockRow) → ((row : ClockRow) → IsClockRow all row → prices ≡ row.prices) → AllZip IsClockRow (all ∷ others) rows → ArePricesOfFirst prices rows
first-prices all others prices [] e zip = absurd zip
first-prices all others prices (row ∷ rows) e zip = e row zip.0

-- the opening that is shown has one price for each good
opening-fits : (terms : Terms) (shown : Option (List ℕ)) → shown ≡ opening_of terms → IfSome shown (IsOf (length terms.goods))
opening-fits terms shown e = subst (λ o. IfSome o (IsOf (length terms.goods))) (sym e) (by (nat_eq terms.version 2))
  where
    by : (b : Bool) → IfSome (cond b (Some terms.opening) None) (IsOf (length terms.goods))
    by true = terms.opens.goods
    by false = tt

pub whole : (terms : Terms) (clocks : List ClockHistory) (o : Outcome) → AreClocksOf terms clocks → AllByRecursion IsLegal clocks → IsSettled clocks o → IsWholeOutcome o
whole terms [] o h legal s = absurd s
whole terms (all ∷ others) o h legal s =
    let goods : length o.prices ≡ length terms.goods = ap length s.prices_are ∙ (path-of all).goods ∙ ap (λ (t : Terms). length t.goods) h.terms_are.0 in
    let n = count-clocks terms (all ∷ others) h in
    let m = zip-length (IsAwardRow all) others o.rows s.rows_are in
    let bidders : length o.rows ≡ terms.bidders = omega arith in
    let awards = choices-fit all (members_of all) (map (λ (row : AwardRow). row.award) o.rows) legal.0 (choice-clears all (map (λ (row : AwardRow). row.award) o.rows) s.awards_are).chosen in
    let A : Terms → Type 0 = λ t. AllByRecursion (λ (row : AwardRow). IsOf (length t.goods) row.award) o.rows in
    let Z : List ℕ → Type 0 = λ ks. AllZip (IsRowOfClock (length terms.goods) terms.bidders) ks o.clocks in
    let shape : HasShape (length terms.goods) terms.bidders o = record {
      prices_fit = goods;
      opening_fits = opening-fits terms o.opening (s.opening_is ∙ ap opening_of h.terms_are.0);
      bidders_fit = bidders;
      awards_fit = subst A h.terms_are.0 (awards-fit (length all.terms.goods) o.rows awards);
      clocks_fit = subst Z h.numbers (rows-fit terms (all ∷ others) o.clocks h.terms_are legal s.clocks_are);
      first = first-prices all others o.prices o.clocks (λ row is. s.prices_are ∙ sym is.prices_are) s.clocks_are;
    } in
    let S : ℕ → ℕ → Type 0 = λ g b. HasShape g b o in
    let supply = terms.supply in
    let range = terms.bidders_in_range in
    record {
      some_goods = let low = supply.some_good in omega arith;
      few_goods = let high = supply.few_goods in omega arith;
      some_bidders = let low = range.at_least in omega arith;
      few_bidders = let high = range.at_most in omega arith;
      shape = subst (λ g. S g (length o.rows)) (sym goods) (subst (λ b. S (length terms.goods) b) (sym bidders) shape);
    }
