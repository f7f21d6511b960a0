-- The row of one bidder among all rows, and what it pays there.
use Rattle.std.proofs.Common.{◌≡◌, ◌≤◌, inl, inr, ℕ, zero, suc, ◌+◌, Bool, true, false, not, cond, nat_eq, List, [], ◌∷◌, map, add-one, Some, refl, sym, ◌∙◌, ap, arith, subst}
use Rattle.std.specs.Prelude.{count_by, ℤ, pos, ◌+ℤ◌, ◌-ℤ◌}
use Rattle.std.specs.List.{AllByRecursion, AllZip, range_with_len}
use Rattle.std.proofs.lemmas.Bool.Decides.{nat_tests}
use Rattle.lot_base.specs.Goods.{cost}
use Rattle.lot_base.specs.Economy.{without, lyapunov}
use Rattle.lot_base.specs.Equilibrium.{IsVcgPayment, IsWalrasian}
use Rattle.lot_base.specs.declared.auction_terms.Terms.{Terms}
use Rattle.lot_base.specs.declared.phases.Phase.TheVariants.{Ended}
use Rattle.lyapunov.specs.Bidders.{IsOneOf, bundle_of}
use Rattle.lyapunov.proofs.Bidders.{count-first, all-without, IsOneOf-range}
use Rattle.clock.specs.Reports.{ClockHistory, all_bidders, members}
use Rattle.clock.specs.Standing.{phase_of, prices_of}
use Rattle.clock.specs.Accounts.{account_without}
use Rattle.clock.specs.Judging.{IsLegal}
use Rattle.clock.proofs.Truthful.{account-rise}
use Rattle.settlement.specs.Clocks.{AreClocksOf, choice_of}
use Rattle.settlement.specs.Settling.{AreSettled, IsClockRow, IsAwardRow, IsOutcomeOf}
use Rattle.settlement.specs.Efficient.{award_of}
use Rattle.settlement.specs.declared.outcome.AwardRow.{AwardRow}
use Rattle.settlement.specs.declared.outcome.ClockRow.{ClockRow}
use Rattle.settlement.specs.declared.outcome.Outcome.{Outcome}
use Rattle.settlement.specs.declared.outcome.Settlement.TheVariants.{Settled}
use Rattle.settlement.proofs.Firsts.{all-ended}
use Rattle.settlement.proofs.Explained.{explained-equilibrium}
use Rattle.settlement.proofs.Efficient.{none-out, from-one, all-are-members, numbers-of}
use Rattle.settlement.specs.Incentives.{ExplainsBut, AreOthersTrue, IsAmongTruthful, pays_in, payment_of}
use Rattle.settlement.proofs.ButOne.{account-but}
use Rattle.settlement.proofs.OwnClock.{own-explains}
use Rattle.settlement.proofs.Nearly.{IsNearly, choice-nearly, nearly-pays}

-- what is known of a clock without a bidder
pub record IsOwnClock (i : ℕ) (u : ℕ → List ℕ → ℤ) (terms : Terms) (own : ClockHistory) (row : ClockRow) : Type 0 where
  pub same : own.terms ≡ terms
  pub ended : phase_of own ≡ Ended
  pub chosen : choice_of own ≡ Some row.choices
  pub truthful : AreOthersTrue i u own
  pub legal : IsLegal own

-- the clock without bidder i and the rows of both
pub record HasOwn (i : ℕ) (u : ℕ → List ℕ → ℤ) (terms : Terms) (all : ClockHistory) (award : List ℕ) (pays : ℤ) : Type 0 where
  pub own : ClockHistory
  pub clock_row : ClockRow
  pub row : AwardRow
  pub number_is : own.number ≡ i
  pub is_own : IsOwnClock i u terms own clock_row
  pub is_row : IsAwardRow all own row
  pub award_is : award ≡ row.award
  pub pays_is : pays ≡ row.pays

pub own-of : (i : ℕ) (u : ℕ → List ℕ → ℤ) (terms : Terms) (all : ClockHistory) (js : List ℕ) (others : List ClockHistory) (rows : List AwardRow) (clocks : List ClockRow)
    → map (λ (c : ClockHistory). c.number) others ≡ js → IsOneOf i js
    → AllByRecursion (λ (c : ClockHistory). c.terms ≡ terms) others → AllByRecursion (λ (c : ClockHistory). phase_of c ≡ Ended) others → AllByRecursion (AreOthersTrue i u) others → AllByRecursion IsLegal others
    → AllZip IsClockRow others clocks → AllZip (IsAwardRow all) others rows
    → HasOwn i u terms all (bundle_of js (map (λ (row : AwardRow). row.award) rows) i) (pays_in js rows i)
own-of i u terms all [] others rows clocks numbers one same ended truthful legal zip are = absurd (omega arith)
own-of i u terms all (j ∷ js) [] rows clocks numbers one same ended truthful legal zip are = absurd (let h : [] ≡ j ∷ js = numbers in cc)
own-of i u terms all (j ∷ js) (own ∷ others) [] clocks numbers one same ended truthful legal zip are = absurd are
own-of i u terms all (j ∷ js) (own ∷ others) (row ∷ rows) [] numbers one same ended truthful legal zip are = absurd zip
own-of i u terms all (j ∷ js) (own ∷ others) (row ∷ rows) (r ∷ clocks) numbers one same ended truthful legal zip are =
    let n : own.number ∷ map (λ (c : ClockHistory). c.number) others ≡ j ∷ js = numbers in
    let head : own.number ≡ j = cc in
    let tail : map (λ (c : ClockHistory). c.number) others ≡ js = cc in
    by (nat_eq j i) refl head (sym (count-first i j js) ∙ one)
    (λ still. own-of i u terms all js others rows clocks tail still same.1 ended.1 truthful.1 legal.1 zip.1 are.1)
  where
    by : (b : Bool) → nat_eq j i ≡ b → own.number ≡ j → cond b 1 0 + count_by (λ k. nat_eq k i) js ≡ 1
        → (IsOneOf i js → HasOwn i u terms all (bundle_of js (map (λ (row : AwardRow). row.award) rows) i) (pays_in js rows i))
        → HasOwn i u terms all (cond b row.award (bundle_of js (map (λ (row : AwardRow). row.award) rows) i)) (cond b row.pays (pays_in js rows i))
    by true e number one later = record {
      own = own;
      clock_row = r;
      row = row;
      number_is = number ∙ (grind (arith, nat_tests));
      is_own = record { same = same.0; ended = ended.0; chosen = zip.0.choice_is; truthful = truthful.0; legal = legal.0 };
      is_row = are.0;
      award_is = refl;
      pays_is = refl;
    }
    by false e number one later = later (omega arith)

-- the payment in a row
one-payment : (i : ℕ) (u : ℕ → List ℕ → ℤ) (terms : Terms) (all : ClockHistory) (x : ℕ → List ℕ) (pays : ℤ) → all.terms ≡ terms → all.number ≡ 0 → ExplainsBut i u all
    → IsNearly i terms.goods terms.opening u (all_bidders terms.bidders) (prices_of all) x → IsOneOf i (all_bidders terms.bidders) → HasOwn i u terms all (x i) pays
    → IsVcgPayment terms.goods terms.opening u (all_bidders terms.bidders) x i pays
one-payment i u terms all x pays same number explains nearly one h =
    let own = h.own in
    let s = terms.goods in
    let o = terms.opening in
    let js = all_bidders terms.bidders in
    let p = prices_of all in
    let q = prices_of own in
    let others = without i js in
    let ys = h.clock_row.choices in
    let true-own = own-explains i u own h.is_own.legal h.number_is (h.is_own.truthful (inr h.number_is)) in
    let members-are : members terms.bidders own.number ≡ others = ap (members terms.bidders) h.number_is in
    let E : Terms → Type 0 = λ t. IsWalrasian t.goods t.opening u (members t.bidders own.number) q (bundle_of (members t.bidders own.number) ys) in
    let F : List ℕ → Type 0 = λ ks. IsWalrasian s o u ks q (bundle_of ks ys) in
    let wy = subst F members-are (subst E h.is_own.same (explained-equilibrium u own ys true-own h.is_own.ended h.is_own.chosen)) in
    let D : Terms → Type 0 = λ t. account_without own 0 ≡ lyapunov t.goods u (without 0 (members t.bidders own.number)) q -ℤ lyapunov t.goods u (without 0 (members t.bidders own.number)) t.opening in
    let own-members : without 0 (members terms.bidders own.number) ≡ others = ap (without 0) members-are ∙ none-out others (all-without (λ j. 1 ≤ j) i js (from-one 1 terms.bidders (omega arith))) in
    let debit = h.is_row.debit_is ∙ subst D h.is_own.same (account-rise u own 0 true-own) ∙ ap (λ ks. lyapunov s u ks q -ℤ lyapunov s u ks o) own-members in
    let C : Terms → Type 0 = λ t. account_without all i ≡ lyapunov t.goods u (without i (members t.bidders all.number)) p -ℤ lyapunov t.goods u (without i (members t.bidders all.number)) t.opening in
    let all-members : without i (members terms.bidders all.number) ≡ others = ap (λ k. without i (members terms.bidders k)) number ∙ ap (without i) (all-are-members terms.bidders) in
    let credit = h.is_row.credit_is ∙ ap (account_without all) h.number_is ∙ subst C same (account-but u all i explains) ∙ ap (λ ks. lyapunov s u ks p -ℤ lyapunov s u ks o) all-members in
    let award = h.award_is in
    let v = nearly-pays s o u js i p q x (bundle_of others ys) (lyapunov s u others o) one nearly wy in
    let P : ℤ → Type 0 = IsVcgPayment s o u js x i in
    subst P (sym (h.pays_is ∙ h.is_row.pays_is ∙ (λ k. (pos (cost p (sym award k)) +ℤ debit k) -ℤ credit k))) v

-- an outcome by the clock of all
pub settled-nearly : (i : ℕ) (u : ℕ → List ℕ → ℤ) (terms : Terms) (all : ClockHistory) (others : List ClockHistory) (o : Outcome) → IsAmongTruthful i u terms (all ∷ others)
    → AllByRecursion (λ (c : ClockHistory). phase_of c ≡ Ended) (all ∷ others) → AreSettled all others o
    → IsNearly i terms.goods terms.opening u (all_bidders terms.bidders) (prices_of all) (award_of terms o)
settled-nearly i u terms all others o h ended s =
    let xs = map (λ (row : AwardRow). row.award) o.rows in
    let numbers = numbers-of terms all others h.clocks_are in
    let members-are : members terms.bidders all.number ≡ all_bidders terms.bidders = ap (members terms.bidders) numbers.0 ∙ all-are-members terms.bidders in
    let N : Terms → Type 0 = λ t. IsNearly i t.goods t.opening u (members t.bidders all.number) (prices_of all) (bundle_of (members t.bidders all.number) xs) in
    let J : List ℕ → Type 0 = λ ks. IsNearly i terms.goods terms.opening u ks (prices_of all) (bundle_of ks xs) in
    subst J members-are (subst N h.clocks_are.terms_are.0 (choice-nearly i u all xs h.legal.0 (h.others.0 (inl numbers.0)) ended.0 s.awards_are))

settled-pays : (i : ℕ) (u : ℕ → List ℕ → ℤ) (terms : Terms) (all : ClockHistory) (others : List ClockHistory) (o : Outcome) → IsAmongTruthful i u terms (all ∷ others)
    → AllByRecursion (λ (c : ClockHistory). phase_of c ≡ Ended) (all ∷ others) → AreSettled all others o
    → IsVcgPayment terms.goods terms.opening u (all_bidders terms.bidders) (award_of terms o) i (payment_of terms o i)
settled-pays i u terms all others o h ended s = by o.clocks s.clocks_are
  where
    by : (clocks : List ClockRow) → AllZip IsClockRow (all ∷ others) clocks → IsVcgPayment terms.goods terms.opening u (all_bidders terms.bidders) (award_of terms o) i (payment_of terms o i)
    by [] zip = absurd zip
    by (row ∷ clocks) zip =
        let js = all_bidders terms.bidders in
        let numbers = numbers-of terms all others h.clocks_are in
        let same = h.clocks_are.terms_are.0 in
        let explains = h.others.0 (inl numbers.0) in
        let nearly = settled-nearly i u terms all others o h ended s in
        let from = h.from_one in
        let last = h.to_last in
        let one = IsOneOf-range i 1 terms.bidders from (omega arith) in
        let own = own-of i u terms all js others o.rows clocks numbers.1 one h.clocks_are.terms_are.1 ended.1 h.others.1 h.legal.1 zip.1 s.rows_are in
        one-payment i u terms all (award_of terms o) (payment_of terms o i) same numbers.0 explains nearly one own

-- what a bidder among truthful others pays
pub truthful-pays : (i : ℕ) (u : ℕ → List ℕ → ℤ) (terms : Terms) (clocks : List ClockHistory) (o : Outcome) → IsAmongTruthful i u terms clocks → IsOutcomeOf clocks (Settled o)
    → IsVcgPayment terms.goods terms.opening u (all_bidders terms.bidders) (award_of terms o) i (payment_of terms o i)
truthful-pays i u terms [] o h is = absurd is.3
truthful-pays i u terms (all ∷ others) o h is = settled-pays i u terms all others o h (all-ended (all ∷ others) is.0 is.1) is.3

-- and its award, at the prices of the outcome
pub truthful-nearly : (i : ℕ) (u : ℕ → List ℕ → ℤ) (terms : Terms) (clocks : List ClockHistory) (o : Outcome) → IsAmongTruthful i u terms clocks → IsOutcomeOf clocks (Settled o)
    → IsNearly i terms.goods terms.opening u (all_bidders terms.bidders) o.prices (award_of terms o)
truthful-nearly i u terms [] o h is = absurd is.3
truthful-nearly i u terms (all ∷ others) o h is =
    let P : List ℕ → Type 0 = λ p. IsNearly i terms.goods terms.opening u (all_bidders terms.bidders) p (award_of terms o) in
    subst P (sym is.3.prices_are) (settled-nearly i u terms all others o h (all-ended (all ∷ others) is.0 is.1) is.3)
