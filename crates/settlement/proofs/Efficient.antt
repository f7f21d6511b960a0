-- Where valuations explain all clocks, an outcome is an equilibrium with the payments of Vickrey, Clarke and Groves.
use Rattle.std.proofs.Common.{◌≡◌, ◌≤◌, ℕ, zero, suc, ◌+◌, false, not, nat_eq, cond, List, [], ◌∷◌, length, map, Some, add-one, refl, sym, ◌∙◌, ap, arith, subst}
use Rattle.std.specs.Prelude.{ℤ, pos, ◌+ℤ◌, ◌-ℤ◌}
use Rattle.std.specs.List.{AllByRecursion, AllZip, range_with_len}
use Rattle.std.proofs.lemmas.Bool.Decides.{nat_tests}
use Rattle.lot_base.specs.Goods.{cost, AtMost}
use Rattle.lot_base.specs.Economy.{without, lyapunov, IsLeastMinimiser}
use Rattle.lot_base.specs.Equilibrium.{IsWalrasian, IsWalrasianPrices, IsLeastWalrasian, IsVcgPayment}
use Rattle.lot_base.specs.declared.auction_terms.Terms.{Terms}
use Rattle.lot_base.specs.declared.phases.Phase.TheVariants.{Ended}
use Rattle.lyapunov.specs.Bidders.{IsOneOf, bundle_of}
use Rattle.lyapunov.proofs.Bidders.{all-without, IsOneOf-range, map-bundle_of, AllDifferent-range}
use Rattle.lyapunov.proofs.Payment.{pays-vcg}
use Rattle.lyapunov.proofs.Duality.{walrasian-welfare, walrasian-minimises}
use Rattle.clock.specs.Reports.{ClockHistory, all_bidders, members, members_of}
use Rattle.clock.specs.Standing.{phase_of, prices_of}
use Rattle.clock.specs.Accounts.{account_without}
use Rattle.clock.specs.Explained.{Explains}
use Rattle.clock.proofs.Truthful.{account-rise, least-minimiser}
use Rattle.settlement.specs.Clocks.{AreClocksOf, choice_of}
use Rattle.settlement.specs.Settling.{AreSettled, IsClockRow, IsAwardRow, IsOutcomeOf}
use Rattle.settlement.specs.Efficient.{ExplainsAll, award_of, PaysVcg, IsBestChoice, HasLeastPrices, IsEfficient, IsEfficientSettlement}
use Rattle.settlement.specs.declared.outcome.AwardRow.{AwardRow}
use Rattle.settlement.specs.declared.outcome.ClockRow.{ClockRow}
use Rattle.settlement.specs.declared.outcome.Outcome.{Outcome}
use Rattle.settlement.specs.declared.outcome.Settlement.{Settlement}
use Rattle.settlement.specs.declared.outcome.Settlement.TheVariants.{Settled, Open, Halted, NoAward}
use Rattle.settlement.proofs.Firsts.{all-ended}
use Rattle.settlement.proofs.Bounds.{choice-count}
use Rattle.settlement.proofs.Explained.{explained-equilibrium}
use Rattle.settlement.proofs.Lower.{lower}
use Rattle.settlement.proofs.Never.{never-lacks, never-halts}

-- bidders from 1 on: leaving out nobody changes nothing
pub none-out : (js : List ℕ) → AllByRecursion (λ j. 1 ≤ j) js → without 0 js ≡ js
none-out [] some = refl
none-out (j ∷ js) some =
    let s = some.0 in
    let t : nat_eq j 0 ≡ false = grind (arith, nat_tests) in
    ap (λ b. cond (not b) (j ∷ without 0 js) (without 0 js)) t ∙ ap (λ ks. j ∷ ks) (none-out js some.1)

pub from-one : (a n : ℕ) → 1 ≤ a → AllByRecursion (λ j. 1 ≤ j) (range_with_len a n)
from-one a zero some = tt
from-one a (suc n) some = (some, from-one (a + 1) n (omega arith))

pub all-are-members : (n : ℕ) → members n 0 ≡ all_bidders n
all-are-members n = none-out (range_with_len 1 n) (from-one 1 n (omega arith))

pub all-one : (m a n : ℕ) → 1 ≤ a → a + n ≡ 1 + m → AllByRecursion (λ i. IsOneOf i (all_bidders m)) (range_with_len a n)
all-one m a zero some e = tt
all-one m a (suc n) some e = (IsOneOf-range a 1 m some (omega arith), all-one m (a + 1) n (omega arith) (omega arith))

pub zip-maps : {A B C : Type 0} (f : A → C) (g : B → C) (xs : List A) (ys : List B) → map f xs ≡ map g ys → AllZip (λ x y. f x ≡ g y) xs ys
zip-maps f g [] [] e = tt
zip-maps f g [] (y ∷ ys) e = absurd (let h : [] ≡ g y ∷ map g ys = e in cc)
zip-maps f g (x ∷ xs) [] e = absurd (let h : f x ∷ map f xs ≡ [] = e in cc)
zip-maps f g (x ∷ xs) (y ∷ ys) e = let head : f x ≡ g y = cc in let tail : map f xs ≡ map g ys = cc in (head, zip-maps f g xs ys tail)

-- the clock of these terms, as an equilibrium of its members
clock-equilibrium : (u : ℕ → List ℕ → ℤ) (terms : Terms) (c : ClockHistory) (xs : List (List ℕ)) → c.terms ≡ terms → Explains u c → phase_of c ≡ Ended → choice_of c ≡ Some xs
    → IsWalrasian terms.goods terms.opening u (members terms.bidders c.number) (prices_of c) (bundle_of (members terms.bidders c.number) xs)
clock-equilibrium u terms c xs same explains ended chosen =
    let P : Terms → Type 0 = λ t. IsWalrasian t.goods t.opening u (members t.bidders c.number) (prices_of c) (bundle_of (members t.bidders c.number) xs) in
    subst P same (explained-equilibrium u c xs explains ended chosen)

all-choices : (u : ℕ → List ℕ → ℤ) (terms : Terms) (clocks : List ClockHistory) (rows : List ClockRow) → AllByRecursion (λ (c : ClockHistory). c.terms ≡ terms) clocks → ExplainsAll u clocks
    → AllByRecursion (λ (c : ClockHistory). phase_of c ≡ Ended) clocks → AllZip IsClockRow clocks rows → AllZip (IsBestChoice u terms) (map (λ (c : ClockHistory). c.number) clocks) rows
all-choices u terms [] [] same explains ended zip = tt
all-choices u terms [] (row ∷ rows) same explains ended zip = absurd zip
all-choices u terms (c ∷ clocks) [] same explains ended zip = absurd zip
all-choices u terms (c ∷ clocks) (row ∷ rows) same explains ended zip =
    let w = clock-equilibrium u terms c row.choices same.0 explains.0 ended.0 zip.0.choice_is in (
      walrasian-welfare terms.goods terms.opening u (members terms.bidders c.number) (prices_of c) (bundle_of (members terms.bidders c.number) row.choices) w,
      all-choices u terms clocks rows same.1 explains.1 ended.1 zip.1,
    )

-- the prices of each clock
all-least : (u : ℕ → List ℕ → ℤ) (terms : Terms) (clocks : List ClockHistory) (rows : List ClockRow) → AllByRecursion (λ (c : ClockHistory). c.terms ≡ terms) clocks → ExplainsAll u clocks
    → AllByRecursion (λ (c : ClockHistory). phase_of c ≡ Ended) clocks → AllZip IsClockRow clocks rows → AllZip (HasLeastPrices u terms) (map (λ (c : ClockHistory). c.number) clocks) rows
all-least u terms [] [] same explains ended zip = tt
all-least u terms [] (row ∷ rows) same explains ended zip = absurd zip
all-least u terms (c ∷ clocks) [] same explains ended zip = absurd zip
all-least u terms (c ∷ clocks) (row ∷ rows) same explains ended zip =
    let K : Terms → Type 0 = λ t. IsLeastMinimiser t.opening (lyapunov t.goods u (members t.bidders c.number)) (prices_of c) in
    let P : List ℕ → Type 0 = λ p. IsLeastMinimiser terms.opening (lyapunov terms.goods u (members terms.bidders c.number)) p in
    (subst P (sym zip.0.prices_are) (subst K same.0 (least-minimiser u c explains.0 ended.0)), all-least u terms clocks rows same.1 explains.1 ended.1 zip.1)

-- what is known of the clock of all
record IsWholeClock (u : ℕ → List ℕ → ℤ) (terms : Terms) (all : ClockHistory) (x : ℕ → List ℕ) : Type 0 where
  pub same : all.terms ≡ terms
  pub number : all.number ≡ 0
  pub explains : Explains u all
  pub equilibrium : IsWalrasian terms.goods terms.opening u (all_bidders terms.bidders) (prices_of all) x

one-payment : (u : ℕ → List ℕ → ℤ) (terms : Terms) (all own : ClockHistory) (x : ℕ → List ℕ) (ys : List (List ℕ)) (row : AwardRow) → IsWholeClock u terms all x → own.terms ≡ terms → Explains u own → phase_of own ≡ Ended
    → choice_of own ≡ Some ys → IsOneOf own.number (all_bidders terms.bidders) → x own.number ≡ row.award → IsAwardRow all own row → PaysVcg u terms x own.number row
one-payment u terms all own x ys row whole same explains ended chosen one award is =
    let i = own.number in
    let s = terms.goods in
    let o = terms.opening in
    let js = all_bidders terms.bidders in
    let p = prices_of all in
    let q = prices_of own in
    let others = without i js in
    let wy = clock-equilibrium u terms own ys same explains ended chosen in
    let D : Terms → Type 0 = λ t. account_without own 0 ≡ lyapunov t.goods u (without 0 (members t.bidders i)) q -ℤ lyapunov t.goods u (without 0 (members t.bidders i)) t.opening in
    let own-members : without 0 (members terms.bidders i) ≡ others = none-out others (all-without (λ j. 1 ≤ j) i js (from-one 1 terms.bidders (omega arith))) in
    let debit = is.debit_is ∙ subst D same (account-rise u own 0 explains) ∙ ap (λ ks. lyapunov s u ks q -ℤ lyapunov s u ks o) own-members in
    let C : Terms → Type 0 = λ t. account_without all i ≡ lyapunov t.goods u (without i (members t.bidders all.number)) p -ℤ lyapunov t.goods u (without i (members t.bidders all.number)) t.opening in
    let all-members : without i (members terms.bidders all.number) ≡ others = ap (λ k. without i (members terms.bidders k)) whole.number ∙ ap (without i) (all-are-members terms.bidders) in
    let credit = is.credit_is ∙ subst C whole.same (account-rise u all i whole.explains) ∙ ap (λ ks. lyapunov s u ks p -ℤ lyapunov s u ks o) all-members in
    let v = pays-vcg s o u js i p q x (bundle_of others ys) (lyapunov s u others o) one whole.equilibrium wy in
    let P : ℤ → Type 0 = IsVcgPayment s o u js x i in
    subst P (sym (is.pays_is ∙ (λ k. (pos (cost p (sym award k)) +ℤ debit k) -ℤ credit k))) v

all-payments : (u : ℕ → List ℕ → ℤ) (terms : Terms) (all : ClockHistory) (x : ℕ → List ℕ) → IsWholeClock u terms all x → (others : List ClockHistory) (rows : List AwardRow) (clocks : List ClockRow)
    → AllByRecursion (λ (c : ClockHistory). c.terms ≡ terms) others → ExplainsAll u others → AllByRecursion (λ (c : ClockHistory). phase_of c ≡ Ended) others → AllZip IsClockRow others clocks
    → AllByRecursion (λ i. IsOneOf i (all_bidders terms.bidders)) (map (λ (c : ClockHistory). c.number) others) → AllZip (λ j (row : AwardRow). x j ≡ row.award) (map (λ (c : ClockHistory). c.number) others) rows
    → AllZip (IsAwardRow all) others rows → AllZip (PaysVcg u terms x) (map (λ (c : ClockHistory). c.number) others) rows
all-payments u terms all x whole [] [] clocks same explains ended zip one awards are = tt
all-payments u terms all x whole [] (row ∷ rows) clocks same explains ended zip one awards are = absurd are
all-payments u terms all x whole (own ∷ others) [] clocks same explains ended zip one awards are = absurd are
all-payments u terms all x whole (own ∷ others) (row ∷ rows) [] same explains ended zip one awards are = absurd zip
all-payments u terms all x whole (own ∷ others) (row ∷ rows) (r ∷ clocks) same explains ended zip one awards are = (
  one-payment u terms all own x r.choices row whole same.0 explains.0 ended.0 zip.0.choice_is one.0 awards.0 are.0,
  all-payments u terms all x whole others rows clocks same.1 explains.1 ended.1 zip.1 one.1 awards.1 are.1,
)

pub numbers-of : (terms : Terms) (all : ClockHistory) (others : List ClockHistory) → AreClocksOf terms (all ∷ others) → (all.number ≡ 0) × (map (λ (c : ClockHistory). c.number) others ≡ all_bidders terms.bidders)
numbers-of terms all others h =
    let n : terms.bidders + 1 ≡ suc terms.bidders = add-one terms.bidders in
    let e : all.number ∷ map (λ (c : ClockHistory). c.number) others ≡ 0 ∷ range_with_len 1 terms.bidders = h.numbers ∙ ap (range_with_len 0) n in
    (cc, cc)

pub efficient : (u : ℕ → List ℕ → ℤ) (terms : Terms) (all : ClockHistory) (others : List ClockHistory) (o : Outcome) → AreClocksOf terms (all ∷ others) → ExplainsAll u (all ∷ others)
    → AllByRecursion (λ (c : ClockHistory). phase_of c ≡ Ended) (all ∷ others) → AreSettled all others o → IsEfficient u terms o
efficient u terms all others o h explains ended s = by o.clocks s.clocks_are
  where
    by : (clocks : List ClockRow) → AllZip IsClockRow (all ∷ others) clocks → IsEfficient u terms o
    by [] zip = absurd zip
    by (row ∷ clocks) zip =
        let js = all_bidders terms.bidders in
        let xs = map (λ (row : AwardRow). row.award) o.rows in
        let numbers = numbers-of terms all others h in
        let x = award_of terms o in
        let members-are : members terms.bidders all.number ≡ js = ap (members terms.bidders) numbers.0 ∙ all-are-members terms.bidders in
        let J : List ℕ → Type 0 = λ ks. IsWalrasian terms.goods terms.opening u ks (prices_of all) (bundle_of ks xs) in
        let w = subst J members-are (clock-equilibrium u terms all xs h.terms_are.0 explains.0 ended.0 s.awards_are) in
        let P : List ℕ → Type 0 = λ p. IsWalrasian terms.goods terms.opening u js p x in
        let equilibrium = subst P (sym s.prices_are) w in
        let L : List ℕ → Type 0 = λ p. IsLeastWalrasian terms.goods terms.opening u js p in
        let whole : IsWholeClock u terms all x = record { same = h.terms_are.0; number = numbers.0; explains = explains.0; equilibrium = w } in
        let count = choice-count all xs s.awards_are ∙ ap length (let m : members_of all ≡ js = ap (λ (t : Terms). members t.bidders all.number) h.terms_are.0 ∙ members-are in m) in
        let awards = zip-maps x (λ (row : AwardRow). row.award) js o.rows (map-bundle_of js xs (AllDifferent-range 1 terms.bidders) count) in
        let A : List ℕ → Type 0 = λ ks. AllZip (λ j (row : AwardRow). x j ≡ row.award) ks o.rows in
        let O : List ℕ → Type 0 = λ ks. AllByRecursion (λ i. IsOneOf i js) ks in
        let ones = subst O (sym numbers.1) (all-one terms.bidders 1 terms.bidders (omega arith) (omega arith)) in
        let pays = all-payments u terms all x whole others o.rows clocks h.terms_are.1 explains.1 ended.1 zip.1 ones (subst A (sym numbers.1) awards) s.rows_are in
        let V : List ℕ → Type 0 = λ ks. AllZip (PaysVcg u terms x) ks o.rows in
        let B : List ℕ → Type 0 = λ ks. AllZip (IsBestChoice u terms) ks o.clocks in
        let M : List ℕ → Type 0 = λ ks. AllZip (HasLeastPrices u terms) ks o.clocks in
        record {
          equilibrium = equilibrium;
          welfare = walrasian-welfare terms.goods terms.opening u js (prices_of all) x w;
          least = subst L (sym s.prices_are) ((x, w), λ q v. below q v);
          payments = subst V numbers.1 pays;
          no_higher = lower u terms o all s.prices_are h.terms_are.0 members-are explains.0 ended.0 others o.clocks h.terms_are.1 explains.1 ones s.clocks_are;
          choices = subst B h.numbers (all-choices u terms (all ∷ others) o.clocks h.terms_are explains ended s.clocks_are);
          least_prices = subst M h.numbers (all-least u terms (all ∷ others) o.clocks h.terms_are explains ended s.clocks_are);
        }
      where
        below : (q : List ℕ) → IsWalrasianPrices terms.goods terms.opening u (all_bidders terms.bidders) q → AtMost (prices_of all) q
        below q v =
            let numbers = numbers-of terms all others h in
            let K : Terms → Type 0 = λ t. IsLeastMinimiser t.opening (lyapunov t.goods u (members t.bidders all.number)) (prices_of all) in
            let N : List ℕ → Type 0 = λ ks. IsLeastMinimiser terms.opening (lyapunov terms.goods u ks) (prices_of all) in
            let least = subst N (ap (members terms.bidders) numbers.0 ∙ all-are-members terms.bidders) (subst K h.terms_are.0 (least-minimiser u all explains.0 ended.0)) in
            least.1 q (walrasian-minimises terms.goods terms.opening u (all_bidders terms.bidders) q v.0 v.1)

pub efficient-if : (u : ℕ → List ℕ → ℤ) (terms : Terms) (clocks : List ClockHistory) (s : Settlement) → AreClocksOf terms clocks → ExplainsAll u clocks → IsOutcomeOf clocks s → IsEfficientSettlement u terms s
efficient-if u terms clocks (Open clock round missing) h explains is = tt
efficient-if u terms clocks (Halted clock good) h explains is = λ below. never-halts u terms clocks clock good explains h.terms_are below is.1
efficient-if u terms clocks (NoAward clock) h explains is = never-lacks u clocks (λ (c : ClockHistory). clock ≡ c.number) explains (all-ended clocks is.0 is.1) is.2
efficient-if u terms [] (Settled o) h explains is = absurd is.3
efficient-if u terms (all ∷ others) (Settled o) h explains is = efficient u terms all others o h explains (all-ended (all ∷ others) is.0 is.1) is.3
