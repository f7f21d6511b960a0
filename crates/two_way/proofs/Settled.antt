-- What two-way clocks settle, where valuations explain them: an equilibrium with the payments of Vickrey, Clarke and Groves.
use Rattle.std.proofs.Common.{◌≡◌, ◌≤◌, ℕ, suc, ◌+◌, false, List, [], ◌∷◌, length, map, Option, Some, None, is_none, add-one, refl, sym, ◌∙◌, ap, arith, subst}
use Rattle.std.specs.Prelude.{ℤ, pos, ◌+ℤ◌, ◌-ℤ◌}
use Rattle.std.specs.List.{AllByRecursion, AllZip, range_with_len}
use Rattle.std.proofs.lemmas.List.{length-map}
use Rattle.lot_base.specs.Goods.{cost}
use Rattle.lot_base.specs.Economy.{demand, without, lyapunov}
use Rattle.lot_base.specs.Choices.{IsClearingChoice}
use Rattle.lot_base.specs.Equilibrium.{IsWalrasian, IsVcgPayment}
use Rattle.lot_base.specs.declared.auction_terms.Terms.{Terms}
use Rattle.lot_base.specs.declared.phases.Phase.TheVariants.{Ended}
use Rattle.lyapunov.specs.Bidders.{IsOneOf, bundle_of}
use Rattle.lyapunov.proofs.Bidders.{all-without, map-bundle_of, AllDifferent-range}
use Rattle.lyapunov.proofs.Payment.{pays-vcg}
use Rattle.lyapunov.proofs.Duality.{clearing-walrasian}
use Rattle.award_assembly.proofs.Places.{first_choice-none, first_choice-clearing}
use Rattle.clock.specs.Reports.{all_bidders, members}
use Rattle.two_way.specs.Histories.{TwoWayHistory, IsStart, members_in}
use Rattle.two_way.specs.Standing.{prices_of, phase_of, steps_of, last_demands, sum_without}
use Rattle.settlement.specs.Efficient.{PaysVcg}
use Rattle.two_way.specs.Floated.{choice_of, AreEnded, IsAwardRow, AreFloated, award_of, IsEfficient}
use Rattle.settlement.specs.declared.outcome.AwardRow.{AwardRow}
use Rattle.settlement.proofs.Efficient.{all-are-members, all-one, from-one, none-out, zip-maps}
use Rattle.settlement.proofs.Members.{count-choice}
use Rattle.settlement.proofs.Explained.{different-members, same-map}
use Rattle.lyapunov.proofs.Existence.{minimiser-clears}
use Rattle.two_way.specs.Explained.{Explains as IsExplained}
use Rattle.two_way.proofs.Truthful.{Explains, from-start, members-true, minimises, sum-rise, full-ended}

-- what the members demand in the last round is what they truly demand there
demands-true : (u : ℕ → List ℕ → ℤ) (h : TwoWayHistory) → Explains u h → phase_of h ≡ Ended
    → map (last_demands h) (members_in h) ≡ map (λ j. demand h.terms.goods (u j) (prices_of h)) (members_in h)
demands-true u h explains ended = same-map (last_demands h) (λ j. demand h.terms.goods (u j) (prices_of h)) (members_in h) (members-true u h (steps_of h) explains (omega arith) (full-ended h ended))

opening-goods : (h : TwoWayHistory) → length h.terms.opening ≡ length h.terms.goods
opening-goods h = h.terms.opens.goods

-- a two-way clock that has ended has a clearing choice
pub has-choice : (u : ℕ → List ℕ → ℤ) (h : TwoWayHistory) → Explains u h → phase_of h ≡ Ended → is_none (choice_of h) ≡ false
unfolding choice_of
has-choice u h explains ended = by (choice_of h) refl
  where
    by : (o : Option (List (List ℕ))) → choice_of h ≡ o → is_none o ≡ false
    by (Some choice) e = refl
    by None e =
        let p = prices_of h in
        let t = minimiser-clears h.terms.goods h.terms.opening u (members_in h) p explains.explained.substitutes (opening-goods h) (minimises u h explains ended) in
        let D : List (List (List ℕ)) → Type 0 = λ ds. IsClearingChoice h.terms.goods h.terms.opening p ds t.0 in
        absurd (first_choice-none h.terms.goods h.terms.opening p (map (last_demands h) (members_in h)) e t.0 (subst D (sym (demands-true u h explains ended)) t.1))

pub choice-clears : (h : TwoWayHistory) (xs : List (List ℕ)) → choice_of h ≡ Some xs → IsClearingChoice h.terms.goods h.terms.opening (prices_of h) (map (last_demands h) (members_in h)) xs
unfolding choice_of
choice-clears h xs e = first_choice-clearing h.terms.goods h.terms.opening (prices_of h) (map (last_demands h) (members_in h)) xs e

pub choice-count : (h : TwoWayHistory) (xs : List (List ℕ)) → choice_of h ≡ Some xs → length xs ≡ length (members_in h)
choice-count h xs e = count-choice _ xs (choice-clears h xs e).chosen ∙ length-map (members_in h) (last_demands h)

-- it is an equilibrium of the members
pub equilibrium : (u : ℕ → List ℕ → ℤ) (h : TwoWayHistory) (xs : List (List ℕ)) → Explains u h → phase_of h ≡ Ended → choice_of h ≡ Some xs
    → IsWalrasian h.terms.goods h.terms.opening u (members_in h) (prices_of h) (bundle_of (members_in h) xs)
equilibrium u h xs explains ended chosen =
    let js = members_in h in
    let p = prices_of h in
    let e = map-bundle_of js xs (different-members h.terms.bidders h.number) (choice-count h xs chosen) in
    let D : List (List (List ℕ)) → Type 0 = λ ds. IsClearingChoice h.terms.goods h.terms.opening p ds xs in
    let X : List (List ℕ) → Type 0 = IsClearingChoice h.terms.goods h.terms.opening p (map (λ j. demand h.terms.goods (u j) p) js) in
    clearing-walrasian h.terms.goods h.terms.opening u js p (bundle_of js xs) (minimises u h explains ended).0 (subst X (sym e) (subst D (demands-true u h explains ended) (choice-clears h xs chosen)))

-- the clock of these terms, as an equilibrium of its members
clock-equilibrium : (u : ℕ → List ℕ → ℤ) (terms : Terms) (h : TwoWayHistory) (xs : List (List ℕ)) → h.terms ≡ terms → Explains u h → phase_of h ≡ Ended → choice_of h ≡ Some xs
    → IsWalrasian terms.goods terms.opening u (members terms.bidders h.number) (prices_of h) (bundle_of (members terms.bidders h.number) xs)
clock-equilibrium u terms h xs same explains ended chosen =
    let P : Terms → Type 0 = λ t. IsWalrasian t.goods t.opening u (members t.bidders h.number) (prices_of h) (bundle_of (members t.bidders h.number) xs) in
    subst P same (equilibrium u h xs explains ended chosen)

-- what is known of the clock of all
record IsWholeClock (u : ℕ → List ℕ → ℤ) (terms : Terms) (start : List ℕ) (all : TwoWayHistory) (x : ℕ → List ℕ) : Type 0 where
  pub same : all.terms ≡ terms
  pub number : all.number ≡ 0
  pub starts : all.start ≡ start
  pub explains : Explains u all
  pub equilibrium : IsWalrasian terms.goods terms.opening u (all_bidders terms.bidders) (prices_of all) x

one-payment : (u : ℕ → List ℕ → ℤ) (terms : Terms) (start : List ℕ) (all own : TwoWayHistory) (x : ℕ → List ℕ) (ys : List (List ℕ)) (row : AwardRow) → IsWholeClock u terms start all x → own.terms ≡ terms → own.start ≡ start → Explains u own
    → phase_of own ≡ Ended → choice_of own ≡ Some ys → IsOneOf own.number (all_bidders terms.bidders) → x own.number ≡ row.award → IsAwardRow all own row → PaysVcg u terms x own.number row
one-payment u terms start all own x ys row whole same starts explains ended chosen one award is =
    let i = own.number in
    let s = terms.goods in
    let o = terms.opening in
    let js = all_bidders terms.bidders in
    let p = prices_of all in
    let q = prices_of own in
    let others = without i js in
    let wy = clock-equilibrium u terms own ys same explains ended chosen in
    let D : Terms → Type 0 = λ t. sum_without own 0 ≡ lyapunov t.goods u (without 0 (members t.bidders i)) q -ℤ lyapunov t.goods u (without 0 (members t.bidders i)) own.start in
    let own-members : without 0 (members terms.bidders i) ≡ others = none-out others (all-without (λ j. 1 ≤ j) i js (from-one 1 terms.bidders (omega arith))) in
    let debit = is.debit_is ∙ subst D same (sum-rise u own 0 explains) ∙ (λ k. lyapunov s u (own-members k) q -ℤ lyapunov s u (own-members k) (starts k)) in
    let C : Terms → Type 0 = λ t. sum_without all i ≡ lyapunov t.goods u (without i (members t.bidders all.number)) p -ℤ lyapunov t.goods u (without i (members t.bidders all.number)) all.start in
    let all-members : without i (members terms.bidders all.number) ≡ others = ap (λ k. without i (members terms.bidders k)) whole.number ∙ ap (without i) (all-are-members terms.bidders) in
    let begins = whole.starts in
    let credit = is.credit_is ∙ subst C whole.same (sum-rise u all i whole.explains) ∙ (λ k. lyapunov s u (all-members k) p -ℤ lyapunov s u (all-members k) (begins k)) in
    let v = pays-vcg s o u js i p q x (bundle_of others ys) (lyapunov s u others start) one whole.equilibrium wy in
    let P : ℤ → Type 0 = IsVcgPayment s o u js x i in
    subst P (sym (is.pays_is ∙ (λ k. (pos (cost p (sym award k)) +ℤ debit k) -ℤ credit k))) v

all-payments : (u : ℕ → List ℕ → ℤ) (terms : Terms) (start : List ℕ) (all : TwoWayHistory) (x : ℕ → List ℕ) → IsWholeClock u terms start all x → (others : List TwoWayHistory) (rows : List AwardRow) (choices : List (List (List ℕ)))
    → AllByRecursion (λ (h : TwoWayHistory). h.terms ≡ terms) others → AllByRecursion (λ (h : TwoWayHistory). h.start ≡ start) others → AllByRecursion (Explains u) others → AllByRecursion (λ (h : TwoWayHistory). phase_of h ≡ Ended) others
    → AllZip (λ h choice. choice_of h ≡ Some choice) others choices → AllByRecursion (λ i. IsOneOf i (all_bidders terms.bidders)) (map (λ (h : TwoWayHistory). h.number) others)
    → AllZip (λ j (row : AwardRow). x j ≡ row.award) (map (λ (h : TwoWayHistory). h.number) others) rows → AllZip (IsAwardRow all) others rows → AllZip (PaysVcg u terms x) (map (λ (h : TwoWayHistory). h.number) others) rows
all-payments u terms start all x whole [] [] choices same starts explains ended chosen one awards are = tt
all-payments u terms start all x whole [] (row ∷ rows) choices same starts explains ended chosen one awards are = absurd are
all-payments u terms start all x whole (own ∷ others) [] choices same starts explains ended chosen one awards are = absurd are
all-payments u terms start all x whole (own ∷ others) (row ∷ rows) [] same starts explains ended chosen one awards are = absurd chosen
all-payments u terms start all x whole (own ∷ others) (row ∷ rows) (ys ∷ choices) same starts explains ended chosen one awards are = (
  one-payment u terms start all own x ys row whole same.0 starts.0 explains.0 ended.0 chosen.0 one.0 awards.0 are.0,
  all-payments u terms start all x whole others rows choices same.1 starts.1 explains.1 ended.1 chosen.1 one.1 awards.1 are.1,
)

pub numbers-of : (terms : Terms) (all : TwoWayHistory) (others : List TwoWayHistory) → map (λ (h : TwoWayHistory). h.number) (all ∷ others) ≡ range_with_len 0 (terms.bidders + 1)
    → (all.number ≡ 0) × (map (λ (h : TwoWayHistory). h.number) others ≡ all_bidders terms.bidders)
numbers-of terms all others numbers =
    let n : terms.bidders + 1 ≡ suc terms.bidders = add-one terms.bidders in
    let e : all.number ∷ map (λ (h : TwoWayHistory). h.number) others ≡ 0 ∷ range_with_len 1 terms.bidders = numbers ∙ ap (range_with_len 0) n in
    (cc, cc)

pub efficient : (u : ℕ → List ℕ → ℤ) (terms : Terms) (start : List ℕ) (all : TwoWayHistory) (others : List TwoWayHistory) (prices : List ℕ) (rows : List AwardRow) (choices : List (List (List ℕ))) → AreEnded terms start (all ∷ others)
    → AllByRecursion (Explains u) (all ∷ others) → AreFloated all others prices rows choices → IsEfficient u terms prices rows
efficient u terms start all others prices rows choices h explains f = by choices f.choices_are
  where
    by : (choices : List (List (List ℕ))) → AllZip (λ h choice. choice_of h ≡ Some choice) (all ∷ others) choices → IsEfficient u terms prices rows
    by [] chosen = absurd chosen
    by (xs ∷ rest) chosen =
        let js = all_bidders terms.bidders in
        let ys = map (λ (row : AwardRow). row.award) rows in
        let numbers = numbers-of terms all others h.numbers in
        let x = award_of terms rows in
        let members-are : members terms.bidders all.number ≡ js = ap (members terms.bidders) numbers.0 ∙ all-are-members terms.bidders in
        let J : List ℕ → Type 0 = λ ks. IsWalrasian terms.goods terms.opening u ks (prices_of all) (bundle_of ks ys) in
        let w = subst J members-are (clock-equilibrium u terms all ys h.terms_are.0 explains.0 h.ended.0 f.awards_are) in
        let P : List ℕ → Type 0 = λ p. IsWalrasian terms.goods terms.opening u js p x in
        let whole : IsWholeClock u terms start all x = record { same = h.terms_are.0; number = numbers.0; starts = h.starts.0; explains = explains.0; equilibrium = w } in
        let count = choice-count all ys f.awards_are ∙ ap length (let m : members_in all ≡ js = ap (λ (t : Terms). members t.bidders all.number) h.terms_are.0 ∙ members-are in m) in
        let awards = zip-maps x (λ (row : AwardRow). row.award) js rows (map-bundle_of js ys (AllDifferent-range 1 terms.bidders) count) in
        let A : List ℕ → Type 0 = λ ks. AllZip (λ j (row : AwardRow). x j ≡ row.award) ks rows in
        let O : List ℕ → Type 0 = λ ks. AllByRecursion (λ i. IsOneOf i js) ks in
        let ones = subst O (sym numbers.1) (all-one terms.bidders 1 terms.bidders (omega arith) (omega arith)) in
        let pays = all-payments u terms start all x whole others rows rest h.terms_are.1 h.starts.1 explains.1 h.ended.1 chosen.1 ones (subst A (sym numbers.1) awards) f.rows_are in
        let V : List ℕ → Type 0 = λ ks. AllZip (PaysVcg u terms x) ks rows in
        record { equilibrium = subst P (sym f.prices_are) w; payments = subst V numbers.1 pays }

-- clocks that start as they may
each-from_start : (u : ℕ → List ℕ → ℤ) (terms : Terms) (start : List ℕ) → IsStart terms start → (clocks : List TwoWayHistory) → AllByRecursion (λ (h : TwoWayHistory). h.terms ≡ terms) clocks
    → AllByRecursion (λ (h : TwoWayHistory). h.start ≡ start) clocks → AllByRecursion (IsExplained u) clocks → AllByRecursion (Explains u) clocks
each-from_start u terms start may [] same starts explains = tt
each-from_start u terms start may (h ∷ clocks) same starts explains =
    let P : Terms → Type 0 = λ t. IsStart t start in
    let Q : List ℕ → Type 0 = λ p. IsStart h.terms p in
    (from-start u h (subst Q (sym starts.0) (subst P (sym same.0) may)) explains.0, each-from_start u terms start may clocks same.1 starts.1 explains.1)

pub all-from_start : (u : ℕ → List ℕ → ℤ) (terms : Terms) (start : List ℕ) {clocks : List TwoWayHistory} → IsStart terms start → AreEnded terms start clocks → AllByRecursion (IsExplained u) clocks → AllByRecursion (Explains u) clocks
all-from_start u terms start {clocks} may ended explains = each-from_start u terms start may clocks ended.terms_are ended.starts explains
