-- Two-way clocks that bidders with strong substitutes have told: they end, and some choice of each clears.
use Rattle.std.proofs.Common.{◌≡◌, ◌<◌, ◌≤◌, ℕ, zero, suc, ◌+◌, true, false, List, [], ◌∷◌, ◌++◌, length, map, get_or, None, is_none, refl, sym, ◌∙◌, ap, arith, subst}
use Rattle.std.specs.Prelude.{ℤ, pos, ◌+ℤ◌, ◌≤ℤ◌}
use Rattle.std.specs.List.{AllByRecursion, range_with_len}
use Rattle.std.proofs.lemmas.List.{map-append}
use Rattle.lot_base.specs.Economy.{IsValuation, IsStrongSubstitutes, AllStrongSubstitutes, AllBelowCeiling}
use Rattle.lot_base.specs.Goods.{AtMost}
use Rattle.lot_base.specs.declared.auction_terms.Terms.{Terms}
use Rattle.lot_base.specs.declared.phases.Phase.{Phase}
use Rattle.lot_base.specs.declared.phases.Phase.TheVariants.{Running, Ended, Halted}
use Rattle.lyapunov.proofs.Bidders.{all-without}
use Rattle.clock.specs.Reports.{all_bidders}
use Rattle.settlement.specs.Clocks.{runs}
use Rattle.settlement.specs.declared.outcome.AwardRow.{AwardRow}
use Rattle.trial.proofs.Finding.{all-both}
use Rattle.trial.proofs.Whole.{AreBidders, each-bidder}
use Rattle.trial.proofs.Sharing.{range-next}
use Rattle.two_way.specs.Histories.{TwoWayHistory, IsStart, members_in}
use Rattle.two_way.specs.Standing.{phase_of, last_round, steps_of}
use Rattle.two_way.specs.Explained.{Explains as IsExplained}
use Rattle.two_way.specs.Floated.{choice_of, AreFloatedBy}
use Rattle.two_way.specs.FloatHistories.{float_reports, IsFloatHistory, IsFloatOf, AreWhole, IsFloat, is_running}
use Rattle.two_way.proofs.Keeping.{few-steps}
use Rattle.two_way.proofs.Rounds.{before-last}
use Rattle.two_way.proofs.Settled.{has-choice, efficient, all-from_start}
use Rattle.two_way.proofs.Telling.{IsOn}
use Rattle.two_way.proofs.Truthful.{from-start, never-halted}
use Rattle.two_way.proofs.Truths.{reports-true}

pub explains-one : (u : ℕ → List ℕ → ℤ) (terms : Terms) (h : TwoWayHistory) → AreBidders terms u → h.terms ≡ terms → h.reports ≡ float_reports h.terms h.number h.start u (last_round h) → IsExplained u h
explains-one u terms h bidders same are =
    let B : Terms → Type 0 = λ t. AreBidders t u in
    let mine = subst B (sym same) bidders in
    record {
      valuations = all-without (λ j. IsValuation h.terms.goods (u j)) h.number (all_bidders h.terms.bidders) (each-bidder (λ j. IsValuation h.terms.goods (u j)) h.terms.bidders mine.valuations);
      substitutes = all-without (λ j. IsStrongSubstitutes h.terms.goods (u j)) h.number (all_bidders h.terms.bidders) (each-bidder (λ j. IsStrongSubstitutes h.terms.goods (u j)) h.terms.bidders mine.substitutes);
      reports = reports-true u h are;
    }

low-values : (u : ℕ → List ℕ → ℤ) (terms : Terms) (h : TwoWayHistory) → AreBidders terms u → h.terms ≡ terms → AllBelowCeiling h.terms.goods u h.terms.ceiling (members_in h)
low-values u terms h bidders same =
    let B : Terms → Type 0 = λ t. AreBidders t u in
    let mine = subst B (sym same) bidders in
    let L : ℕ → Type 0 = λ j. (x : List ℕ) → AtMost x h.terms.goods → (u j x +ℤ pos 1) ≤ℤ pos h.terms.ceiling in
    all-without L h.number (all_bidders h.terms.bidders) (each-bidder L h.terms.bidders mine.below)

pub start-of : (terms : Terms) (start : List ℕ) (h : TwoWayHistory) → IsStart terms start → h.terms ≡ terms → h.start ≡ start → IsStart h.terms h.start
start-of terms start h may same starts =
    let P : Terms → Type 0 = λ t. IsStart t start in
    let Q : List ℕ → Type 0 = λ p. IsStart h.terms p in
    subst Q (sym starts) (subst P (sym same) may)

-- where it does not run it has ended
pub has-ended : (u : ℕ → List ℕ → ℤ) (terms : Terms) (h : TwoWayHistory) → AreBidders terms u → h.terms ≡ terms → IsStart h.terms h.start → h.reports ≡ float_reports h.terms h.number h.start u (last_round h) → is_running h ≡ false → phase_of h ≡ Ended
has-ended u terms h bidders same start are over = by (phase_of h) refl over
  where
    by : (phase : Phase) → phase_of h ≡ phase → runs phase ≡ false → phase_of h ≡ Ended
    by Running e f = absurd (let g : true ≡ false = f in cc)
    by Ended e f = e
    by (Halted good) e f = absurd (never-halted u h good (from-start u h start (explains-one u terms h bidders same are)) (low-values u terms h bidders same) e)

pub whole-on : (u : ℕ → List ℕ → ℤ) (terms : Terms) (start : List ℕ) (number turn : ℕ) (h : TwoWayHistory) → AreBidders terms u → IsStart terms start → IsOn terms start number u turn h → is_running h ≡ false → IsFloatOf terms u start number h
whole-on u terms start number turn h bidders may on over =
    let are = on.over over in
    record {
      terms_are = on.terms_are;
      start_is = on.start_is;
      number_is = on.number_is;
      whole = record { reports_are = are; ended = has-ended u terms h bidders on.terms_are (start-of terms start h may on.terms_are on.start_is) are over };
    }

-- it does not run for so many rounds
pub stops-running : (u : ℕ → List ℕ → ℤ) (terms : Terms) (start : List ℕ) (number turn : ℕ) (h : TwoWayHistory) → IsStart terms start → IsOn terms start number u turn h → 120002 ≤ turn → is_running h ≡ false
stops-running u terms start number turn h may on far = by (is_running h) refl
  where
    by : (b : _) → is_running h ≡ b → b ≡ false
    by false e = refl
    by true e =
        let few = few-steps h (steps_of h) (start-of terms start h may on.terms_are on.start_is) (λ m below. before-last h m below) in
        let many = on.steps e in
        absurd (omega (arith, few, many))

-- the clocks one after another
pub record AreInOrder (terms : Terms) (u : ℕ → List ℕ → ℤ) (start : List ℕ) (count : ℕ) (clocks : List TwoWayHistory) : Type 0 where
  pub numbers : map (λ (h : TwoWayHistory). h.number) clocks ≡ range_with_len 0 count
  pub terms_are : AllByRecursion (λ (h : TwoWayHistory). h.terms ≡ terms) clocks
  pub starts : AllByRecursion (λ (h : TwoWayHistory). h.start ≡ start) clocks
  pub ended : AllByRecursion (λ (h : TwoWayHistory). phase_of h ≡ Ended) clocks
  pub told : AllByRecursion (IsFloatHistory u) clocks

pub order-next : (terms : Terms) (u : ℕ → List ℕ → ℤ) (start : List ℕ) (count : ℕ) (clocks next : List TwoWayHistory) (h : TwoWayHistory) → AreInOrder terms u start count clocks → IsFloatOf terms u start count h → next ≡ clocks ++ h ∷ []
    → AreInOrder terms u start (count + 1) next
order-next terms u start count clocks next h order one is =
    let zero-first : 0 + count ≡ count = omega arith in
    subst (AreInOrder terms u start (count + 1)) (sym is) (record {
      numbers = map-append (λ (h : TwoWayHistory). h.number) clocks (h ∷ []) ∙ (λ i. order.numbers i ++ (one.number_is ∙ sym zero-first) i ∷ []) ∙ sym (range-next 0 count);
      terms_are = all-both (λ (h : TwoWayHistory). h.terms ≡ terms) clocks (h ∷ []) order.terms_are (one.terms_are, tt);
      starts = all-both (λ (h : TwoWayHistory). h.start ≡ start) clocks (h ∷ []) order.starts (one.start_is, tt);
      ended = all-both (λ (h : TwoWayHistory). phase_of h ≡ Ended) clocks (h ∷ []) order.ended (one.whole.ended, tt);
      told = all-both (IsFloatHistory u) clocks (h ∷ []) order.told (one.whole, tt);
    })

pub in-order : (terms : Terms) (u : ℕ → List ℕ → ℤ) (start : List ℕ) (count : ℕ) (clocks : List TwoWayHistory) → AreInOrder terms u start count clocks → count ≡ terms.bidders + 1 → AreWhole terms u start clocks
in-order terms u start count clocks order all =
    record { ended = record { numbers = order.numbers ∙ ap (range_with_len 0) all; terms_are = order.terms_are; starts = order.starts; ended = order.ended }; told = order.told }

-- one of the clocks
pub all-at : {X : Type 0} (P : X → Type 0) (xs : List X) (x : X) (i : ℕ) → AllByRecursion P xs → i < length xs → x ≡ get_or xs i x → P x
all-at P [] x i all below e = absurd (omega arith)
all-at P (y ∷ xs) x zero all below e = subst P (sym e) all.0
all-at P (y ∷ xs) x (suc i) all below e = all-at P xs x i all.1 (omega arith) e

explains-all : (u : ℕ → List ℕ → ℤ) (terms : Terms) (clocks : List TwoWayHistory) → AreBidders terms u → AllByRecursion (λ (h : TwoWayHistory). h.terms ≡ terms) clocks → AllByRecursion (IsFloatHistory u) clocks → AllByRecursion (IsExplained u) clocks
explains-all u terms [] bidders same told = tt
explains-all u terms (h ∷ clocks) bidders same told = (explains-one u terms h bidders same.0 told.0.reports_are, explains-all u terms clocks bidders same.1 told.1)

pub whole-explained : (u : ℕ → List ℕ → ℤ) (terms : Terms) (start : List ℕ) (clocks : List TwoWayHistory) → AreBidders terms u → AreWhole terms u start clocks → AllByRecursion (IsExplained u) clocks
whole-explained u terms start clocks bidders whole = explains-all u terms clocks bidders whole.ended.terms_are whole.told

-- each clock has a choice that clears
pub always-chosen : (u : ℕ → List ℕ → ℤ) (terms : Terms) (start : List ℕ) (clocks : List TwoWayHistory) (h : TwoWayHistory) (i : ℕ) → AreBidders terms u → IsStart terms start → AreWhole terms u start clocks → i < length clocks → h ≡ get_or clocks i h
    → choice_of h ≡ None → ⊥
always-chosen u terms start clocks h i bidders may whole below at none =
    let same = all-at (λ (k : TwoWayHistory). k.terms ≡ terms) clocks h i whole.ended.terms_are below at in
    let starts = all-at (λ (k : TwoWayHistory). k.start ≡ start) clocks h i whole.ended.starts below at in
    let ended = all-at (λ (k : TwoWayHistory). phase_of k ≡ Ended) clocks h i whole.ended.ended below at in
    let told = all-at (IsFloatHistory u) clocks h i whole.told below at in
    let some = has-choice u h (from-start u h (start-of terms start h may same starts) (explains-one u terms h bidders same told.reports_are)) ended in
    (let f : true ≡ false = sym (ap is_none none) ∙ some in cc)

-- what such clocks settle is efficient
pub float-whole : (u : ℕ → List ℕ → ℤ) (terms : Terms) (start : List ℕ) (clocks : List TwoWayHistory) (prices : List ℕ) (rows : List AwardRow) (choices : List (List (List ℕ))) → AreBidders terms u → AllStrongSubstitutes terms.goods u (all_bidders terms.bidders)
    → IsStart terms start → AreWhole terms u start clocks → AreFloatedBy clocks prices rows choices → IsFloat terms u start clocks prices rows choices
float-whole u terms start [] prices rows choices bidders strong may whole floated = absurd floated
float-whole u terms start (h ∷ clocks) prices rows choices bidders strong may whole floated = record {
  ended = whole.ended;
  told = whole.told;
  floated = floated;
  efficient = efficient u terms start h clocks prices rows choices whole.ended (all-from_start u terms start may whole.ended (whole-explained u terms start (h ∷ clocks) bidders whole)) floated;
  substitutes = strong;
}

pub floated-as : (clocks of_clocks : List TwoWayHistory) (choices of_choices all_choices : List (List (List ℕ))) (prices : List ℕ) (rows : List AwardRow) → of_clocks ≡ clocks → of_choices ≡ choices → all_choices ≡ choices
    → AreFloatedBy of_clocks prices rows of_choices → AreFloatedBy clocks prices rows all_choices
floated-as clocks of_clocks choices of_choices all_choices prices rows c x y are =
    let P : List TwoWayHistory → Type 0 = λ cs. AreFloatedBy cs prices rows of_choices in
    let Q : List (List (List ℕ)) → Type 0 = λ xs. AreFloatedBy clocks prices rows xs in
    subst Q (x ∙ sym y) (subst P c are)
