-- What a trial settles.
use Rattle.std.proofs.Common.{◌≡◌, ◌≢◌, ◌≤◌, ℕ, zero, suc, ◌+◌, Bool, true, false, not, nat_eq, cond, List, [], ◌∷◌, map, Option, Some, None, refl, sym, ◌∙◌, ap, arith, subst}
use Rattle.std.specs.Prelude.{find, MatchOption, ℤ, pos, ◌+ℤ◌, ◌≤ℤ◌}
use Rattle.std.specs.List.{AllByRecursion, range_with_len}
use Rattle.lot_base.specs.Goods.{AtMost}
use Rattle.lot_base.specs.Economy.{without, IsValuation, IsStrongSubstitutes}
use Rattle.lot_base.specs.declared.auction_terms.Terms.{Terms}
use Rattle.lot_base.specs.declared.phases.Phase.{Phase}
use Rattle.lot_base.specs.declared.phases.Phase.TheVariants.{Running, Ended, Halted}
use Rattle.clock.specs.Reports.{ClockHistory, all_bidders}
use Rattle.clock.specs.Standing.{phase_of, last_round, missing_of}
use Rattle.clock.specs.Explained.{Explains}
use Rattle.settlement.specs.Clocks.{is_running, runs}
use Rattle.settlement.specs.Settling.{IsOutcomeOf}
use Rattle.settlement.specs.Efficient.{ExplainsAll, IsEfficientSettlement}
use Rattle.settlement.specs.declared.outcome.Settlement.{Settlement}
use Rattle.settlement.specs.declared.outcome.Settlement.TheVariants.{Settled, Open, Halted as Stopped, NoAward}
use Rattle.settlement.proofs.Efficient.{efficient-if}
use Rattle.trial.specs.Trials.{IsTrialHistory, IsTrial, IsSettledWell}
use Rattle.trial.proofs.Prices.{one-history, history-true}

-- what is so of each bidder from 1 to n is so of all, and of all members
all-range : (P : ℕ → Type 0) (last a n : ℕ) → 1 ≤ a → a + n ≤ last + 1 → ((j : ℕ) → 1 ≤ j → j ≤ last → P j) → AllByRecursion P (range_with_len a n)
all-range P last a zero low high f = tt
all-range P last a (suc n) low high f = (f a low (omega arith), all-range P last (a + 1) n (omega arith) (omega arith) f)

all-left : (P : ℕ → Type 0) (b : ℕ) (js : List ℕ) → AllByRecursion P js → AllByRecursion P (without b js)
all-left P b [] all = tt
all-left P b (j ∷ js) all = by (not (nat_eq j b)) (all-left P b js all.1)
  where
    by : (v : Bool) → AllByRecursion P (without b js) → AllByRecursion P (cond v (j ∷ without b js) (without b js))
    by true rest = (all.0, rest)
    by false rest = rest

pub each-bidder : (P : ℕ → Type 0) (n : ℕ) → ((j : ℕ) → 1 ≤ j → j ≤ n → P j) → AllByRecursion P (all_bidders n)
each-bidder P n f = all-range P n 1 n (omega arith) (omega arith) f

-- what is known of the bidders of a trial
pub record AreBidders (terms : Terms) (u : ℕ → List ℕ → ℤ) : Type 0 where
  pub valuations : (j : ℕ) → 1 ≤ j → j ≤ terms.bidders → IsValuation terms.goods (u j)
  pub substitutes : (j : ℕ) → 1 ≤ j → j ≤ terms.bidders → IsStrongSubstitutes terms.goods (u j)
  pub below : (j : ℕ) → 1 ≤ j → j ≤ terms.bidders → (x : List ℕ) → AtMost x terms.goods → (u j x +ℤ pos 1) ≤ℤ pos terms.ceiling

explains-one : (u : ℕ → List ℕ → ℤ) (terms : Terms) (h : ClockHistory) → AreBidders terms u → h.terms ≡ terms → IsTrialHistory u h → Explains u h
explains-one u terms h bidders same trial =
    let B : Terms → Type 0 = λ t. AreBidders t u in
    let mine = subst B (sym same) bidders in
    record {
      valuations = all-left (λ j. IsValuation h.terms.goods (u j)) h.number (all_bidders h.terms.bidders) (each-bidder (λ j. IsValuation h.terms.goods (u j)) h.terms.bidders mine.valuations);
      substitutes = all-left (λ j. IsStrongSubstitutes h.terms.goods (u j)) h.number (all_bidders h.terms.bidders) (each-bidder (λ j. IsStrongSubstitutes h.terms.goods (u j)) h.terms.bidders mine.substitutes);
      reports = history-true u h trial;
    }

pub explains-each : (u : ℕ → List ℕ → ℤ) (terms : Terms) (clocks : List ClockHistory) → AreBidders terms u → AllByRecursion (λ (c : ClockHistory). c.terms ≡ terms) clocks → AllByRecursion (IsTrialHistory u) clocks → ExplainsAll u clocks
explains-each u terms [] bidders same trials = tt
explains-each u terms (h ∷ clocks) bidders same trials = (explains-one u terms h bidders same.0 trials.0, explains-each u terms clocks bidders same.1 trials.1)

-- no clock of a trial is running
not-runs : (phase : Phase) → phase ≢ Running → runs phase ≡ false
not-runs Running over = absurd (over refl)
not-runs Ended over = refl
not-runs (Halted good) over = refl

none-runs : (u : ℕ → List ℕ → ℤ) (clocks : List ClockHistory) → AllByRecursion (IsTrialHistory u) clocks → find is_running clocks ≡ None
none-runs u [] trials = refl
none-runs u (h ∷ clocks) trials = ap (λ b. cond b (Some h) (find is_running clocks)) (not-runs (phase_of h) trials.0.over) ∙ none-runs u clocks trials.1

pub settles-well : (u : ℕ → List ℕ → ℤ) (terms : Terms) (clocks : List ClockHistory) (s : Settlement) → AreBidders terms u → IsTrial terms u clocks → IsOutcomeOf clocks s → IsSettledWell u terms s
settles-well u terms clocks s bidders trial is = by s is (efficient-if u terms clocks s trial.clocks_are (explains-each u terms clocks bidders trial.clocks_are.terms_are trial.each) is)
  where
    by : (s : Settlement) → IsOutcomeOf clocks s → IsEfficientSettlement u terms s → IsSettledWell u terms s
    by (Settled outcome) is well = well
    by (Open clock round missing) is well =
        let F : Option ClockHistory → Type 0 = λ o. MatchOption o ⊥ (λ (c : ClockHistory). (clock ≡ c.number) × (round ≡ last_round c) × (missing ≡ missing_of c)) in
        subst F (none-runs u clocks trial.each) is
    by (Stopped clock good) is well = well (each-bidder (λ j. (x : List ℕ) → AtMost x terms.goods → (u j x +ℤ pos 1) ≤ℤ pos terms.ceiling) terms.bidders bidders.below)
    by (NoAward clock) is well = well

-- there is one trial
same-histories : (u : ℕ → List ℕ → ℤ) (terms : Terms) (cs ds : List ClockHistory) → map (λ (c : ClockHistory). c.number) cs ≡ map (λ (c : ClockHistory). c.number) ds
    → AllByRecursion (λ (c : ClockHistory). c.terms ≡ terms) cs → AllByRecursion (λ (c : ClockHistory). c.terms ≡ terms) ds → AllByRecursion (IsTrialHistory u) cs → AllByRecursion (IsTrialHistory u) ds → cs ≡ ds
same-histories u terms [] [] e ct dt c d = refl
same-histories u terms [] (h ∷ ds) e ct dt c d = absurd (let f : [] ≡ h.number ∷ map (λ (c : ClockHistory). c.number) ds = e in cc)
same-histories u terms (g ∷ cs) [] e ct dt c d = absurd (let f : g.number ∷ map (λ (c : ClockHistory). c.number) cs ≡ [] = e in cc)
same-histories u terms (g ∷ cs) (h ∷ ds) e ct dt c d =
    let f : g.number ∷ map (λ (c : ClockHistory). c.number) cs ≡ h.number ∷ map (λ (c : ClockHistory). c.number) ds = e in
    let first = one-history u g h c.0 d.0 (ct.0 ∙ sym dt.0) (let n : g.number ≡ h.number = cc in n) in
    let rest = same-histories u terms cs ds (let n : map (λ (c : ClockHistory). c.number) cs ≡ map (λ (c : ClockHistory). c.number) ds = cc in n) ct.1 dt.1 c.1 d.1 in
    λ i. first i ∷ rest i

pub one-trial : (u : ℕ → List ℕ → ℤ) (terms : Terms) (cs ds : List ClockHistory) → IsTrial terms u cs → IsTrial terms u ds → cs ≡ ds
one-trial u terms cs ds c d = same-histories u terms cs ds (c.clocks_are.numbers ∙ sym d.clocks_are.numbers) c.clocks_are.terms_are d.clocks_are.terms_are c.each d.each
