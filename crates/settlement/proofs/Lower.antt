-- Where valuations explain two clocks, that of all bidders and that without one of them, the second has no higher prices at its
-- end and no more steps.
use Rattle.std.proofs.Common.{◌≡◌, ◌≤◌, ℕ, List, [], ◌∷◌, map, sym, ◌∙◌, ap, arith, subst}
use Rattle.std.specs.Prelude.{ℤ}
use Rattle.std.specs.List.{AllByRecursion, AllZip}
use Rattle.lot_base.specs.Goods.{AtMost}
use Rattle.lot_base.specs.declared.auction_terms.Terms.{Terms}
use Rattle.lot_base.specs.declared.phases.Phase.TheVariants.{Ended}
use Rattle.lyapunov.specs.Bidders.{IsOneOf}
use Rattle.lyapunov.specs.Paths.{IsPath, HasEnded, prices_along, highest_rise}
use Rattle.lyapunov.proofs.Lattice.{AtMost-self}
use Rattle.lyapunov.proofs.Without.{lower_at_end, fewer_without}
use Rattle.clock.specs.Reports.{ClockHistory, all_bidders, members}
use Rattle.clock.specs.Standing.{phase_of, prices_of, steps_of}
use Rattle.clock.specs.Explained.{Explains}
use Rattle.clock.specs.Standing.{sets_of}
use Rattle.clock.proofs.Truthful.{length-sets_of, prices-along, path, has-ended, steps-are-highest}
use Rattle.settlement.specs.Settling.{IsClockRow}
use Rattle.settlement.specs.Efficient.{ExplainsAll, IsNoHigher}
use Rattle.settlement.specs.declared.outcome.ClockRow.{ClockRow}
use Rattle.settlement.specs.declared.outcome.Outcome.{Outcome}

-- the path of a clock of these terms, and its prices along it
path-at : (u : ℕ → List ℕ → ℤ) (terms : Terms) (c : ClockHistory) → c.terms ≡ terms → Explains u c
    → IsPath terms.goods u (members terms.bidders c.number) terms.opening (sets_of c (steps_of c))
path-at u terms c same explains =
    let P : Terms → Type 0 = λ t. IsPath t.goods u (members t.bidders c.number) t.opening (sets_of c (steps_of c)) in
    subst P same (path u c explains)

prices-at : (terms : Terms) (c : ClockHistory) → c.terms ≡ terms → prices_of c ≡ prices_along terms.opening (sets_of c (steps_of c))
prices-at terms c same = prices-along c (steps_of c) ∙ ap (λ (t : Terms). prices_along t.opening (sets_of c (steps_of c))) same

lower-one : (u : ℕ → List ℕ → ℤ) (terms : Terms) (all own : ClockHistory) → all.terms ≡ terms → members terms.bidders all.number ≡ all_bidders terms.bidders → Explains u all → phase_of all ≡ Ended
    → own.terms ≡ terms → Explains u own → IsOneOf own.number (all_bidders terms.bidders) → AtMost (prices_of own) (prices_of all) × (steps_of own ≤ highest_rise terms.opening (prices_of all))
lower-one u terms all own all_same all_members explains ended same own_explains one =
    let s = terms.goods in
    let o = terms.opening in
    let js = all_bidders terms.bidders in
    let sets = sets_of all (steps_of all) in
    let rests = sets_of own (steps_of own) in
    let A : List ℕ → Type 0 = λ ks. IsPath s u ks o sets in
    let a : IsPath s u js o sets = subst A all_members (path-at u terms all all_same explains) in
    let T : Terms → Type 0 = λ t. HasEnded t.goods u (members t.bidders all.number) t.opening sets in
    let E : List ℕ → Type 0 = λ ks. HasEnded s u ks o sets in
    let e : HasEnded s u js o sets = subst E all_members (subst T all_same (has-ended u all explains ended)) in
    let b = path-at u terms own same own_explains in
    let low = lower_at_end s u js own.number o sets rests a.substitutes one a.goods a.steps e b.steps in
    let few = fewer_without s u js own.number o sets rests a.substitutes one a.goods a.steps e b.steps in
    let P : List ℕ → Type 0 = λ p. AtMost p (prices_along o sets) in
    let Q : List ℕ → Type 0 = λ p. AtMost (prices_of own) p in
    let n = length-sets_of all (steps_of all) in
    let m = length-sets_of own (steps_of own) in
    let h : steps_of all ≡ highest_rise terms.opening (prices_of all) = steps-are-highest u all explains ∙ ap (λ (t : Terms). highest_rise t.opening (prices_of all)) all_same in
    (subst Q (sym (prices-at terms all all_same)) (subst P (sym (prices-at terms own same)) low), omega arith)

lower-all : (u : ℕ → List ℕ → ℤ) (terms : Terms) (outcome : Outcome) (all : ClockHistory) → outcome.prices ≡ prices_of all → all.terms ≡ terms → members terms.bidders all.number ≡ all_bidders terms.bidders → Explains u all
    → phase_of all ≡ Ended → (others : List ClockHistory) (rows : List ClockRow) → AllByRecursion (λ (c : ClockHistory). c.terms ≡ terms) others → ExplainsAll u others
    → AllByRecursion (λ i. IsOneOf i (all_bidders terms.bidders)) (map (λ (c : ClockHistory). c.number) others) → AllZip IsClockRow others rows → AllByRecursion (IsNoHigher terms outcome) rows
lower-all u terms outcome all prices_are all_same all_members explains ended [] [] same own_explain one zip = tt
lower-all u terms outcome all prices_are all_same all_members explains ended [] (row ∷ rows) same own_explain one zip = absurd zip
lower-all u terms outcome all prices_are all_same all_members explains ended (own ∷ others) [] same own_explain one zip = absurd zip
lower-all u terms outcome all prices_are all_same all_members explains ended (own ∷ others) (row ∷ rows) same own_explain one zip =
    let l = lower-one u terms all own all_same all_members explains ended same.0 own_explain.0 one.0 in
    let P : List ℕ → List ℕ → ℕ → Type 0 = λ p q n. AtMost p q × (n ≤ highest_rise terms.opening q) in (
      subst (λ n. P row.prices outcome.prices n) (sym zip.0.steps_are) (subst (λ p. P p outcome.prices (steps_of own)) (sym zip.0.prices_are) (subst (λ q. P (prices_of own) q (steps_of own)) (sym prices_are) l)),
      lower-all u terms outcome all prices_are all_same all_members explains ended others rows same.1 own_explain.1 one.1 zip.1,
    )

-- and so of all clocks
pub lower : (u : ℕ → List ℕ → ℤ) (terms : Terms) (outcome : Outcome) (all : ClockHistory) → outcome.prices ≡ prices_of all → all.terms ≡ terms → members terms.bidders all.number ≡ all_bidders terms.bidders
    → Explains u all → phase_of all ≡ Ended → (others : List ClockHistory) (rows : List ClockRow) → AllByRecursion (λ (c : ClockHistory). c.terms ≡ terms) others → ExplainsAll u others
    → AllByRecursion (λ i. IsOneOf i (all_bidders terms.bidders)) (map (λ (c : ClockHistory). c.number) others) → AllZip IsClockRow (all ∷ others) rows → AllByRecursion (IsNoHigher terms outcome) rows
lower u terms outcome all prices_are all_same all_members explains ended others [] same own_explain one zip = absurd zip
lower u terms outcome all prices_are all_same all_members explains ended others (row ∷ rows) same own_explain one zip =
    let p : row.prices ≡ outcome.prices = zip.0.prices_are ∙ sym prices_are in
    let P : List ℕ → Type 0 = λ q. AtMost q outcome.prices in
    let n : row.steps ≡ highest_rise terms.opening outcome.prices =
    zip.0.steps_are ∙ steps-are-highest u all explains ∙ ap (λ (t : Terms). highest_rise t.opening (prices_of all)) all_same ∙ ap (highest_rise terms.opening) (sym prices_are) in
    ((subst P (sym p) (AtMost-self outcome.prices), omega arith), lower-all u terms outcome all prices_are all_same all_members explains ended others rows same own_explain one zip.1)
