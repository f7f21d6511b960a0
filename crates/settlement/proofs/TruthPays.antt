-- A bidder who is truthful among truthful others.
use Rattle.std.proofs.Common.{◌≡◌, ◌≤◌, ◌<◌, ℕ, zero, suc, ◌+◌, Bool, true, false, cond, nat_eq, List, [], ◌∷◌, map, refl, sym, ◌∙◌, ap, arith, subst}
use Rattle.std.specs.Prelude.{count_by, ℤ, pos, ◌-ℤ◌, ◌≤ℤ◌}
use Rattle.std.specs.List.{AllByRecursion, range_with_len}
use Rattle.std.proofs.lemmas.Int.{ints}
use Rattle.std.proofs.lemmas.Bool.Decides.{nat_tests}
use Rattle.lot_base.specs.Goods.{cost}
use Rattle.lot_base.specs.Economy.{sum_over, without, IsValuation}
use Rattle.lot_base.specs.Equilibrium.{total_bundle, worth, IsWelfare, IsWalrasian}
use Rattle.lot_base.specs.declared.auction_terms.Terms.{Terms}
use Rattle.lyapunov.specs.Bidders.{IsOneOf, bundle_of}
use Rattle.lyapunov.proofs.Bidders.{count-first, IsOneOf-range}
use Rattle.lyapunov.proofs.Duality.{walrasian-welfare, welfare-one}
use Rattle.clock.specs.Reports.{ClockHistory, all_bidders, members}
use Rattle.clock.specs.Standing.{prices_of}
use Rattle.clock.specs.Explained.{Explains}
use Rattle.settlement.specs.Clocks.{AreClocksOf}
use Rattle.settlement.specs.Settling.{IsOutcomeOf}
use Rattle.settlement.specs.Efficient.{ExplainsAll, award_of}
use Rattle.clock.specs.Judging.{IsLegal}
use Rattle.settlement.proofs.ButOne.{explains-but}
use Rattle.settlement.specs.declared.outcome.AwardRow.{AwardRow}
use Rattle.settlement.specs.declared.outcome.Outcome.{Outcome}
use Rattle.settlement.specs.declared.outcome.Settlement.{Settlement}
use Rattle.settlement.specs.declared.outcome.Settlement.TheVariants.{Settled, Open, Halted, NoAward}
use Rattle.settlement.proofs.Firsts.{all-ended}
use Rattle.settlement.proofs.Explained.{explained-equilibrium}
use Rattle.settlement.specs.Incentives.{AreOthersTrue, IsAmongTruthful, TellsTruth, payment_of, gain_of, gain_by}
use Rattle.lyapunov.proofs.Payment.{cost-total}
use Rattle.settlement.proofs.Efficient.{all-are-members, numbers-of}
use Rattle.settlement.proofs.Charges.{truthful-pays}
use Rattle.settlement.proofs.Gains.{vcg-gain, vcg-most, vcg-best, vcg-reserve, vcg-rational}

member-of : (P : ℕ → Type 0) (i : ℕ) (js : List ℕ) → AllByRecursion P js → IsOneOf i js → P i
member-of P i [] all one = absurd (omega arith)
member-of P i (j ∷ js) all one = by (nat_eq j i) refl (sym (count-first i j js) ∙ one) (λ h. member-of P i js all.1 h)
  where
    by : (b : Bool) → nat_eq j i ≡ b → cond b 1 0 + count_by (λ k. nat_eq k i) js ≡ 1 → (IsOneOf i js → P i) → P i
    by true e one rest = let same : j ≡ i = grind (arith, nat_tests) in subst P same all.0
    by false e one rest = rest (omega arith)

pub one-of-all : (i n : ℕ) → 1 ≤ i → i ≤ n → IsOneOf i (all_bidders n)
one-of-all i n from last = IsOneOf-range i 1 n from (omega arith)

-- What a truthful clock of all gives: the awards are of the greatest worth, and the empty bundle is worth nothing to a bidder.
pub record IsBest (u : ℕ → List ℕ → ℤ) (terms : Terms) (o : Outcome) : Type 0 where
  pub welfare : IsWelfare terms.goods terms.opening u (all_bidders terms.bidders) (worth terms.goods terms.opening u (all_bidders terms.bidders) (award_of terms o))
  pub valuations : AllByRecursion (λ j. IsValuation terms.goods (u j)) (all_bidders terms.bidders)

pub truthful-best : (u : ℕ → List ℕ → ℤ) (terms : Terms) (clocks : List ClockHistory) (o : Outcome) → AreClocksOf terms clocks → TellsTruth u clocks → IsOutcomeOf clocks (Settled o) → IsBest u terms o
truthful-best u terms [] o h truth is = absurd is.3
truthful-best u terms (all ∷ others) o h truth is =
    let ended = all-ended (all ∷ others) is.0 is.1 in
    let s = is.3 in
    let js = all_bidders terms.bidders in
    let xs = map (λ (row : AwardRow). row.award) o.rows in
    let numbers = numbers-of terms all others h in
    let members-are : members terms.bidders all.number ≡ js = ap (members terms.bidders) numbers.0 ∙ all-are-members terms.bidders in
    let explains = truth.0 numbers.0 in
    let N : Terms → Type 0 = λ t. IsWalrasian t.goods t.opening u (members t.bidders all.number) (prices_of all) (bundle_of (members t.bidders all.number) xs) in
    let J : List ℕ → Type 0 = λ ks. IsWalrasian terms.goods terms.opening u ks (prices_of all) (bundle_of ks xs) in
    let w = subst J members-are (subst N h.terms_are.0 (explained-equilibrium u all xs explains ended.0 s.awards_are)) in
    let V : Terms → Type 0 = λ t. AllByRecursion (λ j. IsValuation t.goods (u j)) (members t.bidders all.number) in
    let K : List ℕ → Type 0 = λ ks. AllByRecursion (λ j. IsValuation terms.goods (u j)) ks in
    record {
      welfare = walrasian-welfare terms.goods terms.opening u js (prices_of all) (award_of terms o) w;
      valuations = subst K members-are (subst V h.terms_are.0 explains.valuations);
    }

pub gain-is : (i : ℕ) (u : ℕ → List ℕ → ℤ) (terms : Terms) (clocks : List ClockHistory) (o : Outcome) (v : ℤ) → IsAmongTruthful i u terms clocks → IsOutcomeOf clocks (Settled o)
    → IsWelfare terms.goods terms.opening u (without i (all_bidders terms.bidders)) v → gain_of u terms o i ≡ worth terms.goods terms.opening u (all_bidders terms.bidders) (award_of terms o) -ℤ v
gain-is i u terms clocks o v h is welfare =
    vcg-gain terms.goods terms.opening u (all_bidders terms.bidders) (award_of terms o) i (payment_of terms o i) v (one-of-all i terms.bidders h.from_one h.to_last) (truthful-pays i u terms clocks o h is) welfare

pub gain-most : (i : ℕ) (u : ℕ → List ℕ → ℤ) (terms : Terms) (clocks : List ClockHistory) (o : Outcome) (w v : ℤ) → IsAmongTruthful i u terms clocks → IsOutcomeOf clocks (Settled o)
    → IsWelfare terms.goods terms.opening u (all_bidders terms.bidders) w → IsWelfare terms.goods terms.opening u (without i (all_bidders terms.bidders)) v → gain_of u terms o i ≤ℤ (w -ℤ v)
gain-most i u terms clocks o w v h is best welfare =
    vcg-most terms.goods terms.opening u (all_bidders terms.bidders) (award_of terms o) i (payment_of terms o i) w v (one-of-all i terms.bidders h.from_one h.to_last) (truthful-pays i u terms clocks o h is) best welfare

pub gain-true : (i : ℕ) (u : ℕ → List ℕ → ℤ) (terms : Terms) (clocks : List ClockHistory) (o : Outcome) → IsAmongTruthful i u terms clocks → TellsTruth u clocks → IsOutcomeOf clocks (Settled o) → pos 0 ≤ℤ gain_of u terms o i
gain-true i u terms clocks o h truth is =
    let b = truthful-best u terms clocks o h.clocks_are truth is in
    let one = one-of-all i terms.bidders h.from_one h.to_last in
    vcg-rational terms.goods terms.opening u (all_bidders terms.bidders) (award_of terms o) i (payment_of terms o i) one
    (member-of (λ j. IsValuation terms.goods (u j)) i (all_bidders terms.bidders) b.valuations one) b.welfare (truthful-pays i u terms clocks o h is)

pub gain-best : (i : ℕ) (u : ℕ → List ℕ → ℤ) (terms : Terms) (clocks others : List ClockHistory) (o : Outcome) (s : Settlement) → IsAmongTruthful i u terms clocks → TellsTruth u clocks → IsOutcomeOf clocks (Settled o)
    → IsAmongTruthful i u terms others → IsOutcomeOf others s → gain_by u terms s i ≤ℤ gain_of u terms o i
gain-best i u terms clocks others o (Settled p) h truth is k are =
    let b = truthful-best u terms clocks o h.clocks_are truth is in
    vcg-best terms.goods terms.opening u (all_bidders terms.bidders) (award_of terms o) (award_of terms p) i (payment_of terms o i) (payment_of terms p i) (one-of-all i terms.bidders h.from_one h.to_last)
    b.welfare (truthful-pays i u terms clocks o h is) (truthful-pays i u terms others p k are)
gain-best i u terms clocks others o (Open clock round missing) h truth is k are = gain-true i u terms clocks o h truth is
gain-best i u terms clocks others o (Halted clock good) h truth is k are = gain-true i u terms clocks o h truth is
gain-best i u terms clocks others o (NoAward clock) h truth is k are = gain-true i u terms clocks o h truth is

pub pays-reserve : (i : ℕ) (u : ℕ → List ℕ → ℤ) (terms : Terms) (clocks : List ClockHistory) (o : Outcome) → IsAmongTruthful i u terms clocks → IsOutcomeOf clocks (Settled o)
    → pos (cost terms.opening (award_of terms o i)) ≤ℤ payment_of terms o i
pays-reserve i u terms clocks o h is =
    vcg-reserve terms.goods terms.opening u (all_bidders terms.bidders) (award_of terms o) i (payment_of terms o i) (one-of-all i terms.bidders h.from_one h.to_last) (truthful-pays i u terms clocks o h is)

-- what holds of each from 1 to n adds up
pub sum-more : (f g : ℕ → ℤ) (a n : ℕ) → ((j : ℕ) → a ≤ j → j < a + n → f j ≤ℤ g j) → sum_over f (range_with_len a n) ≤ℤ sum_over g (range_with_len a n)
sum-more f g a zero each = omega (arith, ints)
sum-more f g a (suc n) each =
    let first = each a (omega arith) (omega arith) in
    let rest = sum-more f g (a + 1) n (λ j low high. each j (omega arith) (omega arith)) in
    omega (arith, ints)

pub revenue-reserve : (u : ℕ → List ℕ → ℤ) (terms : Terms) (clocks : List ClockHistory) (o : Outcome) → ((i : ℕ) → 1 ≤ i → i ≤ terms.bidders → IsAmongTruthful i u terms clocks) → IsOutcomeOf clocks (Settled o)
    → pos (cost terms.opening (total_bundle terms.goods (award_of terms o) (all_bidders terms.bidders))) ≤ℤ sum_over (payment_of terms o) (all_bidders terms.bidders)
revenue-reserve u terms clocks o h is =
    let e = cost-total terms.goods terms.opening (award_of terms o) (all_bidders terms.bidders) in
    let m = sum-more (λ j. pos (cost terms.opening (award_of terms o j))) (payment_of terms o) 1 terms.bidders (λ j low high. pays-reserve j u terms clocks o (h j low (omega arith)) is) in
    omega (arith, ints)

pub gain-whole : (i : ℕ) (u : ℕ → List ℕ → ℤ) (terms : Terms) (clocks : List ClockHistory) (o : Outcome) (w v : ℤ) → IsAmongTruthful i u terms clocks → TellsTruth u clocks → IsOutcomeOf clocks (Settled o)
    → IsWelfare terms.goods terms.opening u (all_bidders terms.bidders) w → IsWelfare terms.goods terms.opening u (without i (all_bidders terms.bidders)) v → gain_of u terms o i ≡ w -ℤ v
gain-whole i u terms clocks o w v h truth is best welfare =
    let b = truthful-best u terms clocks o h.clocks_are truth is in
    let e = welfare-one terms.goods terms.opening u (all_bidders terms.bidders) (worth terms.goods terms.opening u (all_bidders terms.bidders) (award_of terms o)) w b.welfare best in
    gain-is i u terms clocks o v h is welfare ∙ ap (λ z. z -ℤ v) e

-- Where the valuations explain all clocks, each bidder is among truthful others, and truthful too.
others-true-all : (i : ℕ) (u : ℕ → List ℕ → ℤ) (clocks : List ClockHistory) → AllByRecursion (Explains u) clocks → AllByRecursion (AreOthersTrue i u) clocks
others-true-all i u [] all = tt
others-true-all i u (c ∷ clocks) all = ((λ one. explains-but u c i all.0), others-true-all i u clocks all.1)

tells-all : (u : ℕ → List ℕ → ℤ) (clocks : List ClockHistory) → AllByRecursion (Explains u) clocks → TellsTruth u clocks
tells-all u [] all = tt
tells-all u (c ∷ clocks) all = ((λ number. all.0), tells-all u clocks all.1)

pub all-among : (i : ℕ) (u : ℕ → List ℕ → ℤ) (terms : Terms) (clocks : List ClockHistory) → 1 ≤ i → i ≤ terms.bidders → AreClocksOf terms clocks → AllByRecursion IsLegal clocks → ExplainsAll u clocks
    → IsAmongTruthful i u terms clocks × TellsTruth u clocks
all-among i u terms clocks from last are legal all =
    (record { from_one = from; to_last = last; clocks_are = are; legal = legal; others = others-true-all i u clocks all }, tells-all u clocks all)
