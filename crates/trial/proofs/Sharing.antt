-- Clocks that several workers ran, put together.
use Rattle.std.proofs.Common.{◌≡◌, ◌<◌, ◌≤◌, ℕ, zero, suc, ◌+◌, ◌-◌, List, [], ◌∷◌, ◌++◌, length, map, get_or, set, Option, Some, refl, sym, ◌∙◌, ap, arith, subst, ⊎_elim}
use Rattle.std.specs.Prelude.{IfSome, ℤ}
use Rattle.std.specs.List.{AllByRecursion, AllZip, range_with_len}
use Rattle.std.proofs.lemmas.Bool.{cases_eq}
use Rattle.std.proofs.lemmas.List.{length-set}
use Rattle.lot_base.specs.Economy.{IsStrongSubstitutes}
use Rattle.lot_base.specs.declared.auction_terms.Terms.{Terms}
use Rattle.clock.specs.Reports.{ClockHistory, ClockOf, histories}
use Rattle.exchange_check.specs.Verdicts.{IsRight}
use Rattle.exchange_check.specs.declared.verdict.Verdict.{Verdict}
use Rattle.settlement.specs.Found.{IsFoundOf}
use Rattle.settlement.specs.declared.outcome.ClockRow.{ClockRow}
use Rattle.settlement.proofs.Histories.{histories-push}
use Rattle.settlement.proofs.Zips.{zip-push}
use Rattle.trial.specs.Trials.{IsTrialHistory, IsTrial}
use Rattle.trial.specs.Rounds.{IsTrialOf}
use Rattle.trial.specs.Workers.{IsToldOf, IsVerdictOn, IsPieceOf, AreTold, AreRight}
use Rattle.trial.specs.declared.workers.Piece.{Piece}
use Rattle.trial.specs.declared.workers.Piece.TheVariants.{Clock, Bidder}
use Rattle.trial.specs.declared.workers.Told.{Told}
use Rattle.trial.proofs.Finding.{all-both}
use Rattle.trial.proofs.Slots.{slots-set}

-- the last of a list, and those before it
all-last : {X : Type 0} (P : X → Type 0) (front all : List X) (x : X) → all ≡ front ++ x ∷ [] → AllByRecursion P all → AllByRecursion P front × P x
all-last {X} P front all x is each = split front (subst (AllByRecursion P) is each)
  where
    split : (front : List X) → AllByRecursion P (front ++ x ∷ []) → AllByRecursion P front × P x
    split [] each = (tt, each.0)
    split (y ∷ front) each = let rest = split front each.1 in ((each.0, rest.0), rest.1)

pub all-of_each : {X : Type 0} (P : X → Type 0) (xs : List X) → ((k : ℕ) (d : X) → k < length xs → P (get_or xs k d)) → AllByRecursion P xs
all-of_each P [] each = tt
all-of_each P (x ∷ xs) each = (each 0 x (omega arith), all-of_each P xs (λ k d below. each (suc k) d (omega (arith, below))))

module _ (terms : Terms) (u : ℕ → List ℕ → ℤ) where
  -- what stands at a clock's place, or a bidder's
  pub told-set : (told : List (Option Told)) (number : ℕ) (v : Option Told) → number ≤ terms.bidders → IfSome v (IsToldOf terms u number) → AreTold terms u told → AreTold terms u (set told number v)
  told-set told number v within here are = record { count = length-set told number v ∙ are.count; each = slots-set (IsToldOf terms u) told number v (let c = are.count in omega (arith, c, within)) here are.each }

  pub told-at : (told : List (Option Told)) (number : ℕ) (v : Option Told) (other : Option Told) → v ≡ get_or told number other → number ≤ terms.bidders → AreTold terms u told → IfSome v (IsToldOf terms u number)
  told-at told number v other is within are = subst (λ (o : Option Told). IfSome o (IsToldOf terms u number)) (sym is) (are.each number other (let c = are.count in omega (arith, c, within)))

  pub verdict-set : (verdicts : List (Option Verdict)) (bidder : ℕ) (v : Verdict) → IsVerdictOn terms u bidder v → AreRight terms u verdicts → AreRight terms u (set verdicts (bidder - 1) (Some v))
  verdict-set verdicts bidder v on are =
      let back : bidder ≡ bidder - 1 + 1 = (let f = on.from_one in omega (arith, f)) in
      let here : IsRight terms.goods (u (bidder - 1 + 1)) v = subst (λ (j : ℕ). IsRight terms.goods (u j) v) back on.right in
      record {
        count = length-set verdicts (bidder - 1) (Some v) ∙ are.count;
        each = slots-set (λ (k : ℕ). IsRight terms.goods (u (k + 1))) verdicts (bidder - 1) (Some v) (let c = are.count in let f = on.from_one in let l = on.to_last in omega (arith, c, f, l)) here are.each;
      }

  -- the last piece of a worker, and those before it
  module _ (front part : List Piece) (piece : Piece) (is : part ≡ front ++ piece ∷ []) (are : AllByRecursion (IsPieceOf terms u) part) where
    pub clock-last : (number : ℕ) (told : Told) → piece ≡ Clock number told → IsPieceOf terms u (Clock number told)
    clock-last number told same = subst (IsPieceOf terms u) same (all-last (IsPieceOf terms u) front part piece is are).1

    pub bidder-last : (bidder : ℕ) (verdict : Verdict) → piece ≡ Bidder bidder verdict → IsVerdictOn terms u bidder verdict
    bidder-last bidder verdict same = subst (IsPieceOf terms u) same (all-last (IsPieceOf terms u) front part piece is are).1

    pub those-before : AllByRecursion (IsPieceOf terms u) front
    those-before = (all-last (IsPieceOf terms u) front part piece is are).0

  -- one bidder more for whom the goods are strong substitutes
  pub substitutes-next : (place : ℕ) → ((j : ℕ) → 1 ≤ j → j ≤ place → IsStrongSubstitutes terms.goods (u j)) → IsStrongSubstitutes terms.goods (u (place + 1)) → (j : ℕ) → 1 ≤ j → j ≤ place + 1 → IsStrongSubstitutes terms.goods (u j)
  substitutes-next place before here j low high =
      ⊎_elim
      (λ (same : j ≡ place + 1). subst (λ (n : ℕ). IsStrongSubstitutes terms.goods (u n)) (sym same) here)
      (λ other. before j low (omega (arith, high, other)))
      (cases_eq j (place + 1))

-- the first so many clocks of a trial
pub record AreInOrder (terms : Terms) (u : ℕ → List ℕ → ℤ) (count : ℕ) (clocks : List ClockHistory) : Type 0 where
  pub numbers : map (λ (c : ClockHistory). c.number) clocks ≡ range_with_len 0 count
  pub terms_are : AllByRecursion (λ (c : ClockHistory). c.terms ≡ terms) clocks
  pub each : AllByRecursion (IsTrialHistory u) clocks

pub range-next : (a n : ℕ) → range_with_len a (n + 1) ≡ range_with_len a n ++ (a + n) ∷ []
range-next a zero = ap (λ k. k ∷ []) (let e : a ≡ a + 0 = omega arith in e)
range-next a (suc n) =
    let e : a + 1 + n ≡ a + suc n = omega arith in
    let f : suc n + 1 ≡ suc (n + 1) = omega arith in
    ap (range_with_len a) f ∙ ap (λ xs. a ∷ xs) (range-next (a + 1) n ∙ ap (λ k. range_with_len (a + 1) n ++ k ∷ []) e)

map-next : (clocks : List ClockHistory) (c : ClockHistory) → map (λ (c : ClockHistory). c.number) (clocks ++ c ∷ []) ≡ map (λ (c : ClockHistory). c.number) clocks ++ c.number ∷ []
map-next [] c = refl
map-next (x ∷ clocks) c = ap (λ ns. x.number ∷ ns) (map-next clocks c)

pub order-next : (terms : Terms) (u : ℕ → List ℕ → ℤ) (count : ℕ) (clocks next : List ClockOf) (c : ClockOf) → AreInOrder terms u count (histories clocks) → IsTrialOf terms u count c.history → next ≡ clocks ++ c ∷ []
    → AreInOrder terms u (count + 1) (histories next)
order-next terms u count clocks next c order one is =
    let hs = histories clocks in
    let h = c.history in
    let e : histories next ≡ hs ++ h ∷ [] = ap histories is ∙ histories-push clocks c in
    let zero-first : 0 + count ≡ count = omega arith in
    subst (AreInOrder terms u (count + 1)) (sym e) (record {
      numbers = map-next hs h ∙ (λ i. order.numbers i ++ (one.number_is ∙ sym zero-first) i ∷ []) ∙ sym (range-next 0 count);
      terms_are = all-both (λ (c : ClockHistory). c.terms ≡ terms) hs (h ∷ []) order.terms_are (one.terms_are, tt);
      each = all-both (IsTrialHistory u) hs (h ∷ []) order.each (one.whole, tt);
    })

pub in-order : (terms : Terms) (u : ℕ → List ℕ → ℤ) (count : ℕ) (clocks : List ClockHistory) → AreInOrder terms u count clocks → count ≡ terms.bidders + 1 → IsTrial terms u clocks
in-order terms u count clocks order all = record { clocks_are = record { numbers = order.numbers ∙ ap (range_with_len 0) all; terms_are = order.terms_are }; each = order.each }

-- a row more
pub rows-next : (clocks next : List ClockOf) (rows more : List (Option ClockRow)) (c : ClockOf) (row : Option ClockRow) → AllZip IsFoundOf (histories clocks) rows → IsFoundOf c.history row → next ≡ clocks ++ c ∷ [] → more ≡ rows ++ row ∷ []
    → AllZip IsFoundOf (histories next) more
rows-next clocks next rows more c row all found is more-is =
    let Y : List ClockHistory → Type 0 = λ hs. AllZip IsFoundOf hs more in
    let Z : List (Option ClockRow) → Type 0 = λ rs. AllZip IsFoundOf (histories clocks ++ c.history ∷ []) rs in
    subst Y (sym (ap histories is ∙ histories-push clocks c)) (subst Z (sym more-is) (zip-push IsFoundOf (histories clocks) rows c.history row all found))
