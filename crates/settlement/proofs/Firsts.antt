-- The first clock that passes a test, and what clocks are of which none does.
use Rattle.std.proofs.Common.{◌≡◌, ◌⊎◌, inl, inr, ◌<◌, ◌+◌, Bool, true, false, cond, List, [], ◌∷◌, ◌++◌, length, take, get_or, Option, Some, None, is_none, refl, sym, ◌∙◌, ap, subst}
use Rattle.std.specs.Prelude.{find, MatchOption, ℕ}
use Rattle.std.specs.List.{AllByRecursion, AllZip}
use Rattle.lot_base.specs.declared.phases.Phase.{Phase}
use Rattle.lot_base.specs.declared.phases.Phase.TheVariants.{Running, Ended, Halted}
use Rattle.clock.specs.Reports.{ClockHistory}
use Rattle.clock.specs.Standing.{phase_of}
use Rattle.settlement.specs.Clocks.{runs, has_stopped, is_running, is_halted, has_no_choice, choice_of}
use Rattle.settlement.specs.Settling.{OfFirst, IsClockRow}
use Rattle.settlement.specs.declared.outcome.ClockRow.{ClockRow}
use Rattle.settlement.proofs.Zips.{zip-push, take-next}

pub find-none : {X : Type 0} (test : X → Bool) (x : X) (xs : List X) → find test (x ∷ xs) ≡ None → (test x ≡ false) × (find test xs ≡ None)
find-none {X} test x xs e = by (test x) refl e
  where
    by : (b : Bool) → test x ≡ b → cond b (Some x) (find test xs) ≡ None → (test x ≡ false) × (find test xs ≡ None)
    by true t f = absurd (let g : Some x ≡ None = f in cc)
    by false t f = (t, f)

-- what is found passes the test, and is what all of the list are
pub find-some : {X : Type 0} (P : X → Type 0) (test : X → Bool) (xs : List X) (v : X) → AllByRecursion P xs → find test xs ≡ Some v → (test v ≡ true) × P v
find-some P test [] v all e = absurd (let f : None ≡ Some v = e in cc)
find-some {X} P test (x ∷ xs) v all e = by (test x) refl e (find-some P test xs v all.1)
  where
    by : (b : Bool) → test x ≡ b → cond b (Some x) (find test xs) ≡ Some v → (find test xs ≡ Some v → (test v ≡ true) × P v) → (test v ≡ true) × P v
    by true t e rest = let s : x ≡ v = cc in (ap test (sym s) ∙ t, subst P s all.0)
    by false t e rest = rest e

pub all-any : {X : Type 0} (xs : List X) → AllByRecursion (λ _. Unit {0}) xs
all-any [] = tt
all-any (x ∷ xs) = (tt, all-any xs)

pub of_first : (test : ClockHistory → Bool) (clocks : List ClockHistory) (P : ClockHistory → Type 0) (c : ClockHistory) → find test clocks ≡ Some c → P c → OfFirst test clocks P
of_first test clocks P c e p = let Q : Option ClockHistory → Type 0 = λ o. MatchOption o ⊥ P in subst Q (sym e) p

only-ended : (phase : Phase) → runs phase ≡ false → has_stopped phase ≡ false → phase ≡ Ended
only-ended Running r h = absurd (let e : true ≡ false = r in cc)
only-ended Ended r h = refl
only-ended (Halted good) r h = absurd (let e : true ≡ false = h in cc)

-- clocks of which none is running and none has halted have all ended
pub all-ended : (clocks : List ClockHistory) → find is_running clocks ≡ None → find is_halted clocks ≡ None → AllByRecursion (λ (c : ClockHistory). phase_of c ≡ Ended) clocks
all-ended [] r h = tt
all-ended (c ∷ clocks) r h =
    let a = find-none is_running c clocks r in
    let b = find-none is_halted c clocks h in
    (only-ended (phase_of c) a.0 b.0, all-ended clocks a.1 b.1)

-- the first clock that has halted has halted
pub halts-first : (clocks : List ClockHistory) (c : ClockHistory) → find is_halted clocks ≡ Some c → has_stopped (phase_of c) ≡ true
halts-first clocks c e = (find-some (λ _. Unit {0}) is_halted clocks c (all-any clocks) e).0

pub halts-not : (shown phase : Phase) → shown ≡ phase → has_stopped phase ≡ true → (shown ≡ Running) ⊎ (shown ≡ Ended) → ⊥
halts-not shown phase same stopped (inl e) = let f : false ≡ true = ap has_stopped (sym e ∙ same) ∙ stopped in cc
halts-not shown phase same stopped (inr e) = let f : false ≡ true = ap has_stopped (sym e ∙ same) ∙ stopped in cc

-- clocks with a row each have a choice each
pub rows-choose : (clocks : List ClockHistory) (rows : List ClockRow) → AllZip IsClockRow clocks rows → find has_no_choice clocks ≡ None
rows-choose [] [] all = refl
rows-choose [] (row ∷ rows) all = absurd all
rows-choose (c ∷ clocks) [] all = absurd all
rows-choose (c ∷ clocks) (row ∷ rows) all =
    ap (λ o. cond (is_none o) (Some c) (find has_no_choice clocks)) all.0.choice_is ∙ rows-choose clocks rows all.1

-- after clocks with a row each, a clock of which no choice clears is the first such one
pub first-without : (front behind : List ClockHistory) (c : ClockHistory) (rows : List ClockRow) → AllZip IsClockRow front rows → choice_of c ≡ None → find has_no_choice (front ++ (c ∷ behind)) ≡ Some c
first-without [] behind c [] all none = ap (λ o. cond (is_none o) (Some c) (find has_no_choice behind)) none
first-without [] behind c (row ∷ rows) all none = absurd all
first-without (x ∷ front) behind c [] all none = absurd all
first-without (x ∷ front) behind c (row ∷ rows) all none =
    ap (λ o. cond (is_none o) (Some x) (find has_no_choice (front ++ (c ∷ behind)))) all.0.choice_is ∙ first-without front behind c rows all.1 none

-- a row more, of the next clock
pub rows-more : (clocks : List ClockHistory) (c : ClockHistory) (rows next : List ClockRow) (row : ClockRow) (i : ℕ) → i < length clocks → c ≡ get_or clocks i c → IsClockRow c row → next ≡ rows ++ row ∷ []
    → AllZip IsClockRow (take i clocks) rows → AllZip IsClockRow (take (i + 1) clocks) next
rows-more clocks c rows next row i below at is pushed before =
    let Z : List ClockRow → Type 0 = λ rs. AllZip IsClockRow (take (i + 1) clocks) rs in
    let Y : List ClockHistory → Type 0 = λ cs. AllZip IsClockRow cs (rows ++ row ∷ []) in
    subst Z (sym pushed) (subst Y (sym (take-next clocks i c below at)) (zip-push IsClockRow (take i clocks) rows c row before is))
