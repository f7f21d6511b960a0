-- The histories of clocks, one by one.
use Rattle.std.proofs.Common.{◌≡◌, ◌<◌, ℕ, zero, suc, Bool, true, false, cond, List, [], ◌∷◌, ◌++◌, length, drop, Option, Some, get_or, refl, sym, ap, ◌∙◌, subst, arith}
use Rattle.std.specs.Prelude.{find, option_map}
use Rattle.std.specs.List.{AllByRecursion}
use Rattle.clock.specs.Reports.{ClockHistory, ClockOf, histories}

pub length-histories : (clocks : List ClockOf) → length (histories clocks) ≡ length clocks
length-histories [] = refl
length-histories (c ∷ clocks) = ap (λ n. suc n) (length-histories clocks)

-- the clock at a place has the history at that place
pub at-histories : (clocks : List ClockOf) (place : ℕ) (c : ClockOf) → c ≡ get_or clocks place c → c.history ≡ get_or (histories clocks) place c.history
at-histories [] place c e = refl
at-histories (d ∷ clocks) zero c e = ap (λ (k : ClockOf). k.history) e
at-histories (d ∷ clocks) (suc place) c e = at-histories clocks place c e

pub drop-histories : (clocks : List ClockOf) (n : ℕ) → drop n (histories clocks) ≡ histories (drop n clocks)
drop-histories clocks zero = refl
drop-histories [] (suc n) = refl
drop-histories (c ∷ clocks) (suc n) = drop-histories clocks n

-- the first history that passes is that of the first clock whose history passes
pub find-histories : (test : ClockHistory → Bool) (clocks : List ClockOf) → find test (histories clocks) ≡ option_map (λ (c : ClockOf). c.history) (find (λ (c : ClockOf). test c.history) clocks)
find-histories test [] = refl
find-histories test (c ∷ clocks) = by (test c.history) (find-histories test clocks)
  where
    by : (b : Bool) → find test (histories clocks) ≡ option_map (λ (c : ClockOf). c.history) (find (λ (c : ClockOf). test c.history) clocks)
        → cond b (Some c.history) (find test (histories clocks)) ≡ option_map (λ (c : ClockOf). c.history) (cond b (Some c) (find (λ (c : ClockOf). test c.history) clocks))
    by true rest = refl
    by false rest = rest

pub found-histories : (test : ClockHistory → Bool) (clocks : List ClockOf) (answer : Option ClockOf) → answer ≡ find (λ (c : ClockOf). test c.history) clocks → find test (histories clocks) ≡ option_map (λ (c : ClockOf). c.history) answer
found-histories test clocks answer e = find-histories test clocks ∙ ap (option_map (λ (c : ClockOf). c.history)) (sym e)

-- what holds of all histories holds of that of the clock at a place
pub at-all : (P : ClockHistory → Type 0) (clocks : List ClockOf) (place : ℕ) (c : ClockOf) → place < length clocks → c ≡ get_or clocks place c → AllByRecursion P (histories clocks) → P c.history
at-all P [] place c below e all = absurd (omega arith)
at-all P (d ∷ clocks) zero c below e all = subst P (ap (λ (k : ClockOf). k.history) (sym e)) all.0
at-all P (d ∷ clocks) (suc place) c below e all = at-all P clocks place c (omega arith) e all.1

pub histories-push : (clocks : List ClockOf) (c : ClockOf) → histories (clocks ++ c ∷ []) ≡ histories clocks ++ c.history ∷ []
histories-push [] c = refl
histories-push (d ∷ clocks) c = ap (λ hs. d.history ∷ hs) (histories-push clocks c)
