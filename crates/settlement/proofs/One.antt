-- Families of clocks that stand alike have one outcome.
use Rattle.std.proofs.Common.{◌≡◌, ℕ, ◌+◌, Bool, true, false, cond, List, [], ◌∷◌, map, Option, Some, None, is_none, refl, sym, ◌∙◌, ap}
use Rattle.std.specs.Prelude.{find, MatchOption, pos, ◌+ℤ◌, ◌-ℤ◌}
use Rattle.std.specs.List.{AllZip}
use Rattle.lot_base.specs.Goods.{cost}
use Rattle.lot_base.specs.declared.phases.Phase.TheVariants as phase
use Rattle.clock.specs.Reports.{ClockHistory}
use Rattle.clock.specs.Accounts.{account_without}
use Rattle.settlement.specs.Clocks.{runs, has_stopped, is_running, is_halted, has_no_choice, opening_of}
use Rattle.settlement.specs.Settling.{IsOutcomeOf, IsSettled, IsClockRow, IsAwardRow}
use Rattle.settlement.specs.Alike.{StandAlike, HoldSame}
use Rattle.settlement.specs.declared.outcome.AwardRow.{AwardRow}
use Rattle.settlement.specs.declared.outcome.ClockRow.{ClockRow}
use Rattle.settlement.specs.declared.outcome.Outcome.{Outcome}
use Rattle.settlement.specs.declared.outcome.Settlement.{Settlement}
use Rattle.settlement.specs.declared.outcome.Settlement.TheVariants.{Settled, Open, Halted, NoAward}
use Rattle.settlement.proofs.Same.{same-stand}

pub all-same : (clocks others : List ClockHistory) → AllZip HoldSame clocks others → AllZip StandAlike clocks others
all-same [] [] h = tt
all-same [] (d ∷ ds) h = absurd h
all-same (c ∷ cs) [] h = absurd h
all-same (c ∷ cs) (d ∷ ds) h = (same-stand c d h.0, all-same cs ds h.1)

pub all-alike : (clocks : List ClockHistory) → AllZip StandAlike clocks clocks
all-alike [] = tt
all-alike (c ∷ cs) =
    (record { same_terms = refl; same_number = refl; same_steps = refl; same_phase = refl; same_prices = refl; same_missing = refl; same_account = λ b. refl; same_choice = refl }, all-alike cs)

-- the first clocks of two families that pass a test
abbrev FoundAlike : Option ClockHistory → Option ClockHistory → Type 0
FoundAlike None None = Unit {0}
FoundAlike (Some c) (Some d) = StandAlike c d
FoundAlike _ _ = ⊥

found-alike : (test : ClockHistory → Bool) → ((c d : ClockHistory) → StandAlike c d → test c ≡ test d) → (cs ds : List ClockHistory) → AllZip StandAlike cs ds → FoundAlike (find test cs) (find test ds)
found-alike test same [] [] h = tt
found-alike test same [] (d ∷ ds) h = absurd h
found-alike test same (c ∷ cs) [] h = absurd h
found-alike test same (c ∷ cs) (d ∷ ds) h = by (test c) (test d) (same c d h.0) (found-alike test same cs ds h.1)
  where
    by : (a b : Bool) → a ≡ b → FoundAlike (find test cs) (find test ds) → FoundAlike (cond a (Some c) (find test cs)) (cond b (Some d) (find test ds))
    by true true e rest = h.0
    by false false e rest = rest
    by true false e rest = absurd (let f : true ≡ false = e in cc)
    by false true e rest = absurd (let f : false ≡ true = e in cc)

record BothFirst (P Q : ClockHistory → Type 0) : Type 0 where
  pub c : ClockHistory
  pub d : ClockHistory
  pub alike : StandAlike c d
  pub left : P c
  pub right : Q d

both-first : (o p : Option ClockHistory) (P Q : ClockHistory → Type 0) → FoundAlike o p → MatchOption o ⊥ P → MatchOption p ⊥ Q → BothFirst P Q
both-first None p P Q f h k = absurd h
both-first (Some c) None P Q f h k = absurd k
both-first (Some c) (Some d) P Q f h k = record { c = c; d = d; alike = f; left = h; right = k }

only-left : (o p : Option ClockHistory) (P : ClockHistory → Type 0) → FoundAlike o p → MatchOption o ⊥ P → p ≡ None → ⊥
only-left None p P f h e = h
only-left (Some c) None P f h e = f
only-left (Some c) (Some d) P f h e = let g : Some d ≡ None = e in cc

only-right : (o p : Option ClockHistory) (P : ClockHistory → Type 0) → FoundAlike o p → o ≡ None → MatchOption p ⊥ P → ⊥
only-right o None P f e k = k
only-right None (Some d) P f e k = f
only-right (Some c) (Some d) P f e k = let g : Some c ≡ None = e in cc

some-same : {A : Type 0} (x y : A) → Some x ≡ Some y → x ≡ y
some-same x y e = cc

-- the rows
clock-row-same : (c d : ClockHistory) (r q : ClockRow) → StandAlike c d → IsClockRow c r → IsClockRow d q → r ≡ q
clock-row-same c d r q a h k =
    let s = h.steps_are ∙ a.same_steps ∙ sym k.steps_are in
    let p = h.prices_are ∙ a.same_prices ∙ sym k.prices_are in
    let x = some-same r.choices q.choices (sym h.choice_is ∙ a.same_choice ∙ k.choice_is) in
    λ i. record { steps = s i; prices = p i; choices = x i }

clock-rows-same : (cs ds : List ClockHistory) (rs qs : List ClockRow) → AllZip StandAlike cs ds → AllZip IsClockRow cs rs → AllZip IsClockRow ds qs → rs ≡ qs
clock-rows-same [] [] [] [] a h k = refl
clock-rows-same [] [] [] (q ∷ qs) a h k = absurd k
clock-rows-same [] ds (r ∷ rs) qs a h k = absurd h
clock-rows-same [] (d ∷ ds) [] qs a h k = absurd a
clock-rows-same (c ∷ cs) [] rs qs a h k = absurd a
clock-rows-same (c ∷ cs) (d ∷ ds) [] qs a h k = absurd h
clock-rows-same (c ∷ cs) (d ∷ ds) (r ∷ rs) [] a h k = absurd k
clock-rows-same (c ∷ cs) (d ∷ ds) (r ∷ rs) (q ∷ qs) a h k =
    let x = clock-row-same c d r q a.0 h.0 k.0 in
    let y = clock-rows-same cs ds rs qs a.1 h.1 k.1 in
    λ i. x i ∷ y i

award-row-same : (all other c d : ClockHistory) (r q : AwardRow) → StandAlike all other → StandAlike c d → r.award ≡ q.award → IsAwardRow all c r → IsAwardRow other d q → r ≡ q
award-row-same all other c d r q first own same h k =
    let debit = h.debit_is ∙ own.same_account 0 ∙ sym k.debit_is in
    let credit = h.credit_is ∙ first.same_account c.number ∙ (λ i. account_without other (own.same_number i)) ∙ sym k.credit_is in
    let pays = h.pays_is ∙ (λ i. (pos (cost (first.same_prices i) (same i)) +ℤ debit i) -ℤ credit i) ∙ sym k.pays_is in
    λ i. record { award = same i; debit = debit i; credit = credit i; pays = pays i }

award-rows-same : (all other : ClockHistory) (cs ds : List ClockHistory) (rs qs : List AwardRow) → StandAlike all other → AllZip StandAlike cs ds → map (λ (r : AwardRow). r.award) rs ≡ map (λ (r : AwardRow). r.award) qs
    → AllZip (IsAwardRow all) cs rs → AllZip (IsAwardRow other) ds qs → rs ≡ qs
award-rows-same all other [] [] [] [] first a e h k = refl
award-rows-same all other [] [] [] (q ∷ qs) first a e h k = absurd k
award-rows-same all other [] ds (r ∷ rs) qs first a e h k = absurd h
award-rows-same all other [] (d ∷ ds) [] qs first a e h k = absurd a
award-rows-same all other (c ∷ cs) [] rs qs first a e h k = absurd a
award-rows-same all other (c ∷ cs) (d ∷ ds) [] qs first a e h k = absurd h
award-rows-same all other (c ∷ cs) (d ∷ ds) (r ∷ rs) [] first a e h k = absurd k
award-rows-same all other (c ∷ cs) (d ∷ ds) (r ∷ rs) (q ∷ qs) first a e h k =
    let head : r.award ≡ q.award = cc in
    let tail : map (λ (r : AwardRow). r.award) rs ≡ map (λ (r : AwardRow). r.award) qs = cc in
    let x = award-row-same all other c d r q first a.0 head h.0 k.0 in
    let y = award-rows-same all other cs ds rs qs first a.1 tail h.1 k.1 in
    λ i. x i ∷ y i

settled-same : (cs ds : List ClockHistory) (o p : Outcome) → AllZip StandAlike cs ds → IsSettled cs o → IsSettled ds p → o ≡ p
settled-same [] ds o p a h k = absurd h
settled-same (c ∷ cs) [] o p a h k = absurd k
settled-same (c ∷ cs) (d ∷ ds) o p a h k =
    let prices = h.prices_are ∙ a.0.same_prices ∙ sym k.prices_are in
    let opening = h.opening_is ∙ ap opening_of a.0.same_terms ∙ sym k.opening_is in
    let awards = some-same (map (λ (r : AwardRow). r.award) o.rows) (map (λ (r : AwardRow). r.award) p.rows) (sym h.awards_are ∙ a.0.same_choice ∙ k.awards_are) in
    let rows = award-rows-same c d cs ds o.rows p.rows a.0 a.1 awards h.rows_are k.rows_are in
    let clocks = clock-rows-same (c ∷ cs) (d ∷ ds) o.clocks p.clocks a h.clocks_are k.clocks_are in
    λ i. record { prices = prices i; opening = opening i; rows = rows i; clocks = clocks i }

pub one-outcome : (cs ds : List ClockHistory) (s t : Settlement) → AllZip StandAlike cs ds → IsOutcomeOf cs s → IsOutcomeOf ds t → s ≡ t
one-outcome cs ds s t a = by s t
  where
    running : FoundAlike (find is_running cs) (find is_running ds)
    running = found-alike is_running (λ c d e. ap runs e.same_phase) cs ds a

    halted : FoundAlike (find is_halted cs) (find is_halted ds)
    halted = found-alike is_halted (λ c d e. ap has_stopped e.same_phase) cs ds a

    without : FoundAlike (find has_no_choice cs) (find has_no_choice ds)
    without = found-alike has_no_choice (λ c d e. ap is_none e.same_choice) cs ds a

    by : (s t : Settlement) → IsOutcomeOf cs s → IsOutcomeOf ds t → s ≡ t
    by (Open clock round missing) (Open clock' round' missing') h k =
        let f = both-first (find is_running cs) (find is_running ds) _ _ running h k in
        let x = f.left.0 ∙ f.alike.same_number ∙ sym f.right.0 in
        let y = f.left.1 ∙ ap (λ n. n + 1) f.alike.same_steps ∙ sym f.right.1 in
        let z = f.left.2 ∙ f.alike.same_missing ∙ sym f.right.2 in
        λ i. Open (x i) (y i) (z i)
    by (Open clock round missing) (Halted clock' good') h k = absurd (only-left (find is_running cs) (find is_running ds) _ running h k.0)
    by (Open clock round missing) (NoAward clock') h k = absurd (only-left (find is_running cs) (find is_running ds) _ running h k.0)
    by (Open clock round missing) (Settled o) h k = absurd (only-left (find is_running cs) (find is_running ds) _ running h k.0)
    by (Halted clock good) (Open clock' round' missing') h k = absurd (only-right (find is_running cs) (find is_running ds) _ running h.0 k)
    by (Halted clock good) (Halted clock' good') h k =
        let f = both-first (find is_halted cs) (find is_halted ds) _ _ halted h.1 k.1 in
        let x = f.left.0 ∙ f.alike.same_number ∙ sym f.right.0 in
        let y : good ≡ good' = same-good good good' (sym f.left.1 ∙ f.alike.same_phase ∙ f.right.1) in
        λ i. Halted (x i) (y i)
      where
        same-good : (a b : ℕ) → phase.Halted a ≡ phase.Halted b → a ≡ b
        same-good a b e = cc
    by (Halted clock good) (NoAward clock') h k = absurd (only-left (find is_halted cs) (find is_halted ds) _ halted h.1 k.1)
    by (Halted clock good) (Settled o) h k = absurd (only-left (find is_halted cs) (find is_halted ds) _ halted h.1 k.1)
    by (NoAward clock) (Open clock' round' missing') h k = absurd (only-right (find is_running cs) (find is_running ds) _ running h.0 k)
    by (NoAward clock) (Halted clock' good') h k = absurd (only-right (find is_halted cs) (find is_halted ds) _ halted h.1 k.1)
    by (NoAward clock) (NoAward clock') h k =
        let f = both-first (find has_no_choice cs) (find has_no_choice ds) _ _ without h.2 k.2 in
        let x = f.left ∙ f.alike.same_number ∙ sym f.right in
        λ i. NoAward (x i)
    by (NoAward clock) (Settled o) h k = absurd (only-left (find has_no_choice cs) (find has_no_choice ds) _ without h.2 k.2)
    by (Settled o) (Open clock' round' missing') h k = absurd (only-right (find is_running cs) (find is_running ds) _ running h.0 k)
    by (Settled o) (Halted clock' good') h k = absurd (only-right (find is_halted cs) (find is_halted ds) _ halted h.1 k.1)
    by (Settled o) (NoAward clock') h k = absurd (only-right (find has_no_choice cs) (find has_no_choice ds) _ without h.2 k.2)
    by (Settled o) (Settled p) h k = let e = settled-same cs ds o p a h.3 k.3 in λ i. Settled (e i)
