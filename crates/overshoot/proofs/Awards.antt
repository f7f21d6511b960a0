-- Where a clock has ended, no set overshoots and the last demands of all members have the exchange property, it has an award.
use Rattle.std.proofs.Common.{◌≡◌, ◌≢◌, inl, inr, ℕ, zero, suc, ◌+◌, ◌%◌, ◌/◌, ◌≤◌, Bool, true, false, not, nat_eq, cond, List, [], ◌∷◌, map, Option, Some, None, arith, refl, sym, subst, ◌∙◌}
use Rattle.std.specs.Prelude.{filter, ◌↔◌, is_some, unwrap_or}
use Rattle.std.specs.List.{AllByRecursion, range_with_len}
use Rattle.std.proofs.lemmas.Int.{ints}
use Rattle.std.proofs.lemmas.Bool.{cases_eq}
use Rattle.std.proofs.lemmas.Bool.Decides.{nat_tests}
use Rattle.lot_base.specs.Goods.{raised, AtMost}
use Rattle.lot_base.specs.Demands.{IsDemand}
use Rattle.lot_base.specs.declared.auction_terms.Terms.{Terms}
use Rattle.lot_base.specs.declared.phases.Phase.TheVariants.{Ended}
use Rattle.lot_base.specs.Choices.{first_choice}
use Rattle.award_assembly.proofs.Places.{first_choice-clearing}
use Rattle.lyapunov.proofs.Lattice.{AtMost-more, AtMost-self}
use Rattle.clock.specs.Reports.{ClockHistory, members_of, demand_in, is_full}
use Rattle.clock.specs.Standing.{phase_of, prices_after, prices_of, steps_of, step_set_after, is_full_after, good_at_ceiling, last_demands, last_round}
use Rattle.overshoot.specs.Exchange.{HasExchange}
use Rattle.overshoot.specs.Explained.{Clears, Overshoots, IsGreatest, HaveExchange, AreFit}
use Rattle.clock.specs.Judging.{IsLegal}
use Rattle.clock.proofs.Excesses.{found-fits}
use Rattle.clock.proofs.Truthful.{ended-by}
use Rattle.lot_base.proofs.Within.{both}
use Rattle.clock.proofs.LastDemands.{full-ended}
use Rattle.overshoot.proofs.Bridge.{choice-exists, none-overshoots}

-- a clock that has ended has an empty step set in its last round
pub no-step : (c : ClockHistory) → phase_of c ≡ Ended → step_set_after c (steps_of c) ≡ 0
no-step c e = let t = ended-by (is_full_after c (steps_of c)) (nat_eq (step_set_after c (steps_of c)) 0) (good_at_ceiling c (steps_of c)) e in let empty = t.1 in grind (arith, nat_tests)

-- prices do not fall
raised-above : (p : List ℕ) (set : ℕ) → AtMost p (raised p set)
raised-above [] set = tt
raised-above (q ∷ p) set = (by (nat_eq (set % 2) 1), raised-above p (set / 2))
  where
    by : (b : Bool) → q ≤ cond b (q + 1) q
    by true = omega arith
    by false = omega arith

pub opening-below : (c : ClockHistory) (n : ℕ) → AtMost c.terms.opening (prices_after c n)
unfolding prices_after
opening-below c zero = AtMost-self c.terms.opening
opening-below c (suc n) = AtMost-more c.terms.opening (prices_after c n) (raised (prices_after c n) (step_set_after c n)) (opening-below c n) (raised-above (prices_after c n) (step_set_after c n))

-- the members, one by one
pub fit-each : (s : List ℕ) (d : ℕ → List (List ℕ)) (js : List ℕ) → AllByRecursion (λ x. IsDemand s x) (map d js) → AllByRecursion (λ j. IsDemand s (d j)) js
fit-each s d [] all = tt
fit-each s d (j ∷ js) all = (all.0, fit-each s d js all.1)

have-next : (c : ClockHistory) (a : ℕ) (rest : List ℕ) → (a ≢ c.number → HasExchange (last_demands c a)) → AllByRecursion (λ j. HasExchange (last_demands c j)) rest → (b : Bool) → nat_eq a c.number ≡ b
    → AllByRecursion (λ j. HasExchange (last_demands c j)) (cond (not b) (a ∷ rest) rest)
have-next c a rest here all true e = all
have-next c a rest here all false e = (here (grind (arith, nat_tests)), all)

have-each : (c : ClockHistory) (a n : ℕ) → 1 ≤ a → HaveExchange c (a + n) → AllByRecursion (λ j. HasExchange (last_demands c j)) (filter (λ j. not (nat_eq j c.number)) (range_with_len a n))
have-each c a zero some have = tt
have-each c a (suc n) some have =
    have-next c a (filter (λ j. not (nat_eq j c.number)) (range_with_len (a + 1) n)) (λ other. have a some (omega arith) other)
    (have-each c (a + 1) n (omega arith) (λ j from to other. have j from (omega (arith, to)) other)) (nat_eq a c.number) refl

pub have-members : (c : ClockHistory) → HaveExchange c (c.terms.bidders + 1) → AllByRecursion (λ j. HasExchange (last_demands c j)) (members_of c)
have-members c have = have-each c 1 c.terms.bidders (omega arith) (λ j from to other. have j from (omega (arith, to)) other)

-- no set overshoots where the greatest shortfall is 0
pub none-short : (c : ClockHistory) (set short : ℕ) → IsGreatest c set short → short ≡ 0 → (other : ℕ) → Overshoots c other → ⊥
none-short c set short is none other over =
    let g = is.greatest other over.is_set over.risen in
    let h = over.short in
    omega (arith, ints)

pub award-exists : (c : ClockHistory) → phase_of c ≡ Ended → AreFit c → ((set : ℕ) → Overshoots c set → ⊥) → HaveExchange c (c.terms.bidders + 1)
    → (choice : List (List ℕ)) × Clears c choice
award-exists c ended fit none have =
    choice-exists c.terms.goods c.terms.opening (prices_of c) (members_of c) (last_demands c) (opening-below c (steps_of c)) c.terms.opens.goods fit (no-step c ended) (have-members c have) none

-- one member more
pub have-more : (c : ClockHistory) (step : ℕ) → HaveExchange c (step + 1) → (step + 1 ≢ c.number → HasExchange (last_demands c (step + 1))) → HaveExchange c (step + 1 + 1)
have-more c step have here j from to other = elim (cases_eq j (step + 1)) [
  | inl same ↦ let P : ℕ → Type 0 = λ k. (k ≢ c.number) → HasExchange (last_demands c k) in subst P (sym same) here other
  | inr less ↦ have j from (omega arith) other
]

-- the choice that is found clears in the clock's last round
pub clears-from : (c : ClockHistory) (terms : Terms) (prices : List ℕ) (demands : List (List (List ℕ))) (choice : List (List ℕ)) → c.terms ≡ terms → prices ≡ prices_of c → demands ≡ map (last_demands c) (members_of c)
    → Some choice ≡ first_choice terms.goods terms.opening prices demands → Clears c choice
clears-from c terms prices demands choice same p d e =
    let back = sym same in
    first_choice-clearing c.terms.goods c.terms.opening (prices_of c) (map (last_demands c) (members_of c)) choice (sym (e ∙ (λ i. first_choice (back i).goods (back i).opening (p i) (d i))))

-- the last demands of a legal clock that has ended are demands of the supply
fit-some : (s : List ℕ) (o : Option (List (List ℕ))) → is_some o ≡ true → ((d : List (List ℕ)) → o ≡ Some d → IsDemand s d) → IsDemand s (unwrap_or o [])
fit-some s None some fits = absurd (let f : false ≡ true = some in cc)
fit-some s (Some d) some fits = fits d refl

fit-all : (c : ClockHistory) → IsLegal c → (js : List ℕ) → is_full js c.reports (last_round c) ≡ true → AllByRecursion (λ j. IsDemand c.terms.goods (last_demands c j)) js
fit-all c legal [] full = tt
fit-all c legal (j ∷ js) full =
    let t = both (is_some (demand_in c.reports (last_round c) j)) (is_full js c.reports (last_round c)) full in
    (fit-some c.terms.goods (demand_in c.reports (last_round c) j) t.0 (λ d e. found-fits c.terms.goods c.reports (last_round c) j d legal.demands e), fit-all c legal js t.1)

pub fit-ended : (c : ClockHistory) → IsLegal c → phase_of c ≡ Ended → AreFit c
fit-ended c legal ended = fit-all c legal (members_of c) (full-ended c ended)

pub exists-where : (c : ClockHistory) → IsLegal c → phase_of c ≡ Ended → AllByRecursion (λ j. HasExchange (last_demands c j)) (members_of c)
    → ((choice : List (List ℕ)) × Clears c choice) ↔ ((set : ℕ) → Overshoots c set → ⊥)
exists-where c legal ended have = (
  (λ t set over. none-overshoots c.terms.goods c.terms.opening (prices_of c) (members_of c) (last_demands c) t.0 set t.1 over),
  (λ none. choice-exists c.terms.goods c.terms.opening (prices_of c) (members_of c) (last_demands c) (opening-below c (steps_of c)) c.terms.opens.goods (fit-ended c legal ended) (no-step c ended) have none),
)
