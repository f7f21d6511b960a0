use Rattle.std.proofs.Common.{◌≡◌, ◌≢◌, refl, ◌<◌, ◌≤◌, ℕ, ◌+◌, ◌-◌, zero, suc, nat_eq, List, [], ◌∷◌, length, sym, ◌∙◌, ap, subst, arith}
use Rattle.std.specs.List.{AllByRecursion}
use Rattle.lot_base.specs.Goods.{at}
use Rattle.lot_base.specs.Economy.{lyapunov, IsLeastMinimiser}
use Rattle.lot_base.specs.declared.phases.Phase.{Phase}
use Rattle.lot_base.specs.declared.phases.Phase.TheVariants.{Halted}
use Rattle.lyapunov.specs.Paths.{IsLeastNear}
use Rattle.credit_book.specs.Account.{Sums}
use Rattle.clock.specs.Reports.{ClockOf, ClockHistory, members_of}
use Rattle.clock.specs.Standing.{steps_of, phase_of, phase_after, prices_of, prices_after, is_full_after, step_set_after, good_at_ceiling}
use Rattle.clock.specs.Kept.{HasStanding}
use Rattle.clock.proofs.Ceiling.{AllUpTo}
use Rattle.clock.proofs.Path.{on_the_path, has_steps, OnThePath}
use Rattle.clock.proofs.Truthful.{least-minimiser, least-near, never-halted, halted-by, at-ceiling}
use Rattle.clock.proofs.clocks.Clock.look.Goals as goal

phase-kept : (v c : ClockHistory) (current steps : ℕ) (phase : Phase) (prices : List ℕ) (account : Sums) → HasStanding v current steps phase prices account → v ≡ c → phase ≡ phase_of c
phase-kept v c current steps phase prices account kept same = kept.phase_is ∙ ap (phase_after v) kept.steps_are ∙ ap phase_of same

prices-kept : (v c : ClockHistory) (current steps : ℕ) (phase : Phase) (prices : List ℕ) (account : Sums) → HasStanding v current steps phase prices account → v ≡ c → prices ≡ prices_of c
prices-kept v c current steps phase prices account kept same = kept.prices_are ∙ ap (prices_after v) kept.steps_are ∙ ap prices_of same

pub returns-clause-least : goal.returns-clause-least
returns-clause-least c = λ u explains.
    let now = c.args.self.now.history in
    let same = ap (λ (k : ClockOf). k.history) c.self.view_is in
    let phase = phase-kept _ now _ _ _ _ _ c.self.invariant.0.standing same in
    let prices = prices-kept _ now _ _ _ _ _ c.self.invariant.0.standing same in
    let L : List ℕ → Type 0 = λ p. IsLeastMinimiser now.terms.opening (lyapunov now.terms.goods u (members_of now)) p in
    let N : ℕ → List ℕ → Type 0 = λ n p. IsLeastNear now.terms.opening n (lyapunov now.terms.goods u (members_of now)) p in
    let steps : steps_of now ≡ c.self.inside.steps + 1 - 1 = sym (c.self.invariant.0.standing.steps_are ∙ ap steps_of same) ∙ (omega arith) in
    record {
      near = subst (λ n. N n c.self.inside.prices) steps (subst (λ p. N (steps_of now) p) (sym prices) (least-near u now explains));
      ended = λ ended. subst L (sym prices) (least-minimiser u now explains (sym phase ∙ ended));
      unhalted = λ good low halted. never-halted u now good explains low (sym phase ∙ halted);
    }

path-of : (c : ClockHistory) → OnThePath c (steps_of c)
path-of c = on_the_path c (steps_of c) (has_steps c).before

all-up : (ceiling : ℕ) (ps : List ℕ) → AllUpTo ceiling ps → AllByRecursion (λ price. price ≤ ceiling) ps
all-up ceiling [] up = tt
all-up ceiling (p ∷ ps) up = (up.0, all-up ceiling ps up.1)

-- after the last entry there is 0
some-there : (ps : List ℕ) (k : ℕ) → at ps k ≢ 0 → k < length ps
some-there [] k some = absurd (some refl)
some-there (p ∷ ps) zero some = omega arith
some-there (p ∷ ps) (suc k) some = let below = some-there ps k some in omega arith

halted-at : (c : ClockHistory) (good : ℕ) → phase_of c ≡ Halted good → (good < length c.terms.goods) × (at (prices_of c) good ≡ c.terms.ceiling)
halted-at c good e =
    let found = halted-by (is_full_after c (steps_of c)) (nat_eq (step_set_after c (steps_of c)) 0) (good_at_ceiling c (steps_of c)) good e in
    let there = at-ceiling 0 c.terms.ceiling (prices_of c) (step_set_after c (steps_of c)) good found in
    let none : good - 0 ≡ good = omega arith in
    let same : at (prices_of c) good ≡ c.terms.ceiling = ap (at (prices_of c)) (sym none) ∙ there.1 in
    let r = c.terms.ceiling_in_range.at_least in
    let some : at (prices_of c) good ≢ 0 = omega arith in
    (subst (λ n. good < n) (path-of c).goods (some-there (prices_of c) good some), same)

pub returns-clause-goods : goal.returns-clause-goods
returns-clause-goods c =
    ap length (prices-kept _ c.args.self.now.history _ _ _ _ _ c.self.invariant.0.standing (ap (λ (k : ClockOf). k.history) c.self.view_is)) ∙ (path-of c.args.self.now.history).goods

pub returns-clause-within : goal.returns-clause-within
returns-clause-within c =
    let now = c.args.self.now.history in
    let W : List ℕ → Type 0 = λ ps. AllByRecursion (λ price. price ≤ now.terms.ceiling) ps in
    subst W (sym (prices-kept _ now _ _ _ _ _ c.self.invariant.0.standing (ap (λ (k : ClockOf). k.history) c.self.view_is))) (all-up now.terms.ceiling (prices_of now) (path-of now).up)

pub returns-clause-halted : goal.returns-clause-halted
returns-clause-halted c = λ good halted.
    let now = c.args.self.now.history in
    let H : List ℕ → Type 0 = λ ps. (good < length now.terms.goods) × (at ps good ≡ now.terms.ceiling) in
    subst H (sym (prices-kept _ now _ _ _ _ _ c.self.invariant.0.standing (ap (λ (k : ClockOf). k.history) c.self.view_is))) (halted-at now good (sym (phase-kept _ now _ _ _ _ _ c.self.invariant.0.standing (ap (λ (k : ClockOf). k.history) c.self.view_is)) ∙ halted))
