-- What is shown of a clock after some reports is shown of it after more of them, where the number that is told without a turn is the same.
use Rattle.std.proofs.Common.{◌≡◌, ◌<◌, ◌≤◌, ℕ, ◌+◌, ◌*◌, Bool, true, false, nat_eq, List, [], ◌∷◌, ◌++◌, Option, Some, length, refl, sym, ◌∙◌, ap, subst, arith, append_assoc, append-nil}
use Rattle.lot_base.specs.declared.auction_terms.Terms.{Terms}
use Rattle.lot_base.specs.declared.phases.Phase.{Phase}
use Rattle.lot_base.specs.declared.phases.Phase.TheVariants.{Running, Ended, Halted}
use Rattle.demand_set.specs.declared.reports.Report.{Report}
use Rattle.clock.specs.Reports.{ClockHistory, members_of, with_report}
use Rattle.clock.specs.Standing.{leads_on, is_full_after, step_set_after, good_at_ceiling, good_from, prices_after, prices_of, phase_by, phase_after, phase_of, steps_of}
use Rattle.clock.specs.declared.clocks.Look.{Look}
use Rattle.clock.proofs.Append.{step-stays, prices-stay, leads_on-stays, full-stays}
use Rattle.clock.proofs.Path.{has_steps}
use Rattle.recovery.specs.Journaled.{Owner}
use Rattle.clock_book.specs.declared.entries.Entry.{Entry}
use Rattle.clock_book.specs.declared.origins.Origin.{Origin}
use Rattle.clock_book.specs.DeskHistories.{reports_in}
use Rattle.clock_book.specs.Opening.{history_of}
use Rattle.clock_book.specs.Past.{owner_in}
use Rattle.clock_book.proofs.Histories.{reports-append}
use Rattle.turn_desk.specs.Histories.{StartsWith, StartsWithAll}
use Rattle.turn_desk.specs.Passes.{Known, PassGlances, after_giving}
use Rattle.clock_family.specs.Turns.{Shows, IsOf, PassLooks, clock_in}
use Rattle.clock_family.specs.Glances.{stopped, gauge_by, gauge_in, IsShownTo, SeesOn}
use Rattle.clock_family.proofs.Offering.{same-some}

-- only a full round is the last
full-by : (full empty : Bool) (good : Option ℕ) → stopped (phase_by full empty good) ≡ 1 → full ≡ true
full-by true empty good e = refl
full-by false empty good e = absurd (let f : 0 ≡ 1 = e in omega (arith, f))

phase-stays : (c : ClockHistory) (r : Report) (n : ℕ) → ((m : ℕ) → m < n → leads_on c m ≡ true) → stopped (phase_after c n) ≡ 1 → phase_after (with_report c r) n ≡ phase_after c n
phase-stays c r n before last =
    let full = full-by (is_full_after c n) (nat_eq (step_set_after c n) 0) (good_at_ceiling c n) last in
    let p = prices-stay c r n before in
    let s = step-stays c.terms.goods (members_of c) c.reports r (n + 1) full in
    let f : is_full_after (with_report c r) n ≡ is_full_after c n = full-stays (members_of c) c.reports r (n + 1) full ∙ sym full in
    λ i. phase_by (f i) (nat_eq (s i) 0) (good_from 0 c.terms.ceiling (p i) (s i))

-- the clock with more reports
abbrev with_more : ClockHistory → List Report → ClockHistory
with_more c more = record c { reports = c.reports ++ more }

none-more : (c : ClockHistory) → with_more c [] ≡ c
none-more c = λ i. record c { reports = append-nil c.reports i }

one-more : (c : ClockHistory) (r : Report) (more : List Report) → with_more c (r ∷ more) ≡ with_more (with_report c r) more
one-more c r more = λ i. record c { reports = sym (append_assoc c.reports (r ∷ []) more) i }

prices-last : (c : ClockHistory) (more : List Report) (n : ℕ) → ((m : ℕ) → m < n → leads_on c m ≡ true) → prices_after (with_more c more) n ≡ prices_after c n
prices-last c [] n before = ap (λ k. prices_after k n) (none-more c)
prices-last c (r ∷ more) n before =
    ap (λ k. prices_after k n) (one-more c r more)
    ∙ (prices-last (with_report c r) more n (λ m below. leads_on-stays c r m (λ k less. before k (omega (arith, below, less)))) ∙ prices-stay c r n before)

phase-lasts : (c : ClockHistory) (more : List Report) (n : ℕ) → ((m : ℕ) → m < n → leads_on c m ≡ true) → stopped (phase_after c n) ≡ 1 → phase_after (with_more c more) n ≡ phase_after c n
phase-lasts c [] n before last = ap (λ k. phase_after k n) (none-more c)
phase-lasts c (r ∷ more) n before last =
    let once = phase-stays c r n before last in
    ap (λ k. phase_after k n) (one-more c r more)
    ∙ (phase-lasts (with_report c r) more n (λ m below. leads_on-stays c r m (λ k less. before k (omega (arith, below, less)))) (ap stopped once ∙ last) ∙ once)

few-stopped : (p : Phase) → stopped p ≤ 1
few-stopped Running = omega arith
few-stopped Ended = omega arith
few-stopped (Halted good) = omega arith

running-is : (p : Phase) → stopped p ≡ 0 → p ≡ Running
running-is Running e = refl
running-is Ended e = absurd (let f : 1 ≡ 0 = e in omega (arith, f))
running-is (Halted good) e = absurd (let f : 1 ≡ 0 = e in omega (arith, f))

-- where no step was made, and the round is the last or not as before, prices and phase are the same
stays : (c : ClockHistory) (more : List Report) → steps_of (with_more c more) ≡ steps_of c → stopped (phase_of (with_more c more)) ≡ stopped (phase_of c) → (prices_of (with_more c more) ≡ prices_of c) × (phase_of (with_more c more) ≡ phase_of c)
stays c more steps phases =
    let d = with_more c more in let n = steps_of c in let before = (has_steps c).before in
    (ap (prices_after d) steps ∙ prices-last c more n before, by (phase_of c) refl)
  where
    by : (p : Phase) → phase_of c ≡ p → phase_of (with_more c more) ≡ phase_of c
    by Running e = running-is (phase_of (with_more c more)) (phases ∙ ap stopped e) ∙ sym e
    by Ended e = ap (phase_after (with_more c more)) steps ∙ phase-lasts c more (steps_of c) (has_steps c).before (ap stopped e)
    by (Halted good) e = ap (phase_after (with_more c more)) steps ∙ phase-lasts c more (steps_of c) (has_steps c).before (ap stopped e)

-- what is shown of a history is shown of a longer one with the same number
pub still-shown : (origin : Origin) (history longer : List Entry) (look : Look) → StartsWith longer history → Shows (clock_in (owner_in origin) history) look → gauge_in origin longer ≡ gauge_by look.round look.phase → Shows (clock_in (owner_in origin) longer) look
still-shown origin history longer look goes shows same =
    let c = clock_in (owner_in origin) history in let more = reports_in goes.0 in let d = with_more c more in
    let is : clock_in (owner_in origin) longer ≡ d = ap (history_of (owner_in origin)) (ap reports_in goes.1 ∙ reports-append history goes.0) in
    let e : 2 * (steps_of d + 1) + stopped (phase_of d) ≡ 2 * (steps_of c + 1) + stopped (phase_of c) = ap (λ k. 2 * (steps_of k + 1) + stopped (phase_of k)) (sym is) ∙ (same ∙ (λ i. gauge_by (shows.round i) (shows.phase i))) in
    let a = few-stopped (phase_of c) in let b = few-stopped (phase_of d) in
    let steps : steps_of d ≡ steps_of c = omega (arith, e, a, b) in
    let last : stopped (phase_of d) ≡ stopped (phase_of c) = omega (arith, e, a, b) in
    let h = stays c more steps last in
    subst (λ k. Shows k look) (sym is) (record {
      round = shows.round ∙ ap (λ (n : ℕ). n + 1) (sym steps);
      phase = shows.phase ∙ sym h.1;
      prices = shows.prices ∙ sym h.0;
    })

-- at least what it had seen
pub sees-same : (old new : Known Entry Origin) → new ≡ old → SeesOn old new
sees-same old new is = record { history = old.seen; goes_on = ([], sym (append-nil old.seen)); sees = is }

-- a pass that has seen more is of the same owner
pub same-owner : (owner : Owner) (old new : Known Entry Origin) → SeesOn old new → IsOf owner old → IsOf owner new
same-owner owner old new on of = (of.0, ap (λ (p : Known Entry Origin). p.origin) on.sees ∙ of.1, of.2)

pub looked-owner : (owner : Owner) (look : Look) (old new : Known Entry Origin) → PassLooks look old new → IsOf owner old → IsOf owner new
looked-owner owner look old new looks of = (of.0, ap (λ (p : Known Entry Origin). p.origin) looks.same ∙ of.1, of.2)

-- and a look after it is one of the pass as it was
pub looks-behind : (look : Look) (old mid new : Known Entry Origin) → SeesOn old mid → PassLooks look mid new → PassLooks look old new
looks-behind look old mid new on looks =
    let more : StartsWith looks.before on.history = subst (λ (p : Known Entry Origin). StartsWith looks.before p.seen) on.sees looks.goes_on in
    record {
      origin = looks.origin;
      origin_is = ap (λ (p : Known Entry Origin). p.origin) (sym on.sees) ∙ looks.origin_is;
      before = looks.before;
      goes_on = (on.goes_on.0 ++ more.0, more.1 ∙ ap (λ l. l ++ more.0) on.goes_on.1 ∙ append_assoc old.seen on.goes_on.0 more.0);
      also = subst (λ (p : Known Entry Origin). StartsWithAll looks.before p.also) on.sees looks.also;
      shows = looks.shows;
      same = looks.same ∙ ap (λ (p : Known Entry Origin). record p { seen = looks.before }) on.sees;
    }

-- a glance that tells the number of what was shown is a look that shows the same
pub glance-looks : (look : Look) (found : ℕ) (old new : Known Entry Origin) → IsShownTo old look → PassGlances gauge_in old found new → found ≡ gauge_by look.round look.phase → PassLooks look old new × IsShownTo new look
glance-looks look found old new shown glance same =
    let one : glance.origin ≡ shown.origin = same-some glance.origin shown.origin (sym glance.origin_is ∙ shown.origin_is) in
    let told : gauge_in shown.origin glance.history ≡ gauge_by look.round look.phase = ap (λ o. gauge_in o glance.history) (sym one) ∙ (sym glance.gauge_is ∙ same) in
    let shows = still-shown shown.origin old.seen glance.history look glance.goes_on shown.shows told in (
      record { origin = shown.origin; origin_is = shown.origin_is; before = glance.history; goes_on = glance.goes_on; also = glance.also; shows = shows; same = glance.sees },
      record {
        origin = shown.origin;
        origin_is = ap (λ (p : Known Entry Origin). p.origin) glance.sees ∙ shown.origin_is;
        shows = subst (λ (p : Known Entry Origin). Shows (clock_in (owner_in shown.origin) p.seen) look) (sym glance.sees) shows;
        goods = shown.goods;
        halted = shown.halted;
      },
    )

-- what the book shows that was given back is shown in the history that the pass has seen then
pub given-shown : (look : Look) (origin : Origin) (after : List Entry) (at new : Known Entry Origin) → at.origin ≡ Some origin → new ≡ after_giving at after → Shows (clock_in (owner_in origin) after) look → length look.prices ≡ length origin.terms.goods
    → ((good : ℕ) → look.phase ≡ Halted good → good < length origin.terms.goods) → IsShownTo new look
given-shown look origin after at new is given shows goods halted = record {
  origin = origin;
  origin_is = ap (λ (p : Known Entry Origin). p.origin) given ∙ is;
  shows = subst (λ (p : Known Entry Origin). Shows (clock_in (owner_in origin) p.seen) look) (sym given) shows;
  goods = goods;
  halted = halted;
}

-- what is shown to a pass has the goods of its owner
pub owner-goods : (owner : Owner) (p : Known Entry Origin) (look : Look) → IsOf owner p → IsShownTo p look → (length look.prices ≡ length owner.terms.goods) × ((good : ℕ) → look.phase ≡ Halted good → good < length owner.terms.goods)
owner-goods owner p look of shown =
    let one : shown.origin ≡ of.0 = same-some shown.origin of.0 (sym shown.origin_is ∙ of.1) in
    let terms : shown.origin.terms ≡ owner.terms = ap (λ (o : Origin). o.terms) one ∙ ap (λ (o : Owner). o.terms) of.2 in
    (shown.goods ∙ ap (λ (t : Terms). length t.goods) terms, λ good e. subst (λ (t : Terms). good < length t.goods) terms (shown.halted good e))
