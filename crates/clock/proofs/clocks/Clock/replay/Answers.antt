use Rattle.std.proofs.Common.{◌≡◌, ◌∙◌, sym, ap, subst, refl, arith, [], ◌∷◌, ◌++◌, List, length, append_assoc, append-nil}
use Rattle.std.specs.List.{AllByRecursion}
use Rattle.std.specs.Vec.Iter.{into_iter_items}
use Rattle.std.proofs.lemmas.List.{length-append}
use Rattle.lot_base.specs.Demands.{IsDemand}
use Rattle.demand_set.specs.declared.reports.Report.{Report}
use Rattle.clock.specs.declared.judging.Judgement.TheVariants.{Take}
use Rattle.clock.specs.Reports.{ClockHistory, with_report}
use Rattle.clock.specs.Judging.{judgement_of}
use Rattle.clock.proofs.Append.{takes-more}
use Rattle.clock.proofs.clocks.Clock.replay.Goals as goal

-- what is said of all reports is said of one of them
one-of-all : (P : Report → Type 0) (before : List Report) (r : Report) (after : List Report) → AllByRecursion P (before ++ r ∷ after) → P r
one-of-all P [] r after all = all.0
one-of-all P (x ∷ before) r after all = one-of-all P before r after all.1

no-more : {X : Type 0} (l : List X) → length l ≡ 0 → l ≡ []
no-more [] h = refl
no-more (x ∷ xs) h = absurd (omega arith)

pub number_after-requires : goal.number_after-requires
number_after-requires c =
    let few = c.loop-report.invariant.few in
    let gone = c.in-Some.ensures.steps.1 in
    omega (arith, few, gone)

pub loop-report-preserved : goal.loop-report-preserved
loop-report-preserved c =
    let i = c.loop-report.invariant in
    let x = c.in-Some.report in
    let steps : into_iter_items c.loop-report.report-iterator ≡ x ∷ into_iter_items c.next.new.self = c.in-Some.ensures.steps.0 in
    let gone = c.in-Some.ensures.steps.1 in
    let short = ap length steps in
    let now : c.apply.new.self.history ≡ with_report c.loop-report.clock.history x = c.in-Ok-apply.ensures.ok in
    let take : judgement_of c.loop-report.clock.history x ≡ Take = sym c.judge-judgement.ensures.value ∙ c.in-Take.is in
    record {
      same = append_assoc c.loop-report.yielded (x ∷ []) _ ∙ ap (λ l. c.loop-report.yielded ++ l) (sym steps) ∙ i.same;
      left = omega arith;
      count = omega (arith, i.count, length-append c.loop-report.yielded (x ∷ []));
      few = omega (arith, i.few, gone);
      clock = now ∙ ap (λ k. with_report k x) i.clock;
      all = takes-more (record { terms = c.args.terms.now; number = c.args.number; reports = [] }) c.loop-report.yielded x i.all (ap (λ k. judgement_of k x) (sym i.clock) ∙ take);
    }

pub apply-requires-clause-fits : goal.apply-requires-clause-fits
apply-requires-clause-fits c =
    let i = c.loop-report.invariant in
    let x = c.in-Some.report in
    let steps : into_iter_items c.loop-report.report-iterator ≡ x ∷ into_iter_items c.next.new.self = c.in-Some.ensures.steps.0 in
    let all : c.loop-report.yielded ++ x ∷ into_iter_items c.next.new.self ≡ c.args.reports.items = ap (λ l. c.loop-report.yielded ++ l) (sym steps) ∙ i.same in
    let P : Report → Type 0 = λ r. IsDemand c.args.terms.now.goods r.demand in
    let fits : P x = one-of-all P c.loop-report.yielded x (into_iter_items c.next.new.self) (subst (AllByRecursion P) (sym all) c.requires.fit) in
    subst (λ (k : ClockHistory). IsDemand k.terms.goods x.demand) (sym i.clock) fits

pub returns-clause-taken : goal.returns-clause-taken
returns-clause-taken c =
    let i = c.loop-report.invariant in
    let none = c.in-None.ensures.steps in
    let empty : into_iter_items c.loop-report.report-iterator ≡ [] = no-more _ (sym i.left ∙ none.0) in
    let all : c.loop-report.yielded ≡ c.args.reports.items = sym (append-nil c.loop-report.yielded) ∙ rw empty at i.same in
    i.clock ∙ ap (λ (l : List Report). record { terms = c.args.terms.now; number = c.args.number; reports = l }) all
