use Rattle.std.proofs.Common.{◌≡◌, ◌⊎◌, ⊎_elim, ◌+◌, ◌-◌, ℕ, List, slice_get, Some, sym, ◌∙◌, subst, arith}
use Rattle.demand_set.specs.declared.reports.Report.{Report}
use Rattle.clock.specs.Judging.{judgement_of}
use Rattle.clock.specs.declared.judging.Judgement.{Judgement}
use Rattle.clock.specs.declared.judging.Judgement.TheVariants as judged
use Rattle.clock.specs.declared.judging.Offered.{Offered}
use Rattle.clock.specs.declared.judging.Offered.TheVariants as answers
use Rattle.recovery.specs.Journaled.{Owner}
use Rattle.clock_book.specs.Past.{owner_in}
use Rattle.clock_book.specs.Books.{BookState}
use Rattle.clock_book.specs.Offers.{Answers}
use Rattle.migration.proofs.Following.{book-takes, book-fits, answered}
use Rattle.migration.proofs.Offering.{goes-next, has-next}
use Rattle.migration.proofs.moving.offer_next.Goals as goal

at-place : (reports : List Report) (n : ℕ) (r : Report) → slice_get reports (n + 1 - 1) ≡ Some r → slice_get reports n ≡ Some r
at-place reports n r at = let back : n + 1 - 1 ≡ n = omega arith in subst (λ (k : ℕ). slice_get reports k ≡ Some r) back at

pub offer-requires : goal.offer-requires
offer-requires g c =
    let kept = c.clock-kept.ensures.kept in
    let source = c.args.source.now.history in
    book-fits source c.args.place c.in-Ok.report c.number-legal.ensures.legal (at-place source.reports c.args.place c.in-Ok.report c.in-Ok.ensures) c.args.book.now c.requires.first kept.terms kept.number

-- a report that is to be taken is not answered in another way, but for want of room or a fault
not-refused : (owner : Owner) (old : BookState) (r : Report) (answer : Offered) (new : BookState) → judgement_of old.clock r ≡ judged.Take → Answers owner answer old r new
    → (answer ≡ answers.Again) ⊎ (((judgement : Judgement) × (answer ≡ answers.Refused judgement)) ⊎ (answer ≡ answers.NoMemory)) → ⊥
not-refused owner old r answers.Again new take is which = let e : judged.Again ≡ judged.Take = sym is.0 ∙ take in cc e
not-refused owner old r (answers.Refused judgement) new take is which = is.1 (sym is.0 ∙ take)
not-refused owner old r answers.NoMemory new take is which = is
not-refused owner old r answers.Taken new take is which = ⊎_elim (λ e. cc e) (λ rest. ⊎_elim (λ p. let e = p.1 in cc e) (λ e. cc e) rest) which
not-refused owner old r (answers.Full needed) new take is which = ⊎_elim (λ e. cc e) (λ rest. ⊎_elim (λ p. let e = p.1 in cc e) (λ e. cc e) rest) which
not-refused owner old r answers.DiskFault new take is which = ⊎_elim (λ e. cc e) (λ rest. ⊎_elim (λ p. let e = p.1 in cc e) (λ e. cc e) rest) which

pub unreachable-requires : goal.unreachable-requires
unreachable-requires g c =
    let kept = c.clock-kept.ensures.kept in
    let source = c.args.source.now.history in
    let b = c.args.book.now in
    let r = c.in-Ok.report in
    let at = at-place source.reports c.args.place r c.in-Ok.ensures in
    not-refused (owner_in b.origin) b.state r c.offer.result c.offer.new.self.state (book-takes source c.args.place r c.number-legal.ensures.legal at b c.requires.first kept.terms kept.number)
    (answered (owner_in b.origin) b.state r c.offer.result c.offer.new.self.state _ _ c.requires.first.settled c.offer.ensures.answer) c.in-Again.is

pub returns-in-Taken-clause-goes_on : goal.returns-in-Taken-clause-goes_on
returns-in-Taken-clause-goes_on g c =
    let source = c.args.source.now.history in
    goes-next g.D.Disk.shown source c.args.place c.args.book.now c.offer.new.self c.in-Ok.report c.offer.result c.requires.first (at-place source.reports c.args.place c.in-Ok.report c.in-Ok.ensures)
    c.offer.ensures.answer c.offer.ensures.origin c.offer.ensures.later

pub returns-in-Taken-clause-first : goal.returns-in-Taken-clause-first
returns-in-Taken-clause-first g c =
    let source = c.args.source.now.history in
    has-next g.D.Disk.shown source c.args.place c.args.book.now c.offer.new.self c.in-Ok.report c.offer.result c.requires.first (at-place source.reports c.args.place c.in-Ok.report c.in-Ok.ensures)
    c.offer.ensures.answer c.offer.ensures.origin c.in-Taken.is

pub returns-in-Full-clause-goes_on : goal.returns-in-Full-clause-goes_on
returns-in-Full-clause-goes_on g c =
    let source = c.args.source.now.history in
    goes-next g.D.Disk.shown source c.args.place c.args.book.now c.offer.new.self c.in-Ok.report c.offer.result c.requires.first (at-place source.reports c.args.place c.in-Ok.report c.in-Ok.ensures)
    c.offer.ensures.answer c.offer.ensures.origin c.offer.ensures.later

pub returns-in-DiskFault-clause-goes_on : goal.returns-in-DiskFault-clause-goes_on
returns-in-DiskFault-clause-goes_on g c =
    let source = c.args.source.now.history in
    goes-next g.D.Disk.shown source c.args.place c.args.book.now c.offer.new.self c.in-Ok.report c.offer.result c.requires.first (at-place source.reports c.args.place c.in-Ok.report c.in-Ok.ensures)
    c.offer.ensures.answer c.offer.ensures.origin c.offer.ensures.later
