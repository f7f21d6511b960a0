use Rattle.std.proofs.Common.{◌≡◌, ◌≢◌, ◌∙◌, refl, sym, arith}
use Rattle.demand_set.specs.declared.reports.Report.{Report}
use Rattle.clock.specs.declared.judging.Judgement.TheVariants as judged
use Rattle.clock.specs.declared.judging.Offered.{Offered}
use Rattle.clock.specs.declared.judging.Offered.TheVariants as answers
use Rattle.recovery.specs.Journaled.{Owner}
use Rattle.clock_book.specs.Books.{BookState}
use Rattle.clock_book.specs.Offers.{Answers, IsNew}
use Rattle.clock_book.proofs.laws.taken_law.Goals as goal

by-answer : (owner : Owner) (answer : Offered) (mid : BookState) (r : Report) (new : BookState) → Answers owner answer mid r new → IsNew owner mid r → answer ≢ answers.DiskFault → answer ≡ answers.Taken
by-answer owner answers.Taken mid r new is fresh not = refl
by-answer owner answers.Again mid r new is fresh not = absurd (let e : judged.Again ≡ judged.Take = sym is.0 ∙ fresh.take in cc)
by-answer owner (answers.Refused judgement) mid r new is fresh not = absurd (is.1 (sym is.0 ∙ fresh.take))
by-answer owner (answers.Full needed) mid r new is fresh not = absurd (omega (arith, is.1, is.2, fresh.within))
by-answer owner answers.DiskFault mid r new is fresh not = absurd (not refl)
by-answer owner answers.NoMemory mid r new is fresh not = absurd is

pub returns : goal.returns
returns c = by-answer
