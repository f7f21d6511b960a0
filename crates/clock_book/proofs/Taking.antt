-- The report of a record is taken, or it is not; or the record is broken.
use Rattle.std.proofs.Common.{sym, ◌≡◌, ℕ, List, [], ◌∷◌, ◌++◌, length, Err, ◌∙◌, ap, subst, arith, length-append}
use Rattle.demand_set.specs.declared.reports.Report.{Report}
use Rattle.clock.specs.Reports.{ClockHistory, with_report}
use Rattle.clock.specs.Judging.{IsLegal, judgement_of}
use Rattle.clock.specs.declared.judging.Judgement.TheVariants.{Take}
use Rattle.clock.proofs.Append.{legal-push, all-push}
use Rattle.lot_base.specs.Demands.{IsDemand}
use Rattle.lot_base.specs.declared.auction_terms.Terms.{Terms}
use Rattle.recovery.specs.Journaled.{Owner, BeginsWithReports}
use Rattle.recovery.specs.Causes.{IsBroken}
use Rattle.recovery.specs.declared.faults.Broken.{Broken}
use Rattle.clock_book.specs.declared.faults.OpenFault.{OpenFault}
use Rattle.clock_book.specs.declared.faults.OpenFault.TheVariants as why
use Rattle.clock_book.specs.Opening.{IsHistoryOf, ReadsClock, Takes, BreaksOff}

pub refused : (owner mine : Owner) (c : ClockHistory) (r : Report) (number given : ℕ) (fault : OpenFault) (file before : List ℕ) → IsHistoryOf owner c → mine ≡ owner → number ≡ given → length (c.reports ++ r ∷ []) ≡ given
    → BeginsWithReports mine (c.reports ++ r ∷ []) file → file ≡ before → Takes c r number fault → ReadsClock owner before (Err fault)
refused owner mine c r number given (why.Broken broken) file before history same is count begins read takes = absurd takes
refused owner mine c r number given why.DiskFault file before history same is count begins read takes = absurd takes
refused owner mine c r number given why.NoMemory file before history same is count begins read takes = tt
refused owner mine c r number given (why.NotAcceptable found judgement) file before history same is count begins read takes =
    let B : Owner → List ℕ → Type 0 = λ o f. BeginsWithReports o (c.reports ++ r ∷ []) f in
    record {
      before = c.reports;
      report = r;
      begins = subst (λ o. B o before) same (subst (B mine) read begins);
      number_is = omega (arith, takes.0, is, count, length-append c.reports (r ∷ []));
      legal = subst IsLegal history.is history.legal;
      judged = takes.1 ∙ ap (λ (k : ClockHistory). judgement_of k r) history.is;
      refused = takes.2;
    }

pub broken-off : (owner mine : Owner) (c : ClockHistory) (broken : Broken) (file before : List ℕ) → IsHistoryOf owner c → mine ≡ owner → IsBroken mine c.reports broken file → file ≡ before → BreaksOff owner broken before
broken-off owner mine c broken file before history same is read = record {
  reports = c.reports;
  legal = subst IsLegal history.is history.legal;
  broken_is = subst (λ (o : Owner). IsBroken o c.reports broken before) same (subst (IsBroken mine c.reports broken) read is);
}

-- one report more
pub history-more : (owner : Owner) (c new : ClockHistory) (r : Report) → IsHistoryOf owner c → new ≡ with_report c r → judgement_of c r ≡ Take → IsDemand owner.terms.goods r.demand → IsHistoryOf owner new
history-more owner c new r history is take fits =
    let legal = history.legal in
    let terms_are : c.terms ≡ owner.terms = ap (λ (k : ClockHistory). k.terms) history.is in
    let here : IsDemand c.terms.goods r.demand = subst (λ (t : Terms). IsDemand t.goods r.demand) (sym terms_are) fits in
    let more : IsHistoryOf owner (with_report c r) = record {
      is = ap (λ (k : ClockHistory). record k { reports = c.reports ++ r ∷ [] }) history.is;
      legal = record {
        number = legal.number;
        demands = all-push (λ (x : Report). IsDemand c.terms.goods x.demand) c.reports r legal.demands here;
        takes = legal-push c r legal.takes take;
      };
    } in
    subst (IsHistoryOf owner) (sym is) more
