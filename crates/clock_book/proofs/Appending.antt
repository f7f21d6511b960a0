-- What is known where a report is appended that the clock takes next.
use Rattle.std.proofs.Common.{◌≡◌, ◌∙◌, List, ℕ, length, Option, None, ap, subst, sym}
use Rattle.std.specs.Option.{option_map}
use Rattle.lot_base.specs.Demands.{IsDemand}
use Rattle.demand_set.specs.declared.reports.Report.{Report}
use Rattle.clock.specs.declared.judging.Judgement.TheVariants.{Take}
use Rattle.clock.specs.Reports.{ClockHistory}
use Rattle.clock.specs.Judging.{judgement_of}
use Rattle.recovery.specs.Entries.{IsReportOf, payload_of}
use Rattle.clock_book.specs.declared.origins.Origin.{Origin}
use Rattle.clock_book.specs.Past.{IsNext}
use Rattle.clock_book.proofs.Nexts.{next-report}

-- nothing is pending, and these bytes spell the report, which the clock takes next
pub record AtHand (origin : Origin) (c : ClockHistory) (pending : Option Report) (in_doubt : Option (List ℕ)) (r : Report) (bytes : List ℕ) : Type 0 where
  pub settled : pending ≡ None
  pub undoubted : in_doubt ≡ None
  pub spelled : bytes ≡ payload_of (length origin.terms.goods) r
  pub next : IsNext c r
  pub report : IsReportOf origin.terms r

pub at-hand : (origin : Origin) (c seen : ClockHistory) (pending shown : Option Report) (in_doubt : Option (List ℕ)) (r : Report) (bytes : List ℕ) → c.terms ≡ origin.terms → in_doubt ≡ option_map (payload_of (length origin.terms.goods)) pending
    → pending ≡ shown → shown ≡ None → bytes ≡ payload_of (length origin.terms.goods) r → c ≡ seen → judgement_of seen r ≡ Take → IsDemand seen.terms.goods r.demand → AtHand origin c pending in_doubt r bytes
at-hand origin c seen pending shown in_doubt r bytes terms doubt is none spelled same take fits =
    let N : ClockHistory → Type 0 = λ h. IsNext h r in
    let next = subst N (sym same) (record { take = take; fits = fits }) in
    let settled = is ∙ none in
    record {
      settled = settled;
      undoubted = doubt ∙ ap (option_map (payload_of (length origin.terms.goods))) settled;
      spelled = spelled;
      next = next;
      report = next-report origin.terms c r terms next;
    }
