-- The histories of journals are the legal clocks of an auction.
use Rattle.std.proofs.Common.{◌≤◌, ℕ, List, [], ◌∷◌}
use Rattle.std.specs.Prelude.{ℤ}
use Rattle.std.specs.List.{AllByRecursion}
use Rattle.lot_base.specs.declared.auction_terms.Terms.{Terms}
use Rattle.clock.specs.Reports.{ClockHistory}
use Rattle.clock.specs.Judging.{IsLegal}
use Rattle.settlement.specs.Incentives.{AreOthersTrue, IsAmongTruthful}
use Rattle.house_run.specs.Seen.{ShelfSeen}
use Rattle.house_run.specs.Journals.{AreHistories, IsFromJournal}
use Rattle.house_run.proofs.HouseSteps.{clocks-of}

pub among : (i : ℕ) (u : ℕ → List ℕ → ℤ) (shelf : ShelfSeen) (auction journals : List ℕ) (terms : Terms) (histories : List ClockHistory) → 1 ≤ i → i ≤ terms.bidders → AreHistories shelf auction journals terms histories
    → AllByRecursion (AreOthersTrue i u) histories → IsAmongTruthful i u terms histories
among i u shelf auction journals terms histories from last are others = record {
  from_one = from;
  to_last = last;
  clocks_are = clocks-of shelf auction journals terms histories are;
  legal = legal histories are.from_journals.each;
  others = others;
}
  where
    legal : (cs : List ClockHistory) → AllByRecursion (IsFromJournal shelf.files terms are.digest journals) cs → AllByRecursion IsLegal cs
    legal [] all = tt
    legal (c ∷ cs) all = (all.0.history.legal, legal cs all.1)
