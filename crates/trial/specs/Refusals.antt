-- Why there is no trial.
use Rattle.std.specs.Prelude.{◌≤◌, ◌<◌, ℕ, List, ℤ}
use Rattle.lot_base.specs.Economy.{IsStrongSubstitutes}
use Rattle.lot_base.specs.declared.auction_terms.Terms.{Terms}
use Rattle.exchange_check.specs.Exchange.{IsFirstBroken}
use Rattle.trial.specs.declared.faults.TrialFault.{TrialFault}
use Rattle.trial.specs.declared.faults.TrialFault.TheVariants.{NotSubstitutes, NoMemory}

-- the first bidder for whom the goods are no strong substitutes, and the first triple that shows it
pub record IsFirstWithout (terms : Terms) (u : ℕ → List ℕ → ℤ) (bidder : ℕ) (x y : List ℕ) (k : ℕ) : Type 0 where
  pub from_one : 1 ≤ bidder
  pub to_last : bidder ≤ terms.bidders
  pub before : (j : ℕ) → 1 ≤ j → j < bidder → IsStrongSubstitutes terms.goods (u j)
  pub broken : IsFirstBroken terms.goods (u bidder) x y k

-- out of memory says nothing of the valuations
abbrev pub IsRefusal : Terms → (ℕ → List ℕ → ℤ) → TrialFault → Type 0
IsRefusal terms u (NotSubstitutes bidder x y k) = IsFirstWithout terms u bidder x y k
IsRefusal terms u NoMemory = Unit {0}
