-- The parts of commands that have more than names of files: where an auction is served, and whose part an agent takes.
use Rattle.std.specs.Prelude.{◌≤◌, ℕ, List, length}
use Rattle.lot_base.specs.declared.limits.TheConstants.{MOST_DOORS, MOST_SESSIONS}
use Rattle.lot_base.specs.Goods.{IsRange}

-- where an auction is served: at so many doors on an address, for so many sessions at each
pub record Serving : Type 0 where
  pub address : List ℕ
  pub doors : ℕ
  pub sessions : ℕ

-- the part of a bidder in an auction, and where he dials
pub record Bidding : Type 0 where
  pub bidder : ℕ
  pub token : List ℕ
  pub address : List ℕ
  -- how many equal looks at a clock, in a row, are borne
  pub looks : ℕ

-- so many doors and sessions can be served
pub record IsServable (s : Serving) : Type 0 where
  pub some_door : 1 ≤ s.doors
  pub few_doors : s.doors ≤ MOST_DOORS
  pub some_session : 1 ≤ s.sessions
  pub few_sessions : s.sessions ≤ MOST_SESSIONS

-- a part that an agent can take
pub record IsPlayable (b : Bidding) : Type 0 where
  pub from_one : 1 ≤ b.bidder
  pub token : IsRange 1 64 (length b.token)
  pub looks : 1 ≤ b.looks
