-- What one frame and one piece of a stream do to a session, its hall and its link.
use Rattle.std.specs.Prelude.{◌≡◌, ◌≤◌, ℕ, ◌+◌, ◌%◌, ◌^◌, true, List, [], ◌∷◌, ◌++◌, length, map, Option, Some, None, MatchOption, Result, Ok, Err}
use Rattle.std.specs.List.{AllByRecursion}
use Rattle.house_io.specs.Told.{IfTold}
use Rattle.house_io.specs.Links.{LinkBytes}
use Rattle.auction_file.specs.declared.listing.Auction.{Auction}
use Rattle.report_wire.specs.declared.messages.ToHouse.{ToHouse}
use Rattle.report_wire.specs.Frames.{IsSent, IsPartial, spelled, stream_of}
use Rattle.report_wire.specs.Messages.{to_house, house_sent, to_bidder, bidder_sent}
use Rattle.report_wire.specs.Reading.{ReaderState}
use Rattle.session.specs.declared.halls.Asked.{Asked}
use Rattle.session.specs.Turns.{Turn, AreTurns, frames_of, replies_of, bytes_of, goes_on_after}
use Rattle.house_serve.specs.declared.ends.SessionEnd.{SessionEnd}
use Rattle.house_serve.specs.declared.ends.SessionEnd.TheVariants as ends
use Rattle.house_serve.specs.declared.answering.Cut.{Cut}
use Rattle.house_serve.specs.declared.answering.Cut.TheVariants as cut
use Rattle.report_wire.specs.declared.frames.WireFault.{WireFault}
use Rattle.house_io.specs.Faults.{Rose}
use Rattle.house_serve.specs.Ends.{EndsWith, EndsBy, IsOneSession, fault_bytes}

-- these bytes were written, and nothing was taken
abbrev pub Adds : List ℕ → LinkBytes → LinkBytes → Type 0
Adds bytes before after = (after.left ≡ before.left) × (after.written ≡ before.written ++ bytes)

-- the bytes of replies were written, or, where the link failed or memory ran out, a front of them
abbrev pub WritesBy : Option SessionEnd → List ℕ → List ℕ → Type 0
WritesBy None bytes given = given ≡ bytes
WritesBy (Some ends.Quit) bytes given = given ≡ bytes
WritesBy (Some ends.BadToken) bytes given = given ≡ bytes
WritesBy (Some (ends.Wire fault)) bytes given = ⊥
WritesBy (Some (ends.Closed rest)) bytes given = ⊥
WritesBy (Some ends.Spent) bytes given = ⊥
WritesBy (Some ends.LinkFault) bytes given = (more : List ℕ) × (bytes ≡ given ++ more)
WritesBy (Some ends.NoMemory) bytes given = (more : List ℕ) × (bytes ≡ given ++ more)

-- the session went on after the frames, or ended with the last of them, or was cut off
abbrev pub GoesBy : Auction → Option ℕ → List ToHouse → Option SessionEnd → Type 0
GoesBy auction who frames None = goes_on_after auction who frames ≡ true
GoesBy auction who frames (Some ends.Quit) = EndsWith auction who frames ends.Quit
GoesBy auction who frames (Some ends.BadToken) = EndsWith auction who frames ends.BadToken
GoesBy auction who frames (Some (ends.Wire fault)) = ⊥
GoesBy auction who frames (Some (ends.Closed rest)) = ⊥
GoesBy auction who frames (Some ends.Spent) = ⊥
GoesBy auction who frames (Some ends.LinkFault) = IsOneSession auction who frames
GoesBy auction who frames (Some ends.NoMemory) = IsOneSession auction who frames

-- the bytes of all replies but the last
abbrev pub earlier_bytes : {M : Type 0} → List (Turn M) → List ℕ
earlier_bytes [] = []
earlier_bytes (t ∷ []) = []
earlier_bytes (t ∷ u ∷ ts) = spelled (bidder_sent t.reply) ++ earlier_bytes (u ∷ ts)

-- Each reply but the last was written whole: after one that was not, no frame has a turn.
abbrev pub AreWhole : {M : Type 0} → List (Turn M) → List ℕ → Type 0
AreWhole turns given = (part : List ℕ) × (given ≡ earlier_bytes turns ++ part)

-- so many of the frames had their turns, all of them where the session goes on
pub record Answers {M : Type 0} (allows : M → Asked → M → Type 0) (auction : Auction) (frames : List ToHouse) (who : Option ℕ) (before : M) (told : Option LinkBytes) (later : Option ℕ) (after : M) (told_after : Option LinkBytes) (end : Option SessionEnd) : Type 0 where
  pub turns : List (Turn M)
  pub more : List ToHouse
  pub frames_are : frames ≡ frames_of turns ++ more
  pub all : end ≡ None → more ≡ []
  pub held : AreTurns allows auction who before turns later after
  pub replies : AllByRecursion (IsSent to_bidder) (map bidder_sent (replies_of turns))
  pub goes : GoesBy auction who (frames_of turns) end
  pub sent : IfTold told told_after (λ b a. (given : List ℕ) × Adds given b a × AreWhole turns given × WritesBy end (bytes_of turns) given)

-- what a reader has after a piece that ended no session
pub record GoesOn (auction : Auction) (who : Option ℕ) (frames : List ToHouse) (tail : List ℕ) (reader reader_after : ReaderState) : Type 0 where
  pub goes : goes_on_after auction who frames ≡ true
  pub tail_is : tail ≡ reader_after.rest
  pub partial : IsPartial to_house tail
  pub whole : reader_after.fault ≡ None
  pub place : reader_after.place ≡ (reader.place + length (stream_of (map house_sent frames) [])) % 2 ^ 64

-- an end that comes with a piece, and neither at the end of input nor at the limit
abbrev pub IsMidway : SessionEnd → Type 0
IsMidway ends.Quit = Unit {0}
IsMidway ends.BadToken = Unit {0}
IsMidway (ends.Wire fault) = Unit {0}
IsMidway (ends.Closed rest) = ⊥
IsMidway ends.Spent = ⊥
IsMidway ends.LinkFault = Unit {0}
IsMidway ends.NoMemory = Unit {0}

-- A piece came, and the frames that became whole had their turns.
pub record Takes {M : Type 0} (allows : M → Asked → M → Type 0) (auction : Auction) (piece : List ℕ) (reader : ReaderState) (who : Option ℕ) (before : M) (told : Option LinkBytes) (reader_after : ReaderState) (later : Option ℕ) (after : M) (told_after : Option LinkBytes) (end : Option SessionEnd) : Type 0 where
  pub turns : List (Turn M)
  pub tail : List ℕ
  pub held : AreTurns allows auction who before turns later after
  pub each : AllByRecursion (IsSent to_house) (map house_sent (frames_of turns))
  pub replies : AllByRecursion (IsSent to_bidder) (map bidder_sent (replies_of turns))
  pub front : reader.rest ++ piece ≡ stream_of (map house_sent (frames_of turns)) tail
  pub goes : MatchOption end (GoesOn auction who (frames_of turns) tail reader reader_after) IsMidway
  pub sent : IfTold told told_after (λ b a. (given : List ℕ) × Adds given b a × AreWhole turns given
      × MatchOption end (given ≡ bytes_of turns) (λ e. EndsBy auction who (frames_of turns) tail ((reader.place + length (stream_of (map house_sent (frames_of turns)) [])) % 2 ^ 64) a.left (bytes_of turns) given e))

-- a reply was sent whole, or a front of it where the link failed, or nothing where memory ran out
abbrev pub IsSentBy : Result (Unit {0}) Cut → List ℕ → LinkBytes → LinkBytes → Type 0
IsSentBy (Ok done) bytes before after = Adds bytes before after
IsSentBy (Err cut.LinkFault) bytes before after = (given : List ℕ) × (more : List ℕ) × (bytes ≡ given ++ more) × Adds given before after
IsSentBy (Err cut.NoMemory) bytes before after = Adds [] before after

-- the reply to a fault was sent so
abbrev pub IsFaultSent : WireFault → SessionEnd → LinkBytes → LinkBytes → Type 0
IsFaultSent fault (ends.Wire other) before after = (other ≡ fault) × Adds (fault_bytes fault.kind) before after
IsFaultSent fault ends.LinkFault before after = (given : List ℕ) × (more : List ℕ) × (fault_bytes fault.kind ≡ given ++ more) × Adds given before after
IsFaultSent fault ends.NoMemory before after = Adds [] before after
IsFaultSent fault ends.Quit before after = ⊥
IsFaultSent fault ends.BadToken before after = ⊥
IsFaultSent fault (ends.Closed rest) before after = ⊥
IsFaultSent fault ends.Spent before after = ⊥

-- the link's count rose where the link cut off a reply, and else it stays
abbrev pub HasCutCause : ℕ → ℕ → Result (Unit {0}) Cut → Type 0
HasCutCause before now (Ok done) = now ≡ before
HasCutCause before now (Err cut.LinkFault) = Rose before now × (before ≤ now)
HasCutCause before now (Err cut.NoMemory) = now ≡ before

-- the link's count rose where the end is its fault, and else it stays
abbrev pub HasEndCause : ℕ → ℕ → SessionEnd → Type 0
HasEndCause before now ends.LinkFault = Rose before now × (before ≤ now)
HasEndCause before now ends.Quit = now ≡ before
HasEndCause before now ends.BadToken = now ≡ before
HasEndCause before now (ends.Wire fault) = now ≡ before
HasEndCause before now (ends.Closed rest) = now ≡ before
HasEndCause before now ends.Spent = now ≡ before
HasEndCause before now ends.NoMemory = now ≡ before

abbrev pub HasCauseBy : ℕ → ℕ → Option SessionEnd → Type 0
HasCauseBy before now None = now ≡ before
HasCauseBy before now (Some end) = HasEndCause before now end
