-- A session over a link, from the bytes that came to the bytes that went.
use Rattle.std.specs.Prelude.{◌≡◌, ◌≤◌, ◌<◌, ℕ, ◌+◌, ◌%◌, ◌^◌, true, List, [], ◌++◌, length, map, Option, None}
use Rattle.std.specs.List.{AllByRecursion}
use Rattle.house_io.specs.Told.{IfTold}
use Rattle.house_io.specs.Links.{LinkBytes}
use Rattle.auction_file.specs.declared.listing.Auction.{Auction}
use Rattle.report_wire.specs.Frames.{IsSent, IsPartial, stream_of}
use Rattle.report_wire.specs.Messages.{to_house, house_sent, to_bidder, bidder_sent}
use Rattle.report_wire.specs.Reading.{ReaderState}
use Rattle.session.specs.declared.halls.Asked.{Asked}
use Rattle.session.specs.Turns.{Turn, AreTurns, frames_of, replies_of, bytes_of, goes_on_after}
use Rattle.house_serve.specs.declared.ends.SessionEnd.{SessionEnd}
use Rattle.house_serve.specs.declared.ends.SessionEnd.TheVariants as ends
use Rattle.house_serve.specs.declared.serving.Step.{Step}
use Rattle.house_serve.specs.declared.serving.Step.TheVariants as step
use Rattle.house_serve.specs.declared.serving.TheConstants.{CHUNK}
use Rattle.house_serve.specs.Ends.{EndsBy, TakesBy}
use Rattle.house_serve.specs.Pieces.{AreWhole, HasEndCause, GoesOn}

-- What was taken before the last pull is frames after which the session went on, and less than a frame. That pull brought one piece at
-- most.
pub record IsPulledLast {M : Type 0} (auction : Auction) (turns : List (Turn M)) (taken : List ℕ) : Type 0 where
  pub done : List (Turn M)
  pub new : List (Turn M)
  pub rest : List ℕ
  pub piece : List ℕ
  pub turns_are : turns ≡ done ++ new
  pub taken_is : taken ≡ stream_of (map house_sent (frames_of done)) rest ++ piece
  pub goes : goes_on_after auction None (frames_of done) ≡ true
  pub partial : IsPartial to_house rest
  pub short : length piece ≤ CHUNK

-- What was taken begins with the frames that had their turns. What was written is the bytes of their replies, as the end says.
pub record Served {M : Type 0} (auction : Auction) (turns : List (Turn M)) (end : SessionEnd) (before after : LinkBytes) : Type 0 where
  -- what was taken, what was given, and what is less than a frame after the frames
  pub taken : List ℕ
  pub given : List ℕ
  pub tail : List ℕ
  -- a front of what came was taken, and what was given is after what was written before
  pub left : before.left ≡ taken ++ after.left
  pub written : after.written ≡ before.written ++ given
  -- what was taken is the frames that had their turns, and the rest
  pub front : taken ≡ stream_of (map house_sent (frames_of turns)) tail
  -- how the end comes; each reply but the last was given whole
  pub ends : EndsBy auction None (frames_of turns) tail (length (stream_of (map house_sent (frames_of turns)) []) % 2 ^ 64) after.left (bytes_of turns) given end
  pub whole : AreWhole turns given
  -- how much may be taken, and how much the last pull brought
  pub takes : TakesBy (length taken) end
  pub pulls : IsPulledLast auction turns taken

-- The whole of a session: its turns led the hall from one meaning to another, each frame is a message to the house and each reply one to
-- the bidder, and they are those of the bytes, where these are told.
pub record IsSession {M : Type 0} (allows : M → Asked → M → Type 0) (auction : Auction) (turns : List (Turn M)) (before after : M) (told told_after : Option LinkBytes) (end : SessionEnd) : Type 0 where
  pub bidder : Option ℕ
  pub held : AreTurns allows auction None before turns bidder after
  pub each : AllByRecursion (IsSent to_house) (map house_sent (frames_of turns))
  pub replies : AllByRecursion (IsSent to_bidder) (map bidder_sent (replies_of turns))
  pub bytes : IfTold told told_after (Served auction turns end)

-- a session that has not ended yet, after so many bytes
pub record Going {M : Type 0} (turns : List (Turn M)) (rest : List ℕ) (count : ℕ) (before after : LinkBytes) : Type 0 where
  pub taken : List ℕ
  pub left : before.left ≡ taken ++ after.left
  pub count_is : length taken ≡ count
  pub written : after.written ≡ before.written ++ bytes_of turns
  pub front : taken ≡ stream_of (map house_sent (frames_of turns)) rest

pub record Underway {M : Type 0} (allows : M → Asked → M → Type 0) (auction : Auction) (before after : M) (who : Option ℕ) (reader : ReaderState) (count : ℕ) (told told_after : Option LinkBytes) : Type 0 where
  pub turns : List (Turn M)
  pub held : AreTurns allows auction None before turns who after
  pub each : AllByRecursion (IsSent to_house) (map house_sent (frames_of turns))
  pub replies : AllByRecursion (IsSent to_bidder) (map bidder_sent (replies_of turns))
  pub going : goes_on_after auction None (frames_of turns) ≡ true
  pub partial : IsPartial to_house reader.rest
  pub whole : reader.fault ≡ None
  pub place : reader.place ≡ length (stream_of (map house_sent (frames_of turns)) []) % 2 ^ 64
  pub bytes : IfTold told told_after (Going turns reader.rest count)

-- a piece of so many bytes came, and the replies to the frames that became whole went
abbrev pub WentBytes : {M : Type 0} → ReaderState → ReaderState → List (Turn M) → ℕ → LinkBytes → LinkBytes → Type 0
WentBytes reader reader_after turns count b a =
    (piece : List ℕ) × (length piece ≡ count) × (b.left ≡ piece ++ a.left) × (a.written ≡ b.written ++ bytes_of turns)
    × (reader.rest ++ piece ≡ stream_of (map house_sent (frames_of turns)) reader_after.rest)

-- a piece of so many bytes came, of at most this length and not empty, and ended no session
abbrev pub Went : {M : Type 0} → (M → Asked → M → Type 0) → Auction → ℕ → ReaderState → Option ℕ → M → Option LinkBytes → ReaderState → Option ℕ → M → Option LinkBytes → ℕ → Type 0
Went {M = M} allows auction most reader who before told reader_after later after told_after count =
    (0 < count) × (count ≤ most)
    × ((turns : List (Turn M)) × AreTurns allows auction who before turns later after
    × AllByRecursion (IsSent to_house) (map house_sent (frames_of turns))
    × AllByRecursion (IsSent to_bidder) (map bidder_sent (replies_of turns))
    × GoesOn auction who (frames_of turns) reader_after.rest reader reader_after
    × IfTold told told_after (WentBytes reader reader_after turns count))

-- at the end of input nothing came, and no session ends as spent within a piece
abbrev pub IsEmptyAtEnd : SessionEnd → List ℕ → Type 0
IsEmptyAtEnd (ends.Closed rest) piece = piece ≡ []
IsEmptyAtEnd ends.Spent piece = ⊥
IsEmptyAtEnd ends.Quit piece = Unit {0}
IsEmptyAtEnd ends.BadToken piece = Unit {0}
IsEmptyAtEnd (ends.Wire fault) piece = Unit {0}
IsEmptyAtEnd ends.LinkFault piece = Unit {0}
IsEmptyAtEnd ends.NoMemory piece = Unit {0}

-- a piece of at most this length came, and the session ended so
abbrev pub EndedBytes : {M : Type 0} → Auction → ℕ → ReaderState → Option ℕ → List (Turn M) → SessionEnd → LinkBytes → LinkBytes → Type 0
EndedBytes auction most reader who turns end b a =
    (piece : List ℕ) × (given : List ℕ) × (tail : List ℕ) × (length piece ≤ most) × IsEmptyAtEnd end piece × (b.left ≡ piece ++ a.left) × (a.written ≡ b.written ++ given)
    × (reader.rest ++ piece ≡ stream_of (map house_sent (frames_of turns)) tail)
    × EndsBy auction who (frames_of turns) tail ((reader.place + length (stream_of (map house_sent (frames_of turns)) [])) % 2 ^ 64) a.left (bytes_of turns) given end
    × AreWhole turns given

abbrev pub Ended : {M : Type 0} → (M → Asked → M → Type 0) → Auction → ℕ → ReaderState → Option ℕ → M → Option LinkBytes → Option ℕ → M → Option LinkBytes → SessionEnd → Type 0
Ended {M = M} allows auction most reader who before told later after told_after end =
    (turns : List (Turn M)) × AreTurns allows auction who before turns later after
    × AllByRecursion (IsSent to_house) (map house_sent (frames_of turns))
    × AllByRecursion (IsSent to_bidder) (map bidder_sent (replies_of turns))
    × IfTold told told_after (EndedBytes auction most reader who turns end)

abbrev pub IsStep : {M : Type 0} → (M → Asked → M → Type 0) → Auction → ℕ → ReaderState → Option ℕ → M → Option LinkBytes → ReaderState → Option ℕ → M → Option LinkBytes → Step → Type 0
IsStep allows auction most reader who before told reader_after later after told_after (step.Went count) = Went allows auction most reader who before told reader_after later after told_after count
IsStep allows auction most reader who before told reader_after later after told_after (step.Ended end) = Ended allows auction most reader who before told later after told_after end

abbrev pub HasStepCause : ℕ → ℕ → Step → Type 0
HasStepCause before now (step.Went count) = now ≡ before
HasStepCause before now (step.Ended end) = HasEndCause before now end
