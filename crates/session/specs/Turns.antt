-- The turns of a session. A turn is a frame, what was asked of the hall for it, if it was asked, with the hall's answer, the
-- reply, and the hall's meaning then. The turns of a session lead the hall from one meaning to another.
use Rattle.std.specs.Prelude.{◌≡◌, ℕ, Bool, true, false, List, [], ◌∷◌, map, Option, Some, None}
use Rattle.std.specs.List.{flat_map}
use Rattle.auction_file.specs.declared.listing.Auction.{Auction}
use Rattle.report_wire.specs.Frames.{spelled}
use Rattle.report_wire.specs.Messages.{bidder_sent}
use Rattle.report_wire.specs.declared.messages.ToHouse.{ToHouse}
use Rattle.report_wire.specs.declared.messages.ToBidder.{ToBidder}
use Rattle.session.specs.declared.halls.Asked.{Asked}
use Rattle.session.specs.declared.table.Line.{Line}
use Rattle.session.specs.declared.table.Line.TheVariants.{Says, Asks}
use Rattle.session.specs.Asking.{question_of, IsPossible}
use Rattle.session.specs.Table.{line_of, goes_on, bidder_after, reply_of}

pub record Turn (M : Type 0) : Type 0 where
  pub frame : ToHouse
  pub asked : Option Asked
  pub reply : ToBidder
  pub now : M

module _ {M : Type 0} (allows : M → Asked → M → Type 0) where
  -- what a line of the table says; the hall stays, or is asked this and goes on to a meaning that its relation allows
  abbrev pub KeepsTo : Line → Option Asked → ToBidder → M → M → Type 0
  KeepsTo (Says reply on) None given before after = (given ≡ reply) × (after ≡ before)
  KeepsTo (Says reply on) (Some a) given before after = ⊥
  KeepsTo (Asks question) None given before after = ⊥
  KeepsTo (Asks question) (Some a) given before after = (question_of a ≡ question) × (given ≡ reply_of a) × IsPossible a × allows before a after

  -- the reply of the table
  abbrev pub IsTurn : Auction → Option ℕ → M → Turn M → Type 0
  IsTurn auction who before t = KeepsTo (line_of auction who t.frame) t.asked t.reply before t.now

  -- the turns one after another, each with the bidder that the frames before gave the session
  abbrev pub AreTurns : Auction → Option ℕ → M → List (Turn M) → Option ℕ → M → Type 0
  AreTurns auction who before [] later after = (later ≡ who) × (after ≡ before)
  AreTurns auction who before (t ∷ ts) later after =
      IsTurn auction who before t × AreTurns auction (bidder_after auction who t.frame) t.now ts later after

-- the frames of turns, and the bytes of their replies
abbrev pub frames_of : {M : Type 0} → List (Turn M) → List ToHouse
frames_of turns = map (λ t. t.frame) turns

abbrev pub replies_of : {M : Type 0} → List (Turn M) → List ToBidder
replies_of turns = map (λ t. t.reply) turns

abbrev pub bytes_of : {M : Type 0} → List (Turn M) → List ℕ
bytes_of turns = flat_map (λ t. spelled (bidder_sent t.reply)) turns

-- whether a session goes on after all of the frames, and its bidder then
abbrev pub goes_on_after : Auction → Option ℕ → List ToHouse → Bool
goes_on_after auction who [] = true
goes_on_after auction who (f ∷ fs) = elim (goes_on auction who f) [ true ↦ goes_on_after auction (bidder_after auction who f) fs | false ↦ false ]

abbrev pub bidder_behind : Auction → Option ℕ → List ToHouse → Option ℕ
bidder_behind auction who [] = who
bidder_behind auction who (f ∷ fs) = bidder_behind auction (bidder_after auction who f) fs
