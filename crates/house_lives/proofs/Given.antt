-- The replies that a link was given are those of the session's turns, and at most a refusal of what follows them.
use Rattle.std.proofs.Common.{◌≡◌, ◌⊎◌, inl, inr, ℕ, suc, List, [], ◌∷◌, ◌++◌, length, map, Option, Some, None, arith, refl, sym, ◌∙◌, ap, append_assoc, subst}
use Rattle.std.proofs.lemmas.List.{append-nil}
use Rattle.std.specs.List.{AllByRecursion, flat_map}
use Rattle.auction_file.specs.declared.listing.Auction.{Auction}
use Rattle.report_wire.specs.Forms.{bidder_is}
use Rattle.report_wire.specs.Frames.{IsSent, Sent, spelled, stream_of}
use Rattle.report_wire.specs.Messages.{bidder_kind, bidder_sent, to_bidder}
use Rattle.report_wire.specs.declared.frames.WireKind.{WireKind}
use Rattle.report_wire.specs.declared.frames.WireKind.TheVariants.{BadPayload, TooLong, UnknownKind}
use Rattle.report_wire.specs.declared.kinds.TheConstants.{REFUSED}
use Rattle.report_wire.proofs.Streams.{all-append, stream_on}
use Rattle.session.specs.Table.{wire_reply}
use Rattle.session.specs.Turns.{Turn, bytes_of, frames_of, replies_of}
use Rattle.house_serve.specs.Ends.{EndsBy, IsCut, fault_bytes}
use Rattle.house_serve.specs.declared.ends.SessionEnd.{SessionEnd}
use Rattle.house_serve.specs.declared.ends.SessionEnd.TheVariants as ends
use Rattle.house_lives.proofs.Members.{In, in-left, in-right}
use Rattle.house_lives.proofs.Streams.{front}

-- the reply to a fault of the stream, if there was one
abbrev pub faults-sent : Option WireKind → List Sent
faults-sent None = []
faults-sent (Some kind) = bidder_sent (wire_reply kind) ∷ []

refusal-formed : (kind : WireKind) → IsSent to_bidder (bidder_sent (wire_reply kind))
refusal-formed (TooLong n) = record { formed = refl; short = omega arith }
refusal-formed (UnknownKind kind) = record { formed = refl; short = omega arith }
refusal-formed (BadPayload kind n) = record { formed = refl; short = omega arith }

refusal-kind : (kind : WireKind) → bidder_kind (wire_reply kind) ≡ REFUSED
refusal-kind (TooLong n) = refl
refusal-kind (UnknownKind kind) = refl
refusal-kind (BadPayload kind n) = refl

-- a reply to a fault is a refusal
not-fault : (fault : Option WireKind) (s : Sent) → (s.kind ≡ REFUSED → ⊥) → In s (faults-sent fault) → ⊥
not-fault None s other at = at
not-fault (Some kind) s other (inl e) = other (ap (λ (x : Sent). x.kind) (sym e) ∙ refusal-kind kind)
not-fault (Some kind) s other (inr none) = none

module _ {M : Type 0} where
  abbrev pub sents : List (Turn M) → List Sent
  sents turns = map bidder_sent (replies_of turns)

  bytes-are : (turns : List (Turn M)) → bytes_of turns ≡ flat_map spelled (sents turns)
  bytes-are [] = refl
  bytes-are (t ∷ turns) = ap (λ (l : List ℕ). spelled (bidder_sent t.reply) ++ l) (bytes-are turns)

  stream-is : (turns : List (Turn M)) (rest : List ℕ) → stream_of (sents turns) rest ≡ bytes_of turns ++ rest
  stream-is turns rest = ap (λ (l : List ℕ). l ++ rest) (sym (bytes-are turns))

  -- these bytes are a front of those of the replies, and of one to a fault
  record WereGiven (turns : List (Turn M)) (given : List ℕ) : Type 0 where
    fault : Option WireKind
    more : List ℕ
    is : stream_of (sents turns ++ faults-sent fault) [] ≡ given ++ more

  no-fault : (turns : List (Turn M)) (given more : List ℕ) → bytes_of turns ≡ given ++ more → WereGiven turns given
  no-fault turns given more e = record { fault = None; more = more; is = ap (λ l. stream_of l []) (append-nil (sents turns)) ∙ stream-is turns [] ∙ append-nil (bytes_of turns) ∙ e }

  with-fault : (turns : List (Turn M)) (kind : WireKind) (given more : List ℕ) → bytes_of turns ++ fault_bytes kind ≡ given ++ more → WereGiven turns given
  with-fault turns kind given more e = record {
    fault = Some kind;
    more = more;
    is = stream_on (sents turns) (faults-sent (Some kind)) [] ∙ stream-is turns (stream_of (faults-sent (Some kind)) []) ∙ ap (λ (l : List ℕ). bytes_of turns ++ l) (append-nil (fault_bytes kind ++ []) ∙ append-nil (fault_bytes kind)) ∙ e;
  }

  all-given : (turns : List (Turn M)) (given : List ℕ) → given ≡ bytes_of turns → WereGiven turns given
  all-given turns given e = no-fault turns given [] (sym e ∙ sym (append-nil given))

  cut-off : (auction : Auction) (turns : List (Turn M)) (tail given : List ℕ) → IsCut auction None (frames_of turns) tail (bytes_of turns) given → WereGiven turns given
  cut-off auction turns tail given (goes, (more, inl begins)) = no-fault turns given more begins
  cut-off auction turns tail given (goes, (more, inr (kind, on, is, begins))) = with-fault turns kind given more begins

  were-given : (auction : Auction) (turns : List (Turn M)) (tail : List ℕ) (place : ℕ) (left given : List ℕ) (end : SessionEnd) → EndsBy auction None (frames_of turns) tail place left (bytes_of turns) given end → WereGiven turns given
  were-given auction turns tail place left given ends.Quit by = all-given turns given by.1
  were-given auction turns tail place left given ends.BadToken by = all-given turns given by.1
  were-given auction turns tail place left given (ends.Wire fault) by = with-fault turns fault.kind given [] (sym by.3 ∙ sym (append-nil given))
  were-given auction turns tail place left given (ends.Closed rest) by = all-given turns given by.4
  were-given auction turns tail place left given ends.Spent by = all-given turns given by.2
  were-given auction turns tail place left given ends.LinkFault by = cut-off auction turns tail given by
  were-given auction turns tail place left given ends.NoMemory by = cut-off auction turns tail given by

  -- the turn after as many others, whose reply is this
  pub record IsReplyOf (turns : List (Turn M)) (count : ℕ) (s : Sent) : Type 0 where
    pub earlier : List (Turn M)
    pub turn : Turn M
    pub later : List (Turn M)
    pub turns_are : turns ≡ earlier ++ turn ∷ later
    pub count_is : length earlier ≡ count
    pub reply_is : bidder_sent turn.reply ≡ s

  at-turn : (turns : List (Turn M)) (before faults more : List Sent) (s : Sent) → sents turns ++ faults ≡ (before ++ s ∷ []) ++ more → IsReplyOf turns (length before) s ⊎ In s faults
  at-turn [] before faults more s e = inr (subst (In s) (sym e) (in-left (before ++ s ∷ []) more s (in-right before (s ∷ []) s (inl refl))))
  at-turn (t ∷ turns) [] faults more s e = inl (record { earlier = []; turn = t; later = turns; turns_are = refl; count_is = refl; reply_is = cc })
  at-turn (t ∷ turns) (b ∷ before) faults more s e = further (at-turn turns before faults more s (let rest : sents turns ++ faults ≡ (before ++ s ∷ []) ++ more = cc in rest))
    where
      further : IsReplyOf turns (length before) s ⊎ In s faults → IsReplyOf (t ∷ turns) (length (b ∷ before)) s ⊎ In s faults
      further (inl at) = inl (record { earlier = t ∷ at.earlier; turn = at.turn; later = at.later; turns_are = ap (λ l. t ∷ l) at.turns_are; count_is = ap (λ n. suc n) at.count_is; reply_is = at.reply_is })
      further (inr fault) = inr fault

  pub reply-turn : (auction : Auction) (turns : List (Turn M)) (tail : List ℕ) (place : ℕ) (left given rest : List ℕ) (end : SessionEnd) (before : List Sent) (s : Sent)
      → EndsBy auction None (frames_of turns) tail place left (bytes_of turns) given end → AllByRecursion (IsSent to_bidder) (sents turns)
      → given ≡ stream_of (before ++ s ∷ []) rest → AllByRecursion (IsSent to_bidder) (before ++ s ∷ []) → (s.kind ≡ REFUSED → ⊥) → IsReplyOf turns (length before) s
  reply-turn auction turns tail place left given rest end before s by each is sent other =
      let were = were-given auction turns tail place left given end by in
      let stream : stream_of (before ++ s ∷ []) (rest ++ were.more) ≡ stream_of (sents turns ++ faults-sent were.fault) [] =
      sym (append_assoc (flat_map spelled (before ++ s ∷ [])) rest were.more) ∙ ap (λ (l : List ℕ). l ++ were.more) (sym is) ∙ sym were.is in
      let begins = front to_bidder bidder_is (before ++ s ∷ []) (sents turns ++ faults-sent were.fault) (rest ++ were.more) [] sent (all-append (IsSent to_bidder) (sents turns) (faults-sent were.fault) each (formed were.fault)) stream (inr refl) in
      of were.fault (at-turn turns before (faults-sent were.fault) begins.more s begins.is)
    where
      formed : (fault : Option WireKind) → AllByRecursion (IsSent to_bidder) (faults-sent fault)
      formed None = tt
      formed (Some kind) = (refusal-formed kind, tt)

      of : (fault : Option WireKind) → IsReplyOf turns (length before) s ⊎ In s (faults-sent fault) → IsReplyOf turns (length before) s
      of fault (inl at) = at
      of fault (inr at) = absurd (not-fault fault s other at)
