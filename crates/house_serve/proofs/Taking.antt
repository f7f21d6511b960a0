-- A piece of a stream: the frames that became whole, and what follows them.
use Rattle.std.proofs.Common.{◌≡◌, inl, inr, ℕ, ◌+◌, ◌%◌, ◌^◌, true, List, [], ◌∷◌, ◌++◌, length, map, Option, Some, None, refl, sym, ◌∙◌, ap, subst, append_assoc, append-nil}
use Rattle.std.specs.Prelude.{MatchOption, option_map}
use Rattle.std.proofs.lemmas.List.{map-append}
use Rattle.std.specs.List.{AllByRecursion}
use Rattle.house_io.specs.Told.{IfTold}
use Rattle.house_io.specs.Links.{LinkBytes}
use Rattle.house_io.proofs.Telling.{told-trans, told-map, told-same}
use Rattle.auction_file.specs.declared.listing.Auction.{Auction}
use Rattle.report_wire.specs.Frames.{Sent, IsSent, IsPartial, IsFault, Reads, stream_of}
use Rattle.report_wire.specs.Messages.{to_house, house_sent}
use Rattle.report_wire.specs.Reading.{ReaderState, fault_of}
use Rattle.report_wire.specs.declared.messages.ToHouse.{ToHouse}
use Rattle.report_wire.specs.declared.frames.WireKind.{WireKind}
use Rattle.report_wire.specs.declared.frames.WireFault.{WireFault}
use Rattle.report_wire.proofs.Streams.{stream_on}
use Rattle.session.specs.declared.halls.Asked.{Asked}
use Rattle.session.specs.Turns.{frames_of, bytes_of, goes_on_after}
use Rattle.house_serve.specs.declared.ends.SessionEnd.{SessionEnd}
use Rattle.house_serve.specs.declared.ends.SessionEnd.TheVariants as ends
use Rattle.house_serve.specs.Ends.{EndsBy, fault_bytes}
use Rattle.house_serve.specs.Pieces.{Adds, AreWhole, WritesBy, GoesBy, Answers, Takes, IsMidway, IsFaultSent}
use Rattle.house_serve.proofs.Behind.{one_of}
use Rattle.house_serve.proofs.Turned.{whole_with}

all_front : {A : Type 0} (P : A → Type 0) (xs ys : List A) → AllByRecursion P (xs ++ ys) → AllByRecursion P xs
all_front P [] ys h = tt
all_front P (x ∷ xs) ys h = (h.0, all_front P xs ys h.1)

midway : (auction : Auction) (w : Option ℕ) (fs : List ToHouse) (e : SessionEnd) → GoesBy auction w fs (Some e) → IsMidway e
midway auction w fs ends.Quit h = tt
midway auction w fs ends.BadToken h = tt
midway auction w fs (ends.Wire fault) h = tt
midway auction w fs (ends.Closed rest) h = h
midway auction w fs ends.Spent h = h
midway auction w fs ends.LinkFault h = tt
midway auction w fs ends.NoMemory h = tt

ends_by : (auction : Auction) (w : Option ℕ) (fs : List ToHouse) (tail : List ℕ) (place : ℕ) (left bytes given : List ℕ) (e : SessionEnd) → GoesBy auction w fs (Some e) → WritesBy (Some e) bytes given → EndsBy auction w fs tail place left bytes given e
ends_by auction w fs tail place left bytes given ends.Quit h k = (h, k)
ends_by auction w fs tail place left bytes given ends.BadToken h k = (h, k)
ends_by auction w fs tail place left bytes given (ends.Wire fault) h k = absurd h
ends_by auction w fs tail place left bytes given (ends.Closed rest) h k = absurd h
ends_by auction w fs tail place left bytes given ends.Spent h k = absurd h
ends_by auction w fs tail place left bytes given ends.LinkFault h k = (h, (k.0, inl k.1))
ends_by auction w fs tail place left bytes given ends.NoMemory h k = (h, (k.0, inl k.1))

-- the reply to a fault after the replies
fault_ends : (auction : Auction) (w : Option ℕ) (fs : List ToHouse) (tail : List ℕ) (place : ℕ) (bytes : List ℕ) (f : WireFault) (e : SessionEnd) (x y z : LinkBytes) → goes_on_after auction w fs ≡ true → IsFault to_house f.kind tail → f.place ≡ place
    → Adds bytes x y → IsFaultSent f e y z → (given : List ℕ) × Adds given x z × ((more : List ℕ) × (given ≡ bytes ++ more)) × EndsBy auction w fs tail place z.left bytes given e
fault_ends auction w fs tail place bytes f (ends.Wire other) x y z go is at a h = (
  bytes ++ fault_bytes f.kind,
  (h.1.0 ∙ a.0, h.1.1 ∙ ap (λ (l : List ℕ). l ++ fault_bytes f.kind) a.1 ∙ append_assoc x.written bytes (fault_bytes f.kind)),
  (fault_bytes f.kind, refl),
  subst (λ (g : WireFault). EndsBy auction w fs tail place z.left bytes (bytes ++ fault_bytes f.kind) (ends.Wire g)) (sym h.0) (go, is, at, refl),
)
fault_ends auction w fs tail place bytes f ends.LinkFault x y z go is at a h = (
  bytes ++ h.0,
  (h.3.0 ∙ a.0, h.3.1 ∙ ap (λ (l : List ℕ). l ++ h.0) a.1 ∙ append_assoc x.written bytes h.0),
  (h.0, refl),
  (one_of auction fs w go, (h.1, inr (f.kind, go, is, ap (λ (l : List ℕ). bytes ++ l) h.2 ∙ sym (append_assoc bytes h.0 h.1)))),
)
fault_ends auction w fs tail place bytes f ends.NoMemory x y z go is at a h = (
  bytes,
  (h.0 ∙ a.0, h.1 ∙ append-nil y.written ∙ a.1),
  ([], sym (append-nil bytes)),
  (one_of auction fs w go, ([], inl (sym (append-nil bytes)))),
)
fault_ends auction w fs tail place bytes f ends.Quit x y z go is at a h = absurd h
fault_ends auction w fs tail place bytes f ends.BadToken x y z go is at a h = absurd h
fault_ends auction w fs tail place bytes f (ends.Closed rest) x y z go is at a h = absurd h
fault_ends auction w fs tail place bytes f ends.Spent x y z go is at a h = absurd h

no_fault : (place : ℕ) (o : Option WireKind) → option_map (λ (kind : WireKind). let f : WireFault = record { place = place; kind = kind } in f) o ≡ None → o ≡ None
no_fault place None e = refl
no_fault place (Some k) e = absurd (let f : Some (let g : WireFault = record { place = place; kind = k } in g) ≡ None = e in cc)

some_fault : (place : ℕ) (o : Option WireKind) (f : WireFault) → option_map (λ (kind : WireKind). let g : WireFault = record { place = place; kind = kind } in g) o ≡ Some f → (o ≡ Some f.kind) × (f.place ≡ place)
some_fault place None f e = absurd (let g : None ≡ Some f = e in cc)
some_fault place (Some k) f e =
    let made : WireFault = record { place = place; kind = k } in
    let h : Some made ≡ Some f = e in
    let same : made ≡ f = cc in
    (ap (λ (x : WireFault). Some x.kind) same, sym (ap (λ (x : WireFault). x.place) same))

module _ {M : Type 0} (allows : M → Asked → M → Type 0) (auction : Auction) (piece : List ℕ) (reader reader_after : ReaderState) where
  -- memory ran out before any frame
  pub takes_none : (w : Option ℕ) (m : M) (t : Option LinkBytes) → Takes allows auction piece reader w m t reader_after w m t (Some ends.NoMemory)
  takes_none w m t = record {
    turns = [];
    tail = reader.rest ++ piece;
    held = (refl, refl);
    each = tt;
    replies = tt;
    front = refl;
    goes = tt;
    sent = told-same t (λ b a. (given : List ℕ) × Adds given b a × AreWhole {M = M} [] given × EndsBy auction w [] (reader.rest ++ piece) ((reader.place + 0) % 2 ^ 64) a.left [] given ends.NoMemory) (λ x. ([], (refl, sym (append-nil x.written)), ([], refl), (tt, ([], inl refl))));
  }

  module _ (frames : List ToHouse) (reads : Reads to_house (reader.rest ++ piece) (map house_sent frames) reader_after.rest reader_after.fault)
      (place : reader_after.place ≡ (reader.place + length (stream_of (map house_sent frames) [])) % 2 ^ 64) (w w1 : Option ℕ) (m m1 : M) (t t1 : Option LinkBytes) where
    pub takes_end : (e : SessionEnd) → Answers allows auction frames w m t w1 m1 t1 (Some e) → Takes allows auction piece reader w m t reader_after w1 m1 t1 (Some e)
    takes_end e a =
        let parts : map house_sent frames ≡ map house_sent (frames_of a.turns) ++ map house_sent a.more = ap (λ (l : List ToHouse). map house_sent l) a.frames_are ∙ map-append house_sent (frames_of a.turns) a.more in
        record {
          turns = a.turns;
          tail = stream_of (map house_sent a.more) reader_after.rest;
          held = a.held;
          each = all_front (IsSent to_house) (map house_sent (frames_of a.turns)) (map house_sent a.more) (subst (AllByRecursion (IsSent to_house)) parts reads.each);
          replies = a.replies;
          front = reads.whole ∙ ap (λ (l : List Sent). stream_of l reader_after.rest) parts ∙ stream_on (map house_sent (frames_of a.turns)) (map house_sent a.more) reader_after.rest;
          goes = midway auction w (frames_of a.turns) e a.goes;
          sent = told-map t t1 (λ x y. (given : List ℕ) × Adds given x y × AreWhole a.turns given × WritesBy (Some e) (bytes_of a.turns) given)
              (λ x y. (given : List ℕ) × Adds given x y × AreWhole a.turns given × EndsBy auction w (frames_of a.turns) (stream_of (map house_sent a.more) reader_after.rest) ((reader.place + length (stream_of (map house_sent (frames_of a.turns)) [])) % 2 ^ 64) y.left (bytes_of a.turns) given e)
              a.sent
              (λ x y h. (h.0, h.1, h.2, ends_by auction w (frames_of a.turns) (stream_of (map house_sent a.more) reader_after.rest) ((reader.place + length (stream_of (map house_sent (frames_of a.turns)) [])) % 2 ^ 64) y.left (bytes_of a.turns) h.0 e a.goes h.3));
        }

    module _ (a : Answers allows auction frames w m t w1 m1 t1 None) where
      whole : frames ≡ frames_of a.turns
      whole = a.frames_are ∙ ap (λ (l : List ToHouse). frames_of a.turns ++ l) (a.all refl) ∙ append-nil (frames_of a.turns)

      read : Reads to_house (reader.rest ++ piece) (map house_sent (frames_of a.turns)) reader_after.rest reader_after.fault
      read = subst (λ (l : List ToHouse). Reads to_house (reader.rest ++ piece) (map house_sent l) reader_after.rest reader_after.fault) whole reads

      placed : reader_after.place ≡ (reader.place + length (stream_of (map house_sent (frames_of a.turns)) [])) % 2 ^ 64
      placed = place ∙ ap (λ (l : List ToHouse). (reader.place + length (stream_of (map house_sent l) [])) % 2 ^ 64) whole

      pub takes_on : fault_of reader_after ≡ None → Takes allows auction piece reader w m t reader_after w1 m1 t1 None
      takes_on none =
          let clean : reader_after.fault ≡ None = no_fault reader_after.place reader_after.fault none in
          record {
            turns = a.turns;
            tail = reader_after.rest;
            held = a.held;
            each = read.each;
            replies = a.replies;
            front = read.whole;
            goes = record {
              goes = a.goes;
              tail_is = refl;
              partial = subst (λ (o : Option WireKind). MatchOption o (IsPartial to_house reader_after.rest) (λ f. IsFault to_house f reader_after.rest)) clean read.ends;
              whole = clean;
              place = placed;
            };
            sent = a.sent;
          }

      pub takes_fault : (f : WireFault) → fault_of reader_after ≡ Some f → (t2 : Option LinkBytes) (e : SessionEnd) → IfTold t1 t2 (IsFaultSent f e) → IsMidway e → Takes allows auction piece reader w m t reader_after w1 m1 t2 (Some e)
      takes_fault f some t2 e sent mid =
          let is = some_fault reader_after.place reader_after.fault f some in
          let faulty : IsFault to_house f.kind reader_after.rest = subst (λ (o : Option WireKind). MatchOption o (IsPartial to_house reader_after.rest) (λ k. IsFault to_house k reader_after.rest)) is.0 read.ends in
          record {
            turns = a.turns;
            tail = reader_after.rest;
            held = a.held;
            each = read.each;
            replies = a.replies;
            front = read.whole;
            goes = mid;
            sent = told-trans t t1 t2 (λ x y. (given : List ℕ) × Adds given x y × AreWhole a.turns given × (given ≡ bytes_of a.turns)) (IsFaultSent f e)
                (λ x y. (given : List ℕ) × Adds given x y × AreWhole a.turns given × EndsBy auction w (frames_of a.turns) reader_after.rest ((reader.place + length (stream_of (map house_sent (frames_of a.turns)) [])) % 2 ^ 64) y.left (bytes_of a.turns) given e)
                a.sent sent
                (λ x y z p q. let sent = fault_ends auction w (frames_of a.turns) reader_after.rest ((reader.place + length (stream_of (map house_sent (frames_of a.turns)) [])) % 2 ^ 64) (bytes_of a.turns) f e x y z a.goes faulty (is.1 ∙ placed)
                (p.1.0, p.1.1 ∙ ap (λ (l : List ℕ). x.written ++ l) p.3) q in
                (sent.0, sent.1, whole_with a.turns sent.0 sent.2.0 sent.2.1, sent.3));
          }
