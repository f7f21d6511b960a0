-- A whole session: pieces after pieces, and its end.
use Rattle.std.proofs.Common.{◌≡◌, inl, inr, ⊎_elim, ℕ, ◌+◌, ◌%◌, ◌^◌, ◌<◌, ◌≤◌, true, List, [], ◌++◌, length, map, Option, None, refl, sym, ◌∙◌, ap, subst, arith, append_assoc, append-nil, length-append}
use Rattle.std.proofs.lemmas.List.{map-append}
use Rattle.std.specs.List.{flat_map, AllByRecursion}
use Rattle.house_io.specs.Links.{LinkBytes}
use Rattle.house_io.proofs.Telling.{told-trans, told-map, told-same}
use Rattle.auction_file.specs.declared.listing.Auction.{Auction}
use Rattle.report_wire.specs.Frames.{Sent, IsSent, stream_of, spelled}
use Rattle.report_wire.specs.Messages.{to_house, house_sent}
use Rattle.report_wire.specs.Reading.{ReaderState, fresh}
use Rattle.report_wire.specs.declared.messages.ToHouse.{ToHouse}
use Rattle.report_wire.proofs.Streams.{stream_on, all-append}
use Rattle.session.specs.declared.halls.Asked.{Asked}
use Rattle.session.specs.Turns.{Turn, frames_of, bytes_of, goes_on_after, bidder_behind}
use Rattle.house_serve.specs.declared.ends.SessionEnd.{SessionEnd}
use Rattle.house_serve.specs.declared.ends.SessionEnd.TheVariants as ends
use Rattle.house_serve.specs.Ends.{EndsBy, TakesBy, IsCut, fault_bytes, most}
use Rattle.house_serve.specs.Pieces.{GoesOn}
use Rattle.house_serve.specs.declared.serving.TheConstants.{CHUNK}
use Rattle.house_serve.specs.Serving.{Served, IsSession, Going, Underway, Went, WentBytes, Ended, EndedBytes, IsEmptyAtEnd}
use Rattle.house_serve.proofs.Behind.{behind_on, ends_on, one_on}
use Rattle.house_serve.proofs.Turned.{bytes_on, frames_on, replies_on, turns_on, later_is, whole_behind, whole_with}

-- the bytes of frames after frames
sent_on : {M : Type 0} (ts us : List (Turn M)) → map house_sent (frames_of (ts ++ us)) ≡ map house_sent (frames_of ts) ++ map house_sent (frames_of us)
sent_on ts us = ap (λ (l : List ToHouse). map house_sent l) (frames_on ts us) ∙ map-append house_sent (frames_of ts) (frames_of us)

stream_turns : {M : Type 0} (ts us : List (Turn M)) (rest : List ℕ) → stream_of (map house_sent (frames_of (ts ++ us))) rest ≡ stream_of (map house_sent (frames_of ts)) (stream_of (map house_sent (frames_of us)) rest)
stream_turns ts us rest = ap (λ (l : List Sent). stream_of l rest) (sent_on ts us) ∙ stream_on (map house_sent (frames_of ts)) (map house_sent (frames_of us)) rest

length_turns : {M : Type 0} (ts us : List (Turn M)) → length (stream_of (map house_sent (frames_of (ts ++ us))) []) ≡ length (stream_of (map house_sent (frames_of ts)) []) + length (stream_of (map house_sent (frames_of us)) [])
length_turns ts us =
    let a = ap length (stream_turns ts us []) in
    let b = length-append (flat_map spelled (map house_sent (frames_of ts))) (stream_of (map house_sent (frames_of us)) []) in
    let d = length-append (flat_map spelled (map house_sent (frames_of ts))) [] in
    omega (arith, a, b, d)

placed : (place a b n : ℕ) → place ≡ a % 2 ^ 64 → n ≡ a + b → (place + b) % 2 ^ 64 ≡ n % 2 ^ 64
placed place a b n p q = omega (arith, p, q)

cut_join : (auction : Auction) (fs gs : List ToHouse) (w : Option ℕ) (tail : List ℕ) (done bytes given : List ℕ) → goes_on_after auction w fs ≡ true
    → IsCut auction (bidder_behind auction w fs) gs tail bytes given → IsCut auction w (fs ++ gs) tail (done ++ bytes) (done ++ given)
cut_join auction fs gs w tail done bytes given p h = (
  one_on auction fs gs w p h.0,
  (
    h.1.0,
    ⊎_elim
        (λ e. inl (ap (λ (l : List ℕ). done ++ l) e ∙ sym (append_assoc done given h.1.0)))
        (λ e. inr (e.0, behind_on auction fs gs w p e.1, e.2, append_assoc done bytes (fault_bytes e.0) ∙ ap (λ (l : List ℕ). done ++ l) e.3 ∙ sym (append_assoc done given h.1.0)))
        h.1.1,
  ),
)

ends_join : (auction : Auction) (fs gs : List ToHouse) (w : Option ℕ) (tail : List ℕ) (place : ℕ) (left done bytes given : List ℕ) (e : SessionEnd) → goes_on_after auction w fs ≡ true
    → EndsBy auction (bidder_behind auction w fs) gs tail place left bytes given e → EndsBy auction w (fs ++ gs) tail place left (done ++ bytes) (done ++ given) e
ends_join auction fs gs w tail place left done bytes given ends.Quit p h = (ends_on auction fs gs w ends.Quit p h.0, ap (λ (l : List ℕ). done ++ l) h.1)
ends_join auction fs gs w tail place left done bytes given ends.BadToken p h = (ends_on auction fs gs w ends.BadToken p h.0, ap (λ (l : List ℕ). done ++ l) h.1)
ends_join auction fs gs w tail place left done bytes given (ends.Wire fault) p h =
    (behind_on auction fs gs w p h.0, h.1, h.2, ap (λ (l : List ℕ). done ++ l) h.3 ∙ sym (append_assoc done bytes _))
ends_join auction fs gs w tail place left done bytes given (ends.Closed rest) p h = (behind_on auction fs gs w p h.0, h.1, h.2, h.3, ap (λ (l : List ℕ). done ++ l) h.4)
ends_join auction fs gs w tail place left done bytes given ends.Spent p h = (behind_on auction fs gs w p h.0, h.1, ap (λ (l : List ℕ). done ++ l) h.2)
ends_join auction fs gs w tail place left done bytes given ends.LinkFault p h = cut_join auction fs gs w tail done bytes given p h
ends_join auction fs gs w tail place left done bytes given ends.NoMemory p h = cut_join auction fs gs w tail done bytes given p h

takes_by : (e : SessionEnd) (count piece : ℕ) (room : ℕ) (came : List ℕ) → length came ≡ piece → IsEmptyAtEnd e came → count < most → piece ≤ room → count + room ≤ most → TakesBy (count + piece) e
takes_by ends.Quit count piece room came size at lt le all = omega (arith, le, all)
takes_by ends.BadToken count piece room came size at lt le all = omega (arith, le, all)
takes_by (ends.Wire fault) count piece room came size at lt le all = omega (arith, le, all)
takes_by (ends.Closed rest) count piece room came size at lt le all = let n = ap length at in omega (arith, n, size, lt)
takes_by ends.Spent count piece room came size at lt le all = absurd at
takes_by ends.LinkFault count piece room came size at lt le all = omega (arith, le, all)
takes_by ends.NoMemory count piece room came size at lt le all = omega (arith, le, all)

module _ {M : Type 0} (allows : M → Asked → M → Type 0) (auction : Auction) where
  pub begun : (m : M) (t : Option LinkBytes) → Underway allows auction m m None fresh 0 t t
  begun m t = record {
    turns = [];
    held = (refl, refl);
    each = tt;
    replies = tt;
    going = refl;
    partial = inl (omega arith);
    whole = refl;
    place = refl;
    bytes = told-same t (Going [] [] 0) (λ x. record { taken = []; left = refl; count_is = refl; written = sym (append-nil x.written); front = refl });
  }

  -- a session for which there was no memory before the first byte
  pub unheard : (m : M) (t : Option LinkBytes) → (turns : List (Turn M)) × IsSession allows auction turns m m t t ends.NoMemory
  unheard m t = (
    [],
    record {
      bidder = None;
      held = (refl, refl);
      each = tt;
      replies = tt;
      bytes = told-same t (Served {M = M} auction [] ends.NoMemory) (λ x. record { taken = []; given = []; tail = []; left = refl; written = sym (append-nil x.written); front = refl; ends = (tt, ([], inl refl)); whole = ([], refl); takes = omega arith; pulls = record { done = []; new = []; rest = []; piece = []; turns_are = refl; taken_is = refl; goes = refl; partial = inl (omega arith); short = omega arith } });
    },
  )

  module _ (m m1 : M) (w : Option ℕ) (reader : ReaderState) (count : ℕ) (t t1 : Option LinkBytes) (u : Underway allows auction m m1 w reader count t t1) where
    who_is : w ≡ bidder_behind auction None (frames_of u.turns)
    who_is = later_is allows auction u.turns None w m m1 u.held

    pub on : (reader_after : ReaderState) (w2 : Option ℕ) (m2 : M) (t2 : Option LinkBytes) (room n : ℕ) → Went allows auction room reader w m1 t1 reader_after w2 m2 t2 n → Underway allows auction m m2 w2 reader_after (count + n) t t2
    on reader_after w2 m2 t2 room n s =
        let new = s.2.0 in
        let goes : GoesOn auction w (frames_of new) reader_after.rest reader reader_after = s.2.4 in
        record {
          turns = u.turns ++ new;
          held = turns_on allows auction u.turns new None w w2 m m1 m2 u.held s.2.1;
          each = subst (AllByRecursion (IsSent to_house)) (sym (sent_on u.turns new)) (all-append (IsSent to_house) (map house_sent (frames_of u.turns)) (map house_sent (frames_of new)) u.each s.2.2);
          replies = replies_on u.turns new u.replies s.2.3;
          going = subst (λ (l : List ToHouse). goes_on_after auction None l ≡ true) (sym (frames_on u.turns new))
              (behind_on auction (frames_of u.turns) (frames_of new) None u.going (subst (λ (x : Option ℕ). goes_on_after auction x (frames_of new) ≡ true) who_is goes.goes));
          partial = goes.partial;
          whole = goes.whole;
          place = goes.place ∙ placed reader.place (length (stream_of (map house_sent (frames_of u.turns)) [])) (length (stream_of (map house_sent (frames_of new)) [])) (length (stream_of (map house_sent (frames_of (u.turns ++ new))) [])) u.place (length_turns u.turns new);
          bytes = told-trans t t1 t2 (Going u.turns reader.rest count) (WentBytes reader reader_after new n) (Going (u.turns ++ new) reader_after.rest (count + n)) u.bytes s.2.5 (λ x y z p q. record {
            taken = p.taken ++ q.0;
            left = p.left ∙ ap (λ (l : List ℕ). p.taken ++ l) q.2 ∙ sym (append_assoc p.taken q.0 z.left);
            count_is = (let a = length-append p.taken q.0 in let b = p.count_is in let d = q.1 in omega (arith, a, b, d));
            written = q.3 ∙ ap (λ (l : List ℕ). l ++ bytes_of new) p.written ∙ append_assoc x.written (bytes_of u.turns) (bytes_of new) ∙ ap (λ (l : List ℕ). x.written ++ l) (sym (bytes_on u.turns new));
            front = ap (λ (l : List ℕ). l ++ q.0) p.front ∙ append_assoc (flat_map spelled (map house_sent (frames_of u.turns))) reader.rest q.0 ∙ ap (λ (l : List ℕ). stream_of (map house_sent (frames_of u.turns)) l) q.4 ∙ sym (stream_turns u.turns new reader_after.rest);
          });
        }

    pub whole_end : (w2 : Option ℕ) (m2 : M) (t2 : Option LinkBytes) (room : ℕ) (e : SessionEnd) → room ≤ CHUNK → count < most → count + room ≤ most → Ended allows auction room reader w m1 t1 w2 m2 t2 e → (turns : List (Turn M)) × IsSession allows auction turns m m2 t t2 e
    whole_end w2 m2 t2 room e short lt fits s =
        let new = s.0 in (
          u.turns ++ new,
          record {
            bidder = w2;
            held = turns_on allows auction u.turns new None w w2 m m1 m2 u.held s.1;
            each = subst (AllByRecursion (IsSent to_house)) (sym (sent_on u.turns new)) (all-append (IsSent to_house) (map house_sent (frames_of u.turns)) (map house_sent (frames_of new)) u.each s.2);
            replies = replies_on u.turns new u.replies s.3;
            bytes = told-trans t t1 t2 (Going u.turns reader.rest count) (EndedBytes auction room reader w new e) (Served auction (u.turns ++ new) e) u.bytes s.4 (λ x y z p q. record {
              taken = p.taken ++ q.0;
              given = bytes_of u.turns ++ q.1;
              tail = q.2;
              left = p.left ∙ ap (λ (l : List ℕ). p.taken ++ l) q.5 ∙ sym (append_assoc p.taken q.0 z.left);
              written = q.6 ∙ ap (λ (l : List ℕ). l ++ q.1) p.written ∙ append_assoc x.written (bytes_of u.turns) q.1;
              front = ap (λ (l : List ℕ). l ++ q.0) p.front ∙ append_assoc (flat_map spelled (map house_sent (frames_of u.turns))) reader.rest q.0 ∙ ap (λ (l : List ℕ). stream_of (map house_sent (frames_of u.turns)) l) q.7 ∙ sym (stream_turns u.turns new q.2);
              ends = (
                  let at = placed reader.place (length (stream_of (map house_sent (frames_of u.turns)) [])) (length (stream_of (map house_sent (frames_of new)) [])) (length (stream_of (map house_sent (frames_of (u.turns ++ new))) [])) u.place (length_turns u.turns new) in
                  let here = subst (λ (o : Option ℕ). EndsBy auction o (frames_of new) q.2 ((reader.place + length (stream_of (map house_sent (frames_of new)) [])) % 2 ^ 64) z.left (bytes_of new) q.1 e) who_is q.8 in
                  let moved = subst (λ (k : ℕ). EndsBy auction (bidder_behind auction None (frames_of u.turns)) (frames_of new) q.2 k z.left (bytes_of new) q.1 e) at here in
                  let both = ends_join auction (frames_of u.turns) (frames_of new) None q.2 (length (stream_of (map house_sent (frames_of (u.turns ++ new))) []) % 2 ^ 64) z.left (bytes_of u.turns) (bytes_of new) q.1 e u.going moved in
                  let framed = subst (λ (l : List ToHouse). EndsBy auction None l q.2 (length (stream_of (map house_sent (frames_of (u.turns ++ new))) []) % 2 ^ 64) z.left (bytes_of u.turns ++ bytes_of new) (bytes_of u.turns ++ q.1) e) (sym (frames_on u.turns new)) both in
                  subst (λ (l : List ℕ). EndsBy auction None (frames_of (u.turns ++ new)) q.2 (length (stream_of (map house_sent (frames_of (u.turns ++ new))) []) % 2 ^ 64) z.left l (bytes_of u.turns ++ q.1) e) (sym (bytes_on u.turns new)) framed
                  );
              takes = subst (λ (k : ℕ). TakesBy k e) (let a = length-append p.taken q.0 in let b = p.count_is in omega (arith, a, b)) (takes_by e count (length q.0) room q.0 refl q.4 lt q.3 fits);
              whole = whole_behind u.turns new q.1 q.9;
              pulls = record {
                done = u.turns;
                new = new;
                rest = reader.rest;
                piece = q.0;
                turns_are = refl;
                taken_is = ap (λ (l : List ℕ). l ++ q.0) p.front;
                goes = u.going;
                partial = u.partial;
                short = (let l = q.3 in omega (arith, l, short));
              };
            });
          },
        )

    pub spent : count ≡ most → (turns : List (Turn M)) × IsSession allows auction turns m m1 t t1 ends.Spent
    spent full = (
      u.turns,
      record {
        bidder = w;
        held = u.held;
        each = u.each;
        replies = u.replies;
        bytes = told-map t t1 (Going u.turns reader.rest count) (Served auction u.turns ends.Spent) u.bytes (λ x y p. record {
          taken = p.taken;
          given = bytes_of u.turns;
          tail = reader.rest;
          left = p.left;
          written = p.written;
          front = p.front;
          ends = (u.going, u.partial, refl);
          whole = whole_with u.turns (bytes_of u.turns) [] (sym (append-nil (bytes_of u.turns)));
          takes = p.count_is ∙ full;
          pulls = record {
            done = u.turns;
            new = [];
            rest = reader.rest;
            piece = [];
            turns_are = sym (append-nil u.turns);
            taken_is = p.front ∙ sym (append-nil (stream_of (map house_sent (frames_of u.turns)) reader.rest));
            goes = u.going;
            partial = u.partial;
            short = omega arith;
          };
        });
      },
    )
