-- One pull, and what came of it.
use Rattle.std.proofs.Common.{◌≡◌, inl, ℕ, ◌+◌, ◌%◌, ◌^◌, ◌<◌, ◌≤◌, List, [], ◌++◌, length, map, take, Option, Some, None, refl, sym, ◌∙◌, ap, subst, arith, append-nil}
use Rattle.std.specs.Prelude.{Ok, Err}
use Rattle.std.proofs.lemmas.List.{length-take-le}
use Rattle.house_io.specs.Told.{IfTold}
use Rattle.house_io.specs.Links.{LinkBytes, Receives}
use Rattle.house_io.specs.declared.Failed.{Failed}
use Rattle.house_io.proofs.Telling.{told-trans, told-map}
use Rattle.auction_file.specs.declared.listing.Auction.{Auction}
use Rattle.report_wire.specs.Frames.{IsPartial, stream_of}
use Rattle.report_wire.specs.Messages.{to_house, house_sent}
use Rattle.report_wire.specs.Reading.{ReaderState}
use Rattle.session.specs.declared.halls.Asked.{Asked}
use Rattle.session.specs.Turns.{frames_of, bytes_of}
use Rattle.house_serve.specs.declared.ends.SessionEnd.{SessionEnd}
use Rattle.house_serve.specs.declared.ends.SessionEnd.TheVariants as ends
use Rattle.house_serve.specs.Ends.{EndsBy}
use Rattle.house_serve.specs.Pieces.{Adds, AreWhole, Takes, GoesOn, IsMidway}
use Rattle.house_serve.specs.Serving.{Went, WentBytes, Ended, EndedBytes, IsEmptyAtEnd}

midway_end : (e : SessionEnd) (piece : List ℕ) → IsMidway e → IsEmptyAtEnd e piece
midway_end ends.Quit piece h = tt
midway_end ends.BadToken piece h = tt
midway_end (ends.Wire fault) piece h = tt
midway_end (ends.Closed rest) piece h = absurd h
midway_end ends.Spent piece h = h
midway_end ends.LinkFault piece h = tt
midway_end ends.NoMemory piece h = tt

module _ {M : Type 0} (allows : M → Asked → M → Type 0) (auction : Auction) (reader : ReaderState) (into : List ℕ) (w : Option ℕ) (m : M) (t t1 : Option LinkBytes) where
  pub closed : (n : ℕ) → 0 < length into → n ≡ length reader.rest → IsPartial to_house reader.rest → IfTold t t1 (Receives (Ok 0) into) → Ended allows auction (length into) reader w m t w m t1 (ends.Closed n)
  closed n room size partial h = (
    [],
    (refl, refl),
    tt,
    tt,
    told-map t t1 (Receives (Ok 0) into) (EndedBytes {M = M} auction (length into) reader w [] (ends.Closed n)) h (λ x y g. (
      [],
      [],
      reader.rest,
      omega arith,
      refl,
      g.0.bytes,
      g.1 ∙ sym (append-nil x.written),
      append-nil reader.rest,
      (refl, partial, size, sym g.0.bytes ∙ (g.0.at_end room).0 refl, refl),
      ([], refl),
    )),
  )

  pub failed : (e : Failed) → IfTold t t1 (Receives (Err e) into) → Ended allows auction (length into) reader w m t w m t1 ends.LinkFault
  failed e h = (
    [],
    (refl, refl),
    tt,
    tt,
    told-map t t1 (Receives (Err e) into) (EndedBytes {M = M} auction (length into) reader w [] ends.LinkFault) h (λ x y g. (
      [],
      [],
      reader.rest,
      omega arith,
      tt,
      sym g.0,
      g.1 ∙ sym (append-nil x.written),
      append-nil reader.rest,
      (tt, ([], inl refl)),
      ([], refl),
    )),
  )

  module _ (reader_after : ReaderState) (count : ℕ) (within : count ≤ length into) (w1 : Option ℕ) (m1 : M) (t2 : Option LinkBytes) (pulled : IfTold t t1 (Receives (Ok count) into)) where
    pub went : 0 < count → Takes allows auction (take count into) reader w m t1 reader_after w1 m1 t2 None → Went allows auction (length into) reader w m t reader_after w1 m1 t2 count
    went some a = (
      some,
      within,
      (
        a.turns,
        a.held,
        a.each,
        a.replies,
        subst (λ (l : List ℕ). GoesOn auction w (frames_of a.turns) l reader reader_after) a.goes.tail_is a.goes,
        told-trans t t1 t2 (Receives (Ok count) into) (λ x y. (given : List ℕ) × Adds given x y × AreWhole a.turns given × (given ≡ bytes_of a.turns)) (WentBytes reader reader_after a.turns count) pulled a.sent
            (λ x y z p q. (
              take count into,
              length-take-le count into within,
              p.0.bytes ∙ ap (λ (l : List ℕ). take count into ++ l) (sym q.1.0),
              q.1.1 ∙ ap (λ (l : List ℕ). l ++ q.0) p.1 ∙ ap (λ (l : List ℕ). x.written ++ l) q.3,
              a.front ∙ ap (λ (l : List ℕ). stream_of (map house_sent (frames_of a.turns)) l) a.goes.tail_is,
            )),
      ),
    )

    pub ended : (e : SessionEnd) → Takes allows auction (take count into) reader w m t1 reader_after w1 m1 t2 (Some e) → Ended allows auction (length into) reader w m t w1 m1 t2 e
    ended e a = (
      a.turns,
      a.held,
      a.each,
      a.replies,
      told-trans t t1 t2 (Receives (Ok count) into)
          (λ x y. (given : List ℕ) × Adds given x y × AreWhole a.turns given × EndsBy auction w (frames_of a.turns) a.tail ((reader.place + length (stream_of (map house_sent (frames_of a.turns)) [])) % 2 ^ 64) y.left (bytes_of a.turns) given e)
          (EndedBytes auction (length into) reader w a.turns e) pulled a.sent
          (λ x y z p q. (
            take count into,
            q.0,
            a.tail,
            (let n = length-take-le count into within in omega (arith, n, within)),
            midway_end e (take count into) a.goes,
            p.0.bytes ∙ ap (λ (l : List ℕ). take count into ++ l) (sym q.1.0),
            q.1.1 ∙ ap (λ (l : List ℕ). l ++ q.0) p.1,
            a.front,
            q.3,
            q.2,
          )),
    )
