-- Turns after turns.
use Rattle.std.proofs.Common.{◌≡◌, ℕ, ◌-◌, List, [], ◌∷◌, ◌++◌, length, take, drop, map, Option, Some, None, refl, sym, ◌∙◌, ap, subst, arith, append_assoc, append-nil, take-append-drop}
use Rattle.std.proofs.lemmas.List.{map-append}
use Rattle.std.specs.Prelude.{Err}
use Rattle.std.specs.List.{AllByRecursion}
use Rattle.house_io.specs.Told.{IfTold}
use Rattle.house_io.specs.Links.{LinkBytes}
use Rattle.house_io.proofs.Telling.{told-trans, told-map, told-same}
use Rattle.auction_file.specs.declared.listing.Auction.{Auction}
use Rattle.report_wire.specs.Frames.{IsMessage, IsSent, spelled}
use Rattle.report_wire.specs.Messages.{to_house, house_sent, house_kind, house_payload, to_bidder, bidder_sent, bidder_kind, bidder_payload}
use Rattle.report_wire.specs.declared.messages.ToHouse.{ToHouse}
use Rattle.report_wire.specs.declared.messages.ToBidder.{ToBidder}
use Rattle.session.specs.declared.halls.Asked.{Asked}
use Rattle.session.specs.Table.{bidder_after}
use Rattle.session.specs.Turns.{Turn, IsTurn, AreTurns, frames_of, replies_of, bytes_of, bidder_behind}
use Rattle.house_serve.specs.declared.ends.SessionEnd.{SessionEnd}
use Rattle.house_serve.specs.declared.answering.Cut.{Cut}
use Rattle.house_serve.specs.Pieces.{Adds, IsSentBy, AreWhole, WritesBy, GoesBy, Answers, earlier_bytes}
use Rattle.house_serve.proofs.Behind.{goes_join, writes_join}

pub bytes_on : {M : Type 0} (ts us : List (Turn M)) → bytes_of (ts ++ us) ≡ bytes_of ts ++ bytes_of us
bytes_on [] us = refl
bytes_on (t ∷ ts) us = ap (λ (l : List ℕ). spelled (bidder_sent t.reply) ++ l) (bytes_on ts us) ∙ sym (append_assoc (spelled (bidder_sent t.reply)) (bytes_of ts) (bytes_of us))

-- turns after turns whose replies were written
pub whole_behind : {M : Type 0} (ts us : List (Turn M)) (given : List ℕ) → AreWhole us given → AreWhole (ts ++ us) (bytes_of ts ++ given)
whole_behind [] us given h = h
whole_behind (t ∷ []) [] given h = (bytes_of (t ∷ []) ++ given, refl)
whole_behind (t ∷ []) (u ∷ us) given h =
    let text : List ℕ = spelled (bidder_sent t.reply) in
    (h.0, ap (λ (l : List ℕ). l ++ given) (append-nil text) ∙ ap (λ (l : List ℕ). text ++ l) h.1 ∙ sym (append_assoc text (earlier_bytes (u ∷ us)) h.0))
whole_behind (t ∷ u ∷ ts) us given h =
    let text : List ℕ = spelled (bidder_sent t.reply) in
    let more = whole_behind (u ∷ ts) us given h in
    (more.0, append_assoc text (bytes_of (u ∷ ts)) given ∙ ap (λ (l : List ℕ). text ++ l) more.1 ∙ sym (append_assoc text (earlier_bytes (u ∷ ts ++ us)) more.0))

-- turns whose replies were written, and more after them
pub whole_with : {M : Type 0} (ts : List (Turn M)) (given more : List ℕ) → given ≡ bytes_of ts ++ more → AreWhole ts given
whole_with ts given more e = subst (λ (l : List (Turn _)). AreWhole l given) (append-nil ts) (subst (AreWhole (ts ++ [])) (sym e) (whole_behind ts [] more (more, refl)))

pub frames_on : {M : Type 0} (ts us : List (Turn M)) → frames_of (ts ++ us) ≡ frames_of ts ++ frames_of us
frames_on {M = M} ts us = map-append (λ (t : Turn M). t.frame) ts us

-- the replies of turns after turns can each be spelled
pub replies_on : {M : Type 0} (ts us : List (Turn M)) → AllByRecursion (IsSent to_bidder) (map bidder_sent (replies_of ts)) → AllByRecursion (IsSent to_bidder) (map bidder_sent (replies_of us))
    → AllByRecursion (IsSent to_bidder) (map bidder_sent (replies_of (ts ++ us)))
replies_on [] us p q = q
replies_on (t ∷ ts) us p q = (p.0, replies_on ts us p.1 q)

-- each of the frames is a message
pub sent_in : (before : List ToHouse) (f : ToHouse) (after : List ToHouse) → AllByRecursion (IsSent to_house) (map house_sent (before ++ f ∷ after)) → IsMessage to_house (house_kind f) (house_payload f)
sent_in [] f after all = all.0
sent_in (g ∷ gs) f after all = sent_in gs f after all.1

pub no_more : {A : Type 0} (xs : List A) → length xs ≡ 0 → xs ≡ []
no_more [] is = refl
no_more (x ∷ xs) is = absurd (omega arith)

module _ {M : Type 0} (allows : M → Asked → M → Type 0) (auction : Auction) where
  pub turns_on : (ts us : List (Turn M)) (w w1 w2 : Option ℕ) (m m1 m2 : M) → AreTurns allows auction w m ts w1 m1 → AreTurns allows auction w1 m1 us w2 m2 → AreTurns allows auction w m (ts ++ us) w2 m2
  turns_on [] us w w1 w2 m m1 m2 p q = subst (λ (x : Option ℕ). AreTurns allows auction x m us w2 m2) p.0 (subst (λ (y : M). AreTurns allows auction w1 y us w2 m2) p.1 q)
  turns_on (t ∷ ts) us w w1 w2 m m1 m2 p q = (p.0, turns_on ts us (bidder_after auction w t.frame) w1 w2 t.now m1 m2 p.1 q)

  pub later_is : (ts : List (Turn M)) (w w1 : Option ℕ) (m m1 : M) → AreTurns allows auction w m ts w1 m1 → w1 ≡ bidder_behind auction w (frames_of ts)
  later_is [] w w1 m m1 p = p.0
  later_is (t ∷ ts) w w1 m m1 p = later_is ts (bidder_after auction w t.frame) w1 t.now m1 p.1

  pub start : (w : Option ℕ) (m : M) (t : Option LinkBytes) → Answers allows auction [] w m t w m t None
  start w m t = record {
    turns = [];
    more = [];
    frames_are = refl;
    all = λ _. refl;
    held = (refl, refl);
    replies = tt;
    goes = refl;
    sent = told-same t (λ b a. (given : List ℕ) × Adds given b a × AreWhole {M = M} [] given × WritesBy None [] given) (λ x. ([], (refl, sym (append-nil x.written)), ([], refl), refl));
  }

  pub one : (f : ToHouse) (w w1 : Option ℕ) (m m1 : M) (t t1 : Option LinkBytes) (reply : ToBidder) (asked : Option Asked) (end : Option SessionEnd) → IsTurn allows auction w m (record { frame = f; asked = asked; reply = reply; now = m1 })
      → IsMessage to_bidder (bidder_kind reply) (bidder_payload reply) → w1 ≡ bidder_after auction w f → GoesBy auction w (f ∷ []) end → IfTold t t1 (λ b a. (given : List ℕ) × Adds given b a × WritesBy end (spelled (bidder_sent reply)) given)
      → Answers allows auction (f ∷ []) w m t w1 m1 t1 end
  one f w w1 m m1 t t1 reply asked end is said later goes sent = let turn : Turn M = record { frame = f; asked = asked; reply = reply; now = m1 } in record {
    turns = turn ∷ [];
    more = [];
    frames_are = refl;
    all = λ _. refl;
    held = (is, (later, refl));
    replies = (said, tt);
    goes = goes;
    sent = told-map t t1 (λ b a. (given : List ℕ) × Adds given b a × WritesBy end (spelled (bidder_sent reply)) given) (λ b a. (given : List ℕ) × Adds given b a × AreWhole (turn ∷ []) given × WritesBy end (spelled (bidder_sent reply) ++ []) given) sent (λ x y h. (h.0, h.1, (h.0, refl), subst (λ (l : List ℕ). WritesBy end l h.0) (sym (append-nil (spelled (bidder_sent reply)))) h.2));
  }

  pub join : (fs gs : List ToHouse) (w w1 w2 : Option ℕ) (m m1 m2 : M) (t t1 t2 : Option LinkBytes) (end : Option SessionEnd) → Answers allows auction fs w m t w1 m1 t1 None → Answers allows auction gs w1 m1 t1 w2 m2 t2 end
      → Answers allows auction (fs ++ gs) w m t w2 m2 t2 end
  join fs gs w w1 w2 m m1 m2 t t1 t2 end a b =
      let whole : fs ≡ frames_of a.turns = a.frames_are ∙ ap (λ (l : List ToHouse). frames_of a.turns ++ l) (a.all refl) ∙ append-nil (frames_of a.turns) in
      let later = later_is a.turns w w1 m m1 a.held in
      let both = frames_on a.turns b.turns in
      let bytes = bytes_on a.turns b.turns in
      record {
        turns = a.turns ++ b.turns;
        more = b.more;
        frames_are = ap (λ (l : List ToHouse). l ++ gs) whole ∙ ap (λ (l : List ToHouse). frames_of a.turns ++ l) b.frames_are ∙ sym (append_assoc (frames_of a.turns) (frames_of b.turns) b.more) ∙ ap (λ (l : List ToHouse). l ++ b.more) (sym both);
        all = b.all;
        held = turns_on a.turns b.turns w w1 w2 m m1 m2 a.held b.held;
        replies = replies_on a.turns b.turns a.replies b.replies;
        goes = subst (λ (l : List ToHouse). GoesBy auction w l end) (sym both) (goes_join auction (frames_of a.turns) (frames_of b.turns) w end a.goes (subst (λ (x : Option ℕ). GoesBy auction x (frames_of b.turns) end) later b.goes));
        sent = told-trans t t1 t2 (λ x y. (given : List ℕ) × Adds given x y × AreWhole a.turns given × WritesBy None (bytes_of a.turns) given) (λ x y. (given : List ℕ) × Adds given x y × AreWhole b.turns given × WritesBy end (bytes_of b.turns) given)
            (λ x y. (given : List ℕ) × Adds given x y × AreWhole (a.turns ++ b.turns) given × WritesBy end (bytes_of (a.turns ++ b.turns)) given) a.sent b.sent (λ x y z p q. (
              bytes_of a.turns ++ q.0,
              (q.1.0 ∙ p.1.0, q.1.1 ∙ ap (λ (l : List ℕ). l ++ q.0) (p.1.1 ∙ ap (λ (l : List ℕ). x.written ++ l) p.3) ∙ append_assoc x.written (bytes_of a.turns) q.0),
              whole_behind a.turns b.turns q.0 q.2,
              subst (λ (l : List ℕ). WritesBy end l (bytes_of a.turns ++ q.0)) (sym bytes) (writes_join end (bytes_of a.turns) (bytes_of b.turns) q.0 q.3),
            ));
      }

  pub extend : (gs hs : List ToHouse) (w w1 : Option ℕ) (m m1 : M) (t t1 : Option LinkBytes) (e : SessionEnd) → Answers allows auction gs w m t w1 m1 t1 (Some e) → Answers allows auction (gs ++ hs) w m t w1 m1 t1 (Some e)
  extend gs hs w w1 m m1 t t1 e a = record {
    turns = a.turns;
    more = a.more ++ hs;
    frames_are = ap (λ (l : List ToHouse). l ++ hs) a.frames_are ∙ append_assoc (frames_of a.turns) a.more hs;
    all = λ same. absurd (let f : Some e ≡ None = same in cc);
    held = a.held;
    replies = a.replies;
    goes = a.goes;
    sent = a.sent;
  }

-- a front of a text was written
pub cut_off : (t t1 : Option LinkBytes) (text bytes : List ℕ) → text ≡ bytes → IfTold t t1 (λ b a. (a.left ≡ b.left) × (a.written ≡ b.written ++ take (length a.written - length b.written) text))
    → IfTold t t1 (λ b a. (given : List ℕ) × (more : List ℕ) × (bytes ≡ given ++ more) × Adds given b a)
cut_off t t1 text bytes same h =
    told-map t t1 (λ b a. (a.left ≡ b.left) × (a.written ≡ b.written ++ take (length a.written - length b.written) text)) (λ b a. (given : List ℕ) × (more : List ℕ) × (bytes ≡ given ++ more) × Adds given b a) h
    (λ x y g. (take (length y.written - length x.written) text, drop (length y.written - length x.written) text, sym same ∙ sym (take-append-drop (length y.written - length x.written) text), g))

pub sent_whole : (t t1 : Option LinkBytes) (text : List ℕ) (end : Option SessionEnd) → WritesBy end text text → IfTold t t1 (Adds text) → IfTold t t1 (λ b a. (given : List ℕ) × Adds given b a × WritesBy end text given)
sent_whole t t1 text end w h = told-map t t1 (Adds text) (λ b a. (given : List ℕ) × Adds given b a × WritesBy end text given) h (λ x y g. (text, g, w))

pub cut_short : (t t1 : Option LinkBytes) (text : List ℕ) (end : Option SessionEnd) → ((given more : List ℕ) → text ≡ given ++ more → WritesBy end text given)
    → IfTold t t1 (λ b a. (given : List ℕ) × (more : List ℕ) × (text ≡ given ++ more) × Adds given b a) → IfTold t t1 (λ b a. (given : List ℕ) × Adds given b a × WritesBy end text given)
cut_short t t1 text end w h =
    told-map t t1 (λ b a. (given : List ℕ) × (more : List ℕ) × (text ≡ given ++ more) × Adds given b a) (λ b a. (given : List ℕ) × Adds given b a × WritesBy end text given) h (λ x y g. (g.0, g.3, w g.0 g.1 g.2))

pub left_out : (t t1 : Option LinkBytes) (text : List ℕ) (end : Option SessionEnd) → WritesBy end text [] → IfTold t t1 (Adds []) → IfTold t t1 (λ b a. (given : List ℕ) × Adds given b a × WritesBy end text given)
left_out t t1 text end w h = told-map t t1 (Adds []) (λ b a. (given : List ℕ) × Adds given b a × WritesBy end text given) h (λ x y g. ([], g, w))

pub sent_as : (t t1 : Option LinkBytes) (text : List ℕ) (found cut : Cut) → found ≡ cut → IfTold t t1 (IsSentBy (Err found) text) → IfTold t t1 (IsSentBy (Err cut) text)
sent_as t t1 text found cut is h = subst (λ (c : Cut). IfTold t t1 (IsSentBy (Err c) text)) is h
