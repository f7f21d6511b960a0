-- One frame and its reply.
use Rattle.std.proofs.Common.{◌≡◌, inl, inr, ℕ, ◌-◌, Bool, true, false, List, [], ◌++◌, length, take, drop, Option, refl, sym, ◌∙◌, subst, append-nil, take-append-drop}
use Rattle.std.specs.Prelude.{Result}
use Rattle.house_io.specs.Told.{IfTold}
use Rattle.house_io.specs.Links.{LinkBytes}
use Rattle.house_io.proofs.Telling.{told-trans, told-map, told-same}
use Rattle.report_wire.specs.Frames.{spelled}
use Rattle.report_wire.specs.Messages.{house_sent, bidder_sent}
use Rattle.report_wire.specs.declared.messages.ToHouse.{ToHouse}
use Rattle.report_wire.specs.declared.messages.ToBidder.{ToBidder}
use Rattle.report_wire.specs.declared.messages.ToBidder.TheVariants as bidder
use Rattle.bidder_agent.specs.Hearing.{IsHeard}
use Rattle.bidder_agent.specs.Sending.{Adds, judged, kept}
use Rattle.bidder_agent.specs.Talks.{Moves, Converses, IsExchange, answers, is_refused}
use Rattle.bidder_agent.specs.declared.hearing.Heard.{Heard}
use Rattle.bidder_agent.specs.declared.hearing.Heard.TheVariants as heard
use Rattle.bidder_agent.specs.declared.agents.AgentEnd.{AgentEnd}

pub cut_off : (t t1 : Option LinkBytes) (text bytes : List ℕ) → text ≡ bytes → IfTold t t1 (λ b a. (a.left ≡ b.left) × (a.written ≡ b.written ++ take (length a.written - length b.written) text))
    → IfTold t t1 (λ b a. (given : List ℕ) × (more : List ℕ) × (bytes ≡ given ++ more) × Adds given b a)
cut_off t t1 text bytes same h =
    told-map t t1 (λ b a. (a.left ≡ b.left) × (a.written ≡ b.written ++ take (length a.written - length b.written) text)) (λ b a. (given : List ℕ) × (more : List ℕ) × (bytes ≡ given ++ more) × Adds given b a) h
    (λ x y g. (take (length y.written - length x.written) text, drop (length y.written - length x.written) text, sym same ∙ sym (take-append-drop (length y.written - length x.written) text), g))

moved : (taken given : List ℕ) (x y z : LinkBytes) → Adds given x y → y.left ≡ taken ++ z.left → z.written ≡ y.written → Moves taken given x z
moved taken given x y z a left written = record { left = sym a.0 ∙ left; written = written ∙ a.1 }

after_sent : (frame : ToHouse) (h : Heard) (x y z : LinkBytes) → Adds (spelled (house_sent frame)) x y → IsHeard h y z → Converses frame h x z
after_sent frame (heard.Reply reply) x y z a h = (h.0, moved (spelled (bidder_sent reply)) (spelled (house_sent frame)) x y z a h.1.0 h.1.1)
after_sent frame heard.Bad x y z a h = (h.0, moved h.0 (spelled (house_sent frame)) x y z a h.1.0 h.1.1, h.2)
after_sent frame heard.LinkFault x y z a h = inr (h.0, h.2, moved h.0 (spelled (house_sent frame)) x y z a h.1.0 h.1.1)
after_sent frame heard.NoMemory x y z a h = inr (h.0, moved h.0 (spelled (house_sent frame)) x y z a h.1.0 h.1.1)

pub heard_behind : (t t1 t2 : Option LinkBytes) (frame : ToHouse) (h : Heard) → IfTold t t1 (Adds (spelled (house_sent frame))) → IfTold t1 t2 (IsHeard h) → IfTold t t2 (Converses frame h)
heard_behind t t1 t2 frame h p q = told-trans t t1 t2 (Adds (spelled (house_sent frame))) (IsHeard h) (Converses frame h) p q (λ x y z a b. after_sent frame h x y z a b)

cut_moves : (given : List ℕ) (x y : LinkBytes) → Adds given x y → Moves [] given x y
cut_moves given x y a = record { left = sym a.0; written = a.1 }

pub cut_fault : (t t1 : Option LinkBytes) (frame : ToHouse) → IfTold t t1 (λ b a. (given : List ℕ) × (more : List ℕ) × (spelled (house_sent frame) ≡ given ++ more) × Adds given b a) → IfTold t t1 (Converses frame heard.LinkFault)
cut_fault t t1 frame p =
    told-map t t1 (λ b a. (given : List ℕ) × (more : List ℕ) × (spelled (house_sent frame) ≡ given ++ more) × Adds given b a) (Converses frame heard.LinkFault) p
    (λ x y h. inl (h.0, h.1, h.2, cut_moves h.0 x y h.3))

pub cut_memory : (t t1 : Option LinkBytes) (frame : ToHouse) → IfTold t t1 (Adds []) → IfTold t t1 (Converses frame heard.NoMemory)
cut_memory t t1 frame p = told-map t t1 (Adds []) (Converses frame heard.NoMemory) p (λ x y h. inl (cut_moves [] x y h))

-- nothing was sent: out of memory
pub nothing_sent : (t : Option LinkBytes) (frame : ToHouse) → IfTold t t (Converses frame heard.NoMemory)
nothing_sent t frame = told-same t (Converses frame heard.NoMemory) (λ x. inl (record { left = refl; written = sym (append-nil x.written) }))

kept_is : (goods bidders : ℕ) (last : Option ℕ) (frame : ToHouse) (t t1 : Option LinkBytes) (reply : ToBidder) (b : Bool) → answers goods bidders last frame reply ≡ b → is_refused reply ≡ false
    → IfTold t t1 (Converses frame (heard.Reply reply)) → IsExchange goods bidders last frame t t1 (kept b reply)
kept_is goods bidders last frame t t1 reply true e other h = (e, h)
kept_is goods bidders last frame t t1 reply false e other h = inl (reply, e, other, h)

judged_is : (goods bidders : ℕ) (last : Option ℕ) (frame : ToHouse) (t t1 : Option LinkBytes) (reply : ToBidder)
    → IfTold t t1 (Converses frame (heard.Reply reply)) → IsExchange goods bidders last frame t t1 (judged (answers goods bidders last frame reply) reply)
judged_is goods bidders last frame t t1 (bidder.Refused code detail value) h = h
judged_is goods bidders last frame t t1 (bidder.Welcome g k) h = kept_is goods bidders last frame t t1 (bidder.Welcome g k) (answers goods bidders last frame (bidder.Welcome g k)) refl refl h
judged_is goods bidders last frame t t1 (bidder.Price c r ph ps) h = kept_is goods bidders last frame t t1 (bidder.Price c r ph ps) (answers goods bidders last frame (bidder.Price c r ph ps)) refl refl h
judged_is goods bidders last frame t t1 (bidder.Taken c r) h = kept_is goods bidders last frame t t1 (bidder.Taken c r) (answers goods bidders last frame (bidder.Taken c r)) refl refl h
judged_is goods bidders last frame t t1 (bidder.Again c r) h = kept_is goods bidders last frame t t1 (bidder.Again c r) (answers goods bidders last frame (bidder.Again c r)) refl refl h
judged_is goods bidders last frame t t1 bidder.Bye h = kept_is goods bidders last frame t t1 bidder.Bye (answers goods bidders last frame bidder.Bye) refl refl h

pub judged_by : (goods bidders : ℕ) (last : Option ℕ) (frame : ToHouse) (t t1 : Option LinkBytes) (reply : ToBidder) (r : Result ToBidder AgentEnd) → r ≡ judged (answers goods bidders last frame reply) reply
    → IfTold t t1 (Converses frame (heard.Reply reply)) → IsExchange goods bidders last frame t t1 r
judged_by goods bidders last frame t t1 reply r e h = subst (λ (x : Result ToBidder AgentEnd). IsExchange goods bidders last frame t t1 x) (sym e) (judged_is goods bidders last frame t t1 reply h)
