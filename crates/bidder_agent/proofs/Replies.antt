-- One piece of a reply.
use Rattle.std.proofs.Common.{◌≡◌, inl, inr, ⊎_elim, ℕ, ◌-◌, ◌<◌, ◌≤◌, List, [], ◌∷◌, ◌++◌, length, map, take, Option, Some, None, refl, sym, ◌∙◌, ap, subst, arith, append_assoc, append-nil, length-append}
use Rattle.std.specs.Prelude.{MatchOption, Ok, Err, option_map}
use Rattle.std.specs.List.{AllByRecursion}
use Rattle.house_io.specs.Told.{IfTold}
use Rattle.house_io.specs.Links.{LinkBytes, Receives}
use Rattle.house_io.specs.declared.Failed.{Failed}
use Rattle.house_io.proofs.Telling.{told-trans, told-map}
use Rattle.report_wire.specs.Frames.{Sent, IsSent, IsPartial, IsFault, Reads, spelled, stream_of}
use Rattle.report_wire.specs.Messages.{to_bidder, bidder_sent}
use Rattle.report_wire.specs.Reading.{ReaderState, needs_of, fault_of}
use Rattle.report_wire.specs.declared.frames.WireKind.{WireKind}
use Rattle.report_wire.specs.declared.frames.WireFault.{WireFault}
use Rattle.report_wire.specs.declared.messages.ToBidder.{ToBidder}
use Rattle.report_wire.proofs.Needs.{one_at_most}
use Rattle.bidder_agent.specs.Hearing.{Takes, IsHeard}
use Rattle.bidder_agent.specs.declared.hearing.Heard.TheVariants as heard

only_one : (new : List ToBidder) (reply : ToBidder) (m : Sent) → map bidder_sent (new ++ reply ∷ []) ≡ m ∷ [] → bidder_sent reply ≡ m
only_one [] reply m e = (let f : bidder_sent reply ∷ [] ≡ m ∷ [] = e in let g : bidder_sent reply ≡ m = cc in g)
only_one (x ∷ []) reply m e = absurd (let n = ap length e in omega (arith, n))
only_one (x ∷ y ∷ new) reply m e = absurd (let n = ap length e in omega (arith, n))

some_frame : (new : List ToBidder) (reply : ToBidder) → map bidder_sent (new ++ reply ∷ []) ≡ [] → ⊥
some_frame [] reply e = let n = ap length e in omega (arith, n)
some_frame (x ∷ new) reply e = let n = ap length e in omega (arith, n)

pub partial_short : (r : List ℕ) → IsPartial to_bidder r → length r < 32773
partial_short r (inl h) = omega (arith, h)
partial_short r (inr (inl h)) = let a = h.0 in omega (arith, a)
partial_short r (inr (inr h)) = let a = h.2 in let b = h.0.short in omega (arith, a, b)

pub taken_more : (t0 t1 t2 : Option LinkBytes) (r into : List ℕ) (n : ℕ) → IfTold t0 t1 (Takes r) → IfTold t1 t2 (Receives (Ok n) into) → IfTold t0 t2 (Takes (r ++ take n into))
taken_more t0 t1 t2 r into n p q =
    told-trans t0 t1 t2 (Takes r) (Receives (Ok n) into) (Takes (r ++ take n into)) p q
    (λ x y z f h. (f.0 ∙ ap (λ (l : List ℕ). r ++ l) h.0.bytes ∙ sym (append_assoc r (take n into) z.left), h.1 ∙ f.1))

pub fault_heard : (t0 t1 t2 : Option LinkBytes) (r into : List ℕ) (e : Failed) → IsPartial to_bidder r → IfTold t0 t1 (Takes r) → IfTold t1 t2 (Receives (Err e) into) → IfTold t0 t2 (IsHeard heard.LinkFault)
fault_heard t0 t1 t2 r into e partial p q =
    told-trans t0 t1 t2 (Takes r) (Receives (Err e) into) (IsHeard heard.LinkFault) p q
    (λ x y z f h. (r, (f.0 ∙ ap (λ (l : List ℕ). r ++ l) (sym h.0), h.1 ∙ f.1), partial))

pub no_memory : (t0 t2 : Option LinkBytes) (bytes : List ℕ) → IfTold t0 t2 (Takes bytes) → IfTold t0 t2 (IsHeard heard.NoMemory)
no_memory t0 t2 bytes p = told-map t0 t2 (Takes bytes) (IsHeard heard.NoMemory) p (λ x y h. (bytes, h))

some_fault : (place : ℕ) (o : Option WireKind) (f : WireFault) → option_map (λ (kind : WireKind). let g : WireFault = record { place = place; kind = kind } in g) o ≡ Some f → o ≡ Some f.kind
some_fault place None f e = absurd (let g : None ≡ Some f = e in cc)
some_fault place (Some k) f e =
    let made : WireFault = record { place = place; kind = k } in
    let h : Some made ≡ Some f = e in
    let same : made ≡ f = cc in
    ap (λ (x : WireFault). Some x.kind) same

no_fault : (place : ℕ) (o : Option WireKind) → option_map (λ (kind : WireKind). let f : WireFault = record { place = place; kind = kind } in f) o ≡ None → o ≡ None
no_fault place None e = refl
no_fault place (Some k) e = absurd (let f : Some (let g : WireFault = record { place = place; kind = k } in g) ≡ None = e in cc)

module _ (t0 t2 : Option LinkBytes) (r p : List ℕ) (frames : List ToBidder) (after : ReaderState) (taken : IfTold t0 t2 (Takes (r ++ p))) (reads : Reads to_bidder (r ++ p) (map bidder_sent frames) after.rest after.fault) where
  pub reply_heard : (new : List ToBidder) (reply : ToBidder) → IsPartial to_bidder r → length p ≤ needs_of r → frames ≡ new ++ reply ∷ [] → IfTold t0 t2 (IsHeard (heard.Reply reply))
  reply_heard new reply partial le is =
      ⊎_elim
      (λ e. absurd (some_frame new reply (ap (λ (l : List ToBidder). map bidder_sent l) (sym is) ∙ e)))
      (λ e.
      let same : bidder_sent reply ≡ e.0 = only_one new reply e.0 (ap (λ (l : List ToBidder). map bidder_sent l) (sym is) ∙ e.1) in
      let all : AllByRecursion (IsSent to_bidder) (e.0 ∷ []) = subst (AllByRecursion (IsSent to_bidder)) e.1 reads.each in
      let sent : IsSent to_bidder (bidder_sent reply) = subst (IsSent to_bidder) (sym same) all.0 in
      let bytes : r ++ p ≡ spelled (bidder_sent reply) =
      reads.whole ∙ (λ i. stream_of (e.1 i) (e.2 i)) ∙ append-nil (spelled e.0 ++ []) ∙ append-nil (spelled e.0) ∙ ap spelled (sym same) in
      told-map t0 t2 (Takes (r ++ p)) (IsHeard (heard.Reply reply)) taken (λ x y h. (sent, (h.0 ∙ ap (λ (l : List ℕ). l ++ y.left) bytes, h.1))))
      (one_at_most to_bidder r p (map bidder_sent frames) after.rest after.fault partial le reads)

  module _ (none : frames ≡ []) where
    pub kept : r ++ p ≡ after.rest
    kept = reads.whole ∙ ap (λ (l : List ToBidder). stream_of (map bidder_sent l) after.rest) none

    pub still_taken : IfTold t0 t2 (Takes after.rest)
    still_taken = subst (λ (l : List ℕ). IfTold t0 t2 (Takes l)) kept taken

    pub bad_heard : (f : WireFault) → fault_of after ≡ Some f → IfTold t0 t2 (IsHeard heard.Bad)
    bad_heard f is =
        let at = some_fault after.place after.fault f is in
        let faulty : IsFault to_bidder f.kind after.rest = subst (λ (o : Option WireKind). MatchOption o (IsPartial to_bidder after.rest) (λ k. IsFault to_bidder k after.rest)) at reads.ends in
        told-map t0 t2 (Takes after.rest) (IsHeard heard.Bad) still_taken (λ x y h. (after.rest, h, inr (f.kind, faulty)))

    pub whole_still : fault_of after ≡ None → after.fault ≡ None
    whole_still e = no_fault after.place after.fault e

pub smaller : (r p after : List ℕ) → IsPartial to_bidder r → 0 < length p → r ++ p ≡ after → 32773 - length after < 32773 - length r
smaller r p after partial some e = let a = partial_short r partial in let b = length-append r p in let n = ap length e in omega (arith, a, b, n, some)

pub nothing : (items new : List ToBidder) (n : ℕ) → items ≡ new ++ [] → new ≡ take (n - 1) items → n ≡ 0 → items ≡ []
nothing items new n a b e = a ∙ append-nil new ∙ b ∙ ap (λ (k : ℕ). take (k - 1) items) e
