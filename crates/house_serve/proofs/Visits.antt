-- One session more at a door.
use Rattle.std.proofs.Common.{◌≡◌, ◌⊎◌, inl, inr, ℕ, zero, suc, ◌<◌, List, [], ◌∷◌, ◌++◌, length, map, take, Option, refl, sym, ◌∙◌, ap, subst, arith, append_assoc, append-nil, length-append}
use Rattle.std.specs.Prelude.{Ok}
use Rattle.std.proofs.lemmas.Bool.{cases_lt}
use Rattle.std.proofs.lemmas.List.{length-map, map-append, take-append-le}
use Rattle.house_io.specs.Told.{IfTold}
use Rattle.house_io.specs.Links.{LinkBytes}
use Rattle.house_io.specs.Doors.{DoorLinks, IsEmptyLink, Accepts, HangsUp}
use Rattle.house_io.proofs.Telling.{told-trans, told-same}
use Rattle.auction_file.specs.declared.listing.Auction.{Auction}
use Rattle.session.specs.declared.halls.Asked.{Asked}
use Rattle.session.specs.Turns.{Turn}
use Rattle.house_serve.specs.declared.ends.SessionEnd.{SessionEnd}
use Rattle.house_serve.specs.Pieces.{HasEndCause}
use Rattle.house_serve.specs.Serving.{IsSession}
use Rattle.house_serve.specs.Doors.{Visit, IsVisit, AreVisits, Come, DoorTells, IsDoor}

none-placed : {A : Type 0} (n : ℕ) → take {A = A} n [] ≡ []
none-placed zero = refl
none-placed (suc n) = refl

-- one more has a place where fewer than these have
one-placed : {A : Type 0} (n : ℕ) (xs : List A) (y : A) → length xs < n → take n (xs ++ y ∷ []) ≡ take n xs ++ y ∷ []
one-placed zero xs y room = absurd (omega (arith, room))
one-placed (suc n) [] y room = ap (λ l. y ∷ l) (none-placed n)
one-placed (suc n) (x ∷ xs) y room = ap (λ l. x ∷ l) (one-placed n xs y (omega (arith, room)))

module _ {M L : Type 0} (allows : M → Asked → M → Type 0) (told : L → Option LinkBytes) (faults : L → ℕ) (auction : Auction) where
  visits_on : (vs : List (Visit M L)) (v : Visit M L) (m m1 : M) → AreVisits allows told faults auction m vs m1 → IsVisit allows told faults auction m1 v → AreVisits allows told faults auction m (vs ++ v ∷ []) v.now
  visits_on [] v m m1 p q = (subst (λ (x : M). IsVisit allows told faults auction x v) p q, refl)
  visits_on (u ∷ vs) v m m1 p q = (p.0, visits_on vs v u.now m1 p.1 q)

  come_on : (cs : List L) (c : L) (before mid after : List L) → Come allows told faults auction cs before mid → ((mid ≡ c ∷ after) ⊎ ((mid ≡ []) × (after ≡ []) × IsEmptyLink (told c))) → Come allows told faults auction (cs ++ c ∷ []) before after
  come_on [] c [] mid after p (inl e) = absurd (let f : [] ≡ c ∷ after = sym p ∙ e in cc)
  come_on [] c [] mid after p (inr e) = (e.2, e.1)
  come_on [] c (l ∷ ls) mid after p (inl e) = let f : l ∷ ls ≡ c ∷ after = sym p ∙ e in ((let g : l ≡ c = cc in g), (let h : after ≡ ls = cc in h))
  come_on [] c (l ∷ ls) mid after p (inr e) = absurd (let f : l ∷ ls ≡ [] = sym p ∙ e.0 in cc)
  come_on (d ∷ cs) c [] mid after p e = (p.0, come_on cs c [] mid after p.1 e)
  come_on (d ∷ cs) c (l ∷ ls) mid after p e = (p.0, come_on cs c ls mid after p.1 e)

  tells_on : (vs : List (Visit M L)) (v : Visit M L) (x y z u : DoorLinks L) → DoorTells allows told faults auction vs x y → Accepts told (Ok v.came) y z → HangsUp v.went z u → DoorTells allows told faults auction (vs ++ v ∷ []) x u
  tells_on vs v x y z u d a h =
      let size = length-append vs (v ∷ []) in
      let f0 = d.free in
      let f1 = a.1 in
      let f2 = h.free in
      let links : List L = map (λ (w : Visit M L). w.went) vs in
      let count : length links ≡ length vs = length-map vs (λ (w : Visit M L). w.went) in
      let kept : z.hung_up ≡ x.hung_up ++ take x.free links = a.0 ∙ d.hung_up in
      let hung : u.hung_up ≡ x.hung_up ++ take x.free (links ++ v.went ∷ []) = elim (cases_lt (length links) x.free) [
        | inl room ↦
            h.placed (omega (arith, f0, f1, count, room)) ∙ ap (λ (l : List L). l ++ v.went ∷ []) kept ∙ append_assoc x.hung_up (take x.free links) (v.went ∷ [])
            ∙ ap (λ (l : List L). x.hung_up ++ l) (sym (one-placed x.free links v.went room))
        | inr full ↦ h.dropped (omega (arith, f0, f1, count, full)) ∙ kept ∙ ap (λ (l : List L). x.hung_up ++ l) (sym (take-append-le x.free links (v.went ∷ []) full))
      ] in
      record {
        come = subst (λ (l : List L). Come allows told faults auction l x.to_come u.to_come) (sym (map-append (λ (w : Visit M L). w.came) vs (v ∷ [])))
            (subst (λ (l : List L). Come allows told faults auction (map (λ (w : Visit M L). w.came) vs ++ v.came ∷ []) x.to_come l) (sym h.to_come) (come_on (map (λ (w : Visit M L). w.came) vs) v.came x.to_come y.to_come z.to_come d.come a.2));
        free = omega (arith, f0, f1, f2, size);
        hung_up = hung ∙ ap (λ (l : List L). x.hung_up ++ take x.free l) (sym (map-append (λ (w : Visit M L). w.went) vs (v ∷ [])));
      }

  pub door_begun : (m : M) (t : Option (DoorLinks L)) (ends : List SessionEnd) → length ends ≡ 0 → IsDoor allows told faults auction m m t t ends
  door_begun m t [] e = record {
    visits = [];
    ends_are = refl;
    held = refl;
    links = told-same t (DoorTells allows told faults auction []) (λ x. record { come = refl; free = omega arith; hung_up = sym (ap (λ (l : List L). x.hung_up ++ l) (none-placed x.free) ∙ append-nil x.hung_up) });
  }
  door_begun m t (x ∷ ends) e = absurd (omega arith)

  pub door_on : (m m1 m2 : M) (t t1 t2 t3 : Option (DoorLinks L)) (ends ends_after : List SessionEnd) (came went : L) (turns : List (Turn M)) (end : SessionEnd) → IsDoor allows told faults auction m m1 t t1 ends
      → IfTold t1 t2 (Accepts told (Ok came)) → IsSession allows auction turns m1 m2 (told came) (told went) end → HasEndCause (faults came) (faults went) end → faults came ≡ 0 → IfTold t2 t3 (HangsUp went)
      → ends_after ≡ ends ++ end ∷ [] → IsDoor allows told faults auction m m2 t t3 ends_after
  door_on m m1 m2 t t1 t2 t3 ends ends_after came went turns end d accepted session cause fresh hung pushed =
      let v : Visit M L = record { came = came; went = went; turns = turns; end = end; now = m2 } in
      record {
        visits = d.visits ++ v ∷ [];
        ends_are = pushed ∙ ap (λ (l : List SessionEnd). l ++ end ∷ []) d.ends_are ∙ sym (map-append (λ (w : Visit M L). w.end) d.visits (v ∷ []));
        held = visits_on d.visits v m m1 d.held (record { session = session; cause = cause; fresh = fresh });
        links = told-trans t t2 t3 (λ x z. (y : DoorLinks L) × DoorTells allows told faults auction d.visits x y × Accepts told (Ok came) y z) (HangsUp went) (DoorTells allows told faults auction (d.visits ++ v ∷ []))
            (told-trans t t1 t2 (DoorTells allows told faults auction d.visits) (Accepts told (Ok came)) (λ x z. (y : DoorLinks L) × DoorTells allows told faults auction d.visits x y × Accepts told (Ok came) y z) d.links accepted (λ x y z p q. (y, p, q)))
            hung
            (λ x z u p q. tells_on d.visits v x p.0 z u p.1 p.2 q);
      }
