-- Frames after frames of one session.
use Rattle.std.proofs.Common.{◌≡◌, ℕ, Bool, true, false, List, [], ◌∷◌, ◌++◌, Option, Some, None, refl, sym, ◌∙◌, ap, append_assoc}
use Rattle.auction_file.specs.declared.listing.Auction.{Auction}
use Rattle.report_wire.specs.declared.messages.ToHouse.{ToHouse}
use Rattle.report_wire.specs.declared.messages.ToHouse.TheVariants as house
use Rattle.session.specs.Table.{goes_on, bidder_after}
use Rattle.session.specs.Turns.{goes_on_after, bidder_behind}
use Rattle.house_serve.specs.declared.ends.SessionEnd.{SessionEnd}
use Rattle.house_serve.specs.declared.ends.SessionEnd.TheVariants as ends
use Rattle.house_serve.specs.Ends.{EndsWith, IsOneSession, end_by}
use Rattle.house_serve.specs.Pieces.{GoesBy, WritesBy}

both_go : (b x : Bool) → elim b [ true ↦ x | false ↦ false ] ≡ true → (b ≡ true) × (x ≡ true)
both_go true x e = (refl, e)
both_go false x e = absurd (let f : false ≡ true = e in cc)

go_both : (b x : Bool) → b ≡ true → x ≡ true → elim b [ true ↦ x | false ↦ false ] ≡ true
go_both true x p q = q
go_both false x p q = p

module _ (auction : Auction) where
  pub one_goes : (f : ToHouse) (w : Option ℕ) → goes_on auction w f ≡ true → goes_on_after auction w (f ∷ []) ≡ true
  one_goes f w p = go_both (goes_on auction w f) true p refl

  pub behind_on : (fs gs : List ToHouse) (w : Option ℕ) → goes_on_after auction w fs ≡ true → goes_on_after auction (bidder_behind auction w fs) gs ≡ true → goes_on_after auction w (fs ++ gs) ≡ true
  behind_on [] gs w p q = q
  behind_on (f ∷ fs) gs w p q =
      let s = both_go (goes_on auction w f) (goes_on_after auction (bidder_after auction w f) fs) p in
      go_both (goes_on auction w f) (goes_on_after auction (bidder_after auction w f) (fs ++ gs)) s.0 (behind_on fs gs (bidder_after auction w f) s.1 q)

  pub ends_on : (fs gs : List ToHouse) (w : Option ℕ) (e : SessionEnd) → goes_on_after auction w fs ≡ true → EndsWith auction (bidder_behind auction w fs) gs e → EndsWith auction w (fs ++ gs) e
  ends_on [] gs w e p q = q
  ends_on (f ∷ []) [] w e p q = absurd q
  ends_on (f ∷ []) (g ∷ gs) w e p q = ((both_go (goes_on auction w f) true p).0, q)
  ends_on (f ∷ h ∷ fs) gs w e p q =
      let s = both_go (goes_on auction w f) (goes_on_after auction (bidder_after auction w f) (h ∷ fs)) p in
      (s.0, ends_on (h ∷ fs) gs (bidder_after auction w f) e s.1 q)

  pub one_on : (fs gs : List ToHouse) (w : Option ℕ) → goes_on_after auction w fs ≡ true → IsOneSession auction (bidder_behind auction w fs) gs → IsOneSession auction w (fs ++ gs)
  one_on [] gs w p q = q
  one_on (f ∷ []) [] w p q = tt
  one_on (f ∷ []) (g ∷ gs) w p q = ((both_go (goes_on auction w f) true p).0, q)
  one_on (f ∷ h ∷ fs) gs w p q =
      let s = both_go (goes_on auction w f) (goes_on_after auction (bidder_after auction w f) (h ∷ fs)) p in
      (s.0, one_on (h ∷ fs) gs (bidder_after auction w f) s.1 q)

  pub one_of : (fs : List ToHouse) (w : Option ℕ) → goes_on_after auction w fs ≡ true → IsOneSession auction w fs
  one_of [] w p = tt
  one_of (f ∷ []) w p = tt
  one_of (f ∷ h ∷ fs) w p =
      let s = both_go (goes_on auction w f) (goes_on_after auction (bidder_after auction w f) (h ∷ fs)) p in
      (s.0, one_of (h ∷ fs) (bidder_after auction w f) s.1)

  pub goes_join : (fs gs : List ToHouse) (w : Option ℕ) (end : Option SessionEnd) → goes_on_after auction w fs ≡ true → GoesBy auction (bidder_behind auction w fs) gs end → GoesBy auction w (fs ++ gs) end
  goes_join fs gs w None p q = behind_on fs gs w p q
  goes_join fs gs w (Some ends.Quit) p q = ends_on fs gs w ends.Quit p q
  goes_join fs gs w (Some ends.BadToken) p q = ends_on fs gs w ends.BadToken p q
  goes_join fs gs w (Some (ends.Wire fault)) p q = q
  goes_join fs gs w (Some (ends.Closed rest)) p q = q
  goes_join fs gs w (Some ends.Spent) p q = q
  goes_join fs gs w (Some ends.LinkFault) p q = one_on fs gs w p q
  goes_join fs gs w (Some ends.NoMemory) p q = one_on fs gs w p q

  pub one_ends : (f : ToHouse) (w : Option ℕ) → goes_on auction w f ≡ false → GoesBy auction w (f ∷ []) (Some (end_by f))
  one_ends (house.Hello claimed token) w p = (p, refl)
  one_ends (house.Look clock) w p = (p, refl)
  one_ends (house.Report clock round demand) w p = (p, refl)
  one_ends house.Quit w p = (p, refl)

pub end_writes : (f : ToHouse) (bytes : List ℕ) → WritesBy (Some (end_by f)) bytes bytes
end_writes (house.Hello claimed token) bytes = refl
end_writes (house.Look clock) bytes = refl
end_writes (house.Report clock round demand) bytes = refl
end_writes house.Quit bytes = refl

pub writes_join : (end : Option SessionEnd) (done bytes given : List ℕ) → WritesBy end bytes given → WritesBy end (done ++ bytes) (done ++ given)
writes_join None done bytes given h = ap (λ (l : List ℕ). done ++ l) h
writes_join (Some ends.Quit) done bytes given h = ap (λ (l : List ℕ). done ++ l) h
writes_join (Some ends.BadToken) done bytes given h = ap (λ (l : List ℕ). done ++ l) h
writes_join (Some (ends.Wire fault)) done bytes given h = h
writes_join (Some (ends.Closed rest)) done bytes given h = h
writes_join (Some ends.Spent) done bytes given h = h
writes_join (Some ends.LinkFault) done bytes given h = (h.0, ap (λ (l : List ℕ). done ++ l) h.1 ∙ sym (append_assoc done given h.0))
writes_join (Some ends.NoMemory) done bytes given h = (h.0, ap (λ (l : List ℕ). done ++ l) h.1 ∙ sym (append_assoc done given h.0))
