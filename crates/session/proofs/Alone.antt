-- A session goes on by its frames and the digests alone.
use Rattle.std.proofs.Common.{◌≡◌, ℕ, ◌-◌, Bool, true, false, ◌&&◌, List, [], ◌∷◌, length, Option, Some, None, refl, sym, ◌∙◌, ap, cond}
use Rattle.std.specs.Prelude.{nat_le, bytes_eq, slice_index_or}
use Rattle.sha2.specs.Sha256.{sha256}
use Rattle.auction_file.specs.declared.listing.Auction.{Auction}
use Rattle.report_wire.specs.declared.messages.ToHouse.{ToHouse}
use Rattle.report_wire.specs.declared.messages.ToHouse.TheVariants as house
use Rattle.session.specs.Table.{knows, goes_on, bidder_after}
use Rattle.session.specs.Turns.{goes_on_after, bidder_behind}

module _ (a b : Auction) (e : a.token_digests ≡ b.token_digests) where
  known : (who : ℕ) (token : List ℕ) → knows a who token ≡ knows b who token
  known who token =
      let n : a.terms.bidders ≡ b.terms.bidders = sym a.known_tokens ∙ ap length e ∙ b.known_tokens in
      λ i. (nat_le 1 who && nat_le who (n i)) && bytes_eq (sha256 token) (slice_index_or (e i) (who - 1) [])

  on : (who : Option ℕ) (frame : ToHouse) → goes_on a who frame ≡ goes_on b who frame
  on None (house.Hello claimed token) = known claimed token
  on (Some w) (house.Hello claimed token) = refl
  on None (house.Look clock) = refl
  on (Some w) (house.Look clock) = refl
  on None (house.Report clock round demand) = refl
  on (Some w) (house.Report clock round demand) = refl
  on None house.Quit = refl
  on (Some w) house.Quit = refl

  after : (who : Option ℕ) (frame : ToHouse) → bidder_after a who frame ≡ bidder_after b who frame
  after None (house.Hello claimed token) = ap (λ (k : Bool). cond k (Some claimed) None) (known claimed token)
  after (Some w) (house.Hello claimed token) = refl
  after None (house.Look clock) = refl
  after (Some w) (house.Look clock) = refl
  after None (house.Report clock round demand) = refl
  after (Some w) (house.Report clock round demand) = refl
  after None house.Quit = refl
  after (Some w) house.Quit = refl

  pub same_going : (who : Option ℕ) (frames : List ToHouse) → goes_on_after a who frames ≡ goes_on_after b who frames
  same_going who [] = refl
  same_going who (f ∷ fs) =
      let g = on who f in
      let rest = same_going (bidder_after a who f) fs ∙ ap (λ (w : Option ℕ). goes_on_after b w fs) (after who f) in
      λ i. elim (g i) [ true ↦ rest i | false ↦ false ]

  pub same_bidder : (who : Option ℕ) (frames : List ToHouse) → bidder_behind a who frames ≡ bidder_behind b who frames
  same_bidder who [] = refl
  same_bidder who (f ∷ fs) = same_bidder (bidder_after a who f) fs ∙ ap (λ (w : Option ℕ). bidder_behind b w fs) (after who f)
