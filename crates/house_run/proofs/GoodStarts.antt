-- An auction that has the bidder that is needed, and whose clocks can start at the prices that are needed.
use Rattle.std.proofs.Common.{◌≡◌, ◌∙◌, ◌<◌, ◌≤◌, ◌⊎◌, ℕ, zero, suc, List, [], ◌∷◌, length, Some, Ok, arith, inl, inr, sym, ap, subst}
use Rattle.std.specs.List.{AllByRecursion, AllZip}
use Rattle.house_io.specs.Shelves.{NamedFile}
use Rattle.lot_base.specs.Goods.{at}
use Rattle.lot_base.specs.declared.auction_terms.Terms.{Terms}
use Rattle.auction_file.specs.AuctionFile.{Listing}
use Rattle.two_way.specs.Histories.{IsStart}
use Rattle.house_run.specs.Ends.{CanStart, HasBidder}
use Rattle.house_run.specs.Markets.{HasTerms, IsNoBidder, IsOtherCount, StartsOutside}
use Rattle.house_run.specs.Seen.{ShelfSeen}
use Rattle.house_run.proofs.GoodJournals.{listed-once, says-told}

pub some-bidder : (shelf : ShelfSeen) (files : List NamedFile) (auction : List ℕ) (bidder needed : ℕ) → shelf.files ≡ Some files → IsNoBidder shelf auction bidder needed → HasBidder files auction needed → ⊥
some-bidder shelf files auction bidder needed told none has =
    let e : Ok none.listing ≡ Ok has.listing = sym (says-told shelf files auction none.listing told none.auction_is) ∙ has.says in
    let l : none.listing ≡ has.listing = cc in
    let n : length none.listing.bidder_names ≡ length has.listing.bidder_names = ap (λ (x : Listing). length x.bidder_names) l in
    let above = none.above in
    let is = none.bidder_is in
    let few = has.few in
    omega (arith, n, above, is, few)

same-terms : (shelf : ShelfSeen) (files : List NamedFile) (auction start : List ℕ) (terms : Terms) → shelf.files ≡ Some files → HasTerms shelf auction terms → (can : CanStart files auction start) → terms ≡ can.terms
same-terms shelf files auction start terms told are can =
    let e : Ok are.listing ≡ Ok can.listing = sym (says-told shelf files auction are.listing told are.auction_is) ∙ can.says in
    let l : are.listing ≡ can.listing = cc in
    listed-once are.listing can.listing terms can.terms l are.terms_are can.terms_are

starts : (shelf : ShelfSeen) (files : List NamedFile) (auction start : List ℕ) (terms : Terms) → shelf.files ≡ Some files → HasTerms shelf auction terms → CanStart files auction start → IsStart terms start
starts shelf files auction start terms told are can = subst (λ t. IsStart t start) (sym (same-terms shelf files auction start terms told are can)) can.starts

pub zip-long : {A B : Type 0} (R : A → B → Type 0) (xs : List A) (ys : List B) → AllZip R xs ys → length xs ≡ length ys
zip-long R [] [] all = omega arith
zip-long R [] (y ∷ ys) all = absurd all
zip-long R (x ∷ xs) [] all = absurd all
zip-long R (x ∷ xs) (y ∷ ys) all = let e = zip-long R xs ys all.1 in omega (arith, e)

pub right-count : (shelf : ShelfSeen) (files : List NamedFile) (auction : List ℕ) (found : ℕ) (start : List ℕ) → shelf.files ≡ Some files → IsOtherCount shelf auction found start → CanStart files auction start → ⊥
right-count shelf files auction found start told bad can =
    let s = starts shelf files auction start bad.terms told bad.terms_are can in
    let e = zip-long (λ x y. x ≤ y) bad.terms.opening start s.above in
    let g = bad.terms.opens.goods in
    bad.other (omega (arith, e, g))

-- no good is outside
inside : (ceiling : ℕ) (opening start : List ℕ) (good : ℕ) → AllZip (λ x y. x ≤ y) opening start → AllByRecursion (λ price. price < ceiling) start → good < length start
    → (at start good < at opening good) ⊎ (ceiling ≤ at start good) → ⊥
inside ceiling [] [] good above below within out = absurd (omega arith)
inside ceiling [] (s ∷ ss) good above below within out = absurd above
inside ceiling (o ∷ os) [] good above below within out = absurd above
inside ceiling (o ∷ os) (s ∷ ss) zero above below within (inl less) = let a = above.0 in omega (arith, a, less)
inside ceiling (o ∷ os) (s ∷ ss) zero above below within (inr more) = let b = below.0 in omega (arith, b, more)
inside ceiling (o ∷ os) (s ∷ ss) (suc good) above below within out = inside ceiling os ss good above.1 below.1 (omega arith) out

pub none-outside : (shelf : ShelfSeen) (files : List NamedFile) (auction : List ℕ) (good value : ℕ) (start : List ℕ) → shelf.files ≡ Some files → StartsOutside shelf auction good value start → CanStart files auction start → ⊥
none-outside shelf files auction good value start told bad can =
    let s = starts shelf files auction start bad.terms told bad.terms_are can in
    inside bad.terms.ceiling bad.terms.opening start good s.above s.below (let c = bad.count in let w = bad.first.is_good in omega (arith, c, w)) bad.first.outside
