-- Where the files of a market are good, none of them is refused and each bidder has strong substitutes.
use Rattle.std.proofs.Common.{◌≡◌, ◌∙◌, ◌⊎◌, inl, inr, ◌<◌, ◌≤◌, ◌+◌, ℕ, zero, suc, List, length, Option, Some, None, Ok, Err, sym, ap, subst, arith}
use Rattle.std.specs.Prelude.{ℤ, IfSome}
use Rattle.std.specs.List.{AllByRecursion, range_with_len}
use Rattle.std.proofs.Math.Nat.{eq-or-lt_of_le}
use Rattle.house_io.specs.Shelves.{NamedFile}
use Rattle.lot_base.specs.Economy.{IsStrongSubstitutes, AllStrongSubstitutes}
use Rattle.lot_base.specs.declared.auction_terms.Terms.{Terms}
use Rattle.clock.specs.Reports.{all_bidders}
use Rattle.auction_file.specs.AuctionFile.{Listing, auction_of}
use Rattle.valuation.specs.ValuesFile.{values_of}
use Rattle.valuation.specs.declared.faults.ValuesFault.{ValuesFault}
use Rattle.trial.specs.Bidding.{bidders_of}
use Rattle.trial.specs.Refusals.{IsFirstWithout}
use Rattle.house_run.specs.Ends.{AreGood, AreGoodValues}
use Rattle.house_run.specs.Journals.{IsTermsOf}
use Rattle.house_run.specs.Markets.{HasTerms, IsBadValues, IsNotSubstitutesAt, market_bidders}
use Rattle.house_run.specs.Needs.{Has, Needs}
use Rattle.house_run.specs.Seen.{ShelfSeen, content, values_limit}
use Rattle.house_run.proofs.GoodJournals.{read-told, says-told}

-- what a bidder of all has
of-all : (P : ℕ → Type 0) (a n j : ℕ) → AllByRecursion P (range_with_len a n) → a ≤ j → j < a + n → P j
of-all P a zero j all low high = absurd (omega arith)
of-all P a (suc n) j all low high = by (eq-or-lt_of_le low) (λ less. of-all P (a + 1) n j all.1 (omega (arith, less)) (omega arith))
  where
    by : (a ≡ j) ⊎ (a < j) → (a < j → P j) → P j
    by (inl same) rest = subst P same all.0
    by (inr less) rest = rest less

-- nobody is first without strong substitutes where all have them
pub none-without : (terms : Terms) (u : ℕ → List ℕ → ℤ) (bidder : ℕ) (x y : List ℕ) (good : ℕ) → IsFirstWithout terms u bidder x y good → AllStrongSubstitutes terms.goods u (all_bidders terms.bidders) → ⊥
none-without terms u bidder x y good first all =
    let one = of-all (λ j. IsStrongSubstitutes terms.goods (u j)) 1 terms.bidders bidder all first.from_one (let h = first.to_last in omega arith) in
    first.broken.broken (λ more. one x y good first.broken.in_x first.broken.in_y more)

-- the terms of one auction
record AreAlike (t s : Terms) : Type 0 where
  pub goods : t.goods ≡ s.goods
  pub bidders : t.bidders ≡ s.bidders
  pub ceiling : t.ceiling ≡ s.ceiling

alike : (shelf : ShelfSeen) (files : List NamedFile) (auction : List ℕ) (t s : Terms) (listing : Listing) → shelf.files ≡ Some files → HasTerms shelf auction t → auction_of (content files auction) ≡ Ok listing → IsTermsOf listing s → AreAlike t s
alike shelf files auction t s listing told has says are =
    let e : Ok has.listing ≡ Ok listing = sym (says-told shelf files auction has.listing told has.auction_is) ∙ says in
    let l : has.listing ≡ listing = cc in
    record {
      goods = has.terms_are.goods_are ∙ ap (λ (x : Listing). x.supply) l ∙ sym are.goods_are;
      bidders = has.terms_are.bidders_are ∙ ap (λ (x : Listing). length x.bidder_names) l ∙ sym are.bidders_are;
      ceiling = has.terms_are.ceiling_is ∙ ap (λ (x : Listing). x.ceiling) l ∙ sym are.ceiling_is;
    }

pub good-values : (tried : Type 0) (shelf : ShelfSeen) (files : List NamedFile) (auction values : List ℕ) (fault : ValuesFault) → shelf.files ≡ Some files → IsBadValues shelf auction values fault → AreGoodValues tried files auction values → ⊥
good-values tried shelf files auction values fault told bad good =
    let same = alike shelf files auction bad.terms good.terms good.listing told bad.terms_are good.says good.terms_are in
    let read = read-told shelf files values values_limit bad.read bad.is_read told in
    let e : Ok good.valuations ≡ Err fault = sym good.read ∙ sym (λ i. values_of (same.goods i) (same.bidders i) (same.ceiling i) (read i)) ∙ bad.says in cc

good-substitutes : (tried : Type 0) (shelf : ShelfSeen) (files : List NamedFile) (auction values : List ℕ) (bidder : ℕ) (x y : List ℕ) (units : ℕ) → shelf.files ≡ Some files → IsNotSubstitutesAt shelf auction values bidder x y units → AreGoodValues tried files auction values → tried → ⊥
good-substitutes tried shelf files auction values bidder x y units told bad good asked =
    let t = bad.terms in
    let same = alike shelf files auction t good.terms good.listing told bad.market.terms_are good.says good.terms_are in
    let has = bad.market.values_are in
    let read = read-told shelf files values values_limit has.read has.is_read told in
    let e : Ok good.valuations ≡ Ok bad.valuations = sym good.read ∙ sym (λ i. values_of (same.goods i) (same.bidders i) (same.ceiling i) (read i)) ∙ has.says in
    let v : good.valuations ≡ bad.valuations = cc in
    let P : List ℕ → ℕ → List (List ℕ) → Type 0 = λ goods bidders vs. AllStrongSubstitutes goods (bidders_of goods vs) (all_bidders bidders) in
    let a = subst (λ goods. P goods good.terms.bidders good.valuations) (sym same.goods) (good.substitutes asked) in
    let b = subst (λ n. P t.goods n good.valuations) (sym same.bidders) a in
    none-without t (market_bidders t bad.valuations) bidder x y units bad.first (subst (P t.goods t.bidders) v b)

pub not-without : (needs : Needs) (shelf : ShelfSeen) (files : List NamedFile) (bidder : ℕ) (x y : List ℕ) (units : ℕ) → shelf.files ≡ Some files → needs.bid ≡ None
    → Has needs.auction (λ a. Has needs.values (λ v. IsNotSubstitutesAt shelf a v bidder x y units)) → AreGood needs files → ⊥
not-without needs shelf files bidder x y units told asked may good = by needs.auction needs.values may good.values
  where
    by : (a v : Option (List ℕ)) → Has a (λ a. Has v (λ v. IsNotSubstitutesAt shelf a v bidder x y units)) → IfSome a (λ a. IfSome v (λ v. AreGoodValues (needs.bid ≡ None) files a v)) → ⊥
    by None v may good = may
    by (Some a) None may good = may
    by (Some a) (Some v) may good = good-substitutes (needs.bid ≡ None) shelf files a v bidder x y units told may good asked
