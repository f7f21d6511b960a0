-- What the clause of the top call says of a life: an auction was served, or each journal was left so.
use Rattle.std.proofs.Common.{◌≡◌, ◌≤◌, ◌⊎◌, inl, inr, ℕ, List, length, Option, Some, None, Ok, sym, ◌∙◌, ap, subst}
use Rattle.std.proofs.Props.{props}
use Rattle.lot_base.specs.declared.auction_terms.Terms.{Terms}
use Rattle.house_io.specs.Shelves.{ChangesNone, IfTells, IfWasTold, NamedFile, moments_at}
use Rattle.auction_file.specs.AuctionFile.{Listing}
use Rattle.auction_file.specs.Listing.{listing_of}
use Rattle.auction_file.specs.declared.listing.Auction.{Auction}
use Rattle.recovery.specs.Journaled.{owner_of}
use Rattle.house_serve.specs.Houses.{DoorRun}
use Rattle.command_line.specs.Commands.{Command, Serve}
use Rattle.command_line.proofs.Once.{spelled-once, terms-same}
use Rattle.house_run.specs.ClockRuns.{ClockRun, LeavesJournal}
use Rattle.house_io.specs.NetsShown.{DoorShown, LinkShown, NetView}
use Rattle.house_io.specs.Told.{IfTold}
use Rattle.house_run.specs.Ends.{CommandEnds, RunEnds}
use Rattle.house_run.specs.Found.{found, told_first}
use Rattle.house_run.specs.Needs.{journal_name}
use Rattle.house_run.specs.ServeCommand.{ServeFrame, ServedThen, ServesFound, ServesNothing}
use Rattle.house_run.specs.Serving.{AuctionNotServed, AuctionServed, LeavesAll, LeavesNetAt}
use Rattle.house_run.specs.declared.ends.Ended.{Ended}
use Rattle.house_run.specs.declared.ends.Ended.TheVariants as how
use Rattle.house_run.proofs.GoodJournals.{says-told}
use Rattle.house_lives.specs.Lives.{IsLife, Life}

-- auctions of the same listing are the same

one-number : (n m : ℕ) (p q : n ≡ m) → p ≡ q
one-number n m = hlevel props

parts-same : (a b : Auction) → a.terms ≡ b.terms → a.good_names ≡ b.good_names → a.bidder_names ≡ b.bidder_names → a.token_digests ≡ b.token_digests → a.digest ≡ b.digest → a ≡ b
parts-same a b t g n k d =
    let F : Terms → List (List ℕ) → List (List ℕ) → List (List ℕ) → List ℕ → Type 0 = λ terms goods bidders tokens digest.
    (p : length goods ≡ length terms.goods) (q : length bidders ≡ terms.bidders) (r : length tokens ≡ terms.bidders) → a ≡ record {
      terms = terms;
      good_names = goods;
      bidder_names = bidders;
      token_digests = tokens;
      digest = digest;
      named_goods = p;
      named_bidders = q;
      known_tokens = r;
    } in
    let start : F a.terms a.good_names a.bidder_names a.token_digests a.digest = λ p q r i. record {
      terms = a.terms;
      good_names = a.good_names;
      bidder_names = a.bidder_names;
      token_digests = a.token_digests;
      digest = a.digest;
      named_goods = one-number (length a.good_names) (length a.terms.goods) a.named_goods p i;
      named_bidders = one-number (length a.bidder_names) a.terms.bidders a.named_bidders q i;
      known_tokens = one-number (length a.token_digests) a.terms.bidders a.known_tokens r i;
    } in
    let same : F b.terms b.good_names b.bidder_names b.token_digests b.digest =
    subst (λ z. F b.terms b.good_names b.bidder_names b.token_digests z) d
    (subst (λ z. F b.terms b.good_names b.bidder_names z a.digest) k
    (subst (λ z. F b.terms b.good_names z a.token_digests a.digest) n
    (subst (λ z. F b.terms z a.bidder_names a.token_digests a.digest) g
    (subst (λ z. F z a.good_names a.bidder_names a.token_digests a.digest) t start)))) in
    same b.named_goods b.named_bidders b.known_tokens

pub auction-same : (a b : Auction) → listing_of a ≡ listing_of b → a ≡ b
auction-same a b e =
    let names : a.bidder_names ≡ b.bidder_names = ap (λ (l : Listing). l.bidder_names) e in
    let count : a.terms.bidders ≡ b.terms.bidders = sym a.named_bidders ∙ ap length names ∙ b.named_bidders in
    parts-same a b
    (terms-same a.terms b.terms (ap (λ (l : Listing). l.supply) e) count (ap (λ (l : Listing). l.ceiling) e) (ap (λ (l : Listing). l.version) e) (ap (λ (l : Listing). l.opening) e))
    (ap (λ (l : Listing). l.good_names) e) names (ap (λ (l : Listing). l.token_digests) e) (ap (λ (l : Listing). l.digest) e)

-- what a life came to

abbrev pub LeavesEach : Auction → List ℕ → List NamedFile → List NamedFile → Type 0
LeavesEach value journals before after = (k : ℕ) → k ≤ value.terms.bidders
    → LeavesJournal (owner_of value.terms k value.digest) (moments_at before (journal_name journals k)) (moments_at after (journal_name journals k))

pub data CameTo (value : Auction) (journals : List ℕ) (l : Life) : Type 0 where
  Served : (clocks : List ClockRun) (doors : List (DoorRun DoorShown LinkShown)) → AuctionServed value journals l.serving l.seen.shelf l.net clocks doors → CameTo value journals l
  Unserved : LeavesEach value journals l.before l.after → IfTold l.net.told_before l.net.told (LeavesNetAt l.serving.address l.serving.doors) → CameTo value journals l

same-left : (value : Auction) (journals : List ℕ) (before after : List NamedFile) → Some after ≡ Some before → LeavesEach value journals before after
same-left value journals before after e k few = let same : after ≡ before = cc in inl (inl (ap (λ files. moments_at files (journal_name journals k)) same))

same-net : (address : List ℕ) (count : ℕ) (before after : Option NetView) → after ≡ before → IfTold before after (LeavesNetAt address count)
same-net address count None None e = tt
same-net address count None (Some after) e = absurd (let f : Some after ≡ None = e in (let no : ⊥ = cc in no))
same-net address count (Some before) None e = tt
same-net address count (Some before) (Some after) e = let same : after ≡ before = cc in inl same

module _ (value : Auction) (auction journals : List ℕ) (l : Life) (life : IsLife value auction journals l) where
  net-left : l.net.told ≡ l.net.told_before → IfTold l.net.told_before l.net.told (LeavesNetAt l.serving.address l.serving.doors)
  net-left same = same-net l.serving.address l.serving.doors l.net.told_before l.net.told same

  left-each : LeavesAll value journals l.seen.shelf → LeavesEach value journals l.before l.after
  left-each left =
      let Q : List NamedFile → List NamedFile → Type 0 = λ before after. LeavesEach value journals before after in
      let told : IfTells (Some l.after) (λ after. IfWasTold l.seen.shelf.files_before (λ before. Q before after)) = subst (λ o. IfTells o (λ after. IfWasTold l.seen.shelf.files_before (λ before. Q before after))) life.told left in
      subst (λ o. IfWasTold o (λ before. Q before l.after)) life.told_before told

  by-left : (end : Ended) → ServedThen value journals l.serving end l.seen.shelf l.net ⊎ AuctionNotServed value journals l.serving l.seen.shelf l.net end → CameTo value journals l
  by-left end (inl was) = Served was.clocks was.doors was.served
  by-left end (inr none) = Unserved (left-each none.left) none.net_is

  by-found : (end : Ended) → ServesFound auction journals l.serving end l.seen.shelf l.net → CameTo value journals l
  by-found end serves =
      let told : (found l.seen.shelf).files ≡ Some l.before = (λ i. told_first (life.told_before i) (life.told i)) in
      let says : Ok (listing_of serves.value) ≡ Ok (listing_of value) = sym (says-told (found l.seen.shelf) l.before auction (listing_of serves.value) told serves.auction_is) ∙ life.says in
      let same : serves.value ≡ value = auction-same serves.value value (let e : listing_of serves.value ≡ listing_of value = cc in e) in
      let Left : Auction → Type 0 = λ v. ServedThen v journals l.serving end l.seen.shelf l.net ⊎ AuctionNotServed v journals l.serving l.seen.shelf l.net end in
      by-left end (subst Left same serves.left)

  by-frame : (end : Ended) → ServeFrame auction journals l.serving end l.seen l.net → CameTo value journals l
  by-frame end frame = of frame.left
    where
      of : ServesNothing l.seen.shelf l.net ⊎ ServesFound auction journals l.serving end l.seen.shelf l.net → CameTo value journals l
      of (inl nothing) =
          let same : l.seen.shelf.files_before ≡ Some l.after = subst (λ o. ChangesNone l.seen.shelf.files_before o) life.told nothing.files_same in
          Unserved (same-left value journals l.before l.after (sym same ∙ life.told_before)) (net-left nothing.net_same.0)
      of (inr serves) = by-found end serves

  untouched-left : l.seen.shelf.files ≡ l.seen.shelf.files_before → l.net.told ≡ l.net.told_before → CameTo value journals l
  untouched-left same net = Unserved (same-left value journals l.before l.after (sym life.told ∙ same ∙ life.told_before)) (net-left net)

  by-command : CommandEnds (Serve auction journals l.serving) l.seen l.net l.sink l.answer → CameTo value journals l
  by-command (inl done) = by-frame how.Done done.frame
  by-command (inr other) = by-frame other.end other.frame

  pub came-to : CameTo value journals l
  came-to = of life.ends
    where
      of : RunEnds l.words l.seen l.net l.sink l.answer → CameTo value journals l
      of (inl usage) = untouched-left usage.untouched.files_same usage.net_untouched.0
      of (inr (inl some)) =
          let same : some.command ≡ Serve auction journals l.serving = spelled-once some.command (Serve auction journals l.serving) l.words some.spelled life.spelled in
          by-command (subst (λ (c : Command). CommandEnds c l.seen l.net l.sink l.answer) same some.ends)
      of (inr (inr short)) = untouched-left short.untouched.files_same short.net_untouched.0
