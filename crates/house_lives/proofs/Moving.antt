-- From the lives before a migration over it to those after it.
use Rattle.std.proofs.Common.{◌≡◌, ◌≤◌, ◌+◌, ◌⊎◌, inl, inr, ℕ, Bool, List, [], ◌∷◌, length, get_or, Option, Some, Ok, arith, refl, sym, ◌∙◌, ap, subst}
use Rattle.std.specs.List.{AllByRecursion}
use Rattle.demand_set.specs.declared.reports.Report.{Report}
use Rattle.lot_base.specs.Demands.{IsDemand}
use Rattle.lot_base.specs.Goods.{zeros}
use Rattle.lot_base.specs.declared.auction_terms.Terms.{Terms}
use Rattle.house_io.specs.Moments.{Leaves}
use Rattle.house_io.specs.Shelves.{IfTells, IfWasTold, NamedFile, file_of, moments_at}
use Rattle.house_io.proofs.Moments.{leaves_weaker}
use Rattle.auction_file.specs.AuctionFile.{Listing}
use Rattle.auction_file.specs.Listing.{listing_of}
use Rattle.auction_file.specs.declared.listing.Auction.{Auction}
use Rattle.recovery.specs.Entries.{IsReportOf}
use Rattle.recovery.specs.Journaled.{Owner, StandsForReports, owner_of}
use Rattle.clock.specs.Judging.{IsLegal, TakesAll}
use Rattle.clock.specs.Reports.{ClockHistory, with_report}
use Rattle.clock.proofs.OnlyOnce.{only-once}
use Rattle.clock_book.specs.Opening.{StandsForHistory, history_of}
use Rattle.migration.specs.Moving.{AreAlike, IsMoved}
use Rattle.migration.proofs.Alike.{judges-alike}
use Rattle.command_line.specs.Commands.{Migrate, Settle, Standing}
use Rattle.house_run.specs.Found.{found, told_first}
use Rattle.house_run.specs.Journals.{AreFromJournals, IsFromJournal}
use Rattle.house_run.specs.MigrateCommand.{MigrateDone}
use Rattle.house_run.specs.Needs.{journal_name}
use Rattle.house_run.specs.Nets.{NetSeen}
use Rattle.house_run.specs.Seen.{Outside, SinkSeen, content}
use Rattle.house_run.proofs.Framing.{content-now}
use Rattle.house_run.proofs.GoodJournals.{listed-once, says-told}
use Rattle.house_lives.specs.Bytes.{IsShownAcknowledged}
use Rattle.house_lives.specs.Kept.{IsKept, WasThere}
use Rattle.house_lives.specs.Lives.{IsAcknowledged, Life}
use Rattle.house_lives.specs.Moved.{AreMovedLives, IsMove, KeepsMoved, Move, Place, SettlesMoved, TellsMoved, WasAcknowledged, WasSent}
use Rattle.house_lives.specs.Readings.{IsDoneRun}
use Rattle.house_lives.proofs.Demanded.{demand-of}
use Rattle.house_lives.proofs.Members.{In, contains-from, in-from}
use Rattle.house_lives.proofs.Readings.{own-terms, settle-law, standing-law, was-done}
use Rattle.house_lives.proofs.Shown.{shown-was}
use Rattle.house_lives.proofs.Standing.{Holds, IsBetween, lead-holds, one-history}
use Rattle.house_lives.proofs.Through.{AcknowledgedIn, SentIn, at-first, at-place, entry-of, life-of, through}

-- a history of alike terms is legal

takes-alike : (c : ClockHistory) (terms : Terms) (rs : List Report) → AreAlike c.terms terms → TakesAll c rs → TakesAll (record c { terms = terms }) rs
takes-alike c terms [] alike takes = tt
takes-alike c terms (r ∷ rs) alike takes = (judges-alike c terms alike r ∙ takes.0, takes-alike (with_report c r) terms rs alike takes.1)

legal-alike : (c : ClockHistory) (terms : Terms) → AreAlike c.terms terms → IsLegal c → IsLegal (record c { terms = terms })
legal-alike c terms alike legal = record {
  number = subst (λ n. c.number ≤ n) (sym alike.bidders) legal.number;
  demands = subst (λ goods. AllByRecursion (λ (r : Report). IsDemand goods r.demand) c.reports) (sym alike.goods) legal.demands;
  takes = takes-alike (record c { reports = [] }) terms c.reports alike legal.takes;
}

module _ (old new : Place) (m : Move) (is : IsMove old new m) where
  abbrev value : Auction
  value = old.value

  abbrev later : Auction
  later = new.value

  -- what the migration read
  record WasRead : Type 0 where
    histories : List ClockHistory
    from_journals : AreFromJournals (Some m.before) value.terms value.digest old.journals (value.terms.bidders + 1) histories
    alike : AreAlike value.terms later.terms
    moved : (k : ℕ) (c : ClockHistory) → k ≤ later.terms.bidders
        → IsMoved (owner_of later.terms k later.digest) (get_or histories k c).reports (moments_at m.before (journal_name new.journals k)) (moments_at m.after (journal_name new.journals k))

  was-read : WasRead
  was-read =
      let was = was-done (Migrate old.auction old.journals new.auction new.journals) m.words m.seen m.net m.sink is.run.spelled is.run.ends in
      let done : MigrateDone old.auction old.journals new.auction new.journals m.seen.shelf was.text = was.done in
      let told : (found m.seen.shelf).files ≡ Some m.before = (λ i. told_first (is.run.told_before i) (is.run.told i)) in
      let one : Ok done.move.first ≡ Ok (listing_of value) = sym (says-told (found m.seen.shelf) m.before old.auction done.move.first told done.move.old_is) ∙ is.run.says in
      let two : Ok done.move.second ≡ Ok (listing_of later) = sym (says-told (found m.seen.shelf) m.before new.auction done.move.second told done.move.new_is) ∙ is.says in
      let first : done.move.first ≡ listing_of value = cc in
      let second : done.move.second ≡ listing_of later = cc in
      let before_are : done.move.before ≡ value.terms = listed-once done.move.first (listing_of value) done.move.before value.terms first done.move.before_are (own-terms value) in
      let terms_are : done.terms ≡ later.terms = listed-once done.move.second (listing_of later) done.terms later.terms second done.move.terms_are (own-terms later) in
      let digest_was : done.move.first.digest ≡ value.digest = ap (λ (l : Listing). l.digest) first in
      let digest_is : done.digest ≡ later.digest = done.move.digest_is ∙ ap (λ (l : Listing). l.digest) second in
      let names : later.bidder_names ≡ value.bidder_names = ap (λ (l : Listing). l.bidder_names) (sym second) ∙ done.move.same.bidder_names ∙ ap (λ (l : Listing). l.bidder_names) first in
      let goods : later.terms.goods ≡ value.terms.goods = ap (λ (l : Listing). l.supply) (sym second) ∙ done.move.same.supply ∙ ap (λ (l : Listing). l.supply) first in
      let opened : value.terms.opening ≡ zeros value.terms.goods = ap (λ (l : Listing). l.opening) (sym first) ∙ done.move.same.opens_at_zero ∙ ap (λ (l : Listing). zeros l.supply) first in
      let opens : later.terms.opening ≡ zeros later.terms.goods = ap (λ (l : Listing). l.opening) (sym second) ∙ done.move.same.goes_on_at_zero ∙ ap (λ (l : Listing). zeros l.supply) second in
      let From : Option (List NamedFile) → Terms → List ℕ → Type 0 = λ o t d. AreFromJournals o t d old.journals (t.bidders + 1) done.histories in
      let Q : Terms → List ℕ → List NamedFile → List NamedFile → Type 0 = λ t d before after. (k : ℕ) (c : ClockHistory) → k ≤ t.bidders
      → IsMoved (owner_of t k d) (get_or done.histories k c).reports (moments_at before (journal_name new.journals k)) (moments_at after (journal_name new.journals k)) in
      let told_now : IfTells (Some m.after) (λ after. IfWasTold m.seen.shelf.files_before (λ before. Q done.terms done.digest before after)) =
      subst (λ o. IfTells o (λ after. IfWasTold m.seen.shelf.files_before (λ before. Q done.terms done.digest before after))) is.run.told done.moved in
      let both : Q done.terms done.digest m.before m.after = subst (λ o. IfWasTold o (λ before. Q done.terms done.digest before m.after)) is.run.told_before told_now in
      record {
        histories = done.histories;
        from_journals =
            subst (From (Some m.before) value.terms) digest_was (subst (λ t. From (Some m.before) t done.move.first.digest) before_are (subst (λ o. From o done.move.before done.move.first.digest) told done.move.from_journals));
        alike = record {
          goods = goods;
          bidders = sym later.named_bidders ∙ ap length names ∙ value.named_bidders;
          ceiling = ap (λ (l : Listing). l.ceiling) (sym second) ∙ done.move.same.ceiling ∙ ap (λ (l : Listing). l.ceiling) first;
          opening = opens ∙ ap zeros goods ∙ sym opened;
        };
        moved = subst (λ d. Q later.terms d m.before m.after) digest_is (subst (λ t. Q t done.digest m.before m.after) terms_are both);
      }

  module _ (k : ℕ) (few : k ≤ later.terms.bidders) where
    few-before : k ≤ value.terms.bidders
    few-before = subst (λ n. k ≤ n) was-read.alike.bidders few

    abbrev first-owner : Owner
    first-owner = owner_of value.terms k value.digest

    abbrev owner : Owner
    owner = owner_of later.terms k later.digest

    -- what was kept by the journals is kept by the targets
    over : (must may : Report → Type 0) → Leaves (Holds first-owner must may) (moments_at m.before (journal_name old.journals k)).now → Leaves (Holds owner must may) (moments_at m.after (journal_name new.journals k)).now
    over must may leaves =
        let none = history_of first-owner [] in
        let c = get_or was-read.histories k none in
        let here = at-place (value.terms.bidders + 1) 0 k (IsFromJournal (Some m.before) value.terms value.digest old.journals) was-read.histories none was-read.from_journals.numbers was-read.from_journals.each (let f = few-before in omega (arith, f)) in
        let number : c.number ≡ k = here.number ∙ (let e : 0 + k ≡ k = omega arith in e) in
        let P : ℕ → Type 0 = λ n. StandsForHistory (owner_of value.terms n value.digest) c (content m.before (journal_name old.journals n)) in
        let stands : P k = subst P number here.holds.in_file in
        let read = content-now (file_of m.before (journal_name old.journals k)) in
        let between : IsBetween must may c.reports = leaves.read c (subst (StandsForHistory first-owner c) read stands) in
        let legal : IsLegal (history_of first-owner c.reports) = subst IsLegal stands.history.is stands.history.legal in
        let anew : IsLegal (history_of owner c.reports) = legal-alike (history_of first-owner c.reports) later.terms was-read.alike legal in
        let moved = was-read.moved k none few in
        leaves_weaker (StandsForReports owner c.reports) (Holds owner must may) (moments_at m.after (journal_name new.journals k)).now
        (λ file whole d is. subst (λ (e : ClockHistory). IsBetween must may e.reports) (one-history owner file (history_of owner c.reports) d (record { history = record { is = refl; legal = anew }; read = inr whole }) is) between)
        moved.whole

    -- a report that the second file's entries may hold is one that those of the first may
    entry-before : (r : Report) → IsReportOf later.terms r → IsReportOf value.terms r
    entry-before r fits = record {
      from_one = fits.from_one;
      to_last = subst (λ n. r.bidder ≤ n) was-read.alike.bidders fits.to_last;
      round = fits.round;
      fits = subst (λ goods. IsDemand goods r.demand) was-read.alike.goods fits.fits;
    }

    module _ (first : List NamedFile) (lives others : List Life) (last : List NamedFile) (are : AreMovedLives old new first lives m others last) (c : ClockHistory) (stands : StandsForHistory owner c (content last (journal_name new.journals k))) where
      abbrev must : Report → Type 0
      must = λ r. ⊥ ⊎ AcknowledgedIn value old.auction old.journals k few-before lives r

      abbrev may : Report → Type 0
      may = λ r. WasThere value old.journals first k r ⊎ SentIn value old.auction old.journals k few-before lives r

      between : IsBetween (λ r. must r ⊎ AcknowledgedIn later new.auction new.journals k few others r) (λ r. may r ⊎ SentIn later new.auction new.journals k few others r) c.reports
      between =
          let before = through value old.auction old.journals k few-before lives first m.before are.lives_are (λ r. ⊥) (WasThere value old.journals first k) (at-first value old.auction old.journals k few-before first) in
          let moved = over must may before in
          let led = lead-holds owner must may (moments_at m.after (journal_name new.journals k)) (moments_at m.next (journal_name new.journals k)) (are.leads k few) moved in
          let all = through later new.auction new.journals k few others m.next last are.others_are must may led in
          all.read c (subst (StandsForHistory owner c) (content-now (file_of last (journal_name new.journals k))) stands)

      is-kept : (r : Report) → In r c.reports → IsKept c r
      is-kept r h = (contains-from c.reports r h, demand-of c stands.history.legal r h)

      of-first : (r : Report) (l : Life) → In l lives → IsAcknowledged value old.journals l k r ⊎ IsShownAcknowledged value l k r → IsKept c r
      of-first r l at (inl ack) = is-kept r (between.all r (inl (inr (record { life = l; in_list = at; is = ack }))))
      of-first r l at (inr shown) =
          let was = shown-was value old.auction old.journals k r l (life-of value old.auction old.journals k few-before lives first m.before l are.lives_are at) shown in
          let h = between.all was.report (inl (inr (record { life = l; in_list = at; is = was.is }))) in
          subst (λ (q : Report). IsKept c q) (was.same (entry-before was.report (entry-of later new.auction new.journals k few c stands was.report h))) (is-kept was.report h)

      of-other : (r : Report) (l : Life) → In l others → IsAcknowledged later new.journals l k r ⊎ IsShownAcknowledged later l k r → IsKept c r
      of-other r l at (inl ack) = is-kept r (between.all r (inr (record { life = l; in_list = at; is = ack })))
      of-other r l at (inr shown) =
          let was = shown-was later new.auction new.journals k r l (life-of later new.auction new.journals k few others m.next last l are.others_are at) shown in
          let h = between.all was.report (inr (record { life = l; in_list = at; is = was.is })) in
          subst (λ (q : Report). IsKept c q) (was.same (entry-of later new.auction new.journals k few c stands was.report h)) (is-kept was.report h)

      kept : (r : Report) → WasAcknowledged old lives k r ⊎ WasAcknowledged new others k r → IsKept c r
      kept r (inl a) = of-first r a.life (in-from lives a.life a.in_list) a.is
      kept r (inr a) = of-other r a.life (in-from others a.life a.in_list) a.is

      sent : (r : Report) → may r ⊎ SentIn later new.auction new.journals k few others r → WasThere value old.journals first k r ⊎ (WasSent old lives k r ⊎ WasSent new others k r)
      sent r (inl (inl there)) = inl there
      sent r (inl (inr s)) = inr (inl (record { life = s.life; in_list = contains-from lives s.life s.in_list; is = s.is }))
      sent r (inr s) = inr (inr (record { life = s.life; in_list = contains-from others s.life s.in_list; is = s.is }))

      pub keeps-moved : KeepsMoved old new first lives others k c
      keeps-moved = record { kept = kept; sent = λ r has. sent r (between.only r (in-from c.reports r has)); once = λ i j r s at there e f. only-once c i j r s stands.history.legal at there f e }

pub moved-lives : (old new : Place) (first : List NamedFile) (lives : List Life) (m : Move) (others : List Life) (last : List NamedFile) (histories : List ClockHistory)
    → AreMovedLives old new first lives m others last → AreFromJournals (Some last) new.value.terms new.value.digest new.journals (new.value.terms.bidders + 1) histories
    → (k : ℕ) (c : ClockHistory) → k ≤ new.value.terms.bidders → KeepsMoved old new first lives others k (get_or histories k c)
moved-lives old new first lives m others last histories are from k c few =
    let here = at-place (new.value.terms.bidders + 1) 0 k (IsFromJournal (Some last) new.value.terms new.value.digest new.journals) histories c from.numbers from.each (omega (arith, few)) in
    let number : (get_or histories k c).number ≡ k = here.number ∙ (let e : 0 + k ≡ k = omega arith in e) in
    let P : ℕ → Type 0 = λ n. StandsForHistory (owner_of new.value.terms n new.value.digest) (get_or histories k c) (content last (journal_name new.journals n)) in
    keeps-moved old new m are.move k few first lives others last are (get_or histories k c) (subst P number here.holds.in_file)

pub moved-settle : (old new : Place) (json : Bool) (first : List NamedFile) (lives : List Life) (m : Move) (others : List Life) (last after : List NamedFile) (words : List (List ℕ)) (seen : Outside) (net : NetSeen) (sink : SinkSeen)
    → AreMovedLives old new first lives m others last → IsDoneRun (Settle new.auction new.journals json) new.value new.auction last after words seen net sink → SettlesMoved old new json first lives others last sink
moved-settle old new json first lives m others last after words seen net sink are is =
    let settles = settle-law new.value new.auction new.journals json last after words seen net sink is in
    record { settles = settles; keeps = λ k c few. moved-lives old new first lives m others last settles.histories are settles.from_journals k c few }

pub moved-standing : (old new : Place) (first : List NamedFile) (lives : List Life) (m : Move) (others : List Life) (last after : List NamedFile) (words : List (List ℕ)) (seen : Outside) (net : NetSeen) (sink : SinkSeen)
    → AreMovedLives old new first lives m others last → IsDoneRun (Standing new.auction new.journals) new.value new.auction last after words seen net sink → TellsMoved old new first lives others last sink
moved-standing old new first lives m others last after words seen net sink are is =
    let tells = standing-law new.value new.auction new.journals last after words seen net sink is in
    record { tells = tells; keeps = λ k c few. moved-lives old new first lives m others last tells.histories are tells.from_journals k c few }
