-- Journals that hold legal histories are read as these, and no clock's is refused.
use Rattle.std.proofs.Common.{◌≡◌, ◌∙◌, ◌<◌, ◌≤◌, ◌+◌, ℕ, zero, suc, List, [], ◌∷◌, length, map, Option, Some, None, Ok, Err, arith, inl, inr, refl, sym, ap, subst}
use Rattle.std.specs.Prelude.{◌⊎◌, Bool, IsTrue, MatchOption, find}
use Rattle.std.proofs.lemmas.Bool.{cases_lt}
use Rattle.std.specs.List.{AllByRecursion, range_with_len}
use Rattle.house_io.specs.Shelves.{NamedFile, IfTells}
use Rattle.lot_base.specs.declared.auction_terms.Terms.{Terms}
use Rattle.clock.specs.Reports.{ClockHistory}
use Rattle.settlement.specs.Clocks.{has_no_choice, is_halted, is_running}
use Rattle.settlement.specs.Settling.{IsOutcomeOf, OfFirst}
use Rattle.settlement.specs.declared.outcome.Settlement.{Settlement}
use Rattle.settlement.specs.declared.outcome.Settlement.TheVariants as settlement
use Rattle.auction_file.specs.AuctionFile.{Listing, auction_of}
use Rattle.recovery.specs.Journaled.{owner_of}
use Rattle.clock_book.specs.Opening.{IsOpening}
use Rattle.clock_book.specs.declared.faults.OpenFault.{OpenFault}
use Rattle.house_run.specs.Ends.{AreGoodJournals}
use Rattle.house_run.specs.Journals.{AreFromJournals, AreHistories, IsAuctionOn, IsBadJournal, IsFromJournal, IsTermsOf}
use Rattle.house_run.specs.Needs.{journal_name}
use Rattle.house_run.specs.Outcomes.{HaveClosed, SettlesAs}
use Rattle.house_run.specs.Seen.{ShelfSeen, IsAuctionAt, IsRead, auction_limit, content}
use Rattle.clock_book.proofs.OneAnswer.{one-answer}
use Rattle.command_line.proofs.Once.{terms-same}

-- what was read of a file that is told is the file
pub read-told : (shelf : ShelfSeen) (files : List NamedFile) (name : List ℕ) (limit : ℕ) (read : List ℕ) → IsRead shelf name limit read → shelf.files ≡ Some files → read ≡ content files name
read-told shelf files name limit read is told = let P : Option (List NamedFile) → Type 0 = λ o. IfTells o (λ fs. read ≡ content fs name) in subst P told is.whole

pub says-told : (shelf : ShelfSeen) (files : List NamedFile) (auction : List ℕ) (listing : Listing) → shelf.files ≡ Some files → IsAuctionAt shelf auction listing → auction_of (content files auction) ≡ Ok listing
says-told shelf files auction listing told is = ap auction_of (sym (read-told shelf files auction auction_limit is.read is.is_read told)) ∙ is.says

-- the histories of the same journals are the same

same-history : (files : List NamedFile) (terms : Terms) (digest journals : List ℕ) (number : ℕ) (c d : ClockHistory) → c.number ≡ number → d.number ≡ number → IsFromJournal (Some files) terms digest journals c → IsFromJournal (Some files) terms digest journals d → c ≡ d
same-history files terms digest journals number c d ce de is it =
    let P : ClockHistory → ℕ → Type 0 = λ k n. IsOpening (owner_of terms n digest) (content files (journal_name journals n)) (Ok k) in
    let x : P c number = subst (P c) ce is.in_file in
    let y : P d number = subst (P d) de it.in_file in
    let e : Ok c ≡ Ok d = one-answer (owner_of terms number digest) (content files (journal_name journals number)) (Ok c) (Ok d) x y in
    cc

same-lists : (n a : ℕ) (files : List NamedFile) (terms : Terms) (digest journals : List ℕ) (cs ds : List ClockHistory) → map (λ (c : ClockHistory). c.number) cs ≡ range_with_len a n → map (λ (c : ClockHistory). c.number) ds ≡ range_with_len a n
    → AllByRecursion (IsFromJournal (Some files) terms digest journals) cs → AllByRecursion (IsFromJournal (Some files) terms digest journals) ds → cs ≡ ds
same-lists zero a files terms digest journals [] [] ce de all each = refl
same-lists zero a files terms digest journals [] (d ∷ ds) ce de all each = absurd (let no : ⊥ = cc in no)
same-lists zero a files terms digest journals (c ∷ cs) ds ce de all each = absurd (let no : ⊥ = cc in no)
same-lists (suc n) a files terms digest journals [] ds ce de all each = absurd (let no : ⊥ = cc in no)
same-lists (suc n) a files terms digest journals (c ∷ cs) [] ce de all each = absurd (let no : ⊥ = cc in no)
same-lists (suc n) a files terms digest journals (c ∷ cs) (d ∷ ds) ce de all each =
    let x : c.number ≡ a = cc in
    let y : d.number ≡ a = cc in
    let xs : map (λ (k : ClockHistory). k.number) cs ≡ range_with_len (a + 1) n = cc in
    let ys : map (λ (k : ClockHistory). k.number) ds ≡ range_with_len (a + 1) n = cc in
    let head : c ≡ d = same-history files terms digest journals a c d x y all.0 each.0 in
    let tail : cs ≡ ds = same-lists n (a + 1) files terms digest journals cs ds xs ys all.1 each.1 in
    λ i. head i ∷ tail i

-- terms of the same listing are the same
pub listed-once : (one other : Listing) (t u : Terms) → one ≡ other → IsTermsOf one t → IsTermsOf other u → t ≡ u
listed-once one other t u e is it =
    terms-same t u (is.goods_are ∙ ap (λ (l : Listing). l.supply) e ∙ sym it.goods_are) (is.bidders_are ∙ ap (λ (l : Listing). length l.bidder_names) e ∙ sym it.bidders_are)
    (is.ceiling_is ∙ ap (λ (l : Listing). l.ceiling) e ∙ sym it.ceiling_is) (is.version_is ∙ ap (λ (l : Listing). l.version) e ∙ sym it.version_is) (is.opening_is ∙ ap (λ (l : Listing). l.opening) e ∙ sym it.opening_is)

-- what the auction that was read has in common with the good one
pub record IsSameAuction (one other : Terms) (digest found : List ℕ) : Type 0 where
  pub terms_same : one ≡ other
  pub digest_same : digest ≡ found

same-auction : (settles : Bool) (shelf : ShelfSeen) (files : List NamedFile) (auction journals : List ℕ) (terms : Terms) (digest : List ℕ) → shelf.files ≡ Some files → IsAuctionOn shelf auction terms digest → (good : AreGoodJournals settles files auction journals)
    → IsSameAuction terms good.terms digest good.listing.digest
same-auction settles shelf files auction journals terms digest told on good =
    let e : Ok on.listing ≡ Ok good.listing = sym (says-told shelf files auction on.listing told on.auction_is) ∙ good.says in
    let l : on.listing ≡ good.listing = cc in
    record { terms_same = listed-once on.listing good.listing terms good.terms l on.terms_are good.terms_are; digest_same = on.digest_is ∙ ap (λ (k : Listing). k.digest) l }

pub same-histories : (settles : Bool) (shelf : ShelfSeen) (files : List NamedFile) (auction journals : List ℕ) (terms : Terms) (cs : List ClockHistory) → shelf.files ≡ Some files → AreHistories shelf auction journals terms cs
    → (good : AreGoodJournals settles files auction journals) → cs ≡ good.histories
same-histories settles shelf files auction journals terms cs told are good =
    let same = same-auction settles shelf files auction journals terms are.digest told are.on good in
    let P : Option (List NamedFile) → Terms → List ℕ → Type 0 = λ o t d. AreFromJournals o t d journals (t.bidders + 1) cs in
    let moved : P (Some files) good.terms good.listing.digest =
    subst (P (Some files) good.terms) same.digest_same (subst (λ t. P (Some files) t are.digest) same.terms_same (subst (λ o. P o terms are.digest) told are.from_journals)) in
    same-lists (good.terms.bidders + 1) 0 files good.terms good.listing.digest journals cs good.histories moved.numbers good.from_journals.numbers moved.each good.from_journals.each

-- a settlement other than an outcome of clocks that have all closed

not-first : (test : ClockHistory → Bool) (cs : List ClockHistory) (P : ClockHistory → Type 0) → find test cs ≡ None → OfFirst test cs P → ⊥
not-first test cs P none first = let Q : Option ClockHistory → Type 0 = λ o. MatchOption o ⊥ P in subst Q none first

unfoldable pub IsOther : Settlement → Type 0
IsOther (settlement.Settled outcome) = ⊥
IsOther (settlement.Open clock round missing) = Unit {0}
IsOther (settlement.Halted clock good) = Unit {0}
IsOther (settlement.NoAward clock) = Unit {0}

closed-settle : (s : Settlement) (cs : List ClockHistory) → IsOutcomeOf cs s → HaveClosed cs → IsOther s → ⊥
unfolding IsOther
closed-settle (settlement.Settled outcome) cs is closed other = other
closed-settle (settlement.Open clock round missing) cs is closed other = not-first is_running cs _ closed.none_running is
closed-settle (settlement.Halted clock good) cs is closed other = not-first is_halted cs _ closed.none_halted is.1
closed-settle (settlement.NoAward clock) cs is closed other = not-first has_no_choice cs _ closed.none_without_choice is.2

pub no-other : (s : Settlement) (settles : Bool) (shelf : ShelfSeen) (files : List NamedFile) (auction journals : List ℕ) → IsOther s → IsTrue settles → shelf.files ≡ Some files → SettlesAs shelf auction journals s → AreGoodJournals settles files auction journals → ⊥
no-other s settles shelf files auction journals other does told is good =
    let same = same-histories settles shelf files auction journals is.terms is.histories told is.are good in
    let P : List ClockHistory → Type 0 = λ cs. IsOutcomeOf cs s in
    closed-settle s good.histories (subst P same is.settlement.outcome) (good.closed does) other

pub other-open : (clock round missing : ℕ) → IsOther (settlement.Open clock round missing)
unfolding IsOther
other-open clock round missing = tt

pub other-halted : (clock good : ℕ) → IsOther (settlement.Halted clock good)
unfolding IsOther
other-halted clock good = tt

pub other-no-award : (clock : ℕ) → IsOther (settlement.NoAward clock)
unfolding IsOther
other-no-award clock = tt

-- a good journal is not refused

pub record HistoryAt (P : ClockHistory → Type 0) (clock : ℕ) : Type 0 where
  pub history : ClockHistory
  pub number : history.number ≡ clock
  pub holds : P history

history-at : (n a clock : ℕ) (P : ClockHistory → Type 0) (cs : List ClockHistory) → map (λ (c : ClockHistory). c.number) cs ≡ range_with_len a n → AllByRecursion P cs → a ≤ clock → clock < a + n → HistoryAt P clock
history-at zero a clock P cs are all low high = absurd (omega arith)
history-at (suc n) a clock P [] are all low high = absurd (let no : ⊥ = cc in no)
history-at (suc n) a clock P (c ∷ cs) are all low high =
    let here : c.number ≡ a = cc in
    let rest : map (λ (k : ClockHistory). k.number) cs ≡ range_with_len (a + 1) n = cc in
    of here all.0 (λ more. history-at n (a + 1) clock P cs rest all.1 (omega arith) (omega arith)) (cases_lt a clock)
  where
    of : c.number ≡ a → P c → (a < clock → HistoryAt P clock) → (a < clock) ⊎ (clock ≤ a) → HistoryAt P clock
    of here holds later (inl more) = later more
    of here holds later (inr same) = record { history = c; number = here ∙ (let e : a ≡ clock = omega arith in e); holds = holds }

pub not-bad : (settles : Bool) (shelf : ShelfSeen) (files : List NamedFile) (auction journals : List ℕ) (bidder : Option ℕ) (clock : ℕ) (fault : OpenFault) → shelf.files ≡ Some files → IsBadJournal auction journals bidder clock fault shelf → AreGoodJournals settles files auction journals → ⊥
not-bad settles shelf files auction journals bidder clock fault told bad good =
    let same = same-auction settles shelf files auction journals bad.terms bad.digest told bad.on good in
    let few : clock ≤ good.terms.bidders = subst (λ (t : Terms). clock ≤ t.bidders) same.terms_same bad.clock_is in
    let here = history-at (good.terms.bidders + 1) 0 clock (IsFromJournal (Some files) good.terms good.listing.digest journals) good.histories good.from_journals.numbers good.from_journals.each (omega arith) (omega arith) in
    let P : ℕ → Type 0 = λ n. IsOpening (owner_of good.terms n good.listing.digest) (content files (journal_name journals n)) (Ok here.history) in
    let Q : Option (List NamedFile) → Terms → List ℕ → Type 0 = λ o t d. IfTells o (λ fs. IsOpening (owner_of t clock d) (content fs (journal_name journals clock)) (Err fault)) in
    let it : Q (Some files) good.terms good.listing.digest =
    subst (Q (Some files) good.terms) same.digest_same (subst (λ t. Q (Some files) t bad.digest) same.terms_same (subst (λ o. Q o bad.terms bad.digest) told bad.first.refused.in_file)) in
    let e : Ok here.history ≡ Err fault = one-answer (owner_of good.terms clock good.listing.digest) (content files (journal_name journals clock)) (Ok here.history) (Err fault) (subst P here.number here.holds.in_file) it in
    cc
