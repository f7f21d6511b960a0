-- Targets that are unformed or stand for fronts of the histories that are moved to them refuse none of it.
use Rattle.std.proofs.Common.{◌≡◌, ◌∙◌, ◌<◌, ◌≤◌, ◌+◌, ◌-◌, ℕ, zero, suc, Bool, List, [], ◌∷◌, length, take, get_or, slice_get, Option, Some, None, Ok, Err, arith, refl, sym, ap, subst}
use Rattle.std.specs.List.{AllByRecursion}
use Rattle.std.proofs.lemmas.List.{length-take-le}
use Rattle.std.proofs.lemmas.List.Elements.{All-from_recursion}
use Rattle.house_io.specs.Shelves.{NamedFile, IfTells}
use Rattle.lot_base.specs.Demands.{IsDemand}
use Rattle.lot_base.specs.declared.auction_terms.Terms.{Terms}
use Rattle.demand_set.specs.declared.reports.Report.{Report}
use Rattle.auction_file.specs.AuctionFile.{Listing, auction_of}
use Rattle.clock.specs.Reports.{ClockHistory, with_report}
use Rattle.clock.specs.Judging.{IsLegal, TakesAll}
use Rattle.recovery.specs.Journaled.{Owner, owner_of}
use Rattle.clock_book.specs.Opening.{IsOpening, StandsForHistory, history_of}
use Rattle.clock_book.specs.declared.faults.OpenFault.{OpenFault}
use Rattle.clock_book.proofs.OneAnswer.{one-answer}
use Rattle.migration.specs.Moving.{AreAlike, IsNoFrontAt}
use Rattle.migration.specs.Moves.{IsFullAt}
use Rattle.migration.proofs.Alike.{judges-alike}
use Rattle.house_run.specs.Ends.{AreGoodJournals}
use Rattle.house_run.specs.Journals.{AreFromJournals, IsBadJournal, IsFromJournal}
use Rattle.house_run.specs.Moves.{AllOpen, AreGoodTargets, AreOtherTerms, IsFull, IsMove, IsNotPrefix, IsSameListing}
use Rattle.house_run.specs.Needs.{Moving, journal_name}
use Rattle.house_run.specs.Seen.{ShelfSeen, IsAuctionAt, content}
use Rattle.house_run.proofs.GoodJournals.{listed-once, says-told}
use Rattle.house_run.proofs.JournalSteps.{terms-are}
use Rattle.house_run.proofs.MoveSteps.{alike-terms, many, number-at}

-- a front of a legal history is legal under terms that judge alike

all-taken : {A : Type 0} (P : A → Type 0) (n : ℕ) (xs : List A) → AllByRecursion P xs → AllByRecursion P (take n xs)
all-taken P zero xs all = tt
all-taken P (suc n) [] all = tt
all-taken P (suc n) (x ∷ xs) all = (all.0, all-taken P n xs all.1)

takes-alike : (n : ℕ) (c : ClockHistory) (terms : Terms) (reports : List Report) → AreAlike c.terms terms → TakesAll c reports → TakesAll (record c { terms = terms }) (take n reports)
takes-alike zero c terms reports alike takes = tt
takes-alike (suc n) c terms [] alike takes = tt
takes-alike (suc n) c terms (r ∷ reports) alike takes = (judges-alike c terms alike r ∙ takes.0, takes-alike n (with_report c r) terms reports alike takes.1)

legal-front : (c : ClockHistory) (terms : Terms) (clock n : ℕ) (digest : List ℕ) → IsLegal c → AreAlike c.terms terms → c.number ≡ clock → IsLegal (history_of (owner_of terms clock digest) (take n c.reports))
legal-front c terms clock n digest legal alike number =
    let few = legal.number in
    let same = alike.bidders in
    record {
      number = omega arith;
      demands = all-taken (λ (r : Report). IsDemand terms.goods r.demand) n c.reports (subst (λ (goods : List ℕ). AllByRecursion (λ (r : Report). IsDemand goods r.demand) c.reports) (sym alike.goods) legal.demands);
      takes = subst (λ (k : ℕ). TakesAll (record { terms = terms; number = k; reports = [] }) (take n c.reports)) number (takes-alike n (record c { reports = [] }) terms c.reports alike legal.takes);
    }

-- the history that a target has which stands for a front
record HasFront (owner : Owner) (reports : List Report) (file : List ℕ) : Type 0 where
  count : ℕ
  within : count ≤ length reports
  stands : StandsForHistory owner (history_of owner (take count reports)) file

module _ (files : List NamedFile) (old journals : List ℕ) (m : Moving) (good : AreGoodTargets files old journals m) (cs : List ClockHistory) (are : AreFromJournals (Some files) good.before good.first.digest journals (good.before.bidders + 1) cs) where
  has-front : (clock : ℕ) (d : ClockHistory) → clock ≤ good.terms.bidders → HasFront (owner_of good.terms clock good.second.digest) (get_or cs clock d).reports (content files (journal_name m.journals clock))
  has-front clock d few =
      let alike = alike-terms good.first good.second good.before good.terms good.same good.before_are good.terms_are in
      let long = many (good.before.bidders + 1) 0 cs are.numbers in
      let bidders = alike.bidders in
      let below : clock < length cs = omega arith in
      let h = get_or cs clock d in
      let is : IsFromJournal (Some files) good.before good.first.digest journals h = All-from_recursion (IsFromJournal (Some files) good.before good.first.digest journals) cs are.each clock d below in
      let terms : h.terms ≡ good.before = terms-are (owner_of good.before h.number good.first.digest) h is.history in
      let number : h.number ≡ clock = number-at (good.before.bidders + 1) 0 cs clock d are.numbers below ∙ (let e : 0 + clock ≡ clock = omega arith in e) in
      let front = good.fronts cs are clock few d in
      record {
        count = front.0;
        within = front.1;
        stands = record {
          history = record {
            is = refl;
            legal = legal-front h good.terms clock front.0 good.second.digest is.history.legal (subst (λ (t : Terms). AreAlike t good.terms) (sym terms) alike) number;
          };
          read = front.2;
        };
      }

-- what was read is what the files say

module _ (shelf : ShelfSeen) (files : List NamedFile) (told : shelf.files ≡ Some files) where
  said-once : (name : List ℕ) (one other : Listing) → IsAuctionAt shelf name one → auction_of (content files name) ≡ Ok other → one ≡ other
  said-once name one other is says = let e : Ok one ≡ Ok other = sym (says-told shelf files name one told is) ∙ says in cc

  module _ (old journals : List ℕ) (m : Moving) where
    pub other-terms : AreOtherTerms shelf old m.auction → AreGoodTargets files old journals m → ⊥
    other-terms bad good =
        let one = said-once old bad.first good.first bad.old_is good.first_says in
        let two = said-once m.auction bad.second good.second bad.new_is good.second_says in
        bad.other (subst (λ (l : Listing). IsSameListing l bad.second) (sym one) (subst (IsSameListing good.first) (sym two) good.same))

    -- what is moved is what the good files have
    record SameMove (cs : List ClockHistory) (terms : Terms) (digest : List ℕ) (good : AreGoodTargets files old journals m) : Type 0 where
      terms_same : terms ≡ good.terms
      digest_same : digest ≡ good.second.digest
      journals_same : AreFromJournals (Some files) good.before good.first.digest journals (good.before.bidders + 1) cs

    same-move : (cs : List ClockHistory) (terms : Terms) (digest : List ℕ) → IsMove shelf old journals m.auction cs terms digest → (good : AreGoodTargets files old journals m) → SameMove cs terms digest good
    same-move cs terms digest move good =
        let one = said-once old move.first good.first move.old_is good.first_says in
        let two = said-once m.auction move.second good.second move.new_is good.second_says in
        let before = listed-once move.first good.first move.before good.before one move.before_are good.before_are in
        let J : Option (List NamedFile) → Terms → List ℕ → Type 0 = λ o t d. AreFromJournals o t d journals (t.bidders + 1) cs in
        record {
          terms_same = listed-once move.second good.second terms good.terms two move.terms_are good.terms_are;
          digest_same = move.digest_is ∙ ap (λ (l : Listing). l.digest) two;
          journals_same = subst (J (Some files) good.before) (ap (λ (l : Listing). l.digest) one) (subst (λ t. J (Some files) t move.first.digest) before (subst (λ o. J o move.before move.first.digest) told move.from_journals));
        }

    pub no-room : (clock needed : ℕ) → IsFull clock needed shelf old journals m.auction m.journals → AreGoodTargets files old journals m → ⊥
    no-room clock needed bad good =
        let same = same-move bad.histories bad.terms bad.digest bad.move good in
        let d = history_of (owner_of bad.terms clock bad.digest) [] in
        let P : Terms → List ℕ → Type 0 = λ t digest. IsFullAt needed (owner_of t clock digest) (get_or bad.histories clock d).reports in
        let full = subst (P good.terms) same.digest_same (subst (λ t. P t bad.digest) same.terms_same (bad.full d)) in
        good.room bad.histories same.journals_same clock needed d (subst (λ (t : Terms). clock ≤ t.bidders) same.terms_same bad.clock_is) full

    pub not-front : (clock number : ℕ) → IsNotPrefix clock number shelf old journals m.auction m.journals → AreGoodTargets files old journals m → ⊥
    not-front clock number bad good =
        let same = same-move bad.histories bad.terms bad.digest bad.move good in
        let all : AllOpen files m.journals bad.terms bad.digest = subst (λ (o : Option (List NamedFile)). IfTells o (λ fs. AllOpen fs m.journals bad.terms bad.digest)) told bad.all_open in
        let open_is = all clock bad.clock_is in
        let c = open_is.0 in
        let file = content files (journal_name m.journals clock) in
        let rs = (get_or bad.histories clock c).reports in
        let Off : List NamedFile → Type 0 = λ fs. (x d : ClockHistory) → StandsForHistory (owner_of bad.terms clock bad.digest) x (content fs (journal_name m.journals clock)) → IsNoFrontAt number x.reports (get_or bad.histories clock d).reports in
        let offs : Off files = subst (λ (o : Option (List NamedFile)). IfTells o Off) told bad.off in
        let off = offs c c open_is.1 in
        let front = has-front files old journals m good bad.histories same.journals_same clock c (subst (λ (t : Terms). clock ≤ t.bidders) same.terms_same bad.clock_is) in
        let S : Terms → List ℕ → Type 0 = λ t digest. StandsForHistory (owner_of t clock digest) (history_of (owner_of t clock digest) (take front.count rs)) file in
        let stands = subst (S bad.terms) (sym same.digest_same) (subst (λ t. S t good.second.digest) (sym same.terms_same) front.stands) in
        let one : Ok c ≡ Ok (history_of (owner_of bad.terms clock bad.digest) (take front.count rs)) = one-answer (owner_of bad.terms clock bad.digest) file (Ok c) (Ok (history_of (owner_of bad.terms clock bad.digest) (take front.count rs))) open_is.1 stands in
        let is : c ≡ history_of (owner_of bad.terms clock bad.digest) (take front.count rs) = cc in
        let reports : c.reports ≡ take front.count rs = ap (λ (h : ClockHistory). h.reports) is in
        let long = length-take-le front.count rs front.within in
        let within = off.within in
        let first = off.from_one in
        off.differs (ap (λ (l : List Report). slice_get l (number - 1)) reports ∙ taken-get rs front.count (number - 1) (omega (arith, ap length reports)))
      where
        taken-get : {A : Type 0} (xs : List A) (n k : ℕ) → k < n → slice_get (take n xs) k ≡ slice_get xs k
        taken-get xs zero k below = absurd (omega arith)
        taken-get [] (suc n) k below = refl
        taken-get (x ∷ xs) (suc n) zero below = refl
        taken-get (x ∷ xs) (suc n) (suc k) below = taken-get xs n k (omega arith)

    pub bad-target : (clock : ℕ) (fault : OpenFault) (settles : Bool) → IsBadJournal m.auction m.journals None clock fault shelf → AreGoodJournals settles files old journals → AreGoodTargets files old journals m → ⊥
    bad-target clock fault settles bad histories good =
        let file = content files (journal_name m.journals clock) in
        let two = said-once m.auction bad.on.listing good.second bad.on.auction_is good.second_says in
        let terms = listed-once bad.on.listing good.second bad.terms good.terms two bad.on.terms_are good.terms_are in
        let digest = bad.on.digest_is ∙ ap (λ (l : Listing). l.digest) two in
        let said : Ok histories.listing ≡ Ok good.first = sym histories.says ∙ good.first_says in
        let one : histories.listing ≡ good.first = cc in
        let before = listed-once histories.listing good.first histories.terms good.before one histories.terms_are good.before_are in
        let J : Terms → List ℕ → Type 0 = λ t d. AreFromJournals (Some files) t d journals (t.bidders + 1) histories.histories in
        let are = subst (J good.before) (ap (λ (l : Listing). l.digest) one) (subst (λ t. J t histories.listing.digest) before histories.from_journals) in
        let d = history_of (owner_of good.terms clock good.second.digest) [] in
        let front = has-front files old journals m good histories.histories are clock d (subst (λ (t : Terms). clock ≤ t.bidders) terms bad.clock_is) in
        let O : Terms → List ℕ → Type 0 = λ t x. IsOpening (owner_of t clock x) file (Err fault) in
        let refused : O bad.terms bad.digest = subst (λ (o : Option (List NamedFile)). IfTells o (λ fs. IsOpening (owner_of bad.terms clock bad.digest) (content fs (journal_name m.journals clock)) (Err fault))) told bad.first.refused.in_file in
        let owner = owner_of good.terms clock good.second.digest in
        let c = history_of owner (take front.count (get_or histories.histories clock d).reports) in
        let e : Ok c ≡ Err fault = one-answer owner file (Ok c) (Err fault) front.stands (subst (O good.terms) digest (subst (λ t. O t bad.digest) terms refused)) in
        cc
