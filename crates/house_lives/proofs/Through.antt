-- From the first files over all lives to the last.
use Rattle.std.proofs.Common.{◌≡◌, ◌<◌, ◌≤◌, ◌+◌, ◌⊎◌, inl, inr, ℕ, zero, suc, List, [], ◌∷◌, length, map, get_or, Some, None, arith, refl, sym, ◌∙◌, subst}
use Rattle.std.specs.Prelude.{Contains}
use Rattle.std.specs.List.{AllByRecursion, flat_map, range_with_len}
use Rattle.demand_set.specs.declared.reports.Report.{Report}
use Rattle.house_io.specs.Moments.{Leaves, Moments}
use Rattle.house_io.specs.Shelves.{IfTells, IfWasTold, NamedFile, file_of, moments_at}
use Rattle.auction_file.specs.declared.listing.Auction.{Auction}
use Rattle.recovery.specs.Entries.{IsReportOf}
use Rattle.recovery.specs.Journaled.{IsReadAs, Owner, owner_of}
use Rattle.clock.specs.Reports.{ClockHistory}
use Rattle.clock.specs.declared.judging.Offered.{Offered}
use Rattle.clock.specs.declared.judging.Offered.TheVariants as said
use Rattle.clock_book.specs.Opening.{StandsForHistory}
use Rattle.clock_family.specs.Houses.{HousePassOf}
use Rattle.session.specs.Turns.{AreTurns, Turn, bidder_behind, frames_of}
use Rattle.house_serve.specs.Doors.{Visit}
use Rattle.house_serve.specs.Houses.{DoorRun, IsRun, PassAllows, turns_of}
use Rattle.house_run.specs.ClockRuns.{ClockRun, IsJournalRun}
use Rattle.house_io.specs.NetsShown.{DoorShown, LinkShown}
use Rattle.house_run.specs.Journals.{AreFromJournals, IsFromJournal}
use Rattle.house_run.specs.Needs.{journal_name}
use Rattle.house_run.specs.Seen.{content}
use Rattle.house_run.specs.Serving.{AuctionServed}
use Rattle.house_io.proofs.Moments.{leaves_weaker}
use Rattle.house_run.proofs.Framing.{content-now}
use Rattle.house_lives.specs.Kept.{IsKept, KeepsLives, WasThere}
use Rattle.house_lives.specs.Lives.{AreLives, IsAcknowledged, IsLife, IsSent, IsTurnAt, Life}
use Rattle.house_lives.proofs.Members.{In, all-in, contains-from, from-flat, in-from, in-split, split-at, to-flat}
use Rattle.house_lives.proofs.Places.{Failed, HasTurn, IsSentAt, Took}
use Rattle.clock.proofs.OnlyOnce.{only-once}
use Rattle.house_lives.proofs.Demanded.{demand-of}
use Rattle.house_lives.proofs.Standing.{Holds, holds-wider, lead-holds}
use Rattle.house_lives.proofs.ClockLives.{IsAnswered, left-holds, served-holds}
use Rattle.house_lives.proofs.Senders.{bidder-of, visited}
use Rattle.house_lives.proofs.Shown.{shown-was}
use Rattle.house_lives.proofs.RunLives.{CameTo, Served, Unserved, came-to}

-- the turns of sessions at doors

turn-in : (doors : List (DoorRun DoorShown LinkShown)) (earlier : List (Turn HousePassOf)) (turn : Turn HousePassOf) → IsTurnAt doors earlier turn → In turn (flat_map turns_of doors)
turn-in doors earlier turn at =
    let here : In turn at.visit.turns = in-split at.visit.turns earlier at.later turn at.turns_are in
    let there : In turn (turns_of at.door) = to-flat (λ (v : Visit HousePassOf LinkShown). v.turns) at.door.visits at.visit turn (in-from at.door.visits at.visit at.in_visit) here in
    to-flat turns_of doors at.door turn (in-from doors at.door at.at_door) there

pub record IsOfSession (value : Auction) (doors : List (DoorRun DoorShown LinkShown)) (turn : Turn HousePassOf) (r : Report) : Type 0 where
  pub earlier : List (Turn HousePassOf)
  pub at : IsTurnAt doors earlier turn
  pub bidder : bidder_behind value None (frames_of earlier) ≡ Some r.bidder

of-session : (value : Auction) (sessions : ℕ) (doors : List (DoorRun DoorShown LinkShown)) (clock : ℕ) (r : Report) (answer : Offered)
    → AllByRecursion (IsRun (λ (d : DoorShown). d.told) (λ (d : DoorShown). d.faults) (λ (l : LinkShown). l.told) (λ (l : LinkShown). l.faults) value sessions) doors
    → (has : HasTurn clock (flat_map turns_of doors) r answer) → IsOfSession value doors has.turn r
of-session value sessions doors clock r answer runs has =
    let door = from-flat turns_of doors has.turn has.in_list in
    let visit = from-flat (λ (v : Visit HousePassOf LinkShown). v.turns) door.one.visits has.turn door.has in
    let split = split-at visit.one.turns has.turn visit.has in
    let run = all-in (IsRun (λ (d : DoorShown). d.told) (λ (d : DoorShown). d.faults) (λ (l : LinkShown). l.told) (λ (l : LinkShown). l.faults) value sessions) doors door.one runs door.in_list in
    let was = visited value door.one.visits visit.one door.one.before door.one.after run.held visit.in_list in
    let turns = subst (λ (ts : List (Turn HousePassOf)). AreTurns PassAllows value None was.before ts was.is.session.bidder visit.one.now) split.is was.is.session.held in
    record {
      earlier = split.earlier;
      at = record {
        door = door.one;
        at_door = contains-from doors door.one door.in_list;
        visit = visit.one;
        in_visit = contains-from door.one.visits visit.one visit.in_list;
        later = split.later;
        turns_are = split.is;
      };
      bidder = bidder-of value clock r.bidder r.round r.demand answer split.earlier split.later has.turn None was.is.session.bidder was.before visit.one.now has.is turns;
    }

-- one life at one clock

any-of : {A : Type 0} (xs : List A) (k : ℕ) → k < length xs → A
any-of [] k below = absurd (omega (arith, below))
any-of (x ∷ xs) k below = x

module _ (value : Auction) (auction journals : List ℕ) (k : ℕ) (few : k ≤ value.terms.bidders) where
  abbrev owner : Owner
  owner = owner_of value.terms k value.digest

  abbrev at : List NamedFile → Moments
  at files = moments_at files (journal_name journals k)

  module _ (must may : Report → Type 0) (l : Life) (life : IsLife value auction journals l) (leaves : Leaves (Holds owner must may) (at l.before).now) where
    -- by one reading of what was served
    read-as : (clocks : List ClockRun) (doors : List (DoorRun DoorShown LinkShown)) → AuctionServed value journals l.serving l.seen.shelf l.net clocks doors
        → Leaves (Holds owner (λ r. must r ⊎ IsAnswered k (flat_map turns_of doors) r) (λ r. may r ⊎ IsSentAt k (flat_map turns_of doors) r)) (at l.after).now
    read-as clocks doors served =
        let below : k < length clocks = (let e = served.ran.count_is in omega (arith, e, few)) in
        let c = any-of clocks k below in
        let Q : List NamedFile → List NamedFile → Type 0 = λ before after. (n : ℕ) (c : ClockRun) → n < length clocks
        → IsJournalRun (owner_of value.terms n value.digest) (get_or clocks n c) (moments_at before (journal_name journals n)) (moments_at after (journal_name journals n)) in
        let told : IfTells (Some l.after) (λ after. IfWasTold l.seen.shelf.files_before (λ before. Q before after)) =
        subst (λ o. IfTells o (λ after. IfWasTold l.seen.shelf.files_before (λ before. Q before after))) life.told served.ran.journals_are in
        let journals_are : Q l.before l.after = subst (λ o. IfWasTold o (λ before. Q before l.after)) life.told_before told in
        served-holds owner must may (get_or clocks k c) (at l.before) (at l.after) (served.ran.clocks_are k c below) (journals_are k c below) k (flat_map turns_of doors) (served.joins k c below) leaves

    answered : (r : Report) (ack : IsAcknowledged value journals l k r) → IsAnswered k (flat_map turns_of ack.doors) r
    answered r ack = record { turn = ack.turn; in_list = turn-in ack.doors ack.earlier ack.turn ack.at; is = ack.answered }

    sent : (clocks : List ClockRun) (doors : List (DoorRun DoorShown LinkShown)) → AuctionServed value journals l.serving l.seen.shelf l.net clocks doors → (r : Report) → IsSentAt k (flat_map turns_of doors) r → IsSent value journals l k r
    sent clocks doors served r (Took has) =
        let of = of-session value l.serving.sessions doors k r said.Taken served.serving.each has in
        record { clocks = clocks; doors = doors; served = served; earlier = of.earlier; turn = has.turn; at = of.at; bidder = of.bidder; answered = inl has.is }
    sent clocks doors served r (Failed has) =
        let of = of-session value l.serving.sessions doors k r said.DiskFault served.serving.each has in
        record { clocks = clocks; doors = doors; served = served; earlier = of.earlier; turn = has.turn; at = of.at; bidder = of.bidder; answered = inr has.is }

    abbrev base : List ℕ → Type 0
    base = Holds owner must (λ r. may r ⊎ IsSent value journals l k r)

    sent-or : (clocks : List ClockRun) (doors : List (DoorRun DoorShown LinkShown)) → AuctionServed value journals l.serving l.seen.shelf l.net clocks doors → (r : Report) → may r ⊎ IsSentAt k (flat_map turns_of doors) r → may r ⊎ IsSent value journals l k r
    sent-or clocks doors served r (inl old) = inl old
    sent-or clocks doors served r (inr new) = inr (sent clocks doors served r new)

    based-on : CameTo value journals l → Leaves base (at l.after).now
    based-on (Served clocks doors served) =
        leaves_weaker (Holds owner (λ r. must r ⊎ IsAnswered k (flat_map turns_of doors) r) (λ r. may r ⊎ IsSentAt k (flat_map turns_of doors) r)) base (at l.after).now
        (λ file. holds-wider owner (λ r. must r ⊎ IsAnswered k (flat_map turns_of doors) r) (λ r. may r ⊎ IsSentAt k (flat_map turns_of doors) r) must (λ r. may r ⊎ IsSent value journals l k r) file (λ r h. inl h) (sent-or clocks doors served))
        (read-as clocks doors served)
    based-on (Unserved left net) =
        leaves_weaker (Holds owner must may) base (at l.after).now (λ file. holds-wider owner must may must (λ r. may r ⊎ IsSent value journals l k r) file (λ r h. h) (λ r h. inl h))
        (left-holds owner must may (at l.before) (at l.after) (left k few) leaves)

    based : Leaves base (at l.after).now
    based = based-on (came-to value auction journals l life)

    abbrev more : List ℕ → Type 0
    more = Holds owner (λ r. must r ⊎ IsAcknowledged value journals l k r) (λ r. may r ⊎ IsSent value journals l k r)

    -- each reading of what was served says it of the same files
    abbrev Reading : List ℕ → Type 0
    Reading file = (clocks : List ClockRun) (doors : List (DoorRun DoorShown LinkShown)) → AuctionServed value journals l.serving l.seen.shelf l.net clocks doors
        → Holds owner (λ r. must r ⊎ IsAnswered k (flat_map turns_of doors) r) (λ r. may r ⊎ IsSentAt k (flat_map turns_of doors) r) file

    together : (file : List ℕ) → base file → Reading file → more file
    together file is each c stands = record { all = of; only = (is c stands).only }
      where
        of : (r : Report) → must r ⊎ IsAcknowledged value journals l k r → In r c.reports
        of r (inl old) = (is c stands).all r old
        of r (inr ack) = (each ack.clocks ack.doors ack.served c stands).all r (inr (answered r ack))

    pub life-holds : Leaves more (at l.after).now
    life-holds = record {
      read = together (at l.after).now.read based.read (λ clocks doors served. (read-as clocks doors served).read);
      images = λ image is. together image (based.images image is) (λ clocks doors served. (read-as clocks doors served).images image is);
    }

  -- over all lives

  pub record AcknowledgedIn (lives : List Life) (r : Report) : Type 0 where
    pub life : Life
    pub in_list : In life lives
    pub is : IsAcknowledged value journals life k r

  pub record SentIn (lives : List Life) (r : Report) : Type 0 where
    pub life : Life
    pub in_list : In life lives
    pub is : IsSent value journals life k r

  pub through : (lives : List Life) (first last : List NamedFile) → AreLives value auction journals first lives last → (must may : Report → Type 0) → Leaves (Holds owner must may) (at first).now
      → Leaves (Holds owner (λ r. must r ⊎ AcknowledgedIn lives r) (λ r. may r ⊎ SentIn lives r)) (at last).now
  through [] first last same must may leaves =
      subst (λ files. Leaves (Holds owner (λ r. must r ⊎ AcknowledgedIn [] r) (λ r. may r ⊎ SentIn [] r)) (at files).now) (sym same)
      (leaves_weaker (Holds owner must may) (Holds owner (λ r. must r ⊎ AcknowledgedIn [] r) (λ r. may r ⊎ SentIn [] r)) (at first).now
      (λ file. holds-wider owner must may (λ r. must r ⊎ AcknowledgedIn [] r) (λ r. may r ⊎ SentIn [] r) file none (λ r h. inl h)) leaves)
    where
      none : (r : Report) → must r ⊎ AcknowledgedIn [] r → must r
      none r (inl old) = old
      none r (inr in_none) = absurd in_none.in_list
  through (l ∷ lives) first last are must may leaves =
      let here = subst (λ files. Leaves (Holds owner must may) (at files).now) (sym are.0) leaves in
      let one = life-holds must may l are.1 here in
      let led = lead-holds owner (λ r. must r ⊎ IsAcknowledged value journals l k r) (λ r. may r ⊎ IsSent value journals l k r) (at l.after) (at l.next) (are.2 k few) one in
      let rest = through lives l.next last are.3 (λ r. must r ⊎ IsAcknowledged value journals l k r) (λ r. may r ⊎ IsSent value journals l k r) led in
      leaves_weaker (Holds owner (λ r. (must r ⊎ IsAcknowledged value journals l k r) ⊎ AcknowledgedIn lives r) (λ r. (may r ⊎ IsSent value journals l k r) ⊎ SentIn lives r))
      (Holds owner (λ r. must r ⊎ AcknowledgedIn (l ∷ lives) r) (λ r. may r ⊎ SentIn (l ∷ lives) r)) (at last).now
      (λ file. holds-wider owner (λ r. (must r ⊎ IsAcknowledged value journals l k r) ⊎ AcknowledgedIn lives r) (λ r. (may r ⊎ IsSent value journals l k r) ⊎ SentIn lives r)
      (λ r. must r ⊎ AcknowledgedIn (l ∷ lives) r) (λ r. may r ⊎ SentIn (l ∷ lives) r) file apart joined) rest
    where
      in-lives : (r : Report) → (a : AcknowledgedIn (l ∷ lives) r) → (l ≡ a.life) ⊎ In a.life lives → IsAcknowledged value journals l k r ⊎ AcknowledgedIn lives r
      in-lives r a (inl e) = inl (subst (λ (m : Life). IsAcknowledged value journals m k r) (sym e) a.is)
      in-lives r a (inr h) = inr (record { life = a.life; in_list = h; is = a.is })

      apart : (r : Report) → must r ⊎ AcknowledgedIn (l ∷ lives) r → (must r ⊎ IsAcknowledged value journals l k r) ⊎ AcknowledgedIn lives r
      apart r (inl old) = inl (inl old)
      apart r (inr a) = elim (in-lives r a a.in_list) [ inl now ↦ inl (inr now) | inr later ↦ inr later ]

      joined : (r : Report) → (may r ⊎ IsSent value journals l k r) ⊎ SentIn lives r → may r ⊎ SentIn (l ∷ lives) r
      joined r (inl (inl old)) = inl old
      joined r (inl (inr now)) = inr (record { life = l; in_list = inl refl; is = now })
      joined r (inr later) = inr (record { life = later.life; in_list = inr later.in_list; is = later.is })

  pub at-first : (first : List NamedFile) → Leaves (Holds owner (λ r. ⊥) (WasThere value journals first k)) (at first).now
  at-first first = record {
    read = λ c stands. record { all = λ r h. absurd h; only = λ r h. record { file = (at first).now.read; is_left = inl refl; history = c; stands = stands; has = contains-from c.reports r h } };
    images = λ image is c stands. record { all = λ r h. absurd h; only = λ r h. record { file = image; is_left = inr is; history = c; stands = stands; has = contains-from c.reports r h } };
  }

  -- each of the lives is one
  pub life-of : (lives : List Life) (first last : List NamedFile) (l : Life) → AreLives value auction journals first lives last → In l lives → IsLife value auction journals l
  life-of [] first last l are at = absurd at
  life-of (m ∷ lives) first last l are (inl e) = subst (IsLife value auction journals) e are.1
  life-of (m ∷ lives) first last l are (inr at) = life-of lives m.next last l are.3 at

  -- each report of a history that a file stands for is one that an entry may hold
  pub entry-of : (c : ClockHistory) {file : List ℕ} → StandsForHistory owner c file → (r : Report) → In r c.reports → IsReportOf value.terms r
  entry-of c {file} stands r at = of stands.read
    where
      of : IsReadAs owner c.reports file → IsReportOf value.terms r
      of (inl (unformed, none)) = absurd (subst (In r) none at)
      of (inr is) = all-in (IsReportOf value.terms) c.reports r is.are at

  pub keeps-lives : (first : List NamedFile) (lives : List Life) (last : List NamedFile) (c : ClockHistory) → AreLives value auction journals first lives last
      → StandsForHistory owner c (content last (journal_name journals k)) → KeepsLives value journals first lives k c
  keeps-lives first lives last c are stands =
      let all = through lives first last are (λ r. ⊥) (WasThere value journals first k) (at-first first) in
      let read = content-now (file_of last (journal_name journals k)) in
      let between = all.read c (subst (StandsForHistory owner c) read stands) in
      let legal = stands.history.legal in
      record {
        kept = λ l r at ack. let h = between.all r (inr (record { life = l; in_list = in-from lives l at; is = ack })) in (contains-from c.reports r h, demand-of c legal r h);
        shown = λ l r at over.
            let was = shown-was value auction journals k r l (life-of lives first last l are (in-from lives l at)) over in
            let h = between.all was.report (inr (record { life = l; in_list = in-from lives l at; is = was.is })) in
            let same : was.report ≡ r = was.same (entry-of c stands was.report h) in
            subst (λ (q : Report). IsKept c q) same (contains-from c.reports was.report h, demand-of c legal was.report h);
        sent = λ r has. of r (between.only r (in-from c.reports r has));
        once = λ i j r s at there e f. only-once c i j r s legal at there f e;
      }
    where
      of : (r : Report) → WasThere value journals first k r ⊎ SentIn lives r → WasThere value journals first k r ⊎ ((l : Life) × Contains lives l × IsSent value journals l k r)
      of r (inl there) = inl there
      of r (inr sent) = inr (sent.life, contains-from lives sent.life sent.in_list, sent.is)

-- the history of a clock, at its place

pub record IsAtPlace (P : ClockHistory → Type 0) (clock : ℕ) (c : ClockHistory) : Type 0 where
  pub number : c.number ≡ clock
  pub holds : P c

pub at-place : (n a k : ℕ) (P : ClockHistory → Type 0) (cs : List ClockHistory) (c : ClockHistory) → map (λ (d : ClockHistory). d.number) cs ≡ range_with_len a n → AllByRecursion P cs → k < n → IsAtPlace P (a + k) (get_or cs k c)
at-place zero a k P cs c are all below = absurd (omega (arith, below))
at-place (suc n) a k P [] c are all below = absurd (let no : ⊥ = cc in no)
at-place (suc n) a zero P (d ∷ cs) c are all below = let here : d.number ≡ a = cc in record { number = here ∙ (let e : a ≡ a + 0 = omega arith in e); holds = all.0 }
at-place (suc n) a (suc k) P (d ∷ cs) c are all below =
    let rest : map (λ (d : ClockHistory). d.number) cs ≡ range_with_len (a + 1) n = cc in
    let p = at-place n (a + 1) k P cs c rest all.1 (omega (arith, below)) in
    record { number = p.number ∙ (let e : a + 1 + k ≡ a + suc k = omega arith in e); holds = p.holds }

pub lives-law : (value : Auction) (auction journals : List ℕ) (first : List NamedFile) (lives : List Life) (last : List NamedFile) (histories : List ClockHistory)
    → AreLives value auction journals first lives last → AreFromJournals (Some last) value.terms value.digest journals (value.terms.bidders + 1) histories
    → (k : ℕ) (c : ClockHistory) → k ≤ value.terms.bidders → KeepsLives value journals first lives k (get_or histories k c)
lives-law value auction journals first lives last histories are from k c few =
    let here = at-place (value.terms.bidders + 1) 0 k (IsFromJournal (Some last) value.terms value.digest journals) histories c from.numbers from.each (omega (arith, few)) in
    let number : (get_or histories k c).number ≡ k = here.number ∙ (let e : 0 + k ≡ k = omega arith in e) in
    let P : ℕ → Type 0 = λ n. StandsForHistory (owner_of value.terms n value.digest) (get_or histories k c) (content last (journal_name journals n)) in
    keeps-lives value auction journals k few first lives last (get_or histories k c) are (subst P number here.holds.in_file)
