-- Where nothing outside failed and the files are good, only two answers are left.
use Rattle.std.proofs.Common.{◌≡◌, ◌<◌, ◌≤◌, inl, inr, ℕ, ◌-◌, ◌^◌, List, [], length, Option, Some, None, Ok, Err, refl, sym, ◌∙◌, subst, ap, arith}
use Rattle.std.specs.Prelude.{IfSome}
use Rattle.house_io.specs.Faults.{Rose}
use Rattle.house_io.specs.Shelves.{NamedFile, IfTells}
use Rattle.auction_file.specs.AuctionFile.{auction_of}
use Rattle.auction_file.specs.declared.faults.AuctionFault.{AuctionFault}
use Rattle.house_run.specs.Causes.{IsBadAuction, IsBadLog, JournalFailed, MayEnd, MayReadValues}
use Rattle.house_run.specs.Commands.{needs_of}
use Rattle.command_line.specs.Commands.{Command, Spells}
use Rattle.settlement.specs.declared.outcome.Settlement.{Settlement}
use Rattle.settlement.specs.declared.outcome.Settlement.TheVariants as settlement
use Rattle.clock_book.specs.declared.faults.OpenFault.{OpenFault}
use Rattle.house_run.specs.Journals.{IsBadJournal}
use Rattle.house_run.specs.Outcomes.{Settles, SettlesAs}
use Rattle.house_run.specs.Ends.{AreGood, AreGoodJournals, AreGoodValues, CanStart, HasBidder, IsJournalIn, MayOpen, CommandEnds, IsDoneOrNoMemory, IsGoodAuction, IsGoodLog, NothingFailed, RunEnds, Wrote, WroteLine, as_seen}
use Rattle.report_log.specs.Logs.{IsFaultyAt, log_limit}
use Rattle.house_run.specs.MoveEnds.{EndsMoving, HasMove, MayReadSecond}
use Rattle.house_run.specs.Moves.{AreGoodTargets, AreOtherTerms, IsBadTarget, IsFull, IsNotPrefix}
use Rattle.house_run.specs.Needs.{Has, Log, Moving, Needs, journal_name}
use Rattle.house_run.specs.NetEnds.{Ends, EndsOnNet}
use Rattle.house_run.specs.Nets.{NetSeen}
use Rattle.house_run.specs.Seen.{Outside, ShelfSeen, SinkSeen, IsTooLong, auction_limit, content, values_limit}
use Rattle.house_run.specs.declared.ends.Ended.{Ended}
use Rattle.house_run.specs.declared.ends.Ended.TheVariants as how
use Rattle.house_run.specs.declared.ends.File.TheVariants as which
use Rattle.house_run.proofs.Framing.{has}
use Rattle.house_run.proofs.GoodJournals.{IsOther, no-other, not-bad, other-halted, other-no-award, other-open, read-told, says-told}
use Rattle.house_run.specs.Markets.{IsBadValues, IsNoBidder, IsOtherCount, StartsOutside}
use Rattle.house_run.proofs.GoodMarkets.{good-values, not-without}
use Rattle.house_run.proofs.GoodStarts.{none-outside, right-count, some-bidder}
use Rattle.house_run.proofs.GoodTargets.{bad-target, no-room, not-front, other-terms}
use Rattle.report_log.proofs.LogBytes.{no-fault}
use Rattle.command_line.proofs.Once.{spelled-once}

still : (before now : ℕ) → now ≡ before → before < 2 ^ 64 - 1 → Rose before now → ⊥
still before now e room rose = omega arith

-- what is needed has both
record Both {A : Type 0} (P Q : A → Type 0) : Type 0 where
  pub value : A
  pub first : P value
  pub second : Q value

both-of : {A : Type 0} (o : Option A) (P Q : A → Type 0) → Has o P → IfSome o Q → Both P Q
both-of None P Q p q = absurd p
both-of (Some value) P Q p q = record { value = value; first = p; second = q }

-- the same of two things that are needed
record BothOfTwo {A B : Type 0} (P Q : A → B → Type 0) : Type 0 where
  pub one : A
  pub other : B
  pub first : P one other
  pub second : Q one other

both-of-two : {A B : Type 0} (o : Option A) (u : Option B) (P Q : A → B → Type 0) → Has o (λ a. Has u (λ b. P a b)) → IfSome o (λ a. IfSome u (λ b. Q a b)) → BothOfTwo P Q
both-of-two None u P Q p q = absurd p
both-of-two (Some a) None P Q p q = absurd p
both-of-two (Some a) (Some b) P Q p q = record { one = a; other = b; first = p; second = q }

no-failure : (needs : Needs) (files : List NamedFile) (seen : Outside) (net : NetSeen) (sink : SinkSeen) (name : List ℕ) → NothingFailed needs files seen net sink → MayOpen needs files name → Rose (seen.shelf.faults_before name) (seen.shelf.faults name) → ⊥
no-failure needs files seen net sink name quiet may rose = still (seen.shelf.faults_before name) (seen.shelf.faults name) (quiet.shelf_same name may) (quiet.shelf_room name may) rose

not-long : (shelf : ShelfSeen) (files : List NamedFile) (name : List ℕ) (limit : ℕ) → shelf.files ≡ Some files → IsTooLong shelf name limit → length (content files name) ≤ limit → ⊥
not-long shelf files name limit told long short =
    let P : Option (List NamedFile) → Type 0 = λ o. IfTells o (λ fs. limit < length (content fs name)) in
    let more : limit < length (content files name) = subst P told long in
    omega arith

good-log : (log : Log) (place : ℕ) (shelf : ShelfSeen) (files : List NamedFile) → shelf.files ≡ Some files → IsBadLog log place shelf → IsGoodLog log.terms (content files log.name) → ⊥
good-log log place shelf files told bad good =
    let P : List ℕ → Type 0 = λ bytes. IsFaultyAt log.terms bytes place in
    no-fault log.terms good.history (content files log.name) place good.whole (subst P (read-told shelf files log.name log_limit bad.read bad.is_read told) bad.faulty)

good-auction : (auction : List ℕ) (fault : AuctionFault) (shelf : ShelfSeen) (files : List NamedFile) → shelf.files ≡ Some files → IsBadAuction auction fault shelf → IsGoodAuction (content files auction) → ⊥
good-auction auction fault shelf files told bad good =
    let e : Ok good.listing ≡ Err fault = sym good.read ∙ ap auction_of (sym (read-told shelf files auction auction_limit bad.read bad.is_read told)) ∙ bad.says in cc

record SomeJournal (auction journals : Option (List ℕ)) (files : List NamedFile) (shelf : ShelfSeen) : Type 0 where
  pub name : List ℕ
  pub journal : Has auction (λ a. Has journals (λ j. IsJournalIn files a j name))
  pub failed : Rose (shelf.faults_before name) (shelf.faults name)

journal-failed : (auction journals : Option (List ℕ)) (bidder : Option ℕ) (clock : ℕ) (files : List NamedFile) (shelf : ShelfSeen) → shelf.files ≡ Some files → Has auction (λ a. Has journals (λ j. JournalFailed a j bidder clock shelf)) → SomeJournal auction journals files shelf
journal-failed None journals bidder clock files shelf told may = absurd may
journal-failed (Some auction) None bidder clock files shelf told may = absurd may
journal-failed (Some auction) (Some journals) bidder clock files shelf told may = record {
  name = journal_name journals clock;
  journal = record { listing = may.listing; says = says-told shelf files auction may.listing told may.auction_is; clock = clock; clock_is = may.clock_is; name_is = refl };
  failed = may.failed;
}

-- a command settles nothing but closed clocks
not-other : (s : Settlement) (needs : Needs) (shelf : ShelfSeen) (files : List NamedFile) → IsOther s → shelf.files ≡ Some files → Settles needs shelf s → AreGood needs files → ⊥
not-other s needs shelf files other told may good =
    let both = both-of-two needs.auction needs.journals (λ a j. SettlesAs shelf a j s) (λ a j. AreGoodJournals needs.settles files a j) may.1 good.journals in
    no-other s needs.settles shelf files both.one both.other other may.0 told both.first both.second

-- the two ends that are left
ended-well : (needs : Needs) (seen : Outside) (net : NetSeen) (sink : SinkSeen) (files : List NamedFile) (end : Ended) → MayEnd needs seen end → seen.shelf.files ≡ Some files → AreGood needs files
    → NothingFailed needs files seen net sink → IsDoneOrNoMemory end
ended-well needs seen net sink files how.NoMemory may told good quiet = inr refl
ended-well needs seen net sink files how.ReadFault may told good quiet = absurd (no-failure needs files seen net sink may.name quiet (inl may.source) may.failed)
ended-well needs seen net sink files (how.DiskFault clock) may told good quiet = absurd (
    let disk = journal-failed needs.auction needs.journals needs.bidder clock files seen.shelf told may in
    no-failure needs files seen net sink disk.name quiet (inr (inl disk.journal)) disk.failed)
ended-well needs seen net sink files (how.BadJournal clock fault) may told good quiet = absurd (
    let both = both-of-two needs.auction needs.journals (λ a j. IsBadJournal a j needs.bidder clock fault seen.shelf) (λ a j. AreGoodJournals needs.settles files a j) may good.journals in
    not-bad needs.settles seen.shelf files both.one both.other needs.bidder clock fault told both.first both.second)
ended-well needs seen net sink files (how.Open clock round missing) may told good quiet = absurd (not-other (settlement.Open clock round missing) needs seen.shelf files (other-open clock round missing) told may good)
ended-well needs seen net sink files (how.NoAward clock) may told good quiet = absurd (not-other (settlement.NoAward clock) needs seen.shelf files (other-no-award clock) told may good)
ended-well needs seen net sink files (how.Halted clock units) may told good quiet = absurd (not-other (settlement.Halted clock units) needs seen.shelf files (other-halted clock units) told may good)
ended-well needs seen net sink files (how.BadAuction fault) may told good quiet = absurd (
    let both = both-of needs.auction _ _ may good.auction in
    good-auction both.value fault seen.shelf files told both.first both.second)
ended-well needs seen net sink files (how.TooLong which.Auction) may told good quiet = absurd (
    let both = both-of needs.auction _ _ may good.auction in
    not-long seen.shelf files both.value auction_limit told both.first both.second.short)
ended-well needs seen net sink files (how.TooLong which.Log) may told good quiet = absurd (
    let both = both-of needs.log _ _ may good.log in
    not-long seen.shelf files both.value.name log_limit told both.first both.second.short)
ended-well needs seen net sink files (how.TooLong which.Values) may told good quiet = absurd (
    let both = both-of-two needs.auction needs.values (λ a v. MayReadValues needs seen.shelf a × IsTooLong seen.shelf v values_limit) (λ a v. AreGoodValues (needs.bid ≡ None) files a v) may good.values in
    not-long seen.shelf files both.other values_limit told both.first.1 both.second.short)
ended-well needs seen net sink files (how.BadValues fault) may told good quiet = absurd (
    let both = both-of-two needs.auction needs.values (λ a v. MayReadValues needs seen.shelf a × IsBadValues seen.shelf a v fault) (λ a v. AreGoodValues (needs.bid ≡ None) files a v) may good.values in
    good-values (needs.bid ≡ None) seen.shelf files both.one both.other fault told both.first.1 both.second)
ended-well needs seen net sink files (how.NotSubstitutes bidder x y units) may told good quiet = absurd (
    not-without needs seen.shelf files bidder x y units told may.0 may.1 good)
ended-well needs seen net sink files (how.BadLog place) may told good quiet = absurd (
    let both = both-of needs.log _ _ may good.log in
    good-log both.value place seen.shelf files told both.first both.second)
ended-well needs seen net sink files (how.NoBidder bidder) may told good quiet = absurd (
    let both = both-of-two needs.auction needs.bidder (λ a b. IsNoBidder seen.shelf a bidder b) (λ a b. HasBidder files a b) may good.bidder in
    some-bidder seen.shelf files both.one bidder both.other told both.first both.second)
ended-well needs seen net sink files (how.StartCount found) may told good quiet = absurd (
    let both = both-of-two needs.auction needs.start (λ a s. IsOtherCount seen.shelf a found s) (λ a s. CanStart files a s) may good.start in
    right-count seen.shelf files both.one found both.other told both.first both.second)
ended-well needs seen net sink files (how.StartRange units value) may told good quiet = absurd (
    let both = both-of-two needs.auction needs.start (λ a s. StartsOutside seen.shelf a units value s) (λ a s. CanStart files a s) may good.start in
    none-outside seen.shelf files both.one units value both.other told both.first both.second)
ended-well needs seen net sink files end may told good quiet = absurd may

-- nor does the net end it
net-well : (needs : Needs) (seen : Outside) (net : NetSeen) (sink : SinkSeen) (files : List NamedFile) (end : Ended) → EndsOnNet needs seen.shelf net end → NothingFailed needs files seen net sink → ⊥
net-well needs seen net sink files how.NetFault ends quiet = still net.faults_before net.faults quiet.net_same quiet.net_room ends.1
net-well needs seen net sink files (how.Refused code detail value) ends quiet = quiet.net_well (how.Refused code detail value) (λ e. (let no : ⊥ = cc in no)) ends
net-well needs seen net sink files (how.LooksSpent clock) ends quiet = quiet.net_well (how.LooksSpent clock) (λ e. (let no : ⊥ = cc in no)) ends
net-well needs seen net sink files how.BadReply ends quiet = quiet.net_well how.BadReply (λ e. (let no : ⊥ = cc in no)) ends
net-well needs seen net sink files end ends quiet = absurd ends

-- what is needed for moving journals has both
record BothOfMove (needs : Needs) (P Q : List ℕ → List ℕ → Moving → Type 0) : Type 0 where
  pub auction : List ℕ
  pub journals : List ℕ
  pub moving : Moving
  pub auction_is : needs.auction ≡ Some auction
  pub journals_is : needs.journals ≡ Some journals
  pub moving_is : needs.moving ≡ Some moving
  pub first : P auction journals moving
  pub second : Q auction journals moving

both-of-move : (needs : Needs) (P Q : List ℕ → List ℕ → Moving → Type 0) → HasMove needs P → IfSome needs.auction (λ a. IfSome needs.journals (λ j. IfSome needs.moving (Q a j))) → BothOfMove needs P Q
both-of-move needs P Q p q = of needs.auction needs.journals needs.moving refl refl refl p q
  where
    of : (auction journals : Option (List ℕ)) (moving : Option Moving) → needs.auction ≡ auction → needs.journals ≡ journals → needs.moving ≡ moving → Has auction (λ a. Has journals (λ j. Has moving (P a j)))
        → IfSome auction (λ a. IfSome journals (λ j. IfSome moving (Q a j))) → BothOfMove needs P Q
    of None journals moving a j m p q = absurd p
    of (Some auction) None moving a j m p q = absurd p
    of (Some auction) (Some journals) None a j m p q = absurd p
    of (Some auction) (Some journals) (Some moving) a j m p q = record { auction = auction; journals = journals; moving = moving; auction_is = a; journals_is = j; moving_is = m; first = p; second = q }

-- nor does moving journals
target-journal : (old journals new target : List ℕ) (shelf : ShelfSeen) (clock : ℕ) (fault : OpenFault) → IsBadTarget clock fault shelf old journals new target → IsBadJournal new target None clock fault shelf
target-journal old journals new target shelf clock fault bad = record {
  terms = bad.terms;
  digest = bad.digest;
  on = record { listing = bad.move.second; auction_is = bad.move.new_is; terms_are = bad.move.terms_are; digest_is = bad.move.digest_is };
  has_bidder = tt;
  clock_is = bad.clock_is;
  first = bad.first;
}

moves-well : (needs : Needs) (seen : Outside) (net : NetSeen) (sink : SinkSeen) (files : List NamedFile) (end : Ended) → EndsMoving needs seen.shelf end → seen.shelf.files ≡ Some files → AreGood needs files → NothingFailed needs files seen net sink → ⊥
moves-well needs seen net sink files (how.BadAuction fault) ends told good quiet =
    let both = both-of-move needs (λ a j m. MayReadSecond seen.shelf a × IsBadAuction m.auction fault seen.shelf) (AreGoodTargets files) ends good.targets in
    good-auction both.moving.auction fault seen.shelf files told both.first.1 (record { short = both.second.short; listing = both.second.second; read = both.second.second_says })
moves-well needs seen net sink files (how.TooLong which.Auction) ends told good quiet =
    let both = both-of-move needs (λ a j m. MayReadSecond seen.shelf a × IsTooLong seen.shelf m.auction auction_limit) (AreGoodTargets files) ends good.targets in
    not-long seen.shelf files both.moving.auction auction_limit told both.first.1 both.second.short
moves-well needs seen net sink files (how.DiskFault clock) ends told good quiet =
    let both = both-of-move needs (λ a j m. JournalFailed m.auction m.journals None clock seen.shelf) (AreGoodTargets files) ends good.targets in
    let m = both.moving in
    let name = journal_name m.journals clock in
    let journal : IsJournalIn files m.auction m.journals name =
    record { listing = both.first.listing; says = says-told seen.shelf files m.auction both.first.listing told both.first.auction_is; clock = clock; clock_is = both.first.clock_is; name_is = refl } in
    no-failure needs files seen net sink name quiet (inr (inr (has needs.moving m (λ x. IsJournalIn files x.auction x.journals name) both.moving_is journal))) both.first.failed
moves-well needs seen net sink files how.OtherTerms ends told good quiet =
    let both = both-of-move needs (λ a j m. AreOtherTerms seen.shelf a m.auction) (AreGoodTargets files) ends good.targets in
    other-terms seen.shelf files told both.auction both.journals both.moving both.first both.second
moves-well needs seen net sink files (how.NotPrefix clock number) ends told good quiet =
    let both = both-of-move needs (λ a j m. IsNotPrefix clock number seen.shelf a j m.auction m.journals) (AreGoodTargets files) ends good.targets in
    not-front seen.shelf files told both.auction both.journals both.moving clock number both.first both.second
moves-well needs seen net sink files (how.TargetFull clock needed) ends told good quiet =
    let both = both-of-move needs (λ a j m. IsFull clock needed seen.shelf a j m.auction m.journals) (AreGoodTargets files) ends good.targets in
    no-room seen.shelf files told both.auction both.journals both.moving clock needed both.first both.second
moves-well needs seen net sink files (how.BadTarget clock fault) ends told good quiet =
    let both = both-of-move needs (λ a j m. IsBadTarget clock fault seen.shelf a j m.auction m.journals) (AreGoodTargets files) ends good.targets in
    let J : Option (List ℕ) → Option (List ℕ) → Type 0 = λ o u. IfSome o (λ a. IfSome u (λ j. AreGoodJournals needs.settles files a j)) in
    let journals : AreGoodJournals needs.settles files both.auction both.journals = subst (J (Some both.auction)) both.journals_is (subst (λ o. J o needs.journals) both.auction_is good.journals) in
    bad-target seen.shelf files told both.auction both.journals both.moving clock fault needs.settles (target-journal both.auction both.journals both.moving.auction both.moving.journals seen.shelf clock fault both.first) journals both.second
moves-well needs seen net sink files end ends told good quiet = ends

any-end : (needs : Needs) (seen : Outside) (net : NetSeen) (sink : SinkSeen) (files : List NamedFile) (end : Ended) → Ends needs seen net end → seen.shelf.files ≡ Some files → AreGood needs files
    → NothingFailed needs files seen net sink → IsDoneOrNoMemory end
any-end needs seen net sink files end (inl may) told good quiet = ended-well needs seen net sink files end may told good quiet
any-end needs seen net sink files end (inr (inl ends)) told good quiet = absurd (net-well needs seen net sink files end ends quiet)
any-end needs seen net sink files end (inr (inr ends)) told good quiet = absurd (moves-well needs seen net sink files end ends told good quiet)

-- what was written whole answers as it should, and nothing else was written where the sink did not fail
delivered : (sink : SinkSeen) (end answer : Ended) (text : List ℕ) → Wrote sink end text answer → IsDoneOrNoMemory end → sink.faults ≡ sink.faults_before → sink.faults_before < 2 ^ 64 - 1 → IsDoneOrNoMemory answer
delivered sink end answer text (inl whole) good same room = subst IsDoneOrNoMemory (sym whole.answer_is) good
delivered sink end answer text (inr front) good same room = absurd (still sink.faults_before sink.faults same room front.cause)

line-delivered : (sink : SinkSeen) (end answer : Ended) → WroteLine sink end answer → IsDoneOrNoMemory end → sink.faults ≡ sink.faults_before → sink.faults_before < 2 ^ 64 - 1 → IsDoneOrNoMemory answer
line-delivered sink end answer (inl wrote) good same room = delivered sink end answer _ wrote good same room
line-delivered sink end answer (inr none) good same room = delivered sink how.NoMemory answer [] none.1 (inr refl) same room

command-done : (command : Command) (seen : Outside) (net : NetSeen) (sink : SinkSeen) (files : List NamedFile) (answer : Ended) → CommandEnds command seen net sink answer → (as_seen command seen).shelf.files ≡ Some files
    → AreGood (needs_of command) files → NothingFailed (needs_of command) files (as_seen command seen) net sink → IsDoneOrNoMemory answer
command-done command seen net sink files answer (inl done) told good quiet = delivered sink how.Done answer done.text done.wrote (inl refl) quiet.sink_same quiet.sink_room
command-done command seen net sink files answer (inr other) told good quiet =
    line-delivered sink other.end answer other.wrote (any-end (needs_of command) (as_seen command seen) net sink files other.end other.cause told good quiet) quiet.sink_same quiet.sink_room

pub completes : (words : List (List ℕ)) (seen : Outside) (net : NetSeen) (sink : SinkSeen) (answer : Ended) → RunEnds words seen net sink answer → (command : Command) (files : List NamedFile) → Spells command words
    → (as_seen command seen).shelf.files ≡ Some files → AreGood (needs_of command) files → NothingFailed (needs_of command) files (as_seen command seen) net sink → IsDoneOrNoMemory answer
completes words seen net sink answer (inl usage) command files is told good quiet = absurd (usage.none command is)
completes words seen net sink answer (inr (inl some)) command files is told good quiet =
    let P : Command → Type 0 = λ c. CommandEnds c seen net sink answer in
    command-done command seen net sink files answer (subst P (spelled-once some.command command words some.spelled is) some.ends) told good quiet
completes words seen net sink answer (inr (inr none)) command files is told good quiet = delivered sink how.NoMemory answer [] none.wrote (inr refl) quiet.sink_same quiet.sink_room
